-- The account of a trail: what its windows count, and the frames in which it scans.
use Rattle.std.specs.Prelude.{ℕ, List, Bool, false, if◌then◌else◌, Some, None, filter_map, sum_by, count_by, length}
use Rattle.std.specs.declared.option.Option.{Option}
use Rattle.std.specs.List.{range_with_len}
use Rattle.std.specs.Option.{option_map}
use Rattle.lwb_base.specs.Profile.{Numbers}
use Rattle.glossy_relay.specs.Relaying.{counter_of}
use Rattle.scenario_text.specs.ScenarioParts.{ScenarioParts}
use Rattle.bus_rules.specs.declared.tune.Tune.{Tune}
use Rattle.bus_rules.specs.Tuning.{is_scan}
use Rattle.bus_rules.specs.Charges.{last_if_all_sent, charge as charge_of}
use Rattle.air_log.specs.WindowLogs.{WindowLog, Happening, HeardAt, SentAt}
use Rattle.air_log.specs.Devices.{Device}
use Rattle.air_log.specs.Trails.{Reception, tune_at}

-- the packet of a transmission that ended in a window
abbrev pub sent_in : Happening → Option (List ℕ)
sent_in (HeardAt t packet) = None
sent_in (SentAt t packet) = Some packet

-- the packets that were sent in a window
abbrev pub sent_packets : WindowLog → List (List ℕ)
sent_packets w = filter_map sent_in w.happenings

-- the step and the length of a packet, by which its transmission is counted
abbrev pub step_and_length : List ℕ → ℕ × ℕ
step_and_length packet = (counter_of packet, length packet)

-- what a window counts by the last packet, if it was sent as often as it may
abbrev pub charge_by_last : Numbers → Option (List ℕ) → ℕ
charge_by_last p last = charge_of p (option_map step_and_length last)

-- windows count that opened by their alarm
abbrev pub charge_of_window : ScenarioParts → WindowLog → ℕ
charge_of_window s w = if w.by_alarm then charge_by_last s.profile (last_if_all_sent s.sends (sent_packets w)) else 0

abbrev pub windows_charge : ScenarioParts → Device → ℕ
windows_charge s d = sum_by (charge_of_window s) d.made.windows

-- a node that is off does not scan
abbrev pub scans_with : Option Tune → Bool
scans_with None = false
scans_with (Some tune) = is_scan tune

-- the number of frames at whose start it scans, after their script lines
abbrev pub scanned_frames : ScenarioParts → ℕ → (ℕ → ℕ) → List Reception → ℕ
scanned_frames s v clock hs = count_by (λ f. scans_with (tune_at s v clock hs f)) (range_with_len 0 s.frames)
