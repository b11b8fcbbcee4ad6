-- In the worked rounds of one packet a window of node 2 opens late: its alarm is due again at the tick of the one before.
use Rattle.std.proofs.Common.{◌≡◌, ℕ, max, List, Some, refl, sym, ◌∙◌, ap, subst}
use Rattle.lwb_base.specs.Messages.{least_passing}
use Rattle.schedule_codec.specs.Packing.{digits, packed_number}
use Rattle.schedule_codec.specs.Reading.{schedule_of, asks_in}
use Rattle.bus_rules.specs.Streams.{schedule_heard}
use Rattle.std.proofs.Math.Path.{fun_ext}
use Rattle.tick_clock.specs.Clocks.{due}
use Rattle.air_log.specs.WindowLogs.{WindowLog}
use Rattle.air_log.specs.Devices.{Device}
use Rattle.scenario_text.specs.Setups.{setup_of}
use Rattle.air_log.specs.Trails.{one_alarm}
use Rattle.law_trails.specs.DueDevices.{IsDeviceWithWindows}
use Rattle.law_trails.specs.OnePacket.{one_packet, drifting, data_with}
use Rattle.law_trails.specs.OnePacketMember.{member_36, member_late, member_37}
use Rattle.law_trails.proofs.DriftingClocks.{slow, slow_due, slow_dues, member_clock}

abbrev alarm_by : (ℕ → ℕ) → Device → Device
alarm_by clock d = one_alarm clock (setup_of one_packet 2) 2370089470 d

-- slot 0 closes: the next opening, at 2370017278 by its new zero, is past
abbrev closed_by : (ℕ → ℕ) → List WindowLog → Device
closed_by E w = record (member_late w) { alarm = Some (max (E 2370017278) 2370089470) }

closes : (w : List WindowLog) → alarm_by slow (member_36 w) ≡ closed_by (due slow) (alarm_by slow (member_36 w)).made.windows
unfolding least_passing digits packed_number schedule_of asks_in schedule_heard
closes w = refl

-- slot 1 opens
abbrev opened_by : (ℕ → ℕ) → List WindowLog → Device
opened_by E w = record (member_37 w) {
  alarm = Some (max (E 2372113278) 2370089470);
  ordered = Some (record { tick = max (E 2370081278) 2370089470; packet = data_with 0 });
}

opens : (w : List WindowLog) → alarm_by slow (member_late w) ≡ opened_by (due slow) (alarm_by slow (member_late w)).made.windows
unfolding least_passing digits packed_number schedule_of asks_in schedule_heard
opens w = refl

-- by the ticks at which the clock comes to these numbers
dues : due slow ≡ slow_due
dues = fun_ext slow_dues

late : (w : List WindowLog) → IsDeviceWithWindows (alarm_by slow (member_36 w)) member_late
late w = record {
  windows = (alarm_by slow (member_36 w)).made.windows;
  is = closes w ∙ ap (λ (E : ℕ → ℕ). closed_by E (alarm_by slow (member_36 w)).made.windows) dues;
}

open_then : (w : List WindowLog) → IsDeviceWithWindows (alarm_by slow (member_late w)) member_37
open_then w = record {
  windows = (alarm_by slow (member_late w)).made.windows;
  is = opens w ∙ ap (λ (E : ℕ → ℕ). opened_by E (alarm_by slow (member_late w)).made.windows) dues;
}

abbrev LateBy : (ℕ → ℕ) → Type 0
LateBy clock = (w : List WindowLog) → IsDeviceWithWindows (alarm_by clock (member_36 w)) member_late

abbrev OpenBy : (ℕ → ℕ) → Type 0
OpenBy clock = (w : List WindowLog) → IsDeviceWithWindows (alarm_by clock (member_late w)) member_37

pub first_alarm : LateBy (drifting 2)
first_alarm = subst LateBy (sym member_clock) late

pub second_alarm : OpenBy (drifting 2)
second_alarm = subst OpenBy (sym member_clock) open_then
