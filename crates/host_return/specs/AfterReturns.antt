-- What is true of the last run.
use Rattle.std.specs.Prelude.{◌≡◌, ℕ, ◌+◌, ◌<◌, List, true, Some, Contains}
use Rattle.bus_rules.specs.declared.tune.Tune.TheVariants.{Host}
use Rattle.schedule_codec.specs.Reading.{is_schedule}
use Rattle.lwb_packets.specs.DataPackets.{is_data}
use Rattle.scenario_text.specs.ScenarioParts.{ScenarioParts}
use Rattle.scenario_clocks.specs.StatedClocks.{scenario_clock}
use Rattle.radio_model.specs.Hearing.{frame_of_sending, counter_of_sending}
use Rattle.radio_model.specs.declared.sending.Sending.{Sending}
use Rattle.air_log.specs.declared.entry.Entry.{Entry}
use Rattle.air_log.specs.Entries.{sendings_of}
use Rattle.air_log.specs.Lawful.{heard_by}
use Rattle.air_log.specs.Trails.{tune_at}
use Rattle.host_return.specs.Probes.{Probed}
use Rattle.host_return.specs.Returned.{ReturnedParts}
use Rattle.host_return.specs.declared.returned.Return.{Return}

-- each return is of a node that probed, and received a schedule, in the last run too
abbrev pub AllProbed : ReturnedParts → Type 0
AllProbed x = (r : Return) → Contains x.returns r → Probed x.scenario x.air r.frame r.node r.rank

-- v hosts this rank after the script lines of frame f
abbrev pub HostsAt : ScenarioParts → List Entry → ℕ → ℕ → ℕ → Type 0
HostsAt s air f v rank = (due : ℕ) × (tune_at s v (scenario_clock s v) (heard_by air v) f ≡ Some (Host rank due))

-- y is a schedule that was sent on the channel of x before it, in a frame after f
pub record IsScheduleSince (s : ScenarioParts) (air : List Entry) (f : ℕ) (x y : Sending) : Type 0 where
  pub sent : Contains (sendings_of air) y
  pub channel : y.rank ≡ x.rank
  pub says : is_schedule y.packet ≡ true
  pub after : f < frame_of_sending s.profile y
  pub before : y.start < x.start

-- after frame f + 3 no node initiates data on this rank before a schedule of the rank is sent in a frame after f
abbrev pub QuietAfter : ScenarioParts → List Entry → ℕ → ℕ → Type 0
QuietAfter s air f rank =
    (x : Sending) → Contains (sendings_of air) x → x.rank ≡ rank → counter_of_sending x ≡ 0 → is_data x.packet ≡ true
    → f + 3 < frame_of_sending s.profile x → (y : Sending) × IsScheduleSince s air f x y

-- so it is with the rank that the node of a return hosted
abbrev pub AllQuiet : ReturnedParts → Type 0
AllQuiet x =
    (r : Return) → Contains x.returns r → (rank : ℕ) → HostsAt x.scenario x.air r.frame r.node rank
    → QuietAfter x.scenario x.air r.frame rank
