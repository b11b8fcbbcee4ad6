-- Backup hosts that probe a lower channel in frames in which they have no round.
use Rattle.std.specs.Prelude.{◌≡◌, ℕ, ◌+◌, ◌%◌, ◌<◌, ◌≤◌, List, ◌∷◌, true, ◌&&◌, nat_lt, if◌then◌else◌, Option, Some, None, Contains, is_some, count_by}
use Rattle.std.specs.List.{range_with_len}
use Rattle.bus_rules.specs.declared.tune.Tune.{Tune}
use Rattle.bus_rules.specs.declared.tune.Tune.TheVariants.{Scan, Hold, Host}
use Rattle.schedule_codec.specs.Reading.{is_schedule}
use Rattle.scenario_text.specs.ScenarioParts.{ScenarioParts}
use Rattle.scenario_clocks.specs.StatedClocks.{scenario_clock}
use Rattle.radio_model.specs.declared.sending.Sending.{Sending}
use Rattle.air_log.specs.declared.entry.Entry.{Entry}
use Rattle.air_log.specs.declared.entry.Entry.TheVariants.{Tuned}
use Rattle.air_log.specs.Entries.{sendings_of}
use Rattle.air_log.specs.HearsAir.{HearsAir}
use Rattle.air_log.specs.Lawful.{heard_by}
use Rattle.air_log.specs.Trails.{frame_start, tune_at}
use Rattle.scenario_text.specs.FloodParts.{knows}
use Rattle.air_log.specs.Idling.{all_idle}
use Rattle.air_log.specs.declared.idle.Idle.{Idle}

-- the rank that a node with this tune probes in frame f: it is idle where it hosts a rank r above 0 and its next round is in
-- a later frame, and then it probes rank f mod r
abbrev pub probed_with : ℕ → Option Tune → Option ℕ
probed_with f None = None
probed_with f (Some (Scan r waited)) = None
probed_with f (Some (Hold r due)) = None
probed_with f (Some (Host r due)) = if nat_lt 0 r && nat_lt f due then Some (f % r) else None

-- that of v in a run over the clocks that the scenario states, by its tune after the script lines of frame f
abbrev pub probed_rank : ScenarioParts → List Entry → ℕ → ℕ → Option ℕ
probed_rank s air f v = probed_with f (tune_at s v (scenario_clock s v) (heard_by air v) f)

-- where nodes are idle, by frame and then node
abbrev pub idle_of : ScenarioParts → List Entry → List Idle
idle_of s air = all_idle s (scenario_clock s) air

-- the rank that the host of a rank probes in frame f, where it is idle
abbrev pub probed_from : ℕ → ℕ → Option ℕ
probed_from f rank = if nat_lt 0 rank then Some (f % rank) else None

-- so a node does, where it is idle
pub record IsIdleIn (s : ScenarioParts) (air : List Entry) (i : Idle) : Type 0 where
  pub known : knows s.nodes i.node ≡ true
  pub probes : probed_rank s air i.frame i.node ≡ probed_from i.frame i.rank

-- how many frames there are in which v is idle
abbrev pub probes : ScenarioParts → List Entry → ℕ → ℕ
probes s air v = count_by (λ f. is_some (probed_rank s air f v)) (range_with_len 0 s.frames)

-- the log in which v counts as tuned to this rank for the whole of frame f
abbrev pub with_probe : ScenarioParts → List Entry → ℕ → ℕ → ℕ → List Entry
with_probe s air f v rank = Tuned (record { rank = rank; node = v; start = frame_start s f; end = frame_start s (f + 1) }) ∷ air

-- tick t is one of frame f
pub record IsOfFrame (s : ScenarioParts) (f t : ℕ) : Type 0 where
  pub since : frame_start s f ≤ t
  pub until : t < frame_start s (f + 1)

-- v receives x if it is tuned to this rank for the whole of frame f
abbrev pub HearsAsProbe : ScenarioParts → List Entry → ℕ → ℕ → ℕ → Sending → Type 0
HearsAsProbe s air f v rank x = HearsAir s.profile s.trace (with_probe s air f v rank) v x

-- x is a schedule of this rank in frame f, and v receives it if it is tuned there for the whole frame
pub record Brings (s : ScenarioParts) (air : List Entry) (f v rank : ℕ) (x : Sending) : Type 0 where
  pub sent : Contains (sendings_of air) x
  pub channel : x.rank ≡ rank
  pub says : is_schedule x.packet ≡ true
  pub starts : IsOfFrame s f x.start
  pub ends : IsOfFrame s f x.end
  pub hears : HearsAsProbe s air f v rank x

-- in frame f node v probes this rank, and receives a schedule there
pub record Probed (s : ScenarioParts) (air : List Entry) (f v rank : ℕ) : Type 0 where
  pub probes : probed_rank s air f v ≡ Some rank
  pub schedule : Sending
  pub brings : Brings s air f v rank schedule
