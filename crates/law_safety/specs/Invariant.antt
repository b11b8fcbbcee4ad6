-- The invariant of all nodes, hosts and transmissions before a tick, and what follows from it.
use Rattle.std.specs.Prelude.{◌≡◌, ℕ, ◌<◌, ◌≤◌, List, true, Contains}
use Rattle.tick_clock.specs.Clocks.{IsClock}
use Rattle.scenario_text.specs.ScenarioParts.{ScenarioParts}
use Rattle.scenario_text.specs.ScenarioFacts.{IsSoundScenario}
use Rattle.scenario_text.specs.FloodParts.{knows}
use Rattle.radio_model.specs.declared.sending.Sending.{Sending}
use Rattle.air_log.specs.declared.entry.Entry.{Entry}
use Rattle.air_log.specs.Entries.{sendings_of}
use Rattle.air_log.specs.Trails.{run_end}
use Rattle.air_log.specs.Lawful.{Lawful}
use Rattle.air_log.specs.Heedful.{Heedful}
use Rattle.air_log.specs.Safe.{Safe}
use Rattle.law_trails.specs.TrailLinks.{device_in}
use Rattle.law_safety.specs.SentPlans.{IsHostOf}
use Rattle.law_safety.specs.FloodSendings.{IsOfFlood}
use Rattle.law_safety.specs.NodesInOrder.{IsInOrder}
use Rattle.law_safety.specs.QuietHosts.{HostsInOrder}

-- before tick t every node is in order, every rank's host hosts in order, and every transmission that has started is of its flood
pub record Invariant (s : ScenarioParts) (clocks : ℕ → ℕ → ℕ) (air : List Entry) (t : ℕ) : Type 0 where
  pub nodes : (v : ℕ) → knows s.nodes v ≡ true → IsInOrder s clocks air v t t (device_in s clocks air v t)
  pub hosts : (rank v : ℕ) → IsHostOf s rank v → HostsInOrder s rank t t (device_in s clocks air v t)
  pub sendings : (x : Sending) → Contains (sendings_of air) x → x.start < t → IsOfFlood s clocks air x

-- a sound scenario over clocks of the drift law
pub record IsDrivenWell (s : ScenarioParts) (clocks : ℕ → ℕ → ℕ) : Type 0 where
  pub sound : IsSoundScenario s
  pub drift : (v : ℕ) → knows s.nodes v ≡ true → IsClock (clocks v)

-- and a log whose nodes heed it
pub record IsObedientRun (s : ScenarioParts) (clocks : ℕ → ℕ → ℕ) (air : List Entry) : Type 0 where
  pub driven : IsDrivenWell s clocks
  pub heedful : Heedful s clocks air

-- the theorem: the invariant holds before each tick of a run
abbrev pub HoldsThroughout : Type 0
HoldsThroughout =
    (s : ScenarioParts) (clocks : ℕ → ℕ → ℕ) (air : List Entry) → IsObedientRun s clocks air
    → (t : ℕ) → t ≤ run_end s → Invariant s clocks air t

abbrev pub HeedfulLogsAreSafe : Type 0
HeedfulLogsAreSafe =
    (s : ScenarioParts) (clocks : ℕ → ℕ → ℕ) (air : List Entry) → IsObedientRun s clocks air → Safe s clocks air

-- every valid log is safe
abbrev pub LawfulLogsAreSafe : Type 0
LawfulLogsAreSafe =
    (s : ScenarioParts) (clocks : ℕ → ℕ → ℕ) (air : List Entry) → IsDrivenWell s clocks → Lawful s clocks air
    → Safe s clocks air
