-- A valid air as a whole is the bus's.
use Rattle.std.specs.Prelude.{◌≡◌, ℕ, ◌-◌, ◌<◌, List, true, sum_by}
use Rattle.scenario_text.specs.ScenarioParts.{ScenarioParts}
use Rattle.scenario_text.specs.FloodParts.{knows}
use Rattle.air_log.specs.declared.entry.Entry.{Entry}
use Rattle.air_log.specs.Trails.{at_frame}
use Rattle.air_log.specs.Lawful.{heard_by, trail_in}
use Rattle.air_log.specs.Deliveries.{deliveries_of}
use Rattle.air_log.specs.Drops.{drops_of}
use Rattle.air_log.specs.Charges.{windows_charge, scanned_frames}
use Rattle.bus_terms.specs.Bus.{state_at, bus_deliveries, bus_drops, bus_cost}
use Rattle.air_log.specs.Devices.{state_of_power}
use Rattle.law_terms.specs.LawfulRuns.{IsLawfulRun}

-- Run: after the script lines of each frame each node is the bus's
abbrev pub RunLaw : Type 0
RunLaw = (s : ScenarioParts) (clocks : ℕ → ℕ → ℕ) (air : List Entry) → IsLawfulRun s clocks air
    → (v f : ℕ) → knows s.nodes v ≡ true → f < s.frames
    → state_of_power (at_frame s v (clocks v) (heard_by air v) f).power ≡ state_at s f v

abbrev pub DeliveriesLaw : Type 0
DeliveriesLaw = (s : ScenarioParts) (clocks : ℕ → ℕ → ℕ) (air : List Entry) → IsLawfulRun s clocks air → deliveries_of s clocks air ≡ bus_deliveries s

abbrev pub DropsLaw : Type 0
DropsLaw = (s : ScenarioParts) (clocks : ℕ → ℕ → ℕ) (air : List Entry) → IsLawfulRun s clocks air → drops_of s clocks air ≡ bus_drops s

abbrev pub CostLaw : Type 0
CostLaw = (s : ScenarioParts) (clocks : ℕ → ℕ → ℕ) (air : List Entry) → IsLawfulRun s clocks air
    → (v : ℕ) → knows s.nodes v ≡ true
    → bus_cost s v ≡ record {
      sent = sum_by (λ x. x.end - x.start) (trail_in s clocks air v).made.sent;
      windows = windows_charge s (trail_in s clocks air v);
      scanned = scanned_frames s v (clocks v) (heard_by air v);
    }

-- clocks do not matter
abbrev pub AnyClocksLaw : Type 0
AnyClocksLaw = (s : ScenarioParts) (c d : ℕ → ℕ → ℕ) (a b : List Entry) → IsLawfulRun s c a → IsLawfulRun s d b
    → (deliveries_of s c a ≡ deliveries_of s d b) × (drops_of s c a ≡ drops_of s d b)
