-- What is counted of a run while it goes on: the frames in which nodes scan, and what their windows come to.
use Rattle.std.specs.Prelude.{◌≡◌, ℕ, ◌+◌, ◌%◌, ◌^◌, ◌≤◌, List, map, length, slice_get, Some, count_by, if◌then◌else◌}
use Rattle.std.specs.List.{range_with_len}
use Rattle.scenario_text.specs.ScenarioParts.{ScenarioParts}
use Rattle.scenario_text.specs.declared.lines.NodeLine.{NodeLine}
use Rattle.air_log.specs.declared.entry.Entry.{Entry}
use Rattle.air_log.specs.declared.charge.NodeCharge.{NodeCharge}
use Rattle.air_log.specs.Charges.{scans_with}
use Rattle.air_log.specs.DeviceStates.{DeviceState}
use Rattle.air_log.specs.Lawful.{heard_by}
use Rattle.air_log.specs.Trails.{before_tick, tune_of, tune_at}
use Rattle.air_log.specs.WindowSums.{WindowSum}

-- up to tick t the nodes have the same trails over both logs
abbrev pub TrailsStay : ScenarioParts → (ℕ → ℕ → ℕ) → ℕ → List Entry → List Entry → Type 0
TrailsStay s clocks t old new = (p : ℕ) (n : NodeLine) → slice_get s.nodes p ≡ Some n → (u : ℕ) → u ≤ t
    → before_tick s n.node (clocks n.node) (heard_by new n.node) u ≡ before_tick s n.node (clocks n.node) (heard_by old n.node) u

-- in how many of the first f frames a node scans, and so each node by its place
abbrev pub scans_before : ScenarioParts → (ℕ → ℕ → ℕ) → List Entry → ℕ → NodeLine → ℕ
scans_before s clocks air f n = count_by (λ g. scans_with (tune_at s n.node (clocks n.node) (heard_by air n.node) g)) (range_with_len 0 f)

abbrev pub all_scans_before : ScenarioParts → (ℕ → ℕ → ℕ) → List Entry → ℕ → List ℕ
all_scans_before s clocks air f = map (scans_before s clocks air f) s.nodes

-- 1 for a device that scans
abbrev pub scans_now : DeviceState → ℕ
scans_now d = if scans_with (tune_of d.power) then 1 else 0

-- each place has been counted once more if its device scans
pub record AreCountedOn (devices : List DeviceState) (old new : List ℕ) : Type 0 where
  pub long : length new ≡ length old
  pub each : (p : ℕ) (d : DeviceState) (n : ℕ) → slice_get devices p ≡ Some d → slice_get old p ≡ Some n → slice_get new p ≡ Some (n + scans_now d)

-- a sum as 64 bits have it, and a number of frames
abbrev pub charge_for : WindowSum → ℕ → NodeCharge
charge_for x n = record { windows = (x.earlier + x.last) % 2 ^ 64; scanned = n }

pub record AreCharges (sums : List WindowSum) (scanned : List ℕ) (charges : List NodeCharge) : Type 0 where
  pub long : length charges ≡ length scanned
  pub each : (p : ℕ) (x : WindowSum) (n : ℕ) → slice_get sums p ≡ Some x → slice_get scanned p ≡ Some n → slice_get charges p ≡ Some (charge_for x n)
