-- What the listening of each node comes to in a log.
use Rattle.std.specs.Prelude.{ℕ, List, map}
use Rattle.scenario_text.specs.ScenarioParts.{ScenarioParts}
use Rattle.scenario_text.specs.declared.lines.NodeLine.{NodeLine}
use Rattle.air_log.specs.declared.entry.Entry.{Entry}
use Rattle.air_log.specs.declared.charge.NodeCharge.{NodeCharge}
use Rattle.air_log.specs.Lawful.{heard_by, trail_in}
use Rattle.air_log.specs.Charges.{windows_charge, scanned_frames}

-- what the windows of its trail count, and the frames at whose start it scans
abbrev pub charge_in : ScenarioParts → (ℕ → ℕ → ℕ) → List Entry → NodeLine → NodeCharge
charge_in s clocks air n = record {
  windows = windows_charge s (trail_in s clocks air n.node);
  scanned = scanned_frames s n.node (clocks n.node) (heard_by air n.node);
}

-- by ascending ids
abbrev pub charges_in : ScenarioParts → (ℕ → ℕ → ℕ) → List Entry → List NodeCharge
charges_in s clocks air = map (charge_in s clocks air) s.nodes
