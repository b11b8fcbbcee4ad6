-- Runs over the clocks that a scenario states.
use Rattle.std.proofs.Common.{◌≡◌, ℕ, List, Option, subst}
use Rattle.std.proofs.Math.Path.{fun_ext}
use Rattle.tick_clock.specs.ClockReadings.{segment_clock_reads}
use Rattle.tick_clock.specs.declared.segment_clock.SegmentClock.{SegmentClock}
use Rattle.scenario_text.specs.ScenarioParts.{ScenarioParts}
use Rattle.scenario_clocks.specs.ClockLists.{clocks_by}
use Rattle.scenario_clocks.specs.StatedClocks.{scenario_clock}
use Rattle.bus_rules.specs.declared.delivery.Delivery.{Delivery}
use Rattle.bus_rules.specs.declared.delivery.DropLine.{DropLine}
use Rattle.node_core.specs.Nodes.{NodeState}
use Rattle.air_log.specs.declared.entry.Entry.{Entry}
use Rattle.air_log.specs.NodeCharges.{charges_in}
use Rattle.lwb_world.specs.Runs.{IsRun}
use Rattle.lwb_world.specs.Worlds.{HasRun}
use Rattle.air_log.specs.Idling.{all_idle}
use Rattle.world_engine.specs.Worlds.{WorldState, new_world, core_of}

-- a run over clocks is one over any that read the same
same_run : (s : ScenarioParts) (clocks others : ℕ → ℕ → ℕ) (air : List Entry) (made : List Delivery) (lost : List DropLine)
    (core : ℕ → Option NodeState) → ((v : ℕ) → clocks v ≡ others v)
    → IsRun s clocks air made lost core → IsRun s others air made lost core
same_run s clocks others air made lost core same run = subst (λ (c : ℕ → ℕ → ℕ). IsRun s c air made lost core) (fun_ext same) run

-- so the run of a new world over clocks that read as stated is one over the stated clocks
pub stated_run : (s : ScenarioParts) (cs : List SegmentClock) (old new : WorldState) → old ≡ new_world s
    → ((v : ℕ) → clocks_by segment_clock_reads s.nodes cs v ≡ scenario_clock s v)
    → HasRun (clocks_by segment_clock_reads old.scenario.nodes cs) old new → IsRun s (scenario_clock s) new.air new.deliveries new.drops (core_of new.cores)
stated_run s cs old new is same has =
    let over : WorldState → Type 0 = λ w. IsRun w.scenario (clocks_by segment_clock_reads w.scenario.nodes cs) new.air new.deliveries new.drops
    (core_of new.cores) in
    same_run s (clocks_by segment_clock_reads s.nodes cs) (scenario_clock s) new.air new.deliveries new.drops (core_of new.cores) same (subst over is has.run)

-- and what was counted in it
pub stated_charges : (s : ScenarioParts) (cs : List SegmentClock) (old new : WorldState) → old ≡ new_world s
    → ((v : ℕ) → clocks_by segment_clock_reads s.nodes cs v ≡ scenario_clock s v)
    → HasRun (clocks_by segment_clock_reads old.scenario.nodes cs) old new → new.charges ≡ charges_in s (scenario_clock s) new.air
stated_charges s cs old new is same has =
    let over : WorldState → Type 0 = λ w. new.charges ≡ charges_in w.scenario (clocks_by segment_clock_reads w.scenario.nodes cs) new.air in
    subst (λ (c : ℕ → ℕ → ℕ). new.charges ≡ charges_in s c new.air) (fun_ext same) (subst over is has.charges)

pub stated_idle : (s : ScenarioParts) (cs : List SegmentClock) (old new : WorldState) → old ≡ new_world s
    → ((v : ℕ) → clocks_by segment_clock_reads s.nodes cs v ≡ scenario_clock s v)
    → HasRun (clocks_by segment_clock_reads old.scenario.nodes cs) old new → new.idle ≡ all_idle s (scenario_clock s) new.air
stated_idle s cs old new is same has =
    let over : WorldState → Type 0 = λ w. new.idle ≡ all_idle w.scenario (clocks_by segment_clock_reads w.scenario.nodes cs) new.air in
    subst (λ (c : ℕ → ℕ → ℕ). new.idle ≡ all_idle s c new.air) (fun_ext same) (subst over is has.idle)
