-- A slot before which the nodes are the bus's.
use Rattle.std.specs.Prelude.{ℕ, ◌≤◌, List}
use Rattle.lwb_base.specs.Messages.{Plan}
use Rattle.scenario_text.specs.ScenarioParts.{ScenarioParts}
use Rattle.bus_rules.specs.Plans.{last_slot}
use Rattle.air_log.specs.declared.entry.Entry.{Entry}
use Rattle.law_terms.specs.LawfulRuns.{IsLawfulRun}
use Rattle.law_terms.specs.SlotLaws.{IsRound, IsSlot}
use Rattle.law_terms.specs.SlotSteps.{IsSlotStart}

-- who sends in a step of it, and who accepts, is the flood's
abbrev pub StartedSlotLaw : Type 0
StartedSlotLaw = (s : ScenarioParts) (clocks : ℕ → ℕ → ℕ) (air : List Entry) → IsLawfulRun s clocks air
    → (rank f j : ℕ) (p : Plan) → IsRound s rank f p → j ≤ last_slot p → IsSlotStart s clocks air rank f p j
    → IsSlot s clocks air rank f p j
