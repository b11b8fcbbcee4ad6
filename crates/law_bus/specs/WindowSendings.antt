-- What is sent in a window is what its node sends in the slot on the bus.
use Rattle.std.specs.Prelude.{◌≡◌, ℕ, ◌≤◌, List, map}
use Rattle.lwb_base.specs.Messages.{Plan}
use Rattle.scenario_text.specs.ScenarioParts.{ScenarioParts}
use Rattle.bus_rules.specs.Plans.{last_slot}
use Rattle.bus_terms.specs.Costs.{steps_sent_by}
use Rattle.air_log.specs.Charges.{sent_packets, step_and_length}
use Rattle.air_log.specs.declared.entry.Entry.{Entry}
use Rattle.air_log.specs.WindowLogs.{WindowLog}
use Rattle.law_terms.specs.LawfulRuns.{IsLawfulRun}
use Rattle.bus_terms.specs.HostedRounds.{slot_in}
use Rattle.law_terms.specs.SlotLaws.{IsRound, IsWindowOf}

-- by step and length, one after another, in each window of each slot
abbrev pub WindowSendingsLaw : Type 0
WindowSendingsLaw = (s : ScenarioParts) (clocks : ℕ → ℕ → ℕ) (air : List Entry) → IsLawfulRun s clocks air
    → (rank f j v : ℕ) (p : Plan) → IsRound s rank f p → j ≤ last_slot p
    → (w : WindowLog) → IsWindowOf s clocks air rank f j v w
    → map step_and_length (sent_packets w) ≡ steps_sent_by (slot_in s rank f p j) v
