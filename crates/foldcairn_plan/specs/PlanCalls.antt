-- A call of `plan_top`.
use Rattle.std.specs.Prelude.{◌≡◌, ◌≤◌, ◌⊎◌, ℕ, List, Some, String}
use Rattle.std.specs.declared.alloc.Global.{Global}
use Rattle.lwb_base.specs.Causes.{Rose}
use Rattle.command_line.specs.ProcessRuns.{ProcessStreams}
use Rattle.command_line.specs.Streams.{PartRead, Written, PartWritten}
use Rattle.plan_commands.specs.Commands.{Asks, IsCommand}
use Rattle.plan_commands.specs.TextsDue.{ReportDue, FaultDue, UsageDue, SomeDue, IsComplete, IsSample}
use Rattle.plan_commands.specs.declared.command.Command.{Command}

-- each clause of its contract, by the same name
pub record IsPlanCall {S K : Type 0} (e : ProcessStreams S K) (source source_after : S) (sink sink_after : K) (words : List (String Global))
    (status : ℕ) : Type 0 where
  pub known : status ≤ 5
  pub report : status ≡ 0 → Written (e.held sink) (e.held sink_after) (ReportDue words (e.left source) (e.left source_after))
  pub fault : status ≡ 1 → Written (e.held sink) (e.held sink_after) (FaultDue words (e.left source) (e.left source_after))
  pub usage : status ≡ 2 → Written (e.held sink) (e.held sink_after) (UsageDue words)
  pub read_fault : status ≡ 3 → IsCommand words × Rose (e.read_faults source) (e.read_faults source_after)
      × PartRead (e.left source) (e.left source_after) × (sink_after ≡ sink)
  pub write_fault : status ≡ 4 → Rose (e.write_faults sink) (e.write_faults sink_after)
      × PartWritten (e.held sink) (e.held sink_after) (SomeDue words (e.left source) (e.left source_after))
  pub memory : status ≡ 5 → IsCommand words × PartRead (e.left source) (e.left source_after)
      × ((sink_after ≡ sink) ⊎ (IsSample words
      × PartWritten (e.held sink) (e.held sink_after) (ReportDue words (e.left source) (e.left source_after))))
  pub source_later : e.read_faults source ≤ e.read_faults source_after
  pub sink_later : e.write_faults sink ≤ e.write_faults sink_after
  pub complete : (c : Command) → Asks words c → (Rose (e.read_faults source) (e.read_faults source_after) → ⊥)
      → (Rose (e.write_faults sink) (e.write_faults sink_after) → ⊥)
      → (b : List ℕ) → e.left source ≡ Some b → IsComplete c b status
  pub complete_usage : (IsCommand words → ⊥) → (Rose (e.write_faults sink) (e.write_faults sink_after) → ⊥) → status ≡ 2
  pub untouched : (IsCommand words → ⊥) → source_after ≡ source
