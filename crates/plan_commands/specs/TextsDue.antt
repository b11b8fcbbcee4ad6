-- The text that is due, by the words and by what was read.
use Rattle.std.specs.Prelude.{◌⊎◌, ℕ, List, Option, String}
use Rattle.std.specs.declared.alloc.Global.{Global}
use Rattle.command_line.specs.TextsDue.{IsReportDue, IsFaultDue, IsUsageDue, IsStatusDue}
use Rattle.plan_commands.specs.Commands.{Asks, reads, fault_of, usage}
use Rattle.plan_commands.specs.Reports.{IsReport}
use Rattle.plan_commands.specs.declared.command.Command.{Command}
use Rattle.plan_commands.specs.declared.command.Command.TheVariants.{Sample}

-- a report is due, by the words and by what the source had left before and after
abbrev pub ReportDue : List (String Global) → Option (List ℕ) → Option (List ℕ) → List ℕ → Type 0
ReportDue = IsReportDue Asks reads IsReport

-- a fault line is due, for the bytes that were read or for too many
abbrev pub FaultDue : List (String Global) → Option (List ℕ) → Option (List ℕ) → List ℕ → Type 0
FaultDue = IsFaultDue Asks reads fault_of

-- the usage line is due
abbrev pub UsageDue : List (String Global) → List ℕ → Type 0
UsageDue = IsUsageDue Asks usage

-- one of them is due
abbrev pub SomeDue : List (String Global) → Option (List ℕ) → Option (List ℕ) → List ℕ → Type 0
SomeDue words old new text = ReportDue words old new text ⊎ (FaultDue words old new text ⊎ UsageDue words text)

-- the words ask for a sample
abbrev pub IsSample : List (String Global) → Type 0
IsSample words = (from : ℕ) × (count : ℕ) × Asks words (Sample from count)

-- where b is the input and nothing failed, the status is the one that is due for this command, or out of memory
abbrev pub IsComplete : Command → List ℕ → ℕ → Type 0
IsComplete c b = IsStatusDue (fault_of c b) b
