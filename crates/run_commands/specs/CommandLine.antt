-- The text that is due, by the words and by what was read.
use Rattle.std.specs.Prelude.{◌≡◌, ◌⊎◌, ℕ, List, [], Option, String}
use Rattle.std.specs.declared.alloc.Global.{Global}
use Rattle.air_log.specs.declared.entry.Entry.{Entry}
use Rattle.command_line.specs.TextsDue.{IsReportDue, IsFaultDue, IsUsageDue, IsStatusDue}
use Rattle.run_commands.specs.Commands.{Asks, reads, fault_of, usage}
use Rattle.run_commands.specs.Reports.{IsReport}
use Rattle.run_commands.specs.declared.command.Command.{Command}

-- a report is due, by the words and by what the source had left before and after, and the log of what was run is given
abbrev pub ReportDue : List (String Global) → Option (List ℕ) → Option (List ℕ) → List Entry → List ℕ → Type 0
ReportDue words old new air = IsReportDue Asks reads (λ c b. IsReport c b air) words old new

-- a fault line is due, for the bytes that were read or for too many
abbrev pub FaultDue : List (String Global) → Option (List ℕ) → Option (List ℕ) → List ℕ → Type 0
FaultDue = IsFaultDue Asks reads fault_of

-- the usage line is due
abbrev pub UsageDue : List (String Global) → List ℕ → Type 0
UsageDue = IsUsageDue Asks usage

-- one of them is due, and only a report has a log
abbrev pub SomeDue : List (String Global) → Option (List ℕ) → Option (List ℕ) → List Entry → List ℕ → Type 0
SomeDue words old new air text = ReportDue words old new air text ⊎ ((FaultDue words old new text ⊎ UsageDue words text) × (air ≡ []))

-- where b is the input and nothing failed, the status is the one that is due for this command, or out of memory
abbrev pub IsComplete : Command → List ℕ → ℕ → Type 0
IsComplete c b = IsStatusDue (fault_of c b) b
