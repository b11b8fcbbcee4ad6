-- The same command of a planner on the same input gives the same report.
use Rattle.std.specs.Prelude.{◌≡◌, ℕ, List}
use Rattle.plan_commands.specs.Reports.{IsReport}
use Rattle.plan_commands.specs.declared.command.Command.{Command}

-- two reports of this command and one input are the same bytes
abbrev pub HasOneReport : Command → Type 0
HasOneReport c = (b text other : List ℕ) → IsReport c b text → IsReport c b other → text ≡ other
