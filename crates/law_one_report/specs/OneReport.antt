-- The same command on the same input gives the same report.
use Rattle.std.specs.Prelude.{◌≡◌, ℕ, List, IsPermutation}
use Rattle.air_log.specs.declared.entry.Entry.{Entry}
use Rattle.run_commands.specs.Answers.{IsAsked}
use Rattle.run_commands.specs.Reports.{IsReport}
use Rattle.run_commands.specs.declared.command.Command.{Command}

-- two reports of one command and one input are the same bytes, and their logs have the same entries, each as often
abbrev pub OneReportLaw : Type 0
OneReportLaw =
    (c : Command) → IsAsked c → (b : List ℕ) (air more : List Entry) (text other : List ℕ) → IsReport c b air text → IsReport c b more other
    → (text ≡ other) × IsPermutation air more
