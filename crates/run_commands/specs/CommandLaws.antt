-- A report tells that the bytes are a text, and a command that reads nothing has no fault.
use Rattle.std.specs.Prelude.{◌≡◌, ◌⊎◌, ℕ, List, true, None}
use Rattle.std.specs.Result.{result_err}
use Rattle.std.proofs.Common.{inl, inr, refl, ap}
use Rattle.air_log.specs.declared.entry.Entry.{Entry}
use Rattle.run_commands.specs.Commands.{reads, fault_of}
use Rattle.run_commands.specs.Reports.{IsReport}
use Rattle.run_commands.specs.declared.command.Command.{Command}
use Rattle.run_commands.specs.declared.command.Command.TheVariants.{Flood, Run, Log, Bus, Demo, Check, Deadlines, Times, Return}

pub is_text : (c : Command) (b : List ℕ) (air : List Entry) (text : List ℕ) → IsReport c b air text → fault_of c b ≡ None
is_text Flood b air text report = ap result_err report.1
is_text Run b air text report = ap result_err report.1
is_text Log b air text report = ap result_err report.1
is_text Bus b air text report = ap result_err report.1
is_text (Demo seed nodes frames) b air text report = refl
is_text Check b air text report = ap result_err report.2
is_text Deadlines b air text report = ap result_err report.1
is_text Times b air text report = ap result_err report.1
is_text Return b air text report = ap result_err report.1

pub reads_or_none : (c : Command) (b : List ℕ) → (reads c ≡ true) ⊎ (fault_of c b ≡ None)
reads_or_none (Demo seed nodes frames) b = inr refl
reads_or_none Flood b = inl refl
reads_or_none Run b = inl refl
reads_or_none Log b = inl refl
reads_or_none Bus b = inl refl
reads_or_none Check b = inl refl
reads_or_none Deadlines b = inl refl
reads_or_none Times b = inl refl
reads_or_none Return b = inl refl
