-- A report tells that the bytes are a text.
use Rattle.std.specs.Prelude.{◌≡◌, ◌+◌, ℕ, List, None, length, option_map}
use Rattle.std.specs.Result.{result_err}
use Rattle.std.specs.Str.Lines.{lines}
use Rattle.std.proofs.Common.{ap, ◌∙◌}
use Rattle.plan_commands.specs.Commands.{fault_of}
use Rattle.plan_commands.specs.DrawnTexts.{draw_fault}
use Rattle.plan_commands.specs.Reports.{IsReport}
use Rattle.plan_commands.specs.declared.command.Command.{Command}
use Rattle.plan_commands.specs.declared.command.Command.TheVariants.{Bounds, Draw, Fates, Log, Outcome, Run, Sample}

pub is_text : (c : Command) (b text : List ℕ) → IsReport c b text → fault_of c b ≡ None
is_text (Draw seed) b text report =
    ap (draw_fault seed b) report.2 ∙ ap (option_map (λ k. (length (lines b) + 1, k))) report.3.fits
is_text (Outcome seed) b text report = ap result_err report.2
is_text (Fates seed) b text report = ap result_err report.2
is_text (Run seed) b text report = ap result_err report.2
is_text (Log seed) b text report = ap result_err report.2
is_text (Sample from count) b text report = ap result_err report.2
is_text Bounds b text report = ap result_err report.2
