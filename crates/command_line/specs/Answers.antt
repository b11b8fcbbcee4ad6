-- What a command answers to the bytes that it read.
use Rattle.std.specs.Prelude.{ℕ, List, Option, string_bytes}
use Rattle.text_readers.specs.declared.fault.FaultKind.{FaultKind}
use Rattle.command_line.specs.TextsDue.{IsFaultLine}
use Rattle.command_line.specs.declared.answer.Answer.{Answer}
use Rattle.command_line.specs.declared.answer.Answer.TheVariants.{Report, Fault, Parts}

-- a report with its log, the line of the first fault, or a report in parts that has no log
abbrev pub IsAnswer : {L P : Type 0} → (L → List ℕ → Type 0) → L → Option (ℕ × FaultKind) → (P → Type 0) → (P → List ℕ) → Answer L P → Type 0
IsAnswer IsReport no_log fault InParts text_of (Report text log) = IsReport log (string_bytes text)
IsAnswer IsReport no_log fault InParts text_of (Fault text) = IsFaultLine fault (string_bytes text)
IsAnswer IsReport no_log fault InParts text_of (Parts x) = InParts x × IsReport no_log (text_of x)
