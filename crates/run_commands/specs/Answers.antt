-- Internal: what a command has to write.
use Rattle.std.specs.Prelude.{ℕ, List, string_bytes}
use Rattle.air_log.specs.declared.entry.Entry.{Entry}
use Rattle.command_line.specs.TextsDue.{IsFaultLine}
use Rattle.command_line.specs.declared.answer.Answer.{Answer}
use Rattle.command_line.specs.declared.answer.Answer.TheVariants.{Report, Fault, Parts}
use Rattle.command_line.specs.declared.no_parts.NoParts.{NoParts}
use Rattle.run_commands.specs.Commands.{Spell, fault_of}
use Rattle.run_commands.specs.Reports.{IsReport}
use Rattle.run_commands.specs.declared.command.Command.{Command}

abbrev pub Answers : Command → List ℕ → Answer (List Entry) NoParts → Type 0
Answers c b (Report text air) = IsReport c b air (string_bytes text)
Answers c b (Fault text) = IsFaultLine (fault_of c b) (string_bytes text)
Answers c b (Parts x) = ⊥

-- some words ask for it, so its numbers are in range
abbrev pub IsAsked : Command → Type 0
IsAsked c = (words : List (List ℕ)) × Spell words c
