-- What a command answers, as the call of every program takes it.
use Rattle.std.proofs.Common.{List, [], ℕ, Result, Ok, Err, IfOk}
use Rattle.lwb_base.specs.declared.outside.Memory.{Memory}
use Rattle.air_log.specs.declared.entry.Entry.{Entry}
use Rattle.command_line.specs.Answers.{IsAnswer}
use Rattle.command_line.specs.declared.answer.Answer.{Answer}
use Rattle.command_line.specs.declared.answer.Answer.TheVariants.{Report, Fault, Parts}
use Rattle.command_line.specs.declared.no_parts.NoParts.{NoParts}
use Rattle.run_commands.specs.Answers.{Answers}
use Rattle.run_commands.specs.Commands.{fault_of}
use Rattle.run_commands.specs.Reports.{IsReport}
use Rattle.run_commands.specs.declared.command.Command.{Command}

pub told : (c : Command) (b : List ℕ) (r : Result (Answer (List Entry) NoParts) Memory) → IfOk r (λ a. Answers c b a)
    → IfOk r (IsAnswer (IsReport c b) [] (fault_of c b) (λ x. ⊥) (λ x. []))
told c b (Ok (Report text air)) is = is
told c b (Ok (Fault text)) is = is
told c b (Ok (Parts x)) is = absurd is
told c b (Err e) is = is
