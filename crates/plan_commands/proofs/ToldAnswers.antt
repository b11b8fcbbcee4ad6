-- What a command answers, as the call of every program takes it.
use Rattle.std.specs.Prelude.{⊤}
use Rattle.std.proofs.Common.{List, ℕ, Result, Ok, Err, IfOk}
use Rattle.lwb_base.specs.declared.outside.Memory.{Memory}
use Rattle.command_line.specs.Answers.{IsAnswer}
use Rattle.command_line.specs.declared.answer.Answer.{Answer}
use Rattle.command_line.specs.declared.answer.Answer.TheVariants.{Report, Fault, Parts}
use Rattle.plan_commands.specs.Answers.{Answers, IsSampledBy, sampled_text}
use Rattle.plan_commands.specs.Commands.{fault_of}
use Rattle.plan_commands.specs.Reports.{IsReport}
use Rattle.plan_commands.specs.declared.command.Command.{Command}
use Rattle.plan_commands.specs.declared.sampled_network.SampledNetwork.{SampledNetwork}

pub told : (c : Command) (b : List ℕ) (r : Result (Answer ⊤ SampledNetwork) Memory) → IfOk r (λ a. Answers c b a)
    → IfOk r (IsAnswer (λ log. IsReport c b) tt (fault_of c b) (IsSampledBy c) sampled_text)
told c b (Ok (Report text log)) is = is
told c b (Ok (Fault text)) is = is
told c b (Ok (Parts x)) is = is
told c b (Err e) is = is
