use Rattle.std.proofs.Common.{inl, inr, subst}
use Rattle.command_line.proofs.WholeInputs.{part_as}
use Rattle.plan_commands.specs.Commands.{Asks}
use Rattle.plan_commands.proofs.plan_top_call.plan_top.Goals as goal

-- each command reads
pub returns-clause-read_fault : goal.returns-clause-read_fault
returns-clause-read_fault g c = λ failed. let read = c.top.ensures.read_fault failed in ((read.0.0, read.0.1), read.1, read.2, read.3)

pub returns-clause-untouched : goal.returns-clause-untouched
returns-clause-untouched g c = λ none. c.top.ensures.untouched (λ asked. none (asked.0, asked.1))

-- no text comes with a log
pub returns-clause-write_fault : goal.returns-clause-write_fault
returns-clause-write_fault g c =
    λ failed.
    let part = c.top.ensures.write_fault failed in (
      part.0,
      part_as _ _ _ _
          (λ text due. elim due [
            | inl report ↦ inl report
            | inr other ↦ inr other.0
          ]) part.1,
    )

-- a sample alone is written in parts
pub returns-clause-memory : goal.returns-clause-memory
returns-clause-memory g c =
    λ out.
    let left = c.top.ensures.memory out in (
      left.0,
      left.1,
      elim left.2 [
        | inl nothing ↦ inl nothing
        | inr part ↦ inr ((part.0.1.from, part.0.1.count, subst (Asks c.args.words.now) part.0.3.0 part.0.2), part.1)
      ],
    )
