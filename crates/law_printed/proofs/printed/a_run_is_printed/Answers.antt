use Rattle.std.proofs.Common.{inl, inr}
use Rattle.scenario_text.specs.Canonical.{canonical}
use Rattle.run_commands.specs.declared.command.Command.TheVariants.{Log, Run}
use Rattle.law_printed.proofs.PrintedCalls.{log_ends, log_prints, run_ends, run_prints}
use Rattle.law_printed.proofs.printed.a_run_is_printed.Goals as goal

pub returns-clause-deliveries : goal.returns-clause-deliveries
returns-clause-deliveries g c =
    λ s can is had done. run_prints s can c.args.words.now (g.S.Source.left c.args.source.now) (g.S.Source.left c.top.new.source) had c.top.result.air
    (g.K.Sink.held c.args.sink.now) (g.K.Sink.held c.top.new.sink) (c.top.ensures.report done) is

pub returns-clause-safe : goal.returns-clause-safe
returns-clause-safe g c =
    λ s can is had done. log_prints s can c.args.words.now (g.S.Source.left c.args.source.now) (g.S.Source.left c.top.new.source) had c.top.result.air
    (g.K.Sink.held c.args.sink.now) (g.K.Sink.held c.top.new.sink) (c.top.ensures.report done) is

pub returns-clause-finished : goal.returns-clause-finished
returns-clause-finished g c =
    λ s can short asks had read written. elim asks [
      | inl is ↦ run_ends s can short c.top.result.status (c.top.ensures.complete Run is read written (canonical s) had)
      | inr is ↦ log_ends s can short c.top.result.status (c.top.ensures.complete Log is read written (canonical s) had)
    ]
