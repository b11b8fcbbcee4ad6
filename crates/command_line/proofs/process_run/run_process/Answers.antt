use Rattle.std.proofs.Common.{Ok, Err, subst}
use Rattle.command_line.specs.ProcessWords.{IsWords}
use Rattle.command_line.proofs.Runs.{called, uncalled}
use Rattle.command_line.proofs.process_run.run_process.Goals as goal

pub returns-in-Ok : goal.returns-in-Ok
returns-in-Ok g c =
    let are : IsWords c.args.answer (Ok c.in-Ok.words) = subst (IsWords c.args.answer) c.in-Ok.is c.words_of.ensures in
    called (g.P.ProcessCall.is_call c.args.source.now c.call.new.source c.args.sink.now c.call.new.sink) c.args.answer
    c.args.source.now c.call.new.source c.args.sink.now c.call.new.sink c.in-Ok.words c.deref.result.now c.call.result _ are
    c.deref.ensures.value c.from.ensures c.call.ensures

pub returns-in-Err : goal.returns-in-Err
returns-in-Err g c =
    let none : IsWords c.args.answer (Err c.in-Err.status) = subst (IsWords c.args.answer) c.in-Err.is c.words_of.ensures in
    uncalled (g.P.ProcessCall.is_call c.args.source.now c.args.source.now c.args.sink.now c.args.sink.now) c.args.answer
    c.args.source.now c.args.sink.now c.in-Err.status _ none c.from-in-Err.ensures
