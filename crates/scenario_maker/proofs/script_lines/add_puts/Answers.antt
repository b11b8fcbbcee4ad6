use Rattle.std.proofs.Common.{◌+◌, ◌%◌, arith, refl}
use Rattle.std.proofs.lemmas.Bool.Decides.{nat_tests}
use Rattle.std.proofs.lemmas.Bool.{eq-eqb}
use Rattle.scenario_maker.proofs.LoopSteps.{put_added, none_added}
use Rattle.scenario_maker.proofs.script_lines.add_puts.Goals as goal
use Rattle.scenario_maker.proofs.script_lines.add_puts.Goals.{then-frame-node-eq0+in_ok-push, else-frame-node-eq0}

pub loop-k-preserved : goal.loop-k-preserved
loop-k-preserved c =
    let f = c.args.frame in
    let k = c.loop-k.k in
    let before = c.args.lines.now.items in
    elim c.if-frame-node-eq0.branch [
      | then-frame-node-eq0+in_ok-push w ↦
          put_added f k before c.loop-k.lines.items c.if-frame-node-eq0.lines.items w.put_line.result
          (eq-eqb ((f + (k + 2)) % 4) 0 w.if-frame-node-eq0.true) c.loop-k.invariant
          (rw w.lines-is w.in_ok-push.ensures.items) w.put_line.ensures
      | else-frame-node-eq0 w ↦
          none_added f k before c.loop-k.lines.items c.if-frame-node-eq0.lines.items
          (let other = w.if-frame-node-eq0.false in grind (arith, nat_tests)) c.loop-k.invariant (rw w.lines-is refl)
    ]
