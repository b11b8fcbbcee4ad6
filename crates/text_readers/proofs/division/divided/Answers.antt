use Rattle.std.proofs.Common.{sym, ◌∙◌, rules}
use Rattle.text_readers.proofs.DividedTexts.{one_more, here}
use Rattle.text_readers.proofs.division.divided.Goals as goal

pub returns-then-branch-clause-divided : goal.returns-then-branch-clause-divided
returns-then-branch-clause-divided c =
    here c.args.word.now c.args.bytes.now c.loop-rest.rest.now c.loop-rest.count c.loop-rest.invariant c.first_line.result.0.now c.first_line.result.1.now
    c.first_line.ensures.cut (sym c.in_ok-is_alone.ensures ∙ c.if-branch.true)

pub loop-rest-preserved : goal.loop-rest-preserved
loop-rest-preserved c =
    one_more c.args.word.now c.args.bytes.now c.loop-rest.rest.now c.loop-rest.count c.loop-rest.invariant c.first_line.result.0.now c.first_line.result.1.now
    (search rules) c.first_line.ensures.front (sym c.in_ok-is_alone.ensures ∙ c.if-branch.false)
