use Rattle.std.proofs.Common.{sym, subst, ap, arith, length, ◌≤◌, ◌+◌, ℕ}
use Rattle.lwb_member.specs.Planning.{AreAnswers}
use Rattle.lwb_member.proofs.Answering.{with_are}
use Rattle.lwb_member.proofs.AnswersInOrder.{in_order, put_is}
use Rattle.lwb_member.proofs.planning.put_answer.Goals as goal
use Rattle.bus_rules.proofs.Grants.{with_few}

pub put-requires : goal.put-requires
put-requires c = (omega arith, in_order c.args.answers.now.items c.requires.are.ascend)

pub returns-clause-after : goal.returns-clause-after
returns-clause-after c = put_is c.args.ask c.args.answers.now.items c.put.new.list.items c.requires.few c.put.ensures.after

pub returns-clause-few : goal.returns-clause-few
returns-clause-few c =
    let after = put_is c.args.ask c.args.answers.now.items c.put.new.list.items c.requires.few c.put.ensures.after in
    subst (λ (n : ℕ). n ≤ length c.args.answers.now.items + 1) (sym (ap length after)) (with_few c.args.ask c.args.answers.now.items)

pub returns-clause-are : goal.returns-clause-are
returns-clause-are c =
    let after = put_is c.args.ask c.args.answers.now.items c.put.new.list.items c.requires.few c.put.ensures.after in
    subst AreAnswers (sym after) (with_are c.args.ask c.args.answers.now.items c.requires.ask c.requires.are)
