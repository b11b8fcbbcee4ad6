use Rattle.std.proofs.Common.{◌+◌, ℕ, List, ◌∷◌, [], ◌++◌, Some, ap, sym, subst, ◌∙◌}
use Rattle.std.proofs.lemmas.Bool.{both_ways, cond-true}
use Rattle.schedule_codec.specs.AckLists.{takes_ack}
use Rattle.schedule_codec.proofs.AckRuns.{Read, reads_none, reads_more, reads_all, flat_same, next_in, same_some}
use Rattle.schedule_codec.proofs.ack_bytes.read_each.Goals as goal

pub loop-init : goal.loop-init
loop-init c = reads_none c.args.count c.args.bytes.now c.new-acks.result c.new-acks.ensures c.requires.long

pub returns-in_err-ack-clause-all : goal.returns-in_err-ack-clause-all
returns-in_err-ack-clause-all c =
    λ acks all ordered is.
    let next = next_in c.args.count c.args.bytes.now c.loop.acks acks c.loop.rest.now c.loop.counter c.loop.invariant c.loop-test.true all ordered is in
    let none = c.in_err-ack.ensures.all next.0 next.1.range (next.1.bytes ∙ sym c.split_at.ensures.front) in
    cc none

pub returns-then-not-add-clause-all : goal.returns-then-not-add-clause-all
returns-then-not-add-clause-all c =
    λ acks all ordered is.
    let next = next_in c.args.count c.args.bytes.now c.loop.acks acks c.loop.rest.now c.loop.counter c.loop.invariant c.loop-test.true all ordered is in
    let same = same_some c.in_ok-ack.ack next.0 (c.in_ok-ack.ensures.all next.0 next.1.range (next.1.bytes ∙ sym c.split_at.ensures.front)) in
    absurd (both_ways (takes_ack c.loop.acks c.in_ok-ack.ack) (sym c.add.ensures.answer ∙ c.if-not-add.true)
    (ap (λ a. takes_ack c.loop.acks a) same ∙ next.1.takes))

pub loop-preserved : goal.loop-preserved
loop-preserved c =
    let read = c.in_ok-ack.ensures.some in
    subst (λ (l : List ℕ). Read c.args.count c.args.bytes.now c.add.new.self l (c.loop.counter + 1)) (sym c.split_at.ensures.back)
    (reads_more c.args.count c.args.bytes.now c.loop.acks c.add.new.self c.loop.rest.now c.loop.counter c.in_ok-ack.ack c.loop.invariant
    c.loop-test.true read.0 (read.1 ∙ c.split_at.ensures.front)
    (sym c.add.ensures.answer ∙ c.if-not-add.false)
    (c.add.ensures.list ∙ cond-true c.add.result (c.loop.acks ++ c.in_ok-ack.ack ∷ []) c.loop.acks c.if-not-add.false))

pub returns-clause-some : goal.returns-clause-some
returns-clause-some c = (
  c.loop.invariant.all,
  c.loop.invariant.ordered,
  reads_all c.args.count c.args.bytes.now c.loop.acks c.loop.rest.now c.loop.counter c.loop.invariant c.loop-test.false,
)

pub returns-clause-all : goal.returns-clause-all
returns-clause-all c =
    λ acks all ordered is.
    ap (λ l. Some l) (flat_same c.loop.acks acks
    (reads_all c.args.count c.args.bytes.now c.loop.acks c.loop.rest.now c.loop.counter c.loop.invariant c.loop-test.false ∙ sym is))
