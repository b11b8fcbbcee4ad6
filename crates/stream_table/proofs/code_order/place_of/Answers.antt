use Rattle.std.proofs.Common.{◌≡◌, ℕ, ◌+◌, ◌-◌, ◌/◌, ◌<◌, length, get_or, arith, ap}
use Rattle.std.proofs.lemmas.List.{get_or_read}
use Rattle.stream_table.proofs.CodeOrder.{ascends_far, below_is}
use Rattle.stream_table.proofs.code_order.place_of.Goals as goal

pub loop-low-preserved-then-code : goal.loop-low-preserved-then-code
loop-low-preserved-then-code g c =
    let i = c.loop-low.invariant in
    let xs = c.args.list.now in
    let m : ℕ = c.loop-low.low + (c.loop-low.high - c.loop-low.low) / 2 in
    let x = c.index-list-middle.result in
    let within : m < length xs = omega arith in
    record {
      order = omega arith;
      within = omega arith;
      below = λ k d less.
          let read : g.T.Coded.code_of x ≡ g.T.Coded.code_of (get_or xs m d) = ap g.T.Coded.code_of (get_or_read xs m x within c.index-list-middle.is d) in
          let far = ascends_far g.T.Coded.code_of xs k m d c.requires (omega arith) within in
          omega arith;
      from = i.from;
    }

pub loop-low-preserved : goal.loop-low-preserved
loop-low-preserved g c =
    let i = c.loop-low.invariant in
    let xs = c.args.list.now in
    let m : ℕ = c.loop-low.low + (c.loop-low.high - c.loop-low.low) / 2 in
    let x = c.index-list-middle.result in
    let within : m < length xs = omega arith in
    record {
      order = omega arith;
      within = omega arith;
      below = i.below;
      from = λ k d at less.
          let read : g.T.Coded.code_of x ≡ g.T.Coded.code_of (get_or xs m d) = ap g.T.Coded.code_of (get_or_read xs m x within c.index-list-middle.is d) in
          let far = ascends_far g.T.Coded.code_of xs m k d c.requires (omega arith) less in
          omega arith;
    }

pub returns-clause-value : goal.returns-clause-value
returns-clause-value g c =
    let i = c.loop-low.invariant in
    below_is g.T.Coded.code_of c.args.code c.args.list.now c.loop-low.low (omega arith) i.below (λ k d at less. i.from k d (omega arith) less)
