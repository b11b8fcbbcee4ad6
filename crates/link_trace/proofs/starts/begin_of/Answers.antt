use Rattle.std.proofs.Common.{◌≡◌, ◌-◌, ◌<◌, arith, length, get_or}
use Rattle.link_trace.proofs.starts.begin_of.Goals as goal

pub returns-then-slot-starts-clause-before : goal.returns-then-slot-starts-clause-before
returns-then-slot-starts-clause-before g c = (c.requires.parted c.args.slot c.if-slot-starts.true).0

pub returns-in-Some-clause-before : goal.returns-in-Some-clause-before
returns-in-Some-clause-before g c = λ k d low high.
    let starts = c.args.starts.now in
    let item = c.in-Some.ensures.item in
    let some : 0 < length starts = item.3.0 in
    let is : c.in-Some.start.now ≡ get_or starts (length starts - 1) 0 = item.4 (omega arith) 0 in
    let earlier = (c.requires.parted (length starts - 1) (omega (arith, some))).0 k d low (omega (arith, high, is)) in
    let past = c.if-slot-starts.false in
    omega (arith, earlier, past)
