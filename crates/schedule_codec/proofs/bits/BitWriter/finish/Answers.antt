use Rattle.std.proofs.Common.{◌≡◌, ◌+◌, ◌*◌, ◌^◌, ◌<◌, ◌-◌, ap, sym, subst, ◌∙◌, arith}
use Rattle.schedule_codec.specs.Packing.{Bits, packed_number}
use Rattle.schedule_codec.proofs.Streams.{byte_filled, filled_up, filled_already}
use Rattle.schedule_codec.proofs.bits.BitWriter.finish.Goals as goal

pub overflow_cast-pending : goal.overflow_cast-pending
overflow_cast-pending c =
    let w = c.self.inside in
    let byte = byte_filled w.pending w.held (8 - w.held) (omega arith) c.self.invariant.1 in
    omega arith

pub returns-then-held-gt0 : goal.returns-then-held-gt0
returns-then-held-gt0 c =
    let w = c.self.inside in
    let count = ap (λ (b : Bits). b.count) c.self.view_is in
    let value = ap (λ (b : Bits). b.value) c.self.view_is in
    c.push.ensures.items
    ∙ filled_up w.bytes.items w.pending w.held (8 - w.held) c.args.self.count c.args.self.value count value c.if-held-gt0.true
    (omega arith) c.self.invariant.1 c.self.invariant.3

pub returns-else-held-gt0 : goal.returns-else-held-gt0
returns-else-held-gt0 c =
    let w = c.self.inside in
    let none : w.held ≡ 0 = omega arith in
    let count = ap (λ (b : Bits). b.count) c.self.view_is in
    let value = ap (λ (b : Bits). b.value) c.self.view_is in
    let below : w.pending < 1 = subst (λ i. w.pending < 2 ^ i) none c.self.invariant.1 in
    filled_already w.bytes.items w.pending c.args.self.count c.args.self.value (omega arith)
    (ap (λ i. packed_number 8 w.bytes.items * 2 ^ i + w.pending) (sym none) ∙ value) below c.self.invariant.3
