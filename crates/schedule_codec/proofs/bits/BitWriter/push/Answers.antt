use Rattle.std.proofs.Common.{◌≡◌, ℕ, ◌+◌, ◌*◌, ◌^◌, ◌-◌, ◌/◌, ◌%◌, length, ◌∷◌, [], ap, ◌∙◌, arith, length-append}
use Rattle.schedule_codec.specs.Packing.{Bits, packed_number, fit}
use Rattle.schedule_codec.proofs.Streams.{value_more, below_more, value_out, below_out, byte_out, fit_push}
use Rattle.schedule_codec.proofs.bits.BitWriter.push.Goals as goal

pub loop-self-init : goal.loop-self-init
loop-self-init c =
    let w = c.self.inside in
    let v = c.args.width in
    let count = ap (λ (b : Bits). b.count) c.self.view_is in
    let value = ap (λ (b : Bits). b.value) c.self.view_is in
    let from = c.from.ensures in
    record {
      count = omega arith;
      value = ap (λ n. packed_number 8 w.bytes.items * 2 ^ (w.held + v) + (w.pending * 2 ^ v % 4294967296 + n)) from
          ∙ value_more (packed_number 8 w.bytes.items) w.held w.pending v c.args.value c.self.invariant.1 (omega arith)
          ∙ ap (λ n. n * 2 ^ v + c.args.value) value;
      below = below_more w.held w.pending v c.from.result c.self.invariant.1 (omega arith) (omega arith);
      bytes = c.self.invariant.3;
      few = omega arith;
    }

pub overflow_cast-self-inside-in-loop-self : goal.overflow_cast-self-inside-in-loop-self
overflow_cast-self-inside-in-loop-self c =
    let w = c.loop-self.self-inside in
    let byte = byte_out w.pending w.held (w.held - 8) (omega arith) c.loop-self.invariant.below in
    omega arith

pub loop-self-preserved : goal.loop-self-preserved
loop-self-preserved c =
    let w = c.loop-self.self-inside in
    let k : ℕ = w.held - 8 in
    let at : w.held ≡ k + 8 = omega arith in
    let out = c.push.ensures.items in
    let few = c.loop-self.invariant.few in
    let byte = byte_out w.pending w.held k at c.loop-self.invariant.below in
    record {
      count = omega (arith, ap length out, length-append w.bytes.items (w.pending / 2 ^ k ∷ []));
      value = ap (λ bs. packed_number 8 bs * 2 ^ k + w.pending % (1 * 2 ^ k % 4294967296)) out
          ∙ value_out w.bytes.items w.pending w.held k at (omega arith) ∙ c.loop-self.invariant.value;
      below = below_out w.pending k (omega arith);
      bytes = ap (λ bs. fit 8 bs) out ∙ fit_push 8 w.bytes.items (w.pending / 2 ^ k) c.loop-self.invariant.bytes byte;
      few = omega arith;
    }
