use Rattle.std.proofs.Common.{◌≡◌, ◌^◌, ◌==◌, ◌<◌, ap, sym, ◌∙◌, arith, subst}
use Rattle.schedule_codec.specs.Packing.{Bits}
use Rattle.schedule_codec.proofs.Streams.{no_bytes}
use Rattle.schedule_codec.proofs.bits.BitReader.is_filled.Goals as goal

pub returns : goal.returns
returns c =
    let r = c.self.inside in
    let count = ap (λ (b : Bits). b.count) c.self.view_is in
    let value = ap (λ (b : Bits). b.value) c.self.view_is in
    let pending : c.args.self.now.value ≡ r.pending = sym value ∙ no_bytes r.rest.now r.pending (omega arith) in
    let held : r.held ≡ c.args.self.now.count = omega arith in
    record {
      zero = ap (λ n. n == 0) (sym pending);
      below = subst (λ n. n < 2 ^ c.args.self.now.count) (sym pending) (subst (λ k. r.pending < 2 ^ k) held c.self.invariant.1);
    }
