use Rattle.std.proofs.Common.{◌^◌, ◌<◌, ◌≤◌, length, ◌-◌, ◌∙◌, arith}
use Rattle.std.proofs.Math.Nat.{pow-le-pow_right}
use Rattle.schedule_codec.specs.Packing.{packed_number}
use Rattle.schedule_codec.proofs.Streams.{value_in, below_in, value_taken, below_taken, below_left}
use Rattle.schedule_codec.proofs.bits.BitReader.take.Goals as goal

pub loop-self-preserved : goal.loop-self-preserved
loop-self-preserved c =
    let r = c.loop-self.self-inside in
    let from = c.from.ensures in
    let into = value_in r.rest.now r.pending c.from.result (omega arith) from in
    let byte : c.from.result < 256 = omega arith in
    record {
      count = omega arith;
      value = into.1 ∙ c.loop-self.invariant.value;
      below = below_in r.pending r.held c.from.result c.loop-self.invariant.below byte;
      few = omega arith;
    }

pub overflow_cast-result : goal.overflow_cast-result
overflow_cast-result c =
    let r = c.loop-self.self-inside in
    let taken = below_taken r.pending r.held c.args.width (r.held - c.args.width) c.loop-self.invariant.below (omega arith) in
    let power : 2 ^ c.args.width ≤ 2 ^ 10 = pow-le-pow_right {n = 2} (omega arith) c.requires.narrow in
    omega arith

pub invariant_of-self : goal.invariant_of-self
invariant_of-self c =
    let r = c.loop-self.self-inside in
    (omega arith, below_left r.pending (r.held - c.args.width) (omega arith))

pub returns-clause-value : goal.returns-clause-value
returns-clause-value c =
    let r = c.loop-self.self-inside in
    value_taken r.pending (r.held - c.args.width) (length r.rest.now) (packed_number 8 r.rest.now) (omega arith) ∙ c.loop-self.invariant.value

pub returns-clause-fits : goal.returns-clause-fits
returns-clause-fits c =
    let r = c.loop-self.self-inside in
    below_taken r.pending r.held c.args.width (r.held - c.args.width) c.loop-self.invariant.below (omega arith)
