use Rattle.std.proofs.Common.{◌≡◌, ℕ, List, length, ◌+◌, ◌*◌, ◌^◌, ◌==◌, Some, ap, sym, ◌∙◌, arith}
use Rattle.std.proofs.lemmas.Bool.{eqb-true, eq-eqb, both_ways}
use Rattle.std.proofs.lemmas.Nat.{mul-le}
use Rattle.schedule_codec.specs.Packing.{Bits, packed_number, fit}
use Rattle.schedule_codec.proofs.Numbers.{nothing}
use Rattle.schedule_codec.proofs.Streams.{fit_push}
use Rattle.schedule_codec.proofs.Packs.{same_numbers, long_enough, nothing_left, read_more, all_read}
use Rattle.schedule_codec.proofs.packing.unpack.Goals as goal

pub returns-then-bytes-div_ceil-clause-all : goal.returns-then-bytes-div_ceil-clause-all
returns-then-bytes-div_ceil-clause-all c =
    λ ds p.
    let long = long_enough c.args.width c.args.count c.args.bytes.now ds p in
    let product : c.from.result * c.from-2.result ≡ c.args.count * c.args.width = ap (λ n. n * c.from-2.result) c.from.ensures
    ∙ ap (λ n. c.args.count * n) c.from-2.ensures in
    let same : length c.args.bytes.now ≡ c.div_ceil.result = omega arith in
    absurd (c.if-bytes-div_ceil.true same)

pub loop-init : goal.loop-init
loop-init c =
    let w = c.args.width in
    let left = c.new-bits.result in
    let count = ap (λ (b : Bits). b.count) c.new-bits.ensures in
    let value = ap (λ (b : Bits). b.value) c.new-bits.ensures in
    let none = c.new-numbers.ensures in
    let no_number = ap (λ l. packed_number w l * 2 ^ left.count) none ∙ ap (λ n. n * 2 ^ left.count) (nothing w) in
    record {
      many = ap length none;
      count = omega arith;
      value = omega arith;
      fits = ap (λ l. fit w l) none;
    }

pub take-requires-clause-left : goal.take-requires-clause-left
take-requires-clause-left c =
    let product = mul-le (c.loop.counter + 1) c.args.width c.args.count c.args.width (omega arith) (omega arith) in
    let whole : c.from.result * c.from-2.result ≡ c.args.count * c.args.width = ap (λ n. n * c.from-2.result) c.from.ensures
    ∙ ap (λ n. c.args.count * n) c.from-2.ensures in
    let bits = c.loop.invariant.count in
    omega arith

pub push-requires : goal.push-requires
push-requires c = (omega arith, omega arith)

pub loop-preserved : goal.loop-preserved
loop-preserved c =
    let w = c.args.width in
    let numbers = c.loop.numbers.items in
    let pushed = c.push.ensures.items in
    let taken = c.take.ensures in
    let left = c.take.new.self in
    let bits = c.loop.invariant.count in
    record {
      many = omega arith;
      count = omega arith;
      value = ap (λ l. packed_number w l * 2 ^ left.count + left.value) pushed ∙ read_more w numbers c.take.result c.loop.bits.count
          c.loop.bits.value left.count left.value taken.count taken.value ∙ c.loop.invariant.value;
      fits = ap (λ l. fit w l) pushed ∙ fit_push w numbers c.take.result c.loop.invariant.fits taken.fits;
    }

pub is_filled-requires : goal.is_filled-requires
is_filled-requires c =
    let whole : c.from.result * c.from-2.result ≡ c.args.count * c.args.width = ap (λ n. n * c.from-2.result) c.from.ensures
    ∙ ap (λ n. c.args.count * n) c.from-2.ensures in
    let all : c.loop.counter ≡ c.args.count = omega arith in
    let bits : c.loop.bits.count + c.args.count * c.args.width ≡ 8 * length c.args.bytes.now =
    ap (λ n. c.loop.bits.count + n * c.args.width) (sym all) ∙ c.loop.invariant.count in
    omega arith

pub returns-then-is_filled-clause-some : goal.returns-then-is_filled-clause-some
returns-then-is_filled-clause-some c =
    let whole : c.from.result * c.from-2.result ≡ c.args.count * c.args.width = ap (λ n. n * c.from-2.result) c.from.ensures
    ∙ ap (λ n. c.args.count * n) c.from-2.ensures in
    let none = eqb-true c.loop.bits.value 0 (sym c.is_filled.ensures.zero ∙ c.if-is_filled.true) in
    all_read c.args.width c.args.count c.loop.counter c.loop.bits.count c.loop.bits.value c.args.bytes.now c.loop.numbers.items
    (λ k. let byte = c.type_inv.bytes k in omega arith) (omega arith) (omega arith) c.loop.invariant.count
    c.loop.invariant.many c.loop.invariant.fits c.loop.invariant.value none

pub returns-then-is_filled-clause-all : goal.returns-then-is_filled-clause-all
returns-then-is_filled-clause-all c =
    let whole : c.from.result * c.from-2.result ≡ c.args.count * c.args.width = ap (λ n. n * c.from-2.result) c.from.ensures
    ∙ ap (λ n. c.args.count * n) c.from-2.ensures in
    let none = eqb-true c.loop.bits.value 0 (sym c.is_filled.ensures.zero ∙ c.if-is_filled.true) in
    let packs =
    all_read c.args.width c.args.count c.loop.counter c.loop.bits.count c.loop.bits.value c.args.bytes.now c.loop.numbers.items
    (λ k. let byte = c.type_inv.bytes k in omega arith) (omega arith) (omega arith) c.loop.invariant.count
    c.loop.invariant.many c.loop.invariant.fits c.loop.invariant.value none in
    λ ds p. ap (λ (l : List ℕ). Some (record { items = l })) (same_numbers c.args.width c.args.count c.args.bytes.now c.loop.numbers.items ds packs p)

pub returns-else-is_filled-clause-all : goal.returns-else-is_filled-clause-all
returns-else-is_filled-clause-all c =
    let all : c.loop.counter ≡ c.args.count = omega arith in
    let bits : c.loop.bits.count + c.args.count * c.args.width ≡ 8 * length c.args.bytes.now =
    ap (λ n. c.loop.bits.count + n * c.args.width) (sym all) ∙ c.loop.invariant.count in
    λ ds p.
    let none = nothing_left c.args.width c.args.count c.loop.bits.count c.loop.bits.value c.args.bytes.now c.loop.numbers.items ds bits
    c.is_filled.ensures.below c.loop.invariant.value p in
    absurd (both_ways (c.loop.bits.value == 0) (sym c.is_filled.ensures.zero ∙ c.if-is_filled.false) (eq-eqb c.loop.bits.value 0 none))
