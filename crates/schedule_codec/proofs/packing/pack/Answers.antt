use Rattle.std.proofs.Common.{◌≡◌, ℕ, length, ◌+◌, ◌*◌, ◌^◌, ap, sym, ◌∙◌, arith, get_or}
use Rattle.std.proofs.lemmas.List.{take_all}
use Rattle.schedule_codec.specs.Packing.{Bits, packed_number, digits, bytes_for, fill}
use Rattle.schedule_codec.proofs.Packs.{fit_at, number_more, has_room}
use Rattle.schedule_codec.proofs.Numbers.{nothing}
use Rattle.schedule_codec.proofs.packing.pack.Goals as goal

pub loop-number-init : goal.loop-number-init
loop-number-init c = record {
  count = ap (λ (b : Bits). b.count) c.new-bits.ensures ∙ omega arith;
  value = ap (λ (b : Bits). b.value) c.new-bits.ensures ∙ sym (nothing c.args.width);
}

pub push-requires-clause-value : goal.push-requires-clause-value
push-requires-clause-value c = fit_at c.args.width c.args.numbers.now c.loop-number.number-index c.requires.fits c.loop-number-test.true

pub push-requires-clause-room : goal.push-requires-clause-room
push-requires-clause-room c = omega (arith, has_room c.loop-number.number-index c.args.width (omega arith) c.requires.narrow)

pub loop-number-preserved : goal.loop-number-preserved
loop-number-preserved c =
    let i = c.loop-number.number-index in
    let w = c.args.width in
    let numbers = c.args.numbers.now in
    record {
      count = ap (λ (b : Bits). b.count) c.push.ensures ∙ omega arith;
      value = ap (λ (b : Bits). b.value) c.push.ensures ∙ ap (λ n. n * 2 ^ w + get_or numbers i 0) c.loop-number.invariant.value
          ∙ sym (number_more w numbers i c.loop-number-test.true);
    }

pub returns : goal.returns
returns c =
    let w = c.args.width in
    let numbers = c.args.numbers.now in
    let bits = c.loop-number.bits in
    let all : c.loop-number.number-index ≡ length numbers = omega arith in
    let count : bits.count ≡ length numbers * w = c.loop-number.invariant.count ∙ ap (λ i. i * w) all in
    let value : bits.value ≡ packed_number w numbers = c.loop-number.invariant.value
    ∙ ap (λ l. packed_number w l) (take_all c.loop-number.number-index numbers (omega arith)) in
    c.finish.ensures ∙ ap (λ (n : ℕ). digits 8 (bytes_for n) (bits.value * 2 ^ fill n)) count
    ∙ ap (λ n. digits 8 (bytes_for (length numbers * w)) (n * 2 ^ fill (length numbers * w))) value
