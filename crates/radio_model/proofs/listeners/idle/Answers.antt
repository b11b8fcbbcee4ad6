use Rattle.std.proofs.Common.{◌≡◌, ℕ, ◌∙◌, ap, arith}
use Rattle.std.proofs.lemmas.Nat.Bits.{bit_at_ones}
use Rattle.std.specs.Int.{bit_at}
use Rattle.radio_model.proofs.listeners.idle.Goals as goal

pub returns : goal.returns
returns c = λ i small none.
    let one : bit_at c.of_word.result i ≡ 1 = ap (λ (n : ℕ). bit_at n i) c.of_word.ensures ∙ bit_at_ones 64 i small in
    omega (arith, c.except.ensures i, one, none)
