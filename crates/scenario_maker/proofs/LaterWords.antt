-- Words further on in the stream.
use Rattle.std.proofs.Common.{◌≡◌, ℕ, zero, suc, ◌+◌, refl, sym, ◌∙◌, ap, arith, suc-add}
use Rattle.rand_pcg.specs.Lcg.{Lcg, next, state_after, next_state}
use Rattle.rand_pcg.specs.Pcg.{multiplier_64, output_xsh_rr}
use Rattle.scenario_maker.specs.Drawn.{later, drawn_word}

after_both : (m p a b s : ℕ) → state_after 64 m p b (state_after 64 m p a s) ≡ state_after 64 m p (a + b) s
unfolding state_after
after_both m p zero b s = let same : b ≡ 0 + b = omega arith in ap (λ (n : ℕ). state_after 64 m p n s) same
after_both m p (suc a) b s = after_both m p a b (next_state 64 m p s) ∙ ap (λ (n : ℕ). state_after 64 m p n s) (sym (suc-add a b))

-- a words on, and then b
pub twice_on : (a b : ℕ) (g : Lcg) → later b (later a g) ≡ later (a + b) g
unfolding later
twice_on a b g =
    let at : ℕ → Lcg = λ s. record { state = s; increment = g.increment } in
    ap at (after_both multiplier_64 g.increment a b g.state)

pub none_on : (g : Lcg) → later 0 g ≡ g
unfolding later state_after
none_on g = refl

pub word_on : (a k : ℕ) (g : Lcg) → drawn_word (later a g) k ≡ drawn_word g (a + k)
unfolding drawn_word
word_on a k g = ap (λ (h : Lcg). output_xsh_rr h.state) (twice_on a k g)

pub first_word : (g : Lcg) → drawn_word g 0 ≡ output_xsh_rr g.state
unfolding drawn_word later state_after
first_word g = refl

pub one_on : (g : Lcg) → later 1 g ≡ next 64 multiplier_64 g
unfolding later state_after
one_on g = refl
