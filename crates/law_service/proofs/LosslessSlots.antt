-- A slot that no line of the trace touches loses nothing.
use Rattle.std.proofs.Common.{◌≡◌, ◌==◌, ◌&&◌, ◌||◌, ℕ, List, [], ◌∷◌, Bool, true, false, not, refl, sym, ◌∙◌, nat_lt, nat_le}
use Rattle.link_trace.specs.declared.lines.CutLine.{CutLine}
use Rattle.law_service.proofs.Words.{list_any, false≢true, or_from, or_parts, is_loss, cuts_by, LoseLine, SlotsWithoutLinesLoseNothing}

-- where a test fails of all, so does one that is harder to pass
pub none_harder : {X : Type 0} (p q : X → Bool) → ((x : X) → q x ≡ true → p x ≡ true) → (xs : List X) → list_any p xs ≡ false → list_any q xs ≡ false
none_harder p q harder [] none = refl
none_harder p q harder (x ∷ xs) none =
    let both = or_parts (p x) (list_any p xs) none in
    or_from (q x) (list_any q xs) (by_test (q x) refl both.0) (none_harder p q harder xs both.1)
  where
    by_test : (t : Bool) → q x ≡ t → p x ≡ false → q x ≡ false
    by_test true is not_p = absurd (false≢true (sym not_p ∙ harder x is))
    by_test false is not_p = is

all_pass : (a b c d : Bool) → a ≡ true → b ≡ false → c ≡ false → d ≡ false → (a && not b && not c && not d) ≡ true
all_pass a b c d first second third fourth = rw (first, second, third, fourth) refl

pub lose_nothing : SlotsWithoutLinesLoseNothing
lose_nothing s rank f p states j untouched k u v early from to linked =
    all_pass _ _ _ _ linked
    (none_harder (λ (l : LoseLine). (l.frame == f) && (l.slot == j)) (is_loss f j k u v) of_slot s.trace.losses untouched.losses)
    (none_harder (λ (l : CutLine). l.frame == f) (λ l. cuts_by f j k l && (l.node == u)) (of_frame u) s.trace.cuts untouched.cuts)
    (none_harder (λ (l : CutLine). l.frame == f) (λ l. cuts_by f j k l && (l.node == v)) (of_frame v) s.trace.cuts untouched.cuts)
  where
    first_two : (a b c d e : Bool) → (a && b && c && d && e) ≡ true → (a && b) ≡ true
    first_two true true c d e is = refl
    first_two true false c d e is = is
    first_two false b c d e is = is

    first_one : (a b c : Bool) → ((a && b) && c) ≡ true → a ≡ true
    first_one true b c is = refl
    first_one false b c is = is

    of_slot : (l : LoseLine) → is_loss f j k u v l ≡ true → ((l.frame == f) && (l.slot == j)) ≡ true
    of_slot l is = first_two (l.frame == f) (l.slot == j) (l.step == k) (l.from == u) (l.to == v) is

    of_frame : (w : ℕ) (l : CutLine) → (cuts_by f j k l && (l.node == w)) ≡ true → (l.frame == f) ≡ true
    of_frame w l is = first_one (l.frame == f) (nat_lt l.slot j || ((l.slot == j) && nat_le l.step k)) (l.node == w) is
