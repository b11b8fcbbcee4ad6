-- Lists of losses in order, with the same lines, are the same.
use Rattle.std.proofs.Common.{◌≡◌, inl, inr, List, [], ◌∷◌, Bool, true, false, not, ◌&&◌, ◌||◌, refl, sym, ◌∙◌, ap, subst}
use Rattle.std.proofs.lemmas.Bool.{cases_Bool, false≢true, or_cases, or_left}
use Rattle.std.specs.Ordering.{ordering_reverse}
use Rattle.std.specs.List.{AllByRecursion, list_any}
use Rattle.std.specs.declared.cmp.Ordering.{Ordering}
use Rattle.std.specs.declared.cmp.Ordering.TheVariants.{Less, Greater}
use Rattle.link_trace.specs.Order.{by_loss}
use Rattle.link_trace.specs.Passes.{is_loss}
use Rattle.link_trace.specs.declared.lines.LoseLine.{LoseLine}
use Rattle.link_trace.proofs.Orders.{by_loss_total}
use Rattle.scenario_text.specs.FloodDrafts.{Climbs}
use Rattle.drawn_bus.proofs.LinesAmong.{is_itself}
use Rattle.drawn_bus.proofs.LinesWithLosses.{named_so}

abbrev is_here : LoseLine → LoseLine → Bool
is_here x l = is_loss x.frame x.slot x.step x.from x.to l

abbrev pub Below : LoseLine → LoseLine → Type 0
Below a b = by_loss a b ≡ Less

not_both : (a b : LoseLine) → Below a b → Below b a → ⊥
not_both a b one other = apart (sym one ∙ by_loss_total.antisymm a b ∙ ap ordering_reverse other)
  where
    apart : ◌≡◌ {A = Ordering} Less Greater → ⊥
    apart same = cc

-- what holds of each holds of one that is among them
at_line : (P : LoseLine → Type 0) (y : LoseLine) (ls : List LoseLine) → AllByRecursion P ls → list_any (is_here y) ls ≡ true → P y
at_line P y [] all is = absurd (false≢true is)
at_line P y (l ∷ ls) all is = elim (or_cases (is_here y l) (list_any (is_here y) ls) is) [
  | inl here ↦ subst P (named_so y.frame y.slot y.step y.from y.to l here) all.0
  | inr later ↦ at_line P y ls all.1 later
]

-- the first of both are the same
same_first : (x y : LoseLine) (xs ys : List LoseLine) → AllByRecursion (Below x) xs → AllByRecursion (Below y) ys
    → list_any (is_here y) (x ∷ xs) ≡ true → list_any (is_here x) (y ∷ ys) ≡ true → x ≡ y
same_first x y xs ys above beyond has had = elim (or_cases (is_here y x) (list_any (is_here y) xs) has) [
  | inl here ↦ named_so y.frame y.slot y.step y.from y.to x here
  | inr later ↦
      elim (or_cases (is_here x y) (list_any (is_here x) ys) had) [
        | inl there ↦ sym (named_so x.frame x.slot x.step x.from x.to y there)
        | inr after ↦ absurd (not_both x y (at_line (Below x) y xs above later) (at_line (Below y) x ys beyond after))
      ]
]

-- a test that leaves one line out
abbrev but : LoseLine → (LoseLine → Bool) → LoseLine → Bool
but x test l = test l && not (is_here x l)

not_here : (x l : LoseLine) → Below x l → is_here x l ≡ false
not_here x l below = elim (cases_Bool (is_here x l)) [
  | inl is ↦
      (let same : l ≡ x = named_so x.frame x.slot x.step x.from x.to l is in
      absurd (not_both x x (subst (Below x) same below) (subst (Below x) same below)))
  | inr not ↦ not
]

left_alone : (x : LoseLine) (test : LoseLine → Bool) (ls : List LoseLine) → AllByRecursion (Below x) ls → list_any (but x test) ls ≡ list_any test ls
left_alone x test [] all = refl
left_alone x test (l ∷ ls) all =
    ap (λ (b : Bool). (test l && not b) || list_any (but x test) ls) (not_here x l all.0) ∙ kept (test l) (list_any (but x test) ls)
    ∙ ap (λ (b : Bool). test l || b) (left_alone x test ls all.1)
  where
    kept : (b more : Bool) → ((b && true) || more) ≡ (b || more)
    kept true more = refl
    kept false more = refl

gone : (x : LoseLine) (test : LoseLine → Bool) → but x test x ≡ false
gone x test = ap (λ (b : Bool). test x && not b) (is_itself x) ∙ none (test x)
  where
    none : (b : Bool) → (b && false) ≡ false
    none true = refl
    none false = refl

rest : (x : LoseLine) (test : LoseLine → Bool) (ls : List LoseLine) → AllByRecursion (Below x) ls → list_any (but x test) (x ∷ ls) ≡ list_any test ls
rest x test ls all = ap (λ (b : Bool). b || list_any (but x test) ls) (gone x test) ∙ left_alone x test ls all

pub same_losses : (xs ys : List LoseLine) → Climbs Below xs → Climbs Below ys → ((test : LoseLine → Bool) → list_any test xs ≡ list_any test ys) → xs ≡ ys
same_losses [] [] one other same = refl
same_losses [] (y ∷ ys) one other same = absurd (false≢true (same (is_here y) ∙ or_left (is_here y y) (list_any (is_here y) ys) (is_itself y)))
same_losses (x ∷ xs) [] one other same = absurd (false≢true (sym (same (is_here x)) ∙ or_left (is_here x x) (list_any (is_here x) xs) (is_itself x)))
same_losses (x ∷ xs) (y ∷ ys) one other same =
    let first : x ≡ y =
    same_first x y xs ys one.0 other.0 (same (is_here y) ∙ or_left (is_here y y) (list_any (is_here y) ys) (is_itself y))
    (sym (same (is_here x)) ∙ or_left (is_here x x) (list_any (is_here x) xs) (is_itself x)) in
    let beyond : AllByRecursion (Below x) ys = subst (λ (l : LoseLine). AllByRecursion (Below l) ys) (sym first) other.0 in
    let alike : (test : LoseLine → Bool) → list_any test xs ≡ list_any test ys =
    λ test. sym (rest x test xs one.0) ∙ same (but x test) ∙ ap (λ (l : LoseLine). list_any (but x test) (l ∷ ys)) (sym first) ∙ rest x test ys beyond in
    ap (λ (ls : List LoseLine). x ∷ ls) (same_losses xs ys one.1 other.1 alike) ∙ ap (λ (l : LoseLine). l ∷ ys) first
