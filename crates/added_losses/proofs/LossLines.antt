-- Lose lines added one by one: which lines are then there, how many, and that they are in order.
use Rattle.std.proofs.Common.{◌≡◌, ◌≢◌, ℕ, ◌+◌, ◌≤◌, List, [], ◌∷◌, ◌++◌, Bool, true, false, ◌||◌, length, take, get_or}
use Rattle.std.proofs.Common.{refl, sym, ◌∙◌, ap, arith, inl, inr, ◌<◌}
use Rattle.std.proofs.lemmas.Bool.{cases_Bool, cond_both, cond-false, false≢true, or_cases, or_left, or_right}
use Rattle.std.proofs.lemmas.List.{append_assoc, append-nil, take_more}
use Rattle.std.proofs.lemmas.List.Folds.{list_any-append}
use Rattle.std.proofs.lemmas.List.Sums.{fold-append}
use Rattle.std.specs.List.{AllByRecursion, fold, list_any}
use Rattle.std.specs.declared.cmp.Ordering.TheVariants.{Less}
use Rattle.link_trace.specs.Order.{by_loss, with_line}
use Rattle.link_trace.specs.Passes.{Lines, is_loss}
use Rattle.link_trace.specs.declared.lines.LoseLine.{LoseLine}
use Rattle.link_trace.proofs.Inserted.{list_any-with_line}
use Rattle.link_trace.proofs.Orders.{by_loss_total, tells_loss}
use Rattle.scenario_text.specs.FloodDrafts.{Climbs}
use Rattle.scenario_text.proofs.DraftFacts.{with_line_all, with_line_climbs, with_line_length}
use Rattle.drawn_bus.proofs.LinesWithLosses.{named_so}
use Rattle.added_losses.specs.LossesAdded.{has_line, with_new_line}

-- the line that one names
same_line : (l x : LoseLine) → is_loss l.frame l.slot l.step l.from l.to x ≡ true → x ≡ l
same_line l x is = named_so l.frame l.slot l.step l.from l.to x is

passes_there : (test : LoseLine → Bool) (l : LoseLine) (ls : List LoseLine) → has_line ls l ≡ true → test l ≡ true → list_any test ls ≡ true
passes_there test l [] there passes = absurd (false≢true there)
passes_there test l (x ∷ xs) there passes = elim (or_cases (is_loss l.frame l.slot l.step l.from l.to x) (has_line xs l) there) [
  | inl here ↦ or_left (test x) (list_any test xs) (ap test (same_line l x here) ∙ passes)
  | inr later ↦ or_right (test x) (list_any test xs) (passes_there test l xs later passes)
]

-- a test tells no difference between a line more at its place and one at the end
one_more : (test : LoseLine → Bool) (ls : List LoseLine) (l : LoseLine) → list_any test (with_new_line ls l) ≡ list_any test (ls ++ l ∷ [])
one_more test ls l =
    cond_both (has_line ls l) ls (with_line by_loss l ls) (λ (xs : List LoseLine). list_any test xs ≡ list_any test (ls ++ l ∷ []))
    (λ there. kept (test l) (list_any test ls) (passes_there test l ls there) ∙ sym (list_any-append test ls (l ∷ [])))
    (λ fresh. list_any-with_line by_loss test l ls ∙ turned (test l) (list_any test ls) ∙ sym (list_any-append test ls (l ∷ [])))
  where
    kept : (a b : Bool) → (a ≡ true → b ≡ true) → b ≡ (b || (a || false))
    kept true true there = refl
    kept true false there = absurd (false≢true (there refl))
    kept false true there = refl
    kept false false there = refl

    turned : (a b : Bool) → (a || b) ≡ (b || (a || false))
    turned true true = refl
    turned true false = refl
    turned false true = refl
    turned false false = refl

-- and between all of them and those at the end
pub all_more : (test : LoseLine → Bool) (more ls : List LoseLine) → list_any test (fold with_new_line ls more) ≡ list_any test (ls ++ more)
all_more test [] ls = ap (list_any test) (sym (append-nil ls))
all_more test (l ∷ more) ls =
    all_more test more (with_new_line ls l) ∙ list_any-append test (with_new_line ls l) more
    ∙ ap (λ (b : Bool). b || list_any test more) (one_more test ls l) ∙ sym (list_any-append test (ls ++ l ∷ []) more)
    ∙ ap (list_any test) (append_assoc ls (l ∷ []) more)

-- one turn of the loop
pub turn_more : (s t new : Lines) (more : List LoseLine) (i : ℕ) (x : LoseLine) → i < length more → x ≡ get_or more i x
    → t ≡ record s { losses = fold with_new_line s.losses (take i more) } → new ≡ record t { losses = with_new_line t.losses x }
    → new ≡ record s { losses = fold with_new_line s.losses (take (i + 1) more) }
turn_more s t new more i x below at done added =
    let taken : take (i + 1) more ≡ take i more ++ x ∷ [] = take_more more i x below ∙ ap (λ (l : LoseLine). take i more ++ l ∷ []) (sym at) in
    let lost : List LoseLine → Lines = λ ls. record s { losses = ls } in
    let step : Lines → Lines = λ u. record u { losses = with_new_line u.losses x } in
    added ∙ ap step done
    ∙ ap lost (sym (fold-append with_new_line s.losses (take i more) (x ∷ [])) ∙ ap (fold with_new_line s.losses) (sym taken))

-- at most one more for each
pub few_more : (more ls : List LoseLine) → length (fold with_new_line ls more) ≤ length ls + length more
few_more [] ls = omega arith
few_more (l ∷ more) ls = omega (arith, longer, few_more more (with_new_line ls l))
  where
    longer : length (with_new_line ls l) ≤ length ls + 1
    longer =
        cond_both (has_line ls l) ls (with_line by_loss l ls) (λ (xs : List LoseLine). length xs ≤ length ls + 1) (λ there. omega arith)
        (λ fresh. omega (arith, with_line_length by_loss l ls))

-- and just one, where they are new and differ
pub count_more : (more ls : List LoseLine) → AllByRecursion (λ l. has_line ls l ≡ false) more → Climbs (λ a b. a ≢ b) more
    → length (fold with_new_line ls more) ≡ length ls + length more
count_more [] ls new apart = omega arith
count_more (l ∷ more) ls new apart =
    let added : with_new_line ls l ≡ with_line by_loss l ls = cond-false (has_line ls l) ls (with_line by_loss l ls) new.0 in
    ap (λ (xs : List LoseLine). length (fold with_new_line xs more)) added
    ∙ counted (count_more more (with_line by_loss l ls) (still_new more new.1 apart.0) apart.1)
  where
    counted : length (fold with_new_line (with_line by_loss l ls) more) ≡ length (with_line by_loss l ls) + length more
        → length (fold with_new_line (with_line by_loss l ls) more) ≡ length ls + length (l ∷ more)
    counted is = omega (arith, is, with_line_length by_loss l ls)

    neither : (a b : Bool) → a ≡ false → b ≡ false → (a || b) ≡ false
    neither false false first second = refl
    neither false true first second = absurd (false≢true (sym second))
    neither true b first second = absurd (false≢true (sym first))

    still_new : (xs : List LoseLine) → AllByRecursion (λ x. has_line ls x ≡ false) xs → AllByRecursion (λ x. l ≢ x) xs
        → AllByRecursion (λ x. has_line (with_line by_loss l ls) x ≡ false) xs
    still_new [] none differ = tt
    still_new (x ∷ xs) none differ = (
      list_any-with_line by_loss (is_loss x.frame x.slot x.step x.from x.to) l ls
          ∙ neither (is_loss x.frame x.slot x.step x.from x.to l) (has_line ls x) (not_same x differ.0) none.0,
      still_new xs none.1 differ.1,
    )
      where
        not_same : (x : LoseLine) → l ≢ x → is_loss x.frame x.slot x.step x.from x.to l ≡ false
        not_same x differ = elim (cases_Bool (is_loss x.frame x.slot x.step x.from x.to l)) [
          | inl is ↦ absurd (differ (same_line x l is))
          | inr apart ↦ apart
        ]

-- what holds of all lines, and that they ascend
pub record AreInOrder (P : LoseLine → Type 0) (ls : List LoseLine) : Type 0 where
  pub each : AllByRecursion P ls
  pub climb : Climbs (λ a b. by_loss a b ≡ Less) ls

pub still_ordered : (P : LoseLine → Type 0) (more ls : List LoseLine) → AllByRecursion P more → AreInOrder P ls
    → AreInOrder P (fold with_new_line ls more)
still_ordered P [] ls all are = are
still_ordered P (l ∷ more) ls all are =
    still_ordered P more (with_new_line ls l) all.1
    (cond_both (has_line ls l) ls (with_line by_loss l ls) (AreInOrder P) (λ there. are)
    (λ fresh. record {
      each = with_line_all P by_loss l ls all.0 are.each;
      climb = with_line_climbs by_loss (is_loss l.frame l.slot l.step l.from l.to) l ls by_loss_total
          (tells_loss l.frame l.slot l.step l.from l.to) fresh are.climb;
    }))
