-- Lines of words that are allowed one after another.
use Rattle.std.proofs.Common.{◌≡◌, ℕ, ◌+◌, List, [], ◌∷◌, ◌++◌, Bool, true, false, not, Some, None, Ok, map, refl, sym, ◌∙◌, ap, subst}
use Rattle.std.proofs.lemmas.Bool.{cond-true, or_from}
use Rattle.std.proofs.lemmas.List.{append-nil, append_assoc}
use Rattle.std.specs.List.{AllByRecursion, list_any, join_with_byte}
use Rattle.std.specs.Ordering.{is_lt, is_eq}
use Rattle.std.specs.declared.cmp.Ordering.{Ordering}
use Rattle.std.specs.declared.cmp.Ordering.TheVariants.{Less}
use Rattle.link_trace.specs.Order.{with_line}
use Rattle.text_readers.specs.Faults.{first_fault, draft_after_lines}
use Rattle.scenario_text.specs.FloodDrafts.{Climbs}
use Rattle.scenario_text.specs.ScenarioGrammar.{Scenario, line_fault, with_scenario_line, scenario_after_words, line_in_range}
use Rattle.scenario_text.specs.ScenarioGrammar.{line_knows_ids, line_in_order, line_is_new, line_has_room}
use Rattle.text_readers.specs.Reading.{draft_after_line}
use Rattle.text_readers.specs.declared.fault.FaultKind.TheVariants.{Range, UnknownNode, Order, Twice, TooMany}
use Rattle.scenario_text.specs.declared.scenario_line.ScenarioLine.{ScenarioLine}
use Rattle.scenario_text.proofs.TextBack.{IsWord}
use Rattle.scenario_text.proofs.LinesSaid.{Says, said}
use Rattle.text_readers.proofs.LinesRead.{one_line_more}
use Rattle.text_readers.proofs.AllowedLines.{passed}

-- one line
pub record Step (d : Scenario) (ws : List (List ℕ)) (e : Scenario) : Type 0 where
  pub are_words : AllByRecursion IsWord ws
  pub after : draft_after_line scenario_after_words d (join_with_byte 32 ws) ≡ Ok e

-- the lines, from one draft to another
abbrev pub Goes : Scenario → List (List (List ℕ)) → Scenario → Type 0
Goes d [] e = d ≡ e
Goes d (ws ∷ ls) e = (x : Scenario) × (Step d ws x × Goes x ls e)

pub goes_append : (d e g : Scenario) (ls ms : List (List (List ℕ))) → Goes d ls e → Goes e ms g → Goes d (ls ++ ms) g
goes_append d e g [] ms first later = subst (λ (x : Scenario). Goes x ms g) (sym first) later
goes_append d e g (ws ∷ ls) ms first later = (first.0, (first.1.0, goes_append first.0 e g ls ms first.1.1 later))

pub goes_words : (d e : Scenario) (ls : List (List (List ℕ))) → Goes d ls e → AllByRecursion (λ ws. AllByRecursion IsWord ws) ls
goes_words d e [] goes = tt
goes_words d e (ws ∷ ls) goes = (goes.1.0.are_words, goes_words goes.0 e ls goes.1.1)

pub goes_after : (n : ℕ) (d e : Scenario) (ls : List (List (List ℕ))) → Goes d ls e
    → draft_after_lines (draft_after_line scenario_after_words) n d (map (join_with_byte 32) ls) ≡ Ok e
goes_after n d e [] goes = ap Ok goes
goes_after n d e (ws ∷ ls) goes =
    one_line_more (draft_after_line scenario_after_words) n d goes.0 (join_with_byte 32 ws) (map (join_with_byte 32) ls) goes.1.0.after
    ∙ goes_after (n + 1) goes.0 e ls goes.1.1

-- an allowed line
pub record Allowed (d : Scenario) (l : ScenarioLine) : Type 0 where
  pub range : line_in_range d l ≡ true
  pub known : line_knows_ids d l ≡ true
  pub order : line_in_order d l ≡ true
  pub fresh : line_is_new d l ≡ true
  pub room : line_has_room d l ≡ true

pub allowed : (d : Scenario) (l : ScenarioLine) → line_fault d l ≡ None → Allowed d l
allowed d l none =
    let range = passed (line_in_range d l) Range _ none in
    let known = passed (line_knows_ids d l) UnknownNode _ range.1 in
    let order = passed (line_in_order d l) Order _ known.1 in
    let fresh = passed (line_is_new d l) Twice _ order.1 in
    let room = passed (line_has_room d l) TooMany _ fresh.1 in
    record { range = range.0; known = known.0; order = order.0; fresh = fresh.0; room = room.0 }

no_fault : (a b c d e : Bool) → a ≡ true → b ≡ true → c ≡ true → d ≡ true → e ≡ true
    → first_fault ((a, Range) ∷ (b, UnknownNode) ∷ (c, Order) ∷ (d, Twice) ∷ (e, TooMany) ∷ []) ≡ None
no_fault a b c d e p q r s t =
    cond-true a (first_fault ((b, UnknownNode) ∷ (c, Order) ∷ (d, Twice) ∷ (e, TooMany) ∷ [])) (Some Range) p
    ∙ cond-true b (first_fault ((c, Order) ∷ (d, Twice) ∷ (e, TooMany) ∷ [])) (Some UnknownNode) q
    ∙ cond-true c (first_fault ((d, Twice) ∷ (e, TooMany) ∷ [])) (Some Order) r
    ∙ cond-true d (first_fault ((e, TooMany) ∷ [])) (Some Twice) s
    ∙ cond-true e None (Some TooMany) t

pub allowed_back : (d : Scenario) (l : ScenarioLine) → Allowed d l → line_fault d l ≡ None
allowed_back d l a =
    no_fault (line_in_range d l) (line_knows_ids d l) (line_in_order d l) (line_is_new d l) (line_has_room d l) a.range a.known a.order a.fresh a.room

pub step : (d : Scenario) (ws : List (List ℕ)) (l : ScenarioLine) (e : Scenario) → Says ws l → Allowed d l → with_scenario_line d l ≡ e → Step d ws e
step d ws l e says allowed is = record {
  are_words = says.are_words;
  after = said d ws l says (allowed_back d l allowed) ∙ ap Ok is;
}

-- the lines of a list, where each step appends an element
pub goes_list : {A : Type 0} (words : A → List (List ℕ)) (state : List A → Scenario) (whole : List A)
    → ((xs : List A) (x : A) (ys : List A) → xs ++ x ∷ ys ≡ whole → Step (state xs) (words x) (state (xs ++ x ∷ [])))
    → (xs ys : List A) → xs ++ ys ≡ whole → Goes (state xs) (map words ys) (state whole)
goes_list words state whole one xs [] is = ap state (sym (append-nil xs) ∙ is)
goes_list words state whole one xs (y ∷ ys) is =
    (state (xs ++ y ∷ []), (one xs y ys is, goes_list words state whole one (xs ++ y ∷ []) ys (append_assoc xs (y ∷ []) ys ∙ is)))

-- an element among others
pub middle : {A : Type 0} (P : A → Type 0) (xs : List A) (x : A) (ys : List A) → AllByRecursion P (xs ++ x ∷ ys) → P x
middle P [] x ys all = all.0
middle P (y ∷ xs) x ys all = middle P xs x ys all.1

pub front_all : {A : Type 0} (P : A → Type 0) (xs ys : List A) → AllByRecursion P (xs ++ ys) → AllByRecursion P xs
front_all P [] ys all = tt
front_all P (x ∷ xs) ys all = (all.0, front_all P xs ys all.1)

pub climbs_before : {A : Type 0} (R : A → A → Type 0) (xs : List A) (x : A) (ys : List A) → Climbs R (xs ++ x ∷ ys) → AllByRecursion (λ y. R y x) xs
climbs_before R [] x ys climbs = tt
climbs_before R (y ∷ xs) x ys climbs = (middle (R y) xs x ys climbs.0, climbs_before R xs x ys climbs.1)

pub climbs_front : {A : Type 0} (R : A → A → Type 0) (xs ys : List A) → Climbs R (xs ++ ys) → Climbs R xs
climbs_front R [] ys climbs = tt
climbs_front R (x ∷ xs) ys climbs = (front_all (R x) xs ys climbs.0, climbs_front R xs ys climbs.1)

-- a line above all others is the last
pub with_line_last : {L : Type 0} (order : L → L → Ordering) (l : L) (ls : List L) → AllByRecursion (λ x. order x l ≡ Less) ls
    → with_line order l ls ≡ ls ++ l ∷ []
with_line_last order l [] all = refl
with_line_last order l (x ∷ xs) all =
    cond-true (is_lt (order x l)) (x ∷ with_line order l xs) (l ∷ x ∷ xs) (ap is_lt all.0) ∙ ap (λ (r : List _). x ∷ r) (with_line_last order l xs all.1)

-- and is not among them
pub none_among : {L : Type 0} (order : L → L → Ordering) (test : L → Bool) (l : L) (ls : List L) → ((x : L) → is_eq (order x l) ≡ test x)
    → AllByRecursion (λ x. order x l ≡ Less) ls → not (list_any test ls) ≡ true
none_among order test l ls tells all = ap not (none ls all)
  where
    none : (xs : List _) → AllByRecursion (λ x. order x l ≡ Less) xs → list_any test xs ≡ false
    none [] all = refl
    none (x ∷ xs) all = or_from (test x) (list_any test xs) (sym (tells x) ∙ ap is_eq all.0) (none xs all.1)
