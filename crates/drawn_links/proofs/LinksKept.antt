-- The ratios of each link, from the first line to one more.
use Rattle.std.proofs.Common.{◌≡◌, ◌≢◌, ℕ, ◌*◌, ◌-◌, ◌<◌, ◌≤◌, List, [], ◌∷◌, ◌++◌, Bool, true, false, ◌&&◌, ◌==◌}
use Rattle.std.proofs.Common.{length, get_or, map, filter, reverse, set, replicate}
use Rattle.std.proofs.Common.{AllPairs, Option, Some, None, option_map, IfSome, Result, Ok, Err, cond, inl, inr, refl, sym, ◌∙◌, ap, subst, arith, nat_le}
use Rattle.std.proofs.lemmas.Bool.{cases_lt, cases_eq, false≢true, eq-eqb, ne_eqb}
use Rattle.std.proofs.lemmas.List.{map-append, append-nil, length-replicate, get_or-replicate, get_or_default, get_or-set_same, get_or-set_other, length-set}
use Rattle.std.proofs.lemmas.List.Elements.{filter-append}
use Rattle.std.proofs.lemmas.List.Folds.{list_any_none}
use Rattle.std.proofs.lemmas.List.Sorted.{searched}
use Rattle.std.specs.List.{find, list_any, slice_get}
use Rattle.std.specs.List.Sorted.{IsBinarySearchResult}
use Rattle.std.specs.Ordering.{nat_cmp}
use Rattle.std.specs.Result.{IsOk}
use Rattle.lwb_base.specs.declared.limits.TheConstants.{MOST_NODES}
use Rattle.lwb_base.proofs.Orders.{rising}
use Rattle.drawn_links.specs.Ratios.{is_of_link, ratio_in}
use Rattle.drawn_links.specs.RatioTables.{AreRatioParts, last_frame, link_place, ratio_by, step_of, steps_of}
use Rattle.drawn_links.specs.declared.ratio_line.RatioLine.{RatioLine}
use Rattle.drawn_links.specs.declared.ratio_step.RatioStep.{RatioStep}
use Rattle.drawn_links.proofs.LastOnes.{last_of_all, last_of_kept}

-- what is in the list is found in it
pub is_found : (xs : List ℕ) (x : ℕ) (r : Result ℕ ℕ) → AllPairs (λ a b. a < b) xs → list_any (λ y. y == x) xs ≡ true
    → IsBinarySearchResult (λ y. nat_cmp y x) xs r → IsOk r
is_found xs x (Ok i) up known found = refl
is_found xs x (Err i) up known parted =
    let at = searched xs x (Err i) parted (rising xs up) in
    absurd (false≢true (sym (list_any_none (λ y. y == x) xs (λ k d inside. ne_eqb (get_or xs k d) x (differs at k d inside))) ∙ known))
  where
    differs : (i ≤ length xs) × ((k : ℕ) → k < i → get_or xs k 0 < x) × ((k : ℕ) → i ≤ k → k < length xs → x < get_or xs k 0)
        → (k d : ℕ) → k < length xs → get_or xs k d ≢ x
    differs at k d inside same =
        let is : get_or xs k 0 ≡ x = get_or_default xs k 0 d inside ∙ same in
        elim (cases_lt k i) [
          | inl before ↦ omega (arith, is, at.1 k before)
          | inr after ↦ omega (arith, is, at.2 k after inside)
        ]

-- no lines yet
pub no_lines : (nodes : List ℕ) → length nodes ≤ MOST_NODES → AllPairs (λ a b. a < b) nodes → AreRatioParts nodes [] (replicate (MOST_NODES * MOST_NODES) [])
no_lines nodes few up =
    let none : List RatioStep = [] in
    record {
      few = few;
      ascending = up;
      places = length-replicate (MOST_NODES * MOST_NODES) none;
      each = λ from to from_inside to_inside. get_or-replicate 4096 (link_place from to) none none (omega arith);
    }

-- what the lines say of a link in a frame
pub ratio_is : (lines : List RatioLine) (u v f : ℕ) → ratio_by (steps_of lines u v) f ≡ ratio_in lines f u v
ratio_is lines u v f = sym (last_of_kept (is_of_link u v) (λ (s : RatioStep). nat_le s.frame f) step_of (λ (s : RatioStep). s.ratio) lines)

and_true : (b : Bool) → b ≡ (b && true)
and_true true = refl
and_true false = refl

-- its last line
pub last_is : (lines : List RatioLine) (u v : ℕ)
    → option_map (λ (s : RatioStep). s.frame) (slice_get (steps_of lines u v) (length (steps_of lines u v) - 1)) ≡ last_frame lines u v
last_is lines u v =
    ap (option_map (λ (s : RatioStep). s.frame)) (sym (last_of_all (steps_of lines u v)))
    ∙ sym (last_of_kept (is_of_link u v) (λ (s : RatioStep). true) step_of (λ (s : RatioStep). s.frame) lines)
    ∙ sym (λ i. option_map (λ (l : RatioLine). l.frame) (find (λ (l : RatioLine). and_true (is_of_link u v l) i) (reverse lines)))

-- the last step is before a frame where the last line is
pub begins_later : (lines : List RatioLine) (u v n : ℕ) (link : List RatioStep) → link ≡ steps_of lines u v
    → IfSome (last_frame lines u v) (λ f. f < n) → IfSome (slice_get link (length link - 1)) (λ (s : RatioStep). s.frame < n)
begins_later lines u v n link is later =
    subst (λ (l : List RatioStep). IfSome (slice_get l (length l - 1)) (λ (s : RatioStep). s.frame < n)) (sym is)
    (by (slice_get (steps_of lines u v) (length (steps_of lines u v) - 1)) (subst (λ (o : Option ℕ). IfSome o (λ f. f < n)) (sym (last_is lines u v)) later))
  where
    by : (o : Option RatioStep) → IfSome (option_map (λ (s : RatioStep). s.frame) o) (λ f. f < n) → IfSome o (λ (s : RatioStep). s.frame < n)
    by None is = tt
    by (Some s) is = is

-- a line is of one link alone
own_more : (lines : List RatioLine) (l : RatioLine) (u v : ℕ) → is_of_link u v l ≡ true → steps_of (lines ++ l ∷ []) u v ≡ steps_of lines u v ++ step_of l ∷ []
own_more lines l u v own =
    ap (map step_of) (filter-append (is_of_link u v) lines (l ∷ [])
    ∙ ap (λ (b : Bool). filter (is_of_link u v) lines ++ cond b (l ∷ []) []) own)
    ∙ map-append step_of (filter (is_of_link u v) lines) (l ∷ [])

other_more : (lines : List RatioLine) (l : RatioLine) (u v : ℕ) → is_of_link u v l ≡ false → steps_of (lines ++ l ∷ []) u v ≡ steps_of lines u v
other_more lines l u v other =
    ap (map step_of) (filter-append (is_of_link u v) lines (l ∷ [])
    ∙ ap (λ (b : Bool). filter (is_of_link u v) lines ++ cond b (l ∷ []) []) other ∙ append-nil (filter (is_of_link u v) lines))

module _ (nodes : List ℕ) (lines : List RatioLine) (links : List (List RatioStep)) (parts : AreRatioParts nodes lines links) (l : RatioLine)
    (from to : ℕ) (from_inside : from < length nodes) (to_inside : to < length nodes)
    (from_is : get_or nodes from 0 ≡ l.from) (to_is : get_or nodes to 0 ≡ l.to) where
  abbrev place : ℕ
  place = link_place from to

  -- what the link has at its place
  pub kept_there : (at : ℕ) (x : List RatioStep) → at ≡ place → x ≡ get_or links at x → x ≡ steps_of lines l.from l.to
  kept_there at x at_is is =
      let few = parts.few in
      is ∙ ap (λ (n : ℕ). get_or links n x) at_is ∙ get_or_default links place x [] (omega (arith, parts.places))
      ∙ parts.each from to from_inside to_inside
      ∙ ap (λ (u : ℕ). steps_of lines u (get_or nodes to 0)) from_is ∙ ap (steps_of lines l.from) to_is

  apart : (i k : ℕ) → i < length nodes → k < length nodes → i ≢ k → get_or nodes k 0 ≢ get_or nodes i 0
  apart i k i_inside k_inside other same = elim (cases_lt i k) [
    | inl before ↦ (let less = parts.ascending i k 0 before k_inside in omega arith)
    | inr after ↦ (let less = parts.ascending k i 0 (omega arith) i_inside in omega arith)
  ]

  is_own : (i j : ℕ) → i ≡ from → j ≡ to → is_of_link (get_or nodes i 0) (get_or nodes j 0) l ≡ true
  is_own i j same_from same_to =
      rw (
        eq-eqb l.from (get_or nodes i 0) (sym from_is ∙ ap (λ (n : ℕ). get_or nodes n 0) (sym same_from)),
        eq-eqb l.to (get_or nodes j 0) (sym to_is ∙ ap (λ (n : ℕ). get_or nodes n 0) (sym same_to)),
      ) refl

  false_second : (b : Bool) → (b && false) ≡ false
  false_second true = refl
  false_second false = refl

  is_other : (i j : ℕ) → i < length nodes → j < length nodes → (i ≡ from → j ≡ to → ⊥) → is_of_link (get_or nodes i 0) (get_or nodes j 0) l ≡ false
  is_other i j i_inside j_inside other = elim (cases_eq i from) [
    | inl same ↦
        ap (λ (b : Bool). (l.from == get_or nodes i 0) && b)
        (ne_eqb l.to (get_or nodes j 0) (λ is. apart j to j_inside to_inside (other same) (to_is ∙ is))) ∙ false_second (l.from == get_or nodes i 0)
    | inr not ↦
        ap (λ (b : Bool). b && (l.to == get_or nodes j 0))
        (ne_eqb l.from (get_or nodes i 0) (λ is. apart i from i_inside from_inside not (from_is ∙ is)))
  ]

  -- one line more
  pub one_line_more : (at : ℕ) (new : List RatioStep) → at ≡ place → new ≡ steps_of lines l.from l.to ++ step_of l ∷ []
      → AreRatioParts nodes (lines ++ l ∷ []) (set links at new)
  one_line_more at new at_is is =
      let few = parts.few in
      record {
        few = parts.few;
        ascending = parts.ascending;
        places = length-set links at new ∙ parts.places;
        each = λ i j i_inside j_inside. elim (cases_eq (link_place i j) at) [
          | inl same ↦
              (let same_from : i ≡ from = omega arith in
              let same_to : j ≡ to = omega arith in
              ap (λ (n : ℕ). get_or (set links at new) n []) same ∙ get_or-set_same links at new [] (omega (arith, parts.places))
              ∙ is ∙ sym (own_more lines l l.from l.to (by_ids same_from same_to))
              ∙ ap (λ (u : ℕ). steps_of (lines ++ l ∷ []) u l.to) (sym from_is ∙ ap (λ (n : ℕ). get_or nodes n 0) (sym same_from))
              ∙ ap (steps_of (lines ++ l ∷ []) (get_or nodes i 0)) (sym to_is ∙ ap (λ (n : ℕ). get_or nodes n 0) (sym same_to)))
          | inr other ↦
              get_or-set_other links at (link_place i j) new [] other ∙ parts.each i j i_inside j_inside
              ∙ sym (other_more lines l (get_or nodes i 0) (get_or nodes j 0)
              (is_other i j i_inside j_inside (λ same_from same_to.
              other (ap (λ (n : ℕ). link_place n j) same_from ∙ ap (link_place from) same_to ∙ sym at_is))))
        ];
      }
    where
      by_ids : {i j : ℕ} → i ≡ from → j ≡ to → is_of_link l.from l.to l ≡ true
      by_ids same_from same_to = rw (eq-eqb l.from l.from refl, eq-eqb l.to l.to refl) refl
