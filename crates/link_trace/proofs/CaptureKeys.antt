-- Where the capture line of a key is.
use Rattle.std.proofs.Common.{◌≡◌, ℕ, zero, suc, ◌<◌, List, [], ◌∷◌, Bool, true, false, length, get_or, Result, Ok, Err}
use Rattle.std.proofs.Common.{IfOk, IfErr, Option, Some, None, ◌||◌, cond, refl, sym, ◌∙◌, ap, subst, arith}
use Rattle.std.proofs.lemmas.Bool.{false≢true}
use Rattle.std.proofs.lemmas.Cmp.{alike_right}
use Rattle.std.proofs.lemmas.List.Folds.{list_any_at}
use Rattle.std.specs.List.{filter, find, list_any}
use Rattle.std.specs.List.Sorted.{IsSearchInRange, IsBinarySearchResult}
use Rattle.std.specs.Ordering.{nat_cmp, ordering_then, is_eq}
use Rattle.std.specs.declared.cmp.Ordering.{Ordering}
use Rattle.std.specs.declared.cmp.Ordering.TheVariants.{Less, Equal, Greater}
use Rattle.lwb_base.proofs.Orders.{by_four}
use Rattle.link_trace.specs.declared.lines.CaptureLine.{CaptureLine}
use Rattle.link_trace.specs.Order.{Ascends, HasPlace, IsFirst, by_capture}
use Rattle.link_trace.specs.Passes.{is_capture}
use Rattle.link_trace.proofs.Inserted.{searched, not_there}
use Rattle.link_trace.proofs.Orders.{by_capture_total, tells_capture}

-- the first line that passes is the one that is found
pub find_first : {L : Type 0} (test : L → Bool) (ls : List L) (at : ℕ) (d : L) → IsFirst test ls at → find test ls ≡ Some (get_or ls at d)
find_first test [] at d first = let within = first.within in absurd (omega arith)
find_first test (x ∷ xs) zero d first = rw (first.here x) refl
find_first test (x ∷ xs) (suc at) d first =
    let within = first.within in
    rw (first.earlier 0 x (omega arith) (omega arith))
    (find_first test xs at d (record {
      within = omega arith;
      here = first.here;
      earlier = λ k e low high. first.earlier (suc k) e (omega arith) (omega arith);
    }))

pub any_first : {L : Type 0} (test : L → Bool) (ls : List L) (at : ℕ) (d : L) → IsFirst test ls at → list_any test ls ≡ true
any_first test ls at d first = list_any_at test ls at d first.within (first.here d)

pub find_none : {L : Type 0} (test : L → Bool) (ls : List L) → list_any test ls ≡ false → find test ls ≡ None
find_none test [] none = refl
find_none test (x ∷ xs) none = by (test x) none (λ rest. find_none test xs rest)
  where
    by : (b : Bool) → (b || list_any test xs) ≡ false → (list_any test xs ≡ false → find test xs ≡ None) → cond b (Some x) (find test xs) ≡ None
    by true none rest = absurd (false≢true (sym none))
    by false none rest = rest none

-- the first line that passes is the first of those that pass
abbrev front : {L : Type 0} → List L → Option L
front [] = None
front (x ∷ xs) = Some x

find_front : {L : Type 0} (test : L → Bool) (ls : List L) → find test ls ≡ front (filter test ls)
find_front test [] = refl
find_front {L} test (x ∷ xs) = by (test x) (find_front test xs)
  where
    by : (b : Bool) → find test xs ≡ front (filter test xs) → cond b (Some x) (find test xs) ≡ front (cond b (x ∷ filter test xs) (filter test xs))
    by true rest = refl
    by false rest = rest

pub same_find : {L : Type 0} (test : L → Bool) (part ls : List L) → filter test part ≡ filter test ls → find test part ≡ find test ls
same_find test part ls same = find_front test part ∙ ap front same ∙ sym (find_front test ls)

one_by_one : (a b c d : Ordering) → ordering_then (ordering_then (ordering_then a b) c) d ≡ ordering_then a (ordering_then b (ordering_then c d))
one_by_one Less b c d = refl
one_by_one Greater b c d = refl
one_by_one Equal Less c d = refl
one_by_one Equal Greater c d = refl
one_by_one Equal Equal c d = refl

-- the test by the order is the test of the key
same_any : (f j k v u : ℕ) (ls : List CaptureLine)
    → list_any (λ x. is_eq (by_capture x (record { frame = f; slot = j; step = k; at = v; from = u }))) ls
    ≡ list_any (is_capture f j k v) ls
same_any f j k v u ls = λ i. list_any (λ x. tells_capture f j k v u x i) ls

module _ (f j k v : ℕ) (ls : List CaptureLine) (up : Ascends by_capture ls) where
  abbrev key : ℕ → CaptureLine
  key u = record { frame = f; slot = j; step = k; at = v; from = u }

  -- no line has the key where it has a place
  pub absent : (u at : ℕ) → HasPlace by_capture ls (key u) at → list_any (is_capture f j k v) ls ≡ false
  absent u at place = sym (same_any f j k v u ls) ∙ not_there by_capture by_capture_total ls (key u) at place

  -- a line that ties with the key is the first that has it
  pub first_of_key : (at : ℕ) → at < length ls → ((d : CaptureLine) → by_capture (get_or ls at d) (key 0) ≡ Equal) → IsFirst (is_capture f j k v) ls at
  first_of_key at inside ties = record {
    within = inside;
    here = λ d. sym (tells_capture f j k v 0 (get_or ls at d)) ∙ ap is_eq (ties d);
    earlier = λ i d low before.
        sym (tells_capture f j k v 0 (get_or ls i d))
        ∙ ap is_eq (sym (alike_right by_capture_total (get_or ls at d) (key 0) (get_or ls i d) (ties d)) ∙ up i at d before inside);
  }

  -- what a search by the tuples finds, a search by the order of the lines does
  pub by_tuples : (r : Result ℕ ℕ) → IsBinarySearchResult (λ x. by_four (x.frame, x.slot, x.step, x.at) (f, j, k, v)) ls r
      → IsBinarySearchResult (λ x. by_capture x (key 0)) ls r
  by_tuples r found =
      subst (λ (o : CaptureLine → Ordering). IsBinarySearchResult o ls r)
      (λ i x. one_by_one (nat_cmp x.frame f) (nat_cmp x.slot j) (nat_cmp x.step k) (nat_cmp x.at v) i) found

  -- a place of one line of the key is that of all of them
  pub found_by_key : (r : Result ℕ ℕ) → IsSearchInRange r (length ls) → IsBinarySearchResult (λ x. by_capture x (key 0)) ls r
      → IfOk r (IsFirst (is_capture f j k v) ls)
  found_by_key (Ok at) inside found = first_of_key at inside found
  found_by_key (Err at) inside parted = tt

  pub place_of_key : (r : Result ℕ ℕ) → IsSearchInRange r (length ls) → IsBinarySearchResult (λ x. by_capture x (key 0)) ls r
      → IfErr r (λ at. (u : ℕ) → HasPlace by_capture ls (key u) at)
  place_of_key (Ok at) inside found = tt
  place_of_key (Err at) inside parted = λ u.
      let place = searched by_capture by_capture_total ls (key 0) up (Err at) inside parted in
      record { within = place.within; below = place.below; above = place.above }

  pub none_of_key : (r : Result ℕ ℕ) → IsSearchInRange r (length ls) → IsBinarySearchResult (λ x. by_capture x (key 0)) ls r
      → IfErr r (λ at. list_any (is_capture f j k v) ls ≡ false)
  none_of_key (Ok at) inside found = tt
  none_of_key (Err at) inside parted = absent 0 at (searched by_capture by_capture_total ls (key 0) up (Err at) inside parted)
