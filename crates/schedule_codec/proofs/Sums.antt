-- Owner codes that are pushed one after another, each by its difference from the one before.
use Rattle.std.proofs.Common.{◌≡◌, ℕ, ◌+◌, ◌*◌, ◌<◌, ◌≤◌, List, [], ◌∷◌, ◌++◌, true, nat_le, length, drop}
use Rattle.std.proofs.Common.{get_or, refl, sym, ◌∙◌, ap, arith, append_assoc, length-append}
use Rattle.std.proofs.lemmas.Bool.{and_parts, and_from, leb-true, le-leb}
use Rattle.std.proofs.lemmas.List.{drop_more, drop_all, append-nil}
use Rattle.std.proofs.lemmas.List.Folds.{list_all-append}
use Rattle.std.specs.List.{list_all}
use Rattle.lwb_packets.specs.Ranges.{between}
use Rattle.schedule_codec.specs.Reading.{following, summed}

-- the codes pushed so far, the last of them, and how many steps that took
pub record Sum (first : ℕ) (steps codes : List ℕ) (code i : ℕ) : Type 0 where
  pub many : length codes ≡ i + 1
  pub same : codes ++ following code (drop i steps) ≡ summed first steps
  pub low : 4 ≤ code
  pub high : code ≤ 803 + 1023 * i
  pub within : code ≤ 803 → list_all (between 4 803) codes ≡ true
  pub beyond : 803 < code → list_all (between 4 803) (summed first steps) ≡ true → ⊥

in_range : (code : ℕ) → 4 ≤ code → code ≤ 803 → between 4 803 code ≡ true
in_range code low high = and_from _ _ (le-leb 4 code low) (le-leb code 803 high)

not_in_range : (code : ℕ) → 803 < code → between 4 803 code ≡ true → ⊥
not_in_range code outside is = let high : code ≤ 803 = leb-true code 803 (and_parts (nat_le 4 code) (nat_le code 803) is).1 in absurd (omega arith)

pub begun : (first : ℕ) (steps old codes : List ℕ) → old ≡ [] → codes ≡ old ++ first ∷ [] → 4 ≤ first → first ≤ 803 → Sum first steps codes first 0
begun first steps old codes none pushed low high =
    let one : codes ≡ first ∷ [] = pushed ∙ ap (λ (l : List ℕ). l ++ first ∷ []) none in
    record {
      many = ap length one;
      same = ap (λ (l : List ℕ). l ++ following first steps) one;
      low = low;
      high = omega arith;
      within = λ is. ap (λ (l : List ℕ). list_all (between 4 803) l) one ∙ and_from _ _ (in_range first low high) refl;
      beyond = λ is. absurd (omega arith);
    }

-- what follows the last, with the next one first
next_of : (code i : ℕ) (steps : List ℕ) → i < length steps → following code (drop i steps) ≡ (code + get_or steps i 0)
    ∷ following (code + get_or steps i 0) (drop (i + 1) steps)
next_of code i steps below = ap (λ (l : List ℕ). following code l) (drop_more steps i 0 below)

-- a next code past the last in range is one of the sum
past : (first : ℕ) (steps codes : List ℕ) (code i : ℕ) → Sum first steps codes code i → i < length steps → 803 < code + get_or steps i 0
    → list_all (between 4 803) (summed first steps) ≡ true → ⊥
past first steps codes code i sum below outside all =
    let next : ℕ = code + get_or steps i 0 in
    let parts : list_all (between 4 803) (codes ++ next ∷ following next (drop (i + 1) steps)) ≡ true =
    ap (λ (l : List ℕ). list_all (between 4 803) (codes ++ l)) (sym (next_of code i steps below))
    ∙ ap (λ (l : List ℕ). list_all (between 4 803) l) sum.same ∙ all in
    let rest = and_parts _ _ (sym (list_all-append (between 4 803) codes (next ∷ following next (drop (i + 1) steps))) ∙ parts) in
    not_in_range next outside (and_parts _ _ rest.1).0

pub further : (first : ℕ) (steps codes new : List ℕ) (code i : ℕ) → Sum first steps codes code i → i < length steps
    → get_or steps i 0 < 1024 → new ≡ codes ++ (code + get_or steps i 0) ∷ [] → Sum first steps new (code + get_or steps i 0) (i + 1)
further first steps codes new code i sum below small more =
    let next : ℕ = code + get_or steps i 0 in
    let many = sum.many in
    let low = sum.low in
    let high = sum.high in
    record {
      many = omega (arith, ap length more, length-append codes (next ∷ []));
      same = ap (λ (l : List ℕ). l ++ following next (drop (i + 1) steps)) more
          ∙ append_assoc codes (next ∷ []) (following next (drop (i + 1) steps))
          ∙ ap (λ (l : List ℕ). codes ++ l) (sym (next_of code i steps below))
          ∙ sum.same;
      low = omega arith;
      high = omega arith;
      within = λ is. ap (λ (l : List ℕ). list_all (between 4 803) l) more ∙ list_all-append (between 4 803) codes (next ∷ [])
          ∙ and_from _ _ (sum.within (omega arith)) (and_from _ _ (in_range next (omega arith) is) refl);
      beyond = past first steps codes code i sum below;
    }

pub finished : (first : ℕ) (steps codes : List ℕ) (code i : ℕ) → Sum first steps codes code i → length steps ≤ i → codes ≡ summed first steps
finished first steps codes code i sum end = sym (append-nil codes)
    ∙ ap (λ (l : List ℕ). codes ++ following code l) (sym (drop_all i steps end)) ∙ sum.same

pub all_in_range : (first : ℕ) (steps codes : List ℕ) (code i : ℕ) → Sum first steps codes code i → length steps ≤ i → code ≤ 803
    → list_all (between 4 803) (summed first steps) ≡ true
all_in_range first steps codes code i sum end high =
    ap (λ (l : List ℕ). list_all (between 4 803) l) (sym (finished first steps codes code i sum end)) ∙ sum.within high
