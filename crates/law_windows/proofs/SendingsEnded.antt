-- The last of the transmissions that ended in a window, and how many have ended by a tick.
use Rattle.std.proofs.Common.{◌≡◌, ℕ, ◌<◌, ◌≤◌, inl, inr, List, [], ◌∷◌, Bool, true, false, nat_le, Some, None, length, filter_map}
use Rattle.std.proofs.Common.{Contains, AllPairs, refl, sym, ◌∙◌, ap, arith}
use Rattle.std.specs.List.{last_or}
use Rattle.std.proofs.lemmas.Bool.{le-leb}
use Rattle.air_log.specs.Charges.{sent_in}
use Rattle.air_log.specs.WindowLogs.{Happening, HeardAt, SentAt}
use Rattle.lwb_base.proofs.Elements.{not_in_none, contains_head, contains_tail, contains_cases, pairs_head, pairs_tail}
use Rattle.lwb_base.proofs.Truths.{one_if}
use Rattle.law_windows.specs.WindowHistory.{tick_of_happening}
use Rattle.law_windows.specs.WindowRadios.{sendings_in}
use Rattle.law_windows.proofs.CountedEnds.{not_by}

-- their packets
abbrev pub packets : List Happening → List (List ℕ)
packets es = filter_map sent_in es

one_at_most : (b : Bool) → one_if b ≤ 1
one_at_most true = omega arith
one_at_most false = omega arith

-- no more have ended by a tick than did in all
pub few_by : (k : ℕ) (es : List Happening) → sendings_in k es ≤ length (packets es)
few_by k [] = omega arith
few_by k (HeardAt t p ∷ es) = let rest = few_by k es in omega (arith, rest)
few_by k (SentAt t p ∷ es) = let rest = few_by k es in let one = one_at_most (nat_le t k) in omega (arith, rest, one)

-- and fewer, if one ends later
pub fewer_before : (k : ℕ) (es : List Happening) (t : ℕ) (p : List ℕ) → Contains es (SentAt t p) → k < t → sendings_in k es < length (packets es)
fewer_before k [] t p there later = absurd (not_in_none (SentAt t p) there)
fewer_before k (HeardAt u q ∷ es) t p there later = elim (contains_cases (HeardAt u q) es (SentAt t p) there) [
  | inl same ↦ absurd cc
  | inr rest ↦ (let fewer = fewer_before k es t p rest later in omega (arith, fewer))
]
fewer_before k (SentAt u q ∷ es) t p there later = elim (contains_cases (SentAt u q) es (SentAt t p) there) [
  | inl same ↦ (
      let tick : u ≡ t = ap tick_of_happening same in
      let few = few_by k es in
      let none : one_if (nat_le u k) ≡ 0 = ap one_if (not_by u k (omega (arith, tick, later))) in
      omega (arith, few, none)
      )
  | inr rest ↦ (let fewer = fewer_before k es t p rest later in let one = one_at_most (nat_le u k) in omega (arith, fewer, one))
]

-- all of them, if none ends later
pub all_by : (k : ℕ) (es : List Happening) → ((t : ℕ) (p : List ℕ) → Contains es (SentAt t p) → t ≤ k) → sendings_in k es ≡ length (packets es)
all_by k [] by = refl
all_by k (HeardAt t p ∷ es) by = let rest = all_by k es (λ u q there. by u q (contains_tail (HeardAt t p) es (SentAt u q) there)) in omega (arith, rest)
all_by k (SentAt t p ∷ es) by =
    let rest = all_by k es (λ u q there. by u q (contains_tail (SentAt t p) es (SentAt u q) there)) in
    let one : one_if (nat_le t k) ≡ 1 = ap one_if (le-leb t k (by t p (contains_head (SentAt t p) es))) in
    omega (arith, rest, one)

-- the last of them ends last
pub record HasLast (es : List Happening) : Type 0 where
  pub tick : ℕ
  pub packet : List ℕ
  pub there : Contains es (SentAt tick packet)
  pub is : last_or None (packets es) ≡ Some packet
  pub last : (t : ℕ) (p : List ℕ) → Contains es (SentAt t p) → t ≤ tick

none_sent : (es : List Happening) (t : ℕ) (p : List ℕ) → packets es ≡ [] → Contains es (SentAt t p) → ⊥
none_sent [] t p none there = not_in_none (SentAt t p) there
none_sent (HeardAt u q ∷ es) t p none there = elim (contains_cases (HeardAt u q) es (SentAt t p) there) [
  | inl same ↦ absurd cc
  | inr rest ↦ none_sent es t p none rest
]
none_sent (SentAt u q ∷ es) t p none there = absurd cc

pub has_last : (es : List Happening) → AllPairs (λ (d e : Happening). tick_of_happening d ≤ tick_of_happening e) es → 1 ≤ length (packets es) → HasLast es
has_last [] turn some = absurd (omega (arith, some))
has_last (HeardAt t p ∷ es) turn some =
    let rest = has_last es (pairs_tail (λ (d e : Happening). tick_of_happening d ≤ tick_of_happening e) (HeardAt t p) es turn) some in
    record {
      tick = rest.tick;
      packet = rest.packet;
      there = contains_tail (HeardAt t p) es (SentAt rest.tick rest.packet) rest.there;
      is = rest.is;
      last = λ u q in_it. elim (contains_cases (HeardAt t p) es (SentAt u q) in_it) [ inl same ↦ absurd cc | inr later ↦ rest.last u q later ];
    }
has_last (SentAt t p ∷ es) turn some =
    by_rest (packets es) refl (λ more. has_last es (pairs_tail (λ (d e : Happening). tick_of_happening d ≤ tick_of_happening e) (SentAt t p) es turn) more)
  where
    by_rest : (ps : List (List ℕ)) → packets es ≡ ps → (1 ≤ length (packets es) → HasLast es) → HasLast (SentAt t p ∷ es)
    by_rest [] none more = record {
      tick = t;
      packet = p;
      there = contains_head (SentAt t p) es;
      is = ap (λ (ps : List (List ℕ)). last_or (Some p) ps) none;
      last = λ u q in_it. elim (contains_cases (SentAt t p) es (SentAt u q) in_it) [
        | inl same ↦ (let tick : t ≡ u = ap tick_of_happening same in omega (arith, tick))
        | inr later ↦ absurd (none_sent es u q none later)
      ];
    }
    by_rest (x ∷ xs) are more =
        let rest = more (let long = ap (λ (ps : List (List ℕ)). length ps) are in omega (arith, long)) in
        record {
          tick = rest.tick;
          packet = rest.packet;
          there = contains_tail (SentAt t p) es (SentAt rest.tick rest.packet) rest.there;
          is = ap (λ (ps : List (List ℕ)). last_or (Some p) ps) are ∙ sym (ap (λ (ps : List (List ℕ)). last_or None ps) are) ∙ rest.is;
          last = λ u q in_it. elim (contains_cases (SentAt t p) es (SentAt u q) in_it) [
            | inl same ↦ (
                let tick : t ≡ u = ap tick_of_happening same in
                let after = pairs_head (λ (d e : Happening). tick_of_happening d ≤ tick_of_happening e) (SentAt t p) es turn (SentAt rest.tick rest.packet)
                rest.there in
                omega (arith, tick, after)
                )
            | inr later ↦ rest.last u q later
          ];
        }
