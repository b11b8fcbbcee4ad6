-- What is picked of the origins that reach a node.
use Rattle.std.proofs.Common.{◌≡◌, ℕ, List, [], ◌∷◌, true, inl, inr, Option, Some, None, refl, sym, ◌∙◌, ap, filter_map, ◌==◌}
use Rattle.std.specs.List.{list_all, cons_option}
use Rattle.std.proofs.lemmas.Bool.{cases_Bool, or_cases, eqb-true, false≢true, cond-false}
use Rattle.bus_terms.specs.Flooding.{Setting, Moment, has, offer, candidates, named, only_one, pick}
use Rattle.bus_terms.proofs.Options.{only_when, in_filter, from_filter, sends_parts, all_are}
use Rattle.plain_bus.specs.FloodMasks.{SendsForInitiators}

none_given : (give : ℕ → Option ℕ) → ((u : ℕ) → give u ≡ None) → (us : List ℕ) → filter_map give us ≡ []
none_given give none [] = refl
none_given give none (u ∷ us) = ap (λ (o : Option ℕ). cons_option o (filter_map give us)) (none u) ∙ none_given give none us

in_all : (c : ℕ) (os : List ℕ) → list_all (λ x. x == c) os ≡ true → (p : ℕ) → has (c ∷ os) p ≡ true → p ≡ c
in_all c os all p there = elim (or_cases (c == p) _ there) [ inl same ↦ sym (eqb-true c p same) | inr later ↦ all_are c os all p later ]

-- of several that differ none is the only one
other_one : (cs : List ℕ) (other : Option ℕ) (o p : ℕ) → has cs o ≡ true → has cs p ≡ true → (p ≡ o → ⊥) → only_one cs other ≡ other
other_one [] other o p first second differ = absurd (false≢true first)
other_one (c ∷ os) other o p first second differ =
    elim (cases_Bool (list_all (λ x. x == c) os)) [
      | inl all ↦ absurd (differ (in_all c os all p second ∙ sym (in_all c os all o first)))
      | inr not ↦ cond-false (list_all (λ x. x == c) os) (Some c) other not
    ]

module _ (s : Setting) (m : Moment) (k v : ℕ) (known : SendsForInitiators s m) where
  abbrev give : ℕ → Option ℕ
  give = offer s m k v

  in_candidates : (u o : ℕ) → give u ≡ Some o → has (candidates s m k v) o ≡ true
  in_candidates u o is = in_filter give s.everyone u o (known.senders u o (sends_parts (s.passes k u v) (m.sends u) o is).1) is

  -- nothing reaches v
  pub nothing_picked : ((u : ℕ) → give u ≡ None) → pick s m k v ≡ None
  nothing_picked none = ap (λ (cs : List ℕ). only_one cs (named s m k v)) (none_given give none s.everyone)

  -- one origin reaches it, and no other
  pub only_picked : (u o : ℕ) → give u ≡ Some o → ((w p : ℕ) → give w ≡ Some p → p ≡ o) → pick s m k v ≡ Some o
  only_picked u o is all =
      only_when (candidates s m k v) (named s m k v) o (in_candidates u o is) (inl (λ p there. let w = from_filter give s.everyone p there in all w.0 p w.2))

  -- two reach it
  pub named_picked : (u o w p : ℕ) → give u ≡ Some o → give w ≡ Some p → (p ≡ o → ⊥) → pick s m k v ≡ named s m k v
  named_picked u o w p first second differ = other_one (candidates s m k v) (named s m k v) o p (in_candidates u o first) (in_candidates w p second) differ

  -- with one initiator no other origin reaches it
  pub alone : (x o : ℕ) → ((w : ℕ) → has s.initiators w ≡ true → w ≡ x) → (u : ℕ) → give u ≡ Some o → (w p : ℕ) → give w ≡ Some p → p ≡ o
  alone x o one u first w p second =
      let of_initiator : (z q : ℕ) → give z ≡ Some q → q ≡ x = λ z q is. one q (known.origins z q (sends_parts (s.passes k z v) (m.sends z) q is).1) in
      of_initiator w p second ∙ sym (of_initiator u o first)
