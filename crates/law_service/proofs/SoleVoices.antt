-- A slot without losses in which one node says something: each other node within reach accepts it, in the step of its distance.
use Rattle.std.proofs.Common.{◌≡◌, ℕ, suc, ◌<◌, ◌≤◌, [], ◌∷◌, List, Bool, true, false, not, ◌&&◌, inl, inr, eq-eqb, Option, Some, is_some, filter}
use Rattle.std.proofs.Common.{option_and_then, refl, sym, ◌∙◌, ap, arith, AllPairs}
use Rattle.bus_terms.proofs.FirstHearings.{accepted_first}
use Rattle.bus_terms.proofs.ReachByDistance.{accepts_at_distance}
use Rattle.law_service.proofs.Words.{false≢true, passes, ScenarioParts, Message, walks, ids, has, Accepts, Slot, message_said, accepted_at, one_at_most}
use Rattle.law_service.proofs.Words.{in_filtered, is_linked, TakesPart, LosesNothing, IsWithin}

-- who is at least a hop away is another
pub is_another : (s : ScenarioParts) (x : Slot) (u k v : ℕ) → IsWithin s x u (suc k) v → v ≡ u → ⊥
unfolding walks
is_another s x u k v within is = false≢true (sym (within.distance.nearest 0 (omega arith)) ∙ eq-eqb v u is)

no_link : (a b c d : Bool) → a ≡ false → (a && not b && not c && not d) ≡ false
no_link a b c d is = rw is refl

module _ (s : ScenarioParts) (x : Slot) (f j : ℕ) (limit_is : x.flood.limit ≡ s.sends)
    (passes_are : (k u v : ℕ) → x.flood.passes k u v ≡ passes s.trace f j k u v)
    (initiators_are : x.flood.initiators ≡ filter (λ v. is_some (message_said (x.window v))) (ids s.nodes))
    (some : 1 ≤ s.sends) (rise : AllPairs (λ a b. a < b) (ids s.nodes)) (lossless : LosesNothing s x) where
  -- a link passes in all steps or in none
  steady : (k u v : ℕ) → k < 12 → has x.flood.everyone u ≡ true → has x.flood.everyone v ≡ true → x.flood.passes k u v ≡ is_linked s u v
  steady k u v early from to = by_link (is_linked s u v) refl
    where
      by_link : (b : Bool) → is_linked s u v ≡ b → x.flood.passes k u v ≡ is_linked s u v
      by_link true is = lossless k u v early from to is ∙ sym is
      by_link false is = passes_are k u v ∙ no_link _ _ _ _ is ∙ sym is

  module _ (u : ℕ) (m : Message) (known : has (ids s.nodes) u ≡ true) (takes : TakesPart x u) (says : message_said (x.window u) ≡ Some m)
      (alone : (v : ℕ) → is_some (message_said (x.window v)) ≡ true → v ≡ u) where
    pub initiates : x.flood.initiators ≡ u ∷ []
    initiates = elim (one_at_most (λ v. is_some (message_said (x.window v))) u (ids s.nodes) rise alone) [
      | inl none ↦
          (let kept = in_filtered (λ v. is_some (message_said (x.window v))) (ids s.nodes) u known (ap (λ (o : Option Message). is_some o) says) in
          absurd (false≢true (ap (λ (l : List ℕ). has l u) (sym none) ∙ kept)))
      | inr one ↦ initiators_are ∙ one.0
    ]

    pub accepts : (k v : ℕ) → IsWithin s x u (suc k) v → Accepts x.flood v u k
    accepts k v within =
        let enough : 1 ≤ x.flood.limit = omega (arith, limit_is, some) in
        let other = is_another s x u k v within in
        (accepts_at_distance x.flood u (is_linked s) initiates takes enough steady k v within.there other).1 (within.distance, within.few)

    pub accepts_said : (k v : ℕ) → IsWithin s x u (suc k) v → accepted_at x v ≡ Some m
    accepts_said k v within =
        ap (λ (a : Option (ℕ × ℕ)). option_and_then (λ a. message_said (x.window a.0)) a) ((accepted_first x.flood v u k).1 (accepts k v within)) ∙ says
