-- What the senders of a mask give, read off their stations.
use Rattle.std.proofs.Common.{◌≡◌, ◌<◌, ℕ, List, Bool, true, false, not, inl, inr, Option, Some, None, is_some, refl, sym, ◌∙◌, ap, length, get_or}
use Rattle.std.proofs.Common.{◌==◌, if◌then◌else◌}
use Rattle.std.specs.Int.{bit_at}
use Rattle.std.specs.Option.{option_map_or}
use Rattle.std.proofs.lemmas.Bool.{false≢true, cond-true, eq-eqb, eqb-true}
use Rattle.std.proofs.lemmas.List.{get_or_default}
use Rattle.std.proofs.lemmas.Option.{same_Some}
use Rattle.lwb_base.proofs.Options.{not_both}
use Rattle.bus_terms.proofs.Options.{inspect, sends_parts}
use Rattle.plain_bus.specs.FloodMasks.{AreOffers, IsOffer, AllOffer, origin_sent_at}
use Rattle.plain_bus.specs.declared.station.Station.{Station}

anyone : Station
anyone = record { node = 0; sends = None; times = 0; heard = None }

-- what is known of the station at a place
abbrev pub SendsNone : List Station → ℕ → Type 0
SendsNone xs k = (d : Station) → k < length xs → (get_or xs k d).sends ≡ None

abbrev pub SendsOnly : List Station → ℕ → ℕ → Type 0
SendsOnly xs origin k = (d : Station) (o : ℕ) → k < length xs → (get_or xs k d).sends ≡ Some o → o ≡ origin

abbrev pub IsNot : List Station → ℕ → ℕ → Type 0
IsNot xs node k = (d : Station) → k < length xs → (get_or xs k d).node ≡ node → ⊥

module _ (give : ℕ → Option ℕ) (xs : List Station) (from : ℕ) (are : AreOffers give xs from) where
  -- whoever gives is one of the stations
  given_at : (u o : ℕ) → give u ≡ Some o → (k : ℕ) × (k < length xs) × (origin_sent_at xs from k anyone ≡ Some o) × ((get_or xs k anyone).node ≡ u)
  given_at u o is =
      let at = are.only u o is in
      (at.0, at.1, sym (are.each at.0 anyone at.1) ∙ ap give (at.2 anyone) ∙ is, at.2 anyone)

  -- and it is of the mask
  bit_of : (k o : ℕ) → origin_sent_at xs from k anyone ≡ Some o → (bit_at from k ≡ 1) × ((get_or xs k anyone).sends ≡ Some o)
  bit_of k o sent = let parts = sends_parts (bit_at from k == 1) (get_or xs k anyone).sends o sent in (eqb-true (bit_at from k) 1 parts.0, parts.1)

  pub nothing_given : ((k : ℕ) → k < length xs → bit_at from k ≡ 1 → SendsNone xs k) → (u : ℕ) → give u ≡ None
  nothing_given none u = elim (inspect (give u)) [
    | inl is ↦ is
    | inr some ↦
        (let at = given_at u some.0 some.1 in
        let one = bit_of at.0 some.0 at.2 in
        absurd (not_both (get_or xs at.0 anyone).sends some.0 (none at.0 at.1 one.0 anyone at.1) one.1))
  ]

  pub all_given : (origin : ℕ) → ((k : ℕ) → k < length xs → bit_at from k ≡ 1 → SendsOnly xs origin k) → (u o : ℕ) → give u ≡ Some o → o ≡ origin
  all_given origin all u o is =
      let at = given_at u o is in
      let one = bit_of at.0 o at.2 in
      all at.0 at.1 one.0 anyone o at.1 one.1

  pub absent_gives : (node : ℕ) → ((k : ℕ) → k < length xs → bit_at from k ≡ 1 → IsNot xs node k) → give node ≡ None
  absent_gives node absent = elim (inspect (give node)) [
    | inl is ↦ is
    | inr some ↦ (let at = given_at node some.0 some.1 in absurd (absent at.0 at.1 (bit_of at.0 some.0 at.2).0 anyone at.1 at.3))
  ]

  module _ (i : ℕ) (x : Station) (w : Option ℕ) (below : i < length xs) (at : x ≡ get_or xs i x) (sent : w ≡ (if bit_at from i == 1 then x.sends else None))
    where
      pub gives : give x.node ≡ w
      gives = ap (λ (y : Station). give y.node) at ∙ are.each i x below ∙ ap (λ (y : Station). if bit_at from i == 1 then y.sends else None) (sym at) ∙ sym sent

      pub first_given : is_some w ≡ true → IsOffer give w
      first_given some = of_sent w refl some
        where
          of_sent : (o : Option ℕ) → w ≡ o → is_some o ≡ true → IsOffer give o
          of_sent None is some = absurd (false≢true some)
          of_sent (Some o) is some = (x.node, gives ∙ is)

      pub other_given : (origin : ℕ) → option_map_or (λ o. not (o == origin)) w false ≡ true → AllOffer give origin false
      other_given origin differs = of_sent w refl differs
        where
          same : (o : ℕ) → not (o == origin) ≡ true → o ≡ origin → ⊥
          same o differs is = false≢true (sym (ap not (eq-eqb o origin is)) ∙ differs)

          of_sent : (u : Option ℕ) → w ≡ u → option_map_or (λ o. not (o == origin)) u false ≡ true → AllOffer give origin false
          of_sent None is differs = absurd (false≢true differs)
          of_sent (Some o) is differs = (x.node, o, gives ∙ is, same o differs)

module _ (xs : List Station) (from i : ℕ) (x : Station) (below : i < length xs) (at : x ≡ get_or xs i x) where
  same_station : (d : Station) → get_or xs i d ≡ x
  same_station d = get_or_default xs i d x below ∙ sym at

  -- a node of the mask
  pub sent_of : bit_at from i ≡ 1 → x.sends ≡ (if bit_at from i == 1 then x.sends else None)
  sent_of one = sym (cond-true (bit_at from i == 1) x.sends None (eq-eqb (bit_at from i) 1 one))

  none_of : (o : Option ℕ) → is_some o ≡ false → o ≡ None
  none_of None is = refl
  none_of (Some o) is = absurd (cc)

  pub sends_none : is_some x.sends ≡ false → SendsNone xs i
  sends_none none d inside = ap (λ (y : Station). y.sends) (same_station d) ∙ none_of x.sends none

  agree : (origin o : ℕ) (u : Option ℕ) → option_map_or (λ p. not (p == origin)) u false ≡ false → u ≡ Some o → o ≡ origin
  agree origin o None same is = absurd (cc)
  agree origin o (Some p) same is = let at : p ≡ o = same_Some p o is in sym at ∙ eqb-true p origin (true_is (p == origin) same)
    where
      true_is : (b : Bool) → not b ≡ false → b ≡ true
      true_is true is = refl
      true_is false is = absurd (cc)

  pub sends_only : (origin : ℕ) → option_map_or (λ p. not (p == origin)) x.sends false ≡ false → SendsOnly xs origin i
  sends_only origin same d o inside is = agree origin o x.sends same (ap (λ (y : Station). y.sends) (sym (same_station d)) ∙ is)

  pub is_not : (node : ℕ) → (x.node == node) ≡ false → IsNot xs node i
  is_not node other d inside is = false≢true (sym other ∙ eq-eqb x.node node (ap (λ (y : Station). y.node) (sym (same_station d)) ∙ is))
