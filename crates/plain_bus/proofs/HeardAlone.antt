-- What is received where one origin alone is sent, read off the masks.
use Rattle.std.proofs.Common.{◌≡◌, ◌≢◌, ◌<◌, ℕ, Bool, true, false, ◌&&◌, not, ◌==◌, inl, inr, Option, Some, None, is_some, if◌then◌else◌, refl}
use Rattle.std.proofs.Common.{is_none, min, ◌-◌, nat_lt, length, get_or, sym, ◌∙◌, ap, arith}
use Rattle.std.specs.Int.{bit_at}
use Rattle.std.proofs.lemmas.Bool.{and_parts, cases_Bool, cases_eq, eq-eqb, eqb-true, false≢true}
use Rattle.std.proofs.lemmas.Nat.Bits.{bit_at-lt, bit_at-zero}
use Rattle.link_trace.specs.Passes.{passes}
use Rattle.link_trace.specs.Sealed.{Traced}
use Rattle.bus_terms.specs.Flooding.{Setting, Moment, has, offer, pick, hears}
use Rattle.bus_terms.proofs.Options.{inspect}
use Rattle.plain_bus.specs.FloodMasks.{AreAt, AreReached, IsMaskedFlood, SendsForInitiators, IsLone, heard_alone, may_hear_at, station_at, takes_at}
use Rattle.plain_bus.proofs.HeardByMasks.{bit_tells, place_of, deaf, unreached, refused, heard}
use Rattle.plain_bus.proofs.Picks.{nothing_picked, only_picked, alone}
use Rattle.plain_bus.specs.declared.station.Flood.{Flood}
use Rattle.plain_bus.specs.declared.station.Station.{Station}
use Rattle.plain_bus.specs.declared.station.Stations.{Stations}

module _ (s : Setting) (m : Moment) (t : Traced) (f : Flood) (k : ℕ) (flood : IsMaskedFlood s t f) (known : SendsForInitiators s m) (xs : Stations)
    (at : AreAt m t.nodes xs) (o : ℕ) (lone : IsLone s o) (quiet reached : ℕ)
    (quiet_are : (i : ℕ) → bit_at quiet i ≡ min (bit_at f.everyone i) (1 - bit_at xs.senders i)) (are : AreReached t f k xs.senders quiet reached) (place : ℕ)
    (below : place < length t.nodes) where
  abbrev v : ℕ
  v = get_or t.nodes place 0

  of_sender : (j : ℕ) → j < length t.nodes → (bit_at xs.senders j == 1) ≡ is_some (m.sends (get_or t.nodes j 0))
  of_sender j near = bit_tells t.nodes (λ u. is_some (m.sends u)) xs.senders j at.senders near

  -- outside the mask nothing reaches the node
  offers_none : bit_at quiet place ≡ 1 → (bit_at reached place == 1) ≡ false → (u : ℕ) → offer s m k v u ≡ None
  offers_none asked unset u = elim (inspect (m.sends u)) [
    | inl is ↦ ap (λ (w : Option ℕ). if s.passes k u v then w else None) is ∙ by_link (s.passes k u v)
    | inr some ↦
        (let p = place_of t.nodes u (flood.here u (known.senders u some.0 some.1)) in
        let sends : bit_at xs.senders p.0 ≡ 1 = eqb-true (bit_at xs.senders p.0) 1 (of_sender p.0 p.1
        ∙ ap (λ (w : ℕ). is_some (m.sends w)) p.2 ∙ ap (λ (w : Option ℕ). is_some w) some.1) in
        let passing : s.passes k u v ≡ false = flood.links k u v ∙ ap (λ (w : ℕ). passes t.lines f.frame f.slot k w v) (sym p.2)
        ∙ are.none place p.0 below asked zero_bit p.1 sends in
        ap (λ (b : Bool). if b then m.sends u else None) passing)
  ]
    where
      by_link : (b : Bool) → ◌≡◌ {A = Option ℕ} (if b then None else None) None
      by_link true = refl
      by_link false = refl

      not_one : bit_at reached place ≡ 1 → ⊥
      not_one one = false≢true (sym unset ∙ eq-eqb (bit_at reached place) 1 one)

      zero_bit : bit_at reached place ≡ 0
      zero_bit = omega (arith, bit_at-lt reached place, not_one)

  some_of : (w : Option ℕ) → is_some w ≡ true → (p : ℕ) × (w ≡ Some p)
  some_of None is = absurd (false≢true is)
  some_of (Some p) is = (p, refl)

  -- in the mask the only origin does
  picked_one : bit_at reached place ≡ 1 → pick s m k v ≡ Some o
  picked_one set =
      let from = are.some place set in
      let u : ℕ = get_or t.nodes from.0 0 in
      let sent = some_of (m.sends u) (sym (of_sender from.0 from.1) ∙ eq-eqb (bit_at xs.senders from.0) 1 from.2) in
      let origin : sent.0 ≡ o = lone sent.0 (known.origins u sent.0 sent.1) in
      let given : offer s m k v u ≡ Some o =
      ap (λ (b : Bool). if b then m.sends u else None) (flood.links k u v ∙ from.3) ∙ sent.1 ∙ ap (λ (n : ℕ). Some n) origin in
      only_picked s m k v known u o given (alone s m k v known o o lone u given)

  -- who may receive takes part and does not send
  is_quiet : (x : Station) → x ≡ station_at m v → may_hear_at f x place ≡ true → bit_at quiet place ≡ 1
  is_quiet x is may =
      let parts = and_parts ((bit_at f.everyone place == 1) && is_none x.sends) (nat_lt x.times f.limit) may in
      let both = and_parts (bit_at f.everyone place == 1) (is_none x.sends) parts.0 in
      let silent : is_some (m.sends v) ≡ false = ap (λ (y : Station). is_some y.sends) (sym is) ∙ none_there x.sends both.1 in
      let unset : (bit_at xs.senders place == 1) ≡ false = of_sender place below ∙ silent in
      let here : bit_at f.everyone place ≡ 1 = eqb-true (bit_at f.everyone place) 1 both.0 in
      let not_one : bit_at xs.senders place ≢ 1 = λ one. false≢true (sym unset ∙ eq-eqb (bit_at xs.senders place) 1 one) in
      omega (arith, quiet_are place, here, bit_at-lt xs.senders place, not_one)
    where
      none_there : (w : Option ℕ) → is_none w ≡ true → is_some w ≡ false
      none_there None is = refl
      none_there (Some p) is = absurd (false≢true is)

  -- a node receives by the masks what it should
  pub heard_alone_is : (x : Station) → x ≡ station_at m v → heard_alone f reached place o x ≡ hears s m k v
  heard_alone_is x is = elim (cases_Bool (bit_at reached place == 1)) [
    | inl set ↦ elim (cases_Bool (may_hear_at f x place)) [
      | inl may ↦ elim (cases_Bool (takes_at f x place o)) [
        | inl takes ↦ by_tests true true true set may takes
            ∙ sym (heard s m t f k flood known place below x o is may (picked_one (eqb-true (bit_at reached place) 1 set)) takes)
        | inr refuses ↦ by_tests true true false set may refuses
            ∙ sym (refused s m t f k flood known place below x o is (picked_one (eqb-true (bit_at reached place) 1 set)) refuses)
      ]
      | inr not ↦ by_may not ∙ sym (deaf s m t f k flood known place below x is not)
    ]
    | inr unset ↦ ap (λ (b : Bool). if b && may_hear_at f x place && takes_at f x place o then Some o else None) unset
        ∙ sym (elim (cases_Bool (may_hear_at f x place)) [
          | inl may ↦ unreached s m t f k flood known place below (nothing_picked s m k v known (offers_none (is_quiet x is may) unset))
          | inr not ↦ deaf s m t f k flood known place below x is not
        ])
  ]
    where
      by_tests : (a b c : Bool) → (bit_at reached place == 1) ≡ a → may_hear_at f x place ≡ b → takes_at f x place o ≡ c
          → heard_alone f reached place o x ≡ (if a && b && c then Some o else None)
      by_tests a b c first second third =
          ap (λ (p : Bool). if p && may_hear_at f x place && takes_at f x place o then Some o else None) first
          ∙ ap (λ (p : Bool). if a && p && takes_at f x place o then Some o else None) second
          ∙ ap (λ (p : Bool). if a && b && p then Some o else None) third

      none_anyway : (a c : Bool) → ◌≡◌ {A = Option ℕ} (if a && false && c then Some o else None) None
      none_anyway true c = refl
      none_anyway false c = refl

      by_may : may_hear_at f x place ≡ false → heard_alone f reached place o x ≡ None
      by_may not =
          ap (λ (p : Bool). if (bit_at reached place == 1) && p && takes_at f x place o then Some o else None) not
          ∙ none_anyway (bit_at reached place == 1) (takes_at f x place o)

-- who initiates where the mask of the initiators has one bit
pub only_initiator : (s : Setting) (t : Traced) (f : Flood) → IsMaskedFlood s t f → (place rest : ℕ) → rest ≡ 0
    → ((i : ℕ) → i ≢ place → bit_at rest i ≡ bit_at f.initiators i) → (v : ℕ) → has s.initiators v ≡ true → v ≡ get_or t.nodes place 0
only_initiator s t f flood place rest none others v there =
    let p = place_of t.nodes v (flood.here v (flood.inside v there)) in
    let set : bit_at f.initiators p.0 ≡ 1 = eqb-true (bit_at f.initiators p.0) 1
    (bit_tells t.nodes (has s.initiators) f.initiators p.0 flood.initiators p.1 ∙ ap (has s.initiators) p.2 ∙ there) in
    elim (cases_eq p.0 place) [
      | inl same ↦ sym p.2 ∙ ap (λ (i : ℕ). get_or t.nodes i 0) same
      | inr other ↦ absurd (omega (arith, set, others p.0 other, ap (λ (n : ℕ). bit_at n p.0) none, bit_at-zero p.0))
    ]
