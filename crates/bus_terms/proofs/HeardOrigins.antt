-- What is sent and received in a flood by steps is an initiator's.
use Rattle.std.proofs.Common.{◌≡◌, ℕ, zero, suc, ◌+◌, true, nat_lt, inl, inr, Some, subst}
use Rattle.std.proofs.lemmas.Option.{same_Some}
use Rattle.bus_terms.specs.Flooding.{Setting, Moment, moment, has, offer, candidates, named, pick, may_hear, takes, hears, STEPS}
use Rattle.bus_terms.proofs.FirstHearings.{first_hearing}
use Rattle.bus_terms.proofs.Options.{only_from, from_filter, heard_parts, sends_parts, named_parts}

module _ (s : Setting) where
  -- of what is received where all that is sent is an initiator's
  pub heard_of : (k : ℕ) (m : Moment) → ((u o : ℕ) → m.sends u ≡ Some o → has s.initiators o ≡ true)
      → (v o : ℕ) → hears s m k v ≡ Some o → has s.initiators o ≡ true
  heard_of k m sent v o is = elim (only_from (candidates s m k v) (named s m k v) o (heard_parts (may_hear s m v) (takes s m v) (pick s m k v) o is).1) [
    | inl all ↦ (let u = from_filter (offer s m k v) s.everyone o all.0 in sent u.0 o (sends_parts (s.passes k u.0 v) (m.sends u.0) o u.2).1)
    | inr other ↦ (let u = named_parts (offer s m k v) (s.captured k v) o other in sent u.0 o (sends_parts (s.passes k u.0 v) (m.sends u.0) o u.2).1)
  ]

  pub sent_origin : (k u o : ℕ) → (moment s k).sends u ≡ Some o → has s.initiators o ≡ true
  unfolding moment
  sent_origin zero u o is =
      let begun = sends_parts (has s.initiators u) (Some u) o is in
      subst (λ (w : ℕ). has s.initiators w ≡ true) (same_Some u o begun.1) begun.0
  sent_origin (suc k) u o is =
      heard_of k (moment s k) (sent_origin k) u o (sends_parts (nat_lt (k + 1) STEPS) (hears s (moment s k) k u) o is).1

  pub heard_origin : (k v o : ℕ) → hears s (moment s k) k v ≡ Some o → has s.initiators o ≡ true
  heard_origin k v o is = heard_of k (moment s k) (sent_origin k) v o is

  -- of what a node keeps as received first
  pub first_origin : (v o k : ℕ) → (moment s STEPS).heard v ≡ Some (o, k) → has s.initiators o ≡ true
  first_origin v o k is = (let first = first_hearing s STEPS v (o, k) is in heard_origin k v o first.hears)
