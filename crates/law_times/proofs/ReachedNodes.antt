-- Where a walk leads to a node, so does a shortest one; and a walk along some nodes is one along more.
use Rattle.std.proofs.Common.{◌≡◌, ◌<◌, ◌≤◌, ◌+◌, ◌&&◌, ◌||◌, ℕ, zero, suc, List, Bool, true, false, Some, None, if◌then◌else◌, inl, inr, refl, sym, ◌∙◌, ap}
use Rattle.std.proofs.Common.{subst, arith}
use Rattle.bus_terms.proofs.OneInitiator.{witness, any_of}
use Rattle.law_times.proofs.Words.{false≢true, and_parts, cases_lt, eqb-true, Plan, ScenarioParts, Part, Closing, Tune, Core, is_fresh, is_member, last_slot}
use Rattle.law_times.proofs.Words.{opened_slot, State, StateOff, StateOn, hosts_in, holds_in, scans, state_at, walks, IsDistance, ids, has, slot_in, Slot}
use Rattle.law_times.proofs.Words.{before_slot, opened_at, takes_part, setup_of, closing_last, in_filtered, is_linked, IsWithin, TakesPart, IsReached}
use Rattle.law_times.proofs.EarlyTunes.{tunes_stay}
use Rattle.law_times.proofs.Settings.{tune_of}

module _ (link : ℕ → ℕ → Bool) (start : ℕ) where
  pub along_more : (among everyone : List ℕ) → ((v : ℕ) → has among v ≡ true → has everyone v ≡ true) → (i v : ℕ)
      → walks link among start i v ≡ true → walks link everyone start i v ≡ true
  unfolding walks
  along_more among everyone within zero v walk = walk
  along_more among everyone within (suc i) v walk =
      let u = witness (λ u. walks link among start i u && link u v) among walk in
      let parts = and_parts (walks link among start i u.0) (link u.0 v) u.2 in
      any_of (λ u. walks link everyone start i u && link u v) everyone u.0 (within u.0 u.1)
      (both (walks link everyone start i u.0) (link u.0 v) (along_more among everyone within i u.0 parts.0) parts.1)
    where
      both : (a b : Bool) → a ≡ true → b ≡ true → (a && b) ≡ true
      both a b first second = rw (first, second) refl

  pub shortest : (everyone : List ℕ) (v more from : ℕ) → ((i : ℕ) → i < from → walks link everyone start i v ≡ false)
      → walks link everyone start (from + more) v ≡ true → (h : ℕ) × (h ≤ from + more) × IsDistance link everyone start h v
  shortest everyone v zero from none walk =
      (from, omega arith, record { reached = subst (λ (i : ℕ). walks link everyone start i v ≡ true) (omega arith) walk; nearest = none })
  shortest everyone v (suc more) from none walk = by_test (walks link everyone start from v) refl (shortest everyone v more (suc from))
    where
      by_test : (b : Bool) → walks link everyone start from v ≡ b
          → (((i : ℕ) → i < suc from → walks link everyone start i v ≡ false) → walks link everyone start (suc from + more) v ≡ true
          → (h : ℕ) × (h ≤ suc from + more) × IsDistance link everyone start h v)
          → (h : ℕ) × (h ≤ from + suc more) × IsDistance link everyone start h v
      by_test true is longer = (from, omega arith, record { reached = is; nearest = none })
      by_test false is longer =
          let still : (i : ℕ) → i < suc from → walks link everyone start i v ≡ false =
          λ i below. elim (cases_lt i from) [
            | inl before ↦ none i before
            | inr at ↦ (let same : i ≡ from = omega (arith, below, at) in subst (λ (n : ℕ). walks link everyone start n v ≡ false) (sym same) is)
          ] in
          let later = longer still (subst (λ (i : ℕ). walks link everyone start i v ≡ true) (omega arith) walk) in
          (later.0, (let few = later.1 in omega (arith, few)), later.2)

-- a node that is reached along nodes that take part in a slot is within reach in it
pub reached_in : (s : ScenarioParts) (x : Slot) (among : List ℕ) (u v : ℕ) → ((w : ℕ) → has among w ≡ true → TakesPart x w) → has among v ≡ true
    → (v ≡ u → ⊥) → IsReached s among u v → (k : ℕ) × IsWithin s x u (suc k) v
unfolding walks
reached_in s x among u v all there other reached = by_hops least.0 least.1 least.2
  where
    everyone : List ℕ
    everyone = x.flood.everyone

    walk : walks (is_linked s) everyone u reached.links v ≡ true
    walk = along_more (is_linked s) u among everyone all reached.links v reached.walk

    least : (h : ℕ) × (h ≤ 0 + reached.links) × IsDistance (is_linked s) everyone u h v
    least = shortest (is_linked s) u everyone v reached.links 0 (λ i none. absurd (omega (arith, none)))
        (subst (λ (i : ℕ). walks (is_linked s) everyone u i v ≡ true) (omega arith) walk)

    by_hops : (h : ℕ) → h ≤ 0 + reached.links → IsDistance (is_linked s) everyone u h v → (k : ℕ) × IsWithin s x u (suc k) v
    by_hops zero few distance = absurd (other (eqb-true v u distance.reached))
    by_hops (suc k) few distance =
        (k, record { there = all v there; distance = distance; few = (let limit = reached.few in omega (arith, few, limit)) })

-- a tune by which a node takes part in the closing slot of the round of this rank and frame
abbrev pub in_round : ℕ → ℕ → Tune → Bool
in_round rank f t = hosts_in rank f t || holds_in rank f t || scans rank t

-- a node of the scenario is on with such a tune at the start of the frame
pub record IsThere (s : ScenarioParts) (rank f v : ℕ) : Type 0 where
  pub known : has (ids s.nodes) v ≡ true
  pub tune : Tune
  pub on : tune_of (state_at s f v) ≡ Some tune
  pub takes : in_round rank f tune ≡ true

module _ (s : ScenarioParts) (rank f : ℕ) (p : Plan) where
  pub takes_closing : (v : ℕ) → IsThere s rank f v → TakesPart (slot_in s rank f p (last_slot p)) v
  takes_closing v there =
      in_filtered (λ u. takes_part rank x.part (before u) (x.window u)) (ids s.nodes) v there.known
      (by_part x.part (closing_last p) (before v) (tunes_stay s rank f p (last_slot p) (omega arith) v ∙ there.on))
    where
      x : Slot
      x = slot_in s rank f p (last_slot p)

      before : ℕ → State
      before = before_slot s rank f p (state_at s f) (last_slot p)

      by_member : (c : Core) → in_round rank f c.tune ≡ true → (b : Bool) → is_member rank f c ≡ b
          → takes_part rank Closing (StateOn c) (if b then Some (opened_slot (setup_of s v) f Closing c) else None) ≡ true
      by_member c takes true member = refl
      by_member c takes false member = left (hosts_in rank f c.tune) (holds_in rank f c.tune) (scans rank c.tune) (is_fresh c) takes member
        where
          left : (a b d e : Bool) → (a || b || d) ≡ true → (a || b || (d && e)) ≡ false → d ≡ true
          left true b d e takes member = absurd (false≢true (sym member))
          left false true d e takes member = absurd (false≢true (sym member))
          left false false d e takes member = takes

      by_state : (y : State) → tune_of y ≡ Some there.tune → takes_part rank Closing y (opened_at s rank f Closing v y) ≡ true
      by_state (StateOff boots) on = absurd (cc)
      by_state (StateOn c) on =
          let same : c.tune ≡ there.tune = cc in
          by_member c (ap (in_round rank f) same ∙ there.takes) (is_member rank f c) refl

      by_part : (part : Part) → part ≡ Closing → (y : State) → tune_of y ≡ Some there.tune → takes_part rank part y (opened_at s rank f part v y) ≡ true
      by_part part is y on = subst (λ (part : Part). takes_part rank part y (opened_at s rank f part v y) ≡ true) (sym is) (by_state y on)

  -- a node that is reached along such nodes is within reach in the closing slot
  pub reached_within : (among : List ℕ) (u v : ℕ) → ((w : ℕ) → has among w ≡ true → IsThere s rank f w) → has among v ≡ true → (v ≡ u → ⊥)
      → IsReached s among u v → (k : ℕ) × IsWithin s (slot_in s rank f p (last_slot p)) u (suc k) v
  reached_within among u v all there other reached =
      reached_in s (slot_in s rank f p (last_slot p)) among u v (λ w is. takes_closing w (all w is)) there other reached
