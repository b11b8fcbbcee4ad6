-- Whom the senders of a step reach, by masks.
use Rattle.std.proofs.Common.{◌≡◌, ◌≢◌, ◌<◌, ℕ, Bool, true, false, ◌&&◌, ◌==◌, inl, inr, length, get_or, if◌then◌else◌, bit_or, min, ◌-◌}
use Rattle.std.proofs.Common.{nat_lt, refl, sym, ◌∙◌, ap, arith}
use Rattle.std.specs.Int.{bit_at}
use Rattle.std.proofs.lemmas.Bool.{and_parts, cases_eq, eq-eqb, lt-ltb}
use Rattle.std.proofs.lemmas.Nat.Bits.{bit_at_or, bit_at-lt, bit_at-zero}
use Rattle.link_trace.specs.Masks.{IsMaskAmong}
use Rattle.link_trace.specs.Passes.{passes}
use Rattle.link_trace.specs.Sealed.{Traced}
use Rattle.plain_bus.specs.declared.station.Flood.{Flood}
use Rattle.plain_bus.proofs.PlacesSeen.{AreSeen, one_seen}

module _ (t : Traced) (f : Flood) (k : ℕ) where
  abbrev reaches : ℕ → ℕ → Bool
  reaches j i = passes t.lines f.frame f.slot k (get_or t.nodes j 0) (get_or t.nodes i 0)

  -- the node at place j reaches none of these nodes outside the mask
  abbrev pub IsWithin : ℕ → ℕ → ℕ → Type 0
  IsWithin among mask j = (i : ℕ) → i < length t.nodes → bit_at among i ≡ 1 → bit_at mask i ≡ 0 → j < length t.nodes → reaches j i ≡ false

  -- a sender reaches the node at place i
  abbrev pub ComesFrom : ℕ → ℕ → Type 0
  ComesFrom senders i = (j : ℕ) × (j < length t.nodes) × (bit_at senders j ≡ 1) × (reaches j i ≡ true)

  pub nobody_reached : (senders i : ℕ) → bit_at 0 i ≡ 1 → ComesFrom senders i
  nobody_reached senders i one = absurd (omega (arith, one, bit_at-zero i))

  module _ (senders among left reached to place : ℕ) (below : place < length t.nodes)
      (left_is : (i : ℕ) → bit_at left i ≡ min (bit_at among i) (1 - bit_at reached i))
      (is : IsMaskAmong (λ v. passes t.lines f.frame f.slot k (get_or t.nodes place 0) v) t.nodes left to) where
    both_zero : (i : ℕ) → bit_at (bit_or reached to) i ≡ 0 → (bit_at reached i ≡ 0) × (bit_at to i ≡ 0)
    both_zero i none = let both = bit_at_or reached to i in (omega (arith, none, both), omega (arith, none, both))

    here : IsWithin among (bit_or reached to) place
    here i near asked none inside =
        let zeros = both_zero i none in
        let still : bit_at left i ≡ 1 = omega (arith, left_is i, asked, zeros.0) in
        let told : bit_at to i ≡ (if true && (nat_lt i (length t.nodes) && reaches place i) then 1 else 0) =
        is i ∙ ap (λ (b : Bool). if b && (nat_lt i (length t.nodes) && reaches place i) then 1 else 0) (eq-eqb (bit_at left i) 1 still) in
        unset (reaches place i) (sym zeros.1 ∙ told ∙ ap (λ (b : Bool). if b && reaches place i then 1 else 0) (lt-ltb i (length t.nodes) near))
      where
        unset : (b : Bool) → ◌≡◌ {A = ℕ} 0 (if b then 1 else 0) → b ≡ false
        unset true is = absurd (omega (arith, is))
        unset false is = refl

    pub more_within : (rest next : ℕ) → AreSeen (IsWithin among reached) senders rest → bit_at next place ≡ 0
        → ((j : ℕ) → j ≢ place → bit_at next j ≡ bit_at rest j) → AreSeen (IsWithin among (bit_or reached to)) senders next
    more_within rest next are cleared others = one_seen (IsWithin among (bit_or reached to)) senders rest wider next place cleared others here
      where
        wider : AreSeen (IsWithin among (bit_or reached to)) senders rest
        wider = record {
          left = are.left;
          seen = λ j one seen i near asked none inside. are.seen j one seen i near asked (both_zero i none).0 inside;
        }

    set_of : (b : Bool) → ◌≡◌ {A = ℕ} (if b then 1 else 0) 1 → b ≡ true
    set_of true is = refl
    set_of false is = absurd (omega (arith, is))

    pub more_from : ((i : ℕ) → bit_at reached i ≡ 1 → ComesFrom senders i) → bit_at senders place ≡ 1 → (i : ℕ) → bit_at (bit_or reached to) i ≡ 1
        → ComesFrom senders i
    more_from before sends i one = elim (cases_eq (bit_at reached i) 1) [
      | inl old ↦ before i old
      | inr new ↦
          (let both = bit_at_or reached to i in
          let small = bit_at-lt reached i in
          let added : bit_at to i ≡ 1 = omega (arith, one, both, new, small) in
          let parts = and_parts (bit_at left i == 1) (nat_lt i (length t.nodes) && reaches place i)
          (set_of ((bit_at left i == 1) && (nat_lt i (length t.nodes) && reaches place i)) (sym (is i) ∙ added)) in
          (place, below, sends, (and_parts (nat_lt i (length t.nodes)) (reaches place i) parts.1).1))
    ]
