-- A flood with no initiator, or with two that reach each node which one initiator reaches: nobody receives anything.
use Rattle.std.proofs.Common.{◌≡◌, ◌≢◌, ◌+◌, ◌&&◌, ℕ, zero, suc, true, false, inl, inr, Option, Some, None, is_none, nat_lt, option_and_then, sym, ◌∙◌, ap}
use Rattle.lwb_base.proofs.Options.{not_both, none_is}
use Rattle.law_service.proofs.Words.{false≢true, and_parts, cond-true, Setting, Moment, STEPS, moment, has, offer, candidates, named, pick, may_hear, takes}
use Rattle.law_service.proofs.Words.{hears, Hears, Slot, accepted_at, message_said, only_from, in_filter, from_filter, heard_parts, sends_parts, named_parts}
use Rattle.law_service.proofs.Words.{accepted_none}

-- of two different packets that reach a node it takes none, but by a capture line
pub one_or_none : (s : Setting) (m : Moment) (k w u v o : ℕ) → u ≢ v → has (candidates s m k w) u ≡ true → has (candidates s m k w) v ≡ true
    → s.captured k w ≡ None → pick s m k w ≡ Some o → ⊥
one_or_none s m k w u v o differ first second uncaptured picked = elim (only_from (candidates s m k w) (named s m k w) o picked) [
  | inl all ↦ differ (all.1 u first ∙ sym (all.1 v second))
  | inr other ↦ (let c = named_parts (offer s m k w) (s.captured k w) o other in not_both (s.captured k w) c.0 uncaptured c.1)
]

module _ (s : Setting) (uncaptured : (k w : ℕ) → s.captured k w ≡ None) where
  -- who receives something was offered it
  offered : (k w o : ℕ) → Hears s w k o → (x : ℕ) × (s.passes k x w ≡ true) × ((moment s k).sends x ≡ Some o)
  offered k w o heard =
      let m = moment s k in
      let picked = (heard_parts (may_hear s m w) (takes s m w) (pick s m k w) o heard).1 in
      elim (only_from (candidates s m k w) (named s m k w) o picked) [
        | inl all ↦
            (let x = from_filter (offer s m k w) s.everyone o all.0 in
            let parts = sends_parts (s.passes k x.0 w) (m.sends x.0) o x.2 in
            (x.0, parts.0, parts.1))
        | inr other ↦
            (let c = named_parts (offer s m k w) (s.captured k w) o other in
            absurd (not_both (s.captured k w) c.0 (uncaptured k w) c.1))
      ]

  begins : (w : ℕ) → has s.initiators w ≡ true → (moment s 0).sends w ≡ Some w
  unfolding moment
  begins w is = cond-true (has s.initiators w) (Some w) None is

  begun : (w o : ℕ) → (moment s 0).sends w ≡ Some o → has s.initiators w ≡ true
  unfolding moment
  begun w o is = (sends_parts (has s.initiators w) (Some w) o is).0

  idle : (k w o : ℕ) → Hears s w k o → ((moment s k).sends w ≡ None) × (has s.everyone w ≡ true)
  idle k w o heard =
      let m = moment s k in
      let may = (heard_parts (may_hear s m w) (takes s m w) (pick s m k w) o heard).0 in
      let parts = and_parts (has s.everyone w && is_none (m.sends w)) (nat_lt (m.times w) s.limit) may in
      let free = and_parts (has s.everyone w) (is_none (m.sends w)) parts.0 in
      (none_is (m.sends w) free.1, free.0)

  -- what nobody receives in the first step is not relayed
  nobody_sends : (k : ℕ) → ((w o : ℕ) → Hears s w k o → ⊥) → (w o : ℕ) → (moment s (suc k)).sends w ≡ Some o → ⊥
  unfolding moment
  nobody_sends k deaf w o is = deaf w o (sends_parts (nat_lt (k + 1) STEPS) (hears s (moment s k) k w) o is).1

  nobody_hears : ((w o : ℕ) → Hears s w 0 o → ⊥) → (k w o : ℕ) → Hears s w k o → ⊥
  nobody_hears first zero w o heard = first w o heard
  nobody_hears first (suc k) w o heard = (let from = offered (suc k) w o heard in nobody_sends k (nobody_hears first k) from.0 o from.2)

  -- no initiator
  pub none_starts : ((w : ℕ) → has s.initiators w ≡ false) → (k w o : ℕ) → Hears s w k o → ⊥
  none_starts none =
      nobody_hears (λ w o heard. (let from = offered 0 w o heard in false≢true (sym (none from.0) ∙ begun from.0 o from.2)))

  -- two of them
  pub two_start : (u v : ℕ) → u ≢ v → (has s.everyone u ≡ true) × (has s.everyone v ≡ true)
      → (has s.initiators u ≡ true) × (has s.initiators v ≡ true)
      → ((w : ℕ) → has s.everyone w ≡ true → w ≢ u → w ≢ v → (x : ℕ) → has s.initiators x ≡ true → s.passes 0 x w ≡ true
      → (s.passes 0 u w ≡ true) × (s.passes 0 v w ≡ true))
      → (k w o : ℕ) → Hears s w k o → ⊥
  two_start u v differ there both reach = nobody_hears first
    where
      first : (w o : ℕ) → Hears s w 0 o → ⊥
      first w o heard =
          one_or_none s (moment s 0) 0 w u v o differ (reaches u there.0 both.0 over.0) (reaches v there.1 both.1 over.1) (uncaptured 0 w)
          (heard_parts (may_hear s (moment s 0) w) (takes s (moment s 0) w) (pick s (moment s 0) 0 w) o heard).1
        where
          resting : ((moment s 0).sends w ≡ None) × (has s.everyone w ≡ true)
          resting = idle 0 w o heard

          not_at : (x : ℕ) → has s.initiators x ≡ true → w ≢ x
          not_at x initiates same =
              not_both ((moment s 0).sends w) x resting.0 (ap (λ (y : ℕ). (moment s 0).sends y) same ∙ begins x initiates)

          over : (s.passes 0 u w ≡ true) × (s.passes 0 v w ≡ true)
          over = (let from = offered 0 w o heard in
              reach w resting.1 (not_at u both.0) (not_at v both.1) from.0 (begun from.0 o from.2) from.1)

          reaches : (x : ℕ) → has s.everyone x ≡ true → has s.initiators x ≡ true → s.passes 0 x w ≡ true
              → has (candidates s (moment s 0) 0 w) x ≡ true
          reaches x here initiates passes =
              in_filter (offer s (moment s 0) 0 w) s.everyone x x here
              (cond-true (s.passes 0 x w) ((moment s 0).sends x) None passes ∙ begins x initiates)

-- so nobody accepts anything in such a slot
pub deaf_slot : (x : Slot) → ((k w o : ℕ) → Hears x.flood w k o → ⊥) → (w : ℕ) → accepted_at x w ≡ None
deaf_slot x deaf w =
    ap (λ (a : Option (ℕ × ℕ)). option_and_then (λ a. message_said (x.window a.0)) a) (accepted_none x.flood w (λ o k a. deaf k w o a.hears))
