-- What each slot of a round keeps at each node holds before each slot. Of what a node says it is known that the node is a member,
-- and of what a node accepts, that it scans the rank or is a member, and that another node said it.
use Rattle.std.proofs.Common.{◌≡◌, ◌<◌, ◌≤◌, ℕ, zero, suc, Bool, true, false, Option, Some, None, is_some, if◌then◌else◌, option_and_then, refl, sym, ◌∙◌, ap}
use Rattle.std.proofs.Common.{subst, arith}
use Rattle.law_times.proofs.Words.{false≢true, and_parts, Plan, ScenarioParts, Part, Message, Opened, opened_slot, closed_slot, part_of, is_schedule_part, Core}
use Rattle.law_times.proofs.Words.{is_member, State, StateOff, StateOn, scans, state_at, ids, accepted, has, Accepts, Slot, opened_at, message_said}
use Rattle.law_times.proofs.Words.{accepted_at, closed_slot_of, left_by, before_slot, takes_part, setup_of, slot_in, accepted_first, said_message, IsRightful}
use Rattle.law_times.proofs.Words.{IsRightfulState, rightful_before, in_filtered, of_filtered, in_whole}

-- another node said it
pub record Told (Q : ℕ → Part → Message → Type 0) (v : ℕ) (part : Part) (m : Message) : Type 0 where
  pub from : ℕ
  pub other : from ≡ v → ⊥
  pub said : Q from part m

module _ (s : ScenarioParts) (rank f : ℕ) (p : Plan) (A : Part → Type 0) (P : ℕ → State → Type 0) (Q : ℕ → Part → Message → Type 0)
    (says : (v : ℕ) (part : Part) (c : Core) (m : Message) → A part → is_member rank f c ≡ true → IsRightful (setup_of s v) c → P v (StateOn c)
    → (opened_slot (setup_of s v) f part c).message ≡ Some m → Q v part m)
    (member_closes : (v : ℕ) (part : Part) (c : Core) (heard : Option Message) → A part → is_member rank f c ≡ true → P v (StateOn c)
    → ((m : Message) → heard ≡ Some m → Told Q v part m)
    → P v (StateOn (closed_slot (setup_of s v) f part (is_some (opened_slot (setup_of s v) f part c).message) (opened_slot (setup_of s v) f part c).core
    heard).core))
    (other_closes : (v : ℕ) (part : Part) (c : Core) (m : Message) → A part → scans rank c.tune ≡ true → P v (StateOn c) → Told Q v part m
    → P v (StateOn (closed_slot (setup_of s v) f part false c (Some m)).core)) where
  abbrev at : ℕ → ℕ → State
  at j = before_slot s rank f p (state_at s f) j

  said_in : (j v : ℕ) (m : Message) → A (part_of p j) → P v (at j v) → message_said ((slot_in s rank f p j).window v) ≡ Some m → Q v (part_of p j) m
  said_in j v m allowed is said =
      let c = said_message s rank f (part_of p j) v (at j v) m said in
      says v (part_of p j) c.0 m allowed c.2 (subst (IsRightfulState (setup_of s v)) c.1 (rightful_before s rank f p j v)) (subst (P v) c.1 is) c.3

  told : (j v : ℕ) (m : Message) → A (part_of p j) → ((u : ℕ) → P u (at j u)) → accepted_at (slot_in s rank f p j) v ≡ Some m
      → Told Q v (part_of p j) m × (takes_part rank (part_of p j) (at j v) (opened_at s rank f (part_of p j) v (at j v)) ≡ true)
  told j v m allowed all is = by_first (accepted x.flood v) refl is
    where
      x : Slot
      x = slot_in s rank f p j

      by_first : (o : Option (ℕ × ℕ)) → accepted x.flood v ≡ o → option_and_then (λ (a : ℕ × ℕ). message_said (x.window a.0)) o ≡ Some m
          → Told Q v (part_of p j) m × (takes_part rank (part_of p j) (at j v) (opened_at s rank f (part_of p j) v (at j v)) ≡ true)
      by_first None found is = absurd (cc)
      by_first (Some a) found is =
          let accepts : Accepts x.flood v a.0 a.1 = (accepted_first x.flood v a.0 a.1).0 found in
          let there = of_filtered (λ u. takes_part rank x.part (at j u) (x.window u)) (ids s.nodes) v accepts.here in
          let known = in_whole (λ u. takes_part rank x.part (at j u) (x.window u)) (ids s.nodes) v accepts.here in
          let initiates : a.0 ≡ v → has x.flood.initiators v ≡ true =
          λ same. in_filtered (λ u. is_some (message_said (x.window u))) (ids s.nodes) v known
          (ap (λ (u : ℕ). is_some (message_said (x.window u))) (sym same) ∙ ap (λ (o : Option Message). is_some o) is) in (
            record {
              from = a.0;
              other = λ same. false≢true (sym accepts.listens ∙ initiates same);
              said = said_in j a.0 m allowed (all a.0) is;
            },
            there,
          )

  closes : (j v : ℕ) (part : Part) (y : State) (heard : Option Message) → A part → P v y → ((m : Message) → heard ≡ Some m → Told Q v part m
      × (takes_part rank part y (opened_at s rank f part v y) ≡ true))
      → P v (left_by y (closed_slot_of s f part v (opened_at s rank f part v y) heard y))
  closes j v part (StateOff boots) None allowed is heard_told = is
  closes j v part (StateOff boots) (Some m) allowed is heard_told = is
  closes j v part (StateOn c) heard allowed is heard_told = by_member (is_member rank f c) refl heard heard_told
    where
      window : Bool → Option Opened
      window b = if b then Some (opened_slot (setup_of s v) f part c) else None

      by_member : (b : Bool) → is_member rank f c ≡ b → (heard : Option Message)
          → ((m : Message) → heard ≡ Some m
          → Told Q v part m × (takes_part rank part (StateOn c) (if b then Some (opened_slot (setup_of s v) f part c) else None) ≡ true))
          → P v (left_by (StateOn c) (closed_slot_of s f part v (if b then Some (opened_slot (setup_of s v) f part c) else None) heard (StateOn c)))
      by_member true member heard given = member_closes v part c heard allowed member is (λ m hears. (given m hears).0)
      by_member false member None given = is
      by_member false member (Some m) given =
          other_closes v part c m allowed (and_parts (is_schedule_part part) (scans rank c.tune) (given m refl).1).1 is (given m refl).0

  -- before each slot, up to one before which all slots are such
  pub keeps : (end : ℕ) → ((j : ℕ) → j < end → A (part_of p j)) → ((v : ℕ) → P v (state_at s f v)) → (j : ℕ) → j ≤ end → (v : ℕ) → P v (at j v)
  unfolding before_slot
  keeps end allowed all zero early v = all v
  keeps end allowed all (suc j) early v =
      let before : (u : ℕ) → P u (at j u) = keeps end allowed all j (omega (arith, early)) in
      let now : A (part_of p j) = allowed j (omega (arith, early)) in
      closes j v (part_of p j) (at j v) (accepted_at (slot_in s rank f p j) v) now (before v) (λ m is. told j v m now before is)
