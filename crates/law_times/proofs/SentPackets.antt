-- A packet that is the first in its queue is delivered in a data slot of its stream in which nothing is lost.
use Rattle.std.proofs.Common.{◌≡◌, ◌≢◌, ◌<◌, ◌≤◌, ◌+◌, ◌==◌, ℕ, suc, List, [], true, Option, Some, flat_map, length, refl, sym, ◌∙◌, ap, subst, arith, Contains}
use Rattle.lwb_base.proofs.NumbersOfRanges.{in_range}
use Rattle.law_times.proofs.Words.{option_map_or, eqb-true, false≢true, in_filter, in_flat, some_of, Plan, code, node_of, stream_of, IsOverScenario}
use Rattle.law_times.proofs.Words.{ScenarioParts}
use Rattle.law_times.proofs.Words.{Delivery, Part, Opening, DataSlot, Contention, Closing, Tune, Core, is_member, last_slot, Opened, part_of, State, StateOff}
use Rattle.law_times.proofs.Words.{StateOn, first_waiting, bus_deliveries, frames_of, ranks_of, state_at, ids, has, slot_in, Slot, before_slot}
use Rattle.law_times.proofs.Words.{delivery_in_slot, opened_at, round_deliveries, round_plan, slot_deliveries, slots_of, takes_part, in_filtered, windowed}
use Rattle.law_times.proofs.Words.{HasData, delivery, IsWithin, LosesNothing, TakesPart, delivered_within, IsDelivered, StreamPacket, delivery_to, IsReached}
use Rattle.law_times.proofs.EarlyTunes.{tunes_stay}
use Rattle.law_times.proofs.QueuedPackets.{Waits, is_slot_of, parts_of_code}
use Rattle.law_times.proofs.QueuedRounds.{IsTurn}
use Rattle.law_times.proofs.ReachedNodes.{reached_in}
use Rattle.law_times.proofs.Settings.{tune_of}

-- what is delivered in a slot of a round is among the bus's deliveries
in_ids : (s : ScenarioParts) (v : ℕ) → has (ids s.nodes) v ≡ true → Contains (ids s.nodes) v
in_ids s v there =
    let x = some_of (λ u. u == v) (ids s.nodes) there in
    subst (λ (u : ℕ). Contains (ids s.nodes) u) (eqb-true x.0 v x.2) x.1

delivered_in : (s : ScenarioParts) (rank f : ℕ) (p : Plan) (j v : ℕ) (d : Delivery) → round_plan s rank f (state_at s f) ≡ Some p → f < s.frames
    → rank < length s.hosts → j ≤ last_slot p → has (ids s.nodes) v ≡ true → delivery_in_slot s rank f p (state_at s f) j v ≡ Some d
    → Contains (bus_deliveries s) d
delivered_in s rank f p j v d planned frame known_rank slot known is =
    in_flat (λ f. flat_map (λ rank. round_deliveries s rank f (state_at s f)) (ranks_of s)) (frames_of s) f d
    (in_range 0 s.frames f (omega arith) (omega (arith, frame)))
    (in_flat (λ rank. round_deliveries s rank f (state_at s f)) (ranks_of s) rank d (in_range 0 (length s.hosts) rank (omega arith) (omega (arith, known_rank)))
    (subst (λ (o : Option Plan). Contains (option_map_or (λ p. flat_map (slot_deliveries s rank f p (state_at s f)) (slots_of p)) o []) d) (sym planned)
    (in_flat (slot_deliveries s rank f p (state_at s f)) (slots_of p) j d (in_range 0 (last_slot p + 1) j (omega arith) (omega (arith, slot)))
    (in_filter (delivery_in_slot s rank f p (state_at s f) j) (ids s.nodes) v d (in_ids s v known) is))))

pub slot_is : (c : ℕ) (part : Part) → is_slot_of c part ≡ true → part ≡ DataSlot c
slot_is c Opening is = absurd (false≢true is)
slot_is c (DataSlot owner) is = ap (λ (n : ℕ). DataSlot n) (eqb-true owner c is)
slot_is c (Contention i) is = absurd (false≢true is)
slot_is c Closing is = absurd (false≢true is)

module _ (s : ScenarioParts) (rank f : ℕ) (p : Plan) (among : List ℕ) (known : (v : ℕ) → has among v ≡ true → has (ids s.nodes) v ≡ true)
    (members : (v : ℕ) → has among v ≡ true → (t : Tune) × (tune_of (state_at s f v) ≡ Some t) × ((d : Core) → d.tune ≡ t → is_member rank f d ≡ true)) where
  abbrev before : ℕ → ℕ → State
  before j = before_slot s rank f p (state_at s f) j

  -- each of them takes part in every slot
  pub member_at : (j v : ℕ) → j ≤ last_slot p → has among v ≡ true → (d : Core) × (before j v ≡ StateOn d) × (is_member rank f d ≡ true)
  member_at j v early there = by_state (before j v) refl (tunes_stay s rank f p j early v ∙ at.1)
    where
      at : (t : Tune) × (tune_of (state_at s f v) ≡ Some t) × ((d : Core) → d.tune ≡ t → is_member rank f d ≡ true)
      at = members v there

      by_state : (x : State) → before j v ≡ x → tune_of x ≡ Some at.0 → (d : Core) × (before j v ≡ StateOn d) × (is_member rank f d ≡ true)
      by_state (StateOff boots) is tune = absurd (cc)
      by_state (StateOn d) is tune = (d, is, at.2 d (cc))

  pub takes : (j v : ℕ) → j ≤ last_slot p → has among v ≡ true → TakesPart (slot_in s rank f p j) v
  takes j v early there =
      let d = member_at j v early there in
      let x : Slot = slot_in s rank f p j in
      in_filtered (λ u. takes_part rank x.part (before j u) (x.window u)) (ids s.nodes) v (known v there)
      (ap (λ (y : State). takes_part rank (part_of p j) (before j v) (opened_at s rank f (part_of p j) v y)) d.1
      ∙ ap (λ (o : Option Opened). takes_part rank (part_of p j) (before j v) o) (windowed s rank f (part_of p j) v d.0 d.2))

  module _ (accepted : IsOverScenario s) (planned : round_plan s rank f (state_at s f) ≡ Some p) (known_rank : rank < length s.hosts) (frame : f < s.frames)
      (lossless : (j : ℕ) → LosesNothing s (slot_in s rank f p j)) (w : StreamPacket) (few : w.stream ≤ 3) (t : Tune)
      (goes : tune_of (state_at s f w.node) ≡ Some t) (there : has among w.node ≡ true) where
    pub delivers : (end : ℕ) → IsTurn s rank f p w few t goes end → IsDelivered s rank f among w
    delivers end turn = record { slot = j; all = all }
      where
        j : ℕ
        j = turn.slot

        early : j ≤ last_slot p
        early = (let within = turn.within in omega (arith, within))

        parts : (node_of (code w.node w.stream) ≡ w.node) × (stream_of (code w.node w.stream) ≡ w.stream)
        parts = parts_of_code w.node w.stream few

        d : (d : Core) × (before j w.node ≡ StateOn d) × (is_member rank f d ≡ true)
        d = member_at j w.node early there

        first : Waits w 0 (StateOn d.0)
        first = subst (Waits w 0) d.1 turn.first

        has_data : HasData s rank f p (state_at s f) j (code w.node w.stream) d.0 w.packet
        has_data = record {
          slot = slot_is (code w.node w.stream) (part_of p j) turn.own;
          on = ap (λ (u : ℕ). before j u) parts.0 ∙ d.1;
          member = subst (λ (u : ℕ). TakesPart (slot_in s rank f p j) u) (sym parts.0) (takes j w.node early there);
          waits = ap (λ (i : ℕ). first_waiting d.0.streams i) parts.1 ∙ first.1;
        }

        all : (v : ℕ) → has among v ≡ true → v ≢ w.node → IsReached s among w.node v → Contains (bus_deliveries s) (delivery_to w rank f j v)
        all v at other reached =
            let within = reached_in s (slot_in s rank f p j) among w.node v (λ u is. takes j u early is) at other reached in
            let near = subst (λ (u : ℕ). IsWithin s (slot_in s rank f p j) u (suc within.0) v) (sym parts.0) within.1 in
            let comes = delivered_within s accepted rank f p (state_at s f) j (code w.node w.stream) d.0 w.packet has_data (lossless j) within.0 v near in
            delivered_in s rank f p j v (delivery_to w rank f j v) planned frame known_rank early (known v at) (comes.0
            ∙ ap (λ (u : ℕ). Some (record (delivery rank f j (code w.node w.stream) d.0 w.packet v) { from = u })) parts.0
            ∙ ap (λ (i : ℕ). Some (record (delivery_to w rank f j v) { boot = d.0.boot; stream = i })) parts.1
            ∙ ap (λ (n : ℕ). Some (record (delivery_to w rank f j v) { boot = n })) first.0)
