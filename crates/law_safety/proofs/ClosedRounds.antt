-- What a node accepted in the window that closes: nothing of its rounds, or a schedule of its rank, by which it has a
-- reference. An opening is accepted in slot 0, and a closing in the last slot.
use Rattle.std.proofs.Common.{◌≡◌, ℕ, suc, ◌≤◌, ◌⊎◌, inl, inr, List, Bool, true, false, ◌==◌, nat_lt, Some, Option, option_and_then}
use Rattle.std.proofs.Common.{IfSome, refl, sym, ◌∙◌, ap, subst, arith, true≢false, eq-eqb, lt-ltb, le-ltb}
use Rattle.std.specs.Prelude.{⊤}
use Rattle.std.proofs.lemmas.Bool.{cond-true, cond-false, ne_eqb}
use Rattle.lwb_base.specs.Messages.{Plan, Schedule}
use Rattle.glossy_relay.specs.Relaying.{accepted_of}
use Rattle.bus_rules.specs.declared.part.Part.{Part}
use Rattle.bus_rules.specs.declared.part.Part.TheVariants.{Opening, Data as DataSlot, Contention, Closing}
use Rattle.bus_rules.specs.Plans.{last_slot}
use Rattle.bus_rules.specs.Tuning.{hosts}
use Rattle.bus_rules.specs.Slots.{ScheduleOf, is_schedule_part}
use Rattle.bus_rules.proofs.Ranks.{same_schedule}
use Rattle.lwb_member.specs.Places.{kind_for}
use Rattle.lwb_member.specs.Said.{message_of}
use Rattle.node_core.specs.declared.stage.Stage.TheVariants.{InWindow}
use Rattle.node_core.specs.Windows.{Window}
use Rattle.node_core.specs.Nodes.{Node, zero_from}
use Rattle.node_core.specs.Rows.{accepted_in, last_by}
use Rattle.scenario_text.specs.ScenarioParts.{ScenarioParts}
use Rattle.radio_model.specs.declared.sending.Sending.{Sending}
use Rattle.air_log.specs.declared.entry.Entry.{Entry}
use Rattle.air_log.specs.Devices.{Device}
use Rattle.scenario_text.specs.Setups.{setup_of}
use Rattle.law_trails.specs.NodeRanges.{IsNodeInRange, IsInStage, IsOpenInRange, IsCarried}
use Rattle.law_trails.proofs.WindowsInRange.{schedule_said}
use Rattle.law_safety.specs.RoundZeros.{RefFor}
use Rattle.law_safety.specs.SetAlarms.{rank_at}
use Rattle.law_safety.specs.TunedNodes.{Either, is_joining, is_last_window, IsMember}
use Rattle.law_safety.specs.OrderedSendings.{HeardIn}
use Rattle.law_safety.specs.KnownPlans.{HasRound}
use Rattle.law_safety.specs.AcceptedPackets.{IsAccepted}
use Rattle.law_safety.specs.Rows.{AtTick}
use Rattle.law_safety.proofs.AcceptedSchedules.{reference}
use Rattle.law_safety.proofs.ClosedWindows.{Closes}
use Rattle.law_safety.proofs.OpeningRoles.{StandsAt, stands}
use Rattle.law_safety.proofs.ReadPackets.{packet_of, listener}

-- after slot 0 it is the last
last_behind : (p : Plan) (j : ℕ) (part : Part) → StandsAt p j part → is_schedule_part part ≡ true → 1 ≤ j → last_slot p ≤ j
last_behind p j Opening at is behind = absurd (omega (arith, at, behind))
last_behind p j (DataSlot owner) at is behind = absurd (true≢false (sym is))
last_behind p j (Contention i) at is behind = absurd (true≢false (sym is))
last_behind p j Closing at is behind = at.1

module _ (s : ScenarioParts) (clocks : ℕ → ℕ → ℕ) (air : List Entry) (v t : ℕ) (at : AtTick s clocks air v t) (d : Device) (n : Node) (j : ℕ) (w : Window)
    (is : Closes s clocks air v t d n j w) where
  -- the window of a member, with its round
  pub record IsMembers : Type 0 where
    pub member : IsMember s clocks v n j w.last (is_last_window j w)
    pub round : HasRound s clocks air v (suc t) n j w

  abbrev TunedBy : Bool → Type 0
  TunedBy joins = Either joins (RefFor s clocks (rank_at n) v n.zero n.frame n.frame j) (IsMember s clocks v n j w.last (is_last_window j w))

  member_by : (b : Bool) → is_joining n ≡ b
      → ((is_joining n ≡ true) × RefFor s clocks (rank_at n) v n.zero n.frame n.frame j) ⊎ ((is_joining n ≡ false) × IsMembers)
  member_by true joins = inl (joins, subst TunedBy joins is.tuned)
  member_by false stays = inr (
    stays,
    record {
      member = subst TunedBy stays is.tuned;
      round = subst (λ (b : Bool). Either b ⊤ (HasRound s clocks air v (suc t) n j w)) stays is.plan;
    },
  )

  -- it joined by this window, or the window is a member's
  pub joined_or_member : ((is_joining n ≡ true) × RefFor s clocks (rank_at n) v n.zero n.frame n.frame j) ⊎ ((is_joining n ≡ false) × IsMembers)
  joined_or_member = member_by (is_joining n) refl

  -- who joins by a window accepted a schedule in it
  pub joins_by : is_joining n ≡ true → (y : Schedule) × (accepted_in w ≡ Some (ScheduleOf y)) × (w.last ≡ last_by y j)
  joins_by joins =
      let has = is.accepted.joined joins in
      (has.schedule, ap (option_and_then (λ (a : List ℕ × ℕ). message_of a.0)) has.accepted ∙ has.says, has.last)

  -- what an accepted schedule gives
  pub record Accepts (y : Schedule) : Type 0 where
    pub heard : Sending
    pub in_slot : HeardIn s air v (suc t) n j heard
    pub says : message_of heard.packet ≡ Some (ScheduleOf y)
    pub guest : hosts n.core.tune ≡ false
    pub part : is_schedule_part w.part ≡ true
    pub zero : ℕ
    pub reference : w.reference ≡ Some zero
    pub ref : RefFor s clocks (rank_at n) v zero n.frame n.frame j

  module _ (ranged : IsNodeInRange (setup_of s v) n) (stage : n.stage ≡ InWindow j w) (y : Schedule) (accepted : accepted_in w ≡ Some (ScheduleOf y)) where
    abbrev taken : (a : List ℕ × ℕ) × (accepted_of w.flood ≡ Some a) × (message_of a.0 ≡ Some (ScheduleOf y))
    taken = packet_of (accepted_of w.flood) (ScheduleOf y) accepted

    listens : (w.flood.initiated ≡ false) × (w.flood.first ≡ Some taken.0.0)
    listens = listener w.flood.initiated w.flood.first taken.0 taken.1

    of_schedule : is_schedule_part w.part ≡ true
    of_schedule =
        let open_so : IsOpenInRange (setup_of s v) n.frame n.core j w = subst (IsInStage (setup_of s v) n.frame n.core) stage ranged.stage in
        let carried : IsCarried (setup_of s v) (kind_for w.part) j taken.0.0 =
        subst (λ (o : Option (List ℕ)). IfSome o (IsCarried (setup_of s v) (kind_for w.part) j)) listens.1 open_so.flood.first in
        schedule_said w.part taken.0.0 y carried.spelled taken.2

    -- a host says the schedules of its round, and receives none
    guest_by : (b : Bool) → hosts n.core.tune ≡ b → b ≡ false
    guest_by false host = refl
    guest_by true host = absurd (true≢false (sym (is.flood.own host of_schedule) ∙ listens.0))

    pub accepts : Accepts y
    accepts =
        let was : IsAccepted s clocks air v (suc t) n j w taken.0.0 =
        subst (λ (o : Option (List ℕ × ℕ)). IfSome o (λ (a : List ℕ × ℕ). IsAccepted s clocks air v (suc t) n j w a.0)) taken.1 is.accepted.each in
        let x : Sending = was.heard in
        let says : message_of x.packet ≡ Some (ScheduleOf y) = sym (ap message_of was.is) ∙ taken.2 in
        record {
          heard = x;
          in_slot = was.in_slot;
          says = says;
          guest = guest_by (hosts n.core.tune) refl;
          part = of_schedule;
          zero = zero_from s.profile (clocks v x.end) x.packet;
          reference = was.reference of_schedule ∙ ap (λ (q : List ℕ). Some (zero_from s.profile (clocks v x.end) q)) was.is;
          ref = reference s clocks air v t at n j is.frame x was.in_slot y says;
        }

    joined_last : is_joining n ≡ true → w.last ≡ last_by y j
    joined_last joins =
        let has = joins_by joins in
        let same : has.0 ≡ y = same_schedule has.0 y (sym has.1 ∙ accepted) in
        has.2 ∙ ap (λ (x : Schedule). last_by x j) same

    -- more slots follow an opening
    pub more_slots : y.gap ≡ 0 → j ≡ 0 → nat_lt j w.last ≡ true
    more_slots none first = elim joined_or_member [
      | inl joined ↦ (
          let last : w.last ≡ last_slot y.plan = joined_last joined.0 ∙ cond-true {A = ℕ} (y.gap == 0) (last_slot y.plan) j (eq-eqb y.gap 0 none) in
          lt-ltb j w.last (omega (arith, first, last))
          )
      | inr other ↦ (let last = other.1.round.last in lt-ltb j w.last (omega (arith, first, last)))
    ]

    -- and none a closing
    pub no_slots : 1 ≤ y.gap → 1 ≤ j → nat_lt j w.last ≡ false
    no_slots some behind = elim joined_or_member [
      | inl joined ↦ (
          let other : (y.gap == 0) ≡ false = ne_eqb y.gap 0 (λ none. omega (arith, none, some)) in
          let last : w.last ≡ j = joined_last joined.0 ∙ cond-false {A = ℕ} (y.gap == 0) (last_slot y.plan) j other in
          le-ltb j w.last (omega (arith, last))
          )
      | inr other ↦ (
          let round = other.1.round in
          let last = round.last in
          let end = last_behind round.plan j w.part (subst (StandsAt round.plan j) (sym round.part) (stands round.plan j)) of_schedule behind in
          le-ltb j w.last (omega (arith, last, end))
          )
    ]
