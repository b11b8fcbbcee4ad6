-- A window closes by its alarm, and with the last one the round ends.
use Rattle.std.proofs.Common.{◌≡◌, ℕ, suc, ◌+◌, ◌*◌, ◌/◌, List, Bool, true, ◌==◌, nat_lt, if◌then◌else◌, Some, None, Option, Contains, inl, inr, refl, sym, ◌∙◌}
use Rattle.std.proofs.Common.{ap, subst, arith, eq-eqb}
use Rattle.std.proofs.lemmas.Bool.{cond-true, cond-false, ne_eqb}
use Rattle.lwb_base.specs.Messages.{Schedule}
use Rattle.lwb_base.specs.declared.event.Event.TheVariants.{Alarm}
use Rattle.time_reference.specs.Reference.{stopped}
use Rattle.bus_rules.specs.Cores.{Core, Setup, opening_accepted, closing_accepted}
use Rattle.bus_rules.specs.Slots.{Message, ScheduleOf, DataOf, RequestOf, closed_slot}
use Rattle.node_core.specs.declared.stage.Stage.TheVariants.{InWindow}
use Rattle.node_core.specs.Windows.{Window}
use Rattle.node_core.specs.Nodes.{Node}
use Rattle.node_core.specs.Rows.{window_closes, zero_by, accepted_in}
use Rattle.node_core.proofs.WindowKinds.{zero_stays}
use Rattle.scenario_text.specs.ScenarioParts.{ScenarioParts}
use Rattle.radio_model.specs.declared.sending.Sending.{Sending}
use Rattle.air_log.specs.declared.entry.Entry.{Entry}
use Rattle.air_log.specs.Devices.{Device, Power}
use Rattle.scenario_text.specs.Setups.{setup_of}
use Rattle.law_trails.specs.DeviceRanges.{IsPower}
use Rattle.law_trails.specs.NodeRanges.{IsNodeInRange}
use Rattle.law_trails.specs.Walks.{device_after_row}
use Rattle.law_trails.proofs.RowsLeave.{closing_leaves}
use Rattle.law_safety.specs.FloodSendings.{IsOfFlood}
use Rattle.law_safety.specs.NodesInOrder.{IsOn, InOrderBy}
use Rattle.law_safety.specs.QuietHosts.{LivesBy}
use Rattle.law_safety.specs.Rows.{AtTick, ClosingRow}
use Rattle.law_safety.proofs.WellSteps.{well_at_alarms}
use Rattle.law_safety.proofs.TunedRadios.{off_is}
use Rattle.law_safety.proofs.AcceptedSchedules.{place}
use Rattle.law_safety.proofs.ClosedWindows.{Closes, closes}
use Rattle.law_safety.proofs.ClosedNodes.{Leads}
use Rattle.law_safety.proofs.ClosedRounds.{IsMembers, joined_or_member, joins_by, Accepts, accepts, more_slots, no_slots}
use Rattle.law_safety.proofs.KeptRounds.{KeepsRound, heard_keeps, goes_by_own}
use Rattle.law_safety.proofs.TakenSchedules.{goes_by_opening, goes_by_closing}

module _ (s : ScenarioParts) (clocks : ℕ → ℕ → ℕ) (air : List Entry) (v t : ℕ) (at : AtTick s clocks air v t) (d : Device) (n : Node) (j : ℕ) (w : Window)
    (is : Closes s clocks air v t d n j w) (ranged : IsNodeInRange (setup_of s v) n) (stage : n.stage ≡ InWindow j w)
    (sent : (x : Sending) → Contains d.made.sent x → IsOfFlood s clocks air x) (e : Device) where
  abbrev f : ℕ
  f = n.frame

  abbrev Ends : Core → ℕ → Bool → Type 0
  Ends core z more = Leads s clocks air v t at d n j w is e core z more

  -- the core that an accepted schedule leaves, by what it is
  abbrev opened : Schedule → Core
  opened y = opening_accepted v f y n.core

  abbrev rested : Schedule → Core
  rested y = closing_accepted v f y n.core

  abbrev more : Bool
  more = nat_lt j w.last

  -- no schedule was accepted: the window is a member's
  members : ((y : Schedule) → accepted_in w ≡ Some (ScheduleOf y) → ⊥) → IsMembers s clocks air v t at d n j w is
  members none = elim (joined_or_member s clocks air v t at d n j w is) [
    | inl joined ↦ (let has = joins_by s clocks air v t at d n j w is joined.0 in absurd (none has.0 has.1))
    | inr other ↦ other.1
  ]

  own : (core : Core) (z : ℕ) → KeepsRound n.core core → z ≡ n.zero → ((y : Schedule) → accepted_in w ≡ Some (ScheduleOf y) → ⊥) → Ends core z more
  own core z keeps same none =
      subst (λ (y : ℕ). Ends core y more) (sym same) (goes_by_own s clocks air v t at d n j w is ranged (members none) sent e core keeps)

  -- one was
  taken : (y : Schedule) → accepted_in w ≡ Some (ScheduleOf y)
      → Ends (if y.gap == 0 then opened y else rested y) (zero_by s.profile n.zero w.reference (Some (ScheduleOf y))) more
  taken y accepted =
      let has : Accepts s clocks air v t at d n j w is y = accepts s clocks air v t at d n j w is ranged stage y accepted in
      let z = stopped (has.zero + y.gap * s.profile.frame) in
      let zero : zero_by s.profile n.zero w.reference (Some (ScheduleOf y)) ≡ z =
      ap (λ (r : Option ℕ). zero_by s.profile n.zero r (Some (ScheduleOf y))) has.reference in
      subst (λ (z : ℕ). Ends (if y.gap == 0 then opened y else rested y) z more) (sym zero)
      (elim (place s clocks air v t at n j is.frame has.heard has.in_slot y has.says) [
        | inl opens ↦
            subst (λ (c : Core). Ends c z more) (sym (cond-true (y.gap == 0) (opened y) (rested y) (eq-eqb y.gap 0 opens.0)))
            (subst (λ (b : Bool). Ends (opened y) z b) (sym (more_slots s clocks air v t at d n j w is ranged stage y accepted opens.0 opens.1))
            (goes_by_opening s clocks air v t at d n j w is e y has opens.0 opens.1))
        | inr closing ↦ (
            let some = closing.0 in
            subst (λ (c : Core). Ends c z more)
            (sym (cond-false (y.gap == 0) (opened y) (rested y) (ne_eqb y.gap 0 (λ none. omega (arith, none, some)))))
            (subst (λ (b : Bool). Ends (rested y) z b) (sym (no_slots s clocks air v t at d n j w is ranged stage y accepted closing.0 closing.2))
            (goes_by_closing s clocks air v t at d n j w is e y has closing.0 closing.1))
            )
      ])

  by_message : (m : Option Message) → accepted_in w ≡ m
      → Ends (closed_slot (setup_of s v) f w.part w.flood.initiated n.core m).core (zero_by s.profile n.zero w.reference m) more
  by_message None none = own _ _ (heard_keeps f w.part w.flood.initiated n.core) (zero_stays s.profile n.zero w.reference) (λ y some. absurd cc)
  by_message (Some (DataOf x)) is_data = own _ _ (heard_keeps f w.part true n.core) (data_stays w.reference) (λ y some. absurd cc)
    where
      data_stays : (r : Option ℕ) → zero_by s.profile n.zero r (Some (DataOf x)) ≡ n.zero
      data_stays None = refl
      data_stays (Some reference) = refl
  by_message (Some (RequestOf a)) request = own _ _ (record { tune = refl; plan = refl; own_slot = refl }) (request_stays w.reference) (λ y some. absurd cc)
    where
      request_stays : (r : Option ℕ) → zero_by s.profile n.zero r (Some (RequestOf a)) ≡ n.zero
      request_stays None = refl
      request_stays (Some reference) = refl
  by_message (Some (ScheduleOf y)) accepted = taken y accepted

  pub goes_on : Ends (closed_slot (setup_of s v) f w.part w.flood.initiated n.core (accepted_in w)).core
      (zero_by s.profile n.zero w.reference (accepted_in w)) more
  goes_on = by_message (accepted_in w) refl

pub closing_row : ClosingRow
closing_row s clocks air v t at d n j w here due power stage =
    let set : Setup = setup_of s v in
    let holds = here.holds in
    let on : IsOn s clocks air v t (suc t) d n = subst (λ (p : Power). InOrderBy s clocks air v t (suc t) d p) power holds.node.by_power in
    let is : Closes s clocks air v t d n j w = closes s clocks air v t d n j w on stage due.due here.known in
    let ranged : IsNodeInRange set n = subst (IsPower set) power (well_at_alarms s clocks air v t at d due).power in
    let leaves = closing_leaves (clocks v) set t (record d { alarm = None }) n j w in
    let e : Device = device_after_row (clocks v) set t Alarm None (record d { alarm = None }) n (window_closes set n j w) in
    let goes = goes_on s clocks air v t at d n j w is ranged stage holds.sent e (record {
      still = record { ordered = leaves.ordered_is ∙ is.still.ordered; sending = leaves.sending ∙ is.still.sending };
      off = off_is e.listening leaves.channel_is;
      sent = leaves.sent;
      alarm = leaves.alarm_is;
    }) leaves.power in
    record {
      node = record { by_power = subst (λ (p : Power). InOrderBy s clocks air v t (suc t) e p) (sym leaves.power) goes.node };
      host = λ rank hosted.
          let old = holds.host rank hosted in
          goes.host rank old (subst (LivesBy old.life (t / s.profile.frame)) power old.lives);
      sent = λ x there. holds.sent x (subst (λ (xs : List Sending). Contains xs x) leaves.sent there);
      before = λ x there. holds.before x (subst (λ (xs : List Sending). Contains xs x) leaves.sent there);
    }
