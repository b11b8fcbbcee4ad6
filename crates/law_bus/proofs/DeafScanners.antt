-- A scanning node that receives something of a slot has a window of it.
use Rattle.std.proofs.Common.{◌≡◌, ℕ, ◌≤◌, List, true, Some, None, Option, Contains, is_some, refl, sym, ◌∙◌, ap, subst, arith, true≢false}
use Rattle.std.specs.Option.{IfSome}
use Rattle.lwb_base.specs.Messages.{Plan, Schedule}
use Rattle.bus_rules.specs.declared.part.Part.{Part}
use Rattle.bus_rules.specs.declared.part.Part.TheVariants.{Data as DataSlot, Contention}
use Rattle.bus_rules.specs.Slots.{Message, ScheduleOf, DataOf, RequestOf, part_of, is_schedule_part}
use Rattle.lwb_member.specs.Said.{message_of}
use Rattle.scenario_text.specs.ScenarioParts.{ScenarioParts}
use Rattle.radio_model.specs.declared.sending.Sending.{Sending}
use Rattle.radio_model.specs.Hearing.{frame_of_sending, slot_of_sending}
use Rattle.air_log.specs.declared.entry.Entry.{Entry}
use Rattle.air_log.specs.Entries.{sendings_of, HasHeardEntry}
use Rattle.air_log.specs.Safe.{sender_hosts}
use Rattle.air_log.specs.Lawful.{trail_in}
use Rattle.air_log.specs.Trails.{run_end}
use Rattle.air_log.specs.WindowLogs.{WindowLog, Closing}
use Rattle.law_safety.specs.Beginnings.{MaySay}
use Rattle.law_safety.specs.FloodSendings.{IsOfFlood}
use Rattle.law_safety.specs.SentPlans.{IsPlanned}
use Rattle.law_safety.proofs.FloodPackets.{says_as_origin}
use Rattle.law_safety.proofs.RunSendings.{of_flood}
use Rattle.law_safety.proofs.SentPlans.{one_planned}
use Rattle.law_windows.specs.WindowTimes.{ClosesInTime, closing_of}
use Rattle.law_windows.proofs.WindowFacts.{close_in_time, slots_apart}
use Rattle.law_terms.specs.LawfulRuns.{IsLawfulRun}
use Rattle.bus_terms.specs.HostedRounds.{node_before, slot_in}
use Rattle.law_terms.specs.SlotLaws.{IsRound, HasWindow}
use Rattle.law_terms.specs.SlotSteps.{IsSlotStart}
use Rattle.bus_terms.specs.Flooding.{has}
use Rattle.law_bus.proofs.RoundsInTurn.{round_planned}
use Rattle.law_bus.proofs.RunsOfLogs.{run, whole, known_by, course_of}
use Rattle.law_bus.proofs.SlotsAtNodes.{IsThere}
use Rattle.law_bus.proofs.HeardByScanners.{IsOpenAsEnds, open_as_ends}
use Rattle.law_bus.proofs.SlotParties.{Takes, Member, Scanner, known_party, party_rank, takes_so}
use Rattle.law_bus.proofs.SlotSendings.{IsOf}

module _ (s : ScenarioParts) (clocks : ℕ → ℕ → ℕ) (air : List Entry) (lawful : IsLawfulRun s clocks air)
    (rank f j : ℕ) (p : Plan) (round : IsRound s rank f p) (start : IsSlotStart s clocks air rank f p j)
    (v : ℕ) (here : has (slot_in s rank f p j).flood.everyone v ≡ true) (no_alarm : HasWindow s clocks air rank f j v → ⊥)
    (x : Sending) (there : HasHeardEntry air v x) (is : IsOf s.profile rank f j x) where
  -- it is a slot in which a schedule is said
  schedule_slot : is_schedule_part (part_of p j) ≡ true
  schedule_slot = by (takes_so s clocks air lawful rank f j p round.in_run start v here)
    where
      by : Takes rank f (part_of p j) (node_before s rank f p j v) → is_schedule_part (part_of p j) ≡ true
      by (Member c at member) =
          absurd (no_alarm (start.window v c (known_party s clocks air lawful rank f j p round.in_run start v here) at member))
      by (Scanner c at other schedule of_rank) = schedule

  sent : Contains (sendings_of air) x
  sent = ((run s clocks air lawful).heedful.heard v x there).sent

  flood : IsOfFlood s clocks air x
  flood = of_flood s clocks air (whole s clocks air lawful) x sent

  abbrev o : Sending
  o = flood.origin

  same_plan : (q : Plan) → IsPlanned s air o.rank (frame_of_sending s.profile o) q → q ≡ p
  same_plan q planned =
      one_planned s clocks air (whole s clocks air lawful) rank f q p
      (subst (λ (r : ℕ). IsPlanned s air r f q) (sym flood.slot.channel ∙ is.0)
      (subst (λ (g : ℕ). IsPlanned s air o.rank g q) (sym flood.slot.frame ∙ is.1) planned))
      (round_planned s clocks air lawful rank f round.in_run start.found p round)

  no_data : (q : Plan) → IsPlanned s air o.rank (frame_of_sending s.profile o) q → (part : Part) → part_of q (slot_of_sending o) ≡ part
      → is_schedule_part part ≡ true
  no_data q planned part is_part =
      ap is_schedule_part (sym is_part)
      ∙ ap (λ (k : ℕ). is_schedule_part (part_of q k)) (sym flood.slot.slot ∙ is.2)
      ∙ ap (λ (r : Plan). is_schedule_part (part_of r j)) (same_plan q planned) ∙ schedule_slot

  record SaysOwn : Type 0 where
    schedule : Schedule
    says : message_of x.packet ≡ Some (ScheduleOf schedule)
    of_rank : schedule.plan.rank ≡ x.rank

  by_message : (m : Option Message) → message_of o.packet ≡ m
      → MaySay s clocks air o.node o.rank (frame_of_sending s.profile o) flood.zero (slot_of_sending o) (sender_hosts s clocks air o) m → SaysOwn
  by_message None read may = absurd may
  by_message (Some (ScheduleOf y)) read may = record {
    schedule = y;
    says = says_as_origin s clocks air x flood ∙ read;
    of_rank = may.fits.of_rank ∙ sym flood.slot.channel;
  }
  by_message (Some (DataOf e)) read may = absurd (true≢false (sym (no_data may.plan may.planned (DataSlot may.owner) may.part)))
  by_message (Some (RequestOf a)) read may = absurd (true≢false (sym (no_data may.plan may.planned (Contention may.place) may.part)))

  says_own : SaysOwn
  says_own = by_message (message_of o.packet) refl flood.begins.start.says

  open_ : IsOpenAsEnds s clocks air lawful v x
  open_ = open_as_ends s clocks air lawful v (known_party s clocks air lawful rank f j p round.in_run start v here) x
      says_own.schedule there says_own.says says_own.of_rank

  abbrev w : WindowLog
  w = open_.window

  rank_is : w.rank ≡ rank
  rank_is = party_rank s clocks air lawful rank f j p round.in_run start v w.rank w.slot w here
      (record { there = open_.there; frame = open_.frame ∙ is.1; channel = refl; slot = refl })

  before_closing : (c : Option Closing) → is_some c ≡ true → IfSome c (λ c. x.end ≤ c.tick) → IfSome c (ClosesInTime s clocks air v w)
      → x.end ≤ closing_of s clocks air v w
  before_closing None some late in_time = absurd (true≢false (sym some))
  before_closing (Some c) some late in_time = omega (arith, late, in_time)

  slot_is : w.slot ≡ j
  slot_is =
      let known = known_by s clocks air lawful v w open_.there in
      let closes = (course_of s clocks air lawful v f w round.in_run (record { there = open_.there; frame = open_.frame ∙ is.1 })).course.closes w
      (record { there = open_.there; frame = open_.frame ∙ is.1 }) in
      let in_time = close_in_time s clocks air (run s clocks air lawful) v known (run_end s) (omega arith) w open_.there in
      sym (slots_apart s clocks air (run s clocks air lawful) v known (run_end s) (omega arith) w open_.there x sent
      (is.0 ∙ sym rank_is) (sym open_.frame) open_.opened (before_closing w.closed closes open_.closed in_time)) ∙ is.2

  -- so who receives something of the slot has a window of it
  pub has_window : IsThere rank f j (trail_in s clocks air v).made.windows
  has_window = record { window = w; there = open_.there; frame = open_.frame ∙ is.1; channel = rank_is; slot = slot_is }
