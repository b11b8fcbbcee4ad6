-- For a rank and a frame at most one plan was sent, and it fits a round.
use Rattle.std.proofs.Common.{◌≡◌, ℕ, ◌+◌, ◌≤◌, inl, inr, List, Some, Contains, sym, ◌∙◌, subst, arith}
use Rattle.lwb_base.specs.Messages.{Plan, Schedule}
use Rattle.bus_rules.specs.Plans.{last_slot}
use Rattle.bus_rules.specs.Slots.{ScheduleOf}
use Rattle.lwb_member.specs.Said.{message_of}
use Rattle.time_reference.specs.Budgets.{budget_of}
use Rattle.scenario_text.specs.ScenarioParts.{ScenarioParts}
use Rattle.radio_model.specs.declared.sending.Sending.{Sending}
use Rattle.radio_model.specs.Hearing.{counter_of_sending, frame_of_sending, slot_of_sending}
use Rattle.air_log.specs.declared.entry.Entry.{Entry}
use Rattle.air_log.specs.Entries.{sendings_of}
use Rattle.air_log.specs.Safe.{sender_hosts}
use Rattle.air_log.specs.Trails.{run_end}
use Rattle.law_trails.specs.Lives.{Life, PlansFor}
use Rattle.law_trails.specs.TrailLinks.{device_in}
use Rattle.law_trails.proofs.LifeLaws.{one_plan}
use Rattle.law_safety.specs.Beginnings.{MaySay, SaysSchedule}
use Rattle.law_safety.specs.QuietHosts.{LifeHasSchedule}
use Rattle.law_safety.specs.SentPlans.{IsHostOf, FitsRound, IsScheduleSent, IsPlanned}
use Rattle.law_safety.proofs.RunFacts.{host_is}
use Rattle.law_safety.specs.Endings.{EndsInOrder}
use Rattle.law_safety.proofs.RunSendings.{begins_flood, in_trail, of_flood}

module _ (s : ScenarioParts) (clocks : ℕ → ℕ → ℕ) (air : List Entry) (whole : EndsInOrder s clocks air) where
  module _ (x : Sending) (y : Schedule) (there : Contains (sendings_of air) x) (first : counter_of_sending x ≡ 0)
      (says : message_of x.packet ≡ Some (ScheduleOf y)) where
    began : SaysSchedule s clocks air x.node x.rank (frame_of_sending s.profile x) (of_flood s clocks air whole x there).zero (slot_of_sending x) y
    began =
        let z = (of_flood s clocks air whole x there).zero in
        subst (MaySay s clocks air x.node x.rank (frame_of_sending s.profile x) z (slot_of_sending x) (sender_hosts s clocks air x)) says
        (begins_flood s clocks air whole x there first).start.says

    -- who begins the flood of a schedule is the host of its channel
    pub began_by_host : IsHostOf s x.rank x.node
    began_by_host = began.host

    pub began_short : FitsRound s x.rank y.plan
    began_short = began.fits

  module _ (rank : ℕ) (y : Schedule) (x : Sending) (is : IsScheduleSent air rank y x) where
    said_by_host : IsHostOf s rank x.node
    said_by_host = subst (λ (r : ℕ). IsHostOf s r x.node) is.channel (began_by_host x y is.sent is.first is.says)

    said_fits : FitsRound s rank y.plan
    said_fits = subst (λ (r : ℕ). FitsRound s r y.plan) is.channel (began_short x y is.sent is.first is.says)

  -- the life of the host has what was sent
  of_life : (l : Life) (before gap frame : ℕ) (plan : Plan) → before + gap ≡ frame → LifeHasSchedule l before (record { plan = plan; gap = gap })
      → PlansFor l frame plan
  of_life l before gap frame plan due (inl opened) =
      inr (subst (λ (f : ℕ). Contains l.openings (record { frame = f; plan = plan })) (let now = opened.0 in omega (arith, due, now)) opened.1)
  of_life l before gap frame plan due (inr closed) = inl (record { gap = gap; before = before; there = closed; due = due })

  lived : (rank v frame : ℕ) (plan : Plan) (host : IsHostOf s rank v) → IsPlanned s air rank frame plan
      → PlansFor (whole.ends.hosts rank v host).life frame plan
  lived rank v frame plan host planned =
      let x = planned.sending in
      let y : Schedule = record { plan = plan; gap = planned.gap } in
      let is = planned.schedule in
      let node : x.node ≡ v = sym (host_is s rank x.node (said_by_host rank y x is)) ∙ host_is s rank v host in
      let there = subst (λ (u : ℕ). Contains (device_in s clocks air u (run_end s)).made.sent x) node (in_trail s clocks air whole x is.sent) in
      of_life (whole.ends.hosts rank v host).life (frame_of_sending s.profile x) planned.gap frame plan planned.due
      ((whole.ends.hosts rank v host).sent x y there is.first is.says)

  pub one_planned : (rank frame : ℕ) (p q : Plan) → IsPlanned s air rank frame p → IsPlanned s air rank frame q → p ≡ q
  one_planned rank frame p q first second =
      let x = first.sending in
      let host = said_by_host rank (record { plan = p; gap = first.gap }) x first.schedule in
      let h = whole.ends.hosts rank x.node host in
      one_plan rank h.life h.quiet frame p q (lived rank x.node frame p host first) (lived rank x.node frame q host second)

  pub planned_short : (rank frame : ℕ) (p : Plan) → IsPlanned s air rank frame p → last_slot p ≤ (budget_of s.profile).last
  planned_short rank frame p planned = (said_fits rank (record { plan = p; gap = planned.gap }) planned.sending planned.schedule).short
