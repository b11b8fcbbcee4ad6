-- Frame by frame the nodes are the bus's, where they are so slot by slot of each round.
use Rattle.std.proofs.Common.{◌≡◌, ℕ, zero, suc, ◌+◌, ◌-◌, ◌<◌, ◌≤◌, List, true, Some, None, Option, inl, inr, refl, sym, ◌∙◌, ap, subst, arith}
use Rattle.std.specs.Prelude.{◌⊎◌}
use Rattle.lwb_base.specs.Messages.{Plan}
use Rattle.bus_rules.specs.Plans.{last_slot}
use Rattle.bus_rules.specs.Tuning.{rank_of}
use Rattle.bus_rules.specs.Cores.{Core, frame_ended}
use Rattle.bus_rules.specs.States.{State, StateOff, StateOn, at_core}
use Rattle.node_core.specs.Nodes.{Node}
use Rattle.node_core.specs.declared.stage.Stage.TheVariants.{AwaitFrame, AwaitSlot}
use Rattle.scenario_text.specs.ScenarioParts.{ScenarioParts}
use Rattle.scenario_text.specs.FloodParts.{knows}
use Rattle.air_log.specs.declared.entry.Entry.{Entry}
use Rattle.air_log.specs.Devices.{Power, PowerOff, PowerOn, state_of_power}
use Rattle.air_log.specs.Lawful.{heard_by}
use Rattle.air_log.specs.Trails.{before_tick, frame_start}
use Rattle.air_log.specs.WindowLogs.{WindowLog}
use Rattle.law_safety.specs.SentPlans.{IsPlanned}
use Rattle.law_safety.proofs.RunFacts.{frame_lasts}
use Rattle.scenario_text.specs.Setups.{setup_of}
use Rattle.bus_terms.specs.Rounds.{round_of_rank, rounds, rank_in, after_round, round_plan}
use Rattle.bus_terms.specs.Bus.{state_at, before_frame}
use Rattle.bus_terms.proofs.OtherRanks.{IsElsewhere, slots_elsewhere}
use Rattle.law_windows.proofs.Courses.{through_frames}
use Rattle.law_terms.specs.LawfulRuns.{IsLawfulRun}
use Rattle.law_terms.specs.FrameCourses.{GoesThrough, IsCourse, IsWindowIn, StaysOff, power_at, power_after}
use Rattle.law_terms.specs.SlotLaws.{IsRound, IsWindowOf}
use Rattle.law_terms.specs.SlotSteps.{IsFrameStart, IsSlotStart, IsSlotHeard, SlotHeardLaw}
use Rattle.law_terms.proofs.SameDrops.{script_same}
use Rattle.law_bus.proofs.BusLeaders.{has_round}
use Rattle.law_bus.proofs.LedRounds.{led_round}
use Rattle.law_bus.proofs.PlannedRounds.{placed}
use Rattle.law_bus.proofs.RoundsInTurn.{hosted_by, first_slot, slot_step, find_window, round_left, round_planned, round_without}
use Rattle.law_bus.proofs.WindowsInTurn.{closes_last, closing_of, next_of}

-- a round leaves alone a node that is off
round_off : (s : ScenarioParts) (rank f v : ℕ) (states : ℕ → State) (boots : ℕ) → states v ≡ StateOff boots → (o : Option Plan)
    → after_round s rank f states o v ≡ states v
round_off s rank f v states boots off None = refl
round_off s rank f v states boots off (Some p) = slots_elsewhere s rank f p v states (subst (IsElsewhere rank) (sym off) tt) (last_slot p + 1)

module _ (heards : SlotHeardLaw) (s : ScenarioParts) (clocks : ℕ → ℕ → ℕ) (air : List Entry) (lawful : IsLawfulRun s clocks air) where
  module _ (f : ℕ) (found : IsFrameStart s clocks air f) where
    -- the slots of a round, one after another
    module _ (rank : ℕ) (p : Plan) (is_round : IsRound s rank f p) where
      pub starts : (j : ℕ) → j ≤ last_slot p → IsSlotStart s clocks air rank f p j
      starts zero within = first_slot s clocks air lawful rank f is_round.in_run p is_round found
      starts (suc j) within =
          let start = starts j (omega (arith, within)) in
          slot_step s clocks air lawful rank f is_round.in_run p is_round j start
          (heards s clocks air lawful rank f j p is_round (omega (arith, within)) start) within

      pub hears : (j : ℕ) → j ≤ last_slot p → IsSlotHeard s clocks air rank f p j
      hears j within = heards s clocks air lawful rank f j p is_round within (starts j within)

      -- who has a window has one in the last slot
      planned : IsPlanned s air rank f p
      planned = round_planned s clocks air lawful rank f is_round.in_run found p is_round

      up_to_last : (more j v : ℕ) (w : WindowLog) → IsWindowOf s clocks air rank f j v w → j + more ≡ last_slot p
          → ((x : WindowLog) → IsWindowOf s clocks air rank f (last_slot p) v x → ⊥) → ⊥
      up_to_last zero j v w here end none = none w (subst (λ (i : ℕ). IsWindowOf s clocks air rank f i v w) (omega (arith, end)) here)
      up_to_last (suc more) j v w here end none =
          let place = placed s clocks air lawful rank f is_round.in_run p planned j v w here in
          let next = next_of s clocks air lawful rank f is_round.in_run j v w here (place.more (omega (arith, end))) in
          up_to_last more (suc j) v next.window next.here (omega (arith, end)) none

      none_at_all : (v : ℕ) → ((x : WindowLog) → IsWindowOf s clocks air rank f (last_slot p) v x → ⊥) → (j : ℕ) (w : WindowLog)
          → IsWindowOf s clocks air rank f j v w → ⊥
      none_at_all v none j w here =
          let place = placed s clocks air lawful rank f is_round.in_run p planned j v w here in
          let within = place.within in
          up_to_last (last_slot p - j) j v w here (omega (arith, within)) none

    module _ (in_run : f < s.frames) (v : ℕ) (known : knows s.nodes v ≡ true) where
      abbrev states : ℕ → State
      states = state_at s f

      abbrev After : Type 0
      After = state_of_power (power_after s clocks air v f) ≡ at_core (frame_ended (setup_of s v) f) (rounds s f states v)

      off_then : (boots : ℕ) → power_at s clocks air v f ≡ PowerOff boots → StaysOff s clocks air v f boots → After
      off_then boots off stays =
          let at : states v ≡ StateOff boots = sym (found v known) ∙ ap state_of_power off in
          stays.off
          ∙ ap (at_core (frame_ended (setup_of s v) f)) (sym
          (round_off s (rank_in (states v)) f v states boots at (round_plan s (rank_in (states v)) f states) ∙ at))

      module _ (n : Node) (on : power_at s clocks air v f ≡ PowerOn n) (course : IsCourse s clocks air v f n) where
        abbrev rank : ℕ
        rank = rank_of n.core.tune

        at : states v ≡ StateOn n.core
        at = sym (found v known) ∙ ap state_of_power on

        of_rank : (c : Core) → round_of_rank s rank f states v ≡ StateOn c → at_core (frame_ended (setup_of s v) f)
            (rounds s f states v) ≡ StateOn (frame_ended (setup_of s v) f c)
        of_rank c is = ap (λ (x : State). at_core (frame_ended (setup_of s v) f) (round_of_rank s (rank_in x) f states v)) at
            ∙ ap (at_core (frame_ended (setup_of s v) f)) is

        as_of : (w : WindowLog) → IsWindowIn s clocks air v f w → IsWindowOf s clocks air rank f w.slot v w
        as_of w here = record { there = here.there; frame = here.frame; channel = course.ranks w here; slot = refl }

        -- without a round on the bus there is no window
        no_round : round_plan s rank f states ≡ None → After
        no_round none =
            course.rests (λ w here.
            let led = led_round s clocks air lawful rank f in_run w.slot v w (as_of w here) in
            let has = has_round s rank f states led.host led.node.core led.known (sym (found led.host led.known) ∙ ap state_of_power led.on) led.leads in
            never has.0 (sym none ∙ has.1))
            ∙ sym (of_rank n.core (ap (λ (o : Option Plan). after_round s rank f states o v) none ∙ at))
          where
            never : (q : Plan) → ◌≡◌ {A = Option Plan} None (Some q) → ⊥
            never q is = cc

        module _ (p : Plan) (is_round : IsRound s rank f p) where
          start : IsSlotStart s clocks air rank f p (last_slot p)
          start = starts rank p is_round (last_slot p) (omega arith)

          heard : IsSlotHeard s clocks air rank f p (last_slot p)
          heard = hears rank p is_round (last_slot p) (omega arith)

          after_window : (w : WindowLog) → IsWindowOf s clocks air rank f (last_slot p) v w → After
          after_window w here =
              let c = closing_of s clocks air lawful rank f in_run (last_slot p) v w here in
              let place = placed s clocks air lawful rank f in_run p (planned rank p is_round) (last_slot p) v w here in
              let rests : c.closing.after.stage ≡ AwaitFrame = closes_last s clocks air lawful v w c.closing here.there c.is (place.last refl) in
              course.ends w c.closing (record { there = here.there; frame = here.frame }) c.is (λ awaits. stages (suc w.slot) (sym rests ∙ awaits))
              ∙ sym (of_rank c.closing.after.core (round_left s clocks air lawful rank f in_run p is_round
              (last_slot p) start heard refl v w c.closing here c.is))
            where
              stages : (i : ℕ) → AwaitFrame ≡ AwaitSlot i → ⊥
              stages i is = cc

          without_window : ((w : WindowLog) → IsWindowOf s clocks air rank f (last_slot p) v w → ⊥) → After
          without_window none =
              course.rests (λ w here. none_at_all rank p is_round v none w.slot w (as_of w here))
              ∙ sym (of_rank n.core (round_without s clocks air lawful rank f in_run p is_round (last_slot p) start heard refl v known none ∙ at))

          with_round : After
          with_round =
              elim (find_window s clocks air lawful rank f in_run p is_round (last_slot p) start heard v) [
                | inl w ↦ after_window w.window (record { there = w.there; frame = w.frame; channel = w.channel; slot = w.slot })
                | inr none ↦ without_window none
              ]

        on_then : After
        on_then =
            elim (find_plan (round_plan s rank f states) refl) [
              | inl none ↦ no_round none
              | inr some ↦
                  (let hosted = hosted_by s clocks air lawful rank f in_run found some.0 some.1 in
                  with_round some.0 (record { in_run = in_run; hosted = hosted; plan = some.1 }))
            ]
          where
            find_plan : (o : Option Plan) → round_plan s rank f states ≡ o → (round_plan s rank f states ≡ None) ⊎
                ((p : Plan) × (round_plan s rank f states ≡ Some p))
            find_plan None is = inl is
            find_plan (Some p) is = inr (p, is)

      by_power : (p : Power) → power_at s clocks air v f ≡ p → GoesThrough s clocks air v f p → After
      by_power (PowerOff boots) is goes = off_then boots is goes
      by_power (PowerOn n) is goes = on_then n is goes

      -- the next frame
      pub next_frame : state_of_power (power_after s clocks air v f) ≡ before_frame s (suc f) v
      unfolding before_frame
      next_frame = by_power (power_at s clocks air v f) refl (through_frames s clocks air lawful v f known in_run)

  -- after the script lines
  told : (f : ℕ)
      → ((v : ℕ) → knows s.nodes v ≡ true → state_of_power (before_tick s v (clocks v) (heard_by air v) (frame_start s f)).power ≡ before_frame s f v)
      → IsFrameStart s clocks air f
  told f before v known =
      let lasts = frame_lasts s lawful.sound in
      script_same s v f (clocks v) (before_tick s v (clocks v) (heard_by air v) (frame_start s f)) (before_frame s f) (omega (arith, lasts)) (before v known)

  -- before them
  pub frame_before : (f : ℕ) → f ≤ s.frames → (v : ℕ) → knows s.nodes v ≡ true
      → state_of_power (before_tick s v (clocks v) (heard_by air v) (frame_start s f)).power ≡ before_frame s f v
  unfolding before_frame before_tick
  frame_before zero within v known =
      let none : frame_start s 0 ≡ 0 = omega arith in
      ap (λ (t : ℕ). state_of_power (before_tick s v (clocks v) (heard_by air v) t).power) none
  frame_before (suc f) within v known =
      next_frame f (told f (frame_before f (omega (arith, within)))) within v known

  pub frame_starts : (f : ℕ) → f ≤ s.frames → IsFrameStart s clocks air f
  frame_starts f within = told f (frame_before f within)
