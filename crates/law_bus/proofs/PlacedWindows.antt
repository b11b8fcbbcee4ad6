-- Each window of a node, and each of its transmissions, lies in a slot of the bus's round of its rank.
use Rattle.std.proofs.Common.{◌≡◌, ℕ, ◌<◌, List, [], ◌∷◌, true, Some, Contains, refl, sym, ◌∙◌, ap, subst, arith}
use Rattle.lwb_base.specs.Messages.{Plan}
use Rattle.bus_rules.specs.States.{State}
use Rattle.scenario_text.specs.ScenarioParts.{ScenarioParts}
use Rattle.scenario_text.specs.FloodParts.{knows}
use Rattle.radio_model.specs.declared.sending.Sending.{Sending}
use Rattle.radio_model.specs.Hearing.{frame_of_sending, slot_of_sending}
use Rattle.air_log.specs.declared.entry.Entry.{Entry}
use Rattle.air_log.specs.Devices.{state_of_power}
use Rattle.air_log.specs.Lawful.{trail_in}
use Rattle.air_log.specs.Trails.{run_end}
use Rattle.air_log.specs.WindowLogs.{WindowLog}
use Rattle.lwb_base.proofs.Elements.{Distinct, contains_head, contains_tail}
use Rattle.law_windows.specs.OpenWindows.{CloseBeforeNext}
use Rattle.law_windows.specs.WindowTimes.{IsOfSlot}
use Rattle.law_windows.proofs.WindowFacts.{closes_later, sends_as_called, windows_apart}
use Rattle.bus_terms.specs.Bus.{state_at}
use Rattle.bus_terms.specs.Rounds.{rank_in, round_plan}
use Rattle.law_terms.specs.LawfulRuns.{IsLawfulRun}
use Rattle.law_terms.specs.SlotLaws.{IsAligned, IsRound}
use Rattle.law_terms.specs.SlotSteps.{IsFrameStart, SlotHeardLaw}
use Rattle.law_bus.proofs.CoresOfWindows.{cores_law, run_law}
use Rattle.law_bus.proofs.RoundsInTurn.{hosted_by}
use Rattle.law_bus.proofs.RunsOfLogs.{course_of, run}
use Rattle.law_bus.proofs.SumsOverRounds.{IsPlaced, plan_at, rank_at}

module _ (s : ScenarioParts) (clocks : ℕ → ℕ → ℕ) (air : List Entry) (v : ℕ) where
  -- all windows and all transmissions of v
  abbrev pub windows_of : List WindowLog
  windows_of = (trail_in s clocks air v).made.windows

  abbrev pub sent_of : List Sending
  sent_of = (trail_in s clocks air v).made.sent

module _ (heards : SlotHeardLaw) (s : ScenarioParts) (clocks : ℕ → ℕ → ℕ) (air : List Entry) (lawful : IsLawfulRun s clocks air)
    (v : ℕ) (known : knows s.nodes v ≡ true) where
  abbrev logs : List WindowLog
  logs = windows_of s clocks air v

  abbrev sent : List Sending
  sent = sent_of s clocks air v

  pub found : (f : ℕ) → f < s.frames → IsFrameStart s clocks air f
  found f in_run u there = run_law heards s clocks air lawful u f there in_run

  -- a window is of the rank that its node has on the bus
  pub rank_same : (w : WindowLog) → Contains logs w → w.frame < s.frames → w.rank ≡ rank_at s v w.frame
  rank_same w there in_run =
      let goes = course_of s clocks air lawful v w.frame w in_run (record { there = there; frame = refl }) in
      goes.course.ranks w (record { there = there; frame = refl })
      ∙ sym (ap (λ (x : State). rank_in x) (sym (found w.frame in_run v known) ∙ ap state_of_power goes.on))

  pub window_placed : (w : WindowLog) → Contains logs w → IsPlaced s v w.frame w.slot
  window_placed w there =
      let aligned : IsAligned s v w = cores_law heards s clocks air lawful v w known there in
      let round : IsRound s w.rank w.frame aligned.plan = aligned.round in
      record {
        in_run = round.in_run;
        plan = aligned.plan;
        is = subst (λ (i : ℕ). round_plan s i w.frame (state_at s w.frame) ≡ Some aligned.plan) (rank_same w there round.in_run) round.plan;
        within = aligned.slot;
      }

  -- it has such a round
  pub round_here : (f : ℕ) (p : Plan) → f < s.frames → plan_at s v f ≡ Some p → IsRound s (rank_at s v f) f p
  round_here f p in_run is = record {
    in_run = in_run;
    hosted = hosted_by s clocks air lawful (rank_at s v f) f in_run (found f in_run) p is;
    plan = is;
  }

  -- a transmission was called for by a window of its slot
  pub record HasCaller (y : Sending) : Type 0 where
    pub window : WindowLog
    pub there : Contains logs window
    pub of_slot : IsOfSlot s window y

  pub caller : (y : Sending) → Contains sent y → HasCaller y
  caller y there =
      let calls = sends_as_called s clocks air (run s clocks air lawful) v known (run_end s) (omega arith) in
      let call = calls.called y there in
      record { window = call.window; there = call.there; of_slot = call.of_slot }

  pub sending_placed : (y : Sending) → Contains sent y → IsPlaced s v (frame_of_sending s.profile y) (slot_of_sending y)
  sending_placed y there =
      let from = caller y there in
      subst (λ (i : ℕ). IsPlaced s v (frame_of_sending s.profile y) i) (sym from.of_slot.slot)
      (subst (λ (g : ℕ). IsPlaced s v g from.window.slot) (sym from.of_slot.frame) (window_placed from.window from.there))

  pub sending_rank : (y : Sending) → Contains sent y → y.rank ≡ rank_at s v (frame_of_sending s.profile y)
  sending_rank y there =
      let from = caller y there in
      let in_run = (window_placed from.window from.there).in_run in
      from.of_slot.channel ∙ rank_same from.window from.there in_run ∙ ap (rank_at s v) (sym from.of_slot.frame)

  -- no window is there twice
  apart_distinct : (ws : List WindowLog) → ((w : WindowLog) → Contains ws w → Contains logs w) → CloseBeforeNext ws → Distinct ws
  apart_distinct [] all apart = tt
  apart_distinct (w ∷ ws) all apart = (
    λ again. closes_later s clocks air (run s clocks air lawful) v known (run_end s) (omega arith) w (all w (contains_head w ws)) (apart.0 w again),
    apart_distinct ws (λ y there. all y (contains_tail w ws y there)) apart.1,
  )

  pub windows_distinct : Distinct logs
  windows_distinct = apart_distinct logs (λ w there. there) (windows_apart s clocks air (run s clocks air lawful) v known (run_end s) (omega arith))
