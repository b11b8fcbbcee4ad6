-- Where a node has a window in a frame, some node leads the round of its rank.
use Rattle.std.proofs.Common.{◌≡◌, ℕ, zero, suc, ◌<◌, List, Bool, true, false, refl, ◌∙◌, subst}
use Rattle.node_core.specs.Nodes.{Node}
use Rattle.scenario_text.specs.ScenarioParts.{ScenarioParts}
use Rattle.scenario_text.specs.FloodParts.{knows}
use Rattle.air_log.specs.declared.entry.Entry.{Entry}
use Rattle.air_log.specs.Devices.{PowerOn}
use Rattle.air_log.specs.WindowLogs.{WindowLog}
use Rattle.law_safety.specs.SetAlarms.{rank_at}
use Rattle.law_safety.specs.TunedNodes.{IsRoundOf}
use Rattle.law_terms.specs.LawfulRuns.{IsLawfulRun}
use Rattle.law_terms.specs.FrameCourses.{power_at}
use Rattle.law_terms.specs.SlotLaws.{IsWindowOf}
use Rattle.law_bus.proofs.MembersByTune.{leads_by, round_led}
use Rattle.law_bus.proofs.RunsOfLogs.{known_by}
use Rattle.law_bus.proofs.WindowsInTurn.{of_kind, in_frame, goes, as_member, frame_is, rank_is}
use Rattle.law_bus.proofs.PlannedRounds.{origin_here}

module _ (s : ScenarioParts) (clocks : ℕ → ℕ → ℕ) (air : List Entry) (lawful : IsLawfulRun s clocks air)
    (rank f : ℕ) (in_run : f < s.frames) where
  abbrev Of : ℕ → ℕ → WindowLog → Type 0
  Of j v w = IsWindowOf s clocks air rank f j v w

  -- some node leads the round of which a window is
  pub record IsLed : Type 0 where
    pub host : ℕ
    pub known : knows s.nodes host ≡ true
    pub node : Node
    pub on : power_at s clocks air host f ≡ PowerOn node
    pub leads : leads_by rank f node.core.tune ≡ true

  led_first : (v : ℕ) (w : WindowLog) → Of 0 v w → w.by_alarm ≡ true → IsLed
  led_first v w here alarm =
      let go = goes s clocks air lawful rank f in_run 0 v w here in
      let is = as_member s clocks air lawful rank f in_run 0 v w here alarm in
      let start : w.before ≡ go.node = go.course.begins w (in_frame s clocks air lawful rank f in_run 0 v w here) here.slot in
      let led = round_led s clocks v w.before w.before.core.tune
      (subst (λ (i : ℕ). IsRoundOf s clocks v w.before i false w.before.core.tune) here.slot is.member.round) in
      record {
        host = v;
        known = known_by s clocks air lawful v w here.there;
        node = go.node;
        on = go.on;
        leads =
            subst (λ (n : Node). leads_by rank f n.core.tune ≡ true) start
            (subst (λ (r : ℕ). leads_by r f w.before.core.tune ≡ true) (rank_is s clocks air lawful rank f in_run 0 v w here alarm)
            (subst (λ (g : ℕ). leads_by (rank_at w.before) g w.before.core.tune ≡ true)
            (frame_is s clocks air lawful rank f in_run 0 v w here alarm) led));
      }

  led_as : (j v : ℕ) (w : WindowLog) → Of j v w → (b : Bool) → w.by_alarm ≡ b → ((u : ℕ) (x : WindowLog) → Of j u x → x.by_alarm ≡ true → IsLed) → IsLed
  led_as j v w here true is members = members v w here is
  led_as j v w here false is members = (let o = origin_here s clocks air lawful rank f in_run j v w here
      (of_kind s clocks air lawful v w false here.there is) in members o.host o.window o.here o.by_alarm)

  led_by_alarm : (j v : ℕ) (w : WindowLog) → Of j v w → w.by_alarm ≡ true → IsLed
  led_by_alarm zero v w here alarm = led_first v w here alarm
  led_by_alarm (suc j) v w here alarm =
      let before = (goes s clocks air lawful rank f in_run (suc j) v w here).course.follows w j
      (in_frame s clocks air lawful rank f in_run (suc j) v w here) alarm here.slot in
      let x : Of j v before.window = record {
        there = before.here.there;
        frame = before.here.frame;
        channel = before.channel ∙ here.channel;
        slot = before.slot;
      } in
      led_as j v before.window x before.window.by_alarm refl (λ u y at by. led_by_alarm j u y at by)

  pub led_round : (j v : ℕ) (w : WindowLog) → Of j v w → IsLed
  led_round j v w here = led_as j v w here w.by_alarm refl (λ u y at by. led_by_alarm j u y at by)
