use Rattle.std.proofs.Common.{◌≡◌, ℕ, List, Bool, map, reverse, sym, ap, ◌∙◌, subst}
use Rattle.std.specs.Prelude.{IsPermutation}
use Rattle.std.specs.Bool.{Decides}
use Rattle.radio_model.specs.declared.sending.Sending.{Sending}
use Rattle.radio_model.specs.OnAir.{Tuning}
use Rattle.scenario_clocks.specs.StatedClocks.{scenario_clock}
use Rattle.air_log.specs.declared.entry.TunedEntry.{TunedEntry}
use Rattle.air_log.specs.DeviceStates.{tuning_of}
use Rattle.air_log.specs.Lawful.{by_end, heard_by, sent_by, tuned_by, reception_of, trail_in}
use Rattle.air_log.specs.TrailsTold.{TrailTold, trail_told}
use Rattle.air_check.specs.NodeLogs.{NodeLogState}
use Rattle.air_check.specs.Verdicts.{FollowsTrail}
use Rattle.air_check.proofs.OwnTrails.{sent_told, tuned_told, by_tuned, by_sent}
use Rattle.air_check.proofs.own_trail.follows_clock.Goals as goal
use Rattle.air_check.proofs.own_trail.follows_clock.Goals.{then-are_same_sent, else-are_same_sent}

pub returns : goal.returns
returns g c = λ air logged.
    let s = c.args.s.now in
    let v = c.args.node in
    let clock = scenario_clock s v in
    let own = c.log.view_is ∙ logged in
    let told : c.in_ok-trail.trail ≡ trail_told s v clock (heard_by air v) =
    c.in_ok-trail.ensures
    ∙ ap (λ (f : ℕ → ℕ). trail_told s v f (map reception_of (by_end (map Rattle.air_log.specs.Courses.hearing_of c.log.inside.heard.items)))) c.requires.reads
    ∙ ap (λ (n : NodeLogState). trail_told s v clock (map reception_of (by_end n.heard))) own in
    let same_sent : Decides c.are_same_sent.result (c.in_ok-trail.trail.sent ≡ c.in_ok-sent.sent.items) =
    subst (λ (l : List Sending). Decides c.are_same_sent.result (l ≡ c.in_ok-sent.sent.items)) c.sent.ensures
    (subst (λ (l : List Sending). Decides c.are_same_sent.result (c.sent.result.now ≡ l)) c.deref.ensures.value
    c.are_same_sent.ensures) in
    let sent : Decides c.are_same_sent.result (IsPermutation (trail_in s (scenario_clock s) air v).made.sent (sent_by air v)) =
    subst (λ (n : NodeLogState). Decides c.are_same_sent.result (IsPermutation (trail_in s (scenario_clock s) air v).made.sent n.sent)) own
    (sent_told s v clock (heard_by air v) c.in_ok-trail.trail.sent c.log.inside.sent.items c.in_ok-sent.sent.items c.are_same_sent.result
    (ap (λ (t : TrailTold). t.sent) told) c.in_ok-sent.ensures.moved c.in_ok-sent.ensures.rises same_sent) in
    elim c.if-are_same_sent.branch [
      | then-are_same_sent w ↦
          (let same_tuned : Decides w.are_same_tuned.result (reverse c.in_ok-trail.trail.tuned ≡ map tuning_of c.in_ok-tuned.tuned.items) =
          subst (λ (l : List Tuning). Decides w.are_same_tuned.result (l ≡ map tuning_of c.in_ok-tuned.tuned.items)) w.tuned.ensures
          (subst (λ (l : List TunedEntry). Decides w.are_same_tuned.result (map tuning_of w.tuned.result.now ≡ map tuning_of l))
          w.deref-then-are_same_sent.ensures.value w.are_same_tuned.ensures) in
          let tuned : Decides w.are_same_tuned.result (IsPermutation (trail_in s (scenario_clock s) air v).made.tuned (tuned_by air v)) =
          subst (λ (n : NodeLogState). Decides w.are_same_tuned.result (IsPermutation (trail_in s (scenario_clock s) air v).made.tuned n.tuned)) own
          (tuned_told s v clock (heard_by air v) c.in_ok-trail.trail.tuned c.log.inside.tuned.items c.in_ok-tuned.tuned.items w.are_same_tuned.result
          (ap (λ (t : TrailTold). t.tuned) told) c.in_ok-tuned.ensures.moved c.in_ok-tuned.ensures.rises same_tuned) in
          subst (λ (b : Bool). Decides b (FollowsTrail s (scenario_clock s) air v)) (sym w.result-is)
          (by_tuned s (scenario_clock s) air v c.requires.known w.are_same_tuned.result (sent.0 w.if-are_same_sent.true) tuned))
      | else-are_same_sent w ↦
          subst (λ (b : Bool). Decides b (FollowsTrail s (scenario_clock s) air v)) (sym w.result-is)
          (by_sent s (scenario_clock s) air v c.requires.known c.are_same_sent.result w.if-are_same_sent.false sent)
    ]
