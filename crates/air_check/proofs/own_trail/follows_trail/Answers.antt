use Rattle.std.proofs.Common.{◌≡◌, [], Bool, map, length, sym, ◌∙◌, subst, rules}
use Rattle.std.proofs.lemmas.List.{length-map}
use Rattle.std.specs.Bool.{Decides}
use Rattle.std.specs.Vec.{vec_len}
use Rattle.scenario_clocks.specs.StatedClocks.{scenario_clock}
use Rattle.air_log.specs.DeviceStates.{tuning_of}
use Rattle.air_log.specs.Lawful.{sent_by, tuned_by}
use Rattle.air_check.specs.NodeLogs.{NodeLogState}
use Rattle.air_check.specs.Verdicts.{FollowsTrail}
use Rattle.air_check.proofs.OwnTrails.{none_held, by_no_sent, by_no_tuned}
use Rattle.air_check.proofs.own_trail.follows_trail.Goals as goal
use Rattle.air_check.proofs.own_trail.follows_trail.Goals.{then-is_empty, else-is_empty}

pub returns-after-is_empty : goal.returns-after-is_empty
returns-after-is_empty c = λ air logged.
    let s = c.args.s.now in
    let v = c.args.node in
    let own = c.log.view_is ∙ logged in
    let long : length c.log.inside.sent.items ≡ vec_len c.log.inside.sent = search rules in
    let sent : Decides c.is_empty.result (sent_by air v ≡ []) =
    subst (λ (n : NodeLogState). Decides c.is_empty.result (n.sent ≡ [])) own
    (none_held c.log.inside.sent.items (vec_len c.log.inside.sent) c.is_empty.result long c.is_empty.ensures) in
    elim c.if-is_empty.branch [
      | then-is_empty w ↦
          (let long : length c.log.inside.tuned.items ≡ vec_len c.log.inside.tuned = search rules in
          let tuned : Decides w.is_empty-then-is_empty.result (tuned_by air v ≡ []) =
          subst (λ (n : NodeLogState). Decides w.is_empty-then-is_empty.result (n.tuned ≡ [])) own
          (none_held (map tuning_of c.log.inside.tuned.items) (vec_len c.log.inside.tuned) w.is_empty-then-is_empty.result
          (length-map c.log.inside.tuned.items tuning_of ∙ long) w.is_empty-then-is_empty.ensures) in
          subst (λ (b : Bool). Decides b (FollowsTrail s (scenario_clock s) air v)) (sym w.result-is)
          (by_no_tuned s (scenario_clock s) air v c.in-None.ensures.unknown w.is_empty-then-is_empty.result (sent.0 w.if-is_empty.true) tuned))
      | else-is_empty w ↦
          subst (λ (b : Bool). Decides b (FollowsTrail s (scenario_clock s) air v)) (sym w.result-is)
          (by_no_sent s (scenario_clock s) air v c.in-None.ensures.unknown c.is_empty.result w.if-is_empty.false sent)
    ]
