use Rattle.std.proofs.Common.{◌≡◌, ℕ, List, take, ap, subst, sym, ◌∙◌, Some}
use Rattle.std.specs.Prelude.{Contains}
use Rattle.lwb_base.specs.Profile.{one}
use Rattle.radio_model.specs.Stations.{MediumState, medium_after_change, station_after_tuning}
use Rattle.lwb_flood.specs.FloodWorlds.{medium_at_opening}
use Rattle.lwb_flood.proofs.FloodOpening.{IsOpening, at_first, opened_is, in_time, opened_more}
use Rattle.lwb_flood.proofs.flood_beginning.open.Goals as goal

begun : (vs : List ℕ) (i : ℕ) (first m : MediumState) → first ≡ Rattle.radio_model.specs.Stations.first_state one vs → m ≡ medium_at_opening (take i vs) first
    → IsOpening vs m
begun vs i first m is at = subst (IsOpening vs) (sym at) (opened_is (take i vs) vs first (subst (IsOpening vs) (sym is) (at_first one vs)))

pub tune-requires-clause-node : goal.tune-requires-clause-node
tune-requires-clause-node c =
    let vs = c.args.nodes.now in
    let is = begun vs c.loop-node.node-index c.args.medium.now c.loop-node.medium c.requires.first c.loop-node.invariant in
    subst (λ (l : List ℕ). Contains l c.node-item.result) (sym is.nodes) (c.loop-node.node-index, c.loop-node-test.true, sym c.node-item.is)

pub tune-requires-clause-time : goal.tune-requires-clause-time
tune-requires-clause-time c =
    let vs = c.args.nodes.now in
    in_time vs c.loop-node.medium (begun vs c.loop-node.node-index c.args.medium.now c.loop-node.medium c.requires.first c.loop-node.invariant)

pub loop-node-preserved : goal.loop-node-preserved
loop-node-preserved c =
    let tuned : ℕ → MediumState → MediumState = λ r m. medium_after_change 1344000000 c.node-item.result (station_after_tuning (Some r) 1344000000) m in
    c.tune.ensures.state ∙ ap (λ (r : ℕ). tuned r c.loop-node.medium) c.channel.ensures ∙ ap (tuned 0) c.loop-node.invariant
    ∙ sym (opened_more c.args.nodes.now c.loop-node.node-index c.node-item.result c.args.medium.now c.loop-node-test.true c.node-item.is)
