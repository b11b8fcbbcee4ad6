use Rattle.std.proofs.Common.{◌≡◌, ◌++◌, List, ℕ, filter_map, sym, ◌∙◌, ap, arith}
use Rattle.std.specs.Prelude.{flat_map}
use Rattle.std.specs.List.{range_with_len}
use Rattle.air_log.specs.declared.idle.Idle.{Idle}
use Rattle.air_log.proofs.IdleFrames.{frames_more}
use Rattle.host_return.specs.TrailsInOrder.{idle_told}
use Rattle.host_return.specs.declared.idle_trails.NodeTrail.{NodeTrail}
use Rattle.host_return.proofs.IdleTrails.{all_told}
use Rattle.host_return.proofs.idle_trails.idle_by_trails.Goals as goal

pub loop-frame-preserved : goal.loop-frame-preserved
loop-frame-preserved c =
    let trails = c.in_ok-trails.trails.items in
    let told : ℕ → List Idle = λ f. filter_map (idle_told f) trails in
    let f = c.loop-frame.frame in
    c.in_ok-list_idle.ensures
    ∙ ap (λ (l : List NodeTrail). c.loop-frame.idle.items ++ filter_map (idle_told f) l) c.deref.ensures.value
    ∙ ap (λ (l : List Idle). l ++ told f) c.loop-frame.invariant
    ∙ sym (frames_more told f)

pub returns : goal.returns
returns c =
    let trails = c.in_ok-trails.trails.items in
    let over = c.loop-frame-test.false in
    let within = c.loop-frame.auto.frame-end in
    let all : c.loop-frame.frame ≡ c.args.s.now.frames = omega (arith, over, within, c.frames-frame-end.ensures.value) in
    c.loop-frame.invariant
    ∙ ap (λ (n : ℕ). flat_map (λ f. filter_map (idle_told f) trails) (range_with_len 0 n)) all
    ∙ all_told c.args.s.now c.args.air.now trails c.in_ok-trails.ensures
