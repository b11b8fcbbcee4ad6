use Rattle.std.proofs.Common.{◌≡◌, ◌&&◌, ◌==◌, ℕ, Bool, Some, None, refl, sym, ◌∙◌, ap, arith}
use Rattle.std.proofs.lemmas.Bool.{both_ways, true≢false}
use Rattle.std.specs.List.{list_any}
use Rattle.host_return.specs.Probes.{probed_rank}
use Rattle.host_return.specs.declared.returned.Return.{Return}
use Rattle.host_return.proofs.NodesProbing.{moved_probe, moved_brings}
use Rattle.host_return.proofs.candidates.fresh_candidate.Goals as goal
use Rattle.lwb_base.proofs.Options.{one_value, not_both}

pub returns-in_default-clause-none : goal.returns-in_default-clause-none
returns-in_default-clause-none c =
    λ air sent idle q candidate fresh frame node.
    let s = c.args.s.now in
    let v = c.args.idle.now.node in
    let none : probed_rank s air c.args.idle.now.frame v ≡ None =
    idle.probes ∙ sym c.probed_rank.ensures ∙ c.in_default.is in
    not_both (probed_rank s air c.args.idle.now.frame v) q.rank none
    (moved_probe s air q.frame q.node c.args.idle.now.frame v (Some q.rank) frame node candidate.probed.probes)

pub returns-then-not-bring_schedule-clause-none : goal.returns-then-not-bring_schedule-clause-none
returns-then-not-bring_schedule-clause-none c =
    λ air sent idle q candidate fresh frame node.
    let s = c.args.s.now in
    let v = c.args.idle.now.node in
    let here : probed_rank s air c.args.idle.now.frame v ≡ Some c.in-Some.rank =
    idle.probes ∙ sym c.probed_rank.ensures ∙ c.in-Some.is in
    let rank : q.rank ≡ c.in-Some.rank = one_value (probed_rank s air c.args.idle.now.frame v) q.rank c.in-Some.rank
    (moved_probe s air q.frame q.node c.args.idle.now.frame v (Some q.rank) frame node candidate.probed.probes) here in
    both_ways c.bring_schedule.result c.if-not-bring_schedule.true
    ((c.bring_schedule.ensures air sent).1 (
      candidate.probed.schedule,
      moved_brings s air q.frame q.node q.rank c.args.idle.now.frame v c.in-Some.rank candidate.probed.schedule frame node rank candidate.probed.brings,
    ))

pub returns-clause-some : goal.returns-clause-some
returns-clause-some c =
    λ air sent idle.
    let s = c.args.s.now in
    let v = c.args.idle.now.node in
    let here : probed_rank s air c.args.idle.now.frame v ≡ Some c.in-Some.rank =
    idle.probes ∙ sym c.probed_rank.ensures ∙ c.in-Some.is in
    let w = (c.bring_schedule.ensures air sent).0 c.if-not-bring_schedule.false in
    let enough = c.if-frames-frame-lt2.false in
    let frames = c.requires.frames in (
      record {
        known = idle.known;
        probed = record { probes = here; schedule = w.0; brings = w.1 };
        in_run = omega (arith, enough, frames, c.frames.ensures.value);
        stays_on = sym c.goes_off.ensures ∙ c.if-goes_off.false;
      },
      sym c.is_listed.ensures ∙ c.if-is_listed.false,
      refl,
      refl,
    )

pub returns-then-is_listed-clause-none : goal.returns-then-is_listed-clause-none
returns-then-is_listed-clause-none c =
    λ air sent idle q candidate fresh frame node.
    let listed = c.args.listed.now in
    let there : ℕ → ℕ → Bool = λ f v. list_any (λ (p : Return). (p.frame == f) && (p.node == v)) listed in
    let same : there q.frame q.node ≡ there c.args.idle.now.frame c.args.idle.now.node =
    ap (λ (f : ℕ). there f q.node) frame ∙ ap (λ (v : ℕ). there c.args.idle.now.frame v) node in
    absurd (true≢false (sym (sym c.is_listed.ensures ∙ c.if-is_listed.true) ∙ sym same ∙ fresh))
