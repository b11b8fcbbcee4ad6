use Rattle.std.proofs.Common.{◌≡◌, ◌+◌, ◌<◌, ◌≤◌, ℕ, List, inl, inr, length, get_or, sym, ◌∙◌, ap, subst, arith, rules}
use Rattle.std.proofs.lemmas.Bool.{cases_lt}
use Rattle.std.proofs.lemmas.List.{get_or_default}
use Rattle.std.proofs.lemmas.List.Elements.{Contains-get_or}
use Rattle.std.specs.Prelude.{Contains}
use Rattle.scenario_text.proofs.SoundScenarios.{sound}
use Rattle.air_log.specs.declared.idle.Idle.{Idle}
use Rattle.host_return.specs.Probes.{idle_of}
use Rattle.host_return.proofs.IdleInRuns.{idle_in_run}
use Rattle.host_return.proofs.NodesProbing.{first_listed, none_fresh}
use Rattle.host_return.proofs.candidates.next_return.Goals as goal

pub loop-one-init : goal.loop-one-init
loop-one-init c = λ q candidate fresh k d less within frame node. absurd (omega (arith, less))

pub loop-one-preserved : goal.loop-one-preserved
loop-one-preserved c =
    λ q candidate fresh k d less within frame node.
    let air = c.args.air.now in
    let idle = c.args.idle.now in
    let i = c.loop-one.one-index in
    let one : Idle = c.one-item.result in
    elim (cases_lt k i) [
      | inl earlier ↦ c.loop-one.invariant q candidate fresh k d earlier within frame node
      | inr at ↦
          let here : get_or idle k d ≡ one = ap (λ (n : ℕ). get_or idle n d) (same k i less at) ∙ get_or_default idle i d one c.loop-one-test.true
          ∙ sym c.one-item.is in
          c.in_default.ensures.none air c.in_ok-sent.ensures.sent
          (idle_in_run c.args.s.now air one
          (subst (λ (l : List Idle). Contains l one) c.requires.idle
          (subst (Contains idle) (sym c.one-item.is) (Contains-get_or idle i one c.loop-one-test.true)))) q candidate fresh
          (sym frame ∙ ap (λ (x : Idle). x.frame) here) (sym node ∙ ap (λ (x : Idle). x.node) here)
    ]
  where
    same : (k i : ℕ) → k < i + 1 → i ≤ k → k ≡ i
    same k i less at = omega (arith, less, at)

pub returns-in-Some-clause-some : goal.returns-in-Some-clause-some
returns-in-Some-clause-some c =
    let s = c.args.s.now in
    let air = c.args.air.now in
    let idle = c.args.idle.now in
    let i = c.loop-one.one-index in
    let one : Idle = c.one-item.result in
    let r = c.in-Some.next in
    let there : Contains (idle_of s air) one = subst (λ (l : List Idle). Contains l one) c.requires.idle
    (subst (Contains idle) (sym c.one-item.is) (Contains-get_or idle i one c.loop-one-test.true)) in
    let got = c.in-Some.ensures.some air c.in_ok-sent.ensures.sent (idle_in_run s air one there) in
    record {
      candidate = got.0;
      fresh = got.1;
      least = λ q candidate fresh.
          first_listed s air (sound s c.requires.said) idle c.requires.idle i one c.loop-one-test.true c.one-item.is q r candidate.known
          (let run = candidate.in_run in omega (arith, run, c.requires.frames)) candidate.probed.probes got.2 got.3
          (c.loop-one.invariant q candidate fresh);
    }

pub returns-clause-none : goal.returns-clause-none
returns-clause-none c =
    λ q is.
    let past = c.loop-one-test.false in
    let run = is.in_run in
    none_fresh c.args.s.now c.args.air.now (sound c.args.s.now c.requires.said) c.args.idle.now c.requires.idle c.args.listed.now c.loop-one.one-index q
    (omega (arith, past)) is.known (omega (arith, run, c.requires.frames)) is.probed.probes (c.loop-one.invariant q is)

pub returns-then-is_empty-clause-none : goal.returns-then-is_empty-clause-none
returns-then-is_empty-clause-none c =
    λ q is.
    let run = is.in_run in
    let none : length c.args.idle.now ≡ 0 = search rules in
    none_fresh c.args.s.now c.args.air.now (sound c.args.s.now c.requires.said) c.args.idle.now c.requires.idle c.args.listed.now 0 q
    (omega (arith, none)) is.known (omega (arith, run, c.requires.frames)) is.probed.probes (λ fresh k d less within frame node. absurd (omega (arith, less)))
