use Rattle.std.proofs.Common.{◌≡◌, ℕ, get_or, inl, inr, sym, subst, refl, arith, Some}
use Rattle.std.proofs.lemmas.Bool.{cases_lt}
use Rattle.scenario_clocks.specs.StatedClocks.{scenario_clock}
use Rattle.radio_model.specs.OnAir.{Sending}
use Rattle.air_log.specs.Entries.{HasHeardEntry}
use Rattle.air_check.specs.Flags.{IsFirstOf}
use Rattle.air_check.specs.Verdicts.{IsGiven}
use Rattle.air_check.proofs.MissingOnes.{first_missing, all_there}
use Rattle.air_check.proofs.missing.first_missing.Goals as goal

pub returns-in-Some-clause-some : goal.returns-in-Some-clause-some
returns-in-Some-clause-some c =
    λ air trails is are.
    let s = c.args.s.now in
    let k = c.loop-k.k in
    let x = c.index-x.result.now in
    first_missing s (scenario_clock s) air trails c.args.index.now is c.requires.searchable.in_order k (c.loop-k.invariant air is are) x
    (omega (arith, c.loop-k-test.true, c.len-k-end.ensures)) c.index-x.ensures c.in-Some.receiver x.node x.start
    (subst (λ (y : Sending). IsFirstOf s air y (Some c.in-Some.receiver)) (sym c.index-x.ensures) (c.in-Some.ensures air x is are)) refl refl

pub loop-k-preserved : goal.loop-k-preserved
loop-k-preserved c =
    λ air is are j w d below given.
    let s = c.args.s.now in
    let sent = c.args.index.now.sent.items in
    let k = c.loop-k.k in
    elim (cases_lt j k) [
      | inl less ↦ c.loop-k.invariant air is are j w d less given
      | inr not ↦
          let same : j ≡ k = omega (arith, below, not) in
          let heard = c.in_default.ensures air d is are w (subst (λ (n : ℕ). IsGiven s air w (get_or sent n d)) same given) in
          subst (λ (n : ℕ). HasHeardEntry air w (get_or sent n d)) (sym same) heard
    ]

pub returns-clause-none : goal.returns-clause-none
returns-clause-none c =
    λ air is are.
    all_there c.args.s.now air c.args.index.now is c.loop-k.k (omega (arith, c.loop-k-test.false, c.len-k-end.ensures)) (c.loop-k.invariant air is are)
