use Rattle.std.proofs.Common.{◌≡◌, ◌<◌, ◌∙◌, get_or, refl, sym, subst}
use Rattle.std.proofs.lemmas.Bool.{ltb-true, lt-ltb, both_ways, false≢true}
use Rattle.std.proofs.lemmas.List.{get_or_default}
use Rattle.radio_model.specs.OnAir.{Sending}
use Rattle.air_log.specs.HearsAir.{scene_of}
use Rattle.air_log.specs.Trails.{run_end}
use Rattle.air_check.proofs.Given.{same_in_air, given_so}
use Rattle.air_check.proofs.index.is_given.Goals as goal

pub returns-then-not-ends_in_run : goal.returns-then-not-ends_in_run
returns-then-not-ends_in_run c =
    λ air d is.
    let s = c.args.s.now in
    let y = c.index.result.now in
    let same : y ≡ get_or c.args.index.now.sent.items c.args.place d =
    c.index.ensures ∙ get_or_default c.args.index.now.sent.items c.args.place y d c.requires.place in (
      λ so. absurd (false≢true so),
      λ given. absurd (both_ways c.ends_in_run.result c.if-not-ends_in_run.true
          (c.ends_in_run.ensures.value ∙ lt-ltb y.end (run_end s) (subst (λ (x : Sending). x.end < run_end s) (sym same) given.ends))),
    )

pub returns : goal.returns
returns c =
    λ air d is.
    let s = c.args.s.now in
    let i = c.args.index.now in
    let y = c.index.result.now in
    let x = get_or i.sent.items c.args.place d in
    let same : y ≡ x = c.index.ensures ∙ get_or_default i.sent.items c.args.place y d c.requires.place in
    given_so s air c.args.node x c.receives.result
    (subst (λ (z : Sending). z.end < run_end s) same (ltb-true y.end (run_end s) (sym c.ends_in_run.ensures.value ∙ c.if-not-ends_in_run.false)))
    (c.receives.ensures (scene_of s.profile s.trace air) d refl refl (same_in_air air s i is) is.tuned)
