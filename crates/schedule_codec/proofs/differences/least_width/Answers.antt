use Rattle.std.proofs.Common.{refl, sym, ◌∙◌, arith}
use Rattle.schedule_codec.specs.Packing.{fit}
use Rattle.schedule_codec.proofs.Widths.{least_here, least_further, least_at_end}
use Rattle.schedule_codec.proofs.differences.least_width.Goals as goal

pub loop-width-init : goal.loop-width-init
loop-width-init c = refl

pub returns-then-fit_in : goal.returns-then-fit_in
returns-then-fit_in c =
    let here = sym c.fit_in.ensures ∙ c.if-fit_in.true in
    record {
      value = sym (least_here 10 c.loop-width.width (λ w. fit w c.args.differences.now) (omega arith) here) ∙ c.loop-width.invariant;
      narrow = omega arith;
      fits = here;
    }

pub loop-width-preserved : goal.loop-width-preserved
loop-width-preserved c = sym (least_further 10 c.loop-width.width (λ w. fit w c.args.differences.now) (omega arith)
    (sym c.fit_in.ensures ∙ c.if-fit_in.false)) ∙ c.loop-width.invariant

pub returns : goal.returns
returns c = record {
  value = sym (least_at_end 10 c.loop-width.width (λ w. fit w c.args.differences.now) (omega arith)) ∙ c.loop-width.invariant;
  narrow = omega arith;
  fits = c.requires;
}
