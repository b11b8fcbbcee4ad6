use Rattle.std.proofs.Common.{◌≡◌, ◌+◌, ℕ, refl, ◌∙◌, ap, arith}
use Rattle.std.specs.List.{list_any, range_with_len}
use Rattle.lwb_base.specs.declared.limits.TheConstants.{QUIET_FRAMES}
use Rattle.bus_bounds.specs.PowerLines.{boots_in}
use Rattle.bus_bounds.proofs.reach.boots_by.Goals as goal

pub returns : goal.returns
returns c =
    let quiet : QUIET_FRAMES ≡ 5 = refl in
    c.boots_within.ensures
    ∙ ap (λ (n : ℕ). list_any (boots_in c.args.lines.now c.args.node) (range_with_len c.args.frame n)) {y = QUIET_FRAMES + 1} (omega (arith, quiet))
