use Rattle.std.proofs.Common.{◌≡◌, ℕ, Option, Some, None, refl, sym, ◌∙◌}
use Rattle.std.specs.Prelude.{IsErrOf}
use Rattle.scenario_clocks.proofs.clock_lines.clock_of.Goals as goal

no_some : (i : ℕ) → ◌≡◌ {A = Option ℕ} None (Some i) → ⊥
no_some i is = cc

pub unreachable-requires : goal.unreachable-requires
unreachable-requires c =
    let arm = c.in-Err-Rate in
    let err : IsErrOf c.new.result _ = rw (arm.is, arm.field-0-is) refl in
    no_some arm.field-0-0 (sym c.requires.small ∙ (c.new.ensures.rate arm.field-0-0).0 err)

pub unreachable-requires-in-Err-Order : goal.unreachable-requires-in-Err-Order
unreachable-requires-in-Err-Order c =
    let arm = c.in-Err-Order in
    let err : IsErrOf c.new.result _ = rw (arm.is, arm.field-0-is) refl in
    no_some arm.field-0-0 (sym c.requires.order ∙ ((c.new.ensures.order arm.field-0-0).0 err).1)
