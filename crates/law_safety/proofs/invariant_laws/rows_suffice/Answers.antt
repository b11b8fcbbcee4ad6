use Rattle.law_safety.proofs.Induction.{rows_suffice}
use Rattle.law_safety.proofs.invariant_laws.rows_suffice.Goals as goal

pub returns : goal.returns
returns c = rows_suffice
