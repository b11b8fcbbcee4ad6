-- What holds after a line that is allowed.
use Rattle.std.proofs.Common.{◌≡◌, true, false, Bool, cond, Option, Some, None, Result, Ok, Err, IfOk, refl, subst}
use Rattle.std.proofs.lemmas.Bool.{cond_both}
use Rattle.text_readers.specs.Faults.{unless_fault, spelled, ◌>>=◌}
use Rattle.text_readers.specs.declared.fault.FaultKind.{FaultKind}
use Rattle.text_readers.specs.declared.fault.FaultKind.TheVariants.{BadNumber}

-- a test that makes no fault, and those after it
pub passed : (b : Bool) (k : FaultKind) (others : Option FaultKind) → cond b others (Some k) ≡ None → (b ≡ true) × (others ≡ None)
passed true k others is = (refl, is)
passed false k others is = cc

pub unless_keeps : {D : Type 0} (P : D → Type 0) (o : Option FaultKind) (d : D) → (o ≡ None → P d) → IfOk (unless_fault o d) P
unless_keeps P None d sound = sound refl
unless_keeps P (Some k) d sound = tt

-- what follows of a line that is spelled right
pub spelled_keeps : {L D : Type 0} (P : D → Type 0) (o : Option L) (right : L → Bool) (after : L → Result D FaultKind)
    → ((l : L) → o ≡ Some l → IfOk (after l) P) → IfOk (spelled o right >>= after) P
spelled_keeps P None right after keeps = tt
spelled_keeps P (Some l) right after keeps =
    cond_both (right l) (Ok l) (Err BadNumber) (λ (r : Result _ FaultKind). IfOk (r >>= after) P) (λ is. keeps l refl) (λ not. tt)

pub at_ok : {A E : Type 0} (P : A → Type 0) (r : Result A E) (x : A) → r ≡ Ok x → IfOk r P → P x
at_ok P r x is holds = subst (λ (q : Result _ _). IfOk q P) is holds
