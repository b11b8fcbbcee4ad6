-- Refusals: which fault comes first, and in which line.
use Rattle.std.specs.Prelude.{◌≡◌, ℕ, ◌+◌, List, [], ◌∷◌, Bool, if◌then◌else◌, Some, None, Option, Ok, Err, Result}
use Rattle.text_readers.specs.declared.fault.FaultKind.{FaultKind}
use Rattle.text_readers.specs.declared.fault.FaultKind.TheVariants.{BadWord, BadNumber}
use Rattle.text_readers.specs.declared.fault.Refusal.{Refusal}
use Rattle.text_readers.specs.declared.fault.Refusal.TheVariants.{Fault, NoMemory}
use Rattle.text_readers.specs.declared.fault.ParseFault.{ParseFault}
use Rattle.text_readers.specs.declared.fault.ParseFault.TheVariants.{Line, Memory}

-- the first test that fails, by the fault that this makes
abbrev pub first_fault : List (Bool × FaultKind) → Option FaultKind
first_fault [] = None
first_fault (t ∷ ts) = if t.0 then first_fault ts else Some t.1

abbrev pub unless_fault : {A : Type 0} → Option FaultKind → A → Result A FaultKind
unless_fault None x = Ok x
unless_fault (Some k) x = Err k

-- what is said, where it is and is spelled right
abbrev pub spelled : {L : Type 0} → Option L → (L → Bool) → Result L FaultKind
spelled None right = Err BadWord
spelled (Some l) right = if right l then Ok l else Err BadNumber

-- a fault in line n
abbrev pub in_line : {A : Type 0} → ℕ → Result A FaultKind → Result A (ℕ × FaultKind)
in_line n (Ok x) = Ok x
in_line n (Err k) = Err (n, k)

infixl 10 ◌>>=◌
abbrev pub ◌>>=◌ : {A B E : Type 0} → Result A E → (A → Result B E) → Result B E
(Ok x) >>= f = f x
(Err e) >>= f = Err e

-- after these lines, of which the first is line n, or the first fault: `after` says what is after one line
abbrev pub draft_after_lines : {D : Type 0} → (D → List ℕ → Result D FaultKind) → ℕ → D → List (List ℕ) → Result D (ℕ × FaultKind)
draft_after_lines after n d [] = Ok d
draft_after_lines after n d (line ∷ more) = do
  e ← in_line n (after d line)
  draft_after_lines after (n + 1) e more

-- what was answered is what the definition says, unless memory ran out
abbrev pub IsAsDefined : {A : Type 0} → Result A ParseFault → Result A (ℕ × FaultKind) → Type 0
IsAsDefined (Ok x) said = said ≡ Ok x
IsAsDefined (Err Memory) said = Unit {0}
IsAsDefined (Err (Line n k)) said = said ≡ Err (n, k)

-- what is rejected is what this fault rejects, unless memory ran out
abbrev pub Refuses : {A : Type 0} → Result A Refusal → Option FaultKind → Type 0
Refuses (Ok x) fault = fault ≡ None
Refuses (Err (Fault k)) fault = fault ≡ Some k
Refuses (Err NoMemory) fault = Unit {0}

-- likewise where no memory is asked for
abbrev pub RefusesBy : {A : Type 0} → Result A FaultKind → Option FaultKind → Type 0
RefusesBy (Ok x) fault = fault ≡ None
RefusesBy (Err k) fault = fault ≡ Some k

abbrev pub at_line : ℕ → Refusal → ParseFault
at_line n (Fault k) = Line n k
at_line n NoMemory = Memory

-- what was made at the end is what the definition says, unless memory ran out
abbrev pub Finishes : {A : Type 0} → Result A Refusal → Result A FaultKind → Type 0
Finishes (Ok x) said = said ≡ Ok x
Finishes (Err (Fault k)) said = said ≡ Err k
Finishes (Err NoMemory) said = Unit {0}
