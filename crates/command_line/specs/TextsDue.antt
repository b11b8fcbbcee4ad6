-- Which text is due to the words of a command line, and which status may come. It is said of any program: by the words that ask for each
-- command (`Asks`), by whether a command reads, by the first fault of the bytes that it reads, and by its reports.
use Rattle.std.specs.Prelude.{◌≡◌, ◌<◌, ◌≤◌, ◌⊎◌, ℕ, List, Bool, true, length, Option, Some, None, String}
use Rattle.std.specs.declared.alloc.Global.{Global}
use Rattle.lwb_base.specs.declared.read.TheConstants.{INPUT_LIMIT}
use Rattle.text_readers.specs.declared.fault.FaultKind.{FaultKind}
use Rattle.command_line.specs.Streams.{IsRead, TooMuchRead, fault_line, too_long}

-- the words ask for some command, and for one that reads
abbrev pub AskForOne : {C : Type 0} → (List (String Global) → C → Type 0) → List (String Global) → Type 0
AskForOne {C} Asks words = (c : C) × Asks words c

abbrev pub AskToRead : {C : Type 0} → (List (String Global) → C → Type 0) → (C → Bool) → List (String Global) → Type 0
AskToRead {C} Asks reads words = (c : C) × Asks words c × (reads c ≡ true)

-- the line that names this fault, where there is one
pub record IsFaultLine (fault : Option (ℕ × FaultKind)) (text : List ℕ) : Type 0 where
  pub line : ℕ
  pub kind : FaultKind
  pub said : fault ≡ Some (line, kind)
  pub is : text ≡ fault_line line kind

-- a report is due, by the words and by what the source had left before and after
abbrev pub IsReportDue : {C : Type 0} → (List (String Global) → C → Type 0) → (C → Bool) → (C → List ℕ → List ℕ → Type 0) → List (String Global)
    → Option (List ℕ) → Option (List ℕ) → List ℕ → Type 0
IsReportDue {C} Asks reads IsReport words old new text = (c : C) × (b : List ℕ) × Asks words c × IsRead (reads c) old new b × IsReport c b text

-- a fault line is due, for the bytes that were read or for too many
abbrev pub IsFaultDue : {C : Type 0} → (List (String Global) → C → Type 0) → (C → Bool) → (C → List ℕ → Option (ℕ × FaultKind)) → List (String Global)
    → Option (List ℕ) → Option (List ℕ) → List ℕ → Type 0
IsFaultDue {C} Asks reads fault_of words old new text =
    (c : C) × Asks words c × (reads c ≡ true)
    × (((b : List ℕ) × IsRead (reads c) old new b × IsFaultLine (fault_of c b) text) ⊎ (TooMuchRead old new × (text ≡ too_long)))

-- the usage line is due
abbrev pub IsUsageDue : {C : Type 0} → (List (String Global) → C → Type 0) → List ℕ → List (String Global) → List ℕ → Type 0
IsUsageDue {C} Asks usage words text = (((c : C) × Asks words c) → ⊥) × (text ≡ usage)

-- where b is the input, with this first fault if any, and nothing failed, the status is the one that is due, or out of memory
pub record IsStatusDue (fault : Option (ℕ × FaultKind)) (b : List ℕ) (status : ℕ) : Type 0 where
  pub accepted : fault ≡ None → length b ≤ INPUT_LIMIT → (status ≡ 0) ⊎ (status ≡ 5)
  pub refused : (n : ℕ) (k : FaultKind) → fault ≡ Some (n, k) → length b ≤ INPUT_LIMIT → (status ≡ 1) ⊎ (status ≡ 5)
  pub too_long : INPUT_LIMIT < length b → (status ≡ 1) ⊎ (status ≡ 5)
