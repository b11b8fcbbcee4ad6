-- How a text is read line by line, whatever its grammar: `after` says what is after a line of these words.
use Rattle.std.specs.Prelude.{◌≡◌, ℕ, List, if◌then◌else◌, Ok, Err, Result}
use Rattle.std.specs.Str.{is_utf8}
use Rattle.text_readers.specs.Words.{words, is_skipped}
use Rattle.text_readers.specs.declared.fault.FaultKind.{FaultKind}
use Rattle.text_readers.specs.declared.fault.FaultKind.TheVariants.{NotUtf8}
use Rattle.text_readers.specs.declared.fault.Refusal.{Refusal}
use Rattle.text_readers.specs.declared.fault.Refusal.TheVariants.{Fault, NoMemory}
use Rattle.text_readers.specs.declared.fault.ParseFault.{ParseFault}
use Rattle.text_readers.specs.declared.fault.ParseFault.TheVariants.{Line, Memory}

-- after a line, or its fault
unfoldable pub draft_after_line : {D : Type 0} → (D → List (List ℕ) → Result D FaultKind) → D → List ℕ → Result D FaultKind
draft_after_line after d line =
    let ws = words line in
    if is_skipped ws then Ok d else if is_utf8 line then after d ws else Err NotUtf8

-- what was read of a line, seen by the draft after it
abbrev pub Reads : {D : Type 0} → Result (Unit {0}) Refusal → D → Result D FaultKind → Type 0
Reads (Ok x) new after = after ≡ Ok new
Reads (Err (Fault k)) new after = after ≡ Err k
Reads (Err NoMemory) new after = Unit {0}

-- the draft of all lines with their count, or the first fault, unless memory ran out
abbrev pub Drafts : {D : Type 0} → Result (D × ℕ) ParseFault → Result D (ℕ × FaultKind) → Type 0
Drafts (Ok d) said = said ≡ Ok d.0
Drafts (Err Memory) said = Unit {0}
Drafts (Err (Line n k)) said = said ≡ Err (n, k)
