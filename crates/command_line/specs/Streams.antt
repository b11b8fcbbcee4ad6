-- What a program reads from its source and writes to its sink.
use Rattle.std.specs.Prelude.{◌≡◌, ◌<◌, ◌≤◌, ◌+◌, ℕ, List, [], ◌∷◌, ◌++◌, Bool, true, false, length, take, Option, Some, Result, Ok, Err, Vec, codes, decimal}
use Rattle.std.specs.declared.alloc.Global.{Global}
use Rattle.std.specs.Io.KnownBytes.{Appends, Consumes, IsAtEnd}
use Rattle.lwb_base.specs.Reading.{Took}
use Rattle.lwb_base.specs.declared.read.ReadStop.{ReadStop}
use Rattle.lwb_base.specs.declared.read.ReadStop.TheVariants.{ReadFault, TooLong, Memory}
use Rattle.lwb_base.specs.declared.read.TheConstants.{INPUT_LIMIT}
use Rattle.text_readers.specs.FaultNames.{kind_name}
use Rattle.text_readers.specs.declared.fault.FaultKind.{FaultKind}

abbrev pub fault_line : ℕ → FaultKind → List ℕ
fault_line n k = codes "fault line " ++ decimal n ++ codes ": " ++ kind_name k ++ 10 ∷ []

abbrev pub too_long : List ℕ
too_long = codes "fault too long\n"

-- this is the input of a program, by what its source has left: all of that, or nothing where it doesn't read
abbrev pub IsInput : Bool → Option (List ℕ) → List ℕ → Type 0
IsInput true left b = left ≡ Some b
IsInput false left b = b ≡ []

-- these bytes were read: all that the source had, to its end and at most as many as are allowed; or none, where nothing is read
abbrev pub IsRead : Bool → Option (List ℕ) → Option (List ℕ) → List ℕ → Type 0
IsRead true old new b = Consumes old new b × IsAtEnd new × (length b ≤ INPUT_LIMIT)
IsRead false old new b = b ≡ []

-- one byte more than is allowed was taken, and no more
abbrev pub TooMuchRead : Option (List ℕ) → Option (List ℕ) → Type 0
TooMuchRead old new = Took old new (λ n. n ≡ INPUT_LIMIT + 1)

-- some bytes were taken, at most this many as are allowed, and what is left is what was left less these
abbrev pub PartRead : Option (List ℕ) → Option (List ℕ) → Type 0
PartRead old new = Took old new (λ n. n ≤ INPUT_LIMIT)

-- what was read, where a program reads or doesn't
abbrev pub HasRead : Bool → Option (List ℕ) → Option (List ℕ) → Result (Vec ℕ Global) ReadStop → Type 0
HasRead reading old new (Ok bytes) = IsRead reading old new bytes.items × (length bytes.items ≤ INPUT_LIMIT)
HasRead reading old new (Err ReadFault) = (reading ≡ true) × PartRead old new
HasRead reading old new (Err TooLong) = (reading ≡ true) × TooMuchRead old new
HasRead reading old new (Err Memory) = PartRead old new

-- the text that is due went out whole
abbrev pub Written : Option (List ℕ) → Option (List ℕ) → (List ℕ → Type 0) → Type 0
Written old new Due = (text : List ℕ) × Due text × Appends old new text

-- a proper prefix of the text that is due went out, and not the whole
abbrev pub PartWritten : Option (List ℕ) → Option (List ℕ) → (List ℕ → Type 0) → Type 0
PartWritten old new Due = (text : List ℕ) × (gone : ℕ) × Due text × (gone < length text) × Appends old new (take gone text)
