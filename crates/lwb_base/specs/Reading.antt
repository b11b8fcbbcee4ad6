-- What a whole read leaves, by its answer.
use Rattle.std.specs.Prelude.{Bool, true, false, [], ◌++◌, ◌<◌, ◌≡◌, ℕ, ◌+◌, ◌≤◌, List, length, Vec, Result, Ok, Err}
use Rattle.std.specs.declared.option.Option.{Option}
use Rattle.std.specs.declared.alloc.Global.{Global}
use Rattle.std.specs.Io.KnownBytes.{Consumes, IsAtEnd}
use Rattle.lwb_base.specs.declared.read.ReadStop.{ReadStop}
use Rattle.lwb_base.specs.declared.read.ReadStop.TheVariants.{ReadFault, TooLong, Memory}
use Rattle.lwb_base.specs.declared.read.TheConstants.{INPUT_LIMIT}

-- some bytes were taken, and this holds of their number
abbrev pub Took : Option (List ℕ) → Option (List ℕ) → (ℕ → Type 0) → Type 0
Took old new P = (bs : List ℕ) × Consumes old new bs × P (length bs)

-- Ok has all bytes up to the end; too long comes if and only if one byte more than the limit was taken
abbrev pub ReadsAll : Option (List ℕ) → Option (List ℕ) → Result (Vec ℕ Global) ReadStop → Type 0
ReadsAll old new (Ok bytes) = Consumes old new bytes.items × IsAtEnd new × (length bytes.items ≤ INPUT_LIMIT)
ReadsAll old new (Err ReadFault) = Took old new (λ n. n ≤ INPUT_LIMIT)
ReadsAll old new (Err TooLong) = Took old new (λ n. n ≡ INPUT_LIMIT + 1)
ReadsAll old new (Err Memory) = Took old new (λ n. n ≤ INPUT_LIMIT)

-- a read of one piece more: some bytes, or the end
abbrev pub TakesPiece : Option (List ℕ) → Option (List ℕ) → List ℕ → List ℕ → Bool → Type 0
TakesPiece old new had has true = (bs : List ℕ) × Consumes old new bs × (has ≡ had ++ bs) × (length had < length has) × (length has ≤ INPUT_LIMIT)
TakesPiece old new had has false = Consumes old new [] × IsAtEnd new × (has ≡ had)

abbrev pub ReadsPiece : Option (List ℕ) → Option (List ℕ) → List ℕ → List ℕ → Result Bool ReadStop → Type 0
ReadsPiece old new had has (Ok more) = TakesPiece old new had has more
ReadsPiece old new had has (Err ReadFault) = Consumes old new []
ReadsPiece old new had has (Err TooLong) = (bs : List ℕ) × Consumes old new bs × (length had + length bs ≡ INPUT_LIMIT + 1)
ReadsPiece old new had has (Err Memory) = (bs : List ℕ) × Consumes old new bs × (length had + length bs ≤ INPUT_LIMIT)
