-- What was read is the input, and a part of what is due is a part of a text that is due.
use Rattle.std.proofs.Common.{◌≡◌, ◌≤◌, ◌++◌, ℕ, List, Bool, true, false, length, Option, Some, None, sym, ◌∙◌, ap, subst, arith}
use Rattle.std.proofs.lemmas.List.{append-nil}
use Rattle.std.specs.Io.KnownBytes.{Consumes, IsAtEnd}
use Rattle.lwb_base.specs.declared.read.TheConstants.{INPUT_LIMIT}
use Rattle.command_line.specs.Streams.{PartWritten, IsRead, IsInput}

-- a part of a text that is due
pub part_due : (a b : Option (List ℕ)) (Due : List ℕ → Type 0) (text : List ℕ) → Due text → PartWritten a b (λ t. t ≡ text) → PartWritten a b Due
part_due a b Due text due (t, gone, is, less, out) = (t, gone, subst Due (sym is) due, less, out)

-- and of what else is due then
pub part_as : (a b : Option (List ℕ)) (Due Other : List ℕ → Type 0) → ((text : List ℕ) → Due text → Other text) → PartWritten a b Due → PartWritten a b Other
part_as a b Due Other to (text, gone, due, less, out) = (text, gone, to text due, less, out)

-- what was read to the end is what was left
pub all_read : (b c : List ℕ) (new : Option (List ℕ)) → Consumes (Some b) new c → IsAtEnd new → b ≡ c
all_read b c None eaten end = absurd eaten
all_read b c (Some rest) eaten end = eaten ∙ ap (λ (r : List ℕ). c ++ r) end ∙ append-nil c

-- what was read is the input, which is not too long
pub read_is_input : (reading : Bool) (old new : Option (List ℕ)) (r b : List ℕ) → IsRead reading old new r → IsInput reading old b
    → (r ≡ b) × (length b ≤ INPUT_LIMIT)
read_is_input true old new r b (eaten, end, few) is =
    let same : b ≡ r = all_read b r new (subst (λ (o : Option (List ℕ)). Consumes o new r) is eaten) end in
    (sym same, subst (λ (l : List ℕ). length l ≤ INPUT_LIMIT) (sym same) few)
read_is_input false old new r b none is = (none ∙ sym is, subst (λ (l : List ℕ). length l ≤ INPUT_LIMIT) (sym is) (omega arith))
