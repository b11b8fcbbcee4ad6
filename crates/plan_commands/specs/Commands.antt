-- The commands of a planner: the words that ask for each, and which bytes its grammar rejects.
use Rattle.std.specs.Prelude.{◌≡◌, ◌+◌, ◌<◌, ◌≤◌, ◌^◌, ℕ, List, [], ◌∷◌, Bool, true, Option, String, codes, decimal, map, string_bytes}
use Rattle.std.specs.declared.alloc.Global.{Global}
use Rattle.std.specs.Result.{result_err}
use Rattle.text_readers.specs.declared.fault.FaultKind.{FaultKind}
use Rattle.command_line.specs.TextsDue.{AskForOne}
use Rattle.network_text.specs.NetworkGrammar.{network_of}
use Rattle.plan_commands.specs.DrawnTexts.{draw_fault}
use Rattle.plan_commands.specs.declared.command.Command.{Command}
use Rattle.plan_commands.specs.declared.command.Command.TheVariants.{Bounds, Draw, Fates, Log, Outcome, Run, Sample}

-- words of these bytes ask for this command. A number has at most 13 digits, and no seed of a sample has more
abbrev pub Spell : List (List ℕ) → Command → Type 0
Spell words (Draw seed) = (words ≡ codes "draw" ∷ decimal seed ∷ []) × (seed < 10 ^ 13)
Spell words (Outcome seed) = (words ≡ codes "outcome" ∷ decimal seed ∷ []) × (seed < 10 ^ 13)
Spell words (Fates seed) = (words ≡ codes "fates" ∷ decimal seed ∷ []) × (seed < 10 ^ 13)
Spell words (Run seed) = (words ≡ codes "run" ∷ decimal seed ∷ []) × (seed < 10 ^ 13)
Spell words (Log seed) = (words ≡ codes "log" ∷ decimal seed ∷ []) × (seed < 10 ^ 13)
Spell words (Sample from count) = (words ≡ codes "sample" ∷ decimal from ∷ decimal count ∷ []) × (from < 10 ^ 13) × (count < 10 ^ 13) × (from + count ≤ 10 ^ 13)
Spell words Bounds = words ≡ codes "bounds" ∷ []

-- Internal: it is that of this word, with this seed
abbrev pub IsSeeded : List ℕ → ℕ → Command → Type 0
IsSeeded word seed (Draw n) = (word ≡ codes "draw") × (n ≡ seed)
IsSeeded word seed (Outcome n) = (word ≡ codes "outcome") × (n ≡ seed)
IsSeeded word seed (Fates n) = (word ≡ codes "fates") × (n ≡ seed)
IsSeeded word seed (Run n) = (word ≡ codes "run") × (n ≡ seed)
IsSeeded word seed (Log n) = (word ≡ codes "log") × (n ≡ seed)
IsSeeded word seed (Sample from count) = ⊥
IsSeeded word seed Bounds = ⊥

-- Internal: it is that of this word, with these seeds
abbrev pub IsSampled : List ℕ → ℕ → ℕ → Command → Type 0
IsSampled word from count (Sample f n) = (word ≡ codes "sample") × (from + count ≤ 10 ^ 13) × (f ≡ from) × (n ≡ count)
IsSampled word from count other = ⊥

abbrev pub Asks : List (String Global) → Command → Type 0
Asks words c = Spell (map string_bytes words) c

-- the words ask for some command
abbrev pub IsCommand : List (String Global) → Type 0
IsCommand = AskForOne Asks

-- each of them reads
abbrev pub reads : Command → Bool
reads c = true

-- the first fault of the bytes that it reads, by its grammar
abbrev pub fault_of : Command → List ℕ → Option (ℕ × FaultKind)
fault_of (Draw seed) b = draw_fault seed b (network_of b)
fault_of (Outcome seed) b = result_err (network_of b)
fault_of (Fates seed) b = result_err (network_of b)
fault_of (Run seed) b = result_err (network_of b)
fault_of (Log seed) b = result_err (network_of b)
fault_of (Sample from count) b = result_err (network_of b)
fault_of Bounds b = result_err (network_of b)

abbrev pub usage : List ℕ
usage = codes "usage: draw SEED | outcome SEED | fates SEED | run SEED | log SEED | sample FROM COUNT | bounds\n"
