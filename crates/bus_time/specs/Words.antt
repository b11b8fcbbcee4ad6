-- What nodes were given of their rounds, as it is noted.
use Rattle.std.specs.Prelude.{◌≡◌, List, Contains, Bool, false, ◌&&◌, ◌||◌, ◌==◌, nat_lt, Some, None}
use Rattle.std.specs.declared.option.Option.{Option}
use Rattle.std.specs.HashMap.{get}
use Rattle.bus_time.specs.declared.words.Round.{Round}
use Rattle.bus_time.specs.declared.words.Word.{Word}
use Rattle.bus_time.specs.declared.words.Words.{Words}

-- of this round, this word
abbrev pub Note : Type 0
Note = Round × Word

-- the word of a later frame comes before others, and of one frame that which ends earlier
abbrev pub word_comes_before : Word → Word → Bool
word_comes_before a b = nat_lt a.ahead b.ahead || ((a.ahead == b.ahead) && nat_lt a.end b.end)

abbrev pub same_round : Round → Round → Bool
same_round a b = (a.node == b.node) && ((a.rank == b.rank) && (a.frame == b.frame))

-- no word of the round comes before it
abbrev pub IsFirstWord : List Note → Round → Option Word → Type 0
IsFirstWord notes round None = (w : Word) → Contains notes (round, w) → ⊥
IsFirstWord notes round (Some first) = Contains notes (round, first) × ((w : Word) → Contains notes (round, w) → word_comes_before w first ≡ false)

abbrev pub AreFirsts : List Note → Words → Type 0
AreFirsts notes words = (round : Round) → IsFirstWord notes round (get same_round words.first round)
