-- Which line of a text says what breaks a premise.
use Rattle.std.specs.Prelude.{ℕ, ◌+◌, List, [], ◌∷◌, Bool, ◌&&◌, ◌==◌, if◌then◌else◌, Option, Some, None, codes, length}
use Rattle.text_readers.specs.Words.{is_number, number_at, word, words}
use Rattle.scenario_text.specs.ScriptGrammar.{first_word_is}
use Rattle.bus_bounds.specs.declared.breaking_line.BreakingLine.{BreakingLine}
use Rattle.bus_bounds.specs.declared.breaking_line.BreakingLine.TheVariants.{Cut, Lose, Rated, Switch}

-- word i is this number
abbrev pub has_number : List (List ℕ) → ℕ → ℕ → Bool
has_number ws i n = is_number (word ws i) && (number_at ws i == n)

abbrev pub switch_word : Bool → List ℕ
switch_word on = if on then codes "on" else codes "off"

-- a line of this many words begins with this one, and the first number after it is that of a frame
abbrev pub begins : List (List ℕ) → ℕ → List ℕ → ℕ → Bool
begins ws count name f = (length ws == count) && first_word_is ws name && has_number ws 1 f

-- the words say just this
abbrev pub says : BreakingLine → List (List ℕ) → Bool
says (Switch l) ws = begins ws 3 (switch_word l.on) l.frame && has_number ws 2 l.node
says (Lose l) ws =
    begins ws 6 (codes "lose") l.frame && has_number ws 2 l.slot && has_number ws 3 l.step && has_number ws 4 l.from && has_number ws 5 l.to
says (Cut l) ws = begins ws 5 (codes "cut") l.frame && has_number ws 2 l.slot && has_number ws 3 l.step && has_number ws 4 l.node
says (Rated l) ws = begins ws 5 (codes "ratio") l.frame && has_number ws 2 l.from && has_number ws 3 l.to && has_number ws 4 l.ratio

-- the number of the first of these lines that says it, where the first of all is line n
abbrev pub line_saying : BreakingLine → ℕ → List (List ℕ) → Option ℕ
line_saying p n [] = None
line_saying p n (l ∷ ls) = if says p (words l) then Some n else line_saying p (n + 1) ls
