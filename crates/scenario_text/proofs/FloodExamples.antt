-- The definition of a flood text, tried on small texts.
use Rattle.std.proofs.Common.{◌≡◌, ℕ, pos, negsuc, List, [], ◌∷◌, ◌++◌, true, false, Ok, Err, Result, refl, codes, map}
use Rattle.std.specs.Str.Lines.{lines}
use Rattle.std.specs.Str.{is_utf8, chars}
use lib.Utf8.{encode}
use Rattle.link_trace.specs.Sealed.{no_lines}
use Rattle.scenario_text.specs.FloodParts.{FloodParts}
use Rattle.text_readers.specs.Words.{words, is_number, is_signed, is_skipped}
use Rattle.scenario_text.specs.FloodGrammar.{flood_of, flood_after_words, flood_line}
use Rattle.text_readers.specs.Reading.{draft_after_line}
use Rattle.scenario_text.specs.Network.{network_line}
use Rattle.text_readers.specs.declared.fault.FaultKind.{FaultKind}
use Rattle.text_readers.specs.declared.fault.FaultKind.TheVariants.{NotUtf8, BadWord, BadNumber, Range, UnknownNode, Order, Twice, Missing}

-- of two carriage returns before a line feed one is dropped, and one at the end of the text stays
cut_into_lines : lines (codes "a\r\r\n\nb\r") ≡ codes "a\r" ∷ [] ∷ codes "b\r" ∷ []
cut_into_lines = refl

no_further_line : lines (codes "a\n") ≡ codes "a" ∷ []
no_further_line = refl

nothing_cut : lines [] ≡ []
nothing_cut = refl

cut_into_words : words (codes " \tsends  2\t") ≡ codes "sends" ∷ codes "2" ∷ []
cut_into_words = refl

skipped : map is_skipped (words (codes "\t ") ∷ words (codes " # 1") ∷ words (codes "sends 1") ∷ []) ≡ true ∷ true ∷ false ∷ []
skipped = refl

numbers : map is_number (codes "0" ∷ codes "9999999999999" ∷ codes "10000000000000" ∷ codes "012" ∷ codes "00" ∷ codes "2\r" ∷ codes "-1"
    ∷ []) ≡ true ∷ true ∷ false ∷ false ∷ false ∷ false ∷ false ∷ []
numbers = refl

with_minus : map is_signed (codes "-20" ∷ codes "0" ∷ codes "-0" ∷ codes "-" ∷ codes "--1" ∷ codes "+1" ∷ []) ≡ true ∷ true ∷ false ∷ false ∷ false ∷ false ∷ []
with_minus = refl

-- three nodes in a line, the first of which starts
abbrev three : List ℕ
three = codes "sends 2\nnode 1 0\nnode 2 0\nnode 3 0\npair 1 2\npair 2 3\n"

abbrev its_parts : FloodParts
its_parts = record {
  sends = 2;
  nodes = record { node = 1; offset = 0 } ∷ record { node = 2; offset = 0 } ∷ record { node = 3; offset = 0 } ∷ [];
  rates = [];
  trace = record {
    links = record { from = 1; to = 2 } ∷ record { from = 2; to = 1 } ∷ record { from = 2; to = 3 } ∷ record { from = 3; to = 2 } ∷ [];
    losses = [];
    cuts = [];
    captures = [];
  };
  start = 1;
}

three_in_a_line : flood_of (three ++ codes "start 1\n") ≡ Ok its_parts
unfolding draft_after_line flood_after_words flood_line network_line is_utf8 chars encode
three_in_a_line = refl

-- without its start
no_start : flood_of three ≡ Err (7, Missing)
unfolding draft_after_line flood_after_words flood_line network_line is_utf8 chars encode
no_start = refl

nothing_at_all : flood_of [] ≡ Err (1, Missing)
nothing_at_all = refl

first_hop_lost : flood_of (three ++ codes "lose 0 1 2\nstart 1\n")
    ≡ Ok (record its_parts { trace = record its_parts.trace { losses = record { frame = 5; slot = 1; step = 0; from = 1; to = 2 } ∷ [] } })
unfolding draft_after_line flood_after_words flood_line network_line is_utf8 chars encode
first_hop_lost = refl

-- blanks, skipped lines with any bytes, nodes in any order, the rates of several nodes in turn, and no last line feed
in_any_order : flood_of (codes "# \n" ++ (35 ∷ 255 ∷ 10 ∷ []) ++ codes "start 3\r\n")
    ≡ Err (3, UnknownNode)
unfolding draft_after_line flood_after_words flood_line network_line is_utf8 chars encode
in_any_order = refl

with_rates : flood_of (codes "node 9 5\nnode  2 256000\r\n\n  rate 9 7 -20\nsends 1\nrate 2 0 20\nrate 9 8 0\nstart 9")
    ≡ Ok (record {
      sends = 1;
      nodes = record { node = 2; offset = 256000 } ∷ record { node = 9; offset = 5 } ∷ [];
      rates = record { node = 2; from = 0; ppm = pos 20 } ∷ record { node = 9; from = 7; ppm = negsuc 19 } ∷ record { node = 9; from = 8; ppm = pos 0 } ∷ [];
      trace = no_lines;
      start = 9;
    })
unfolding draft_after_line flood_after_words flood_line network_line is_utf8 chars encode
with_rates = refl

-- after the six lines of `three`: a line, and its fault
abbrev refused : List ℕ → Result FloodParts (ℕ × FaultKind)
refused line = flood_of (three ++ line)

faults : map refused (
    (115 ∷ 255 ∷ []) ∷ codes "stop 1" ∷ codes "start" ∷ codes "start 1 2" ∷ codes "lose 5 1 0 1 2" ∷ codes "frames 2"
    ∷ codes "start 01" ∷ codes "start -1" ∷ codes "rate 1 0 -0" ∷ codes "start 1\r"
    ∷ codes "start 0" ∷ codes "start 201" ∷ codes "link 4 4" ∷ codes "lose 12 1 9" ∷ codes "sends 5" ∷ codes "node 3 256001"
    ∷ codes "rate 1 1048576000001 0" ∷ codes "rate 1 0 -21"
    ∷ codes "start 4" ∷ codes "link 4 1" ∷ codes "lose 0 1 4" ∷ codes "rate 4 0 0"
    ∷ codes "sends 2" ∷ codes "node 3 0" ∷ codes "link 2 1" ∷ codes "pair 2 1" ∷ []
    )
    ≡ Err (7, NotUtf8) ∷ Err (7, BadWord) ∷ Err (7, BadWord) ∷ Err (7, BadWord) ∷ Err (7, BadWord) ∷ Err (7, BadWord)
    ∷ Err (7, BadNumber) ∷ Err (7, BadNumber) ∷ Err (7, BadNumber) ∷ Err (7, BadNumber)
    ∷ Err (7, Range) ∷ Err (7, Range) ∷ Err (7, Range) ∷ Err (7, Range) ∷ Err (7, Range) ∷ Err (7, Range) ∷ Err (7, Range) ∷ Err (7, Range)
    ∷ Err (7, UnknownNode) ∷ Err (7, UnknownNode) ∷ Err (7, UnknownNode) ∷ Err (7, UnknownNode)
    ∷ Err (7, Twice) ∷ Err (7, Twice) ∷ Err (7, Twice) ∷ Err (7, Twice) ∷ []
unfolding draft_after_line flood_after_words flood_line network_line is_utf8 chars encode
faults = refl

second_lines : map (λ (lines : List ℕ). refused lines) (codes "start 1\nstart 2" ∷ codes "lose 0 1 2\nlose 0 1 2"
    ∷ codes "link 1 3\npair 3 1" ∷ codes "rate 1 7 1\nrate 2 7 1\nrate 1 7 1" ∷ [])
    ≡ Err (8, Twice) ∷ Err (8, Twice) ∷ Err (8, Twice) ∷ Err (9, Order) ∷ []
unfolding draft_after_line flood_after_words flood_line network_line is_utf8 chars encode
second_lines = refl

-- what misses nothing but transmissions, or a second node
also_missing : map (λ (text : List ℕ). flood_of text) (codes "node 1 0\nnode 2 0\nstart 1\n" ∷ codes "sends 1\nnode 1 0\nstart 1" ∷ [])
    ≡ Err (4, Missing) ∷ Err (4, Missing) ∷ []
unfolding draft_after_line flood_after_words flood_line network_line is_utf8 chars encode
also_missing = refl
