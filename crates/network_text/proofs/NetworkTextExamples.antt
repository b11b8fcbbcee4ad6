-- The definition of a network text, tried on small texts.
use Rattle.std.proofs.Common.{◌≡◌, ℕ, List, [], ◌∷◌, ◌++◌, Ok, Err, Result, refl, codes, map}
use Rattle.std.specs.Str.{is_utf8, chars}
use lib.Utf8.{encode}
use Rattle.text_readers.specs.Faults.{◌>>=◌}
use Rattle.text_readers.specs.Reading.{draft_after_line}
use Rattle.text_readers.specs.declared.fault.FaultKind.{FaultKind}
use Rattle.text_readers.specs.declared.fault.FaultKind.TheVariants.{NotUtf8, BadWord, BadNumber, Range, UnknownNode, Order, Missing}
use Rattle.scenario_text.specs.Network.{network_line}
use Rattle.scenario_text.specs.ScriptGrammar.{script_line, step_line}
use Rattle.scenario_text.specs.ScenarioGrammar.{long_scenario_of, scenario_after_words, scenario_line}
use Rattle.scenario_text.specs.ScenarioParts.{ScenarioParts}
use Rattle.drawn_links.specs.declared.ratio_line.RatioLine.{RatioLine}
use Rattle.network_text.specs.NetworkGrammar.{network_of, ratios_after_words}

-- eight lines
abbrev scenario : List ℕ
scenario = codes "frames 6\nsends 2\nnode 1 0\nnode 2 0\nhost 0 1\nlink 1 2\non 0 1\non 0 2\n"

abbrev with_lines : List RatioLine → Result (ScenarioParts × List RatioLine) (ℕ × FaultKind)
with_lines ratios = long_scenario_of scenario >>= (λ s. Ok (s, ratios))

whole : map network_of (scenario ∷ (scenario ++ codes "\tratios \r\n\nratio 0 1 2 700000\n# none\nratio 5 1 2 0") ∷ (scenario ++ codes "ratios\n") ∷ [])
    ≡ with_lines [] ∷ with_lines (record { frame = 0; from = 1; to = 2; ratio = 700000 } ∷ record { frame = 5; from = 1; to = 2; ratio = 0 } ∷ [])
    ∷ with_lines [] ∷ []
unfolding draft_after_line scenario_after_words scenario_line script_line step_line network_line ratios_after_words is_utf8 chars encode
whole = refl

faults : map (λ text. network_of (scenario ++ codes "ratios\n" ++ text)) (
    (codes "ratio 0 1 2 5\n" ++ 255 ∷ []) ∷ codes "ratios" ∷ codes "ratio 0 1 2" ∷ codes "ratio 0 1 2 05" ∷ codes "ratio 6 1 2 5" ∷ codes "ratio 0 1 1 5"
    ∷ codes "ratio 0 1 2 1000001" ∷ codes "ratio 0 1 3 5" ∷ codes "ratio 0 2 1 5" ∷ codes "\nratio 2 1 2 5\nratio 2 1 2 5" ∷ []
    )
    ≡ Err (11, NotUtf8) ∷ Err (10, BadWord) ∷ Err (10, BadWord) ∷ Err (10, BadNumber) ∷ Err (10, Range) ∷ Err (10, Range)
    ∷ Err (10, Range) ∷ Err (10, UnknownNode) ∷ Err (10, Order) ∷ Err (12, Order) ∷ []
unfolding draft_after_line scenario_after_words scenario_line script_line step_line network_line ratios_after_words is_utf8 chars encode
faults = refl

-- faults of the scenario come first
first_faults : map network_of (codes "frames 6\nratios\nratio 0 1 2 5" ∷ (scenario ++ codes "ratios 1\nratios\n") ∷ (scenario ++ codes "ratio 0 1 2 5\n") ∷ [])
    ≡ Err (2, Missing) ∷ Err (9, BadWord) ∷ Err (9, BadWord) ∷ []
unfolding draft_after_line scenario_after_words scenario_line script_line step_line network_line ratios_after_words is_utf8 chars encode
first_faults = refl
