-- The definition of the whole text, tried on small texts.
use Rattle.std.proofs.Common.{◌≡◌, ℕ, List, [], ◌∷◌, ◌++◌, Ok, Err, refl, codes, map}
use Rattle.std.specs.Str.{is_utf8, chars}
use lib.Utf8.{encode}
use Rattle.text_readers.specs.Reading.{draft_after_line}
use Rattle.text_readers.specs.declared.fault.FaultKind.TheVariants.{BadWord, Missing, Order, UnknownNode}
use Rattle.scenario_text.specs.Network.{network_line}
use Rattle.scenario_text.specs.ScriptGrammar.{script_line, step_line}
use Rattle.scenario_text.specs.ScenarioGrammar.{scenario_after_words, scenario_line}
use Rattle.air_log.specs.declared.entry.Entry.{Entry}
use Rattle.air_log.specs.declared.entry.Entry.TheVariants.{Tuned}
use Rattle.air_log.specs.FirstRound.{first_round}
use Rattle.air_check.specs.CheckedText.{checked_text}
use Rattle.air_check.specs.LogGrammar.{after_log_line, entries_after_words as log_words, log_line, sent_log_line, heard_log_line}

abbrev scenario : List ℕ
scenario = codes "frames 6\nsends 2\nnode 1 0\nnode 2 0\nhost 0 1\npair 1 2\non 0 1\non 0 2\n"

abbrev tuned : Entry
tuned = Tuned (record { rank = 0; node = 2; start = 5; end = 6 })

whole : map checked_text ((scenario ++ codes "\tlog \r\ntuned 0 2 5 6") ∷ (scenario ++ codes "log") ∷ [])
    ≡ Ok (first_round, tuned ∷ []) ∷ Ok (first_round, []) ∷ []
unfolding draft_after_line scenario_after_words scenario_line script_line step_line network_line after_log_line log_words log_line sent_log_line
    heard_log_line is_utf8 chars encode
whole = refl

faults : map checked_text (
    [] ∷ codes "log\n" ∷ scenario ∷ (scenario ++ codes "# log\nlog 1") ∷ (scenario ++ codes "log\n\nlog\n") ∷ (scenario ++ codes "log\ntuned 0 3 5 6\n")
    ∷ (codes "frames 6\nsends 2\nlog\nnode 1 0\n") ∷ (scenario ++ codes "profile 1\nlog\nnothing\n") ∷ []
    )
    ≡ Err (1, Missing) ∷ Err (1, Missing) ∷ Err (9, Missing) ∷ Err (10, BadWord) ∷ Err (11, BadWord) ∷ Err (10, UnknownNode)
    ∷ Err (3, Missing) ∷ Err (9, Order) ∷ []
unfolding draft_after_line scenario_after_words scenario_line script_line step_line network_line after_log_line log_words log_line sent_log_line
    heard_log_line is_utf8 chars encode
faults = refl
