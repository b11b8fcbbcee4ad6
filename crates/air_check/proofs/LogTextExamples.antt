-- The definition of the log's lines, tried on small texts.
use Rattle.std.proofs.Common.{◌≡◌, ℕ, List, [], ◌∷◌, ◌++◌, Ok, Err, Result, refl, codes, map}
use Rattle.std.specs.Str.{is_utf8, chars}
use lib.Utf8.{encode}
use Rattle.text_readers.specs.declared.fault.FaultKind.{FaultKind}
use Rattle.text_readers.specs.declared.fault.FaultKind.TheVariants.{NotUtf8, BadWord, BadNumber, Range, UnknownNode}
use Rattle.air_log.specs.declared.entry.Entry.{Entry}
use Rattle.air_log.specs.declared.entry.Entry.TheVariants.{Sent, Heard, Tuned}
use Rattle.air_log.specs.FirstRound.{first_round}
use Rattle.air_check.specs.LogGrammar.{log_of, after_log_line, entries_after_words, log_line, sent_log_line, heard_log_line}

-- in any order and in either case, with blanks and skipped lines: comments, empty lines and those of reports
a_log : log_of first_round 12
    (codes "tuned 3 2 5 6\n\n# \ndeliver 9\n\tsent  0 1 1344064000 1344100864 0100ABCDef\r\nenergy " ++ 255 ∷ 32 ∷ 255 ∷ 10 ∷ codes "drop " ++ 255 ∷ 10 ∷ []
    ++ codes "heard 0 2 1 7 8 0a0b0c")
    ≡ Ok (Tuned (record { rank = 3; node = 2; start = 5; end = 6 })
    ∷ Sent (record { rank = 0; node = 1; start = 1344064000; end = 1344100864; packet = 1 ∷ 0 ∷ 171 ∷ 205 ∷ 239 ∷ [] })
    ∷ Heard (record { rank = 0; node = 2; from = 1; start = 7; end = 8; packet = 10 ∷ 11 ∷ 12 ∷ [] }) ∷ [])
unfolding after_log_line entries_after_words log_line sent_log_line heard_log_line is_utf8 chars encode
a_log = refl

-- after twelve lines above and one more: a line, and its fault
abbrev behind : List ℕ → Result (List Entry) (ℕ × FaultKind)
behind line = log_of first_round 12 (codes "tuned 0 1 0 1\n" ++ line)

words : map behind (
    (115 ∷ 255 ∷ []) ∷ codes "log" ∷ codes "delivery 1" ∷ codes "drops" ∷ codes "sent" ∷ codes "tuned 0 1 0" ∷ codes "tuned 0 1 0 1 010203"
    ∷ codes "sent 0 1 0 1" ∷ codes "sent 0 1 0 1 01020" ∷ codes "sent 0 1 0 1 -" ∷ codes "sent 01 1 0 1 01020g" ∷ codes "heard 0 1 0 1 010203"
    ∷ codes "heard 0 1 2 0 1 5 010203" ∷ []
    )
    ≡ Err (14, NotUtf8) ∷ Err (14, BadWord) ∷ Err (14, BadWord) ∷ Err (14, BadWord) ∷ Err (14, BadWord) ∷ Err (14, BadWord) ∷ Err (14, BadWord)
    ∷ Err (14, BadWord) ∷ Err (14, BadWord) ∷ Err (14, BadWord) ∷ Err (14, BadWord) ∷ Err (14, BadWord)
    ∷ Err (14, BadWord) ∷ []
unfolding after_log_line entries_after_words log_line sent_log_line heard_log_line is_utf8 chars encode
words = refl

numbers : map behind (
    codes "sent 4 1 00 1 01" ∷ codes "heard 0 1 2 0 -1 010203" ∷ codes "tuned 0 201 0 12345678901234"
    ∷ codes "tuned 4 1 0 1" ∷ codes "tuned 0 0 0 1" ∷ codes "sent 0 201 0 1 010203" ∷ codes "heard 0 9 201 0 1 010203" ∷ codes "tuned 0 9 1 1"
    ∷ codes "sent 0 9 2 1 010203" ∷ codes "sent 0 1 0 1 0102" ∷ []
    )
    ≡ Err (14, BadNumber) ∷ Err (14, BadNumber) ∷ Err (14, BadNumber)
    ∷ Err (14, Range) ∷ Err (14, Range) ∷ Err (14, Range) ∷ Err (14, Range) ∷ Err (14, Range)
    ∷ Err (14, Range) ∷ Err (14, Range) ∷ []
unfolding after_log_line entries_after_words log_line sent_log_line heard_log_line is_utf8 chars encode
numbers = refl

unknown : map behind (codes "tuned 0 3 0 1" ∷ codes "sent 0 200 0 1 010203" ∷ codes "heard 0 3 1 0 1 010203" ∷ codes "heard 0 1 3 0 1 010203" ∷ [])
    ≡ Err (14, UnknownNode) ∷ Err (14, UnknownNode) ∷ Err (14, UnknownNode) ∷ Err (14, UnknownNode) ∷ []
unfolding after_log_line entries_after_words log_line sent_log_line heard_log_line is_utf8 chars encode
unknown = refl
