-- The definition of the text, tried on small texts.
use Rattle.std.proofs.Common.{◌≡◌, ℕ, List, [], ◌∷◌, ◌++◌, Ok, Err, Result, refl, codes, map}
use Rattle.std.specs.Str.{is_utf8, chars}
use lib.Utf8.{encode}
use Rattle.text_readers.specs.declared.fault.FaultKind.{FaultKind}
use Rattle.text_readers.specs.declared.fault.FaultKind.TheVariants.{NotUtf8, BadWord, BadNumber, Range, Twice, Missing}
use Rattle.deadline_plan.specs.Admission.{PlanOfDeadlines}
use Rattle.text_readers.specs.Reading.{draft_after_line}
use Rattle.deadline_plan.specs.DeadlineText.{plan_of, plan_after_words, deadline_line}

-- in any order, with a start past the last frame, blanks, a skipped line and no last line feed
a_text : plan_of (codes "stream 2 0 0 2 2\n# \nslots 1\r\n\tframes  4\nstream 3 1 1023 64 64")
    ≡ Ok (record {
      slots = 1;
      frames = 4;
      streams = record { owner = 8; start = 0; period = 2; deadline = 2 } ∷ record { owner = 13; start = 1023; period = 64; deadline = 64 } ∷ [];
    })
unfolding draft_after_line plan_after_words deadline_line is_utf8 chars encode
a_text = refl

-- after three lines: a line, and its fault
abbrev behind : List ℕ → Result PlanOfDeadlines (ℕ × FaultKind)
behind line = plan_of (codes "slots 1\nframes 4\nstream 2 0 0 2 2\n" ++ line)

faults : map behind (
    (115 ∷ 255 ∷ []) ∷ codes "slot 1" ∷ codes "slots" ∷ codes "frames 1 2" ∷ codes "stream 2 0 0 2" ∷ codes "node 2 0"
    ∷ codes "slots 01" ∷ codes "stream 2 0 0 2 -2" ∷ codes "frames 2\r"
    ∷ codes "slots 0" ∷ codes "slots 41" ∷ codes "frames 1025" ∷ codes "stream 0 0 0 1 1" ∷ codes "stream 201 0 0 1 1" ∷ codes "stream 2 4 0 1 1"
    ∷ codes "stream 2 1 1024 1 1" ∷ codes "stream 2 1 0 0 1" ∷ codes "stream 2 1 0 65 1" ∷ codes "stream 2 1 0 1 0" ∷ codes "stream 2 1 0 1 65"
    ∷ codes "slots 1" ∷ codes "frames 4" ∷ codes "stream 2 0 9 9 9" ∷ []
    )
    ≡ Err (4, NotUtf8) ∷ Err (4, BadWord) ∷ Err (4, BadWord) ∷ Err (4, BadWord) ∷ Err (4, BadWord) ∷ Err (4, BadWord)
    ∷ Err (4, BadNumber) ∷ Err (4, BadNumber) ∷ Err (4, BadNumber)
    ∷ Err (4, Range) ∷ Err (4, Range) ∷ Err (4, Range) ∷ Err (4, Range) ∷ Err (4, Range) ∷ Err (4, Range)
    ∷ Err (4, Range) ∷ Err (4, Range) ∷ Err (4, Range) ∷ Err (4, Range) ∷ Err (4, Range)
    ∷ Err (4, Twice) ∷ Err (4, Twice) ∷ Err (4, Twice) ∷ []
unfolding draft_after_line plan_after_words deadline_line is_utf8 chars encode
faults = refl

missing : map (λ (text : List ℕ). plan_of text) ([] ∷ codes "slots 1\nframes 4\n" ∷ codes "frames 4\nstream 2 0 0 2 2" ∷ codes
    "slots 1\nstream 2 0 0 2 2\n\n" ∷ [])
    ≡ Err (1, Missing) ∷ Err (3, Missing) ∷ Err (3, Missing) ∷ Err (4, Missing) ∷ []
unfolding draft_after_line plan_after_words deadline_line is_utf8 chars encode
missing = refl
