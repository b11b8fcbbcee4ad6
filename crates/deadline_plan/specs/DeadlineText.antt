-- The text of a plan: what its lines say, and the first line that is rejected.
use Rattle.std.specs.Prelude.{◌≤◌, ℕ, ◌+◌, List, [], ◌∷◌, ◌++◌, Bool, not, ◌&&◌, nat_le, nat_lt, if◌then◌else◌, Some}
use Rattle.std.specs.Prelude.{None, Option, is_none, Result, length, drop, codes, IfSome, All}
use Rattle.std.specs.List.{list_all}
use Rattle.std.specs.Option.{ok_or}
use Rattle.std.specs.Str.{bytes_eq}
use Rattle.std.specs.Str.Lines.{lines}
use Rattle.lwb_base.specs.declared.limits.TheConstants.{DATA_SLOTS, GREATEST_ID}
use Rattle.lwb_base.specs.Messages.{code}
use Rattle.text_readers.specs.Faults.{first_fault, unless_fault, spelled, in_line, ◌>>=◌, draft_after_lines}
use Rattle.text_readers.specs.Reading.{draft_after_line}
use Rattle.text_readers.specs.Words.{word, is_number, number_at, line_of_words}
use Rattle.text_readers.specs.declared.fault.FaultKind.{FaultKind}
use Rattle.text_readers.specs.declared.fault.FaultKind.TheVariants.{Range, Twice, TooMany, Missing}
use Rattle.deadline_plan.specs.Jobs.{IsDeadlineStream}
use Rattle.deadline_plan.specs.Admission.{PlanOfDeadlines, has_stream_of}
use Rattle.deadline_plan.specs.declared.line.DeadlineLine.{DeadlineLine}
use Rattle.deadline_plan.specs.declared.line.DeadlineLine.TheVariants.{Slots, Frames, Stream}
use Rattle.deadline_plan.specs.declared.stream.DeadlineStream.{DeadlineStream}
use Rattle.lwb_packets.specs.Ranges.{between}

-- what the words say, if they are those of a line
unfoldable pub deadline_line : List (List ℕ) → Option DeadlineLine
deadline_line ws =
    if bytes_eq (word ws 0) (codes "slots") then line_of_words 2 ws (Slots (number_at ws 1))
    else if bytes_eq (word ws 0) (codes "frames") then line_of_words 2 ws (Frames (number_at ws 1))
    else if bytes_eq (word ws 0) (codes "stream")
    then line_of_words 6 ws (Stream (number_at ws 1) (number_at ws 2) (number_at ws 3) (number_at ws 4) (number_at ws 5))
    else None

-- what the lines above say
pub record DraftedPlan : Type 0 where
  pub slots : Option ℕ
  pub frames : Option ℕ
  pub streams : List DeadlineStream

abbrev pub empty_plan_draft : DraftedPlan
empty_plan_draft = record { slots = None; frames = None; streams = [] }

abbrev pub are_in_range : ℕ → ℕ → ℕ → ℕ → ℕ → Bool
are_in_range node stream start period deadline =
    between 1 GREATEST_ID node && (nat_le stream 3 && (nat_le start 1023 && (between 1 64 period && between 1 64 deadline)))

-- the fault of a line that is spelled right
abbrev pub deadline_rule_fault : DraftedPlan → DeadlineLine → Option FaultKind
deadline_rule_fault d (Slots n) = first_fault ((between 1 DATA_SLOTS n, Range) ∷ (is_none d.slots, Twice) ∷ [])
deadline_rule_fault d (Frames n) = first_fault ((between 1 1024 n, Range) ∷ (is_none d.frames, Twice) ∷ [])
deadline_rule_fault d (Stream node stream start period deadline) =
    first_fault ((are_in_range node stream start period deadline, Range) ∷ (not (has_stream_of d.streams (code node stream)), Twice) ∷ (
      nat_lt
          (length d.streams) 32,
      TooMany,
    ) ∷ [])

-- what the lines say with an allowed line more
abbrev pub with_deadline_line : DraftedPlan → DeadlineLine → DraftedPlan
with_deadline_line d (Slots n) = record d { slots = Some n }
with_deadline_line d (Frames n) = record d { frames = Some n }
with_deadline_line d (Stream node stream start period deadline) =
    record d { streams = d.streams ++ record { owner = code node stream; start = start; period = period; deadline = deadline } ∷ [] }

-- after a line of these words, or its fault. Every word after the first is a number
unfoldable pub plan_after_words : DraftedPlan → List (List ℕ) → Result DraftedPlan FaultKind
plan_after_words d ws = do
  l ← spelled (deadline_line ws) (λ _. list_all is_number (drop 1 ws))
  unless_fault (deadline_rule_fault d l) (with_deadline_line d l)

-- what a whole text says, which has slots, frames and a stream
abbrev pub plan_of_parts : Option ℕ → Option ℕ → List DeadlineStream → Option PlanOfDeadlines
plan_of_parts (Some slots) (Some frames) (s ∷ ss) = Some (record { slots = slots; frames = frames; streams = s ∷ ss })
plan_of_parts None frames ss = None
plan_of_parts (Some slots) None ss = None
plan_of_parts (Some slots) (Some frames) [] = None

abbrev pub whole_plan : DraftedPlan → Result PlanOfDeadlines FaultKind
whole_plan d = ok_or (plan_of_parts d.slots d.frames d.streams) Missing

-- what the bytes say, or their first fault and its line. What is missing is missing after the last line
abbrev pub plan_of : List ℕ → Result PlanOfDeadlines (ℕ × FaultKind)
plan_of bytes = do
  d ← draft_after_lines (draft_after_line plan_after_words) 1 empty_plan_draft (lines bytes)
  in_line (length (lines bytes) + 1) (whole_plan d)

-- Internal: what is true of each draft, and of each text.
pub record IsPlanDraft (d : DraftedPlan) : Type 0 where
  pub slots : IfSome d.slots (λ n. (1 ≤ n) × (n ≤ DATA_SLOTS))
  pub frames : IfSome d.frames (λ n. (1 ≤ n) × (n ≤ 1024))
  pub streams : All IsDeadlineStream d.streams
  pub few : length d.streams ≤ 32

pub record IsText (p : PlanOfDeadlines) : Type 0 where
  pub slots : (1 ≤ p.slots) × (p.slots ≤ DATA_SLOTS)
  pub frames : (1 ≤ p.frames) × (p.frames ≤ 1024)
  pub streams : All IsDeadlineStream p.streams
  pub some : 1 ≤ length p.streams
  pub few : length p.streams ≤ 32
