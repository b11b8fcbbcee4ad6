-- A text of streams has no owner twice.
use Rattle.std.proofs.Common.{◌≡◌, ℕ, ◌+◌, ◌-◌, List, [], ◌∷◌, ◌++◌, false, not, Option, Some, None, Result, Ok, Err, IfOk, length, drop, take, get_or, inl}
use Rattle.std.proofs.Common.{inr, refl, sym, ◌∙◌, ap, subst, arith}
use Rattle.std.proofs.lemmas.Bool.{not-true, cases_lt}
use Rattle.std.proofs.lemmas.List.{length-append, take-append-le, get_or_append_left, get_or-append_right, take_all}
use Rattle.std.specs.List.{list_all}
use Rattle.std.specs.Option.{ok_or}
use Rattle.std.specs.Str.Lines.{lines}
use Rattle.lwb_base.specs.Messages.{code}
use Rattle.text_readers.specs.Faults.{draft_after_lines, in_line, unless_fault, ◌>>=◌}
use Rattle.text_readers.specs.Reading.{draft_after_line}
use Rattle.text_readers.specs.Words.{words, is_number}
use Rattle.text_readers.specs.declared.fault.FaultKind.{FaultKind}
use Rattle.text_readers.specs.declared.fault.FaultKind.TheVariants.{Range, Twice, Missing}
use Rattle.text_readers.proofs.AllowedLines.{passed, unless_keeps, spelled_keeps, at_ok}
use Rattle.text_readers.proofs.LinesRead.{line_keeps, lines_keep}
use Rattle.deadline_plan.specs.Admission.{PlanOfDeadlines, has_stream_of}
use Rattle.deadline_plan.specs.DeadlineText.{DraftedPlan, empty_plan_draft, are_in_range, deadline_rule_fault, with_deadline_line, plan_after_words}
use Rattle.deadline_plan.specs.DeadlineText.{deadline_line, plan_of_parts, whole_plan, plan_of}
use Rattle.deadline_plan.specs.declared.line.DeadlineLine.{DeadlineLine}
use Rattle.deadline_plan.specs.declared.line.DeadlineLine.TheVariants.{Slots, Frames, Stream}
use Rattle.deadline_plan.specs.declared.stream.DeadlineStream.{DeadlineStream}
use Rattle.run_commands.specs.DeadlineReport.{Differ}

abbrev DraftDiffers : DraftedPlan → Type 0
DraftDiffers d = Differ d.streams

-- a stream more, whose owner is new
differ_more : (ss : List DeadlineStream) (s : DeadlineStream) → Differ ss → has_stream_of ss s.owner ≡ false → Differ (ss ++ s ∷ [])
differ_more ss s differ new i t below at =
    elim (cases_lt i (length ss)) [
      | inl before ↦
          subst (λ (front : List DeadlineStream). has_stream_of front t.owner ≡ false) (sym (take-append-le i ss (s ∷ []) (omega arith)))
          (differ i t before (at ∙ get_or_append_left ss (s ∷ []) t i before))
      | inr behind ↦
          let last : i ≡ length ss = omega (arith, below, length-append ss (s ∷ []), behind) in
          let first : i - length ss ≡ 0 = omega (arith, last) in
          let own : t ≡ s = at ∙ get_or-append_right ss (s ∷ []) (length ss) i t refl behind ∙ ap (λ (k : ℕ). get_or (s ∷ []) k t) first in
          let front : take i (ss ++ s ∷ []) ≡ ss = take-append-le i ss (s ∷ []) (omega (arith, last)) ∙ take_all i ss (omega (arith, last)) in
          rw (front, own) new
    ]

line_differs : (d : DraftedPlan) (l : DeadlineLine) → DraftDiffers d → deadline_rule_fault d l ≡ None → DraftDiffers (with_deadline_line d l)
line_differs d (Slots n) differ none = differ
line_differs d (Frames n) differ none = differ
line_differs d (Stream node stream start period deadline) differ none =
    let range = passed (are_in_range node stream start period deadline) Range _ none in
    let fresh = passed (not (has_stream_of d.streams (code node stream))) Twice _ range.1 in
    differ_more d.streams (record { owner = code node stream; start = start; period = period; deadline = deadline }) differ (not-true _ fresh.0)

words_differ : (d : DraftedPlan) (ws : List (List ℕ)) → DraftDiffers d → IfOk (plan_after_words d ws) DraftDiffers
unfolding plan_after_words
words_differ d ws differ =
    spelled_keeps DraftDiffers (deadline_line ws) (λ _. list_all is_number (drop 1 ws)) (λ l. unless_fault (deadline_rule_fault d l) (with_deadline_line d l))
    (λ l is. unless_keeps DraftDiffers (deadline_rule_fault d l) (with_deadline_line d l) (λ none. line_differs d l differ none))

none_differ : Differ []
none_differ i s below at = absurd (omega (arith, below))

lines_differ : (d : DraftedPlan) (ls : List (List ℕ)) → draft_after_lines (draft_after_line plan_after_words) 1 empty_plan_draft ls ≡ Ok d → DraftDiffers d
lines_differ d ls is =
    lines_keep DraftDiffers (draft_after_line plan_after_words)
    (λ e line differ. line_keeps DraftDiffers plan_after_words e line differ (words_differ e (words line) differ)) 1 empty_plan_draft d ls none_differ is

-- and after the last
abbrev PlanDiffers : PlanOfDeadlines → Type 0
PlanDiffers p = Differ p.streams

finished_differs : (n : ℕ) (slots frames : Option ℕ) (ss : List DeadlineStream) → Differ ss
    → IfOk (in_line n (ok_or (plan_of_parts slots frames ss) Missing)) PlanDiffers
finished_differs n None frames ss differ = tt
finished_differs n (Some slots) None ss differ = tt
finished_differs n (Some slots) (Some frames) [] differ = tt
finished_differs n (Some slots) (Some frames) (s ∷ ss) differ = differ

plan_differs : (n : ℕ) (r : Result DraftedPlan (ℕ × FaultKind)) → ((d : DraftedPlan) → r ≡ Ok d → DraftDiffers d)
    → IfOk (r >>= (λ d. in_line n (whole_plan d))) PlanDiffers
plan_differs n (Ok d) differ = finished_differs n d.slots d.frames d.streams (differ d refl)
plan_differs n (Err e) differ = tt

pub owners_differ : (b : List ℕ) (p : PlanOfDeadlines) → plan_of b ≡ Ok p → Differ p.streams
owners_differ b p is =
    at_ok PlanDiffers (plan_of b) p is
    (plan_differs (length (lines b) + 1) (draft_after_lines (draft_after_line plan_after_words) 1 empty_plan_draft (lines b))
    (λ d read. lines_differ d (lines b) read))
