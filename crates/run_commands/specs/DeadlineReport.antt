-- The report of a plan: what became of each stream that asked for admission, and the rounds of those that were admitted.
use Rattle.std.specs.Prelude.{◌≡◌, ◌<◌, ℕ, List, [], ◌∷◌, ◌++◌, false, codes, flat_map, map, take, length, get_or, Ok}
use Rattle.std.specs.List.{enumerate_from}
use Rattle.lwb_base.specs.Messages.{node_of, stream_of}
use Rattle.text_writers.specs.Lines.{line_text, numbered}
use Rattle.deadline_plan.specs.Admission.{PlanOfDeadlines, has_stream_of, with_last, Fit, DontFit, after_admit, rounds_of, grants_of}
use Rattle.deadline_plan.specs.Grants.{AreGrantedInTime}
use Rattle.deadline_plan.specs.Jobs.{jobs}
use Rattle.deadline_plan.specs.declared.admission.Admit.{Admit}
use Rattle.deadline_plan.specs.declared.admission.Admit.TheVariants.{Yes, Twice, Full, Over}
use Rattle.deadline_plan.specs.declared.stream.DeadlineStream.{DeadlineStream}

-- a stream is admitted where no job of it and of those admitted before goes without a slot, else rejected by the first pair
-- of frames that is over. A text has at most 32 streams and no owner twice, so no other answer comes
abbrev pub Decides : PlanOfDeadlines → DeadlineStream → Admit → Type 0
Decides p s Yes = Fit p (with_last p.streams s)
Decides p s (Over from until demand) = DontFit p (with_last p.streams s) from until demand
Decides p s Twice = ⊥
Decides p s Full = ⊥

-- streams one after the other, each with its answer, and the plan of those that were admitted
abbrev pub Decided : PlanOfDeadlines → List (DeadlineStream × Admit) → PlanOfDeadlines → Type 0
Decided p [] q = q ≡ p
Decided p (a ∷ more) q = Decides p a.0 a.1 × Decided (after_admit p a.0 (Ok a.1)) more q

-- `admit NODE S`, or `refuse NODE S FROM UNTIL DEMAND`
abbrev pub decision_line : DeadlineStream → Admit → List ℕ
decision_line s Yes = line_text (numbered (codes "admit") (node_of s.owner ∷ stream_of s.owner ∷ []))
decision_line s (Over from until demand) = line_text (numbered (codes "refuse") (node_of s.owner ∷ stream_of s.owner ∷ from ∷ until ∷ demand ∷ []))
decision_line s Twice = []
decision_line s Full = []

abbrev pub answer_line : DeadlineStream × Admit → List ℕ
answer_line a = decision_line a.0 a.1

-- `round FRAME CODE ..`, for a frame with an owner
abbrev pub owners_line : ℕ → List ℕ → List ℕ
owners_line frame [] = []
owners_line frame (c ∷ cs) = line_text (numbered (codes "round") (frame ∷ c ∷ cs))

abbrev pub round_line : ℕ × List ℕ → List ℕ
round_line r = owners_line r.0 r.1

abbrev pub deadline_lines : List (DeadlineStream × Admit) → List (List ℕ) → List ℕ
deadline_lines answers rounds = flat_map answer_line answers ++ flat_map round_line (enumerate_from 0 rounds)

abbrev pub stream_of_answer : DeadlineStream × Admit → DeadlineStream
stream_of_answer a = a.0

-- the plan of a text before its first stream
abbrev pub no_streams : PlanOfDeadlines → PlanOfDeadlines
no_streams t = record t { streams = [] }

-- the streams of a text one after the other, and the rounds of those that are admitted. Each job of these has a slot in time
pub record IsDeadlineReport (t : PlanOfDeadlines) (text : List ℕ) : Type 0 where
  pub answers : List (DeadlineStream × Admit)
  pub plan : PlanOfDeadlines
  pub streams : map stream_of_answer answers ≡ t.streams
  pub decided : Decided (no_streams t) answers plan
  pub kept : AreGrantedInTime (jobs plan.frames plan.streams) (grants_of plan)
  pub is : text ≡ deadline_lines answers (rounds_of plan)

-- Internal: no owner is there twice
abbrev pub Differ : List DeadlineStream → Type 0
Differ ss = (i : ℕ) (s : DeadlineStream) → i < length ss → s ≡ get_or ss i s → has_stream_of (take i ss) s.owner ≡ false
