-- Streams that are decided one after the other.
use Rattle.std.proofs.Common.{◌≡◌, ℕ, ◌+◌, ◌<◌, ◌≤◌, List, [], ◌∷◌, ◌++◌, Bool, true, false, ◌==◌, ◌||◌, length, take, get_or, Ok, refl, sym, ◌∙◌, ap, subst}
use Rattle.std.proofs.Common.{arith}
use Rattle.std.proofs.lemmas.Bool.{false≢true, or_parts}
use Rattle.std.proofs.lemmas.List.{length-append, take_more}
use Rattle.deadline_plan.specs.Admission.{PlanOfDeadlines, has_stream_of, IsAdmission, after_admit}
use Rattle.deadline_plan.specs.declared.admission.Admit.{Admit}
use Rattle.deadline_plan.specs.declared.admission.Admit.TheVariants.{Yes, Twice, Full, Over}
use Rattle.deadline_plan.specs.declared.stream.DeadlineStream.{DeadlineStream}
use Rattle.run_commands.specs.DeadlineReport.{Decides, Decided, Differ}

-- of an owner that is not admitted yet and has room, the answer is one of these two
pub decides : (p : PlanOfDeadlines) (s : DeadlineStream) (a : Admit) → has_stream_of p.streams s.owner ≡ false → length p.streams < 32 → IsAdmission p s a
    → Decides p s a
decides p s Yes new room is = is.2
decides p s (Over from until demand) new room is = is.2
decides p s Twice new room is = absurd (false≢true (sym new ∙ is))
decides p s Full new room is = absurd (omega (arith, is.1, room))

-- a stream more
pub decided_more : (p : PlanOfDeadlines) (answers : List (DeadlineStream × Admit)) (q r : PlanOfDeadlines) (s : DeadlineStream) (a : Admit)
    → Decided p answers q → Decides q s a → r ≡ after_admit q s (Ok a) → Decided p (answers ++ (s, a) ∷ []) r
decided_more p [] q r s a is one next = (subst (λ (x : PlanOfDeadlines). Decides x s a) is one, next ∙ ap (λ (x : PlanOfDeadlines). after_admit x s (Ok a)) is)
decided_more p (b ∷ answers) q r s a is one next = (is.0, decided_more (after_admit p b.0 (Ok b.1)) answers q r s a is.1 one next)

-- an owner is among streams, or is that of one more
pub has_more : (ss : List DeadlineStream) (s : DeadlineStream) (owner : ℕ) → has_stream_of (ss ++ s ∷ []) owner ≡ (has_stream_of ss owner || (s.owner == owner))
has_more [] s owner = last (s.owner == owner)
  where
    last : (b : Bool) → (b || false) ≡ b
    last true = refl
    last false = refl
has_more (t ∷ ss) s owner = by_first (t.owner == owner) (has_stream_of (ss ++ s ∷ []) owner) (has_stream_of ss owner) (s.owner == owner) (has_more ss s owner)
  where
    by_first : (first a b c : Bool) → a ≡ (b || c) → (first || a) ≡ ((first || b) || c)
    by_first true a b c same = refl
    by_first false a b c same = same

-- who is admitted after an answer was before it, or is this stream
pub not_admitted : (q : PlanOfDeadlines) (s : DeadlineStream) (a : Admit) (owner : ℕ) → has_stream_of q.streams owner ≡ false → (s.owner == owner) ≡ false
    → has_stream_of (after_admit q s (Ok a)).streams owner ≡ false
not_admitted q s Yes owner before other = has_more q.streams s owner ∙ rw (before, other) refl
not_admitted q s Twice owner before other = before
not_admitted q s Full owner before other = before
not_admitted q s (Over from until demand) owner before other = before

pub few_admitted : (q : PlanOfDeadlines) (s : DeadlineStream) (a : Admit) (n : ℕ) → length q.streams ≤ n → length (after_admit q s (Ok a)).streams ≤ n + 1
few_admitted q s Yes n few = omega (arith, length-append q.streams (s ∷ []))
few_admitted q s Twice n few = omega arith
few_admitted q s Full n few = omega arith
few_admitted q s (Over from until demand) n few = omega arith

-- where the first streams have no such owner, the next of streams that differ is new
pub new_behind : (ss : List DeadlineStream) (i : ℕ) (s : DeadlineStream) (admitted : List DeadlineStream) → i < length ss → s ≡ get_or ss i s → Differ ss
    → ((owner : ℕ) → has_stream_of (take i ss) owner ≡ false → has_stream_of admitted owner ≡ false) → has_stream_of admitted s.owner ≡ false
new_behind ss i s admitted below at differ new = new s.owner (differ i s below at)

pub new_after : (ss : List DeadlineStream) (i : ℕ) (s : DeadlineStream) (q : PlanOfDeadlines) (a : Admit) → i < length ss → s ≡ get_or ss i s
    → ((owner : ℕ) → has_stream_of (take i ss) owner ≡ false → has_stream_of q.streams owner ≡ false) → (owner : ℕ)
    → has_stream_of (take (i + 1) ss) owner ≡ false
    → has_stream_of (after_admit q s (Ok a)).streams owner ≡ false
new_after ss i s q a below at new owner none =
    let more : take (i + 1) ss ≡ take i ss ++ s ∷ [] = take_more ss i s below ∙ ap (λ (x : DeadlineStream). take i ss ++ x ∷ []) (sym at) in
    let neither = or_parts (has_stream_of (take i ss) owner) (s.owner == owner)
    (sym (has_more (take i ss) s owner) ∙ ap (λ (l : List DeadlineStream). has_stream_of l owner) (sym more) ∙ none) in
    not_admitted q s a owner (new owner neither.0) neither.1
