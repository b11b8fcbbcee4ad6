-- The jobs of streams: which there are, and how many.
use Rattle.std.proofs.Common.{◌≡◌, ℕ, zero, suc, ◌+◌, ◌-◌, ◌*◌, ◌/◌, ◌%◌, ◌<◌, ◌≤◌, List, [], ◌∷◌, ◌++◌, Bool, true, false, ◌&&◌, ◌==◌}
use Rattle.std.proofs.Common.{nat_le, cond, count_by, filter, map, length, refl, sym, ◌∙◌, ap, subst, arith, inl, inr, All}
use Rattle.std.proofs.Math.Nat.{mul-le-mul_left}
use Rattle.std.proofs.lemmas.Bool.{cond_both, cases_Bool, cases_order, and_parts, and_from, leb-true, le-leb, eqb-true, eq-eqb, ne_eqb, false_from_ne_true}
use Rattle.std.proofs.lemmas.Bool.{false≢true}
use Rattle.std.proofs.lemmas.List.Concat.{flat_map-cons}
use Rattle.std.proofs.lemmas.List.Elements.{All-from_recursion}
use Rattle.std.proofs.lemmas.Nat.{mod-mul-add}
use Rattle.std.specs.List.{AllByRecursion, range_with_len}
use Rattle.lwb_base.proofs.Orders.{same_factor}
use Rattle.deadline_plan.specs.declared.job.Job.{Job}
use Rattle.deadline_plan.specs.declared.stream.DeadlineStream.{DeadlineStream}
use Rattle.deadline_plan.specs.Jobs.{IsDeadlineStream, job, jobs_of, jobs}
use Rattle.deadline_plan.specs.Load.{has_job}
use Rattle.deadline_plan.proofs.Counts.{one, count_cons, count_append, count_none, count_same}
use Rattle.deadline_plan.proofs.Placed.{all_of}

abbrev by_last : ℕ → Job → Bool
by_last frames j = nat_le j.end frames

-- a count of some jobs of a stream is a count of their numbers
count_numbers : (p : Job → Bool) (frames : ℕ) (s : DeadlineStream) (i n : ℕ)
    → count_by p (filter (by_last frames) (map (job s) (range_with_len i n))) ≡ count_by (λ m. by_last frames (job s m) && p (job s m)) (range_with_len i n)
count_numbers p frames s i zero = refl
count_numbers p frames s i (suc n) =
    let rest = count_numbers p frames s (i + 1) n in
    let tail : List Job = filter (by_last frames) (map (job s) (range_with_len (i + 1) n)) in
    let more = count_cons (λ m. by_last frames (job s m) && p (job s m)) i (range_with_len (i + 1) n) in
    counted (by_last frames (job s i)) p (job s i) tail _ rest ∙ sym more
  where
    counted : (b : Bool) (p : Job → Bool) (j : Job) (tail : List Job) (n : ℕ) → count_by p tail ≡ n → count_by p (cond b (j ∷ tail) tail) ≡ one (b && p j) + n
    counted true p j tail n is = count_cons p j tail ∙ ap (λ (k : ℕ). one (p j) + k) is
    counted false p j tail n is = omega (arith, is)

count_past : (k i n : ℕ) → k < i → count_by (λ m. m == k) (range_with_len i n) ≡ 0
count_past k i zero past = refl
count_past k i (suc n) past =
    let not : one (i == k) ≡ 0 = ap one (ne_eqb i k (λ is. omega arith)) in
    omega (arith, count_cons (λ m. m == k) i (range_with_len (i + 1) n), count_past k (i + 1) n (omega arith), not)

count_once : (k i n : ℕ) → i ≤ k → k < i + n → count_by (λ m. m == k) (range_with_len i n) ≡ 1
count_once k i zero low high = absurd (omega arith)
count_once k i (suc n) low high =
    let more = count_cons (λ m. m == k) i (range_with_len (i + 1) n) in
    elim (cases_order i k) [
      | inl is ↦ (let here : one (i == k) ≡ 1 = ap one (eq-eqb i k is) in omega (arith, more, here, count_past k (i + 1) n (omega arith)))
      | inr other ↦ elim other [
        | inl before ↦ (let here : one (i == k) ≡ 0 = ap one (ne_eqb i k (λ is. omega arith))
            in omega (arith, more, here, count_once k (i + 1) n (omega arith) (omega arith)))
        | inr past ↦ absurd (omega arith)
      ]
    ]

abbrev at : ℕ → ℕ → Job → Bool
at a b j = (j.release == a) && (j.end == b)

module _ (s : DeadlineStream) (is_stream : IsDeadlineStream s) (frames a b : ℕ) (within : b ≤ frames) where
  abbrev test : ℕ → Bool
  test m = nat_le (s.start + m * s.period + s.deadline) frames && at a b (job s m)

  -- the number of the job of which the release is a
  tested : (m : ℕ) → test m ≡ true → (s.start + m * s.period ≡ a) × (a + s.deadline ≡ b)
  tested m is =
      let both = and_parts (nat_le (s.start + m * s.period + s.deadline) frames) (at a b (job s m)) is in
      let parts = and_parts ((s.start + m * s.period) == a) ((s.start + m * s.period + s.deadline) == b) both.1 in
      let release = eqb-true (s.start + m * s.period) a parts.0 in
      let end = eqb-true (s.start + m * s.period + s.deadline) b parts.1 in
      (release, omega arith)

  tests : (m : ℕ) → s.start + m * s.period ≡ a → a + s.deadline ≡ b → test m ≡ true
  tests m release end =
      and_from (nat_le (s.start + m * s.period + s.deadline) frames) _ (le-leb _ _ (omega arith)) (and_from ((s.start + m * s.period) == a) _
      (eq-eqb _ _ release) (eq-eqb _ _ (omega arith)))

  has_from : (m : ℕ) → s.start + m * s.period ≡ a → a + s.deadline ≡ b → has_job s a b ≡ true
  has_from m release end =
      let none : (a - s.start) % s.period ≡ 0 = ap (λ (n : ℕ). n % s.period) (omega arith) ∙ mod-mul-add m s.period 0 is_stream.some_period in
      and_from (nat_le s.start a) _ (le-leb _ _ (omega arith)) (and_from ((a - s.start) % s.period == 0) _ (eq-eqb _ _ none) (eq-eqb _ _ end))

  counts_one : has_job s a b ≡ true → count_by test (range_with_len 0 frames) ≡ 1
  counts_one has =
      let first = and_parts (nat_le s.start a) _ has in
      let second = and_parts ((a - s.start) % s.period == 0) ((a + s.deadline) == b) first.1 in
      let low = leb-true s.start a first.0 in
      let none = eqb-true ((a - s.start) % s.period) 0 second.0 in
      let end = eqb-true (a + s.deadline) b second.1 in
      let k : ℕ = (a - s.start) / s.period in
      let period = is_stream.some_period in
      let deadline = is_stream.some_deadline in
      let whole : s.period * k + (a - s.start) % s.period ≡ a - s.start = omega arith in
      let release : s.start + k * s.period ≡ a = omega (arith, whole, none, low) in
      let below = mul-le-mul_left k period in
      let few : k < 0 + frames = omega (arith, below, release, end, within, deadline) in
      count_same (λ (m : ℕ). Unit {0}) test (λ m. m == k)
      (λ m u. elim (cases_Bool (test m)) [
        | inl is_job ↦ (let t = tested m is_job in is_job ∙ sym (eq-eqb m k (same_factor m k s.period period (omega (arith, t.0, release)))))
        | inr no_job ↦ no_job ∙ sym (ne_eqb m k (λ same. false≢true (sym no_job ∙ tests m (ap (λ (x : ℕ). s.start + x * s.period) same ∙ release) end)))
      ])
      (range_with_len 0 frames) (all_of (λ m. Unit {0}) (λ m. tt) (range_with_len 0 frames))
      ∙ count_once k 0 frames (omega arith) few

  counts_none : has_job s a b ≡ false → count_by test (range_with_len 0 frames) ≡ 0
  counts_none hasnt =
      count_none test (range_with_len 0 frames)
      (all_of (λ m. test m ≡ false) (λ m. false_from_ne_true (test m) (λ is_job. (let t = tested m is_job in false≢true (sym hasnt ∙ has_from m t.0 t.1))))
      (range_with_len 0 frames))

  count_stream : count_by (at a b) (jobs_of frames s) ≡ one (has_job s a b)
  count_stream =
      count_numbers (at a b) frames s 0 frames
      ∙ elim (cases_Bool (has_job s a b)) [ inl has ↦ counts_one has ∙ sym (ap one has) | inr hasnt ↦ counts_none hasnt ∙ sym (ap one hasnt) ]

pub count_streams : (frames a b : ℕ) → b ≤ frames → (ss : List DeadlineStream) → AllByRecursion IsDeadlineStream ss
    → count_by (at a b) (jobs frames ss) ≡ count_by (λ s. has_job s a b) ss
count_streams frames a b within [] all = refl
count_streams frames a b within (s ∷ ss) all =
    let split : count_by (at a b) (jobs frames (s ∷ ss)) ≡ count_by (at a b) (jobs_of frames s ++ jobs frames ss) = ap (λ (l : List Job). count_by
    (at a b) l) (flat_map-cons (jobs_of frames) s ss) in
    omega (
      arith,
      split,
      count_append (at a b) (jobs_of frames s) (jobs frames ss),
      count_stream s all.0 frames a b within,
      count_streams frames a b within ss all.1,
      count_cons (λ s. has_job s a b) s ss,
    )

-- a stream has at most one job a frame
count_range : (p : ℕ → Bool) (i n : ℕ) → count_by p (range_with_len i n) ≤ n
count_range p i zero = omega arith
count_range p i (suc n) =
    let more = count_cons p i (range_with_len (i + 1) n) in
    let here = at_most (p i) in
    omega (arith, more, here, count_range p (i + 1) n)
  where
    at_most : (b : Bool) → one b ≤ 1
    at_most true = omega arith
    at_most false = omega arith

pub few_jobs_in_all : (p : Job → Bool) (frames : ℕ) → frames ≤ 1024 → (ss : List DeadlineStream) → count_by p (jobs frames ss) ≤ 1024 * length ss
few_jobs_in_all p frames few [] = omega arith
few_jobs_in_all p frames few (s ∷ ss) =
    let split : count_by p (jobs frames (s ∷ ss)) ≡ count_by p (jobs_of frames s ++ jobs frames ss) = ap (λ (l : List Job). count_by p l) (flat_map-cons
    (jobs_of frames) s ss) in
    omega (
      arith,
      split,
      count_append p (jobs_of frames s) (jobs frames ss),
      count_numbers p frames s 0 frames,
      count_range (λ m. by_last frames (job s m) && p (job s m)) 0 frames,
      few_jobs_in_all p frames few ss,
      few,
    )

-- each job is released before its end, which is not past the last frame
abbrev pub InFrames : ℕ → Job → Type 0
InFrames frames j = (j.release < j.end) × (j.end ≤ frames)

numbers_in_frames : (frames : ℕ) (s : DeadlineStream) → IsDeadlineStream s → (i n : ℕ) → AllByRecursion (InFrames frames) (filter (by_last frames) (map (job s)
    (range_with_len i n)))
numbers_in_frames frames s is i zero = tt
numbers_in_frames frames s is i (suc n) =
    let rest = numbers_in_frames frames s is (i + 1) n in
    let tail : List Job = filter (by_last frames) (map (job s) (range_with_len (i + 1) n)) in
    let deadline = is.some_deadline in
    cond_both (by_last frames (job s i)) (job s i ∷ tail) tail (λ l. AllByRecursion (InFrames frames) l) (λ by. ((omega arith, leb-true _ _ by), rest))
    (λ not. rest)

all_append : (P : Job → Type 0) (js ks : List Job) → AllByRecursion P js → AllByRecursion P ks → AllByRecursion P (js ++ ks)
all_append P [] ks all others = others
all_append P (j ∷ js) ks all others = (all.0, all_append P js ks all.1 others)

pub in_frames : (frames : ℕ) (ss : List DeadlineStream) → AllByRecursion IsDeadlineStream ss → AllByRecursion (InFrames frames) (jobs frames ss)
in_frames frames [] all = tt
in_frames frames (s ∷ ss) all =
    subst (λ (l : List Job). AllByRecursion (InFrames frames) l) (sym (flat_map-cons (jobs_of frames) s ss))
    (all_append (InFrames frames) (jobs_of frames s) (jobs frames ss) (numbers_in_frames frames s all.0 0 frames) (in_frames frames ss all.1))

-- the job of a number, counted
pub counted_once : (frames : ℕ) (s : DeadlineStream) → IsDeadlineStream s → (m : ℕ) → (job s m).end ≤ frames
    → count_by (at (job s m).release (job s m).end) (jobs_of frames s) ≡ 1
counted_once frames s is m within =
    count_stream s is frames (job s m).release (job s m).end within
    ∙ ap one (has_from s is frames (job s m).release (job s m).end within m refl refl)

abbrev pub IsOfNumber : ℕ → DeadlineStream → Job → Type 0
IsOfNumber frames s j = (m : ℕ) × (j ≡ job s m) × (j.end ≤ frames)

each_of_number : (frames : ℕ) (s : DeadlineStream) (i n : ℕ) → AllByRecursion (IsOfNumber frames s) (filter (by_last frames) (map (job s) (range_with_len i n)))
each_of_number frames s i zero = tt
each_of_number frames s i (suc n) =
    let rest = each_of_number frames s (i + 1) n in
    let tail : List Job = filter (by_last frames) (map (job s) (range_with_len (i + 1) n)) in
    cond_both (by_last frames (job s i)) (job s i ∷ tail) tail (λ l. AllByRecursion (IsOfNumber frames s) l) (λ by. ((i, refl, leb-true _ _ by), rest))
    (λ not. rest)

pub all_of_numbers : (frames : ℕ) (s : DeadlineStream) → All (IsOfNumber frames s) (jobs_of frames s)
all_of_numbers frames s = All-from_recursion (IsOfNumber frames s) (jobs_of frames s) (each_of_number frames s 0 frames)
