-- The load of a pair of frames, counted by releases.
use Rattle.std.proofs.Common.{◌≡◌, ℕ, zero, suc, ◌+◌, ◌-◌, ◌*◌, ◌<◌, ◌≤◌, List, false, ◌&&◌, ◌==◌, nat_le}
use Rattle.std.proofs.Common.{count_by, get_or, sym, ◌∙◌, ap, subst, arith, inl, inr}
use Rattle.std.proofs.Math.Nat.{mul-le-mul_left}
use Rattle.std.proofs.lemmas.Bool.{cases_lt}
use Rattle.std.proofs.lemmas.Bool.Decides.{nat_tests}
use Rattle.std.specs.List.{AllByRecursion}
use Rattle.lwb_base.proofs.Lists.{each_more}
use Rattle.deadline_plan.specs.declared.job.Job.{Job}
use Rattle.deadline_plan.specs.declared.load.Overload.{Overload}
use Rattle.deadline_plan.specs.Jobs.{load, NothingOver, IsFirstOver}
use Rattle.deadline_plan.specs.Load.{sum_from, IsLatestOver}
use Rattle.deadline_plan.proofs.Counts.{one, count_none, count_split, count_same}
use Rattle.deadline_plan.proofs.StreamJobs.{InFrames}

-- the jobs that are released then and end by that frame
abbrev pub released_at : List Job → ℕ → ℕ → ℕ
released_at js a until = count_by (λ j. (j.release == a) && nat_le j.end until) js

pub one_frame_first : (js : List Job) (a until : ℕ) → load js a until ≡ released_at js a until + load js (a + 1) until
one_frame_first js a until =
    count_split (λ j. nat_le a j.release && nat_le j.end until) (λ j. (j.release == a) && nat_le j.end until) (λ j. nat_le
    (a + 1) j.release && nat_le j.end until) (λ j. parts a j.release j.end until) js
  where
    parts : (a r e u : ℕ) → one (nat_le a r && nat_le e u) ≡ one ((r == a) && nat_le e u) + one (nat_le (a + 1) r && nat_le e u)
    parts a r e u = grind (arith, nat_tests)

pub one_end_more : (js : List Job) (a until : ℕ) → released_at js a (until + 1) ≡ released_at js a until + count_by (λ j. (j.release == a) && (j.end ==
    (until + 1))) js
one_end_more js a until =
    count_split (λ j. (j.release == a) && nat_le j.end (until + 1)) (λ j. (j.release == a) && nat_le j.end until) (λ j. (j.release == a) && (j.end ==
    (until + 1))) (λ j. parts a j.release j.end until) js
  where
    parts : (a r e u : ℕ) → one ((r == a) && nat_le e (u + 1)) ≡ one ((r == a) && nat_le e u) + one ((r == a) && (e == (u + 1)))
    parts a r e u = grind (arith, nat_tests)

module _ (frames : ℕ) (js : List Job) (sound : AllByRecursion (InFrames frames) js) where
  -- none ends by the frame in which it is released
  pub no_load : (from until : ℕ) → until ≤ from → load js from until ≡ 0
  no_load from until past =
      count_none (λ j. nat_le from j.release && nat_le j.end until) js (each_more (InFrames frames) (λ j.
      (nat_le from j.release && nat_le j.end until) ≡ false) (λ j is. empty from until j.release j.end past is.0) js sound)
    where
      empty : (a u r e : ℕ) → u ≤ a → r < e → (nat_le a r && nat_le e u) ≡ false
      empty a u r e past order = grind (arith, nat_tests)

  -- all end by the last frame
  pub load_by_last : (from until : ℕ) → frames ≤ until → load js from until ≡ load js from frames
  load_by_last from until past =
      count_same (InFrames frames) (λ j. nat_le from j.release && nat_le j.end until) (λ j. nat_le from j.release && nat_le j.end frames)
      (λ j is. same from j.release j.end is.1) js sound
    where
      ends : (a u f r e : ℕ) → f ≤ u → e ≤ f → (nat_le a r && nat_le e u) ≡ (nat_le a r && nat_le e f)
      ends a u f r e past within = grind (arith, nat_tests)

      same : (a r e : ℕ) → e ≤ frames → (nat_le a r && nat_le e until) ≡ (nat_le a r && nat_le e frames)
      same a r e within = ends a until frames r e past within

  pub none_at_first : (a : ℕ) → released_at js a 0 ≡ 0
  none_at_first a =
      count_none (λ j. (j.release == a) && nat_le j.end 0) js (each_more (InFrames frames) (λ j. ((j.release == a) && nat_le j.end 0) ≡ false)
      (λ j is. empty a j.release j.end is.0) js sound)
    where
      empty : (a r e : ℕ) → r < e → ((r == a) && nat_le e 0) ≡ false
      empty a r e order = grind (arith, nat_tests)

  -- where the numbers are those of the jobs released in each frame
  module _ (released : List ℕ) (until : ℕ) (within : until ≤ frames) (counted : (a : ℕ) → a < frames → get_or released a 0 ≡ released_at js a until) where
    sums : (n a : ℕ) → a + n ≡ until → sum_from released a n ≡ load js a until
    unfolding sum_from
    sums zero a is = sym (no_load a until (omega arith))
    sums (suc n) a is = omega (arith, counted a (omega arith), sums n (a + 1) (omega arith), one_frame_first js a until)

    pub span_is : (a : ℕ) → a ≤ until → sum_from released a (until - a) ≡ load js a until
    span_is a order = sums (until - a) a (omega arith)

  -- so far nothing is over
  abbrev pub NothingBy : ℕ → ℕ → Type 0
  NothingBy slots ended = (from until : ℕ) → until ≤ ended → from < until → load js from until ≤ slots * (until - from)

  pub nothing_over : (slots : ℕ) → NothingBy slots frames → NothingOver slots js
  nothing_over slots nothing from until order =
      elim (cases_lt frames until) [
        | inr within ↦ nothing from until within order
        | inl past ↦ elim (cases_lt from frames) [
          | inl before ↦
              (let wide : frames - from ≤ until - from = omega arith in
              let wider = mul-le-mul_left slots wide in
              omega (arith, load_by_last from until (omega arith), nothing from frames (omega arith) before, wider))
          | inr behind ↦ omega (arith, load_by_last from until (omega arith), no_load from frames behind)
        ]
      ]

  module _ (slots ended : ℕ) (within : ended < frames) (nothing : NothingBy slots ended) (released : List ℕ) (counted : (a : ℕ) → a < frames
      → get_or released a 0 ≡ released_at js a (ended + 1)) where
    spans : (a : ℕ) → a ≤ ended + 1 → sum_from released a (ended + 1 - a) ≡ load js a (ended + 1)
    spans a order = span_is released (ended + 1) (omega arith) counted a order

    pub first_is : (o : Overload) → IsLatestOver released slots (ended + 1) o → IsFirstOver slots js o.from o.until × (o.demand ≡ load js o.from o.until)
    first_is o is =
        let before = is.before in
        let demand : o.demand ≡ load js o.from (ended + 1) = sym (ap (λ (u : ℕ). o.demand) is.ends) ∙ is.demand ∙ spans o.from (omega arith) in
        subst (λ (u : ℕ). IsFirstOver slots js o.from u × (o.demand ≡ load js o.from u)) (sym is.ends) (
          record {
            over = (before, omega (arith, demand, is.over));
            least = λ a b over. elim (cases_lt ended b) [ inl later ↦ omega arith | inr early ↦ absurd (omega (arith, nothing a b early over.0, over.1)) ];
            greatest = λ a over. elim (cases_lt o.from a)
                [ inl later ↦ absurd (omega (arith, is.latest a later over.0, spans a (omega (arith, over.0)), over.1)) | inr at ↦ at ];
          },
          demand,
        )

    pub nothing_more : ((a : ℕ) → a < ended + 1 → sum_from released a (ended + 1 - a) ≤ slots * (ended + 1 - a)) → NothingBy slots (ended + 1)
    nothing_more none from until by order =
        elim (cases_lt ended until) [
          | inl last ↦
              (let is : ended + 1 ≡ until = omega arith in
              subst (λ (u : ℕ). load js from u ≤ slots * (u - from)) is (omega (arith, none from (omega arith), spans from (omega arith))))
          | inr early ↦ nothing from until early order
        ]
