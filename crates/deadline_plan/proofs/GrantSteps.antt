-- A frame's grants, job by job.
use Rattle.std.proofs.Common.{◌≡◌, ℕ, zero, suc, ◌+◌, ◌-◌, ◌<◌, ◌≤◌, List, [], ◌∷◌, ◌++◌, Bool, true, false, not, ◌&&◌, nat_le}
use Rattle.std.proofs.Common.{nat_lt, cond, length, map, drop, get_or, refl, sym, ◌∙◌, ap, arith, append_assoc}
use Rattle.std.proofs.lemmas.Bool.{cond_both, lt-ltb}
use Rattle.std.proofs.lemmas.List.{length-append}
use Rattle.deadline_plan.specs.declared.job.Job.{Job}
use Rattle.deadline_plan.specs.Grants.{granted_jobs, jobs_left, grants_from, owners_of_round}
use Rattle.deadline_plan.proofs.Counts.{one}

pub left_none : (frame : ℕ) (js : List Job) → jobs_left 0 frame js ≡ js
unfolding jobs_left
left_none frame [] = refl
left_none frame (j ∷ js) = refl

pub granted_none : (frame : ℕ) (js : List Job) → granted_jobs 0 frame js ≡ []
unfolding granted_jobs
granted_none frame [] = refl
granted_none frame (j ∷ js) = refl

abbrev pub only_if : Bool → Job → List Job
only_if b j = cond b (j ∷ []) []

-- one job more, which is granted where slots are left and it is released
pub granted_step : (slots frame : ℕ) (j : Job) (js : List Job) (b : Bool) → b ≡ (nat_lt 0 slots && nat_le j.release frame)
    → granted_jobs slots frame (j ∷ js) ≡ only_if b j ++ granted_jobs (slots - one b) frame js
unfolding granted_jobs
granted_step zero frame j js b is = rw is (sym (granted_none frame js))
granted_step (suc slots) frame j js b is = rw (is, lt-ltb 0 (suc slots) (omega arith)) (by_test (nat_le j.release frame))
  where
    by_test : (t : Bool) → cond t (j ∷ granted_jobs slots frame js) (granted_jobs (suc slots) frame js) ≡ only_if t j
        ++ granted_jobs (suc slots - one t) frame js
    by_test true = ap (λ (n : ℕ). j ∷ granted_jobs n frame js) (omega arith)
    by_test false = ap (λ (n : ℕ). granted_jobs n frame js) (omega arith)

pub left_step : (slots frame : ℕ) (j : Job) (js : List Job) (b : Bool) → b ≡ (nat_lt 0 slots && nat_le j.release frame)
    → jobs_left slots frame (j ∷ js) ≡ only_if (not b) j ++ jobs_left (slots - one b) frame js
unfolding jobs_left
left_step zero frame j js b is = rw is (ap (λ (l : List Job). j ∷ l) (sym (left_none frame js)))
left_step (suc slots) frame j js b is = rw (is, lt-ltb 0 (suc slots) (omega arith)) (by_test (nat_le j.release frame))
  where
    by_test : (t : Bool) → cond t (jobs_left slots frame js) (j ∷ jobs_left (suc slots) frame js) ≡ only_if (not t) j ++ jobs_left (suc slots - one t) frame js
    by_test true = ap (λ (n : ℕ). jobs_left n frame js) (omega arith)
    by_test false = ap (λ (n : ℕ). j ∷ jobs_left n frame js) (omega arith)

pub length_only_if : (b : Bool) (j : Job) → length (only_if b j) ≡ one b
length_only_if true j = refl
length_only_if false j = refl

-- no more than the slots
pub few_granted : (slots frame : ℕ) (js : List Job) → length (granted_jobs slots frame js) ≤ slots
unfolding granted_jobs
few_granted slots frame [] = omega arith
few_granted zero frame (j ∷ js) = omega arith
few_granted (suc slots) frame (j ∷ js) =
    let taken = few_granted slots frame js in
    let kept = few_granted (suc slots) frame js in
    cond_both (nat_le j.release frame) (j ∷ granted_jobs slots frame js) (granted_jobs (suc slots) frame js) (λ l. length l ≤ suc slots)
    (λ is. omega (arith, taken))
    (λ not. kept)

-- one frame more
pub frame_first : (slots frame frames : ℕ) (js : List Job) → frame < frames
    → map owners_of_round (grants_from slots frame (frames - frame) js) ≡ owners_of_round (granted_jobs slots frame js)
    ∷ map owners_of_round (grants_from slots (frame + 1) (frames -
    (frame + 1)) (jobs_left slots frame js))
unfolding grants_from
frame_first slots frame frames js order =
    let is : frames - frame ≡ suc (frames - (frame + 1)) = omega arith in
    ap (λ (n : ℕ). map owners_of_round (grants_from slots frame n js)) is

pub no_frame : (slots frame frames : ℕ) (js : List Job) → frames ≤ frame → map owners_of_round (grants_from slots frame (frames - frame) js) ≡ []
unfolding grants_from
no_frame slots frame frames js order =
    let is : frames - frame ≡ 0 = omega arith in
    ap (λ (n : ℕ). map owners_of_round (grants_from slots frame n js)) is

pub cut_at : (js : List Job) (i : ℕ) (j : Job) → i < length js → j ≡ get_or js i j → drop i js ≡ j ∷ drop (suc i) js
cut_at [] i j below is = absurd (omega arith)
cut_at (k ∷ js) zero j below is = ap (λ (x : Job). x ∷ js) (sym is)
cut_at (k ∷ js) (suc i) j below is = cut_at js i j (omega arith) is

module _ (slots frame i : ℕ) (waiting gs now : List Job) (j : Job) (b : Bool) (below : i < length waiting) (at : j ≡ get_or waiting i j)
    (test : b ≡ (nat_lt 0 (slots - length gs) && nat_le j.release frame)) (pushed : now ≡ gs ++ only_if b j) where
  next : drop i waiting ≡ j ∷ drop (i + 1) waiting
  next = let is : suc i ≡ i + 1 = omega arith in cut_at waiting i j below at ∙ ap (λ (n : ℕ). j ∷ drop n waiting) is

  fewer : slots - length gs - one b ≡ slots - length now
  fewer =
      let longer : length now ≡ length gs + one b = ap length pushed ∙ length-append gs (only_if b j) ∙ ap (λ (n : ℕ). length gs + n) (length_only_if b j) in
      omega (arith, longer)

  pub granted_more : granted_jobs slots frame waiting ≡ gs ++ granted_jobs (slots - length gs) frame (drop i waiting)
      → granted_jobs slots frame waiting ≡ now ++ granted_jobs (slots - length now) frame (drop (i + 1) waiting)
  granted_more is =
      let rest = drop (i + 1) waiting in
      is ∙ ap (λ (l : List Job). gs ++ granted_jobs (slots - length gs) frame l) next
      ∙ ap (λ (l : List Job). gs ++ l) (granted_step (slots - length gs) frame j rest b test)
      ∙ sym (append_assoc gs (only_if b j) (granted_jobs (slots - length gs - one b) frame rest))
      ∙ ap (λ (l : List Job). l ++ granted_jobs (slots - length gs - one b) frame rest) (sym pushed)
      ∙ ap (λ (n : ℕ). now ++ granted_jobs n frame rest) fewer

  pub left_more : (ls later : List Job) → later ≡ ls ++ only_if (not b) j
      → jobs_left slots frame waiting ≡ ls ++ jobs_left (slots - length gs) frame (drop i waiting)
      → jobs_left slots frame waiting ≡ later ++ jobs_left (slots - length now) frame (drop (i + 1) waiting)
  left_more ls later kept is =
      let rest = drop (i + 1) waiting in
      is ∙ ap (λ (l : List Job). ls ++ jobs_left (slots - length gs) frame l) next
      ∙ ap (λ (l : List Job). ls ++ l) (left_step (slots - length gs) frame j rest b test)
      ∙ sym (append_assoc ls (only_if (not b) j) (jobs_left (slots - length gs - one b) frame rest))
      ∙ ap (λ (l : List Job). l ++ jobs_left (slots - length gs - one b) frame rest) (sym kept)
      ∙ ap (λ (n : ℕ). later ++ jobs_left n frame rest) fewer

-- a round more
pub round_more : (slots frame frames : ℕ) (all rounds now : List (List ℕ)) (waiting later : List Job) (r : List ℕ) → frame < frames
    → all ≡ rounds ++ map owners_of_round (grants_from slots frame (frames - frame) waiting) → r ≡ owners_of_round (granted_jobs slots frame waiting)
    → later ≡ jobs_left slots frame waiting → now ≡ rounds ++ r ∷ []
    → all ≡ now ++ map owners_of_round (grants_from slots (frame + 1) (frames - (frame + 1)) later)
round_more slots frame frames all rounds now waiting later r order is r_is later_is now_is =
    let first = owners_of_round (granted_jobs slots frame waiting) in
    let others = map owners_of_round (grants_from slots (frame + 1) (frames - (frame + 1)) (jobs_left slots frame waiting)) in
    let base : all ≡ (rounds ++ first ∷ []) ++ others = is ∙ ap (λ (l : List (List ℕ)). rounds ++ l) (frame_first slots frame frames waiting order) ∙ sym
    (append_assoc rounds (first ∷ []) others) in
    base
    ∙ ap (λ (x : List ℕ). (rounds ++ x ∷ []) ++ others) (sym r_is)
    ∙ ap (λ (l : List (List ℕ)). l ++ others) (sym now_is)
    ∙ ap (λ (l : List Job). now ++ map owners_of_round (grants_from slots (frame + 1) (frames - (frame + 1)) l)) (sym later_is)
