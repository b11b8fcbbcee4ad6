-- Earliest deadline first grants each job in time where no pair of frames is over.
use Rattle.std.proofs.Common.{◌≡◌, ℕ, zero, suc, ◌+◌, ◌-◌, ◌*◌, ◌<◌, ◌≤◌, List, [], ◌∷◌, ◌++◌, Bool, true, false, ◌&&◌}
use Rattle.std.proofs.Common.{nat_le, cond, count_by, sym, subst, arith, ap, All, get_or, inl, inr, ◌⊎◌}
use Rattle.std.proofs.lemmas.Bool.{cond_both, cases_lt, leb-true, leb-false, le-leb, lt-leb}
use Rattle.std.proofs.lemmas.Bool.Decides.{nat_tests}
use Rattle.std.proofs.lemmas.List.Concat.{flat_map-cons}
use Rattle.std.proofs.lemmas.List.Elements.{recursion_from_All, All-from_recursion}
use Rattle.std.proofs.lemmas.List.Sorted.{IsPermutation-refl, IsPermutation-cons, IsPermutation-trans, IsPermutation-middle, IsPermutation-append_right}
use Rattle.std.proofs.lemmas.List.Sorted.{IsPermutation-sym, All-permutation}
use Rattle.std.specs.List.{AllByRecursion, flat_map}
use Rattle.std.specs.List.Sorted.{IsPermutation}
use Rattle.lwb_base.proofs.Lists.{each_more}
use Rattle.lwb_base.specs.Sorting.{in_order}
use Rattle.lwb_base.proofs.StableSorts.{Rises, in_order_moves, in_order_rises}
use Rattle.deadline_plan.specs.declared.job.Job.{Job}
use Rattle.deadline_plan.specs.Jobs.{load, NothingOver}
use Rattle.deadline_plan.specs.Grants.{comes_before, granted_jobs, jobs_left, grants_from, grants, AreGrantedInTime}
use Rattle.deadline_plan.proofs.Counts.{one, count_cons, count_none, count_same, count_moved}
use Rattle.deadline_plan.proofs.JobOrder.{job_order, ends_rise}

-- the ends do not fall
abbrev pub EndsRise : List Job → Type 0
EndsRise [] = Unit {0}
EndsRise (j ∷ js) = AllByRecursion (λ k. j.end ≤ k.end) js × EndsRise js

abbrev ends_by : ℕ → Job → Bool
ends_by until j = nat_le j.end until

abbrev falls : ℕ → ℕ → Job → Bool
falls from until j = nat_le from j.release && nat_le j.end until

-- what a frame leaves is of what was there
all_left : (P : Job → Type 0) (slots frame : ℕ) (js : List Job) → AllByRecursion P js → AllByRecursion P (jobs_left slots frame js)
unfolding jobs_left
all_left P slots frame [] all = tt
all_left P zero frame (j ∷ js) all = all
all_left P (suc slots) frame (j ∷ js) all =
    let taken = all_left P slots frame js all.1 in
    let kept = all_left P (suc slots) frame js all.1 in
    cond_both (nat_le j.release frame) (jobs_left slots frame js) (j ∷ jobs_left (suc slots) frame js) (λ l. AllByRecursion P l) (λ is. taken)
    (λ not. (all.0, kept))

all_granted : (P : Job → Type 0) (slots frame : ℕ) (js : List Job) → AllByRecursion P js → AllByRecursion (λ j. (j.release ≤ frame) × P j)
    (granted_jobs slots frame js)
unfolding granted_jobs
all_granted P slots frame [] all = tt
all_granted P zero frame (j ∷ js) all = tt
all_granted P (suc slots) frame (j ∷ js) all =
    let taken = all_granted P slots frame js all.1 in
    let kept = all_granted P (suc slots) frame js all.1 in
    cond_both (nat_le j.release frame) (j ∷ granted_jobs slots frame js) (granted_jobs (suc slots) frame js)
    (λ l. AllByRecursion (λ j. (j.release ≤ frame) × P j) l)
    (λ is. ((leb-true j.release frame is, all.0), taken)) (λ not. kept)

rise_left : (slots frame : ℕ) (js : List Job) → EndsRise js → EndsRise (jobs_left slots frame js)
unfolding jobs_left
rise_left slots frame [] rise = tt
rise_left zero frame (j ∷ js) rise = rise
rise_left (suc slots) frame (j ∷ js) rise =
    let taken = rise_left slots frame js rise.1 in
    let kept = rise_left (suc slots) frame js rise.1 in
    let all = all_left (λ k. j.end ≤ k.end) (suc slots) frame js rise.0 in
    cond_both (nat_le j.release frame) (jobs_left slots frame js) (j ∷ jobs_left (suc slots) frame js) (λ l. EndsRise l) (λ is. taken) (λ not. (all, kept))

granted_moves : (slots frame : ℕ) (js : List Job) → IsPermutation js (granted_jobs slots frame js ++ jobs_left slots frame js)
unfolding granted_jobs jobs_left
granted_moves slots frame [] = IsPermutation-refl []
granted_moves zero frame (j ∷ js) = IsPermutation-refl (j ∷ js)
granted_moves (suc slots) frame (j ∷ js) =
    let taken = granted_moves slots frame js in
    let kept = granted_moves (suc slots) frame js in
    by_test (nat_le j.release frame) j js (granted_jobs slots frame js) (jobs_left slots frame js) (granted_jobs (suc slots) frame js)
    (jobs_left (suc slots) frame js) taken kept
  where
    by_test : (b : Bool) (j : Job) (js gs ls hs ms : List Job) → IsPermutation js (gs ++ ls) → IsPermutation js (hs ++ ms)
        → IsPermutation (j ∷ js) ((cond b (j ∷ gs) hs) ++ (cond b ls (j ∷ ms)))
    by_test true j js gs ls hs ms taken kept = IsPermutation-cons j js (gs ++ ls) taken
    by_test false j js gs ls hs ms taken kept =
        IsPermutation-trans (j ∷ js) (j ∷ (hs ++ ms)) (hs ++ j ∷ ms) (IsPermutation-cons j js (hs ++ ms) kept) (IsPermutation-sym (hs ++ j ∷ ms) (j ∷
        (hs ++ ms)) (IsPermutation-middle hs j ms))

left_fewer : (p : Job → Bool) (slots frame : ℕ) (js : List Job) → count_by p (jobs_left slots frame js) ≤ count_by p js
unfolding jobs_left
left_fewer p slots frame [] = omega arith
left_fewer p zero frame (j ∷ js) = omega arith
left_fewer p (suc slots) frame (j ∷ js) =
    let taken = left_fewer p slots frame js in
    let kept = left_fewer p (suc slots) frame js in
    cond_both (nat_le j.release frame) (jobs_left slots frame js) (j ∷ jobs_left (suc slots) frame js) (λ l. count_by p l ≤ count_by p (j ∷ js))
    (λ is. omega (arith, count_cons p j js, taken))
    (λ not. omega (arith, count_cons p j js, count_cons p j (jobs_left (suc slots) frame js), kept))

waits : (r f e u : ℕ) → f < r → one (nat_le e u) ≤ one (nat_le (f + 1) r && nat_le e u)
waits r f e u late = grind (arith, nat_tests)

-- of the jobs with ends up to `until` a frame grants as many as it has slots, or leaves none that was released
served : (slots frame until : ℕ) (js : List Job) → EndsRise js
    → (count_by (ends_by until) (jobs_left slots frame js) + slots ≤ count_by (ends_by until) js)
    ⊎ (count_by (ends_by until) (jobs_left slots frame js) ≤ load js
    (frame + 1) until)
unfolding jobs_left
served slots frame until [] rise = inr (omega arith)
served zero frame until (j ∷ js) rise = inl (omega arith)
served (suc slots) frame until (j ∷ js) rise =
    let taken = served slots frame until js rise.1 in
    let kept = served (suc slots) frame until js rise.1 in
    let p : Job → Bool = ends_by until in
    let q : Job → Bool = falls (frame + 1) until in
    let more = count_cons p j js in
    let falls_more = count_cons q j js in
    cond_both (nat_le j.release frame) (jobs_left slots frame js) (j ∷ jobs_left (suc slots) frame js)
    (λ l. (count_by p l + suc slots ≤ count_by p (j ∷ js)) ⊎ (count_by p l ≤ count_by q (j ∷ js)))
    (λ is. elim (cases_lt until j.end) [
      | inl past ↦
          (let none : count_by p js ≡ 0 = count_none p js (each_more (λ (k : Job). j.end ≤ k.end) (λ (k : Job). p k ≡ false) (λ k after. lt-leb k.end until
          (omega arith)) js rise.0) in
          inr (omega (arith, none, left_fewer p slots frame js)))
      | inr within ↦
          (let here : one (p j) ≡ 1 = ap one (le-leb j.end until within) in
          elim taken [ inl few ↦ inl (omega (arith, few, more, here)) | inr rest ↦ inr (omega (arith, rest, falls_more)) ])
    ])
    (λ not.
    let left_more = count_cons p j (jobs_left (suc slots) frame js) in
    let here = waits j.release frame j.end until (leb-false j.release frame not) in
    elim kept [ inl few ↦ inl (omega (arith, few, more, left_more)) | inr rest ↦ inr (omega (arith, rest, left_more, falls_more, here)) ])

-- where none is counted, all end later
none_late : (until : ℕ) (js : List Job) → count_by (ends_by until) js ≤ 0 → AllByRecursion (λ j. until < j.end) js
none_late until [] none = tt
none_late until (j ∷ js) none =
    let more = count_cons (ends_by until) j js in
    (late until j.end (omega (arith, more, none)), none_late until js (omega (arith, more, none)))
  where
    late : (u e : ℕ) → one (nat_le e u) ≤ 0 → u < e
    late u e none = grind (arith, nat_tests)

-- what waits at the beginning of a frame can be granted in time, this many frames before the end of all
record Waits (slots frame frames : ℕ) (js : List Job) : Type 0 where
  pub rise : EndsRise js
  pub due : (d : ℕ) → count_by (ends_by (frame + d)) js ≤ slots * d
  pub room : (from d : ℕ) → load js from (from + d) ≤ slots * d
  pub ends : AllByRecursion (λ j. j.end ≤ frame + frames) js

waits_on : (slots frame frames : ℕ) (js : List Job) → Waits slots frame (suc frames) js → Waits slots (frame + 1) frames (jobs_left slots frame js)
waits_on slots frame frames js is = record {
  rise = rise_left slots frame js is.rise;
  due = λ d.
      let before : count_by (ends_by (frame + suc d)) js ≡ count_by (ends_by (frame + 1 + d)) js = ap (λ (u : ℕ). count_by (ends_by u) js) (omega arith) in
      elim (served slots frame (frame + 1 + d) js is.rise)
      [ inl few ↦ omega (arith, few, before, is.due (suc d)) | inr rest ↦ omega (arith, rest, is.room (frame + 1) d) ];
  room = λ from d. omega (arith, left_fewer (falls from (from + d)) slots frame js, is.room from d);
  ends =
      each_more (λ (j : Job). j.end ≤ frame + suc frames) (λ (j : Job). j.end ≤ frame + 1 + frames) (λ j by. omega arith) (jobs_left slots frame js) (all_left
      (λ j. j.end ≤ frame + suc frames) slots frame js is.ends);
}

all_granted_once : (slots frame frames : ℕ) (js : List Job) → Waits slots frame frames js → IsPermutation js (flat_map (λ (g : List Job). g)
    (grants_from slots frame frames js))
unfolding grants_from
all_granted_once slots frame zero [] is = IsPermutation-refl []
all_granted_once slots frame zero (j ∷ js) is =
    let none = none_late (frame + 0) (j ∷ js) (omega (arith, is.due 0)) in
    absurd (omega (arith, none.0, is.ends.0))
all_granted_once slots frame (suc frames) js is =
    let rest = all_granted_once slots (frame + 1) frames (jobs_left slots frame js) (waits_on slots frame frames js is) in
    let later = grants_from slots (frame + 1) frames (jobs_left slots frame js) in
    let now = granted_jobs slots frame js in
    subst (λ (l : List Job). IsPermutation js l) (sym (flat_map-cons (λ (g : List Job). g) now later))
    (IsPermutation-trans js (now ++ jobs_left slots frame js) (now ++ flat_map (λ (g : List Job). g) later) (granted_moves slots frame js)
    (IsPermutation-append_right now (jobs_left slots frame js) (flat_map (λ (g : List Job). g) later) rest))

abbrev InTime : ℕ → Job → Type 0
InTime frame j = (j.release ≤ frame) × (frame < j.end)

each_in_time : (slots frame frames : ℕ) (js : List Job) → Waits slots frame frames js → (i : ℕ)
    → AllByRecursion (InTime (frame + i)) (get_or (grants_from slots frame frames js) i [])
unfolding grants_from
each_in_time slots frame zero js is i = tt
each_in_time slots frame (suc frames) js is zero =
    each_more (λ (j : Job). (j.release ≤ frame) × (frame + 0 < j.end)) (InTime (frame + 0)) (λ j at. (omega (arith, at.0), at.1)) (granted_jobs slots frame js)
    (all_granted (λ j. frame + 0 < j.end) slots frame js (none_late (frame + 0) js (omega (arith, is.due 0))))
each_in_time slots frame (suc frames) js is (suc i) =
    each_more (InTime (frame + 1 + i)) (InTime (frame + suc i)) (λ j at. (omega (arith, at.0), omega (arith, at.1))) (get_or (grants_from slots
    (frame + 1) frames (jobs_left slots frame js)) i [])
    (each_in_time slots (frame + 1) frames (jobs_left slots frame js) (waits_on slots frame frames js is) i)

rise_of : (js : List Job) → Rises comes_before js → EndsRise js
rise_of [] is = tt
rise_of (j ∷ js) is = (each_more (λ k. comes_before k j ≡ false) (λ k. j.end ≤ k.end) (λ k after. ends_rise j k after) js is.0, rise_of js is.1)

from_none : (r e u : ℕ) → nat_le e u ≡ (nat_le 0 r && nat_le e u)
from_none r e u = grind (arith, nat_tests)

nothing_between : (a r e : ℕ) → r < e → (nat_le a r && nat_le e (a + 0)) ≡ false
nothing_between a r e order = grind (arith, nat_tests)

module _ (slots frames : ℕ) (js : List Job) (sound : All (λ j. (j.release < j.end) × (j.end ≤ frames)) js) (nothing : NothingOver slots js) where
  abbrev queue : List Job
  queue = in_order comes_before js

  moved : IsPermutation js queue
  moved = in_order_moves comes_before js

  their_ends : AllByRecursion (λ j. (j.release < j.end) × (j.end ≤ frames)) queue
  their_ends = recursion_from_All (λ (j : Job). (j.release < j.end) × (j.end ≤ frames)) queue (All-permutation (λ (j : Job). (j.release < j.end) ×
      (j.end ≤ frames)) js queue moved sound)

  room_from : (from d : ℕ) → load queue from (from + d) ≤ slots * d
  room_from from zero =
      let none = count_none (falls from (from + 0)) queue (each_more (λ (j : Job). (j.release < j.end) × (j.end ≤ frames)) (λ j. falls from
      (from + 0) j ≡ false) (λ j is. nothing_between from j.release j.end is.0) queue their_ends) in
      omega (arith, none)
  room_from from (suc d) =
      let n : ℕ = from + suc d - from in
      let is : n ≡ suc d = omega arith in
      let same : slots * n ≡ slots * suc d = ap (λ (x : ℕ). slots * x) is in
      omega (arith, nothing from (from + suc d) (omega arith), count_moved (falls from (from + suc d)) js queue moved, same)

  at_first : Waits slots 0 frames queue
  at_first = record {
    rise = rise_of queue (in_order_rises comes_before job_order js);
    due = λ d.
        let same = count_same (λ (j : Job). (j.release < j.end) × (j.end ≤ frames)) (ends_by (0 + d)) (falls 0 (0 + d)) (λ j is. from_none j.release j.end
        (0 + d)) queue their_ends in
        omega (arith, same, room_from 0 d);
    room = room_from;
    ends = each_more (λ (j : Job). (j.release < j.end) × (j.end ≤ frames)) (λ j. j.end ≤ 0 + frames) (λ j is. omega (arith, is.1)) queue their_ends;
  }

  pub are_kept : AreGrantedInTime js (grants slots frames js)
  are_kept = record {
    once = IsPermutation-trans js queue (flat_map (λ (g : List Job). g) (grants slots frames js)) moved (all_granted_once slots 0 frames queue at_first);
    in_time = λ frame. All-from_recursion (InTime frame) (get_or (grants slots frames js) frame [])
        (each_more (InTime (0 + frame)) (InTime frame) (λ j at. (omega (arith, at.0), omega (arith, at.1))) (get_or (grants slots frames js) frame [])
        (each_in_time slots 0 frames queue at_first frame));
  }
