-- Over frames with and without losses members wait for each next round, and scan for four frames at most after a round with losses.
use Rattle.std.proofs.Common.{◌≡◌, ◌≢◌, ◌<◌, ◌≤◌, ◌+◌, ◌-◌, ◌*◌, ◌==◌, ◌&&◌, ℕ, zero, suc, List, Bool, true, false, Some, inl, inr, if◌then◌else◌, not, refl}
use Rattle.std.proofs.Common.{sym, ◌∙◌, ap, arith, ◌⊎◌}
use Rattle.law_times.proofs.Words.{list_any, and_parts, cases_eq, cond-true, cond-false, cond_both, false≢true, Plan, IsOverScenario, ScenarioParts, Hold}
use Rattle.law_times.proofs.Words.{State}
use Rattle.law_times.proofs.Words.{StateOff, StateOn, is_scan, state_at, has, is_on_and, CostsFew, LossesCostFew, has_round, is_lossless, lossy_rounds}
use Rattle.law_times.proofs.Words.{lossy_row, scanned, IsLossless, IsGroup, not-true}
use Rattle.law_times.proofs.KeptMembers.{Members, not_due, of_members, to_members, Waiting, Waits, waiting_due, waiting_joins, members_wait, waiting_quiet}
use Rattle.law_times.proofs.KeptMembers.{waiting_members}
use Rattle.law_times.proofs.QuietFrames.{Goes}
use Rattle.law_times.proofs.QuietRounds.{set_to_host, by_setting}
use Rattle.law_times.proofs.Settings.{core_tune, setting, idle}
use Rattle.law_times.proofs.WaitingNodes.{lossy, same_waiting}

-- a frame without lines
pub of_test : (s : ScenarioParts) (f : ℕ) → is_lossless s f ≡ true → IsLossless s f
of_test s f is =
    let parts = and_parts (not (list_any (λ l. l.frame == f) s.trace.losses)) (not (list_any (λ l. l.frame == f) s.trace.cuts)) is in
    record { losses = not-true (list_any (λ l. l.frame == f) s.trace.losses) parts.0; cuts = not-true (list_any (λ l. l.frame == f) s.trace.cuts) parts.1 }

-- a frame more in which v scans, or not
scans_more : (s : ScenarioParts) (v f n : ℕ) → scanned s v f (suc n) ≤ scanned s v f n + 1
unfolding scanned
scans_more s v f n =
    cond_both (is_on_and (λ c. is_scan c.tune) (state_at s (n + f) v)) 1 0 (λ (k : ℕ). scanned s v f n + k ≤ scanned s v f n + 1) (λ _. omega arith)
    (λ _. omega arith)

holds_not : (s : ScenarioParts) (v f n rank due : ℕ) (p : Plan) → Goes s (n + f) v (Hold rank due) p → scanned s v f (suc n) ≡ scanned s v f n
unfolding scanned
holds_not s v f n rank due p goes =
    let none = cond-false {A = ℕ} (is_on_and (λ c. is_scan c.tune) (state_at s (n + f) v)) 1 0 (by_state (state_at s (n + f) v) goes) in
    omega (arith, none)
  where
    by_state : (x : State) → setting x ≡ Some (idle (Hold rank due) p) → is_on_and (λ c. is_scan c.tune) x ≡ false
    by_state (StateOff boots) goes = refl
    by_state (StateOn c) goes = ap is_scan (core_tune c (Hold rank due) p goes)

module _ (s : ScenarioParts) (rank host f : ℕ) where
  quiet_row : (n : ℕ) → has_round s rank host (n + f) ≡ false → lossy_row s rank host f (suc n) ≡ lossy_row s rank host f n
  unfolding lossy_row
  quiet_row n none = cond-false (has_round s rank host (n + f)) _ (lossy_row s rank host f n) none

  clean_row : (n : ℕ) → has_round s rank host (n + f) ≡ true → is_lossless s (n + f) ≡ true → lossy_row s rank host f (suc n) ≡ 0
  unfolding lossy_row
  clean_row n has clean = cond-true (has_round s rank host (n + f)) _ _ has ∙ cond-true (is_lossless s (n + f)) 0 _ clean

  longer_row : (n : ℕ) → has_round s rank host (n + f) ≡ true → is_lossless s (n + f) ≡ false
      → lossy_row s rank host f (suc n) ≡ lossy_row s rank host f n + 1
  unfolding lossy_row
  longer_row n has lossy = cond-true (has_round s rank host (n + f)) _ _ has ∙ cond-false (is_lossless s (n + f)) 0 _ lossy

  rounds_more : (n k : ℕ) → (if has_round s rank host (n + f) && not (is_lossless s (n + f)) then 1 else 0) ≡ k
      → lossy_rounds s rank host f (suc n) ≡ lossy_rounds s rank host f n + k
  unfolding lossy_rounds
  rounds_more n k is = ap (λ (m : ℕ). lossy_rounds s rank host f n + m) is

  quiet_rounds : (n : ℕ) → has_round s rank host (n + f) ≡ false → lossy_rounds s rank host f (suc n) ≡ lossy_rounds s rank host f n + 0
  quiet_rounds n none = rounds_more n 0 (ap (λ (b : Bool). if b && not (is_lossless s (n + f)) then 1 else 0) none)

  clean_rounds : (n : ℕ) → is_lossless s (n + f) ≡ true → lossy_rounds s rank host f (suc n) ≡ lossy_rounds s rank host f n + 0
  clean_rounds n clean = rounds_more n 0 (by_round (has_round s rank host (n + f)) (is_lossless s (n + f)) clean)
    where
      by_round : (a b : Bool) → b ≡ true → ◌≡◌ {A = ℕ} (if a && not b then 1 else 0) 0
      by_round true true is = refl
      by_round false true is = refl
      by_round a false is = absurd (false≢true is)

  more_rounds : (n : ℕ) → has_round s rank host (n + f) ≡ true → is_lossless s (n + f) ≡ false
      → lossy_rounds s rank host f (suc n) ≡ lossy_rounds s rank host f n + 1
  more_rounds n has lossy = rounds_more n 1 (rw (has, lossy) refl)

-- after n frames: all wait, and each has scanned for so few frames that there is room for those until the next round is over
record Tracked (s : ScenarioParts) (rank host f : ℕ) (among : List ℕ) (n : ℕ) : Type 0 where
  waiting : Waiting s rank (n + f) host among (4 * lossy_row s rank host f n)
  none : lossy_row s rank host f n ≡ 0 → (v : ℕ) → has among v ≡ true → v ≢ host → scanned s v f n ≤ 4 * lossy_rounds s rank host f n
  some : 0 < lossy_row s rank host f n → (v : ℕ) → has among v ≡ true → v ≢ host
      → scanned s v f n + (waiting.due - (n + f)) + 1 ≤ 4 * lossy_rounds s rank host f n

module _ (s : ScenarioParts) (accepted : IsOverScenario s) (rank host f e : ℕ) (among : List ℕ) (group : IsGroup s host f e among) where
  abbrev row : ℕ → ℕ
  row n = lossy_row s rank host f n

  abbrev losses : ℕ → ℕ
  losses n = lossy_rounds s rank host f n

  -- with no round with losses just before, nobody scans
  nobody_scans : (n : ℕ) (t : Tracked s rank host f among n) → row n ≡ 0 → (v : ℕ) → has among v ≡ true → v ≢ host → scanned s v f (suc n) ≡ scanned s v f n
  nobody_scans n t empty v there other = by_wait (t.waiting.wait v there other)
    where
      by_wait : Waits s rank (n + f) t.waiting.due t.waiting.plan (4 * row n) v → scanned s v f (suc n) ≡ scanned s v f n
      by_wait (inl holds) = holds_not s v f n rank t.waiting.due t.waiting.plan holds
      by_wait (inr (w, p, goes, soon)) = absurd (omega (arith, soon, empty))

  -- frames so far, and the frame that comes
  so_far : (n : ℕ) (t : Tracked s rank host f among n) (v : ℕ) → has among v ≡ true → v ≢ host
      → (scanned s v f (suc n) ≤ 4 * losses n) × (0 < row n → scanned s v f (suc n) + (t.waiting.due - (n + f)) ≤ 4 * losses n)
  so_far n t v there other =
      elim (cases_eq (row n) 0) [
        | inl empty ↦
            (let same = nobody_scans n t empty v there other in
            let few = t.none empty v there other in
            (omega (arith, same, few), λ some. absurd (omega (arith, some, empty))))
        | inr more ↦
            (let step = scans_more s v f n in
            let few = t.some (omega (arith, more)) v there other in
            (omega (arith, step, few), λ some. omega (arith, step, few)))
      ]

  next : (n : ℕ) → suc n + f ≤ e → row n ≤ 3 → row (suc n) ≤ 3 → Tracked s rank host f among n → Tracked s rank host f among (suc n)
  next n within few_before few_after t = elim (cases_eq t.waiting.due (n + f)) [
    | inl now ↦ in_round now (is_lossless s (n + f)) refl
    | inr other ↦ between other
  ]
    where
      at : suc (n + f) ≡ suc n + f
      at = omega arith

      between : (t.waiting.due ≡ n + f → ⊥) → Tracked s rank host f among (suc n)
      between other = record {
        waiting = now.0;
        none = λ empty v there apart. (let few = (so_far n t v there apart).0 in omega (arith, few, counted));
        some = λ more v there apart. (let few = (so_far n t v there apart).1 (omega (arith, more, same)) in
            let due = now.1 in let was = one.1 in omega (arith, few, counted, due, was, later));
      }
        where
          later : n + f < t.waiting.due
          later = (let range = t.waiting.range in omega (arith, range, other))

          one : (w : Waiting s rank (suc (n + f)) host among (4 * row n)) × (w.due ≡ t.waiting.due)
          one = (let next = waiting_quiet s accepted rank host f e among group (n + f) (4 * row n) (omega arith) (omega (arith, within))
              (omega (arith, few_before)) t.waiting later in
              (next.0, next.1))

          idles : has_round s rank host (n + f) ≡ false
          idles = by_setting rank (n + f) (state_at s (n + f) host) ∙ ap (set_to_host rank (n + f)) t.waiting.hosts ∙ not_due rank (n + f) t.waiting.due later

          same : row (suc n) ≡ row n
          same = quiet_row s rank host f n idles

          counted : losses (suc n) ≡ losses n + 0
          counted = quiet_rounds s rank host f n idles

          now : (w : Waiting s rank (suc n + f) host among (4 * row (suc n))) × (w.due ≡ one.0.due)
          now = same_waiting s rank host among (suc (n + f)) (suc n + f) (4 * row n) (4 * row (suc n)) at (ap (λ (k : ℕ). 4 * k) (sym same)) one.0

      in_round : t.waiting.due ≡ n + f → (b : Bool) → is_lossless s (n + f) ≡ b → Tracked s rank host f among (suc n)
      in_round now true clean = record {
        waiting = (same_waiting s rank host among (suc (n + f)) (suc n + f) 0 (4 * row (suc n)) at (omega (arith, none)) one).0;
        none = λ empty v there apart. (let few = (so_far n t v there apart).0 in omega (arith, few, counted));
        some = λ more v there apart. absurd (omega (arith, more, none));
      }
        where
          has : has_round s rank host (n + f) ≡ true
          has = waiting_due s accepted rank host f e among group (n + f) (4 * row n) (omega arith) (omega (arith, within))
              (omega (arith, few_before)) t.waiting now

          none : row (suc n) ≡ 0
          none = clean_row s rank host f n has clean

          counted : losses (suc n) ≡ losses n + 0
          counted = clean_rounds s rank host f n clean

          one : Waiting s rank (suc (n + f)) host among 0
          one =
              members_wait s rank host (suc (n + f)) among
              (waiting_joins s accepted rank host f e among group (n + f) (4 * row n) (omega arith) (omega (arith, within))
              (omega (arith, few_before)) t.waiting now
              (of_test s (n + f) clean))
      in_round now false lost = record {
        waiting = next_one.0;
        none = λ empty v there apart. absurd (omega (arith, empty, longer));
        some = λ more v there apart. (let few = (so_far n t v there apart).0 in let range = next_one.0.range in omega (arith, few, counted, range));
      }
        where
          has : has_round s rank host (n + f) ≡ true
          has = waiting_due s accepted rank host f e among group (n + f) (4 * row n) (omega arith) (omega (arith, within))
              (omega (arith, few_before)) t.waiting now

          longer : row (suc n) ≡ row n + 1
          longer = longer_row s rank host f n has lost

          counted : losses (suc n) ≡ losses n + 1
          counted = more_rounds s rank host f n has lost

          one : Waiting s rank (suc (n + f)) host among (4 * row n + 4)
          one =
              lossy s accepted rank host f e among group (n + f) (4 * row n) (omega arith) (omega (arith, within)) (omega (arith, few_before)) t.waiting now
              (omega (arith, longer, few_after))

          next_one : (w : Waiting s rank (suc n + f) host among (4 * row (suc n))) × (w.due ≡ one.due)
          next_one = same_waiting s rank host among (suc (n + f)) (suc n + f) (4 * row n + 4) (4 * row (suc n)) at (omega (arith, longer)) one

  track : Members s rank f host among → (n : ℕ) → n + f ≤ e → ((m : ℕ) → m ≤ n → row m ≤ 3) → Tracked s rank host f among n
  unfolding lossy_row lossy_rounds scanned
  track members zero within few = record {
    waiting = (same_waiting s rank host among f (0 + f) 0 (4 * 0) (omega arith) (omega arith) (members_wait s rank host f among members)).0;
    none = λ empty v there apart. omega arith;
    some = λ more v there apart. absurd (omega (arith, more));
  }
  track members (suc n) within few =
      next n within (few n (omega arith)) (few (suc n) (omega arith)) (track members n (omega (arith, within)) (λ m below. few m (omega (arith, below))))

  pub costs : Members s rank f host among → (n : ℕ) → n + f ≤ e → ((m : ℕ) → m ≤ n → row m ≤ 3) → CostsFew 4 s rank f host among n
  costs members n within few = record {
    few = λ v there apart. counts v there apart (cases_eq (row n) 0);
    back = λ empty. of_members s accepted rank host f e among group (n + f)
        (waiting_members s rank host (n + f) among
        (same_waiting s rank host among (n + f) (n + f) (4 * row n) 0 refl (omega (arith, empty)) (tracked.waiting)).0);
  }
    where
      tracked : Tracked s rank host f among n
      tracked = track members n within few

      counts : (v : ℕ) → has among v ≡ true → v ≢ host → (row n ≡ 0) ⊎ (row n ≢ 0) → scanned s v f n ≤ 4 * losses n
      counts v there apart (inl empty) = tracked.none empty v there apart
      counts v there apart (inr more) = (let room = tracked.some (omega (arith, more)) v there apart in omega (arith, room))

pub losses_cost_few : LossesCostFew 4
losses_cost_few s accepted rank host f e among group are n within few =
    costs s accepted rank host f e among group (to_members s accepted rank host f e among group f are) n within few
