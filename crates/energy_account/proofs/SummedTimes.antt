-- The sums of a log, entry by entry, and that they fit in 64 bits.
use Rattle.std.proofs.Common.{◌≡◌, ◌≢◌, ℕ, zero, suc, ◌+◌, ◌-◌, ◌%◌, ◌^◌, ◌≤◌, List, [], ◌∷◌, ◌++◌, filter, filter_map, replicate, reverse, sum_by}
use Rattle.std.proofs.Common.{get_or, Bool, true, ◌==◌, if◌then◌else◌, All, Contains, Some, None, ◌⊎◌, inl, inr, refl, sym, ◌∙◌, ap, subst, arith, eq-eqb}
use Rattle.std.specs.Prelude.{slice_index_or}
use Rattle.std.proofs.Math.Nat.{mod-eq_of_lt}
use Rattle.std.proofs.lemmas.Bool.{cond-true, cond-false, cond_both, ne_eqb, cases_eq}
use Rattle.std.proofs.lemmas.List.{append-nil}
use Rattle.std.proofs.lemmas.List.Elements.{filter-append, filter_map-append, All-contains, All-contains_itself, All-head, All-tail}
use Rattle.std.proofs.lemmas.List.Sorted.{sum_by-IsPermutation, Contains-permutation}
use Rattle.std.proofs.lemmas.List.Sums.{sum_by-cons, sum_by_push}
use Rattle.radio_model.specs.declared.sending.Sending.{Sending}
use Rattle.radio_model.specs.OnAir.{Tuning}
use Rattle.scenario_text.specs.FloodParts.{knows}
use Rattle.scenario_text.specs.ScenarioFacts.{IsSoundScenario}
use Rattle.scenario_text.specs.ScenarioParts.{ScenarioParts}
use Rattle.air_log.specs.declared.entry.Entry.{Entry}
use Rattle.air_log.specs.declared.entry.Entry.TheVariants.{Sent, Heard, Tuned}
use Rattle.air_log.specs.declared.entry.HeardEntry.{HeardEntry}
use Rattle.air_log.specs.declared.entry.TunedEntry.{TunedEntry}
use Rattle.air_log.specs.Entries.{sending_in, tuning_in, sendings_of, tunings_of}
use Rattle.air_log.specs.Lawful.{Lawful, heard_by, sent_by, tuned_by, trail_in, trail_sent, trail_tuned}
use Rattle.air_log.specs.Trails.{run_end}
use Rattle.air_log.proofs.AlarmLoop.{early_in_run}
use Rattle.lwb_base.proofs.Elements.{filter_from, contains_head, contains_tail, contains_cases}
use Rattle.air_log.proofs.TrailTunings.{each_tuned}
use Rattle.energy_account.specs.Apart.{AreApart}
use Rattle.air_log.specs.Energies.{sending_time, tuning_time}
use Rattle.energy_account.specs.Times.{TimesState, HasTimes, IsRaised, EndsEarly}
use Rattle.energy_account.proofs.Apart.{all_reverse}
use Rattle.energy_account.proofs.ReadOff.{sent_apart, tuned_apart, sum_turned}

-- what a filter leaves
filtered : {X : Type 0} (test : X → Bool) (xs : List X) (x : X) → Contains (filter test xs) x → Contains xs x
filtered test [] x there = there
filtered {X} test (y ∷ xs) x there =
    cond_both (test y) (y ∷ filter test xs) (filter test xs) (λ (l : List X). Contains l x → Contains (y ∷ xs) x)
    (λ is in_it. elim (contains_cases y (filter test xs) x in_it)
    [ inl same ↦ subst (Contains (y ∷ xs)) same (contains_head y xs) | inr rest ↦ contains_tail y xs x (filtered test xs x rest) ])
    (λ not in_it. contains_tail y xs x (filtered test xs x in_it))
    there

-- one more of those of a node, or of another one
one_more : {X : Type 0} (node f : X → ℕ) (xs : List X) (x : X) (v : ℕ) → sum_by f (filter (λ y. node y == v) (xs ++ x ∷ []))
    ≡ sum_by f (filter (λ y. node y == v) xs) + (if node x == v then f x else 0)
one_more {X} node f xs x v = ap (sum_by f) (filter-append (λ (y : X). node y == v) xs (x ∷ [])) ∙ by (cases_eq (node x) v)
  where
    own : List X
    own = filter (λ y. node y == v) xs

    by : (node x ≡ v) ⊎ (node x ≢ v) → sum_by f (own ++ (if node x == v then x ∷ [] else [])) ≡ sum_by f own + (if node x == v then f x else 0)
    by (inl is) =
        let test = eq-eqb (node x) v is in
        ap (λ (l : List X). sum_by f (own ++ l)) (cond-true (node x == v) (x ∷ []) [] test) ∙ sum_by_push f own x
        ∙ ap (λ (n : ℕ). sum_by f own + n) (sym (cond-true (node x == v) (f x) 0 test))
    by (inr other) =
        let test = ne_eqb (node x) v other in
        let none = cond-false (node x == v) (f x) 0 test in
        ap (λ (l : List X). sum_by f (own ++ l)) (cond-false (node x == v) (x ∷ []) [] test) ∙ ap (sum_by f) (append-nil own) ∙ omega (arith, none)

-- a sum that is raised by what an entry lasts
raised : (node time a b n v : ℕ) (old new : List ℕ) → IsRaised node time old new → slice_index_or old v 0 ≡ a % 2 ^ 64
    → b ≡ a + (if node == v then time else 0) → slice_index_or new v 0 ≡ b % 2 ^ 64
raised node time a b n v old new is so_far more = by (cases_eq node v)
  where
    by : (node ≡ v) ⊎ (node ≢ v) → slice_index_or new v 0 ≡ b % 2 ^ 64
    by (inl same) =
        let own : slice_index_or new v 0 ≡ (slice_index_or old v 0 + time) % 2 ^ 64 =
        subst (λ (u : ℕ). slice_index_or new u 0 ≡ (slice_index_or old u 0 + time) % 2 ^ 64) same is.own in
        let added = cond-true (node == v) time 0 (eq-eqb node v same) in
        omega (arith, own, so_far, more, added)
    by (inr other) =
        let stays = is.others v (λ same. other (sym same)) in
        let none = cond-false (node == v) time 0 (ne_eqb node v other) in
        omega (arith, stays, so_far, more, none)

module _ (air : List Entry) (old new : TimesState) (has : HasTimes air old) where
  same_sent : (e : Entry) (v : ℕ) → sending_in e ≡ None → sent_by (air ++ e ∷ []) v ≡ sent_by air v
  same_sent e v none = ap (filter (λ (x : Sending). x.node == v))
      (filter_map-append sending_in air (e ∷ []) ∙ ap (λ (l : List Sending). sendings_of air ++ l) (nothing none) ∙ append-nil (sendings_of air))
    where
      nothing : sending_in e ≡ None → filter_map sending_in (e ∷ []) ≡ []
      nothing is = rw is refl

  same_tuned : (e : Entry) (v : ℕ) → tuning_in e ≡ None → tuned_by (air ++ e ∷ []) v ≡ tuned_by air v
  same_tuned e v none = ap (filter (λ (x : Tuning). x.node == v))
      (filter_map-append tuning_in air (e ∷ []) ∙ ap (λ (l : List Tuning). tunings_of air ++ l) (nothing none) ∙ append-nil (tunings_of air))
    where
      nothing : tuning_in e ≡ None → filter_map tuning_in (e ∷ []) ≡ []
      nothing is = rw is refl

  pub sent_added : (x : Sending) → IsRaised x.node (x.end - x.start) old.sent new.sent → new.on ≡ old.on → HasTimes (air ++ Sent x ∷ []) new
  sent_added x is stays =
      record {
        sent = λ v less. raised x.node (x.end - x.start) _ _ 0 v old.sent new.sent is (has.sent v less)
            (ap (λ (l : List Sending). sum_by sending_time (filter (λ (z : Sending). z.node == v) l)) (filter_map-append sending_in air (Sent x ∷ []))
            ∙ one_more (λ (z : Sending). z.node) sending_time (sendings_of air) x v);
        on = λ v less. ap (λ (l : List ℕ). slice_index_or l v 0) stays ∙ has.on v less ∙ ap (λ (l : List Tuning). sum_by tuning_time l % 2 ^ 64)
            (sym (same_tuned (Sent x) v refl));
      }

  pub tuned_added : (x : TunedEntry) → IsRaised x.node (x.end - x.start) old.on new.on → new.sent ≡ old.sent → HasTimes (air ++ Tuned x ∷ []) new
  tuned_added x is stays =
      let y : Tuning = record { rank = x.rank; node = x.node; start = x.start; end = x.end } in
      record {
        sent = λ v less. ap (λ (l : List ℕ). slice_index_or l v 0) stays ∙ has.sent v less ∙ ap (λ (l : List Sending). sum_by sending_time l % 2 ^ 64)
            (sym (same_sent (Tuned x) v refl));
        on = λ v less. raised x.node (x.end - x.start) _ _ 0 v old.on new.on is (has.on v less)
            (ap (λ (l : List Tuning). sum_by tuning_time (filter (λ (z : Tuning). z.node == v) l)) (filter_map-append tuning_in air (Tuned x ∷ []))
            ∙ one_more (λ (z : Tuning). z.node) tuning_time (tunings_of air) y v);
      }

  pub heard_added : (x : HeardEntry) → new ≡ old → HasTimes (air ++ Heard x ∷ []) new
  heard_added x stays = subst (HasTimes (air ++ Heard x ∷ [])) (sym stays) (record {
    sent = λ v less. has.sent v less ∙ ap (λ (l : List Sending). sum_by sending_time l % 2 ^ 64) (sym (same_sent (Heard x) v refl));
    on = λ v less. has.on v less ∙ ap (λ (l : List Tuning). sum_by tuning_time l % 2 ^ 64) (sym (same_tuned (Heard x) v refl));
  })

-- before the first entry
zero_at : (n v : ℕ) → ◌≡◌ {A = ℕ} (slice_index_or (replicate n 0) v 0) 0
zero_at zero v = refl
zero_at (suc n) zero = refl
zero_at (suc n) (suc v) = zero_at n v

pub none_yet : (sent on : List ℕ) → sent ≡ replicate 201 0 → on ≡ replicate 201 0 → HasTimes [] (record { sent = sent; on = on })
none_yet sent on is_sent is_on = record {
  sent = λ v less. ap (λ (l : List ℕ). slice_index_or l v 0) is_sent ∙ zero_at 201 v;
  on = λ v less. ap (λ (l : List ℕ). slice_index_or l v 0) is_on ∙ zero_at 201 v;
}

-- times that lie one after another last together no longer than until the last is over
apart_sum : {X : Type 0} (start end : X → ℕ) (b since : ℕ) (xs : List X) → AreApart start end since xs → since ≤ b → All (λ x. end x ≤ b) xs
    → since + sum_by (λ x. end x - start x) xs ≤ b
apart_sum start end b since [] apart from by = omega (arith, from)
apart_sum {X} start end b since (x ∷ xs) apart from by =
    let here : end x ≤ b = All-head (λ (y : X). end y ≤ b) x xs by in
    let rest = apart_sum start end b (end x) xs apart.2 here (All-tail (λ (y : X). end y ≤ b) x xs by) in
    let all = sum_by-cons (λ (y : X). end y - start y) x xs in
    omega (arith, apart.0, apart.1, rest, all)

module _ (s : ScenarioParts) (clocks : ℕ → ℕ → ℕ) (air : List Entry) (v : ℕ) (lawful : Lawful s clocks air) (known : knows s.nodes v ≡ true)
    (sound : IsSoundScenario s) where
  sent_early : All EndsEarly air → (x : Sending) → Contains (trail_in s clocks air v).made.sent x → x.end ≤ 2 ^ 64 - 1
  sent_early early x there =
      let own : Contains (trail_sent s clocks air v) x =
      subst (λ (l : List Sending). Contains l x) (sym (cond-true (knows s.nodes v) (trail_in s clocks air v).made.sent [] known)) there in
      let in_air : Contains (sent_by air v) x = Contains-permutation (trail_sent s clocks air v) (sent_by air v) x (lawful.trails.sent v) own in
      let e = filter_from sending_in air x (filtered (λ (y : Sending). y.node == v) (sendings_of air) x in_air) in
      ends e.0 x e.2 (All-contains EndsEarly air e.0 early e.1)
    where
      ends : (e : Entry) (x : Sending) → sending_in e ≡ Some x → EndsEarly e → x.end ≤ 2 ^ 64 - 1
      ends (Sent y) x is small = let same : y.end ≡ x.end = cc in omega (arith, same, small)
      ends (Heard h) x is small = cc
      ends (Tuned t) x is small = cc

  pub sent_fits : All EndsEarly air → sum_by sending_time (sent_by air v) % 2 ^ 64 ≡ sum_by sending_time (sent_by air v)
  sent_fits early =
      let xs = (trail_in s clocks air v).made.sent in
      let most = apart_sum (λ (x : Sending). x.start) (λ (x : Sending). x.end) (2 ^ 64 - 1) 0 xs (sent_apart s v (clocks v) (heard_by air v)) (omega arith)
      (λ k x less. sent_early early (get_or xs k x) (All-contains_itself xs k x less)) in
      let same : sum_by sending_time (sent_by air v) ≡ sum_by sending_time xs =
      sum_by-IsPermutation sending_time (trail_sent s clocks air v) (sent_by air v) (lawful.trails.sent v)
      ∙ ap (sum_by sending_time) (cond-true (knows s.nodes v) xs [] known) in
      mod-eq_of_lt (omega (arith, most, same))

  pub on_fits : sum_by tuning_time (tuned_by air v) % 2 ^ 64 ≡ sum_by tuning_time (tuned_by air v)
  on_fits =
      let ts = (trail_in s clocks air v).made.tuned in
      let early = early_in_run s (run_end s) sound (omega arith) in
      let by : All (λ (t : Tuning). t.end ≤ 2 ^ 45) ts =
      λ k t less. (let is = each_tuned s v (clocks v) (heard_by air v) k t less in omega (arith, is.by, early)) in
      let most = apart_sum (λ (t : Tuning). t.start) (λ (t : Tuning). t.end) (2 ^ 45) 0 (reverse ts) (tuned_apart s v (clocks v) (heard_by air v))
      (omega arith) (all_reverse (λ (t : Tuning). t.end ≤ 2 ^ 45) ts by) in
      let turned = sum_turned tuning_time ts in
      let same : sum_by tuning_time (tuned_by air v) ≡ sum_by tuning_time ts =
      sum_by-IsPermutation tuning_time (trail_tuned s clocks air v) (tuned_by air v) (lawful.trails.tuned v)
      ∙ ap (sum_by tuning_time) (cond-true (knows s.nodes v) ts [] known) in
      mod-eq_of_lt (omega (arith, most, turned, same))
