-- A log follows the trail of a node where the two, in order of time, are one.
use Rattle.std.proofs.Common.{◌≡◌, ℕ, zero, suc, ◌<◌, List, [], ◌∷◌, Bool, true, false, ◌==◌, AllPairs, map, length, reverse, refl, sym, ◌∙◌, ap, subst, arith}
use Rattle.std.specs.Prelude.{IsPermutation}
use Rattle.std.specs.Bool.{Decides}
use Rattle.std.specs.List.Sorted.{IsNonDecreasingBy}
use Rattle.std.proofs.lemmas.Bool.{cond-true, cond-false, false≢true, eq-eqb, eqb-true}
use Rattle.std.proofs.lemmas.List.{length-map, get_or-map}
use Rattle.std.proofs.lemmas.List.Sorted.{IsPermutation-refl, IsPermutation-sym, IsPermutation-trans, IsPermutation-reverse, IsPermutation-map}
use Rattle.std.proofs.lemmas.List.Sorted.{All-permutation, length_permutation}
use Rattle.radio_model.specs.declared.sending.Sending.{Sending}
use Rattle.radio_model.specs.OnAir.{Tuning}
use Rattle.radio_model.proofs.OverlapWindows.{start_of}
use Rattle.lwb_base.proofs.Elements.{pairs_tail}
use Rattle.scenario_text.specs.FloodParts.{knows}
use Rattle.scenario_text.specs.ScenarioParts.{ScenarioParts}
use Rattle.air_log.specs.declared.entry.Entry.{Entry}
use Rattle.air_log.specs.declared.entry.TunedEntry.{TunedEntry}
use Rattle.air_log.specs.DeviceStates.{tuning_of}
use Rattle.air_log.specs.Lawful.{sent_by, tuned_by, trail_in, trail_sent, trail_tuned}
use Rattle.air_log.specs.Trails.{Reception, trail}
use Rattle.lwb_base.proofs.Elements.{reversed}
use Rattle.air_log.proofs.TrailSendings.{in_order, pairs_push}
use Rattle.air_log.proofs.TrailTunings.{each_tuned, tuned_in_turn}
use Rattle.air_check.specs.Verdicts.{FollowsTrail}
use Rattle.air_check.proofs.SameEntries.{tuned_with}
use Rattle.air_check.proofs.InOrder.{Below, one_in_order}

abbrev pub tuned_start : Tuning → ℕ
tuned_start t = t.start

-- the last first
turned_pairs : {X : Type 0} (R : X → X → Type 0) (xs : List X) → AllPairs R xs → AllPairs (λ x y. R y x) (reverse xs)
turned_pairs R [] all = λ i j d less within. absurd (omega (arith, within))
turned_pairs {X} R (x ∷ xs) all =
    subst (λ (l : List X). AllPairs (λ x y. R y x) l) (sym (reversed x xs))
    (pairs_push (λ x y. R y x) (reverse xs) x (turned_pairs R xs (pairs_tail R x xs all))
    (All-permutation (R x) xs (reverse xs) (IsPermutation-reverse xs) (λ k d less. all zero (suc k) d (omega arith) (omega (arith, less)))))

module _ (s : ScenarioParts) (v : ℕ) (clock : ℕ → ℕ) (hs : List Reception) where
  tuned_strictly : AllPairs (Below tuned_start) (reverse (trail s v clock hs).made.tuned)
  tuned_strictly =
      turned_pairs (λ e d. d.start < e.start) (trail s v clock hs).made.tuned
      (λ i j d less within.
      (let after = (tuned_in_turn s v clock hs i j d less within).after in
      let some = (each_tuned s v clock hs j d within).some in
      omega (arith, after, some)))

  pub sent_decided : (xs ys : List Sending) (b : Bool) → IsPermutation xs ys → IsNonDecreasingBy start_of ys
      → Decides b ((trail s v clock hs).made.sent ≡ ys) → Decides b (IsPermutation (trail s v clock hs).made.sent xs)
  sent_decided xs ys b moved rises is = (
    λ yes. subst (λ (l : List Sending). IsPermutation l xs) (sym (is.0 yes)) (IsPermutation-sym xs ys moved),
    λ from. is.1 (one_in_order start_of (trail s v clock hs).made.sent ys (in_order s v clock hs)
        (IsPermutation-trans (trail s v clock hs).made.sent xs ys from moved) rises),
  )

  pub tuned_decided : (xs ys : List Tuning) (b : Bool) → IsPermutation xs ys → IsNonDecreasingBy tuned_start ys
      → Decides b (reverse (trail s v clock hs).made.tuned ≡ ys) → Decides b (IsPermutation (trail s v clock hs).made.tuned xs)
  tuned_decided xs ys b moved rises is =
      let made = (trail s v clock hs).made.tuned in
      let turned = IsPermutation-reverse made in (
        λ yes. IsPermutation-trans made (reverse made) xs turned
            (subst (λ (l : List Tuning). IsPermutation l xs) (sym (is.0 yes)) (IsPermutation-sym xs ys moved)),
        λ from. is.1 (one_in_order tuned_start (reverse made) ys tuned_strictly
            (IsPermutation-trans (reverse made) made ys (IsPermutation-sym made (reverse made) turned) (IsPermutation-trans made xs ys from moved)) rises),
      )

-- lists of tunings, by what they say
rises_map : {X Y : Type 0} (f : X → Y) (key : Y → ℕ) (back : Y → X) (xs : List X) → IsNonDecreasingBy (λ x. key (f x)) xs → IsNonDecreasingBy key (map f xs)
rises_map f key back xs rises i j d le within =
    let long = length-map xs f in
    let first = get_or-map f xs i (back d) d (omega (arith, long, le, within)) in
    let second = get_or-map f xs j (back d) d (omega (arith, long, within)) in
    let up = rises i j (back d) le (omega (arith, long, within)) in
    omega (arith, ap key first, ap key second, up)

module _ (s : ScenarioParts) (v : ℕ) (clock : ℕ → ℕ) (hs : List Reception) where
  pub sent_told : (made own sorted : List Sending) (b : Bool) → made ≡ (trail s v clock hs).made.sent → IsPermutation own sorted
      → IsNonDecreasingBy start_of sorted → Decides b (made ≡ sorted) → Decides b (IsPermutation (trail s v clock hs).made.sent own)
  sent_told made own sorted b is moved rises same =
      sent_decided s v clock hs own sorted b moved rises (subst (λ (l : List Sending). Decides b (l ≡ sorted)) is same)

  pub tuned_told : (made : List Tuning) (own sorted : List TunedEntry) (b : Bool) → made ≡ (trail s v clock hs).made.tuned → IsPermutation own sorted
      → IsNonDecreasingBy (λ t. t.start) sorted → Decides b (reverse made ≡ map tuning_of sorted)
      → Decides b (IsPermutation (trail s v clock hs).made.tuned (map tuning_of own))
  tuned_told made own sorted b is moved rises same =
      tuned_decided s v clock hs (map tuning_of own) (map tuning_of sorted) b (IsPermutation-map tuning_of own sorted moved)
      (rises_map tuning_of tuned_start tuned_with sorted rises) (subst (λ (l : List Tuning). Decides b (reverse l ≡ map tuning_of sorted)) is same)

none_in : {X : Type 0} (xs : List X) → IsPermutation [] xs → xs ≡ []
none_in [] moved = refl
none_in (x ∷ xs) moved = let long = length_permutation [] (x ∷ xs) moved in absurd (omega (arith, long))

pub none_held : {X : Type 0} (xs : List X) (n : ℕ) (b : Bool) → length xs ≡ n → b ≡ (n == 0) → Decides b (xs ≡ [])
none_held [] n b long is = (λ yes. refl, λ same. is ∙ eq-eqb n 0 (sym long))
none_held (x ∷ xs) n b long is = (
  λ yes. absurd (let zero = eqb-true n 0 (sym is ∙ yes) in omega (arith, zero, long)),
  λ same. absurd (let short = ap (λ (l : List _). length l) same in omega (arith, short)),
)

-- the verdict on an id, by its transmissions and then its tunings
module _ (s : ScenarioParts) (clocks : ℕ → ℕ → ℕ) (air : List Entry) (v : ℕ) (known : knows s.nodes v ≡ true) where
  sent_is : trail_sent s clocks air v ≡ (trail_in s clocks air v).made.sent
  sent_is = cond-true (knows s.nodes v) (trail_in s clocks air v).made.sent [] known

  tuned_is : trail_tuned s clocks air v ≡ (trail_in s clocks air v).made.tuned
  tuned_is = cond-true (knows s.nodes v) (trail_in s clocks air v).made.tuned [] known

  pub by_tuned : (b : Bool) → IsPermutation (trail_in s clocks air v).made.sent (sent_by air v)
      → Decides b (IsPermutation (trail_in s clocks air v).made.tuned (tuned_by air v)) → Decides b (FollowsTrail s clocks air v)
  by_tuned b sent tuned = (
    λ yes. record {
      sent = subst (λ (l : List Sending). IsPermutation l (sent_by air v)) (sym sent_is) sent;
      tuned = subst (λ (l : List Tuning). IsPermutation l (tuned_by air v)) (sym tuned_is) (tuned.0 yes);
    },
    λ follows. tuned.1 (subst (λ (l : List Tuning). IsPermutation l (tuned_by air v)) tuned_is follows.tuned),
  )

  pub by_sent : (a : Bool) → a ≡ false → Decides a (IsPermutation (trail_in s clocks air v).made.sent (sent_by air v)) → Decides a (FollowsTrail s clocks air v)
  by_sent a differ sent = (
    λ yes. absurd (false≢true (sym differ ∙ yes)),
    λ follows. sent.1 (subst (λ (l : List Sending). IsPermutation l (sent_by air v)) sent_is follows.sent),
  )

module _ (s : ScenarioParts) (clocks : ℕ → ℕ → ℕ) (air : List Entry) (v : ℕ) (unknown : knows s.nodes v ≡ false) where
  none_sent : trail_sent s clocks air v ≡ []
  none_sent = cond-false (knows s.nodes v) (trail_in s clocks air v).made.sent [] unknown

  none_tuned : trail_tuned s clocks air v ≡ []
  none_tuned = cond-false (knows s.nodes v) (trail_in s clocks air v).made.tuned [] unknown

  pub nothing_follows : sent_by air v ≡ [] → tuned_by air v ≡ [] → FollowsTrail s clocks air v
  nothing_follows sent tuned = record {
    sent = rw (none_sent, sent) (IsPermutation-refl []);
    tuned = rw (none_tuned, tuned) (IsPermutation-refl []);
  }

  pub by_no_tuned : (b : Bool) → sent_by air v ≡ [] → Decides b (tuned_by air v ≡ []) → Decides b (FollowsTrail s clocks air v)
  by_no_tuned b sent tuned = (
    λ yes. nothing_follows sent (tuned.0 yes),
    λ follows. tuned.1 (none_in (tuned_by air v) (subst (λ (l : List Tuning). IsPermutation l (tuned_by air v)) none_tuned follows.tuned)),
  )

  pub by_no_sent : (a : Bool) → a ≡ false → Decides a (sent_by air v ≡ []) → Decides a (FollowsTrail s clocks air v)
  by_no_sent a some sent = (
    λ yes. absurd (false≢true (sym some ∙ yes)),
    λ follows. sent.1 (none_in (sent_by air v) (subst (λ (l : List Sending). IsPermutation l (sent_by air v)) none_sent follows.sent)),
  )
