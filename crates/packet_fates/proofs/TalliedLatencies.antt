-- A tally of latencies, with one more.
use Rattle.std.proofs.Common.{◌≡◌, ◌∷◌, [], ◌+◌, ◌<◌, ◌≤◌, ◌++◌, ◌^◌, ℕ, zero, suc, List, Bool, true, false, cond, if◌then◌else◌, Option, Some, None}
use Rattle.std.proofs.Common.{count_by, unwrap_or, length}
use Rattle.std.proofs.Common.{option_to_list, filter_map, get_or, take, add-zero, refl, sym, ◌∙◌, ap, subst, ⊎_elim, arith}
use Rattle.std.proofs.lemmas.Bool.{cases_Bool, lt-ltb}
use Rattle.std.proofs.lemmas.List.{length-take-le}
use Rattle.std.proofs.lemmas.List.Sums.{count_by-le-length, sum_by_push}
use Rattle.std.specs.BTreeMap.{BTreeMap, get, is_at}
use Rattle.std.specs.List.{cons_option}
use Rattle.std.specs.Map.{count_at}
use Rattle.lwb_base.proofs.Lists.{filter_map_more}
use Rattle.bus_rules.specs.declared.delivery.Delivery.{Delivery}
use Rattle.bus_terms.specs.Fates.{is_latency}
use Rattle.bus_terms.specs.declared.packets.Latency.{Latency}
use Rattle.packet_fates.specs.Latencies.{IsTallyOf, latency_cmp, some_count}
use Rattle.packet_fates.proofs.LatencyOrders.{latency_flips, latency_itself, latency_tied, same_latency}

pub number_of : (n : ℕ) → unwrap_or (some_count n) 0 ≡ n
number_of zero = refl
number_of (suc n) = ap (λ (b : Bool). unwrap_or (if b then Some (suc n) else None) 0) (lt-ltb 0 (suc n) (omega arith))

pub one_above : (n : ℕ) → some_count (n + 1) ≡ Some (n + 1)
one_above n = ap (λ (b : Bool). if b then Some (n + 1) else None) (lt-ltb 0 (n + 1) (omega arith))

-- one latency more
pub tallied_more : (before : List Latency) (old new : BTreeMap Latency ℕ) (k : Latency) → IsTallyOf before old
    → ((a : Latency) → get latency_cmp new a ≡ cond (is_at (latency_cmp k) a) (Some (count_at (get latency_cmp old) k + 1)) (get latency_cmp old a))
    → IsTallyOf (before ++ k ∷ []) new
tallied_more before old new k is written a = ⊎_elim here elsewhere (cases_Bool (is_latency a k))
  where
    more : count_by (is_latency a) (before ++ k ∷ []) ≡ count_by (is_latency a) before + cond (is_latency a k) 1 0
    more = sum_by_push (λ (b : Latency). cond (is_latency a b) 1 0) before k

    tested : (b : Bool) → is_latency k a ≡ b → get latency_cmp new a ≡ cond b (Some (count_at (get latency_cmp old) k + 1)) (get latency_cmp old a)
    tested b e = written a ∙ ap (λ (c : Bool). cond c (Some (count_at (get latency_cmp old) k + 1)) (get latency_cmp old a)) (sym (latency_tied k a) ∙ e)

    here : is_latency a k ≡ true → get latency_cmp new a ≡ some_count (count_by (is_latency a) (before ++ k ∷ []))
    here same =
        let e = same_latency a k same in
        tested true (ap (is_latency k) e ∙ latency_itself k)
        ∙ ap (λ (n : ℕ). Some (n + 1)) (ap (λ (o : Option ℕ). unwrap_or o 0) (is k) ∙ number_of _
        ∙ ap (λ (b : Latency). count_by (is_latency b) before) (sym e))
        ∙ sym (one_above (count_by (is_latency a) before))
        ∙ ap some_count (sym (more ∙ ap (λ (b : Bool). count_by (is_latency a) before + cond b 1 0) same))

    elsewhere : is_latency a k ≡ false → get latency_cmp new a ≡ some_count (count_by (is_latency a) (before ++ k ∷ []))
    elsewhere other =
        tested false (latency_flips a k other)
        ∙ is a
        ∙ ap some_count (sym (more ∙ ap (λ (b : Bool). count_by (is_latency a) before + cond b 1 0) other ∙ add-zero _))

-- with what a delivery gives
pub tallied_option : (before : List Latency) (old new : BTreeMap Latency ℕ) (o : Option Latency) (k : Latency) → o ≡ Some k → IsTallyOf before old
    → ((a : Latency) → get latency_cmp new a ≡ cond (is_at (latency_cmp k) a) (Some (count_at (get latency_cmp old) k + 1)) (get latency_cmp old a))
    → IsTallyOf (before ++ option_to_list o) new
tallied_option before old new o k at is written =
    subst (λ (p : Option Latency). IsTallyOf (before ++ option_to_list p) new) (sym at) (tallied_more before old new k is written)

module _ (g : Delivery → Option Latency) (deliveries : List Delivery) (i : ℕ) (below : i < length deliveries) where
  few_given : (xs : List Delivery) → length (filter_map g xs) ≤ length xs
  few_given [] = omega arith
  few_given (x ∷ xs) = by_given (g x) (few_given xs)
    where
      by_given : (o : Option Latency) → length (filter_map g xs) ≤ length xs → length (cons_option o (filter_map g xs)) ≤ suc (length xs)
      by_given None rest = omega arith
      by_given (Some a) rest = omega arith

  pub room_of_latency : length deliveries < 2 ^ 32 → (old : BTreeMap Latency ℕ) → IsTallyOf (filter_map g (take i deliveries)) old → (a : Latency)
      → count_at (get latency_cmp old) a + 1 < 2 ^ 32
  room_of_latency fits old is a =
      let n : count_at (get latency_cmp old) a ≡ count_by (is_latency a) (filter_map g (take i deliveries)) = ap (λ (o : Option ℕ). unwrap_or o 0) (is a)
      ∙ number_of _ in
      omega (
        arith,
        n,
        count_by-le-length (is_latency a) (filter_map g (take i deliveries)),
        few_given (take i deliveries),
        length-take-le i deliveries
            (omega arith),
      )

  pub deliveries_more : (new : BTreeMap Latency ℕ) (d : Delivery) (o : Option Latency) → d ≡ get_or deliveries i d → o ≡ g d
      → IsTallyOf (filter_map g (take i deliveries) ++ option_to_list o) new → IsTallyOf (filter_map g (take (i + 1) deliveries)) new
  deliveries_more new d o at is tallied =
      subst (λ (xs : List Latency). IsTallyOf xs new)
      (ap (λ (p : Option Latency). filter_map g (take i deliveries) ++ option_to_list p) is ∙ sym (filter_map_more g deliveries i d below at)) tallied
