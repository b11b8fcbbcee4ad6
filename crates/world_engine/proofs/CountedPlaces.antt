-- What is counted place by place.
use Rattle.std.proofs.Common.{◌≡◌, ℕ, zero, suc, ◌+◌, ◌<◌, ◌≤◌, ◌^◌, List, [], ◌∷◌, ◌++◌, length, set, get_or, Option, Some, ◌⊎◌, inl, inr, refl, sym, ◌∙◌, ap}
use Rattle.std.proofs.Common.{subst, arith}
use Rattle.std.specs.Prelude.{slice_get, All}
use Rattle.std.proofs.lemmas.Bool.{cases_order}
use Rattle.std.proofs.lemmas.List.{length-set, length_push}
use Rattle.std.proofs.lemmas.Option.{same_Some, slice_get_within, slice_get-get_or, get_or_from_slice_get}
use Rattle.lwb_base.proofs.Lists.{set_elsewhere}
use Rattle.air_log.specs.declared.charge.NodeCharge.{NodeCharge}
use Rattle.air_log.specs.DeviceStates.{DeviceState}
use Rattle.air_log.specs.WindowSums.{WindowSum}
use Rattle.world_engine.specs.Counting.{scans_now, AreCountedOn, charge_for, AreCharges}
use Rattle.world_engine.proofs.DevicePlaces.{at_set}

-- the places below i have been counted once more if their devices scan
pub record IsCountedUpto (devices : List DeviceState) (i : ℕ) (before now : List ℕ) : Type 0 where
  pub long : length now ≡ length before
  pub done : (p : ℕ) (d : DeviceState) (n : ℕ) → p < i → slice_get devices p ≡ Some d → slice_get before p ≡ Some n → slice_get now p ≡ Some (n + scans_now d)
  pub todo : (p : ℕ) → i ≤ p → slice_get now p ≡ slice_get before p

pub none_counted : (devices : List DeviceState) (scanned : List ℕ) → IsCountedUpto devices 0 scanned scanned
none_counted devices scanned = record { long = refl; done = λ p d n below at_d at_n. absurd (omega (arith, below)); todo = λ p above. refl }

module _ (devices : List DeviceState) (i : ℕ) (before now : List ℕ) (is : IsCountedUpto devices i before now) (many : length before ≡ length devices)
    (below : i < length devices) where
  -- the number at the next place
  pub number_at : (n : ℕ) → n ≡ get_or now i n → slice_get now i ≡ Some n
  number_at n read = slice_get-get_or now i n (omega (arith, is.long, many, below)) ∙ ap (λ (k : ℕ). let o : Option ℕ = Some k in o) (sym read)

  pub few_at : (n : ℕ) → n ≡ get_or now i n → All (λ k. k < 2 ^ 31) before → n < 2 ^ 31
  few_at n read few =
      let there : slice_get before i ≡ Some n = sym (is.todo i (omega arith)) ∙ number_at n read in
      let small = few i n (slice_get_within before i n there) in
      let same = get_or_from_slice_get before i n n there in
      omega (arith, small, same)

  pub one_counted : (d : DeviceState) (n more : ℕ) (new : List ℕ) → d ≡ get_or devices i d → n ≡ get_or now i n → more ≡ scans_now d
      → new ≡ set now i (n + more) → IsCountedUpto devices (i + 1) before new
  one_counted d n more new is_d is_n is_more is_new = subst (IsCountedUpto devices (i + 1) before) (sym is_new) (record {
    long = length-set now i (n + more) ∙ is.long;
    done = λ p e k less at_e at_k. by p e k less at_e at_k (cases_order p i);
    todo = λ p above. set_elsewhere now i p (n + more) (λ same. omega (arith, same, above)) ∙ is.todo p (omega (arith, above));
  })
    where
      here : slice_get devices i ≡ Some d
      here = slice_get-get_or devices i d below ∙ ap (λ (e : DeviceState). let o : Option DeviceState = Some e in o) (sym is_d)

      by : (p : ℕ) (e : DeviceState) (k : ℕ) → p < i + 1 → slice_get devices p ≡ Some e → slice_get before p ≡ Some k → (p ≡ i) ⊎ ((p < i) ⊎ (i < p))
          → slice_get (set now i (n + more)) p ≡ Some (k + scans_now e)
      by p e k less at_e at_k (inl same) =
          let is_e : d ≡ e = same_Some d e (sym here ∙ ap (slice_get devices) (sym same) ∙ at_e) in
          let is_k : n ≡ k = same_Some n k (sym (number_at n is_n) ∙ is.todo i (omega arith) ∙ ap (slice_get before) (sym same) ∙ at_k) in
          ap (slice_get (set now i (n + more))) same
          ∙ at_set now i (n + more) (slice_get_within now i n (number_at n is_n))
          ∙ ap (λ (m : ℕ). let o : Option ℕ = Some (n + m) in o) (is_more ∙ ap scans_now is_e)
          ∙ ap (λ (m : ℕ). let o : Option ℕ = Some (m + scans_now e) in o) is_k
      by p e k less at_e at_k (inr (inl lower)) = set_elsewhere now i p (n + more) (λ same. omega (arith, same, lower)) ∙ is.done p e k lower at_e at_k
      by p e k less at_e at_k (inr (inr higher)) = absurd (omega (arith, less, higher))

pub all_counted : (devices : List DeviceState) (i : ℕ) (before now : List ℕ) → length devices ≤ i → IsCountedUpto devices i before now
    → AreCountedOn devices before now
all_counted devices i before now end is = record {
  long = is.long;
  each = λ p d n at_d at_n. (let below = slice_get_within devices p d at_d in is.done p d n (omega (arith, below, end)) at_d at_n);
}

-- a list with one more
pub pushed_before : {X : Type 0} (xs : List X) (y : X) (p : ℕ) → p < length xs → slice_get (xs ++ y ∷ []) p ≡ slice_get xs p
pushed_before [] y p less = absurd (omega (arith, less))
pushed_before (x ∷ xs) y zero less = refl
pushed_before (x ∷ xs) y (suc p) less = pushed_before xs y p (omega (arith, less))

pub pushed_last : {X : Type 0} (xs : List X) (y : X) → slice_get (xs ++ y ∷ []) (length xs) ≡ Some y
pushed_last [] y = refl
pushed_last (x ∷ xs) y = pushed_last xs y

-- the first i charges
pub record AreChargedUpto (sums : List WindowSum) (scanned : List ℕ) (i : ℕ) (charges : List NodeCharge) : Type 0 where
  pub long : length charges ≡ i
  pub each : (p : ℕ) (x : WindowSum) (n : ℕ) → p < i → slice_get sums p ≡ Some x → slice_get scanned p ≡ Some n → slice_get charges p ≡ Some (charge_for x n)

pub none_charged : (sums : List WindowSum) (scanned : List ℕ) (charges : List NodeCharge) → charges ≡ [] → AreChargedUpto sums scanned 0 charges
none_charged sums scanned charges is = record { long = ap length is; each = λ p x n below at_x at_n. absurd (omega (arith, below)) }

pub one_charged : (sums : List WindowSum) (scanned : List ℕ) (i : ℕ) (charges : List NodeCharge) → AreChargedUpto sums scanned i charges
    → i < length sums → i < length scanned
    → (x : WindowSum) (n : ℕ) (charge : NodeCharge) (new : List NodeCharge) → x ≡ get_or sums i x → n ≡ get_or scanned i n → charge ≡ charge_for x n
    → new ≡ charges ++ charge ∷ [] → AreChargedUpto sums scanned (i + 1) new
one_charged sums scanned i charges is in_sums in_scanned x n charge new is_x is_n is_charge is_new =
    subst (AreChargedUpto sums scanned (i + 1)) (sym is_new) (record {
      long = length_push charges charge ∙ ap (λ (k : ℕ). k + 1) is.long;
      each = λ p y k less at_y at_k. by p y k less at_y at_k (cases_order p i);
    })
  where
    sum_here : slice_get sums i ≡ Some x
    sum_here = slice_get-get_or sums i x in_sums ∙ ap (λ (y : WindowSum). let o : Option WindowSum = Some y in o) (sym is_x)

    count_here : slice_get scanned i ≡ Some n
    count_here = slice_get-get_or scanned i n in_scanned ∙ ap (λ (k : ℕ). let o : Option ℕ = Some k in o) (sym is_n)

    by : (p : ℕ) (y : WindowSum) (k : ℕ) → p < i + 1 → slice_get sums p ≡ Some y → slice_get scanned p ≡ Some k → (p ≡ i) ⊎ ((p < i) ⊎ (i < p))
        → slice_get (charges ++ charge ∷ []) p ≡ Some (charge_for y k)
    by p y k less at_y at_k (inl same) =
        let is_y : x ≡ y = same_Some x y (sym sum_here ∙ ap (slice_get sums) (sym same) ∙ at_y) in
        let is_k : n ≡ k = same_Some n k (sym count_here ∙ ap (slice_get scanned) (sym same) ∙ at_k) in
        ap (slice_get (charges ++ charge ∷ [])) (same ∙ sym is.long)
        ∙ pushed_last charges charge
        ∙ ap (λ (c : NodeCharge). let o : Option NodeCharge = Some c in o) (is_charge ∙ ap (λ (z : WindowSum). charge_for z n) is_y ∙ ap (charge_for y) is_k)
    by p y k less at_y at_k (inr (inl lower)) = pushed_before charges charge p (omega (arith, lower, is.long)) ∙ is.each p y k lower at_y at_k
    by p y k less at_y at_k (inr (inr higher)) = absurd (omega (arith, less, higher))

pub all_charged : (sums : List WindowSum) (scanned : List ℕ) (i : ℕ) (charges : List NodeCharge) → i ≡ length scanned
    → AreChargedUpto sums scanned i charges → AreCharges sums scanned charges
all_charged sums scanned i charges end is = record {
  long = is.long ∙ end;
  each = λ p x n at_x at_n. (let below = slice_get_within scanned p n at_n in is.each p x n (omega (arith, below, end)) at_x at_n);
}
