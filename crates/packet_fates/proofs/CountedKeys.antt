-- Counts by key, with one more.
use Rattle.std.proofs.Common.{◌≡◌, ◌+◌, ◌<◌, ◌^◌, ℕ, List, Bool, true, false, cond, Option, Some, get_or, length, take, count_by, unwrap_or}
use Rattle.std.proofs.Common.{add-zero, sym, ◌∙◌, ap, ⊎_elim, arith}
use Rattle.std.proofs.lemmas.Bool.{cases_Bool}
use Rattle.std.proofs.lemmas.List.{length-take-le}
use Rattle.std.proofs.lemmas.List.Sums.{count_by-le-length}
use Rattle.std.specs.BTreeMap.{is_at}
use Rattle.std.specs.Map.{count_at}
use Rattle.std.specs.Ordering.{is_eq}
use Rattle.std.specs.declared.cmp.Ordering.{Ordering}
use Rattle.packet_fates.proofs.FirstOnes.{count_more}

-- where a map counts one more at the key k, and is as before elsewhere
module _ {K : Type 0} (c : K → K → Ordering) (same : K → K → Bool) (tied : (a b : K) → same a b ≡ is_eq (c a b))
    (equal : (a b : K) → same a b ≡ true → a ≡ b) (before after : K → Option ℕ) (k : K)
    (written : (x : K) → after x ≡ cond (is_at (c k) x) (Some (count_at before k + 1)) (before x)) where
  tested : (x : K) (b : Bool) → same k x ≡ b → after x ≡ cond b (Some (count_at before k + 1)) (before x)
  tested x b is = written x ∙ ap (λ (b : Bool). cond b (Some (count_at before k + 1)) (before x)) (sym (tied k x) ∙ is)

  pub counted_one : (x : K) → count_at after x ≡ count_at before x + cond (same k x) 1 0
  counted_one x = ⊎_elim here elsewhere (cases_Bool (same k x))
    where
      here : same k x ≡ true → count_at after x ≡ count_at before x + cond (same k x) 1 0
      here is =
          ap (λ (o : Option ℕ). unwrap_or o 0) (tested x true is)
          ∙ ap (λ (y : K). count_at before y + 1) (equal k x is)
          ∙ ap (λ (b : Bool). count_at before x + cond b 1 0) (sym is)

      elsewhere : same k x ≡ false → count_at after x ≡ count_at before x + cond (same k x) 1 0
      elsewhere is =
          ap (λ (o : Option ℕ). unwrap_or o 0) (tested x false is)
          ∙ sym (add-zero (count_at before x))
          ∙ ap (λ (b : Bool). count_at before x + cond b 1 0) (sym is)

-- of the elements below place i
module _ {X K : Type 0} (test : K → X → Bool) (xs : List X) (i : ℕ) (before : K → Option ℕ) (below : i < length xs)
    (counted : (k : K) → count_at before k ≡ count_by (test k) (take i xs)) where
  pub room_for_one : length xs < 2 ^ 32 → (k : K) → count_at before k + 1 < 2 ^ 32
  room_for_one fits k = omega (arith, counted k, count_by-le-length (test k) (take i xs), length-take-le i xs (omega arith))

  pub counted_next : (x : X) (after : K → Option ℕ) → x ≡ get_or xs i x → ((k : K) → count_at after k ≡ count_at before k + cond (test k x) 1 0)
      → (k : K) → count_at after k ≡ count_by (test k) (take (i + 1) xs)
  counted_next x after at more k = more k ∙ ap (λ (n : ℕ). n + cond (test k x) 1 0) (counted k) ∙ sym (count_more (test k) xs i x below at)
