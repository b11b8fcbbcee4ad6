-- Six nodes of which no round has one that requests alone: each goes on as before after twelve rounds, once it has tried four times, so that
-- what is computed of the first rounds holds of all.
use Rattle.std.proofs.Common.{◌≡◌, ◌≤◌, ◌+◌, ◌-◌, ◌==◌, ◌&&◌, ℕ, Bool, true, not, is_some, nat_le, count_by, refl, sym, ◌∙◌, ap, arith}
use Rattle.law_times.proofs.Words.{le-leb, due_stream, Streams, SixNeverPart, SixOfThreeNeverPart, after_turns, asks_again, asks_anew, asks_in, requests_after}
use Rattle.law_times.proofs.Words.{six_askers, six_waiters}
use Rattle.law_times.proofs.Backoffs.{Backoff, backoff_of, later, requests_by, turned, asks}
use Rattle.law_times.proofs.ComputedTests.{all_up_to, never_one}

-- a node with a request due that is after so many rounds as it is twelve rounds later
module _ (node : ℕ) (x : Streams) (due : is_some (due_stream x) ≡ true) (k : ℕ)
    (again : turned node (backoff_of x) (12 + k) ≡ turned node (backoff_of x) k) where
  in_period : (m : ℕ) → k ≤ m → turned node (backoff_of x) (m + 12) ≡ turned node (backoff_of x) m
  in_period m past =
      let j : ℕ = m - k in
      let here : j + k ≡ m = omega (arith, past) in
      let there : j + (12 + k) ≡ m + 12 = omega (arith, past) in
      ap (turned node (backoff_of x)) (sym there) ∙ later node (backoff_of x) (12 + k) j ∙ ap (λ (b : Backoff). turned node b j) again
      ∙ sym (later node (backoff_of x) k j) ∙ ap (turned node (backoff_of x)) here

  same_request : (m : ℕ) → k ≤ m → requests_after node x (m + 12) ≡ requests_after node x m
  same_request m past = requests_by node x due (m + 12) ∙ ap asks (in_period m past) ∙ sym (requests_by node x due m)

-- six that begin one after another have tried four times after twelve rounds
same_asking : (node : ℕ) → turned node (0, 0) 24 ≡ turned node (0, 0) 12 → (first n : ℕ) → first + 12 ≤ n
    → asks_in (n + 12) (record { node = node; first = first }) ≡ asks_in n (record { node = node; first = first })
same_asking node again first n past =
    let one : nat_le first (n + 12) ≡ true = le-leb first (n + 12) (omega (arith, past)) in
    let two : nat_le first n ≡ true = le-leb first n (omega (arith, past)) in
    let three : n + 12 - first ≡ n - first + 12 = omega (arith, past) in
    ap (λ (b : Bool). b && requests_after node asks_anew (n + 12 - first)) one
    ∙ ap (λ (m : ℕ). requests_after node asks_anew m) three ∙ same_request node asks_anew refl 12 again (n - first) (omega (arith, past))
    ∙ ap (λ (b : Bool). b && requests_after node asks_anew (n - first)) (sym two)

counted : ℕ → ℕ
counted n = count_by (asks_in n) six_askers

same_count : (n : ℕ) → 19 ≤ n → counted (n + 12) ≡ counted n
unfolding counted turned
same_count n past =
    let a = same_asking 16 refl 0 n (omega (arith, past)) in
    let b = same_asking 17 refl 0 n (omega (arith, past)) in
    let c = same_asking 18 refl 0 n (omega (arith, past)) in
    let d = same_asking 19 refl 1 n (omega (arith, past)) in
    let e = same_asking 21 refl 5 n (omega (arith, past)) in
    let f = same_asking 27 refl 7 n (omega (arith, past)) in
    rw (a, b, c, d, e, f) refl

first_rounds : all_up_to (λ n. not (counted n == 1)) 30 ≡ true
unfolding all_up_to counted after_turns
first_rounds = refl

pub six_never_part : SixNeverPart
unfolding counted
six_never_part n = never_one counted 19 same_count first_rounds n n (omega arith)

-- six that share one of three contention slots have done so at first
same_again : (node skips : ℕ) → turned node (4, skips) 12 ≡ (4, skips) → (n : ℕ)
    → requests_after node (record asks_anew { tries = 4; skips = skips }) (n + 12) ≡ requests_after node (record asks_anew { tries = 4; skips = skips }) n
unfolding turned
same_again node skips again n = same_request node (record asks_anew { tries = 4; skips = skips }) refl 0 again n (omega arith)

counted_again : ℕ → ℕ
counted_again n = count_by (asks_again n) six_waiters

same_count_again : (n : ℕ) → 0 ≤ n → counted_again (n + 12) ≡ counted_again n
unfolding counted_again turned
same_count_again n any =
    let a = same_again 48 0 refl n in
    let b = same_again 33 0 refl n in
    let c = same_again 18 0 refl n in
    let d = same_again 3 1 refl n in
    let e = same_again 21 5 refl n in
    let f = same_again 27 7 refl n in
    rw (a, b, c, d, e, f) refl

first_rounds_again : all_up_to (λ n. not (counted_again n == 1)) 11 ≡ true
unfolding all_up_to counted_again after_turns
first_rounds_again = refl

pub six_of_three_never_part : SixOfThreeNeverPart
unfolding counted_again
six_of_three_never_part = record { shared = refl; tied = λ n. never_one counted_again 0 same_count_again first_rounds_again n n (omega arith) }
