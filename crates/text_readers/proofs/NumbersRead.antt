-- Numbers after a first word, which are read one by one.
use Rattle.std.proofs.Common.{◌≡◌, ℕ, ◌<◌, ◌≤◌, List, [], ◌∷◌, Bool, true, false, ◌&&◌, if◌then◌else◌}
use Rattle.std.proofs.Common.{Result, Ok, Err, Bor, length, map, drop, get_or, refl, sym, arith}
use Rattle.std.specs.List.{list_all}
use Rattle.text_readers.specs.Faults.{spelled, ◌>>=◌}
use Rattle.text_readers.specs.Words.{line_of_words, is_number, number, number_at}
use Rattle.text_readers.specs.declared.fault.FaultKind.{FaultKind}
use Rattle.text_readers.specs.declared.fault.FaultKind.TheVariants.{BadNumber}

-- what a word says
abbrev pub read : List ℕ → Result ℕ FaultKind
read w = if is_number w then Ok (number w) else Err BadNumber

abbrev pub bytes_of : List (Bor (List ℕ)) → List (List ℕ)
bytes_of vs = map (λ w. w.now) vs

-- the words after the first are numbers
abbrev pub are_numbers : List (Bor (List ℕ)) → Bool
are_numbers vs = list_all is_number (drop 1 (bytes_of vs))

cond_same : (b : Bool) (m : ℕ) → (if b && true then Ok m else Err BadNumber) ≡ (if b then Ok m else Err BadNumber)
cond_same true m = refl
cond_same false m = refl

-- one test more
pub one_more : {A : Type 0} (b others : Bool) (m : ℕ) (x : A) (next : ℕ → Result A FaultKind)
    → next m ≡ (if others then Ok x else Err BadNumber)
    → (if b && others then Ok x else Err BadNumber) ≡ ((if b then Ok m else Err BadNumber) >>= next)
one_more true others m x next is = sym is
one_more false others m x next is = refl

pub one_read : (vs : List (Bor (List ℕ))) (z : Bor (List ℕ)) (p : Result ℕ FaultKind) → 2 ≤ length vs → length vs < 3
    → p ≡ read (get_or vs 1 z).now
    → spelled (line_of_words 2 (bytes_of vs) (number_at (bytes_of vs) 1)) (λ _. are_numbers vs) ≡ p
one_read (h ∷ u ∷ []) z p least below is_p = rw is_p (cond_same (is_number u.now) (number u.now))
one_read [] z p least below is_p = absurd (omega (arith, least))
one_read (h ∷ []) z p least below is_p = absurd (omega (arith, least))
one_read (h ∷ u ∷ m ∷ more) z p least below is_p = absurd (omega (arith, below))

pub two_read : (vs : List (Bor (List ℕ))) (z : Bor (List ℕ)) (p q : Result ℕ FaultKind) → 3 ≤ length vs → length vs < 4
    → p ≡ read (get_or vs 1 z).now → q ≡ read (get_or vs 2 z).now
    → spelled {L = ℕ × ℕ} (line_of_words 3 (bytes_of vs) (number_at (bytes_of vs) 1, number_at (bytes_of vs) 2)) (λ _. are_numbers vs) ≡
    (p >>= (λ a. (q >>= (λ b. Ok (a, b)))))
two_read (h ∷ u ∷ v ∷ []) z p q least below is_p is_q =
    rw (is_p, is_q)
    (one_more {A = ℕ × ℕ} (is_number u.now) (is_number v.now && true) (number u.now) (number u.now, number v.now) (λ a. (read v.now >>= (λ b. Ok (a, b))))
    (sym (one_more {A = ℕ × ℕ} (is_number v.now) true (number v.now) (number u.now, number v.now) (λ b. Ok (number u.now, b)) refl)))
two_read [] z p q least below is_p is_q = absurd (omega (arith, least))
two_read (h ∷ []) z p q least below is_p is_q = absurd (omega (arith, least))
two_read (h ∷ u ∷ []) z p q least below is_p is_q = absurd (omega (arith, least))
two_read (h ∷ u ∷ v ∷ m ∷ more) z p q least below is_p is_q = absurd (omega (arith, below))

pub three_read : (vs : List (Bor (List ℕ))) (z : Bor (List ℕ)) (p q r : Result ℕ FaultKind) → 4 ≤ length vs → length vs < 5
    → p ≡ read (get_or vs 1 z).now → q ≡ read (get_or vs 2 z).now → r ≡ read (get_or vs 3 z).now
    → spelled {L = ℕ × ℕ × ℕ} (line_of_words 4 (bytes_of vs) (number_at (bytes_of vs) 1, number_at (bytes_of vs) 2, number_at (bytes_of vs) 3))
    (λ _. are_numbers vs) ≡ (p >>= (λ a. (q >>= (λ b. (r >>= (λ c. Ok (a, b, c)))))))
three_read (h ∷ u ∷ v ∷ w ∷ []) z p q r least below is_p is_q is_r =
    rw (is_p, is_q, is_r)
    (one_more {A = ℕ × ℕ × ℕ} (is_number u.now) (is_number v.now && (is_number w.now && true)) (number u.now) (number u.now, number v.now, number w.now)
    (λ a. (read v.now >>= (λ b. (read w.now >>= (λ c. Ok (a, b, c))))))
    (sym (one_more {A = ℕ × ℕ × ℕ} (is_number v.now) (is_number w.now && true) (number v.now) (number u.now, number v.now, number w.now)
    (λ b. (read w.now >>= (λ c. Ok (number u.now, b, c))))
    (sym (one_more {A = ℕ × ℕ × ℕ} (is_number w.now) true (number w.now) (number u.now, number v.now, number w.now)
    (λ c. Ok (number u.now, number v.now, c)) refl)))))
three_read [] z p q r least below is_p is_q is_r = absurd (omega (arith, least))
three_read (h ∷ []) z p q r least below is_p is_q is_r = absurd (omega (arith, least))
three_read (h ∷ u ∷ []) z p q r least below is_p is_q is_r = absurd (omega (arith, least))
three_read (h ∷ u ∷ v ∷ []) z p q r least below is_p is_q is_r = absurd (omega (arith, least))
three_read (h ∷ u ∷ v ∷ w ∷ m ∷ more) z p q r least below is_p is_q is_r = absurd (omega (arith, below))

pub four_read : (vs : List (Bor (List ℕ))) (z : Bor (List ℕ)) (p q r s : Result ℕ FaultKind) → 5 ≤ length vs → length vs < 6
    → p ≡ read (get_or vs 1 z).now → q ≡ read (get_or vs 2 z).now → r ≡ read (get_or vs 3 z).now → s ≡ read (get_or vs 4 z).now
    → spelled {L = ℕ × ℕ × ℕ × ℕ}
    (line_of_words 5 (bytes_of vs) (number_at (bytes_of vs) 1, number_at (bytes_of vs) 2, number_at (bytes_of vs) 3, number_at (bytes_of vs) 4))
    (λ _. are_numbers vs) ≡ (p >>= (λ a. (q >>= (λ b. (r >>= (λ c. (s >>= (λ d. Ok (a, b, c, d)))))))))
four_read (h ∷ u ∷ v ∷ w ∷ x ∷ []) z p q r s least below is_p is_q is_r is_s =
    rw (is_p, is_q, is_r, is_s)
    (one_more {A = ℕ × ℕ × ℕ × ℕ} (is_number u.now) (is_number v.now && (is_number w.now && (is_number x.now && true))) (number u.now)
    (number u.now, number v.now, number w.now, number x.now) (λ a. (read v.now >>= (λ b. (read w.now >>= (λ c. (read x.now >>= (λ d. Ok (a, b, c, d))))))))
    (sym (one_more {A = ℕ × ℕ × ℕ × ℕ} (is_number v.now) (is_number w.now && (is_number x.now && true)) (number v.now)
    (number u.now, number v.now, number w.now, number x.now) (λ b. (read w.now >>= (λ c. (read x.now >>= (λ d. Ok (number u.now, b, c, d))))))
    (sym (one_more {A = ℕ × ℕ × ℕ × ℕ} (is_number w.now) (is_number x.now && true) (number w.now) (number u.now, number v.now, number w.now, number x.now)
    (λ c. (read x.now >>= (λ d. Ok (number u.now, number v.now, c, d))))
    (sym (one_more {A = ℕ × ℕ × ℕ × ℕ} (is_number x.now) true (number x.now) (number u.now, number v.now, number w.now, number x.now)
    (λ d. Ok (number u.now, number v.now, number w.now, d)) refl)))))))
four_read [] z p q r s least below is_p is_q is_r is_s = absurd (omega (arith, least))
four_read (h ∷ []) z p q r s least below is_p is_q is_r is_s = absurd (omega (arith, least))
four_read (h ∷ u ∷ []) z p q r s least below is_p is_q is_r is_s = absurd (omega (arith, least))
four_read (h ∷ u ∷ v ∷ []) z p q r s least below is_p is_q is_r is_s = absurd (omega (arith, least))
four_read (h ∷ u ∷ v ∷ w ∷ []) z p q r s least below is_p is_q is_r is_s = absurd (omega (arith, least))
four_read (h ∷ u ∷ v ∷ w ∷ x ∷ m ∷ more) z p q r s least below is_p is_q is_r is_s = absurd (omega (arith, below))

pub five_read : (vs : List (Bor (List ℕ))) (z : Bor (List ℕ)) (p q r s t : Result ℕ FaultKind) → 6 ≤ length vs → length vs < 7
    → p ≡ read (get_or vs 1 z).now → q ≡ read (get_or vs 2 z).now → r ≡ read (get_or vs 3 z).now → s ≡ read (get_or vs 4 z).now → t ≡ read (get_or vs 5 z).now
    → spelled {L = ℕ × ℕ × ℕ × ℕ × ℕ}
    (line_of_words 6 (bytes_of vs) (
      number_at (bytes_of vs) 1,
      number_at (bytes_of vs) 2,
      number_at (bytes_of vs) 3,
      number_at (bytes_of vs) 4,
      number_at
          (bytes_of vs) 5,
    ))
    (λ _. are_numbers vs) ≡ (p >>= (λ a. (q >>= (λ b. (r >>= (λ c. (s >>= (λ d. (t >>= (λ e. Ok (a, b, c, d, e)))))))))))
five_read (h ∷ u ∷ v ∷ w ∷ x ∷ y ∷ []) z p q r s t least below is_p is_q is_r is_s is_t =
    rw (is_p, is_q, is_r, is_s, is_t)
    (one_more {A = ℕ × ℕ × ℕ × ℕ × ℕ} (is_number u.now) (is_number v.now && (is_number w.now && (is_number x.now && (is_number y.now && true)))) (number u.now)
    (number u.now, number v.now, number w.now, number x.now, number y.now)
    (λ a. (read v.now >>= (λ b. (read w.now >>= (λ c. (read x.now >>= (λ d. (read y.now >>= (λ e. Ok (a, b, c, d, e))))))))))
    (sym (one_more {A = ℕ × ℕ × ℕ × ℕ × ℕ} (is_number v.now) (is_number w.now && (is_number x.now && (is_number y.now && true))) (number v.now)
    (number u.now, number v.now, number w.now, number x.now, number y.now)
    (λ b. (read w.now >>= (λ c. (read x.now >>= (λ d. (read y.now >>= (λ e. Ok (number u.now, b, c, d, e))))))))
    (sym (one_more {A = ℕ × ℕ × ℕ × ℕ × ℕ} (is_number w.now) (is_number x.now && (is_number y.now && true)) (number w.now)
    (number u.now, number v.now, number w.now, number x.now, number y.now)
    (λ c. (read x.now >>= (λ d. (read y.now >>= (λ e. Ok (number u.now, number v.now, c, d, e))))))
    (sym (one_more {A = ℕ × ℕ × ℕ × ℕ × ℕ} (is_number x.now) (is_number y.now && true) (number x.now)
    (number u.now, number v.now, number w.now, number x.now, number y.now) (λ d. (read y.now >>= (λ e. Ok (number u.now, number v.now, number w.now, d, e))))
    (sym (one_more {A = ℕ × ℕ × ℕ × ℕ × ℕ} (is_number y.now) true (number y.now) (number u.now, number v.now, number w.now, number x.now, number y.now)
    (λ e. Ok (number u.now, number v.now, number w.now, number x.now, e)) refl)))))))))
five_read [] z p q r s t least below is_p is_q is_r is_s is_t = absurd (omega (arith, least))
five_read (h ∷ []) z p q r s t least below is_p is_q is_r is_s is_t = absurd (omega (arith, least))
five_read (h ∷ u ∷ []) z p q r s t least below is_p is_q is_r is_s is_t = absurd (omega (arith, least))
five_read (h ∷ u ∷ v ∷ []) z p q r s t least below is_p is_q is_r is_s is_t = absurd (omega (arith, least))
five_read (h ∷ u ∷ v ∷ w ∷ []) z p q r s t least below is_p is_q is_r is_s is_t = absurd (omega (arith, least))
five_read (h ∷ u ∷ v ∷ w ∷ x ∷ []) z p q r s t least below is_p is_q is_r is_s is_t = absurd (omega (arith, least))
five_read (h ∷ u ∷ v ∷ w ∷ x ∷ y ∷ m ∷ more) z p q r s t least below is_p is_q is_r is_s is_t = absurd (omega (arith, below))
