-- Lines whose words are not all plain numbers, which are read word by word.
use Rattle.std.proofs.Common.{◌≡◌, ℕ, ◌<◌, ◌≤◌, List, [], ◌∷◌, Bool, true, false, ◌&&◌, if◌then◌else◌}
use Rattle.std.proofs.Common.{Option, Result, Ok, Err, Bor, length, get_or, refl, arith}
use Rattle.text_readers.specs.Faults.{spelled, ◌>>=◌}
use Rattle.scenario_text.specs.Network.{network_numbers}
use Rattle.scenario_text.specs.Payloads.{is_payload, payload}
use Rattle.scenario_text.specs.ScriptGrammar.{put_line}
use Rattle.scenario_text.specs.ScenarioGrammar.{scenario_numbers}
use Rattle.text_readers.specs.Words.{line_of_words, word, is_number, number, number_at, is_signed, has_minus, magnitude}
use Rattle.text_readers.specs.declared.fault.FaultKind.{FaultKind}
use Rattle.text_readers.specs.declared.fault.FaultKind.TheVariants.{BadNumber}
use Rattle.scenario_text.specs.declared.network_line.NetworkLine.{NetworkLine}
use Rattle.scenario_text.specs.declared.network_line.NetworkLine.TheVariants.{Rate}
use Rattle.scenario_text.specs.declared.scenario_line.ScenarioLine.{ScenarioLine}
use Rattle.scenario_text.specs.declared.scenario_line.ScenarioLine.TheVariants.{Script}
use Rattle.scenario_text.specs.declared.written_act.WrittenAct.TheVariants.{Put}
use Rattle.text_readers.proofs.NumbersRead.{read, bytes_of}

-- what a word says that may have a `-`
abbrev pub read_signed : List ℕ → Result (Bool × ℕ) FaultKind
read_signed w = if is_signed w then Ok (has_minus w, number (magnitude w)) else Err BadNumber

-- three tests one by one
three_tests : {A B : Type 0} (b c d : Bool) (m n : ℕ) (k : A) (line : ℕ → ℕ → A → B)
    → ◌≡◌ {A = Result B FaultKind} (if b && c && d then Ok (line m n k) else Err BadNumber)
    ((if b then Ok m else Err BadNumber)
    >>= (λ i. (if c then Ok n else Err BadNumber) >>= (λ j. (if d then Ok k else Err BadNumber) >>= (λ x. Ok (line i j x)))))
three_tests true true true m n k line = refl
three_tests true true false m n k line = refl
three_tests true false d m n k line = refl
three_tests false c d m n k line = refl

pub rate_read : (vs : List (Bor (List ℕ))) (z : Bor (List ℕ)) (p q : Result ℕ FaultKind) (s : Result (Bool × ℕ) FaultKind)
    → 4 ≤ length vs → length vs < 5
    → p ≡ read (get_or vs 1 z).now → q ≡ read (get_or vs 2 z).now → s ≡ read_signed (get_or vs 3 z).now
    → ◌≡◌ {A = Result NetworkLine FaultKind}
    (spelled
    (line_of_words 4 (bytes_of vs) (Rate (number_at (bytes_of vs) 1) (number_at (bytes_of vs) 2) (has_minus (word (bytes_of vs) 3))
    (number (magnitude (word (bytes_of vs) 3)))))
    (λ l. network_numbers l (bytes_of vs)))
    (p >>= (λ i. q >>= (λ t. s >>= (λ x. Ok (Rate i t x.0 x.1)))))
rate_read (h ∷ u ∷ v ∷ w ∷ []) z p q s least below is_p is_q is_s =
    rw (is_p, is_q, is_s)
    (three_tests (is_number u.now) (is_number v.now) (is_signed w.now) (number u.now) (number v.now)
    (has_minus w.now, number (magnitude w.now)) (λ i t (x : Bool × ℕ). Rate i t x.0 x.1))
rate_read [] z p q s least below is_p is_q is_s = absurd (omega (arith, least))
rate_read (h ∷ []) z p q s least below is_p is_q is_s = absurd (omega (arith, least))
rate_read (h ∷ u ∷ []) z p q s least below is_p is_q is_s = absurd (omega (arith, least))
rate_read (h ∷ u ∷ v ∷ []) z p q s least below is_p is_q is_s = absurd (omega (arith, least))
rate_read (h ∷ u ∷ v ∷ w ∷ m ∷ more) z p q s least below is_p is_q is_s = absurd (omega (arith, below))

pub put_read : (vs : List (Bor (List ℕ))) (z : Bor (List ℕ)) (p q r : Result ℕ FaultKind) (o : Option (List ℕ))
    → 5 ≤ length vs → length vs < 6 → is_payload (word (bytes_of vs) 4) ≡ true → o ≡ payload (word (bytes_of vs) 4)
    → p ≡ read (get_or vs 1 z).now → q ≡ read (get_or vs 2 z).now → r ≡ read (get_or vs 3 z).now
    → ◌≡◌ {A = Result ScenarioLine FaultKind} (spelled (put_line (bytes_of vs)) (λ l. scenario_numbers l (bytes_of vs)))
    (p >>= (λ f. q >>= (λ i. r >>= (λ s. Ok (Script f i (Put s o))))))
unfolding put_line
put_read (h ∷ u ∷ v ∷ w ∷ x ∷ []) z p q r o least below pays is_o is_p is_q is_r =
    rw (pays, is_o, is_p, is_q, is_r)
    (three_tests (is_number u.now) (is_number v.now) (is_number w.now) (number u.now) (number v.now) (number w.now)
    (λ f i s. Script f i (Put s (payload x.now))))
put_read [] z p q r o least below pays is_o is_p is_q is_r = absurd (omega (arith, least))
put_read (h ∷ []) z p q r o least below pays is_o is_p is_q is_r = absurd (omega (arith, least))
put_read (h ∷ u ∷ []) z p q r o least below pays is_o is_p is_q is_r = absurd (omega (arith, least))
put_read (h ∷ u ∷ v ∷ []) z p q r o least below pays is_o is_p is_q is_r = absurd (omega (arith, least))
put_read (h ∷ u ∷ v ∷ w ∷ []) z p q r o least below pays is_o is_p is_q is_r = absurd (omega (arith, least))
put_read (h ∷ u ∷ v ∷ w ∷ x ∷ m ∷ more) z p q r o least below pays is_o is_p is_q is_r = absurd (omega (arith, below))
