-- A node scans in the frames in which it scans on the bus.
use Rattle.std.proofs.Common.{◌≡◌, ℕ, zero, suc, ◌+◌, ◌<◌, ◌≤◌, Bool, if◌then◌else◌, nat_lt, None, cond, count_by, refl, sym, ◌∙◌, ap, arith, lt-ltb}
use Rattle.std.specs.List.{range_with_len}
use Rattle.std.proofs.lemmas.Bool.{cond-true}
use Rattle.std.proofs.lemmas.List.Sums.{sum_by-cons}
use Rattle.bus_rules.specs.Tuning.{is_scan}
use Rattle.bus_rules.specs.States.{State}
use Rattle.air_log.specs.Charges.{scans_with}
use Rattle.air_log.specs.Devices.{Power, PowerOff, PowerOn, state_of_power}
use Rattle.air_log.specs.Lawful.{heard_by}
use Rattle.air_log.specs.Trails.{at_frame, tune_at, tune_of}
use Rattle.bus_terms.specs.Bus.{state_at}
use Rattle.bus_terms.specs.ScriptedStates.{is_on_and}
use Rattle.law_terms.specs.SlotSteps.{SlotHeardLaw}
use Rattle.law_bus.specs.ScannedFrames.{ScansLaw}
use Rattle.law_bus.proofs.CoresOfWindows.{run_law}

-- tests that agree over a range pass as often
same_counts : (p q : ℕ → Bool) (a n : ℕ) → ((k : ℕ) → a ≤ k → k < a + n → p k ≡ q k) → count_by p (range_with_len a n) ≡ count_by q (range_with_len a n)
same_counts p q a zero same = refl
same_counts p q a (suc n) same =
    let rest = same_counts p q (a + 1) n (λ k from below. same k (omega (arith, from)) (omega (arith, below))) in
    sum_by-cons (λ (k : ℕ). cond (p k) 1 0) a (range_with_len (a + 1) n)
    ∙ ap (λ (k : ℕ). (if p a then 1 else 0) + k) rest
    ∙ ap (λ (b : Bool). (if b then 1 else 0) + count_by q (range_with_len (a + 1) n)) (same a (omega arith) (omega arith))
    ∙ sym (sum_by-cons (λ (k : ℕ). cond (q k) 1 0) a (range_with_len (a + 1) n))

scans_seen : (p : Power) → scans_with (tune_of p) ≡ is_on_and (λ c. is_scan c.tune) (state_of_power p)
scans_seen (PowerOff boots) = refl
scans_seen (PowerOn n) = refl

pub scans_law : SlotHeardLaw → ScansLaw
scans_law heards s clocks air lawful v known =
    same_counts (λ (f : ℕ). is_on_and (λ c. is_scan c.tune) (state_at s f v)) (λ (f : ℕ). scans_with (tune_at s v (clocks v) (heard_by air v) f)) 0 s.frames
    (λ f from below.
    let in_run : f < s.frames = omega (arith, below) in
    ap (λ (x : State). is_on_and (λ c. is_scan c.tune) x) (sym (run_law heards s clocks air lawful v f known in_run))
    ∙ sym (scans_seen (at_frame s v (clocks v) (heard_by air v) f).power)
    ∙ ap scans_with (sym (cond-true (nat_lt f s.frames) (tune_of (at_frame s v (clocks v) (heard_by air v) f).power) None (lt-ltb f s.frames in_run))))
