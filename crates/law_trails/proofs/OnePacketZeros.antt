-- The clocks of the worked rounds of one packet keep the drift law, and the zeros of node 2 are references of its host.
use Rattle.std.proofs.Common.{◌≡◌, ℕ, ◌+◌, ◌*◌, ◌≤◌, [], ◌∷◌, ◌==◌, if◌then◌else◌, sym, ◌∙◌, ap, subst, arith}
use Rattle.std.specs.Prelude.{pos, negsuc}
use Rattle.std.proofs.lemmas.Bool.{cond_both}
use Rattle.tick_clock.specs.Clocks.{Near, IsClock, due}
use Rattle.tick_clock.specs.Rates.{segment_reading}
use Rattle.tick_clock.specs.RatesLaw.{rates_law}
use Rattle.tick_clock.proofs.Readings.{true_clock}
use Rattle.lwb_base.specs.Profile.{one}
use Rattle.time_reference.specs.Budgets.{budget_one}
use Rattle.time_reference.specs.Zeros.{Ref, nominal, start_tick}
use Rattle.law_trails.specs.OnePacket.{drifting}
use Rattle.law_trails.proofs.DriftingClocks.{fast_due, fast_dues, slow, tame_fast, tame_slow, host_clock, member_clock}

abbrev slow_or_true : ℕ → ℕ → ℕ
slow_or_true v = if 2 == v then segment_reading 0 ((0, negsuc 19) ∷ []) else λ t. t

pub clocks_drift : (v : ℕ) → IsClock (drifting v)
clocks_drift v =
    cond_both (1 == v) (segment_reading 0 ((0, pos 20) ∷ [])) (slow_or_true v) IsClock
    (λ is. rates_law 0 ((0, pos 20) ∷ []) (omega arith) tame_fast)
    (λ other. cond_both (2 == v) (segment_reading 0 ((0, negsuc 19) ∷ [])) (λ t. t) IsClock
    (λ is. rates_law 0 ((0, negsuc 19) ∷ []) (omega arith) tame_slow) (λ none. true_clock))

-- the ticks at which they come to a number
pub host_due_at : (x : ℕ) → due (drifting 1) x ≡ fast_due x
host_due_at x = ap (λ (clock : ℕ → ℕ). due clock x) host_clock ∙ fast_dues x

-- a reference by what the clock of node 2 reads when the host starts the schedule
ref_by : (z f c j : ℕ) → 1 ≤ c → c ≤ f → f ≤ c + 4 → c ≤ 4095 → j ≤ 42
    → Near (slow (fast_due (nominal one c j)) + f * 256000000) (z + j * 2112000 + 64000 + c * 256000000) 55
    → Ref one budget_one (drifting 1) (drifting 2) z f c j
ref_by z f c j begun past young run slot near =
    let reads : drifting 2 (start_tick one (drifting 1) c j) ≡ slow (fast_due (nominal one c j)) =
    ap (drifting 2) (host_due_at (nominal one c j)) ∙ ap (λ (clock : ℕ → ℕ). clock (fast_due (nominal one c j))) member_clock in
    record {
      begun = begun;
      past = past;
      young = young;
      in_run = run;
      slot = slot;
      near = subst (λ (n : ℕ). Near (n + f * 256000000) (z + j * 2112000 + 64000 + c * 256000000) 55) (sym reads) near;
    }

abbrev IsZero : ℕ → ℕ → ℕ → ℕ → Type 0
IsZero z f c j = Ref one budget_one (drifting 1) (drifting 2) z f c j

pub opened : IsZero 1343946238 5 5 0
opened = ref_by 1343946238 5 5 0 (omega arith) (omega arith) (omega arith) (omega arith) (omega arith) (omega arith)

pub granted : IsZero 2367946068 9 5 2
granted = ref_by 2367946068 9 5 2 (omega arith) (omega arith) (omega arith) (omega arith) (omega arith) (omega arith)

pub reopened : IsZero 2367905278 9 9 0
reopened = ref_by 2367905278 9 9 0 (omega arith) (omega arith) (omega arith) (omega arith) (omega arith) (omega arith)

pub closed : IsZero 3391904772 13 9 6
closed = ref_by 3391904772 13 9 6 (omega arith) (omega arith) (omega arith) (omega arith) (omega arith) (omega arith)
