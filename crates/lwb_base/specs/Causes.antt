-- When a count of faults rose, and what an answer of failure says of it.
use Rattle.std.specs.Prelude.{◌≡◌, ℕ, ◌+◌, ◌-◌, ◌^◌, ◌<◌, ◌≤◌, ◌⊎◌, min, Result, Ok, Err, OnErr}

-- the count is above what it was, or is at the last value of a `u64`
abbrev pub Rose : ℕ → ℕ → Type 0
Rose before now = (before < now) ⊎ (now ≡ 2 ^ 64 - 1)

-- the count does not fall, and a failure comes only where it rose
pub record HasCause {T E : Type 0} (before now : ℕ) (result : Result T E) : Type 0 where
  pub later : before ≤ now
  pub failed : OnErr result (Rose before now)

-- the count after a call, where each failure counts once and nothing else does. It stops at the last value of a `u64`
abbrev pub fault_count_after : {T E : Type 0} → ℕ → Result T E → ℕ
fault_count_after before (Ok v) = before
fault_count_after before (Err e) = min (before + 1) (2 ^ 64 - 1)
