-- What a node knows of the rounds: a zero on its clock, and formulas of times by it.
use Rattle.std.specs.Prelude.{◌≡◌, ℕ, ◌+◌, ◌-◌, ◌*◌, ◌^◌, ◌≤◌, min}
use Rattle.lwb_base.specs.Profile.{Numbers, airtime, step}
use Rattle.lwb_base.specs.declared.limits.TheConstants.{LAST_STEP}
use Rattle.tick_clock.specs.Clocks.{IsClock}
use Rattle.time_reference.specs.Floods.{Relayed}

-- slot 0 of a round begins at the zero, by the node's clock; a slot and a frame last this many ticks
pub record RoundTimes : Type 0 where
  pub zero : ℕ
  pub slot : ℕ
  pub frame : ℕ

-- times stop here
abbrev pub stopped : ℕ → ℕ
stopped t = min t (2 ^ 47 - 1)

abbrev pub times_of : Numbers → ℕ → RoundTimes
times_of p z = record { zero = z; slot = p.slot; frame = p.frame }

-- the zero by a schedule of slot j with n bytes and counter c whose reception began at this local time, not below 0
abbrev pub heard_zero : Numbers → ℕ → ℕ → ℕ → ℕ → ℕ
heard_zero p start c n j = start - (c * step p n + p.listen + j * p.slot)

-- a host's zero for frame f
abbrev pub host_zero : Numbers → ℕ → ℕ
host_zero p f = f * p.frame + p.lead

-- when slot j begins
abbrev pub slot_time : RoundTimes → ℕ → ℕ
slot_time r j = stopped (r.zero + j * r.slot)

-- a schedule of n bytes that is initiated in slot j at this tick, and relayed c times, is received whole by this clock, and
-- the clock told `start` for the start of that reception; all within the ticks in which the clock keeps the drift law
pub record IsHeardWhole (p : Numbers) (own : ℕ → ℕ) (origin start c n j : ℕ) : Type 0 where
  pub clock : IsClock own
  pub few : c ≤ LAST_STEP
  pub late : p.listen + j * p.slot + 55 ≤ own origin
  pub begin : ℕ
  pub relayed : Relayed p n origin c begin
  pub early : begin + airtime p n ≤ 2 ^ 48
  pub told : own (begin + airtime p n) ≡ start + airtime p n
