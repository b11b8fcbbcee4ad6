-- The zeros of a round, each with where it comes from.
use Rattle.std.specs.Prelude.{◌≡◌, ℕ, ◌+◌, ◌*◌, ◌<◌, ◌≤◌, ◌⊎◌}
use Rattle.lwb_base.specs.Profile.{Numbers}
use Rattle.lwb_base.specs.declared.limits.TheConstants.{GREATEST_GAP}
use Rattle.tick_clock.specs.Clocks.{Near, due}
use Rattle.time_reference.specs.Budgets.{Budget}
use Rattle.time_reference.specs.Drift.{drift}

-- what the host's clock is to read when it starts the packet of slot j in frame c
abbrev pub nominal : Numbers → ℕ → ℕ → ℕ
nominal p c j = c * p.frame + p.lead + j * p.slot + p.listen

-- the tick at which the host with this clock starts it
abbrev pub start_tick : Numbers → (ℕ → ℕ) → ℕ → ℕ → ℕ
start_tick p host c j = due host (nominal p c j)

-- the offsets from a round's zero at which slot j opens, at which its initiator starts, and at which it closes
abbrev pub opening_offset : Numbers → ℕ → ℕ
opening_offset p j = j * p.slot

abbrev pub starting_offset : Numbers → ℕ → ℕ
starting_offset p j = j * p.slot + p.listen

abbrev pub closing_offset : Numbers → ℕ → ℕ
closing_offset p j = j * p.slot + p.close

-- the greatest offset of any order of a round
abbrev pub greatest : Numbers → Budget → ℕ
greatest p b = closing_offset p b.last

-- the tick at which a clock with the zero z comes to the offset q
abbrev pub tick_at_offset : (ℕ → ℕ) → ℕ → ℕ → ℕ
tick_at_offset own z q = due own (z + q)

-- the greatest difference of two zeros of one round
abbrev pub apart : Budget → ℕ
apart b = 2 * drift b.age + 114

-- the drift of a clock over one round
abbrev pub round_drift : Numbers → Budget → ℕ
round_drift p b = drift (b.last * p.slot + p.listen)

-- z is a zero for frame f on the clock `own`, taken from the schedule of slot j of frame c, with an error of at most 55
-- ticks of this clock
pub record Ref (p : Numbers) (b : Budget) (host own : ℕ → ℕ) (z f c j : ℕ) : Type 0 where
  pub begun : 1 ≤ c
  pub past : c ≤ f
  pub young : f ≤ c + GREATEST_GAP
  pub in_run : c ≤ 4095
  pub slot : j ≤ b.last
  pub near : Near (own (start_tick p host c j) + f * p.frame) (z + j * p.slot + p.listen + c * p.frame) 55

-- a reference from the schedule of slot j of frame c is m ticks old at the offset q of frame f
abbrev pub IsAge : Numbers → ℕ → ℕ → ℕ → ℕ → ℕ → Type 0
IsAge p f c j q m = m + j * p.slot + p.listen + c * p.frame ≡ f * p.frame + q

-- the reference from slot j of frame c may be used from the offset q of frame f on: it is of an earlier frame, or its
-- slot is closed then
abbrev pub IsUsable : Numbers → ℕ → ℕ → ℕ → ℕ → Type 0
IsUsable p f c j q = (c < f) ⊎ (closing_offset p j ≤ q)

-- z is a zero for frame f whose times from the offset `from` on may be used
pub record Good (p : Numbers) (b : Budget) (host own : ℕ → ℕ) (z f from : ℕ) : Type 0 where
  pub c : ℕ
  pub j : ℕ
  pub ref : Ref p b host own z f c j
  pub after : IsUsable p f c j from
