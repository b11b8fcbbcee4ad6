-- Times by a node's own clock: those of a slot as sums that do not stop, the beginning of a relay, and the start of a
-- transmission in its flood.
use Rattle.std.specs.Prelude.{◌≡◌, ℕ, ◌+◌, ◌*◌, ◌≤◌, max}
use Rattle.lwb_base.specs.Profile.{Numbers, step}
use Rattle.lwb_base.specs.declared.limits.TheConstants.{LAST_STEP}
use Rattle.tick_clock.specs.Clocks.{Near, due}
use Rattle.time_reference.specs.Reference.{stopped}
use Rattle.time_reference.specs.Zeros.{opening_offset, starting_offset, closing_offset, tick_at_offset}
use Rattle.node_core.specs.Nodes.{opens_at, starts_at, closes_at}

-- the times of slot j by the zero z are sums of the zero and their offsets
pub record AreSums (p : Numbers) (z j : ℕ) : Type 0 where
  pub opens : opens_at p z j ≡ z + opening_offset p j
  pub starts : starts_at p z j ≡ z + starting_offset p j
  pub closes : closes_at p z j ≡ z + closing_offset p j

-- the tick at which a relay begins whose reception ended at tick t: it is ordered for a turnaround later by the clock,
-- and begins at once where that has passed
abbrev pub relay_tick : Numbers → (ℕ → ℕ) → ℕ → ℕ
relay_tick p own t = max (due own (stopped (own t + p.turn))) t

-- a transmission of n bytes with counter k starts at s in the flood that a node with this clock and zero begins in slot j: k
-- steps after it, but for k ticks
pub record InFlood (p : Numbers) (own : ℕ → ℕ) (z j n k s : ℕ) : Type 0 where
  pub few : k ≤ LAST_STEP
  pub near : Near s (tick_at_offset own z (starting_offset p j) + k * step p n) k
