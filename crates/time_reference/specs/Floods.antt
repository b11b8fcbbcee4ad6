-- The times of one flood.
use Rattle.std.specs.Prelude.{◌≡◌, ℕ, zero, suc, ◌+◌, ◌<◌}
use Rattle.lwb_base.specs.Profile.{Numbers, airtime}
use Rattle.tick_clock.specs.Clocks.{Near}

-- what starts at x and ends at x', and what starts at y and ends at y', have time in common
pub record Overlap (x x' y y' : ℕ) : Type 0 where
  pub below : x < y'
  pub above : y < x'

-- a packet of n bytes that is initiated at a tick is relayed k times, each relay starting a turnaround after the end of
-- the transmission before it, but for a tick, and is sent again from tick s on
abbrev pub Relayed : Numbers → ℕ → ℕ → ℕ → ℕ → Type 0
Relayed p n origin zero s = s ≡ origin
Relayed p n origin (suc k) s = (before : ℕ) × Relayed p n origin k before × Near s (before + airtime p n + p.turn) 1
