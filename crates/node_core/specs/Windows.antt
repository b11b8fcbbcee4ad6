-- A window while it is open.
use Rattle.std.specs.Prelude.{ℕ}
use Rattle.std.specs.declared.option.Option.{Option}
use Rattle.glossy_relay.specs.FloodState.{FloodState}
use Rattle.bus_rules.specs.declared.part.Part.{Part}

-- what only a window has: what its slot is for, the last slot of the round, its flood, and the zero by the first schedule
-- that was accepted in it
pub record Window : Type 0 where
  pub part : Part
  pub last : ℕ
  pub flood : FloodState
  pub reference : Option ℕ
