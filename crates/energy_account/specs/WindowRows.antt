-- What windows count, by the length of a packet.
use Rattle.std.specs.Prelude.{◌≡◌, ℕ, Some}
use Rattle.lwb_base.specs.Profile.{Numbers, airtime, step}
use Rattle.bus_rules.specs.Charges.{charge}

-- packets of this many bytes: their airtime, the time from one step to the next, and what a window counts in which a node
-- sent as often as it may, the last time in step 2 or in step 3
pub record IsRowOf (p : Numbers) (bytes air between second third : ℕ) : Type 0 where
  pub airtime_is : airtime p bytes ≡ air
  pub step_is : step p bytes ≡ between
  pub last_in_step_2 : charge p (Some (2, bytes)) ≡ second
  pub last_in_step_3 : charge p (Some (3, bytes)) ≡ third
