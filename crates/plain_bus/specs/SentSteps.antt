-- In which steps of a flood each node sent, as the code counts them.
use Rattle.std.specs.Prelude.{◌≡◌, ◌<◌, ◌+◌, ℕ, List, Some, None, length, slice_index_or}
use Rattle.lwb_base.specs.declared.limits.TheConstants.{MOST_NODES}
use Rattle.std.specs.List.{last_or}
use Rattle.plain_bus.specs.SlotCosts.{steps_at}
use Rattle.plain_bus.specs.declared.cost.Steps.{Steps}

-- how many steps these are, and the last of them
abbrev pub counted : List ℕ → Steps
counted ks = record { count = length ks; last = last_or None ks }

-- with a step more, after all others
abbrev pub with_step : ℕ → Steps → Steps
with_step k x = record { count = x.count + 1; last = Some k }

-- of `MOST_NODES` nodes, the steps among the first n in which each sent by the masks of the senders
pub record AreStepsOf (masks : List ℕ) (n : ℕ) (xs : List Steps) : Type 0 where
  pub size : length xs ≡ MOST_NODES
  pub each : (i : ℕ) (d : Steps) → i < MOST_NODES → slice_index_or xs i d ≡ counted (steps_at masks i n)
  pub early : (i : ℕ) (d : Steps) (k : ℕ) → i < MOST_NODES → (slice_index_or xs i d).last ≡ Some k → k < n
