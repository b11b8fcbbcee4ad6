-- What a radio was given.
use Rattle.std.specs.Prelude.{◌≡◌, ℕ, ◌+◌, List, ◌++◌, length}
use Rattle.lwb_base.specs.declared.order.Order.{Order}

-- the orders given to it so far, in their order, and how many more it takes
pub record Told : Type 0 where
  pub given : List Order
  pub room : ℕ

-- these orders were given to it, one after another
pub record Gives (before after : Told) (orders : List Order) : Type 0 where
  pub given : after.given ≡ before.given ++ orders
  pub spent : after.room + length orders ≡ before.room
