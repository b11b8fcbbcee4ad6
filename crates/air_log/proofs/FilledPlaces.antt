-- Which places of a radio are filled, by their count.
use Rattle.std.proofs.Common.{rules, ◌≡◌, ◌≤◌, ◌+◌, ℕ, Some, None, is_some, true}
use Rattle.std.specs.declared.option.Option.{Option}
use Rattle.lwb_base.specs.declared.order.Order.{Order}
use Rattle.air_log.specs.EventOrders.{room_in, IsFilled}

-- the first this many are filled, and the others are empty
pub record First (n : ℕ) (a b c d : Option Order) : Type 0 where
  pub none : n ≡ 0 → (a ≡ None) × (b ≡ None) × (c ≡ None) × (d ≡ None)
  pub one : n ≡ 1 → (is_some a ≡ true) × (b ≡ None) × (c ≡ None) × (d ≡ None)
  pub two : n ≡ 2 → (is_some a ≡ true) × (is_some b ≡ true) × (c ≡ None) × (d ≡ None)
  pub three : n ≡ 3 → (is_some a ≡ true) × (is_some b ≡ true) × (is_some c ≡ true) × (d ≡ None)
  pub four : 4 ≤ n → room_in a b c d ≡ 0

pub first_filled : (n : ℕ) (a b c d : Option Order) → IsFilled a b c d → n + room_in a b c d ≡ 4 → First n a b c d
first_filled n a b c (Some x) filled count = search rules
first_filled n a b (Some x) None filled count = search rules
first_filled n a (Some x) None None filled count = search rules
first_filled n (Some x) None None None filled count = search rules
first_filled n None None None None filled count = search rules
