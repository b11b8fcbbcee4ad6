-- The opening of a window, by the packet that the node says in its slot, if it says one.
use Rattle.std.specs.Prelude.{ℕ, List, [], ◌∷◌, Some, None}
use Rattle.std.specs.declared.option.Option.{Option}
use Rattle.lwb_base.specs.declared.order.Order.{Order}
use Rattle.lwb_base.specs.declared.order.Order.TheVariants.{SendAt}
use Rattle.lwb_packets.specs.declared.kind.Kind.{Kind}
use Rattle.glossy_relay.specs.FloodState.{FloodState, listening, initiating}

abbrev pub flood_with : Kind → ℕ → ℕ → Option (List ℕ) → FloodState
flood_with kind j n None = listening kind j n
flood_with kind j n (Some p) = initiating p n

abbrev pub sent_first : ℕ → Option (List ℕ) → List Order
sent_first start None = []
sent_first start (Some p) = SendAt start p ∷ []
