-- How a slot closes at all nodes, by what each accepted.
use Rattle.std.specs.Prelude.{◌≡◌, ℕ, List, Bool, true, Some, None, if◌then◌else◌, map, option_and_then}
use Rattle.std.specs.declared.option.Option.{Option}
use Rattle.bus_rules.specs.declared.delivery.Delivery.{Delivery}
use Rattle.bus_rules.specs.declared.part.Part.{Part}
use Rattle.bus_rules.specs.Slots.{Message}
use Rattle.bus_terms.specs.Flooding.{has}
use Rattle.plain_bus.specs.BusNodes.{BusNode, MayAcceptIn}
use Rattle.plain_bus.specs.SlotFloods.{Seen, seen_window, node_closed, node_delivers}
use Rattle.plain_bus.specs.declared.station.Station.{Station}
use Rattle.plain_bus.specs.declared.window.Window.{Window}

-- after the flood of a slot: the window of each node, and the origin that it received first, with the step
pub record Behind : Type 0 where
  pub window : ℕ → Seen
  pub first : ℕ → Option (ℕ × ℕ)

-- the code has this of the nodes, and each origin is one of them
pub record IsBehind (b : Behind) (nodes : List ℕ) (ws : List Window) (xs : List Station) : Type 0 where
  pub windows : map seen_window ws ≡ map b.window nodes
  pub ids : map (λ (x : Station). x.node) xs ≡ nodes
  pub firsts : map (λ (x : Station). x.heard) xs ≡ map b.first nodes
  pub here : (v o k : ℕ) → b.first v ≡ Some (o, k) → has nodes o ≡ true

-- what a node accepts, which is nothing where it says something itself
abbrev pub heard_in : Behind → Bool → Option (ℕ × ℕ) → Option Message
heard_in b initiates first = if initiates then None else option_and_then (λ a. (b.window a.0).message) first

abbrev pub heard_at : Behind → ℕ → Option Message
heard_at b v = heard_in b (b.window v).initiates (b.first v)

-- no host accepts a schedule, and each has room for the request that it accepts
abbrev pub AllMay : ℕ → Behind → List ℕ → (ℕ → BusNode) → Type 0
AllMay f b nodes n = (v : ℕ) → has nodes v ≡ true → MayAcceptIn (n v).setup f (n v).state (heard_at b v)

abbrev pub closed_node : Behind → ℕ → Part → (ℕ → BusNode) → ℕ → BusNode
closed_node b f part n v = node_closed f part (b.window v) (heard_at b v) (n v)

abbrev pub delivers_node : Behind → ℕ → ℕ → ℕ → Part → (ℕ → BusNode) → ℕ → Option Delivery
delivers_node b rank f j part n v = node_delivers rank f j part (b.window v) (heard_at b v) (n v)
