-- The windows of all nodes in a slot as the code has them.
use Rattle.std.specs.Prelude.{◌≡◌, ℕ, List, Bool, is_some, map, option_and_then}
use Rattle.std.specs.declared.option.Option.{Option}
use Rattle.bus_rules.specs.declared.delivery.Delivery.{Delivery}
use Rattle.bus_rules.specs.declared.part.Part.{Part}
use Rattle.bus_rules.specs.Slots.{Data, Message, Opened}
use Rattle.bus_rules.specs.States.{State}
use Rattle.scenario_text.specs.ScenarioParts.{ScenarioParts}
use Rattle.bus_terms.specs.FloodOfText.{ids}
use Rattle.bus_terms.specs.Rounds.{opened_at, message_said, takes_part, left_by}
use Rattle.lwb_member.specs.Said.{message_of}
use Rattle.lwb_packets.specs.declared.data_packet.DataPacket.{DataPacket}
use Rattle.plain_bus.specs.BusNodes.{BusNode, shown, window_of_state, closed_of, delivered_of}
use Rattle.plain_bus.specs.declared.window.Window.{Window}

-- each node's window, in the order of the nodes: who initiates, and who takes part
pub record AreWindows (s : ScenarioParts) (rank f : ℕ) (part : Part) (states : ℕ → State) (ws : List Window) : Type 0 where
  pub initiators : map (λ (w : Window). w.initiates) ws ≡ map (λ v. is_some (message_said (opened_at s rank f part v (states v)))) (ids s.nodes)
  pub takers : map (λ (w : Window). w.takes_part) ws ≡ map (λ v. takes_part rank part (states v) (opened_at s rank f part v (states v))) (ids s.nodes)

-- what a window tells: it is a member's, its node takes part, initiates, and what it says
pub record Seen : Type 0 where
  pub is_open : Bool
  pub takes_part : Bool
  pub initiates : Bool
  pub message : Option Message

abbrev pub seen_window : Window → Seen
seen_window w = record { is_open = w.is_open; takes_part = w.takes_part; initiates = w.initiates; message = option_and_then message_of w.said }

abbrev pub seen_by : ℕ → Part → State → Option Opened → Seen
seen_by rank part x window =
    record { is_open = is_some window; takes_part = takes_part rank part x window; initiates = is_some (message_said window); message = message_said window }

abbrev pub seen_of : ℕ → ℕ → Part → BusNode → Seen
seen_of rank f part n = seen_by rank part (shown rank n) (window_of_state n.setup rank f part (shown rank n))

-- what a data packet says
abbrev pub data_said : DataPacket → Data
data_said d = record { node = d.node; boot = d.boot; stream = d.stream; seq = d.seq; payload = d.payload }

-- a node where the slot closes after that window, in which it accepted this
abbrev pub node_closed : ℕ → Part → Seen → Option Message → BusNode → BusNode
node_closed f part w heard n = record n { state = left_by n.state (closed_of n.setup f part w.is_open w.initiates heard n.state) }

-- and what it delivers
abbrev pub node_delivers : ℕ → ℕ → ℕ → Part → Seen → Option Message → BusNode → Option Delivery
node_delivers rank f j part w heard n = delivered_of n.setup.id f rank j (closed_of n.setup f part w.is_open w.initiates heard n.state)
