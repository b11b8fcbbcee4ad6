-- The world of one flood: its medium, what each node is about, and the log so far. And what changes in it, and when.
use Rattle.std.specs.Prelude.{◌≡◌, ℕ, ◌+◌, ◌^◌, ◌<◌, ◌≤◌, ◌⊎◌, List, [], ◌∷◌, ◌++◌, map, All, AllPairs, Contains, ◌↔◌, Bool, true, false, not, ◌&&◌, ◌||◌, ◌==◌}
use Rattle.std.specs.Prelude.{nat_lt, if◌then◌else◌, Some, None}
use Rattle.std.specs.declared.option.Option.{Option}
use Rattle.std.specs.List.{list_any}
use Rattle.std.specs.Option.{IfSome}
use Rattle.lwb_base.specs.Profile.{one}
use Rattle.tick_clock.specs.Clocks.{due}
use Rattle.glossy_relay.specs.Relaying.{after_heard, after_sent, reply_to}
use Rattle.glossy_relay.specs.declared.flood.Reply.{Reply}
use Rattle.glossy_relay.specs.declared.flood.Reply.TheVariants.{Relay, Keep, Ignore}
use Rattle.scenario_text.specs.FloodParts.{FloodParts}
use Rattle.scenario_text.specs.declared.lines.NodeLine.{NodeLine}
use Rattle.bus_terms.specs.FloodOfText.{ids}
use Rattle.radio_model.specs.declared.sending.Sending.{Sending}
use Rattle.radio_model.specs.Hearing.{Scene, HearsInScene}
use Rattle.radio_model.specs.Holding.{Holds, as_it_stands}
use Rattle.link_trace.specs.Passes.{Lines}
use Rattle.radio_model.specs.Stations.{MediumState, IsMedium, IsTime, Ends, nodes_of, sending_of_station, station_of, medium_after_change}
use Rattle.radio_model.specs.Stations.{station_after_tuning, station_after_start, station_after_end, first_state}
use Rattle.air_log.specs.declared.entry.Entry.{Entry}
use Rattle.air_log.specs.declared.entry.Entry.TheVariants.{Sent, Tuned}
use Rattle.air_log.specs.Entries.{heard_entry}
use Rattle.air_log.specs.FloodLaw.{OPENING, START, CLOSING, first_packet, first_flood, sending_at}
use Rattle.lwb_flood.specs.declared.member.Act.{Act}
use Rattle.lwb_flood.specs.declared.member.Act.TheVariants.{Listens, Waits, Sends, Off}
use Rattle.lwb_flood.specs.declared.member.Member.{Member}

pub record World : Type 0 where
  pub medium : MediumState
  pub members : List Member
  pub air : List Entry

abbrev pub node_of_member : Member → ℕ
node_of_member m = m.node

-- its medium is one of the same nodes
pub record IsShape (w : World) : Type 0 where
  pub nodes : map node_of_member w.members ≡ nodes_of w.medium
  pub medium : IsMedium w.medium

-- a change at one node
abbrev pub member_changed_at : ℕ → (Member → Member) → Member → Member
member_changed_at v change m = if m.node == v then change m else m

abbrev pub with_change : ℕ → (Member → Member) → List Member → List Member
with_change v change ms = map (member_changed_at v change) ms

-- at the beginning all nodes are tuned in, and the starting node waits to send
abbrev pub medium_at_opening : List ℕ → MediumState → MediumState
medium_at_opening [] m = m
medium_at_opening (v ∷ vs) m = medium_at_opening vs (medium_after_change OPENING v (station_after_tuning (Some 0) OPENING) m)

abbrev pub first_member : FloodParts → NodeLine → Member
first_member f n = record {
  node = n.node;
  flood = first_flood f n.node;
  act = if f.start == n.node then Waits START (first_packet f.start) else Listens;
}

abbrev pub first_world : FloodParts → World
first_world f = record {
  medium = medium_at_opening (ids f.nodes) (first_state one (ids f.nodes));
  members = map (first_member f) f.nodes;
  air = [];
}

-- the next thing that a node is about to do: its tick, and whether a transmission starts there; else one ends
abbrev pub moment_of : Act → Option (ℕ × Bool)
moment_of Listens = None
moment_of (Waits t packet) = Some (t, true)
moment_of (Sends x) = Some (x.end, false)
moment_of Off = None

-- ends come before starts of the same tick
abbrev pub NotAfter : ℕ × Bool → ℕ × Bool → Type 0
NotAfter k l = (k.0 < l.0) ⊎ ((k.0 ≡ l.0) × (k.1 ≡ true → l.1 ≡ true))

abbrev pub moment_comes_before : ℕ × Bool → ℕ × Bool → Bool
moment_comes_before k l = nat_lt k.0 l.0 || ((k.0 == l.0) && (not k.1 && l.1))

-- what comes first of what was first, with its place, and the moment of place i
abbrev pub sooner : Option (ℕ × ℕ × Bool) → ℕ → Option (ℕ × Bool) → Option (ℕ × ℕ × Bool)
sooner next i None = next
sooner None i (Some m) = Some (i, m.0, m.1)
sooner (Some n) i (Some m) = if moment_comes_before m (n.1, n.2) then Some (i, m.0, m.1) else Some n

-- no other node does something before
pub record ActsNext (ms : List Member) (m : Member) : Type 0 where
  pub moment : ℕ × Bool
  pub own : moment_of m.act ≡ Some moment
  pub first : All (λ n. IfSome (moment_of n.act) (λ l. NotAfter moment l)) ms

-- a transmission starts
abbrev pub member_with_act : Act → Member → Member
member_with_act act m = record m { act = act }

abbrev pub world_after_start : Sending → World → World
world_after_start x w = record {
  medium = medium_after_change x.start x.node (station_after_start w.medium.numbers x.start x.packet) w.medium;
  members = with_change x.node (member_with_act (Sends x)) w.members;
  air = w.air ++ Sent x ∷ [];
}

-- a node goes off at t
abbrev pub flood_tuned_entry : ℕ → ℕ → Entry
flood_tuned_entry v t = Tuned (record { rank = 0; node = v; start = OPENING; end = t })

abbrev pub gone : ℕ → ℕ → World → World
gone v t w = record {
  medium = medium_after_change t v (station_after_tuning None t) w.medium;
  members = with_change v (member_with_act Off) w.members;
  air = w.air ++ flood_tuned_entry v t ∷ [];
}

-- a transmission ends: at its node, which goes off if it was the last, and then at those who received it
abbrev pub after_own : Member → Member
after_own m = record m { flood = after_sent m.flood; act = Listens }

abbrev pub own_ended : Sending → World → World
own_ended x w = record w {
  medium = medium_after_change x.end x.node station_after_end w.medium;
  members = with_change x.node after_own w.members;
}

-- the transmission that the node ends is its last
abbrev pub is_last_of : ℕ → Member → Bool
is_last_of v m = (m.node == v) && (m.flood.sent + 1 == m.flood.limit)

abbrev pub is_last : ℕ → List Member → Bool
is_last v ms = list_any (is_last_of v) ms

abbrev pub world_after_end : Sending → World → World
world_after_end x w = if is_last x.node w.members then gone x.node x.end (own_ended x w) else own_ended x w

abbrev pub act_by : (ℕ → ℕ) → ℕ → Reply → Act → Act
act_by clock end (Relay packet) act = Waits (due clock (clock end + 12288)) packet
act_by clock end Keep act = act
act_by clock end Ignore act = act

abbrev pub hearing_by : (ℕ → ℕ) → Sending → Member → Member
hearing_by clock x m = record m { flood = after_heard m.flood x.packet; act = act_by clock x.end (reply_to m.flood x.packet) m.act }

abbrev pub world_after_reception : (ℕ → ℕ) → Sending → ℕ → World → World
world_after_reception clock x v w = record w { members = with_change v (hearing_by clock x) w.members; air = w.air ++ heard_entry v x ∷ [] }

abbrev pub heard_by_all : (ℕ → ℕ → ℕ) → Sending → List ℕ → World → World
heard_by_all clocks x [] w = w
heard_by_all clocks x (v ∷ vs) w = heard_by_all clocks x vs (world_after_reception (clocks v) x v w)

-- what the clock at the place of a node reads. Where there is none, it is the true tick
abbrev pub readings_of_node : {C : Type 0} → (C → ℕ → ℕ) → List C → List ℕ → ℕ → ℕ → ℕ
readings_of_node R cs [] v = λ t. t
readings_of_node R [] (u ∷ us) v = λ t. t
readings_of_node R (c ∷ cs) (u ∷ us) v = if u == v then R c else readings_of_node R cs us v

-- these nodes receive a transmission that ends: by the rule of the air, in a scene that the medium holds
pub record IsHeardBy (lines : Lines) (x : Sending) (w : World) (vs : List ℕ) : Type 0 where
  pub ascending : AllPairs (λ u v. u < v) vs
  pub hearers : (a : Scene) → Holds w.medium a → a.lines ≡ lines → (v : ℕ) → Contains vs v
      ↔ (Contains (nodes_of w.medium) v × HearsInScene (as_it_stands w.medium x.end a) v x)

pub record CanEnd (lines : Lines) (w : World) (m : Member) (x : Sending) : Type 0 where
  pub node : x.node ≡ m.node
  pub time : IsTime w.medium x.end
  pub ends : Ends w.medium x.node x.end
  pub sends : sending_of_station (station_of w.medium x.node) ≡ Some x
  pub held : (a : Scene) × Holds w.medium a × (a.lines ≡ lines)
  pub waits : All (λ n. n.node ≡ x.node → n.flood.waiting ≡ true) w.members
  pub early : x.end ≤ 2 ^ 45

-- the world after the end of a transmission, at its node and at those who receive it
pub record Ended (lines : Lines) (clocks : ℕ → ℕ → ℕ) (x : Sending) (old new : World) : Type 0 where
  pub hearers : List ℕ
  pub heard : IsHeardBy lines x old hearers
  pub is : new ≡ heard_by_all clocks x hearers (world_after_end x old)

-- what the medium asks for where the next thing that a node does comes to pass, and what the world is then
abbrev pub CanStep : Lines → World → Member → Act → Type 0
CanStep lines w m Listens = Unit {0}
CanStep lines w m (Waits t packet) = IsTime w.medium t
CanStep lines w m (Sends x) = CanEnd lines w m x
CanStep lines w m Off = Unit {0}

abbrev pub WorldSteps : Lines → (ℕ → ℕ → ℕ) → World → World → Member → Act → Type 0
WorldSteps lines clocks old new m Listens = new ≡ old
WorldSteps lines clocks old new m (Waits t packet) = new ≡ world_after_start (sending_at m.node t packet) old
WorldSteps lines clocks old new m (Sends x) = Ended lines clocks x old new
WorldSteps lines clocks old new m Off = new ≡ old

-- at the end those that are still tuned in go off
abbrev pub is_off : Act → Bool
is_off Listens = false
is_off (Waits t packet) = false
is_off (Sends x) = false
is_off Off = true

abbrev pub stays : ℕ → Member → Bool
stays v m = (m.node == v) && is_off m.act

abbrev pub world_closed_at : ℕ → World → World
world_closed_at v w = if list_any (stays v) w.members then w else gone v CLOSING w

abbrev pub closed_all : List ℕ → World → World
closed_all [] w = w
closed_all (v ∷ vs) w = closed_all vs (world_closed_at v w)
