-- The nodes in the course of a frame as the code has them.
use Rattle.std.specs.Prelude.{◌*◌, zero, suc, ◌≡◌, ◌<◌, ◌≤◌, ◌==◌, ◌&&◌, nat_lt, ℕ, List, false, map, fold, filter, take, flat_map}
use Rattle.std.specs.Prelude.{filter_map, length, slice_index_or, if◌then◌else◌}
use Rattle.std.specs.List.{range_with_len, enumerate_from}
use Rattle.scenario_text.specs.ScenarioFacts.{turned}
use Rattle.scenario_text.specs.ScenarioParts.{ScenarioParts}
use Rattle.scenario_text.specs.declared.script.ScriptLine.{ScriptLine}
use Rattle.bus_rules.specs.declared.delivery.Delivery.{Delivery}
use Rattle.bus_rules.specs.Cores.{frame_ended}
use Rattle.bus_rules.specs.States.{State, at_core, state_after_act}
use Rattle.bus_terms.specs.Bus.{before_frame, state_at, ranks_of}
use Rattle.bus_terms.specs.FloodOfText.{ids}
use Rattle.bus_terms.specs.Packets.{put_at, round_sent}
use Rattle.bus_terms.specs.Rounds.{rank_in, rounds, round_deliveries}
use Rattle.bus_terms.specs.ScriptedStates.{power, state_after_line}
use Rattle.bus_terms.specs.declared.packets.PutLine.{PutLine}
use Rattle.bus_terms.specs.declared.packets.SentPacket.{SentPacket}
use Rattle.plain_bus.specs.BusNodes.{BusNode, bus_node, ranks_in}
use Rattle.plain_bus.specs.Networks.{Network, IsReady}
use Rattle.bus_model.specs.RoundCosts.{cost_after}

abbrev pub nodes_with : ScenarioParts → (ℕ → ℕ) → (ℕ → State) → List BusNode
nodes_with s ranks states = map (bus_node s ranks states) (ids s.nodes)

-- after the rounds of the ranks below r
abbrev pub run_below : ScenarioParts → ℕ → (ℕ → State) → ℕ → ℕ → State
run_below s f start r v = if nat_lt (ranks_in start v) r then rounds s f start v else start v

-- the rank of each node is one of the scenario
abbrev pub AreRanked : ScenarioParts → (ℕ → State) → Type 0
AreRanked s states = (v : ℕ) → ranks_in states v < length s.hosts

-- the deliveries of a frame, and those of the first n frames
abbrev pub frame_deliveries : ScenarioParts → ℕ → (ℕ → State) → List Delivery
frame_deliveries s f states = flat_map (λ rank. round_deliveries s rank f states) (ranks_of s)

abbrev pub deliveries_to : ScenarioParts → ℕ → List Delivery
deliveries_to s n = flat_map (λ f. frame_deliveries s f (state_at s f)) (range_with_len 0 n)

-- what is sent in a frame, and in the first n frames
abbrev pub frame_sent : ScenarioParts → ℕ → (ℕ → State) → List SentPacket
frame_sent s f states = flat_map (λ rank. round_sent s rank f states) (ranks_of s)

abbrev pub sent_to : ScenarioParts → ℕ → List SentPacket
sent_to s n = flat_map (λ f. frame_sent s f (state_at s f)) (range_with_len 0 n)

-- what the first n lines of the script put
abbrev pub puts_to : ScenarioParts → ℕ → List PutLine
puts_to s n = filter_map (put_at s) (take n (enumerate_from 0 s.script))

-- the state of v in frame f after those of the first n lines that it is given then
abbrev pub told_at : ScenarioParts → ℕ → ℕ → ℕ → State
told_at s f n v = fold state_after_line (before_frame s f v) (filter (λ l. (l.node == v) && (l.frame == f)) (take n s.script))

-- the first n lines are those of the frames before f
pub record CountsLinesBefore (ls : List ScriptLine) (f n : ℕ) : Type 0 where
  pub within : n ≤ length ls
  pub before : (i : ℕ) (d : ScriptLine) → i < n → (slice_index_or ls i d).frame < f
  pub from : (i : ℕ) (d : ScriptLine) → n ≤ i → i < length ls → f ≤ (slice_index_or ls i d).frame

-- that of each node is what the first n lines made of it
abbrev pub HavePower : ScenarioParts → (ℕ → State) → ℕ → Type 0
HavePower s states n = (v : ℕ) → power (states v) ≡ turned v (false, 0) (take n s.script)

-- the rank in whose round each node took part in the frame before
unfoldable pub prior_ranks : ScenarioParts → ℕ → ℕ → ℕ
prior_ranks s zero = λ (v : ℕ). 0
prior_ranks s (suc f) = ranks_in (state_at s f)

-- a node that was given a line
abbrev pub node_after_line : ScriptLine → BusNode → BusNode
node_after_line l n = record n { state = state_after_act l.act n.state }

-- a node whose round begins, and whose frame ends
abbrev pub with_round_rank : BusNode → BusNode
with_round_rank n = record n { rank = rank_in n.state }

abbrev pub ended_at : ℕ → BusNode → BusNode
ended_at f n = record n { state = at_core (frame_ended n.setup f) n.state }

-- before frame f
pub record IsAtFrame (s : ScenarioParts) (f : ℕ) (n : Network) : Type 0 where
  pub nodes_are : n.nodes ≡ nodes_with s (prior_ranks s f) (before_frame s f)
  pub costs_are : n.costs ≡ map (cost_after s f) (ids s.nodes)
  pub delivered : n.deliveries ≡ deliveries_to s f
  pub sent : n.sent ≡ sent_to s f
  pub ready : IsReady s f (f * 184) n
