use Rattle.std.proofs.Common.{◌≡◌, ◌+◌, ◌*◌, ◌++◌, ℕ, List, flat_map, map}
use Rattle.std.specs.List.{range_with_len}
use Rattle.bus_rules.specs.States.{State}
use Rattle.bus_terms.specs.Bus.{Cost}
use Rattle.bus_terms.specs.FloodOfText.{ids}
use Rattle.bus_terms.specs.Packets.{round_sent}
use Rattle.bus_terms.specs.Rounds.{round_deliveries}
use Rattle.plain_bus.specs.BusNodes.{ranks_in, AreOffOutside, HaveRoomInRound}
use Rattle.plain_bus.specs.Networks.{IsReady}
use Rattle.plain_bus.specs.RunFloods.{HasRun, SlotFlood}
use Rattle.bus_model.specs.FrameFloods.{round_floods}
use Rattle.bus_model.specs.FrameNodes.{nodes_with, run_below}
use Rattle.bus_model.specs.RoundCosts.{cost_below}
use Rattle.bus_model.proofs.rounds.run_rounds.Given as goal

abbrev pub invariant-loop-rank : goal.invariant-loop-rank
invariant-loop-rank g l = record {
  ready : (m : ℕ) → IsReady l.s l.frame m l.fn.net → IsReady l.s l.frame (m + l.rank * 46) l.net;
  nodes_are : (start : ℕ → State) → l.fn.net.nodes ≡ nodes_with l.s (ranks_in start) start
      → ((rank : ℕ) → HaveRoomInRound l.s rank l.frame start) → l.net.nodes ≡ nodes_with l.s (ranks_in start) (run_below l.s l.frame start l.rank);
  delivered : (start : ℕ → State) → l.fn.net.nodes ≡ nodes_with l.s (ranks_in start) start
      → ((rank : ℕ) → HaveRoomInRound l.s rank l.frame start)
      → l.net.deliveries ≡ l.fn.net.deliveries ++ flat_map (λ rank. round_deliveries l.s rank l.frame start) (range_with_len 0 l.rank);
  sent : (start : ℕ → State) → l.fn.net.nodes ≡ nodes_with l.s (ranks_in start) start
      → ((rank : ℕ) → HaveRoomInRound l.s rank l.frame start) → AreOffOutside l.s start
      → l.net.sent ≡ l.fn.net.sent ++ flat_map (λ rank. round_sent l.s rank l.frame start) (range_with_len 0 l.rank);
  ran : (start : ℕ → State) (before : List SlotFlood) → l.fn.net.nodes ≡ nodes_with l.s (ranks_in start) start
      → ((rank : ℕ) → HaveRoomInRound l.s rank l.frame start) → HasRun l.s l.frame before l.fn.net.floods
      → HasRun l.s l.frame (before ++ flat_map (λ rank. round_floods l.s rank l.frame start) (range_with_len 0 l.rank)) l.net.floods;
  costs_are : (start : ℕ → State) (cost : ℕ → Cost) → l.fn.net.nodes ≡ nodes_with l.s (ranks_in start) start
      → ((rank : ℕ) → HaveRoomInRound l.s rank l.frame start) → l.fn.net.costs ≡ map cost (ids l.s.nodes)
      → l.net.costs ≡ map (cost_below l.s l.frame start l.rank cost) (ids l.s.nodes);
}
