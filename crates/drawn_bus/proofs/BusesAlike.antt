-- Where the floods of its rounds go the same over the lines of two traces, the bus does.
use Rattle.std.proofs.Common.{◌≡◌, ℕ, zero, suc, ◌<◌, List, length, take, fold, filter_map, flat_map, sum_by, count_by}
use Rattle.std.proofs.Common.{refl, ◌∙◌, ap, arith}
use Rattle.std.proofs.Math.Path.{fun_ext}
use Rattle.std.specs.List.{enumerate_from}
use Rattle.link_trace.specs.Passes.{Lines}
use Rattle.scenario_text.specs.ScenarioParts.{ScenarioParts}
use Rattle.scenario_text.specs.declared.script.ScriptLine.{ScriptLine}
use Rattle.bus_rules.specs.declared.delivery.Delivery.{Delivery}
use Rattle.bus_rules.specs.Cores.{frame_ended}
use Rattle.bus_rules.specs.States.{State, at_core}
use Rattle.bus_rules.specs.Tuning.{is_scan}
use Rattle.bus_terms.specs.Bus.{before_frame, bus_cost, bus_deliveries, bus_drops, frames_of, over_frames, ranks_of, state_at, states_after_frame}
use Rattle.bus_terms.specs.Costs.{over_round, slot_sent, slot_window}
use Rattle.scenario_text.specs.OverLines.{over}
use Rattle.bus_terms.specs.Rounds.{Slot, rank_in, round_deliveries, rounds}
use Rattle.scenario_text.specs.Setups.{setup_of}
use Rattle.bus_terms.specs.ScriptedStates.{is_on_and, lost_by, state_after_line, states_after_script, told_above}
use Rattle.drawn_bus.specs.DrawnScenarios.{AreSameOnBus}
use Rattle.drawn_bus.proofs.RoundsAlike.{IsSameCost, IsSameRound, cost_of_round, delivered_in_round, joined_alike, same_round, same_sent, same_window}

-- the ranks of these numbers are those of all nodes and of all hosts, and the rounds of each of them go the same
module _ (s : ScenarioParts) (a b : Lines) (IsRank : ℕ → Type 0) (of_nodes : (f v : ℕ) → IsRank (rank_in (state_at (over s b) f v)))
    (of_hosts : (rank : ℕ) → rank < length s.hosts → IsRank rank)
    (same : (rank f : ℕ) → IsRank rank → IsSameRound s a b rank f (state_at (over s b) f)) where
  same_rounds : (f v : ℕ) → rounds (over s a) f (state_at (over s b) f) v ≡ rounds (over s b) f (state_at (over s b) f) v
  same_rounds f v =
      let rank = rank_in (state_at (over s b) f v) in
      same_round s a b rank f (state_at (over s b) f) (same rank f (of_nodes f v)) v

  same_frames : (f : ℕ) → before_frame (over s a) f ≡ before_frame (over s b) f
  unfolding before_frame
  same_frames zero = refl
  same_frames (suc f) =
      ap (states_after_frame (over s a) f) (same_frames f)
      ∙ fun_ext (λ v. ap (at_core (frame_ended (setup_of s v) f)) (same_rounds f v))

  same_states : (f : ℕ) → state_at (over s a) f ≡ state_at (over s b) f
  same_states f = ap (states_after_script s f) (same_frames f)

  frame_deliveries : (f : ℕ) → flat_map (λ rank. round_deliveries (over s a) rank f (state_at (over s a) f)) (ranks_of s)
      ≡ flat_map (λ rank. round_deliveries (over s b) rank f (state_at (over s b) f)) (ranks_of s)
  frame_deliveries f =
      ap (λ (g : ℕ → State). flat_map (λ rank. round_deliveries (over s a) rank f g) (ranks_of s)) (same_states f)
      ∙ joined_alike (λ rank. round_deliveries (over s a) rank f (state_at (over s b) f)) (λ rank. round_deliveries (over s b) rank f (state_at (over s b) f))
      (length s.hosts) 0
      (λ rank below. delivered_in_round s a b rank f (state_at (over s b) f) (same rank f (of_hosts rank (omega (arith, below)))))

  same_deliveries : bus_deliveries (over s a) ≡ bus_deliveries (over s b)
  same_deliveries = ap (λ (d : ℕ → List Delivery). flat_map d (frames_of s)) (fun_ext frame_deliveries)

  same_drops : bus_drops (over s a) ≡ bus_drops (over s b)
  same_drops =
      ap (λ (g : ℕ → ℕ → State). filter_map
      (λ (x : ℕ × ScriptLine). lost_by x.1 x.1.act (fold state_after_line (g x.1.frame x.1.node) (told_above (take x.0 s.script) x.1)))
      (enumerate_from 0 s.script)) (fun_ext same_frames)

  summed : (cost : Slot → ℕ) → IsSameCost s a b cost → (v : ℕ) → over_frames cost (over s a) v ≡ over_frames cost (over s b) v
  summed cost so v =
      ap (λ (c : ℕ → ℕ). sum_by c (frames_of s))
      (fun_ext (λ f. ap (λ (g : ℕ → State). over_round cost (over s a) (rank_in (g v)) f g) (same_states f)
      ∙ (let rank = rank_in (state_at (over s b) f v) in
      cost_of_round s a b rank f (state_at (over s b) f) (same rank f (of_nodes f v)) cost so)))

  same_costs : (v : ℕ) → bus_cost (over s a) v ≡ bus_cost (over s b) v
  same_costs v i = record {
    sent = summed (λ x. slot_sent s.profile x v) (λ rank f p j g is. same_sent s a b rank f p j g is v) v i;
    windows = summed (λ x. slot_window s.profile x v) (λ rank f p j g is. same_window s a b rank f p j g is v) v i;
    scanned = ap (λ (g : ℕ → ℕ → State). count_by (λ f. is_on_and (λ c. is_scan c.tune) (g f v)) (frames_of s)) (fun_ext same_states) i;
  }

  pub same_bus : AreSameOnBus (over s a) (over s b)
  same_bus = record { delivered = same_deliveries; dropped = same_drops; cost_each = same_costs }
