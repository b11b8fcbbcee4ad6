-- What holds of a node that is on, and still does when fewer packets wait, holds through slots, rounds and the ends of frames.
use Rattle.std.proofs.Common.{ℕ, zero, suc, ◌+◌, Bool, true, false, if◌then◌else◌, Option, Some, None, is_some}
use Rattle.lwb_base.specs.Messages.{Plan}
use Rattle.scenario_text.specs.ScenarioParts.{ScenarioParts}
use Rattle.bus_rules.specs.declared.part.Part.{Part}
use Rattle.bus_rules.specs.Cores.{Core, is_member}
use Rattle.bus_rules.specs.Plans.{last_slot}
use Rattle.bus_rules.specs.Slots.{Message, opened_slot, part_of}
use Rattle.bus_rules.specs.States.{State, StateOff, StateOn}
use Rattle.bus_terms.specs.Bus.{before_frame, state_at}
use Rattle.bus_terms.specs.Rounds.{accepted_at, after_round, before_slot, closed_slot_of, left_by, opened_at, rank_in, round_plan, rounds, slot_of_round}
use Rattle.scenario_text.specs.Setups.{setup_of}
use Rattle.bus_terms.specs.ScriptedStates.{states_after_end}
use Rattle.law_packets.proofs.FewerWaiting.{IsLess, closed_less, ended_less, opened_less}

module _ (s : ScenarioParts) (P : State → Type 0) (less : (c d : Core) → IsLess c d → P (StateOn c) → P (StateOn d)) where
  slot_closes : (rank f : ℕ) (part : Part) (v : ℕ) (heard : Option Message) (x : State) → P x
      → P (left_by x (closed_slot_of s f part v (opened_at s rank f part v x) heard x))
  slot_closes rank f part v None (StateOff boots) is = is
  slot_closes rank f part v (Some m) (StateOff boots) is = is
  slot_closes rank f part v heard (StateOn c) is = by_member (is_member rank f c) heard
    where
      by_member : (b : Bool) (heard : Option Message)
          → P (left_by (StateOn c) (closed_slot_of s f part v (if b then Some (opened_slot (setup_of s v) f part c) else None) heard (StateOn c)))
      by_member true heard =
          let o = opened_slot (setup_of s v) f part c in
          less o.core _ (closed_less (setup_of s v) f part (is_some o.message) o.core heard)
          (less c o.core (opened_less (setup_of s v) f part c) is)
      by_member false None = is
      by_member false (Some m) = less c _ (closed_less (setup_of s v) f part false c (Some m)) is

  pub slots_keep : (rank f : ℕ) (p : Plan) (v : ℕ) (states : ℕ → State) → P (states v) → (j : ℕ) → P (before_slot s rank f p states j v)
  unfolding before_slot
  slots_keep rank f p v states is zero = is
  slots_keep rank f p v states is (suc j) =
      let before = before_slot s rank f p states j in
      slot_closes rank f (part_of p j) v (accepted_at (slot_of_round s rank f p j before) v) (before v) (slots_keep rank f p v states is j)

  rounds_keep : (f v : ℕ) (states : ℕ → State) → P (states v) → P (rounds s f states v)
  rounds_keep f v states is = by_plan (round_plan s (rank_in (states v)) f states)
    where
      by_plan : (o : Option Plan) → P (after_round s (rank_in (states v)) f states o v)
      by_plan None = is
      by_plan (Some p) = slots_keep (rank_in (states v)) f p v states is (last_slot p + 1)

  end_keeps : (f v : ℕ) (states : ℕ → State) → P (states v) → P (states_after_end s f states v)
  end_keeps f v states is = by_state (states v) is
    where
      by_state : (x : State) → P x → P (states_after_end s f (λ (u : ℕ). x) v)
      by_state (StateOff boots) is = is
      by_state (StateOn c) is = less c _ (ended_less (setup_of s v) f c) is

  -- from after the script lines of a frame to before those of the next
  pub frame_keeps : (f v : ℕ) → P (state_at s f v) → P (before_frame s (suc f) v)
  unfolding before_frame
  frame_keeps f v is = end_keeps f v (rounds s f (state_at s f)) (rounds_keep f v (state_at s f) is)
