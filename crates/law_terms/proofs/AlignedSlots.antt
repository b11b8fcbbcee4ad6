-- A row of the node table does to the core of a node what the bus does, and one slot at one member is the same in both.
use Rattle.std.proofs.Common.{◌≡◌, ℕ, Bool, true, Some, Option, refl, ap, sym, ◌∙◌, is_some}
use Rattle.lwb_base.specs.Messages.{Plan}
use Rattle.scenario_text.specs.ScenarioParts.{ScenarioParts}
use Rattle.bus_rules.specs.declared.part.Part.{Part}
use Rattle.bus_rules.specs.Cores.{Core, Setup, is_member, frame_ended}
use Rattle.bus_rules.specs.Slots.{Message, Opened, opened_slot, closed_slot, part_of}
use Rattle.node_core.specs.Nodes.{Node}
use Rattle.node_core.specs.Windows.{Window}
use Rattle.node_core.specs.Rows.{window_opens, window_closes, frame_alarms, accepted_in}
use Rattle.bus_rules.specs.States.{State, StateOn}
use Rattle.scenario_text.specs.Setups.{setup_of}
use Rattle.bus_terms.specs.Rounds.{opened_at, closed_slot_of, left_by, after_slot, slot_of_round, accepted_at}

pub open_core : (s : Setup) (n : Node) (j : ℕ) → (window_opens s n j).node.core ≡ (opened_slot s n.frame (part_of n.core.plan j) n.core).core
open_core s n j = refl

pub close_core : (s : Setup) (n : Node) (j : ℕ) (w : Window)
    → (window_closes s n j w).node.core ≡ (closed_slot s n.frame w.part w.flood.initiated n.core (accepted_in w)).core
close_core s n j w = refl

pub frame_core : (s : Setup) (n : Node) → (frame_alarms s n).node.core ≡ frame_ended s n.frame n.core
frame_core s n = refl

-- a member's state after a slot
pub member_after : (s : ScenarioParts) (rank f : ℕ) (p : Plan) (j v : ℕ) (states : ℕ → State) (c : Core) → states v ≡ StateOn c → is_member rank f c ≡ true
    → after_slot s rank f p j states v ≡ StateOn
    (closed_slot (setup_of s v) f (part_of p j) (is_some (opened_slot (setup_of s v) f (part_of p j) c).message)
    (opened_slot (setup_of s v) f (part_of p j) c).core (accepted_at (slot_of_round s rank f p j states) v)).core
member_after s rank f p j v states c up member =
    let part = part_of p j in
    let o = opened_slot (setup_of s v) f part c in
    let heard = accepted_at (slot_of_round s rank f p j states) v in
    let window : opened_at s rank f part v (states v) ≡ Some o = ap (opened_at s rank f part v) up ∙ rw member refl in
    ap (λ (w : Option Opened). left_by (states v) (closed_slot_of s f part v w heard (states v))) window

-- the node table's node, whose window closes with the same accepted message
module _ (s : ScenarioParts) (rank f : ℕ) (p : Plan) (j v : ℕ) (states : ℕ → State) (c : Core) (n : Node) (w : Window)
    (up : states v ≡ StateOn c) (member : is_member rank f c ≡ true) (frame : n.frame ≡ f)
    (core : n.core ≡ (opened_slot (setup_of s v) f (part_of p j) c).core) (part : w.part ≡ part_of p j)
    (initiated : w.flood.initiated ≡ is_some (opened_slot (setup_of s v) f (part_of p j) c).message)
    (heard : accepted_in w ≡ accepted_at (slot_of_round s rank f p j states) v) where
  pub slot_aligned : after_slot s rank f p j states v ≡ StateOn (window_closes (setup_of s v) n j w).node.core
  slot_aligned =
      let t = setup_of s v in
      let o = opened_slot t f (part_of p j) c in
      let h = accepted_in w in
      member_after s rank f p j v states c up member
      ∙ ap (λ (m : Option Message). StateOn (closed_slot t f (part_of p j) (is_some o.message) o.core m).core) (sym heard)
      ∙ ap (λ (i : Bool). StateOn (closed_slot t f (part_of p j) i o.core h).core) (sym initiated)
      ∙ ap (λ (k : Part). StateOn (closed_slot t f k w.flood.initiated o.core h).core) (sym part)
      ∙ ap (λ (x : Core). StateOn (closed_slot t f w.part w.flood.initiated x h).core) (sym core)
      ∙ ap (λ (g : ℕ). StateOn (closed_slot t g w.part w.flood.initiated n.core h).core) (sym frame)
