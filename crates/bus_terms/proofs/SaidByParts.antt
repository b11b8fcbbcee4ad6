-- Who says something in a slot, by what the slot is for.
use Rattle.std.proofs.Common.{◌≡◌, ℕ, Bool, true, false, if◌then◌else◌, ◌==◌, Option, Some, None, option_map, is_some, sym, refl, ap, ◌∙◌}
use Rattle.std.proofs.lemmas.Bool.{eqb-true, false≢true}
use Rattle.lwb_base.specs.Messages.{node_of, stream_of}
use Rattle.scenario_text.specs.ScenarioParts.{ScenarioParts}
use Rattle.bus_rules.specs.declared.part.Part.{Part}
use Rattle.bus_rules.specs.declared.part.Part.TheVariants.{Data as DataSlot}
use Rattle.bus_rules.specs.Cores.{Core, is_member}
use Rattle.bus_rules.specs.Slots.{Opened, opened_slot, data_of}
use Rattle.bus_rules.specs.States.{State, StateOff, StateOn}
use Rattle.bus_rules.specs.Streams.{WaitingPacket, first_waiting}
use Rattle.scenario_text.specs.Setups.{setup_of}
use Rattle.bus_terms.specs.Rounds.{opened_at, message_said}

-- the window of a node that is on
pub windowed : (s : ScenarioParts) (rank f : ℕ) (part : Part) (v : ℕ) (c : Core) → is_member rank f c ≡ true
    → opened_at s rank f part v (StateOn c) ≡ Some (opened_slot (setup_of s v) f part c)
windowed s rank f part v c member = rw member refl

-- who has a window is on, and a member
pub window_of : (s : ScenarioParts) (rank f : ℕ) (part : Part) (v : ℕ) (x : State) (o : Opened) → opened_at s rank f part v x ≡ Some o
    → (c : Core) × (x ≡ StateOn c) × (is_member rank f c ≡ true) × (o ≡ opened_slot (setup_of s v) f part c)
window_of s rank f part v (StateOff boots) o is = absurd (cc)
window_of s rank f part v (StateOn c) o is = by_test (is_member rank f c) refl is
  where
    by_test : (b : Bool) → is_member rank f c ≡ b → (if b then Some (opened_slot (setup_of s v) f part c) else None) ≡ Some o
        → (d : Core) × (StateOn c ≡ StateOn d) × (is_member rank f d ≡ true) × (o ≡ opened_slot (setup_of s v) f part d)
    by_test false at is = absurd (cc)
    by_test true at is = (c, refl, at, cc)

-- and who says something has one
pub speaks : (w : Option Opened) → is_some (message_said w) ≡ true → (o : Opened) × (w ≡ Some o) × (is_some o.message ≡ true)
speaks None is = absurd (false≢true is)
speaks (Some o) is = (o, refl, is)

-- in a data slot its owner's node
owner_says : (v owner : ℕ) (c : Core) (w : Option WaitingPacket)
    → is_some (if node_of owner == v then option_map (data_of v c (stream_of owner)) w else None) ≡ true → v ≡ node_of owner
owner_says v owner c w is = by_test (node_of owner == v) refl is
  where
    by_test : (b : Bool) → (node_of owner == v) ≡ b → is_some (if b then option_map (data_of v c (stream_of owner)) w else None) ≡ true → v ≡ node_of owner
    by_test false at is = absurd (false≢true is)
    by_test true at is = sym (eqb-true _ v at)

pub owner_alone : (s : ScenarioParts) (rank f owner v : ℕ) (x : State) → is_some (message_said (opened_at s rank f (DataSlot owner) v x)) ≡ true
    → v ≡ node_of owner
owner_alone s rank f owner v x is =
    let o = speaks (opened_at s rank f (DataSlot owner) v x) is in
    let c = window_of s rank f (DataSlot owner) v x o.0 o.1 in
    owner_says v owner c.0 (first_waiting c.0.streams (stream_of owner)) (ap (λ (w : Opened). is_some w.message) (sym c.3) ∙ o.2)
