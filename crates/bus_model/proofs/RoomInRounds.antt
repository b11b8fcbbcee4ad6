-- In each round of the bus a host keeps fewer requests than the round has contention slots, until they are over.
use Rattle.std.proofs.Common.{◌≡◌, ℕ, refl}
use Rattle.scenario_text.specs.ScenarioParts.{ScenarioParts}
use Rattle.bus_rules.specs.Slots.{part_of}
use Rattle.bus_rules.specs.States.{State, StateOff, StateOn}
use Rattle.bus_terms.specs.Bus.{state_at}
use Rattle.bus_terms.specs.Rounds.{before_slot}
use Rattle.scenario_text.specs.Setups.{setup_of}
use Rattle.bus_terms.proofs.RoomInSlots.{room_before}
use Rattle.plain_bus.specs.BusNodes.{HasRoom, HaveRoomInRound}

pub rooms_in : (s : ScenarioParts) (f rank : ℕ) → HaveRoomInRound s rank f (state_at s f)
rooms_in s f rank p led j v known = by_state (before_slot s rank f p (state_at s f) j v) refl
  where
    by_state : (x : State) → before_slot s rank f p (state_at s f) j v ≡ x → HasRoom (setup_of s v) rank f (part_of p j) x
    by_state (StateOff boots) at = tt
    by_state (StateOn c) at = λ plain due. room_before s rank f p led j v known c at plain due
