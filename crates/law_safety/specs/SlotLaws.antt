-- What is sent for a round, and in a slot of it.
use Rattle.std.specs.Prelude.{◌≡◌, ◌⊎◌, ℕ, List, Some}
use Rattle.std.specs.declared.option.Option.{Option}
use Rattle.lwb_base.specs.Messages.{Ask, Plan}
use Rattle.bus_rules.specs.Slots.{Message, RequestOf}
use Rattle.lwb_member.specs.Said.{message_of}
use Rattle.scenario_text.specs.ScenarioParts.{ScenarioParts}
use Rattle.radio_model.specs.declared.sending.Sending.{Sending}
use Rattle.air_log.specs.declared.entry.Entry.{Entry}
use Rattle.air_log.specs.Safe.{SameSlot}
use Rattle.law_safety.specs.FloodSendings.{IsOfFlood}
use Rattle.law_safety.specs.SentPlans.{IsPlanned}
use Rattle.law_safety.specs.Endings.{EndsInOrder}

-- it asks for a stream
abbrev pub AsksForStream : Option Message → Type 0
AsksForStream m = (a : Ask) × (m ≡ Some (RequestOf a))

-- for a rank and a frame at most one plan is sent
abbrev pub OnePlanIsSent : Type 0
OnePlanIsSent =
    (s : ScenarioParts) (clocks : ℕ → ℕ → ℕ) (air : List Entry) → EndsInOrder s clocks air
    → (rank frame : ℕ) (p q : Plan) → IsPlanned s air rank frame p → IsPlanned s air rank frame q → p ≡ q

-- transmissions of one slot have one origin, or both are requests
abbrev pub OneFloodInASlot : Type 0
OneFloodInASlot =
    (s : ScenarioParts) (clocks : ℕ → ℕ → ℕ) (air : List Entry) → EndsInOrder s clocks air
    → (x y : Sending) (is : IsOfFlood s clocks air x) (also : IsOfFlood s clocks air y) → SameSlot s.profile x y
    → (is.origin ≡ also.origin) ⊎ (AsksForStream (message_of x.packet) × AsksForStream (message_of y.packet))
