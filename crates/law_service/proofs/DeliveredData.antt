-- In a data slot without losses the members within reach deliver what the owner sends.
use Rattle.std.proofs.Common.{◌≡◌, ℕ, ◌<◌, true, Option, Some, None, is_some, option_map, option_and_then, refl, sym, ◌∙◌, ap, AllPairs, eq-eqb}
use Rattle.law_service.proofs.Words.{false≢true, node_of, stream_of, ScenarioParts, IsSoundScenario, over_sound, Delivery, Part, DataSlot, Core, Message}
use Rattle.law_service.proofs.Words.{Opened}
use Rattle.law_service.proofs.Words.{opened_slot, data_of, delivery_of, State, StateOn, WaitingPacket, first_waiting, ids, has, setup_of, Slot, slot_of_round}
use Rattle.law_service.proofs.Words.{opened_at, message_said, takes_part, accepted_at, closed_slot_of, before_slot, of_filtered, in_whole, ids_rise, TakesPart}
use Rattle.law_service.proofs.Words.{DataIsDelivered, window_of, owner_alone}
use Rattle.law_service.proofs.SoleVoices.{accepts, accepts_said}

-- what the owner says
owner_sends : (s : ScenarioParts) (f owner : ℕ) (c : Core) (w : WaitingPacket) → first_waiting c.streams (stream_of owner) ≡ Some w
    → (opened_slot (setup_of s (node_of owner)) f (DataSlot owner) c).message ≡ Some (data_of (node_of owner) c (stream_of owner) w)
owner_sends s f owner c w waits = rw (eq-eqb (node_of owner) (node_of owner) refl, waits) refl

-- members alone take part in a data slot
part_opens : (rank owner : ℕ) (x : State) (w : Option Opened) → takes_part rank (DataSlot owner) x w ≡ true → (o : Opened) × (w ≡ Some o)
part_opens rank owner x None is = absurd (false≢true is)
part_opens rank owner x (Some o) is = (o, refl)

pub delivered_within : DataIsDelivered
delivered_within s accepted rank f p states j owner c w has_data lossless k v within = (
  ap (λ (o : Option Opened). delivery_with v o (accepted_at x v)) opens.1
      ∙ ap (λ (h : Option Message). delivery_with v (Some opens.0) h) heard
      ∙ ap (λ (part : Part). option_map (delivery_of v f rank j)
      (option_and_then (λ c. c.delivered) (closed_slot_of s f part v (Some opens.0) (Some (data_of u c (stream_of owner) w)) (before v)))) has_data.slot,
  accepts s x f j refl (λ k u v. refl) refl scenario.some_sends rise lossless u sent known takes says alone k v within,
)
  where
    scenario : IsSoundScenario s
    scenario = over_sound s accepted

    before : ℕ → State
    before = before_slot s rank f p states j

    x : Slot
    x = slot_of_round s rank f p j before

    u : ℕ
    u = node_of owner

    sent : Message
    sent = data_of u c (stream_of owner) w

    rise : AllPairs (λ a b. a < b) (ids s.nodes)
    rise = ids_rise s.nodes scenario.ascending

    takes : TakesPart x u
    takes = has_data.member

    known : has (ids s.nodes) u ≡ true
    known = in_whole (λ v. takes_part rank x.part (before v) (x.window v)) (ids s.nodes) u takes

    delivery_with : ℕ → Option Opened → Option Message → Option Delivery
    delivery_with v o h = option_map (delivery_of v f rank j) (option_and_then (λ c. c.delivered) (closed_slot_of s f x.part v o h (before v)))

    window_is : (v : ℕ) → x.window v ≡ opened_at s rank f (DataSlot owner) v (before v)
    window_is v = ap (λ (part : Part). opened_at s rank f part v (before v)) has_data.slot

    opened_part : (v : ℕ) → TakesPart x v → (o : Opened) × (x.window v ≡ Some o)
    opened_part v there =
        let passes = of_filtered (λ v. takes_part rank x.part (before v) (x.window v)) (ids s.nodes) v there in
        part_opens rank owner (before v) (x.window v) (ap (λ (part : Part). takes_part rank part (before v) (x.window v)) (sym has_data.slot) ∙ passes)

    opens : (o : Opened) × (x.window v ≡ Some o)
    opens = opened_part v within.there

    says : message_said (x.window u) ≡ Some sent
    says =
        let mine = opened_part u takes in
        let own = window_of s rank f (DataSlot owner) u (before u) mine.0 (sym (window_is u) ∙ mine.1) in
        let same : StateOn own.0 ≡ StateOn c = sym own.1 ∙ has_data.on in
        let core : own.0 ≡ c = cc in
        ap message_said mine.1 ∙ ap (λ (o : Opened). o.message) own.3
        ∙ ap (λ (d : Core). (opened_slot (setup_of s u) f (DataSlot owner) d).message) core
        ∙ owner_sends s f owner c w has_data.waits

    alone : (v : ℕ) → is_some (message_said (x.window v)) ≡ true → v ≡ u
    alone v some = owner_alone s rank f owner v (before v) (ap (λ (o : Option Opened). is_some (message_said o)) (sym (window_is v)) ∙ some)

    heard : accepted_at x v ≡ Some sent
    heard = accepts_said s x f j refl (λ k u v. refl) refl scenario.some_sends rise lossless u sent known takes says alone k v within
