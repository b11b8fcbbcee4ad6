-- In a data slot a member delivers, in the step of the shortest relay path to it, what the owner's node says.
use Rattle.std.proofs.Common.{◌≡◌, ◌≢◌, ℕ, suc, ◌<◌, ◌↔◌, ◌==◌, List, [], ◌∷◌, Bool, true, inl, inr, Option, Some, None, is_some}
use Rattle.std.proofs.Common.{filter, option_map, option_and_then, refl, sym, ◌∙◌, ap, AllPairs, eq-eqb}
use Rattle.std.specs.Prelude.{◌⊎◌}
use Rattle.std.proofs.lemmas.Bool.{false≢true, or_left}
use Rattle.lwb_base.specs.Messages.{Plan, node_of}
use Rattle.scenario_text.specs.ScenarioParts.{ScenarioParts}
use Rattle.scenario_text.specs.ScenarioFacts.{IsSoundScenario}
use Rattle.bus_rules.specs.declared.delivery.Delivery.{Delivery}
use Rattle.bus_rules.specs.declared.part.Part.{Part}
use Rattle.bus_rules.specs.declared.part.Part.TheVariants.{Data as DataSlot}
use Rattle.bus_rules.specs.Cores.{Core, Setup}
use Rattle.bus_rules.specs.Slots.{Message, ScheduleOf, DataOf, RequestOf, Data, Opened, closed_slot, delivery_of, part_of}
use Rattle.bus_rules.specs.States.{State}
use Rattle.bus_terms.specs.FloodOfText.{ids}
use Rattle.bus_terms.specs.Flooding.{Accepts, accepted, has}
use Rattle.bus_terms.specs.RelayPaths.{IsLeast}
use Rattle.scenario_text.specs.Setups.{setup_of}
use Rattle.bus_terms.specs.Rounds.{Slot, accepted_at, before_slot, closed_slot_of, delivery_in_slot, opened_at, message_said, slot_at, takes_part}
use Rattle.bus_terms.specs.Received.{IsReceived}
use Rattle.bus_terms.proofs.FirstHearings.{accepted_first}
use Rattle.bus_terms.proofs.LeastPaths.{accepts_least}
use Rattle.bus_terms.proofs.ReceivedByPaths.{no_path, nobody_hears}
use Rattle.bus_terms.proofs.ReceivedInRounds.{from_owner, ids_rise, initiators, owner_there, received, says_data, some_said, takes}

-- the data that a message says
abbrev pub said_data : Option Message → Option Data
said_data None = None
said_data (Some (ScheduleOf y)) = None
said_data (Some (DataOf d)) = Some d
said_data (Some (RequestOf a)) = None

pub closed_data : (S : Setup) (f : ℕ) (part : Part) (begun : Bool) (c : Core) (m : Option Message) → (closed_slot S f part begun c m).delivered ≡ said_data m
closed_data S f part begun c None = refl
closed_data S f part begun c (Some (ScheduleOf y)) = refl
closed_data S f part begun c (Some (DataOf d)) = refl
closed_data S f part begun c (Some (RequestOf a)) = refl

no_delivery : (d : Delivery) → ◌≡◌ {A = Option Delivery} None (Some d) → ⊥
no_delivery d is = cc

one_delivery : (d e : Delivery) → ◌≡◌ {A = Option Delivery} (Some d) (Some e) → d ≡ e
one_delivery d e is = cc

-- v delivers, in the slot of this owner, what the owner's node says there and v accepts in this step
pub record DeliversAt (s : ScenarioParts) (rank f : ℕ) (p : Plan) (states : ℕ → State) (j owner v k : ℕ) : Type 0 where
  pub packet : Data
  pub speaks : has (slot_at s rank f p states j).flood.initiators (node_of owner) ≡ true
  pub said : message_said ((slot_at s rank f p states j).window (node_of owner)) ≡ Some (DataOf packet)
  pub accepts : Accepts (slot_at s rank f p states j).flood v (node_of owner) k
  pub delivered : delivery_in_slot s rank f p states j v ≡ Some (delivery_of v f rank j packet)

module _ (s : ScenarioParts) (sound : IsSoundScenario s) (rank f : ℕ) (p : Plan) (states : ℕ → State) (j owner : ℕ) (is : part_of p j ≡ DataSlot owner) where
  abbrev before : ℕ → State
  before = before_slot s rank f p states j

  abbrev x : Slot
  x = slot_at s rank f p states j

  abbrev Delivers : ℕ → ℕ → Type 0
  Delivers v k = DeliversAt s rank f p states j owner v k

  abbrev OneSpeaks : Type 0
  OneSpeaks = (x.flood.initiators ≡ node_of owner ∷ []) × (is_some (message_said (x.window (node_of owner))) ≡ true)

  rise : AllPairs (λ a b. a < b) (ids s.nodes)
  rise = ids_rise s.nodes sound.ascending

  window_is : (v : ℕ) → x.window v ≡ opened_at s rank f (DataSlot owner) v (before v)
  window_is v = ap (λ (part : Part). opened_at s rank f part v (before v)) is

  everyone_is : x.flood.everyone ≡ filter (λ v. takes_part rank (DataSlot owner) (before v) (x.window v)) (ids s.nodes)
  everyone_is = ap (λ (part : Part). filter (λ v. takes_part rank part (before v) (x.window v)) (ids s.nodes)) is

  speakers : (x.flood.initiators ≡ []) ⊎ OneSpeaks
  speakers = initiators s rank f owner x before window_is refl everyone_is rise

  there : (v : ℕ) → has (ids s.nodes) v ≡ true → is_some (x.window v) ≡ true → has x.flood.everyone v ≡ true
  there = takes s rank f owner x before window_is refl everyone_is rise

  delivery_is : (v : ℕ) (o : Opened) → x.window v ≡ Some o
      → delivery_in_slot s rank f p states j v ≡ option_map (delivery_of v f rank j) (said_data (accepted_at x v))
  delivery_is v o at =
      ap (λ (w : Option Opened). option_map (delivery_of v f rank j)
      (option_and_then (λ c. c.delivered) (closed_slot_of s f x.part v w (accepted_at x v) (before v)))) at
      ∙ ap (option_map (delivery_of v f rank j)) (closed_data (setup_of s v) f x.part (is_some o.message) o.core (accepted_at x v))

  -- who accepts delivers
  accepts_delivers : (one : OneSpeaks) (v k : ℕ) (o : Opened) → x.window v ≡ Some o → Accepts x.flood v (node_of owner) k → Delivers v k
  accepts_delivers one v k o at accepts =
      let m = some_said s rank f owner x before window_is refl everyone_is rise (message_said (x.window (node_of owner))) one.1 in
      let d = (says_data s rank f owner x before window_is refl everyone_is rise (node_of owner) m.0 m.1).1 in
      let said : message_said (x.window (node_of owner)) ≡ Some (DataOf d.0) = m.1 ∙ ap (λ (n : Message). Some n) d.1 in
      let heard : accepted_at x v ≡ Some (DataOf d.0) =
      ap (option_and_then (λ (a : ℕ × ℕ). message_said (x.window a.0))) ((accepted_first x.flood v (node_of owner) k).1 accepts) ∙ said in
      record {
        packet = d.0;
        speaks = ap (λ (l : List ℕ). has l (node_of owner)) one.0 ∙ or_left (node_of owner == node_of owner) _ (eq-eqb (node_of owner) (node_of owner) refl);
        said = said;
        accepts = accepts;
        delivered = delivery_is v o at ∙ ap (λ (h : Option Message). option_map (delivery_of v f rank j) (said_data h)) heard;
      }

  opened_so : (w : Option Opened) → is_some w ≡ true → (o : Opened) × (w ≡ Some o)
  opened_so None opens = absurd (false≢true opens)
  opened_so (Some o) opens = (o, refl)

  -- in the step of the shortest path
  pub delivers_least : (v k : ℕ) → has (ids s.nodes) v ≡ true → is_some (x.window v) ≡ true → v ≢ node_of owner
      → Delivers v k ↔ IsLeast x.flood (node_of owner) (suc k) v
  delivers_least v k known opens other = (
    λ delivers.
        elim speakers [
          | inl none ↦ absurd (nobody_hears x.flood none v (node_of owner) k delivers.accepts.hears)
          | inr one ↦ (least one).0 delivers.accepts
        ],
    λ path.
        elim speakers [
          | inl none ↦ absurd (no_path x.flood none (node_of owner) v (suc k) other path.path)
          | inr one ↦ (let o = opened_so (x.window v) opens in accepts_delivers one v k o.0 o.1 ((least one).1 path))
        ],
  )
    where
      least : (one : OneSpeaks) → Accepts x.flood v (node_of owner) k ↔ IsLeast x.flood (node_of owner) (suc k) v
      least one =
          accepts_least x.flood (node_of owner) one.0 (owner_there s rank f owner x before window_is refl everyone_is rise one.0 one.1)
          k v (there v known opens) other

  -- and nobody else
  pub record IsDelivered (v : ℕ) (d : Delivery) : Type 0 where
    pub opens : is_some (x.window v) ≡ true
    pub other : v ≢ node_of owner
    pub step : ℕ
    pub delivers : Delivers v step
    pub same : d ≡ delivery_of v f rank j delivers.packet

  pub delivered_so : (v : ℕ) (d : Delivery) → delivery_in_slot s rank f p states j v ≡ Some d → IsDelivered v d
  delivered_so v d at = by_window (x.window v) refl
    where
      reached : IsReceived s rank f p states j owner
      reached = received s sound rank f p states j owner is

      other : v ≢ node_of owner
      other same = no_delivery d (sym reached.itself ∙ ap (delivery_in_slot s rank f p states j) (sym same) ∙ at)

      by_accepted : (o : Opened) → x.window v ≡ Some o → (a : Option (ℕ × ℕ)) → accepted x.flood v ≡ a → (x.flood.initiators ≡ []) ⊎ OneSpeaks → IsDelivered v d
      by_accepted o opens None none who =
          let heard : accepted_at x v ≡ None = ap (option_and_then (λ (a : ℕ × ℕ). message_said (x.window a.0))) none in
          absurd (no_delivery d (
          sym (delivery_is v o opens ∙ ap (λ (h : Option Message). option_map (delivery_of v f rank j) (said_data h)) heard) ∙ at))
      by_accepted o opens (Some a) some (inl none) =
          absurd (nobody_hears x.flood none v a.0 a.1 ((accepted_first x.flood v a.0 a.1).0 some).hears)
      by_accepted o opens (Some a) some (inr one) =
          let delivers = accepts_delivers one v a.1 o opens
          (from_owner s rank f owner x before window_is refl everyone_is rise one.0 one.1 v a some) in
          record {
            opens = ap (λ (w : Option Opened). is_some w) opens;
            other = other;
            step = a.1;
            delivers = delivers;
            same = one_delivery d (delivery_of v f rank j delivers.packet) (sym at ∙ delivers.delivered);
          }

      by_window : (w : Option Opened) → x.window v ≡ w → IsDelivered v d
      by_window None none = absurd (no_delivery d (sym (reached.outside v none) ∙ at))
      by_window (Some o) opens = by_accepted o opens (accepted x.flood v) refl speakers
