-- What a node delivers in a slot of the bus is what it delivers as its window of the slot closes.
use Rattle.std.proofs.Common.{◌≡◌, ℕ, ◌<◌, List, Bool, true, false, Some, None, Option, option_map, option_and_then, is_some, refl, sym, ◌∙◌, ap}
use Rattle.lwb_base.specs.Messages.{Plan}
use Rattle.bus_rules.specs.declared.delivery.Delivery.{Delivery}
use Rattle.bus_rules.specs.declared.part.Part.{Part}
use Rattle.bus_rules.specs.Cores.{Core}
use Rattle.bus_rules.specs.Slots.{Data, Message, Opened, Closed, delivery_of, opened_slot, part_of}
use Rattle.bus_rules.specs.States.{State, StateOn}
use Rattle.node_core.specs.Rows.{accepted_in}
use Rattle.scenario_text.specs.ScenarioParts.{ScenarioParts}
use Rattle.scenario_text.specs.FloodParts.{knows}
use Rattle.air_log.specs.declared.entry.Entry.{Entry}
use Rattle.scenario_text.specs.Setups.{setup_of}
use Rattle.air_log.specs.WindowLogs.{WindowLog, Closing}
use Rattle.law_windows.specs.WindowDeliveries.{delivery_at_closing}
use Rattle.bus_terms.specs.Rounds.{accepted_at, before_slot, closed_slot_of, delivery_in_slot}
use Rattle.bus_terms.specs.Bus.{state_at}
use Rattle.bus_terms.proofs.DeliveredSteps.{closed_data, said_data}
use Rattle.law_terms.specs.LawfulRuns.{IsLawfulRun}
use Rattle.bus_terms.specs.HostedRounds.{slot_in}
use Rattle.law_terms.specs.SlotLaws.{IsWindowOf}
use Rattle.law_terms.specs.SlotSteps.{IsSlotStart, IsSlotHeard}
use Rattle.law_bus.proofs.SlotsAtNodes.{window_is, no_window, not_member, up}

abbrev data_by : ScenarioParts → ℕ → Part → ℕ → Option Opened → Option Message → State → Option Data
data_by s f part v w m x = option_and_then (λ (c : Closed). c.delivered) (closed_slot_of s f part v w m x)

member_data : (s : ScenarioParts) (f : ℕ) (part : Part) (v : ℕ) (o : Opened) (m : Option Message) (x : State) → data_by s f part v (Some o) m x ≡ said_data m
member_data s f part v o m x = closed_data (setup_of s v) f part (is_some o.message) o.core m

guest_data : (s : ScenarioParts) (f : ℕ) (part : Part) (v : ℕ) (m : Option Message) (c : Core) → data_by s f part v None m (StateOn c) ≡ said_data m
guest_data s f part v None c = refl
guest_data s f part v (Some m) c = closed_data (setup_of s v) f part false c (Some m)

none_data : (s : ScenarioParts) (f : ℕ) (part : Part) (v : ℕ) (x : State) → data_by s f part v None None x ≡ None
none_data s f part v x = refl

module _ (s : ScenarioParts) (clocks : ℕ → ℕ → ℕ) (air : List Entry) (lawful : IsLawfulRun s clocks air)
    (rank f : ℕ) (in_run : f < s.frames) (j : ℕ) (p : Plan)
    (start : IsSlotStart s clocks air rank f p j) (heard : IsSlotHeard s clocks air rank f p j) (v : ℕ) where
  abbrev states : ℕ → State
  states = before_slot s rank f p (state_at s f) j

  abbrev brings : Option Data → Option Delivery
  brings d = option_map (delivery_of v f rank j) d

  abbrev m : Option Message
  m = accepted_at (slot_in s rank f p j) v

  module _ (w : WindowLog) (here : IsWindowOf s clocks air rank f j v w) (c : Closing) (is : w.closed ≡ Some c) where
    by_kind : (b : Bool) → w.by_alarm ≡ b → delivery_in_slot s rank f p (state_at s f) j v ≡ brings (said_data m)
    by_kind true alarm =
        let o = window_is s clocks air lawful rank f in_run j p start heard v w here alarm in
        ap (λ (x : Option Opened). brings (data_by s f (part_of p j) v x m (states v))) o
        ∙ ap brings (member_data s f (part_of p j) v (opened_slot (setup_of s v) f (part_of p j) w.before.core) m (states v))
    by_kind false joined =
        ap (λ (x : Option Opened). brings (data_by s f (part_of p j) v x m (states v)))
        (no_window s clocks air lawful rank f in_run j p start heard v w here joined)
        ∙ ap (λ (x : State). brings (data_by s f (part_of p j) v None m x)) (up s clocks air lawful rank f in_run j p start heard v w here joined)
        ∙ ap brings (guest_data s f (part_of p j) v m w.before.core)

    in_air : delivery_at_closing (setup_of s v) w ≡ brings (said_data m)
    in_air =
        ap (λ (d : Option Data). option_map (delivery_of v w.frame w.rank w.slot) d)
        (closed_data (setup_of s v) w.frame w.last.part w.last.flood.initiated w.after.core (accepted_in w.last))
        ∙ ap (λ (g : ℕ). option_map (delivery_of v g w.rank w.slot) (said_data (accepted_in w.last))) here.frame
        ∙ ap (λ (r : ℕ). option_map (delivery_of v f r w.slot) (said_data (accepted_in w.last))) here.channel
        ∙ ap (λ (i : ℕ). option_map (delivery_of v f rank i) (said_data (accepted_in w.last))) here.slot
        ∙ ap (λ (a : Option Message). brings (said_data a)) (heard.accepted v w here (ap (λ (o : Option Closing). is_some o) is))

    pub delivered_same : delivery_in_slot s rank f p (state_at s f) j v ≡ delivery_at_closing (setup_of s v) w
    delivered_same = by_kind w.by_alarm refl ∙ sym in_air

  pub delivered_nowhere : knows s.nodes v ≡ true → ((w : WindowLog) → IsWindowOf s clocks air rank f j v w → ⊥)
      → delivery_in_slot s rank f p (state_at s f) j v ≡ None
  delivered_nowhere known none =
      ap (λ (x : Option Opened). brings (data_by s f (part_of p j) v x m (states v)))
      (not_member s clocks air lawful rank f in_run j p start heard v known none (states v) refl)
      ∙ ap (λ (a : Option Message). brings (data_by s f (part_of p j) v None a (states v))) (heard.deaf v known none)
      ∙ ap brings (none_data s f (part_of p j) v (states v))
