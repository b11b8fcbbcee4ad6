-- The row joining: a node that scans receives a schedule of its rank, and a window opens that has accepted it.
use Rattle.std.proofs.Common.{◌≡◌, ℕ, suc, ◌+◌, List, [], ◌∷◌, ◌++◌, Bool, true, false, if◌then◌else◌, nat_lt, Some, None}
use Rattle.std.proofs.Common.{Option, is_some, IfSome, Contains, ltb-true, refl, sym, ap, subst, arith}
use Rattle.std.specs.Prelude.{slice_index}
use Rattle.std.proofs.lemmas.Bool.{false≢true}
use Rattle.lwb_base.specs.Messages.{Schedule}
use Rattle.lwb_base.specs.declared.event.Event.TheVariants.{Heard}
use Rattle.lwb_base.specs.declared.order.Order.TheVariants.{Alarm as AlarmAt}
use Rattle.lwb_packets.specs.declared.kind.Kind as Kind
use Rattle.glossy_relay.specs.FloodState.{FloodState, listening}
use Rattle.glossy_relay.specs.Relaying.{fits, relay_of, counter_of as count_of}
use Rattle.glossy_relay.specs.declared.flood.Reply.{Reply}
use Rattle.glossy_relay.specs.declared.flood.Reply.TheVariants.{Relay, Keep, Ignore}
use Rattle.glossy_relay.proofs.CountedPackets.{counter_set, fitting_long}
use Rattle.bus_rules.specs.declared.delivery.Delivery.{Delivery}
use Rattle.bus_rules.specs.Slots.{ScheduleOf}
use Rattle.lwb_member.specs.Said.{message_of}
use Rattle.node_core.specs.declared.stage.Stage.TheVariants.{Scanning, InWindow}
use Rattle.node_core.specs.Nodes.{Node, zero_from, closes_at}
use Rattle.node_core.specs.Rows.{Stepped, relaying, part_by, last_by}
use Rattle.scenario_text.specs.ScenarioParts.{ScenarioParts}
use Rattle.radio_model.specs.declared.sending.Sending.{Sending}
use Rattle.air_log.specs.declared.entry.Entry.{Entry}
use Rattle.air_log.specs.Devices.{Device, PowerOn, OrderedPacket, listens_to}
use Rattle.air_log.specs.Lawful.{heard_by}
use Rattle.air_log.specs.WindowLogs.{WindowLog, windows_after}
use Rattle.scenario_text.specs.Setups.{setup_of}
use Rattle.air_log.specs.Trails.{Reception}
use Rattle.law_trails.specs.Phases.{Hearings}
use Rattle.law_trails.specs.Walks.{device_after_row}
use Rattle.law_safety.specs.SetAlarms.{rank_at}
use Rattle.law_safety.specs.StillDevices.{IsStill}
use Rattle.law_safety.specs.OrderedSendings.{HasOrder}
use Rattle.law_safety.specs.KnownInRows.{IsHeardNow}
use Rattle.law_safety.specs.Rows.{IsFine, AtTick, JoiningRow}
use Rattle.law_safety.proofs.HeardNow.{heard_in_floods}
use Rattle.law_safety.proofs.HeardRelays.{relay_order, relay_ordered}
use Rattle.law_safety.proofs.JoinedWindow.{fitting, joined, joined_fine, of_slot, open_window}
use Rattle.law_safety.proofs.JoinedWindow as JoinedWindow

module _ (s : ScenarioParts) (clocks : ℕ → ℕ → ℕ) (air : List Entry) (v t : ℕ) (at : AtTick s clocks air v t) (h : Reception) (d : Device)
    (now : IsHeardNow s clocks air v t h d)
    (n : Node) (y : Schedule) (there : Contains (heard_by air v) h) (ended : h.end ≡ t) (says : message_of h.packet ≡ Some (ScheduleOf y))
    (of_rank : y.plan.rank ≡ rank_at n)
    (fine : IsFine s clocks air v t Hearings d) (on : d.power ≡ PowerOn n) (stage : n.stage ≡ Scanning) where
  abbrev slot : ℕ
  slot = slice_index h.packet 1

  abbrev empty : FloodState
  empty = listening Kind.TheVariants.Schedule slot s.sends

  abbrev zero_now : ℕ
  zero_now = zero_from s.profile (clocks v t) h.packet

  abbrev radio : (listens_to (rank_at n) d.listening ≡ true) × IsStill d
  radio = JoinedWindow.radio s clocks air v t at h d now n y there ended says of_rank fine on stage

  -- ---- the row, by the counter

  abbrev answer : Bool → Bool → Reply
  answer fit less = if fit then (if less then Relay (relay_of h.packet) else Keep) else Ignore

  abbrev row_by : Bool → Bool → Stepped
  row_by fit less = record {
    node = record n {
      zero = zero_now;
      stage = InWindow slot (record {
        part = part_by y;
        last = last_by y slot;
        flood = if fit then record empty { waiting = less; first = Some h.packet } else empty;
        reference = Some zero_now;
      });
    };
    orders = relaying s.profile (clocks v t) (answer fit less) ++ AlarmAt (closes_at s.profile zero_now slot) ∷ [];
    delivery = None;
  }

  abbrev deliveries_so : List Delivery
  deliveries_so = d.made.deliveries ++ []

  abbrev windows_so : Bool → Bool → List WindowLog
  windows_so fit less = windows_after t (Heard h.packet) None n (row_by fit less).node n.stage (row_by fit less).node.stage d.made.windows

  by_tests : (fit less : Bool) → fit ≡ true → nat_lt (count_of h.packet) 11 ≡ less
      → IsFine s clocks air v t Hearings (device_after_row (clocks v) (setup_of s v) t (Heard h.packet) None d n (row_by fit less))
  by_tests false less fit few = absurd (false≢true fit)
  by_tests true true fit few =
      let k = counter_set h.packet (count_of h.packet + 1)
      (fitting_long empty h.packet (fitting s clocks air v t at h d now n y there ended says of_rank fine on stage)) in
      let o : OrderedPacket = relay_order s clocks air v t at h d now in
      joined_fine s clocks air v t at h d now n y there ended says of_rank fine on stage true (Some o) deliveries_so (windows_so true true) refl
      (ap (λ (x : Option Sending). is_some x) radio.1.sending)
      (relay_ordered s clocks air v t at h d now
      (joined s clocks air v t at h d now n y there ended says of_rank fine on stage true (Some o) [] []) slot
      (of_slot s clocks air v t at h d now n y there ended says of_rank fine on stage true (Some o) [] [])
      (open_window s clocks air v t at h d now n y there ended says of_rank fine on stage true (Some o) [] [])
      (ltb-true (count_of h.packet) 11 few))
      (λ l f is first. (let zero_counter : slice_index (relay_of h.packet) 2 ≡ 0 = first in absurd (omega (arith, zero_counter, k))))
  by_tests true false fit few =
      joined_fine s clocks air v t at h d now n y there ended says of_rank fine on stage false d.ordered deliveries_so (windows_so true false)
      (rw (radio.1.ordered, radio.1.sending) refl) (rw (radio.1.ordered) refl)
      (subst (λ (o : Option OrderedPacket). IfSome o
      (HasOrder s clocks air v (suc t) (joined s clocks air v t at h d now n y there ended says of_rank fine on stage false d.ordered [] []) slot
      (open_window s clocks air v t at h d now n y there ended says of_rank fine on stage false d.ordered [] []))) (sym radio.1.ordered) tt)
      (λ l f is. is)

pub joining_row : JoiningRow
joining_row s clocks air v t at d h n y here next on stage says of_rank =
    let now = heard_in_floods s clocks air v t at h d next in
    by_tests s clocks air v t at h d now n y next.there next.now says of_rank here.holds on stage
    (fits (listening Kind.TheVariants.Schedule (slice_index h.packet 1) s.sends) h.packet) (nat_lt (count_of h.packet) 11)
    (fitting s clocks air v t at h d now n y next.there next.now says of_rank here.holds on stage) refl
