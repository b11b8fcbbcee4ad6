-- The row reception: a packet is received in a window, and the flood of the window ignores it, keeps it or relays it.
use Rattle.std.proofs.Common.{◌≡◌, ℕ, suc, ◌+◌, ◌/◌, ◌<◌, List, [], ◌++◌, Bool, true, false, not, ◌&&◌, if◌then◌else◌, nat_lt, Some, None, Option, is_some}
use Rattle.std.proofs.Common.{is_none, true≢false, eqb-true, ltb-true, refl, sym, ◌∙◌, ap, arith}
use Rattle.std.specs.Prelude.{slice_index}
use Rattle.std.proofs.lemmas.Bool.{and_parts, not-true, or_parts}
use Rattle.lwb_base.specs.declared.event.Event.TheVariants.{Heard}
use Rattle.glossy_relay.specs.Relaying.{fits, accepted_of, relay_of, first_of, counter_of as count_of}
use Rattle.glossy_relay.specs.declared.flood.Reply.{Reply}
use Rattle.glossy_relay.specs.declared.flood.Reply.TheVariants.{Relay, Keep, Ignore}
use Rattle.glossy_relay.proofs.CountedPackets.{counter_set, fitting_long}
use Rattle.bus_rules.specs.Slots.{is_schedule_part}
use Rattle.lwb_member.specs.Said.{message_of}
use Rattle.node_core.specs.declared.stage.Stage.{Stage}
use Rattle.node_core.specs.declared.stage.Stage.TheVariants.{InWindow}
use Rattle.node_core.specs.Windows.{Window}
use Rattle.node_core.specs.Nodes.{Node, zero_from}
use Rattle.node_core.specs.Rows.{Stepped, is_foreign, is_ignored, relaying}
use Rattle.scenario_text.specs.ScenarioParts.{ScenarioParts}
use Rattle.radio_model.specs.Hearing.{slot_of_sending}
use Rattle.bus_rules.specs.declared.delivery.Delivery.{Delivery}
use Rattle.air_log.specs.declared.entry.Entry.{Entry}
use Rattle.air_log.specs.Devices.{Device, PowerOn, OrderedPacket}
use Rattle.air_log.specs.WindowLogs.{WindowLog, windows_after}
use Rattle.scenario_text.specs.Setups.{setup_of}
use Rattle.air_log.specs.Trails.{Reception, frame_start}
use Rattle.law_trails.specs.Phases.{Hearings}
use Rattle.law_trails.specs.Walks.{device_after_row}
use Rattle.law_safety.specs.SetAlarms.{rank_at}
use Rattle.law_safety.specs.OrderedSendings.{HasOrder, HasSending}
use Rattle.law_safety.specs.AcceptedPackets.{HasAccepted}
use Rattle.law_safety.specs.NodesInOrder.{IsOn, InOpenWindow}
use Rattle.law_safety.specs.KnownInRows.{IsHeardNow}
use Rattle.law_safety.specs.Rows.{IsFine, AtTick, HearingRow}
use Rattle.law_safety.proofs.HeardNow.{heard_in_floods}
use Rattle.law_safety.proofs.HeardPlaces.{taken, left, unheard, not_first, none_accepted}
use Rattle.law_safety.proofs.HeardRelays.{IsOfSlot, heard_in, relay_order, relay_ordered}
use Rattle.law_safety.proofs.IgnoredHearing.{rank, good, ignored}
use Rattle.law_safety.proofs.KeptWindows.{new_node, new_window, new_device, IsKept, sending_kept, order_kept, fine_kept}
use Rattle.law_safety.proofs.RestagedNodes.{if_some}
use Rattle.law_safety.proofs.IgnoredHearing as IgnoredHearing

module _ (s : ScenarioParts) (clocks : ℕ → ℕ → ℕ) (air : List Entry) (v t : ℕ) (at : AtTick s clocks air v t) (h : Reception) (d : Device)
    (now : IsHeardNow s clocks air v t h d)
    (n : Node) (j : ℕ) (w : Window) (fine : IsFine s clocks air v t Hearings d) (on : d.power ≡ PowerOn n) (stage : n.stage ≡ InWindow j w) where
  abbrev known : IsOn s clocks air v t (suc t) d n
  known = IgnoredHearing.known s clocks air v t at h d now n j w fine on stage

  abbrev window : InOpenWindow s clocks air v (suc t) n d j w
  window = IgnoredHearing.window s clocks air v t at h d now n j w fine on stage

  abbrev frame : n.frame ≡ t / s.profile.frame
  frame = IgnoredHearing.frame s clocks air v t at h d now n j w fine on stage

  abbrev began : frame_start s n.frame < t
  began = IgnoredHearing.began s clocks air v t at h d now n j w fine on stage

  -- ---- it fits the flood

  module _ (fitting : fits w.flood h.packet ≡ true) where
    -- it is of the slot, and nothing is ordered or being sent
    parts : (nat_lt w.flood.sent w.flood.limit ≡ true) × (w.flood.waiting ≡ false) × (slice_index h.packet 1 ≡ w.flood.slot)
    parts =
        let a = and_parts _ _ fitting in
        let b = and_parts _ _ a.0 in
        let c = and_parts _ _ b.0 in
        let e = and_parts _ _ c.0 in
        (e.0, not-true w.flood.waiting e.1, eqb-true (slice_index h.packet 1) w.flood.slot b.1)

    free : (is_some d.ordered ≡ false) × (is_some d.sending ≡ false)
    free = or_parts (is_some d.ordered) (is_some d.sending) (sym window.flood.waits ∙ parts.1)

    slot : slot_of_sending now.sending ≡ j
    slot = sym (ap (λ (q : List ℕ). slice_index q 1) now.packet) ∙ parts.2 ∙ window.flood.slot

    more : w.flood.sent ≡ s.sends → ⊥
    more all = let limit = window.flood.limit in let less = ltb-true w.flood.sent w.flood.limit parts.0 in omega (arith, all, limit, less)

    of_slot : (place : Stage) → IsOfSlot s clocks air v t at h d now (record n { stage = place }) j
    of_slot place = record {
      frame = frame;
      rank = rank s clocks air v t at h d now n j w fine on stage;
      slot = slot;
      good = good s clocks air v t at h d now n j w fine on stage;
    }

    -- the reference of a window whose flood began here or not, and has a first packet or none
    abbrev reference_for : Bool → Option (List ℕ) → Option ℕ
    reference_for i f =
        if is_schedule_part w.part && true && is_none (accepted_of (record (w.flood) { initiated = i; first = f })) && not i
        then Some (zero_from s.profile (clocks v t) h.packet) else w.reference

    accepts : (place : Stage) (waits i : Bool) (f : Option (List ℕ))
        → HasAccepted s clocks air v (suc t) n j (record w { flood = record (w.flood) { initiated = i; first = f } })
        → HasAccepted s clocks air v (suc t) (record n { stage = place }) j
        (record w { flood = record (w.flood) { waiting = waits; initiated = i; first = first_of f h.packet }; reference = reference_for i f })
    accepts place waits true f old = record { each = tt; joined = λ joining. absurd (none_accepted (old.joined joining).packet (old.joined joining).accepted) }
    accepts place waits false (Some p) old =
        let is = old.each in
        let x = is.heard in
        let e = is.in_slot in
        let stays : reference_for false (Some p) ≡ w.reference =
        left (is_schedule_part w.part) (Some (zero_from s.profile (clocks v t) h.packet)) w.reference in
        record {
          each = record {
            heard = x;
            in_slot = record { there = e.there; rank = e.rank; frame = e.frame; slot = e.slot; by = e.by };
            is = is.is;
            reference = λ part. stays ∙ is.reference part;
          };
          joined = λ joining. (let o = old.joined joining in record {
            schedule = o.schedule;
            packet = o.packet;
            accepted = o.accepted;
            says = o.says;
            rank = o.rank;
            reference = stays ∙ o.reference;
            last = o.last;
            part = o.part;
          });
        }
    accepts place waits false None old = record {
      each = record {
        heard = now.sending;
        in_slot = heard_in s clocks air v t at h d now (record n { stage = place }) j (of_slot place);
        is = now.packet;
        reference = λ part.
            taken (is_schedule_part w.part) (Some (zero_from s.profile (clocks v t) h.packet)) w.reference part
            ∙ ap (λ (e : ℕ). Some (zero_from s.profile (clocks v e) h.packet)) (sym now.end);
      };
      joined = λ joining. absurd (none_accepted (old.joined joining).packet (old.joined joining).accepted);
    }

    abbrev reference_now : Option ℕ
    reference_now = reference_for w.flood.initiated w.flood.first

    -- a relay is ordered
    module _ (less : count_of h.packet < 11) (ds : List Delivery) (ls : List WindowLog) where
      abbrev order : OrderedPacket
      order = relay_order s clocks air v t at h d now

      counted : slice_index order.packet 2 ≡ 0 → ⊥
      counted is = let k = counter_set h.packet (count_of h.packet + 1) (fitting_long w.flood h.packet fitting) in omega (arith, is, k)

      kept_relayed : IsKept s clocks air v t d n j w true (first_of w.flood.first h.packet) reference_now (Some order) ds ls
      kept_relayed = record {
        keeps = λ q is. ap (λ (o : Option (List ℕ)). first_of o h.packet) is;
        before = λ first. absurd (counted first);
        after = λ first. absurd (not_first d.ordered free.0 first);
        by_life = λ l f is first. absurd (counted first);
      }

      abbrev relaying_node : Node
      relaying_node = new_node s clocks air v t d n j w true (first_of w.flood.first h.packet) reference_now (Some order) ds ls

      abbrev relaying_window : Window
      relaying_window = new_window s clocks air v t d n j w true (first_of w.flood.first h.packet) reference_now (Some order) ds ls

      abbrev relaying_device : Device
      relaying_device = new_device s clocks air v t d n j w true (first_of w.flood.first h.packet) reference_now (Some order) ds ls

      relayed_window : InOpenWindow s clocks air v (suc t) relaying_node relaying_device j relaying_window
      relayed_window =
          let f = window.flood in
          record {
            flood = record {
              kind = f.kind;
              slot = f.slot;
              limit = f.limit;
              few = f.few;
              waits = refl;
              one = free.1;
              spent = λ all. absurd (more all);
              own = f.own;
            };
            order = relay_ordered s clocks air v t at h d now relaying_node j (of_slot (InWindow j relaying_window)) relaying_window less;
            sending = if_some d.sending (HasSending s clocks air v n j) (HasSending s clocks air v relaying_node j)
                (sending_kept s clocks air v t d n j w true (first_of w.flood.first h.packet) reference_now (Some order) ds ls) window.sending;
            accepted = accepts (InWindow j relaying_window) true w.flood.initiated w.flood.first window.accepted;
          }

      pub relayed : IsFine s clocks air v t Hearings relaying_device
      relayed = fine_kept s clocks air v t d n j w true (first_of w.flood.first h.packet) reference_now
          (Some order) ds ls known stage kept_relayed frame began relayed_window fine on

    -- it is the last of its flood
    module _ (ds : List Delivery) (ls : List WindowLog) where
      kept_last : IsKept s clocks air v t d n j w false (first_of w.flood.first h.packet) reference_now d.ordered ds ls
      kept_last = record {
        keeps = λ q is. ap (λ (o : Option (List ℕ)). first_of o h.packet) is;
        before = λ first. first;
        after = λ first. first;
        by_life = λ l f is. is;
      }

      abbrev keeping_node : Node
      keeping_node = new_node s clocks air v t d n j w false (first_of w.flood.first h.packet) reference_now d.ordered ds ls

      abbrev keeping_window : Window
      keeping_window = new_window s clocks air v t d n j w false (first_of w.flood.first h.packet) reference_now d.ordered ds ls

      abbrev keeping_device : Device
      keeping_device = new_device s clocks air v t d n j w false (first_of w.flood.first h.packet) reference_now d.ordered ds ls

      last_window : InOpenWindow s clocks air v (suc t) keeping_node keeping_device j keeping_window
      last_window =
          let f = window.flood in
          record {
            flood = record {
              kind = f.kind;
              slot = f.slot;
              limit = f.limit;
              few = f.few;
              waits = sym parts.1 ∙ f.waits;
              one = f.one;
              spent = λ all. refl;
              own = f.own;
            };
            order = if_some d.ordered (HasOrder s clocks air v (suc t) n j w) (HasOrder s clocks air v (suc t) keeping_node j keeping_window)
                (order_kept s clocks air v t d n j w false (first_of w.flood.first h.packet) reference_now d.ordered ds ls kept_last) window.order;
            sending = if_some d.sending (HasSending s clocks air v n j) (HasSending s clocks air v keeping_node j)
                (sending_kept s clocks air v t d n j w false (first_of w.flood.first h.packet) reference_now d.ordered ds ls) window.sending;
            accepted = accepts (InWindow j keeping_window) false w.flood.initiated w.flood.first window.accepted;
          }

      pub kept_so : IsFine s clocks air v t Hearings keeping_device
      kept_so = fine_kept s clocks air v t d n j w false
          (first_of w.flood.first h.packet) reference_now d.ordered ds ls known stage kept_last frame began last_window fine on

  -- ---- the row, by the tests of its flood

  abbrev answer : Bool → Bool → Bool → Reply
  answer foreign fitting less = if foreign then Ignore else (if fitting then (if less then Relay (relay_of h.packet) else Keep) else Ignore)

  abbrev reference_by : Bool → Bool → Bool → Option ℕ
  reference_by foreign fitting less =
      if is_schedule_part w.part && not (is_ignored (answer foreign fitting less)) && is_none (accepted_of w.flood) && not w.flood.initiated
      then Some (zero_from s.profile (clocks v t) h.packet) else w.reference

  abbrev row_by : Bool → Bool → Bool → Stepped
  row_by foreign fitting less = record {
    node = record n {
      stage = InWindow j (record w {
        flood = if foreign then w.flood else (if fitting then record (w.flood) { waiting = less; first = first_of w.flood.first h.packet } else w.flood);
        reference = reference_by foreign fitting less;
      });
    };
    orders = relaying s.profile (clocks v t) (answer foreign fitting less);
    delivery = None;
  }

  abbrev deliveries_so : List Delivery
  deliveries_so = d.made.deliveries ++ []

  abbrev windows_so : Bool → Bool → Bool → List WindowLog
  windows_so foreign fitting less = windows_after t (Heard h.packet) None n (row_by foreign fitting less).node n.stage
      (row_by foreign fitting less).node.stage d.made.windows

  reference_stays : (foreign fitting less : Bool) → not (is_ignored (answer foreign fitting less)) ≡ false → reference_by foreign fitting less ≡ w.reference
  reference_stays true fitting less is =
      unheard (is_schedule_part w.part) (is_none (accepted_of w.flood)) (not w.flood.initiated) (Some (zero_from s.profile (clocks v t) h.packet)) w.reference
  reference_stays false false less is =
      unheard (is_schedule_part w.part) (is_none (accepted_of w.flood)) (not w.flood.initiated) (Some (zero_from s.profile (clocks v t) h.packet)) w.reference
  reference_stays false true true is = absurd (true≢false is)
  reference_stays false true false is = absurd (true≢false is)

  by_tests : (foreign fitting less : Bool) → fits w.flood h.packet ≡ fitting → nat_lt (count_of h.packet) 11 ≡ less
      → IsFine s clocks air v t Hearings (device_after_row (clocks v) (setup_of s v) t (Heard h.packet) None d n (row_by foreign fitting less))
  by_tests true fitting less fit few = ignored s clocks air v t at h d now n j w fine on stage (reference_by true fitting less)
      (reference_stays true fitting less refl) deliveries_so (windows_so true fitting less)
  by_tests false false less fit few = ignored s clocks air v t at h d now n j w fine on stage (reference_by false false less)
      (reference_stays false false less refl) deliveries_so (windows_so false false less)
  by_tests false true true fit few = relayed fit (ltb-true (count_of h.packet) 11 few) deliveries_so (windows_so false true true)
  by_tests false true false fit few = kept_so fit deliveries_so (windows_so false true false)

pub hearing_row : HearingRow
hearing_row s clocks air v t at d h n j w here next on stage =
    by_tests s clocks air v t at h d (heard_in_floods s clocks air v t at h d next) n j w here.holds on stage
    (is_foreign (rank_at n) (message_of h.packet)) (fits w.flood h.packet) (nat_lt (count_of h.packet) 11) refl refl
