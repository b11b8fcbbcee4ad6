-- The device that a window's opening leaves: its alarm, its radio and the flood of its window.
use Rattle.std.proofs.Common.{◌≡◌, ℕ, suc, ◌≤◌, List, Bool, true, false, ◌&&◌, ◌||◌, nat_lt, Option, Some, None, IfSome, is_some, refl, sym, ◌∙◌, ap, subst}
use Rattle.std.proofs.Common.{arith, lt-ltb, true≢false}
use Rattle.lwb_base.proofs.Truths.{and_false}
use Rattle.time_reference.specs.Zeros.{closing_offset}
use Rattle.glossy_relay.specs.Relaying.{accepted_of}
use Rattle.radio_model.specs.declared.sending.Sending.{Sending}
use Rattle.bus_rules.specs.declared.part.Part.{Part}
use Rattle.bus_rules.specs.Cores.{Setup}
use Rattle.bus_rules.specs.Slots.{Message}
use Rattle.node_core.specs.Nodes.{Node}
use Rattle.node_core.specs.Rows.{flood_for}
use Rattle.scenario_text.specs.ScenarioParts.{ScenarioParts}
use Rattle.air_log.specs.declared.entry.Entry.{Entry}
use Rattle.air_log.specs.Devices.{Device, OrderedPacket, listens_to}
use Rattle.scenario_text.specs.Setups.{setup_of}
use Rattle.law_trails.specs.NodeRanges.{IsNodeInRange, IsInStage, IsOpenInRange}
use Rattle.law_trails.specs.RowEffects.{said}
use Rattle.law_trails.proofs.WindowsInRange.{opens_is}
use Rattle.law_safety.specs.SetAlarms.{rank_at, tick_by, HasAlarm}
use Rattle.law_safety.specs.TunedNodes.{Either}
use Rattle.law_safety.specs.RadiosOn.{HasRadio}
use Rattle.law_safety.specs.OpenFloods.{HasFlood}
use Rattle.law_safety.specs.AcceptedPackets.{IsAccepted, HasAccepted}
use Rattle.law_safety.specs.OrderedSendings.{HasSending}
use Rattle.law_safety.specs.Rows.{AtTick}
use Rattle.law_safety.proofs.AwaitedSlots.{Awaits, closes_then}
use Rattle.law_safety.proofs.OpenedNodes.{IsLeft, flood_unsent, flood_limit, is_set, left, window, after, standing, none_joins}
use Rattle.law_safety.proofs.TunedRadios.{listens_is}

flood_waits : (clock : ℕ → ℕ) (s : Setup) (t z : ℕ) (part : Part) (j : ℕ) (x : Option Message)
    → (flood_for s part j x).waiting ≡ (is_some (said clock s t z j None x) || false)
flood_waits clock s t z part j None = refl
flood_waits clock s t z part j (Some m) = refl

none_accepted : (s : Setup) (part : Part) (j : ℕ) (x : Option Message) → accepted_of (flood_for s part j x) ≡ None
none_accepted s part j None = refl
none_accepted s part j (Some m) = refl

module _ (s : ScenarioParts) (clocks : ℕ → ℕ → ℕ) (air : List Entry) (v t : ℕ) (at : AtTick s clocks air v t) (d : Device) (n : Node) (j : ℕ)
    (is : Awaits s clocks air v t d n j) where
  abbrev S : Setup
  S = setup_of s v

  -- the node, the window, and what is ordered
  abbrev m : Node
  m = after s clocks air v t at d n j is

  abbrev message : Option Message
  message = (left s clocks air v t at d n j is).message

  abbrev part : Part
  part = (window s clocks air v t at d n j is).part

  module _ (e : Device) (leaves : IsLeft s clocks air v t at d n j is e) where
    pub ordered_is : e.ordered ≡ said (clocks v) (setup_of s v) t n.zero j None message
    ordered_is = leaves.ordered_is ∙ ap (λ (o : Option OrderedPacket). said (clocks v) S t n.zero j o message) is.still.ordered

    pub sending_is : e.sending ≡ None
    sending_is = leaves.sending ∙ is.still.sending

    pub alarm_clause : HasAlarm s clocks v m e
    alarm_clause = record {
      alarm = tick_by s clocks v n (closing_offset s.profile j);
      set = leaves.alarm_is ∙ ap (λ (a : ℕ). Some a) (closes_then s clocks air v t at d n j is);
      at = refl;
    }

    some_sends : 1 ≤ s.sends
    some_sends = at.run.driven.sound.some_sends

    pub radio_clause : HasRadio m e
    radio_clause =
        let same = standing s clocks air v t at d n j is in
        let unsent = flood_unsent S part j message in
        let limit = flood_limit S part j message in
        let some = some_sends in
        let opens : nat_lt (flood_for S part j message).sent (flood_for S part j message).limit ≡ true =
        lt-ltb (flood_for S part j message).sent (flood_for S part j message).limit (omega (arith, unsent, limit, some)) in
        record {
          at = subst (λ (on : Bool). Either on (listens_to (rank_at m) e.listening ≡ true) (e.listening ≡ None)) (sym opens)
              (listens_is (rank_at m) e.listening (leaves.channel_is ∙ ap (λ (r : ℕ). Some r) (sym same.rank)));
        }

    pub flood_clause : IsNodeInRange (setup_of s v) n → HasFlood s m e j (window s clocks air v t at d n j is)
    flood_clause ranged =
        let own = (subst (IsInStage S n.frame n.core) is.stage ranged.stage).1 in
        let opened_so : IsOpenInRange S n.frame m.core j (window s clocks air v t at d n j is) =
        opens_is S (is_set s clocks air v t at) n.frame j n.core ranged.core is.member.slot own in
        let unsent = flood_unsent S part j message in
        let some = some_sends in
        let both = ap (λ (o : Option OrderedPacket). is_some o || is_some e.sending) ordered_is
        ∙ ap (λ (x : Option Sending). is_some (said (clocks v) S t n.zero j None message) || is_some x) sending_is in
        record {
          kind = opened_so.flood.kind;
          slot = opened_so.flood.slot;
          limit = opened_so.flood.limit;
          few = omega (arith, unsent);
          waits = flood_waits (clocks v) S t n.zero part j message ∙ sym both;
          one = ap (λ (x : Option Sending). is_some e.ordered && is_some x) sending_is ∙ and_false (is_some e.ordered);
          spent = λ full. absurd (omega (arith, full, unsent, some));
          own = opened_so.hosted;
        }

    pub accepted_clause : HasAccepted s clocks air v (suc t) m j (window s clocks air v t at d n j is)
    accepted_clause = record {
      each = subst (λ (o : Option (List ℕ × ℕ)). IfSome o (λ a. IsAccepted s clocks air v (suc t) m j (window s clocks air v t at d n j is) a.0))
          (sym (none_accepted S part j message)) tt;
      joined = λ joins. absurd (true≢false (sym joins ∙ none_joins s clocks air v t at d n j is));
    }

    pub sending_clause : IfSome e.sending (HasSending s clocks air v m j)
    sending_clause = subst (λ (o : Option Sending). IfSome o (HasSending s clocks air v m j)) (sym sending_is) tt
