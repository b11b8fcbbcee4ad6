-- What is ordered in the window that opens, and that the node has not begun its flood before.
use Rattle.std.proofs.Common.{◌≡◌, ℕ, suc, ◌≤◌, inl, List, Bool, true, Option, Some, None, IfSome, Contains, length, refl, sym, ap, subst, arith}
use Rattle.std.proofs.lemmas.Bool.{false≢true}
use Rattle.time_reference.specs.Budgets.{budget_of}
use Rattle.bus_rules.specs.declared.part.Part.{Part}
use Rattle.bus_rules.specs.Tuning.{hosts}
use Rattle.bus_rules.specs.Cores.{Setup}
use Rattle.bus_rules.specs.Slots.{Message, part_of}
use Rattle.lwb_member.specs.Places.{kind_for}
use Rattle.lwb_member.specs.Said.{bytes_of}
use Rattle.lwb_member.proofs.Lengths.{said_long}
use Rattle.node_core.specs.Windows.{Window}
use Rattle.node_core.specs.Nodes.{Node}
use Rattle.node_core.specs.Rows.{flood_for}
use Rattle.scenario_text.specs.ScenarioParts.{ScenarioParts}
use Rattle.radio_model.specs.declared.sending.Sending.{Sending}
use Rattle.air_log.specs.declared.entry.Entry.{Entry}
use Rattle.air_log.specs.Devices.{Device, OrderedPacket}
use Rattle.scenario_text.specs.Setups.{setup_of}
use Rattle.law_trails.specs.NodeRanges.{IsNodeInRange}
use Rattle.law_trails.specs.RowEffects.{said}
use Rattle.law_trails.proofs.OtherCounters.{first_place}
use Rattle.law_trails.proofs.ProfilePackets.{covers}
use Rattle.law_trails.proofs.SaidInRange.{IsSayable}
use Rattle.law_safety.specs.SetAlarms.{rank_at}
use Rattle.law_safety.specs.Beginnings.{MaySay, MayBegin}
use Rattle.law_safety.specs.OrderedSendings.{HasOrder}
use Rattle.law_safety.specs.BegunFloods.{IsFirstOrdered, HasBegun, BeginsOnce}
use Rattle.law_safety.specs.Rows.{AtTick}
use Rattle.law_safety.proofs.AwaitedSlots.{Awaits, starts_then, over_before_close}
use Rattle.law_safety.proofs.OpeningRoles.{SameStanding}
use Rattle.law_safety.proofs.OpenedNodes.{IsLeft, left, window, after, standing}
use Rattle.law_safety.proofs.OpenedDevices.{ordered_is}
use Rattle.law_safety.proofs.OpenedSpeech.{may_say, sayable, may_begin}

module _ (s : ScenarioParts) (clocks : ℕ → ℕ → ℕ) (air : List Entry) (v t : ℕ) (at : AtTick s clocks air v t) (d : Device) (n : Node) (j : ℕ)
    (is : Awaits s clocks air v t d n j) where
  abbrev S : Setup
  S = setup_of s v

  abbrev m : Node
  m = after s clocks air v t at d n j is

  abbrev w : Window
  w = window s clocks air v t at d n j is

  abbrev message : Option Message
  message = (left s clocks air v t at d n j is).message

  abbrev part : Part
  part = part_of n.core.plan j

  abbrev May : Message → Type 0
  May x = MaySay s clocks air v (rank_at n) n.frame n.zero j (hosts n.core.tune) (Some x)

  abbrev so : SameStanding n.core m.core
  so = standing s clocks air v t at d n j is

  -- the first packet of what it says
  order_by : IsNodeInRange (setup_of s v) n → (o : Option Message) → message ≡ o → IfSome o May → IfSome o (IsSayable S (kind_for part) j)
      → IfSome (said (clocks v) S t n.zero j None o) (HasOrder s clocks air v (suc t) m j w)
  order_by ranged None same may say = tt
  order_by ranged (Some x) same may say =
      let q = bytes_of x j in
      let packets = (covers s.profile at.run.driven.sound.profile).packets in
      let long = said_long x j in
      let short = say.short in
      let size : length q ≤ (budget_of s.profile).packet = omega (arith, packets, long, short) in
      let over = over_before_close s clocks air v t at d n j is (length q) size in
      let starts = starts_then s clocks air v t at d n j is in
      record {
        over = omega (arith, over, starts);
        slot = (first_place x j).0;
        why = inl (record {
          initiated = ap (λ (y : Option Message). (flood_for S part j y).initiated) same;
          packet = ap (λ (y : Option Message). (flood_for S part j y).first) same;
          at = starts;
          start =
              subst (λ (hosting : Bool). MayBegin s clocks air v (rank_at m) n.frame n.zero j hosting q) (sym so.host)
              (subst (λ (r : ℕ). MayBegin s clocks air v r n.frame n.zero j (hosts n.core.tune) q) (sym so.rank)
              (may_begin s clocks air v t at d n j is ranged x may say));
        });
      }

  -- if a flood is begun, its first packet is ordered
  first_by : (o : Option Message) → (flood_for S part j o).initiated ≡ true → IsFirstOrdered (said (clocks v) S t n.zero j None o)
  first_by None begun = absurd (false≢true begun)
  first_by (Some x) begun = (first_place x j).1

  module _ (e : Device) (leaves : IsLeft s clocks air v t at d n j is e) where
    ordered_now : e.ordered ≡ said (clocks v) (setup_of s v) t n.zero j None message
    ordered_now = ordered_is s clocks air v t at d n j is e leaves

    pub order_clause : IsNodeInRange (setup_of s v) n → IfSome e.ordered (HasOrder s clocks air v (suc t) m j w)
    order_clause ranged =
        subst (λ (o : Option OrderedPacket). IfSome o (HasOrder s clocks air v (suc t) m j w)) (sym ordered_now)
        (order_by ranged message refl (may_say s clocks air v t at d n j is ranged) (sayable s clocks air v t at d n j is ranged))

    before : (f : ℕ) (x : Sending) → HasBegun s f e x → HasBegun s f d x
    before f x begun = record { sent = subst (λ (xs : List Sending). Contains xs x) leaves.sent begun.sent; first = begun.first; frame = begun.frame }

    pub begun_clause : BeginsOnce s m e
    begun_clause = record {
      at = record {
        below = λ x begun. (let less = is.below x (before n.frame x begun) in omega (arith, less));
        packet = λ x begun same. (let less = is.below x (before n.frame x begun) in absurd (omega (arith, less, same)));
        made = λ begun. inl (subst IsFirstOrdered (sym ordered_now) (first_by message begun));
      };
      once = λ f x y begun also. is.once f x y (before f x begun) (before f y also);
    }
