-- A packet is received in a window, and the flood of the window ignores it.
use Rattle.std.proofs.Common.{◌≡◌, ℕ, suc, ◌/◌, ◌<◌, List, Bool, true, false, nat_lt, None, Option, ◌∙◌, subst, arith}
use Rattle.std.specs.Prelude.{slice_index}
use Rattle.time_reference.specs.Budgets.{budget_of}
use Rattle.time_reference.specs.Zeros.{opening_offset, closing_offset}
use Rattle.time_reference.proofs.Points.{good_later}
use Rattle.glossy_relay.specs.Relaying.{accepted_of}
use Rattle.node_core.specs.declared.stage.Stage.TheVariants.{InWindow}
use Rattle.node_core.specs.Windows.{Window}
use Rattle.node_core.specs.Nodes.{Node}
use Rattle.scenario_text.specs.ScenarioParts.{ScenarioParts}
use Rattle.radio_model.specs.declared.sending.Sending.{Sending}
use Rattle.bus_rules.specs.declared.delivery.Delivery.{Delivery}
use Rattle.air_log.specs.declared.entry.Entry.{Entry}
use Rattle.air_log.specs.Devices.{Device, PowerOn, listens_to}
use Rattle.air_log.specs.WindowLogs.{WindowLog}
use Rattle.air_log.specs.Trails.{Reception, frame_start}
use Rattle.law_trails.specs.Phases.{Hearings}
use Rattle.law_trails.proofs.HeardReferences.{good_now}
use Rattle.law_safety.specs.RoundZeros.{RefFor, GoodFor}
use Rattle.law_safety.specs.SetAlarms.{rank_at}
use Rattle.law_safety.specs.TunedNodes.{Either, IsTunedAt, IsMember, is_joining, is_last_window}
use Rattle.law_safety.specs.RadiosOn.{RadioFor}
use Rattle.law_safety.specs.OrderedSendings.{HeardIn, HasOrder, HasSending}
use Rattle.law_safety.specs.AcceptedPackets.{IsAccepted}
use Rattle.law_safety.specs.NodesInOrder.{IsOn, InOpenWindow, WindowAt, InOrderBy}
use Rattle.law_safety.specs.KnownInRows.{IsHeardNow}
use Rattle.law_safety.specs.Rows.{IsFine, AtTick}
use Rattle.law_safety.proofs.HeardPlaces.{listened, silent, frame_now, began_now}
use Rattle.law_safety.proofs.KeptWindows.{new_node, new_window, new_device, IsKept, sending_kept, order_kept, fine_kept, heard_in as heard_still}
use Rattle.law_safety.proofs.RestagedNodes.{if_some}
use Rattle.law_safety.proofs.RunFacts.{run_fits}

module _ (s : ScenarioParts) (clocks : ℕ → ℕ → ℕ) (air : List Entry) (v t : ℕ) (at : AtTick s clocks air v t) (h : Reception) (d : Device)
    (now : IsHeardNow s clocks air v t h d)
    (n : Node) (j : ℕ) (w : Window) (fine : IsFine s clocks air v t Hearings d) (on : d.power ≡ PowerOn n) (stage : n.stage ≡ InWindow j w) where
  pub known : IsOn s clocks air v t (suc t) d n
  known = subst (InOrderBy s clocks air v t (suc t) d) on fine.node.by_power

  pub window : InOpenWindow s clocks air v (suc t) n d j w
  window = subst (WindowAt s clocks air v (suc t) n d) stage known.window

  pub frame : n.frame ≡ t / s.profile.frame
  frame = frame_now s clocks air v t h d now n known

  pub began : frame_start s n.frame < t
  began = began_now s clocks air v t h d now n known

  pub rank : now.sending.rank ≡ rank_at n
  rank = by_radio (nat_lt w.flood.sent w.flood.limit) (subst (RadioFor n d) stage known.radio.at)
    where
      by_radio : (b : Bool) → Either b (listens_to (rank_at n) d.listening ≡ true) (d.listening ≡ None) → now.sending.rank ≡ rank_at n
      by_radio true is = listened d.listening (rank_at n) now.sending.rank now.channel is
      by_radio false is = absurd (silent d.listening now.sending.rank now.channel is)

  pub good : GoodFor s clocks (rank_at n) v n.zero n.frame (closing_offset s.profile j)
  good = by_tune (is_joining n) (subst (IsTunedAt s clocks v n) stage known.tune.at)
    where
      by_tune : (b : Bool) → Either b (RefFor s clocks (rank_at n) v n.zero n.frame n.frame j) (IsMember s clocks v n j w.last (is_last_window j w))
          → GoodFor s clocks (rank_at n) v n.zero n.frame (closing_offset s.profile j)
      by_tune true ref = good_now s.profile (budget_of s.profile) (run_fits s at.run.driven.sound) (clocks (slice_index s.hosts (rank_at n)))
          (clocks v) n.zero n.frame j ref
      by_tune false is =
          good_later s.profile (budget_of s.profile) (run_fits s at.run.driven.sound) (clocks (slice_index s.hosts (rank_at n))) (clocks v) n.zero n.frame
          (opening_offset s.profile j) (closing_offset s.profile j) (omega arith) is.good

  -- ---- the flood ignores it

  module _ (reference : Option ℕ) (same : reference ≡ w.reference) (ds : List Delivery) (ls : List WindowLog) where
    kept_all : IsKept s clocks air v t d n j w w.flood.waiting w.flood.first reference d.ordered ds ls
    kept_all = record { keeps = λ q is. is; before = λ first. first; after = λ first. first; by_life = λ l f is. is }

    abbrev same_node : Node
    same_node = new_node s clocks air v t d n j w w.flood.waiting w.flood.first reference d.ordered ds ls

    abbrev same_window : Window
    same_window = new_window s clocks air v t d n j w w.flood.waiting w.flood.first reference d.ordered ds ls

    abbrev same_device : Device
    same_device = new_device s clocks air v t d n j w w.flood.waiting w.flood.first reference d.ordered ds ls

    still : (x : Sending) → HeardIn s air v (suc t) n j x → HeardIn s air v (suc t) same_node j x
    still x = heard_still s clocks air v t d n j w w.flood.waiting w.flood.first reference d.ordered ds ls x

    ignored_window : InOpenWindow s clocks air v (suc t) same_node same_device j same_window
    ignored_window =
        let f = window.flood in
        let a = window.accepted in
        record {
          flood = record { kind = f.kind; slot = f.slot; limit = f.limit; few = f.few; waits = f.waits; one = f.one; spent = f.spent; own = f.own };
          order = if_some d.ordered (HasOrder s clocks air v (suc t) n j w) (HasOrder s clocks air v (suc t) same_node j same_window)
              (order_kept s clocks air v t d n j w w.flood.waiting w.flood.first reference d.ordered ds ls kept_all) window.order;
          sending = if_some d.sending (HasSending s clocks air v n j) (HasSending s clocks air v same_node j)
              (sending_kept s clocks air v t d n j w w.flood.waiting w.flood.first reference d.ordered ds ls) window.sending;
          accepted = record {
            each = if_some (accepted_of w.flood) (λ p. IsAccepted s clocks air v (suc t) n j w p.0)
                (λ p. IsAccepted s clocks air v (suc t) same_node j same_window p.0)
                (λ p is. record { heard = is.heard; in_slot = still is.heard is.in_slot; is = is.is; reference = λ part. same ∙ is.reference part }) a.each;
            joined = λ joining. (let o = a.joined joining in record {
              schedule = o.schedule;
              packet = o.packet;
              accepted = o.accepted;
              says = o.says;
              rank = o.rank;
              reference = same ∙ o.reference;
              last = o.last;
              part = o.part;
            });
          };
        }

    pub ignored : IsFine s clocks air v t Hearings same_device
    ignored = fine_kept s clocks air v t d n j w w.flood.waiting w.flood.first reference d.ordered ds ls known stage kept_all frame began ignored_window fine on
