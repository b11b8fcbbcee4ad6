-- A reception changes nothing of a window but its flood and its reference, and nothing of its device but what is ordered: what
-- is known of all else stays.
use Rattle.std.proofs.Common.{◌≡◌, ℕ, suc, ◌/◌, ◌<◌, List, Bool, Some, Option, inl, inr, subst}
use Rattle.std.specs.Prelude.{⊤}
use Rattle.lwb_base.specs.Messages.{Plan}
use Rattle.bus_rules.specs.declared.delivery.Delivery.{Delivery}
use Rattle.node_core.specs.declared.stage.Stage.TheVariants.{InWindow}
use Rattle.node_core.specs.Windows.{Window}
use Rattle.node_core.specs.Nodes.{Node}
use Rattle.scenario_text.specs.ScenarioParts.{ScenarioParts}
use Rattle.radio_model.specs.declared.sending.Sending.{Sending}
use Rattle.air_log.specs.declared.entry.Entry.{Entry}
use Rattle.air_log.specs.Devices.{Device, PowerOn, OrderedPacket}
use Rattle.air_log.specs.WindowLogs.{WindowLog}
use Rattle.air_log.specs.Trails.{frame_start}
use Rattle.law_trails.specs.Lives.{Life}
use Rattle.law_trails.specs.Phases.{Hearings}
use Rattle.law_safety.specs.RoundZeros.{RefFor}
use Rattle.law_safety.specs.SetAlarms.{HasAlarm, AlarmFor, rank_at}
use Rattle.law_safety.specs.TunedNodes.{HasTune, IsTunedAt, IsMember, is_joining, is_last_window}
use Rattle.law_safety.specs.RadiosOn.{HasRadio, RadioFor}
use Rattle.law_safety.specs.OrderedSendings.{HeardIn, IsRelay, HasOrder, HasSending}
use Rattle.law_safety.specs.BegunFloods.{BeginsOnce, BegunAt, BegunInWindow, HasBegun, IsFirstOrdered}
use Rattle.law_safety.specs.KnownPlans.{HasPlan, PlanAt, HasRound, KnowsPlan, KnowsOpening}
use Rattle.law_safety.specs.NodesInOrder.{IsOn, InOpenWindow}
use Rattle.law_safety.specs.QuietHosts.{HostsInOrder, LivesAs, LivesBy, IsOrderedBy}
use Rattle.law_safety.specs.Rows.{IsFine}
use Rattle.law_safety.proofs.RestagedNodes.{either}

-- the device d of a node n in the window w of slot j, with another state of the window's flood, reference and order
module _ (s : ScenarioParts) (clocks : ℕ → ℕ → ℕ) (air : List Entry) (v t : ℕ) (d : Device) (n : Node) (j : ℕ) (w : Window)
    (waits : Bool) (first : Option (List ℕ)) (reference : Option ℕ) (ordered : Option OrderedPacket) (deliveries : List Delivery)
    (windows : List WindowLog) where
  abbrev pub new_window : Window
  new_window = record w { flood = record (w.flood) { waiting = waits; first = first }; reference = reference }

  abbrev pub new_node : Node
  new_node = record n { stage = InWindow j new_window }

  abbrev pub new_device : Device
  new_device = record d { power = PowerOn new_node; ordered = ordered; made = record (d.made) { deliveries = deliveries; windows = windows } }

  -- what was the flood's packet is still, and the first packet of a flood is ordered where it was
  pub record IsKept : Type 0 where
    pub keeps : (q : List ℕ) → w.flood.first ≡ Some q → first ≡ Some q
    pub before : IsFirstOrdered ordered → IsFirstOrdered d.ordered
    pub after : IsFirstOrdered d.ordered → IsFirstOrdered ordered
    pub by_life : (l : Life) (frame : ℕ) → IsOrderedBy l frame d.ordered → IsOrderedBy l frame ordered

  -- ---- what is known of an order and of a transmission

  pub heard_in : (x : Sending) → HeardIn s air v (suc t) n j x → HeardIn s air v (suc t) new_node j x
  heard_in x is = record { there = is.there; rank = is.rank; frame = is.frame; slot = is.slot; by = is.by }

  pub sending_kept : (x : Sending) → HasSending s clocks air v n j x → HasSending s clocks air v new_node j x
  sending_kept x is = record { rank = is.rank; slot = is.slot; over = is.over }

  relay_kept : (o : OrderedPacket) → IsRelay s clocks air v (suc t) n j o → IsRelay s clocks air v (suc t) new_node j o
  relay_kept o r = record { heard = r.heard; in_slot = heard_in r.heard r.in_slot; few = r.few; packet = r.packet; at = r.at }

  pub order_kept : IsKept → (o : OrderedPacket) → HasOrder s clocks air v (suc t) n j w o → HasOrder s clocks air v (suc t) new_node j new_window o
  order_kept kept o is = record {
    over = is.over;
    slot = is.slot;
    why = elim is.why [
      | inl own ↦ inl (record { initiated = own.initiated; packet = kept.keeps o.packet own.packet; at = own.at; start = own.start })
      | inr relay ↦ inr (relay_kept o relay)
    ];
  }

  -- ---- all else

  module _ (known : IsOn s clocks air v t (suc t) d n) (stage : n.stage ≡ InWindow j w) (kept : IsKept) where
    alarm_kept : HasAlarm s clocks v new_node new_device
    alarm_kept = record { alarm = known.alarm.alarm; set = known.alarm.set; at = subst (AlarmFor s clocks v n known.alarm.alarm) stage known.alarm.at }

    member_kept : IsMember s clocks v n j w.last (is_last_window j w) → IsMember s clocks v new_node j w.last (is_last_window j w)
    member_kept is = record { slot = is.slot; good = is.good; round = is.round }

    tune_kept : HasTune s clocks v new_node
    tune_kept = record {
      rank = known.tune.rank;
      at =
          either (is_joining n) (RefFor s clocks (rank_at n) v n.zero n.frame n.frame j) (IsMember s clocks v n j w.last (is_last_window j w))
          (RefFor s clocks (rank_at n) v n.zero n.frame n.frame j) (IsMember s clocks v new_node j w.last (is_last_window j w)) (λ ref. ref) member_kept
          (subst (IsTunedAt s clocks v n) stage known.tune.at);
    }

    radio_kept : HasRadio new_node new_device
    radio_kept = record { at = subst (RadioFor n d) stage known.radio.at }

    has_begun : (f : ℕ) (x : Sending) → HasBegun s f new_device x → HasBegun s f d x
    has_begun f x is = record { sent = is.sent; first = is.first; frame = is.frame }

    had_begun : (f : ℕ) (x : Sending) → HasBegun s f d x → HasBegun s f new_device x
    had_begun f x is = record { sent = is.sent; first = is.first; frame = is.frame }

    begun_kept : BeginsOnce s new_node new_device
    begun_kept =
        let is : BegunInWindow s n d j w = subst (BegunAt s n d) stage known.begun.at in
        record {
          at = record {
            below = λ x begun. is.below x (has_begun n.frame x begun);
            packet = λ x begun slot.
                (let old = is.packet x (has_begun n.frame x begun) slot in (old.0, kept.keeps x.packet old.1, λ first. old.2 (kept.before first)));
            made = λ initiated. elim (is.made initiated) [
              | inl first ↦ inl (kept.after first)
              | inr begun ↦ inr (record { sending = begun.sending; begun = had_begun n.frame begun.sending begun.begun; slot = begun.slot })
            ];
          };
          once = λ f x y one other slot. known.begun.once f x y (has_begun f x one) (has_begun f y other) slot;
        }

    knows_kept : (plan : Plan) → KnowsPlan s clocks air v (suc t) n n.frame plan → KnowsPlan s clocks air v (suc t) new_node n.frame plan
    knows_kept plan is = record { planned = is.planned; heard = is.heard }

    opening_kept : (plan : Plan) → KnowsOpening s clocks air v n j plan → KnowsOpening s clocks air v new_node j plan
    opening_kept plan is = record { behind = is.behind; guest = is.guest; ref = is.ref; heard = is.heard }

    round_kept : HasRound s clocks air v (suc t) n j w → HasRound s clocks air v (suc t) new_node j new_window
    round_kept is = record {
      plan = is.plan;
      round = record {
        fits = is.round.fits;
        known = λ why. knows_kept is.plan (is.round.known why);
        fresh = λ fresh. opening_kept is.plan (is.round.fresh fresh);
      };
      last = is.last;
      part = is.part;
      own = is.own;
      next = is.next;
      opens = λ hosts first. kept.keeps _ (is.opens hosts first);
    }

    plan_kept : HasPlan s clocks air v (suc t) new_node
    plan_kept = record {
      at =
          either (is_joining n) ⊤ (HasRound s clocks air v (suc t) n j w) ⊤ (HasRound s clocks air v (suc t) new_node j new_window)
          (λ ref. ref) round_kept (subst (PlanAt s clocks air v (suc t) n) stage known.plan.at);
    }

    module _ (frame : n.frame ≡ t / s.profile.frame) (began : frame_start s n.frame < t)
        (window : InOpenWindow s clocks air v (suc t) new_node new_device j new_window) where
      on_kept : IsOn s clocks air v t (suc t) new_device new_node
      on_kept = record {
        frame = record { at = inl frame; began = began };
        alarm = alarm_kept;
        tune = tune_kept;
        radio = radio_kept;
        begun = begun_kept;
        plan = plan_kept;
        window = window;
      }

      lives_kept : (l : Life) → LivesAs l n → LivesAs l new_node
      lives_kept l is = record { on = is.on; frame = is.frame; tune = is.tune; plan = is.plan }

      pub fine_kept : IsFine s clocks air v t Hearings d → d.power ≡ PowerOn n → IsFine s clocks air v t Hearings new_device
      fine_kept fine on = record {
        node = record { by_power = on_kept };
        host = λ rank is. (let old : HostsInOrder s rank t (suc t) d = fine.host rank is in record {
          life = old.life;
          quiet = old.quiet;
          lives = lives_kept old.life (subst (LivesBy old.life (t / s.profile.frame)) on old.lives);
          opened = old.opened;
          closed = old.closed;
          sent = old.sent;
          ordered = kept.by_life old.life (t / s.profile.frame) old.ordered;
        });
        sent = fine.sent;
        before = fine.before;
      }
