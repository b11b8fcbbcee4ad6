-- Other streams of a node leave the clauses of its plan and its window. And so does a script that was given further, if no off
-- line came.
use Rattle.std.proofs.Common.{ℕ, ◌≤◌, inl, inr, List, sym, ◌∙◌, arith}
use Rattle.std.specs.Bool.{⊤}
use Rattle.std.proofs.lemmas.Option.{IfSome_then}
use Rattle.lwb_base.specs.Messages.{Plan}
use Rattle.glossy_relay.specs.Relaying.{accepted_of}
use Rattle.bus_rules.specs.declared.tune.Tune.{Tune}
use Rattle.bus_rules.specs.declared.tune.Tune.TheVariants.{Scan, Hold, Host}
use Rattle.bus_rules.specs.Streams.{Streams}
use Rattle.node_core.specs.declared.stage.Stage.{Stage}
use Rattle.node_core.specs.declared.stage.Stage.TheVariants.{Idle, Scanning, AwaitFrame, AwaitSlot, InWindow}
use Rattle.node_core.specs.Windows.{Window}
use Rattle.node_core.specs.Nodes.{Node}
use Rattle.node_core.specs.Nodes.{with_streams}
use Rattle.scenario_text.specs.ScenarioParts.{ScenarioParts}
use Rattle.radio_model.specs.declared.sending.Sending.{Sending}
use Rattle.radio_model.specs.Hearing.{frame_of_sending}
use Rattle.air_log.specs.declared.entry.Entry.{Entry}
use Rattle.air_log.specs.Devices.{Device, Power, OrderedPacket}
use Rattle.law_safety.specs.SentPlans.{StaysOnUntil, HasHeardPlan}
use Rattle.law_safety.specs.SetAlarms.{rank_at}
use Rattle.law_safety.specs.TunedNodes.{is_joining}
use Rattle.law_safety.specs.OpenFloods.{HasFlood}
use Rattle.law_safety.specs.OrderedSendings.{HeardIn, HasOrder}
use Rattle.law_safety.specs.KnownPlans.{KnowsPlan, InRound, HasRound, PlanFor, PlanAt, HasPlan}
use Rattle.law_safety.specs.AcceptedPackets.{IsAccepted, HasAccepted}
use Rattle.law_safety.specs.NodesInOrder.{WindowAt, IsOn}
use Rattle.law_safety.proofs.KeptClauses.{with_power, joins_same, either_kept, frame_kept, alarm_kept, tune_kept, radio_kept, begun_kept}

-- the script was given further, and brought no off line
pub record TellsOn (s : ScenarioParts) (v told later : ℕ) : Type 0 where
  pub more : told ≤ later
  pub stays : (g : ℕ) → StaysOnUntil s v g told → StaysOnUntil s v g later

pub nothing_told : (s : ScenarioParts) (v told : ℕ) → TellsOn s v told told
nothing_told s v told = record { more = omega arith; stays = λ g is. is }

module _ (s : ScenarioParts) (clocks : ℕ → ℕ → ℕ) (air : List Entry) (v told later : ℕ) (on : TellsOn s v told later)
    (n : Node) (streams : Streams) where
  abbrev m : Node
  m = with_streams n streams

  heard_plan : (rank frame : ℕ) (plan : Plan) → HasHeardPlan s air v rank frame plan told
      → HasHeardPlan s air v rank frame plan later
  heard_plan rank frame plan is = record {
    heard = is.heard;
    gap = is.gap;
    schedule = is.schedule;
    due = is.due;
    stays = on.stays (frame_of_sending s.profile is.heard) is.stays;
  }

  knows_plan : (frame : ℕ) (plan : Plan) → KnowsPlan s clocks air v told n frame plan → KnowsPlan s clocks air v later m frame plan
  knows_plan frame plan is = record { planned = is.planned; heard = λ guest. heard_plan (rank_at n) frame plan (is.heard guest) }

  in_round : (j : ℕ) (plan : Plan) → InRound s clocks air v told n j plan → InRound s clocks air v later m j plan
  in_round j plan is = record {
    fits = is.fits;
    known = λ late. knows_plan n.frame plan (is.known late);
    fresh = λ fresh. (let o = is.fresh fresh in record { behind = o.behind; guest = o.guest; ref = o.ref; heard = o.heard });
  }

  has_round : (j : ℕ) (w : Window) → HasRound s clocks air v told n j w → HasRound s clocks air v later m j w
  has_round j w is = record {
    plan = is.plan;
    round = in_round j is.plan is.round;
    last = is.last;
    part = is.part;
    own = is.own;
    next = is.next;
    opens = is.opens;
  }

  plan_for : (T : Tune) → PlanFor s clocks air v told n T → PlanFor s clocks air v later m T
  plan_for (Scan r waited) is = is
  plan_for (Host r due) is = is
  plan_for (Hold r due) is = λ ahead. (let a = is ahead in (a.0, knows_plan due n.core.plan a.1))

  plan_at : (st : Stage) → PlanAt s clocks air v told n st → PlanAt s clocks air v later m st
  plan_at Idle is = is
  plan_at Scanning is = is
  plan_at AwaitFrame is = plan_for n.core.tune is
  plan_at (AwaitSlot j) is = in_round j n.core.plan is
  plan_at (InWindow j w) is =
      either_kept (is_joining n) (is_joining m) (joins_same n streams n.core.tune)
      ⊤ (HasRound s clocks air v told n j w) ⊤ (HasRound s clocks air v later m j w)
      (λ joins. joins) (has_round j w) is

  pub plan_kept : HasPlan s clocks air v told n → HasPlan s clocks air v later m
  plan_kept is = record { at = plan_at n.stage is.at }

  -- ---- windows

  heard_in : (j : ℕ) (x : Sending) → HeardIn s air v told n j x → HeardIn s air v later m j x
  heard_in j x is = record {
    there = is.there;
    rank = is.rank;
    frame = is.frame;
    slot = is.slot;
    by = (let by = is.by in let more = on.more in omega (arith, by, more));
  }

  order_kept : (j : ℕ) (w : Window) (o : OrderedPacket) → HasOrder s clocks air v told n j w o → HasOrder s clocks air v later m j w o
  order_kept j w o is = record {
    over = is.over;
    slot = is.slot;
    why = elim is.why [
      | inl a ↦ inl (record { initiated = a.initiated; packet = a.packet; at = a.at; start = a.start })
      | inr b ↦ inr (record { heard = b.heard; in_slot = heard_in j b.heard b.in_slot; few = b.few; packet = b.packet; at = b.at })
    ];
  }

  accepted_by : (j : ℕ) (w : Window) (packet : List ℕ) → IsAccepted s clocks air v told n j w packet
      → IsAccepted s clocks air v later m j w packet
  accepted_by j w packet is = record { heard = is.heard; in_slot = heard_in j is.heard is.in_slot; is = is.is; reference = is.reference }

  accepted_kept : (j : ℕ) (w : Window) → HasAccepted s clocks air v told n j w → HasAccepted s clocks air v later m j w
  accepted_kept j w is = record {
    each = IfSome_then (accepted_of w.flood) is.each (λ a. accepted_by j w a.0);
    joined = λ joins.
        (let h = is.joined (sym (joins_same n streams n.core.tune) ∙ joins) in
        record {
          schedule = h.schedule;
          packet = h.packet;
          accepted = h.accepted;
          says = h.says;
          rank = h.rank;
          reference = h.reference;
          last = h.last;
          part = h.part;
        });
  }

  module _ (d : Device) (p : Power) where
    abbrev e : Device
    e = with_power d p

    flood_kept : (j : ℕ) (w : Window) → HasFlood s n d j w → HasFlood s m e j w
    flood_kept j w is = record {
      kind = is.kind;
      slot = is.slot;
      limit = is.limit;
      few = is.few;
      waits = is.waits;
      one = is.one;
      spent = is.spent;
      own = is.own;
    }

    window_at : (st : Stage) → WindowAt s clocks air v told n d st → WindowAt s clocks air v later m e st
    window_at Idle is = is
    window_at Scanning is = is
    window_at AwaitFrame is = is
    window_at (AwaitSlot j) is = is
    window_at (InWindow j w) is = record {
      flood = flood_kept j w is.flood;
      order = IfSome_then d.ordered is.order (λ o. order_kept j w o);
      sending = IfSome_then d.sending is.sending (λ x a. record { rank = a.rank; slot = a.slot; over = a.over });
      accepted = accepted_kept j w is.accepted;
    }

    pub on_kept : (t : ℕ) → IsOn s clocks air v t told d n → IsOn s clocks air v t later e m
    on_kept t is = record {
      frame = frame_kept s clocks v n streams t is.frame;
      alarm = alarm_kept s clocks v n streams d p is.alarm;
      tune = tune_kept s clocks v n streams is.tune;
      radio = radio_kept s clocks v n streams d p is.radio;
      begun = begun_kept s clocks v n streams d p is.begun;
      plan = plan_kept is.plan;
      window = window_at n.stage is.window;
    }
