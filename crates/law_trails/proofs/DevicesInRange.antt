-- What is done to a device in a tick keeps it in its ranges.
use Rattle.std.proofs.Common.{◌≡◌, ℕ, zero, suc, ◌+◌, ◌≤◌, List, [], ◌∷◌, filter, fold, Bool, true, false, ◌&&◌, ◌==◌}
use Rattle.std.proofs.Common.{if◌then◌else◌, Some, None, Option, IfSome, refl, sym, ◌∙◌, subst, arith}
use Rattle.std.specs.Prelude.{All}
use Rattle.std.specs.List.{AllByRecursion}
use Rattle.std.proofs.lemmas.Bool.{cond_both, eqb-true}
use Rattle.std.proofs.lemmas.List.Elements.{All-push}
use Rattle.lwb_base.specs.declared.event.Event.{Event}
use Rattle.lwb_base.specs.declared.event.Event.TheVariants.{Boot, Heard, Sent, Alarm as AlarmEvent}
use Rattle.lwb_base.specs.declared.order.Order.{Order}
use Rattle.lwb_base.specs.declared.order.Order.TheVariants.{Listen, Off as Silent, SendAt, Alarm}
use Rattle.radio_model.specs.OnAir.{Tuning}
use Rattle.radio_model.specs.declared.sending.Sending.{Sending}
use Rattle.scenario_text.specs.ScenarioFacts.{turned, turned_by}
use Rattle.bus_rules.specs.States.{IsAct, switch_of}
use Rattle.bus_rules.specs.declared.act.Act.{Act}
use Rattle.bus_rules.specs.declared.act.Act.TheVariants.{On, Off}
use Rattle.scenario_text.specs.declared.script.ScriptLine.{ScriptLine}
use Rattle.scenario_text.proofs.BootsCounted.{never_less}
use Rattle.bus_rules.specs.Streams.{Streams, streams_after_act}
use Rattle.bus_rules.specs.Cores.{Core, Setup}
use Rattle.node_core.specs.declared.stage.Stage.{Stage}
use Rattle.node_core.specs.declared.stage.Stage.TheVariants.{Idle, Scanning, AwaitFrame, AwaitSlot, InWindow}
use Rattle.node_core.specs.Nodes.{Node, rebooted}
use Rattle.node_core.specs.Rows.{Stepped, row}
use Rattle.node_core.specs.Rows.{node_after, orders_by}
use Rattle.air_log.specs.Devices.{Device, Power, PowerOff, PowerOn, Listening, OrderedPacket, obeyed, moved}
use Rattle.air_log.specs.Devices.{stepped, event, event_by, silenced, tunes, listens_to, seen_power}
use Rattle.air_log.specs.ScriptedDevices.{device_after_act, device_after_line, with_new_core}
use Rattle.air_log.specs.Trails.{Reception, ending_at, device_after_reception, device_after_receptions, device_ended_by, device_after_end, alarm_is_due}
use Rattle.air_log.specs.Trails.{alarms, alarm_limit, alarmed, one_alarm, device_after_start, begun_by, starts, sending_from}
use Rattle.air_log.proofs.DeviceActs.{told, by_act}
use Rattle.air_log.proofs.KeptPower.{line_power}
use Rattle.law_trails.specs.StreamRanges.{AreStreams}
use Rattle.law_trails.specs.CoreRanges.{IsSetup}
use Rattle.law_trails.specs.NodeRanges.{IsInStage, IsNodeInRange}
use Rattle.law_trails.specs.RowRanges.{HoldsOfOrdered, AreOrders, IsStepped, HoldsOfHeard}
use Rattle.law_trails.specs.DeviceRanges.{IsPower, IsRanged}
use Rattle.law_trails.proofs.StreamsInRange.{act_are}
use Rattle.law_trails.proofs.CoresInRange.{with_streams}
use Rattle.law_trails.proofs.RowsInRange.{AreRules, boots_is, row_is}

-- of each element that a filter keeps
pub kept_all : {X : Type 0} (P Q : X → Type 0) (test : X → Bool) (xs : List X) → ((x : X) → P x → test x ≡ true → Q x) → AllByRecursion P xs
    → AllByRecursion Q (filter test xs)
kept_all P Q test [] f all = tt
kept_all P Q test (x ∷ xs) f all = by_test (test x) refl (kept_all P Q test xs f all.1)
  where
    by_test : (b : Bool) → test x ≡ b → AllByRecursion Q (filter test xs) → AllByRecursion Q (if b then x ∷ filter test xs else filter test xs)
    by_test true is rest = (f x all.0 is, rest)
    by_test false is rest = rest

-- all but the power
record IsOther (Q : List ℕ → Type 0) (d : Device) : Type 0 where
  ordered : IfSome d.ordered (λ o. Q o.packet)
  sending : IfSome d.sending (λ x. Q x.packet)
  sent : All (λ x. Q x.packet) d.made.sent

other_of : (Q : List ℕ → Type 0) (s : Setup) (d : Device) → IsRanged Q s d → IsOther Q d
other_of Q s d is = record { ordered = is.ordered; sending = is.sending; sent = is.sent }

-- the streams of a node change alone
stage_stays : (s : Setup) (f : ℕ) (c : Core) (x : Streams) (stage : Stage) → IsInStage s f c stage → IsInStage s f (record c { streams = x }) stage
stage_stays s f c x Idle at = tt
stage_stays s f c x Scanning at = at
stage_stays s f c x AwaitFrame at = tt
stage_stays s f c x (AwaitSlot j) at = at
stage_stays s f c x (InWindow j w) at = record {
  slot = at.slot;
  last = at.last;
  next = at.next;
  flood = at.flood;
  own = at.own;
  inside = at.inside;
  goes_on = at.goes_on;
  hosted = at.hosted;
}

module _ (s : Setup) (set : IsSetup s) (Q H : List ℕ → Type 0) (rules : AreRules s Q H) (clock : ℕ → ℕ) (t : ℕ) where
  -- orders
  tunes_is : (rank : ℕ) (d : Device) (es : List Tuning) → IsRanged Q s d → IsRanged Q s (tunes rank t d es)
  tunes_is rank d [] is = record { power = is.power; ordered = is.ordered; sending = is.sending; sent = is.sent }
  tunes_is rank d (e ∷ es) is =
      cond_both ((e.rank == rank) && (e.end == t)) _ _ (IsRanged Q s)
      (λ same. record { power = is.power; ordered = is.ordered; sending = is.sending; sent = is.sent })
      (λ other. record { power = is.power; ordered = is.ordered; sending = is.sending; sent = is.sent })

  silenced_is : (d : Device) → IsRanged Q s d → IsRanged Q s (silenced s.id t d)
  silenced_is d is = record { power = is.power; ordered = is.ordered; sending = is.sending; sent = is.sent }

  order_is : (d : Device) (o : Order) → HoldsOfOrdered Q o → IsRanged Q s d → IsRanged Q s (obeyed clock s.id t d o)
  order_is d (Listen rank) may is =
      let x = silenced s.id t d in
      cond_both (listens_to rank d.listening) d (tunes rank t x x.made.tuned) (IsRanged Q s)
      (λ on. is)
      (λ off. tunes_is rank x x.made.tuned (silenced_is d is))
  order_is d Silent may is = silenced_is d is
  order_is d (SendAt local q) may is = record { power = is.power; ordered = may; sending = is.sending; sent = is.sent }
  order_is d (Alarm local) may is = record { power = is.power; ordered = is.ordered; sending = is.sending; sent = is.sent }

  orders_are : (os : List Order) (d : Device) → AreOrders Q os → IsRanged Q s d → IsRanged Q s (fold (obeyed clock s.id t) d os)
  orders_are [] d may is = is
  orders_are (o ∷ os) d may is = orders_are os (obeyed clock s.id t d o) may.1 (order_is d o may.0 is)

  -- events
  step_is : (e : Event) (x : Option Sending) (d : Device) (n : Node) → IsOther Q d → IsNodeInRange s (node_after n (row s n (clock t) e))
      → AreOrders Q (orders_by (row s n (clock t) e)) → IsRanged Q s (stepped clock s t e x d n)
  step_is e x d n is node orders =
      let r = row s n (clock t) e in
      orders_are (orders_by r) (moved t e x d n r) orders (record { power = node; ordered = is.ordered; sending = is.sending; sent = is.sent })

  node_is : (n : Node) (r : Option Stepped) → IsNodeInRange s n → IsStepped Q s r → IsNodeInRange s (node_after n r) × AreOrders Q (orders_by r)
  node_is n None is step = (is, tt)
  node_is n (Some r) is step = step

  by_power : (e : Event) (x : Option Sending) (d : Device) (p : Power) → d.power ≡ p → HoldsOfHeard H e → IsRanged Q s d
      → IsRanged Q s (event_by clock s t e x d p)
  by_power e x d (PowerOff boots) at brought is = is
  by_power e x d (PowerOn n) at brought is =
      let node : IsNodeInRange s n = subst (IsPower s) at is.power in
      let after = node_is n (row s n (clock t) e) node (row_is s set Q H rules n (clock t) e brought node) in
      step_is e x d n (other_of Q s d is) after.0 after.1

  pub event_is : (e : Event) (x : Option Sending) (d : Device) → HoldsOfHeard H e → IsRanged Q s d → IsRanged Q s (event clock s t e x d)
  event_is e x d brought is = by_power e x d d.power refl brought is

  -- script lines
  new_streams : (d : Device) (n : Node) (x : Streams) → IsNodeInRange s n → AreStreams s.profile x → IsRanged Q s d
      → IsRanged Q s (with_new_core d n (record (n.core) { streams = x }))
  new_streams d n x node are is = record {
    power = record {
      core = with_streams s set n.core x node.core are;
      frame = node.frame;
      stage = stage_stays s n.frame n.core x n.stage node.stage;
      kept = record { few = node.kept.few; none = node.kept.none; named = node.kept.named };
    };
    ordered = is.ordered;
    sending = is.sending;
    sent = is.sent;
  }

  act_is : (d : Device) (a : Act) (p : Power) → d.power ≡ p → IsAct s.profile a → (turned_by a (seen_power p)).1 ≤ 200 → IsRanged Q s d
      → IsRanged Q s (device_after_act clock s t d a p)
  act_is d a p at act few is =
      by_act clock s t d (λ b q e. a ≡ b → p ≡ q → IsRanged Q s e)
      (λ boots same off.
      let n = rebooted (boots + 1) in
      let counted : boots + 1 ≤ 200 =
      subst (λ (q : Power). (turned_by On (seen_power q)).1 ≤ 200) off (subst (λ (b : Act). (turned_by b (seen_power p)).1 ≤ 200) same few) in
      let after = boots_is s set Q H rules n (clock t) (omega arith, counted) in
      step_is Boot None (record d { power = PowerOn n }) n (record { ordered = is.ordered; sending = is.sending; sent = is.sent }) after.0 after.1)
      (λ n same on. is) (λ boots same off. is)
      (λ n same on. record {
        power = subst (λ (q : Power). (turned_by Off (seen_power q)).1 ≤ 200) on (subst (λ (b : Act). (turned_by b (seen_power p)).1 ≤ 200) same few);
        ordered = tt;
        sending = is.sending;
        sent = is.sent;
      })
      told_is a p refl refl
    where
      told_is : (b : Act) (q : Power) → switch_of b ≡ None → a ≡ b → p ≡ q → IsRanged Q s (told d b q)
      told_is b (PowerOff boots) none same off = is
      told_is b (PowerOn n) none same on =
          let node : IsNodeInRange s n = subst (IsPower s) (at ∙ on) is.power in
          new_streams d n (streams_after_act b n.core.streams) node
          (act_are s.profile n.core.streams b (subst (IsAct s.profile) same act) node.core.streams) is

  -- the lines of this node
  abbrev pub IsLine : ScriptLine → Type 0
  IsLine l = ((l.node == s.id) ≡ true) × IsAct s.profile l.act

  pub lines_are : (ls : List ScriptLine) (d : Device) → AllByRecursion IsLine ls → (turned s.id (seen_power d.power) ls).1 ≤ 200 → IsRanged Q s d
      → IsRanged Q s (fold (device_after_line clock s t) d ls)
  lines_are [] d all few is = is
  lines_are (l ∷ ls) d all few is =
      let b = seen_power d.power in
      let next : (turned s.id (turned_by l.act b) ls).1 ≤ 200 =
      subst (λ (own : Bool). (turned s.id (if own then turned_by l.act b else b) ls).1 ≤ 200) all.0.0 few in
      let now : (turned_by l.act b).1 ≤ 200 = omega (arith, never_less s.id (turned_by l.act b) ls, next) in
      lines_are ls (device_after_line clock s t d l) all.1 (subst (λ (c : Bool × ℕ). (turned s.id c ls).1 ≤ 200) (sym (line_power clock s t d l)) next)
      (act_is d l.act d.power refl all.0.1 now is)

  -- receptions
  abbrev IsShort : Reception → Type 0
  IsShort h = H h.packet

  hearings_are : (hs : List Reception) (d : Device) → AllByRecursion IsShort hs → IsRanged Q s d → IsRanged Q s (fold (device_after_reception clock s t) d hs)
  hearings_are [] d short is = is
  hearings_are (h ∷ hs) d short is = hearings_are hs (device_after_reception clock s t d h) short.1 (event_is (Heard h.packet) None d short.0 is)

  pub heard_is : (hs : List Reception) (d : Device) → AllByRecursion (λ h. h.end ≡ t → H h.packet) hs → IsRanged Q s d
      → IsRanged Q s (device_after_receptions clock s t hs d)
  heard_is hs d short is =
      hearings_are (ending_at t hs) d (kept_all (λ h. h.end ≡ t → H h.packet) IsShort (λ h. h.end == t) hs (λ h few at. few (eqb-true h.end t at)) short) is

  -- the end of a transmission, and the alarms
  ended_of : (d : Device) (x : Option Sending) → IsRanged Q s d → IsRanged Q s (device_ended_by clock s t d x)
  ended_of d None is = is
  ended_of d (Some x) is =
      cond_both (x.end == t) (event clock s t Sent (Some x) (record d { sending = None })) d (IsRanged Q s)
      (λ now. event_is Sent (Some x) (record d { sending = None }) tt (record { power = is.power; ordered = is.ordered; sending = tt; sent = is.sent }))
      (λ later. is)

  pub ended_is : (d : Device) → IsRanged Q s d → IsRanged Q s (device_after_end clock s t d)
  ended_is d is = ended_of d d.sending is

  alarms_are : (b : Bool) (more : ℕ) (d : Device) → IsRanged Q s d → IsRanged Q s (alarms clock s t b more d)
  unfolding alarms
  alarms_are false more d is = is
  alarms_are true zero d is = is
  alarms_are true (suc more) d is =
      let after = one_alarm clock s t d in
      alarms_are (alarm_is_due t after.alarm) more after
      (event_is AlarmEvent None (record d { alarm = None }) tt (record { power = is.power; ordered = is.ordered; sending = is.sending; sent = is.sent }))

  pub alarmed_is : (d : Device) → IsRanged Q s d → IsRanged Q s (alarmed clock s t d)
  alarmed_is d is = alarms_are (alarm_is_due t d.alarm) (alarm_limit clock t) d is

  -- the start of a transmission
  starts_is : (q : List ℕ) (d : Device) (l : Option Listening) (x : Option Sending) → Q q → IsRanged Q s d → IsRanged Q s (starts s t q d l x)
  starts_is q d None x spoken is = record { power = is.power; ordered = tt; sending = is.sending; sent = is.sent }
  starts_is q d (Some l) (Some x) spoken is = record { power = is.power; ordered = tt; sending = is.sending; sent = is.sent }
  starts_is q d (Some l) None spoken is =
      record {
        power = is.power;
        ordered = tt;
        sending = spoken;
        sent = All-push (λ (x : Sending). Q x.packet) d.made.sent (sending_from s t q l) is.sent spoken;
      }

  begun_of : (d : Device) (o : Option OrderedPacket) → d.ordered ≡ o → IsRanged Q s d → IsRanged Q s (begun_by s t d o)
  begun_of d None at is = is
  begun_of d (Some o) at is =
      let spoken : Q o.packet = subst (λ (x : Option OrderedPacket). IfSome x (λ y. Q y.packet)) at is.ordered in
      cond_both (o.tick == t) (starts s t o.packet d d.listening d.sending) d (IsRanged Q s)
      (λ now. starts_is o.packet d d.listening d.sending spoken is)
      (λ later. is)

  pub begun_is : (d : Device) → IsRanged Q s d → IsRanged Q s (device_after_start s t d)
  begun_is d is = begun_of d d.ordered refl is
