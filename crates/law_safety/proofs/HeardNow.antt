-- What a node takes as received was sent in a flood of the true frame, on the channel to which it is tuned.
use Rattle.std.proofs.Common.{◌≡◌, ℕ, suc, ◌-◌, ◌*◌, ◌/◌, ◌<◌, List, [], ◌∷◌, ◌++◌, filter, fold, Bool, true, false, ◌==◌, ◌&&◌, if◌then◌else◌, length, Some}
use Rattle.std.proofs.Common.{None, Option, refl, sym, ◌∙◌, ap, subst, arith}
use Rattle.std.proofs.Math.Nat.{mul-le-mul_right}
use Rattle.std.proofs.lemmas.Bool.{cond_both, eqb-true}
use Rattle.lwb_base.specs.Profile.{Numbers}
use Rattle.lwb_base.specs.declared.event.Event.TheVariants.{Heard}
use Rattle.lwb_base.specs.declared.order.Order.{Order}
use Rattle.lwb_base.specs.declared.order.Order.TheVariants.{Alarm as AlarmAt}
use Rattle.lwb_packets.specs.declared.kind.Kind as Kind
use Rattle.glossy_relay.specs.FloodState.{listening}
use Rattle.glossy_relay.specs.Relaying.{reply_to, slot_of}
use Rattle.glossy_relay.specs.declared.flood.Reply.{Reply}
use Rattle.glossy_relay.specs.declared.flood.Reply.TheVariants.{Relay, Keep, Ignore}
use Rattle.bus_rules.specs.Cores.{Setup}
use Rattle.bus_rules.specs.Slots.{Message, ScheduleOf, DataOf, RequestOf}
use Rattle.bus_rules.specs.Tuning.{rank_of}
use Rattle.lwb_member.specs.Said.{message_of}
use Rattle.node_core.specs.declared.stage.Stage.{Stage}
use Rattle.node_core.specs.declared.stage.Stage.TheVariants.{Idle, Scanning, AwaitFrame, AwaitSlot, InWindow}
use Rattle.node_core.specs.Nodes.{Node, closes_at, zero_from}
use Rattle.node_core.specs.Rows.{Stepped, joins, relaying, at_heard, scanner_hears}
use Rattle.node_core.specs.Rows.{orders_by}
use Rattle.scenario_text.specs.ScenarioParts.{ScenarioParts}
use Rattle.scenario_text.specs.declared.script.ScriptLine.{ScriptLine}
use Rattle.radio_model.specs.Hearing.{frame_of_sending}
use Rattle.air_log.specs.declared.entry.Entry.{Entry}
use Rattle.air_log.specs.Devices.{Device, Power, PowerOff, PowerOn, Listening, event_by, moved}
use Rattle.air_log.specs.ScriptedDevices.{device_after_line}
use Rattle.scenario_text.specs.Setups.{setup_of}
use Rattle.air_log.specs.Trails.{Reception, frame_start, lines_at, device_after_reception, device_after_script}
use Rattle.air_log.proofs.SendingsKept.{profile_lasts}
use Rattle.law_trails.specs.Obeying.{channel_if_on, channel_by}
use Rattle.law_trails.specs.TrailLinks.{ListensSince, device_in}
use Rattle.law_trails.proofs.HeardInTrails.{reception_is}
use Rattle.law_trails.proofs.ObeyedOrders.{has_obeyed}
use Rattle.law_trails.proofs.SentInTrails.{sent_lasts}
use Rattle.law_trails.proofs.TunedInTrails.{tuned_listens}
use Rattle.law_safety.specs.CountedFrames.{frame_alarm_at}
use Rattle.law_safety.specs.KnownInRows.{HeardInFloods}
use Rattle.law_safety.specs.Rows.{AtTick}
use Rattle.law_safety.proofs.RunFacts.{frame_is, frame_from}
use Rattle.law_safety.proofs.FloodTimes.{after_frame_start, before_frame_end, before_alarms}

-- no reception tunes the radio
relaying_tunes : (p : Numbers) (now : ℕ) (reply : Reply) (more : List Order) (c : Option ℕ)
    → fold channel_by c (relaying p now reply ++ more) ≡ fold channel_by c more
relaying_tunes p now (Relay q) more c = refl
relaying_tunes p now Keep more c = refl
relaying_tunes p now Ignore more c = refl

module _ (clock : ℕ → ℕ) (s : Setup) (t : ℕ) where
  scanner_keeps : (n : Node) (q : List ℕ) (m : Option Message) (c : Option ℕ) → fold channel_by c (orders_by (scanner_hears s n (clock t) q m)) ≡ c
  scanner_keeps n q None c = refl
  scanner_keeps n q (Some (DataOf d)) c = refl
  scanner_keeps n q (Some (RequestOf a)) c = refl
  scanner_keeps n q (Some (ScheduleOf y)) c =
      cond_both (y.plan.rank == rank_of n.core.tune) (Some (joins s n (clock t) q y)) None (λ (r : Option Stepped). fold channel_by c (orders_by r) ≡ c)
      (λ own. relaying_tunes s.profile (clock t) (reply_to (listening Kind.TheVariants.Schedule (slot_of q) s.sends) q)
      (AlarmAt (closes_at s.profile (zero_from s.profile (clock t) q) (slot_of q)) ∷ []) c)
      (λ other. refl)

  heard_keeps : (n : Node) (q : List ℕ) (stage : Stage) (c : Option ℕ) → fold channel_by c (orders_by (at_heard s n (clock t) q stage)) ≡ c
  heard_keeps n q Idle c = refl
  heard_keeps n q Scanning c = scanner_keeps n q (message_of q) c
  heard_keeps n q AwaitFrame c = refl
  heard_keeps n q (AwaitSlot j) c = refl
  heard_keeps n q (InWindow j w) c = relaying_keeps s.profile (clock t) _ c
    where
      relaying_keeps : (p : Numbers) (now : ℕ) (reply : Reply) (c : Option ℕ) → fold channel_by c (relaying p now reply) ≡ c
      relaying_keeps p now (Relay q) c = refl
      relaying_keeps p now Keep c = refl
      relaying_keeps p now Ignore c = refl

  by_power : (d : Device) (q : List ℕ) (p : Power) → channel_if_on (event_by clock s t (Heard q) None d p).listening ≡ channel_if_on d.listening
  by_power d q (PowerOff boots) = refl
  by_power d q (PowerOn n) =
      let r = at_heard s n (clock t) q n.stage in
      (has_obeyed clock s.id t (orders_by r) (moved t (Heard q) None d n r)).channel ∙ heard_keeps n q n.stage (channel_if_on d.listening)

  pub hearings_keep : (taken : List Reception) (d : Device)
      → channel_if_on (fold (device_after_reception clock s t) d taken).listening ≡ channel_if_on d.listening
  hearings_keep [] d = refl
  hearings_keep (h ∷ taken) d = hearings_keep taken (device_after_reception clock s t d h) ∙ by_power d h.packet d.power

-- no line is given within a frame
none_told : (s : ScenarioParts) (v t : ℕ) (ls : List ScriptLine) → ((f : ℕ) → (frame_start s f == t) ≡ false)
    → filter (λ (l : ScriptLine). (l.node == v) && (frame_start s l.frame == t)) ls ≡ []
none_told s v t [] none = refl
none_told s v t (l ∷ ls) none = by_node (l.node == v) (frame_start s l.frame == t) (none l.frame) (none_told s v t ls none)
  where
    by_node : (a b : Bool) → b ≡ false → {rest : List ScriptLine} → rest ≡ [] → (if a && b then l ∷ rest else rest) ≡ []
    by_node true false no_start empty = empty
    by_node false b no_start empty = empty
    by_node true true no_start empty = absurd (cc no_start)

module _ (s : ScenarioParts) (clocks : ℕ → ℕ → ℕ) (air : List Entry) (v t : ℕ) (at : AtTick s clocks air v t) where
  pub none_in_frame : frame_start s (t / s.profile.frame) < t → lines_at s v t ≡ []
  none_in_frame began = none_told s v t s.script (λ f. by_test f (frame_start s f == t) refl)
    where
      by_test : (f : ℕ) (b : Bool) → (frame_start s f == t) ≡ b → b ≡ false
      by_test f false is = refl
      by_test f true is =
          let start : frame_start s f ≡ t = eqb-true (frame_start s f) t is in
          let below = frame_from s at.run.driven.sound f t (omega (arith, start)) in
          absurd (omega (arith, start, began, mul-le-mul_right s.profile.frame below))

pub heard_in_floods : HeardInFloods
heard_in_floods s clocks air v t at h d next =
    let is = (reception_is air v h).0 next.there in
    let x = is.sending in
    let reach = at.run.heedful.heard v x is.there in
    let lasts = sent_lasts s clocks air at.run.heedful.trails x reach.sent in
    let end : x.end ≡ t = sym is.end ∙ next.now in
    let some = profile_lasts s.profile at.run.driven.sound.profile (length x.packet) in
    let before : x.start < t = omega (arith, lasts.1, end, some) in
    let flood = at.before.sendings x reach.sent before in
    let sound = at.run.driven.sound in
    let from = after_frame_start s clocks air at.run x flood reach.sent in
    let until = before_frame_end s clocks air at.run x flood reach.sent in
    let frame : t / s.profile.frame ≡ frame_of_sending s.profile x =
    frame_is s (frame_of_sending s.profile x) t (omega (arith, from, before)) (omega (arith, until, end)) in
    let began : frame_start s (t / s.profile.frame) < t = omega (arith, from, before, ap (λ (f : ℕ). f * s.profile.frame) frame) in
    let same : suc (t - 1) ≡ t = omega (arith, before) in
    let on : ListensSince x.rank (t - 1) (device_in s clocks air v (suc (t - 1))) =
    tuned_listens s clocks air at.run.heedful.trails v x.rank (t - 1) (reach.tuned (t - 1) (omega (arith, before)) (omega (arith, before, end))) in
    let tuned : channel_if_on (device_in s clocks air v t).listening ≡ Some x.rank =
    subst (λ (k : ℕ). channel_if_on (device_in s clocks air v k).listening ≡ Some x.rank) same
    (ap (λ (l : Option Listening). channel_if_on l) on.is ∙ ap (λ (r : ℕ). Some r) on.channel) in
    let untold : channel_if_on (device_after_script s v (clocks v) t (device_in s clocks air v t)).listening ≡ channel_if_on (device_in s clocks air v
    t).listening =
    ap (λ (ls : List ScriptLine). channel_if_on (fold (device_after_line (clocks v) (setup_of s v) t) (device_in s clocks air v t) ls).listening)
    (none_in_frame s clocks air v t at began) in
    record {
      sending = x;
      there = is.there;
      packet = is.packet;
      end = end;
      before = before;
      of_flood = flood;
      channel =
          ap (λ (e : Device). channel_if_on e.listening) next.is
          ∙ hearings_keep (clocks v) (setup_of s v) t next.taken (device_after_script s v (clocks v) t (device_in s clocks air v t))
          ∙ untold ∙ tuned;
      frame = sym frame;
      began = began;
      early =
          subst (λ (f : ℕ). t < frame_alarm_at s clocks v f) (sym frame)
          (subst (λ (e : ℕ). e < frame_alarm_at s clocks v (frame_of_sending s.profile x)) end
          (before_alarms s clocks air at.run x flood reach.sent (clocks v) (at.run.driven.drift v at.known)));
    }
