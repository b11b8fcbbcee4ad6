-- Receptions leave the radio at its channel, so what was tuned to is what is received.
use Rattle.std.proofs.Common.{◌≡◌, ℕ, suc, List, [], ◌∷◌, ◌++◌, ◌==◌, fold, Some, None, Option, refl, ◌∙◌, ap, subst}
use Rattle.std.proofs.lemmas.Bool.{cond_both}
use Rattle.std.proofs.lemmas.List.Sums.{fold-append}
use Rattle.lwb_base.specs.declared.event.Event.TheVariants.{Heard}
use Rattle.lwb_base.specs.declared.order.Order.{Order}
use Rattle.lwb_base.specs.declared.order.Order.TheVariants.{Alarm}
use Rattle.lwb_packets.specs.declared.kind.Kind as Kind
use Rattle.radio_model.specs.Hearing.{IsTuned}
use Rattle.scenario_text.specs.ScenarioParts.{ScenarioParts}
use Rattle.glossy_relay.specs.FloodState.{listening}
use Rattle.glossy_relay.specs.Relaying.{reply_to, slot_of}
use Rattle.glossy_relay.specs.declared.flood.Reply.{Reply}
use Rattle.glossy_relay.specs.declared.flood.Reply.TheVariants.{Relay, Keep, Ignore}
use Rattle.bus_rules.specs.Tuning.{rank_of}
use Rattle.bus_rules.specs.Cores.{Setup}
use Rattle.bus_rules.specs.Slots.{Message, ScheduleOf, DataOf, RequestOf}
use Rattle.lwb_member.specs.Said.{message_of}
use Rattle.node_core.specs.declared.stage.Stage.{Stage}
use Rattle.node_core.specs.declared.stage.Stage.TheVariants.{Idle, Scanning, AwaitFrame, AwaitSlot, InWindow}
use Rattle.node_core.specs.Nodes.{Node, closes_at, zero_from}
use Rattle.node_core.specs.Rows.{Stepped, row, at_heard, scanner_hears, joins, relaying, reply_by}
use Rattle.node_core.specs.Rows.{orders_by}
use Rattle.air_log.specs.declared.entry.Entry.{Entry}
use Rattle.air_log.specs.HearsAir.{scene_of}
use Rattle.air_log.specs.Devices.{Device, Listening, Power, PowerOff, PowerOn, moved, event_by}
use Rattle.air_log.specs.Lawful.{FollowsTrails, heard_by}
use Rattle.air_log.specs.ScriptedDevices.{device_after_line}
use Rattle.scenario_text.specs.Setups.{setup_of}
use Rattle.air_log.specs.Trails.{Reception, lines_at, device_after_reception}
use Rattle.law_trails.specs.Obeying.{channel_if_on, channel_by}
use Rattle.law_trails.specs.Phases.{Hearings, device_at, IsNextHearing}
use Rattle.law_trails.specs.TrailLinks.{ListensSince, device_in}
use Rattle.law_trails.proofs.ObeyedOrders.{has_obeyed}
use Rattle.law_trails.proofs.TunedInTrails.{tuned_listens}

-- orders that say nothing of the radio
abbrev KeepRadio : List Order → Type 0
KeepRadio os = (c : Option ℕ) → fold channel_by c os ≡ c

module _ (s : Setup) (n : Node) (now : ℕ) (p : List ℕ) where
  relays : (r : Reply) → KeepRadio (relaying s.profile now r)
  relays (Relay q) c = refl
  relays Keep c = refl
  relays Ignore c = refl

  then_alarm : (os : List Order) (local : ℕ) → KeepRadio os → KeepRadio (os ++ Alarm local ∷ [])
  then_alarm os local keep c = fold-append channel_by c os (Alarm local ∷ []) ∙ keep c

  scans : (m : Option Message) → KeepRadio (orders_by (scanner_hears s n now p m))
  scans None c = refl
  scans (Some (DataOf y)) c = refl
  scans (Some (RequestOf y)) c = refl
  scans (Some (ScheduleOf y)) c =
      let reply = reply_to (listening Kind.TheVariants.Schedule (slot_of p) s.sends) p in
      let closing = closes_at s.profile (zero_from s.profile now p) (slot_of p) in
      cond_both (y.plan.rank == rank_of n.core.tune) (Some (joins s n now p y)) None (λ (r : Option Stepped). fold channel_by c (orders_by r) ≡ c)
      (λ own. then_alarm (relaying s.profile now reply) closing (relays reply) c)
      (λ other. refl)

  at_place : (stage : Stage) → KeepRadio (orders_by (at_heard s n now p stage))
  at_place Idle c = refl
  at_place Scanning c = scans (message_of p) c
  at_place AwaitFrame c = refl
  at_place (AwaitSlot j) c = refl
  at_place (InWindow j w) c = relays (reply_by (rank_of n.core.tune) w p) c

module _ (clock : ℕ → ℕ) (s : Setup) (t : ℕ) where
  one_kept : (d : Device) (h : Reception) (p : Power) → channel_if_on (event_by clock s t (Heard h.packet) None d p).listening ≡ channel_if_on d.listening
  one_kept d h (PowerOff boots) = refl
  one_kept d h (PowerOn n) =
      let r = row s n (clock t) (Heard h.packet) in
      (has_obeyed clock s.id t (orders_by r) (moved t (Heard h.packet) None d n r)).channel
      ∙ at_place s n (clock t) h.packet n.stage (channel_if_on d.listening)

  all_kept : (hs : List Reception) (d : Device) → channel_if_on (fold (device_after_reception clock s t) d hs).listening ≡ channel_if_on d.listening
  all_kept [] d = refl
  all_kept (h ∷ hs) d = all_kept hs (device_after_reception clock s t d h) ∙ one_kept d h d.power

pub channel_kept : (s : ScenarioParts) (v : ℕ) (clock : ℕ → ℕ) (hs : List Reception) (t : ℕ) (h : Reception) (d : Device) → IsNextHearing s v clock hs t h d
    → channel_if_on d.listening ≡ channel_if_on (device_at s v clock hs t Hearings).listening
channel_kept s v clock hs t h d next =
    ap (λ (e : Device). channel_if_on e.listening) next.is ∙ all_kept clock (setup_of s v) t next.taken (device_at s v clock hs t Hearings)

pub heard_on : (s : ScenarioParts) (clocks : ℕ → ℕ → ℕ) (air : List Entry) → FollowsTrails s clocks air → (v t : ℕ) (h : Reception) (d : Device)
    → IsNextHearing s v (clocks v) (heard_by air v) t h d → lines_at s v t ≡ []
    → (rank k : ℕ) → suc k ≡ t → IsTuned (scene_of s.profile s.trace air) v rank k → channel_if_on d.listening ≡ Some rank
heard_on s clocks air follows v t h d next none rank k before tuned =
    let b = device_in s clocks air v t in
    let on : ListensSince rank k b = subst (λ (i : ℕ). ListensSince rank k (device_in s clocks air v i)) before
    (tuned_listens s clocks air follows v rank k tuned) in
    channel_kept s v (clocks v) (heard_by air v) t h d next
    ∙ ap (λ ls. channel_if_on (fold (device_after_line (clocks v) (setup_of s v) t) b ls).listening) none
    ∙ ap (λ (l : Option Listening). channel_if_on l) on.is
    ∙ ap (λ (r : ℕ). Some r) on.channel
