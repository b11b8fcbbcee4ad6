-- What is known of a device in each phase of a tick, through each step of it.
use Rattle.std.proofs.Common.{◌≡◌, ℕ, suc, ◌+◌, ◌≤◌, List, false, ◌==◌, Some, None, Option, IfSome, refl, sym, subst, arith}
use Rattle.std.proofs.lemmas.Bool.{cond_both}
use Rattle.lwb_base.specs.declared.event.Event.{Event}
use Rattle.lwb_base.specs.declared.event.Event.TheVariants.{Boot, Alarm, Sent, Heard}
use Rattle.radio_model.specs.declared.sending.Sending.{Sending}
use Rattle.bus_rules.specs.declared.act.Act.{Act}
use Rattle.scenario_text.specs.declared.script.ScriptLine.{ScriptLine}
use Rattle.bus_rules.specs.Cores.{Setup}
use Rattle.node_core.specs.Nodes.{rebooted}
use Rattle.air_log.specs.Devices.{Device, Power, PowerOff, PowerOn, Listening, OrderedPacket, event, event_by}
use Rattle.air_log.specs.ScriptedDevices.{device_after_act, device_after_line, device_after_on}
use Rattle.air_log.specs.Trails.{Reception, device_after_reception, device_after_end, device_ended_by, alarm_is_due, one_alarm, device_after_start, begun_by}
use Rattle.air_log.specs.Trails.{starts}
use Rattle.air_log.proofs.DeviceActs.{each_act}
use Rattle.air_log.proofs.KeptByEvents.{IsKept, in_event, in_end}
use Rattle.air_log.proofs.NextDue.{Ahead, Sends, kept_ahead, kept_sends, end_over, alarm_over, begin_over}
use Rattle.air_log.proofs.EventPower.{stepped_power}
use Rattle.law_trails.specs.Phases.{Lines, Hearings, End, Alarms, Start, Over, SilentBy, NothingDue}
use Rattle.law_trails.proofs.RowsOfDevices.{switched_on_is}

module _ (clock : ℕ → ℕ) (s : Setup) (t : ℕ) where
  -- what each event keeps, a script line keeps
  pub act_keeps : (P : Device → Type 0) → IsKept P clock s t → (d : Device) (a : Act) (p : Power) → P d → P (device_after_act clock s t d a p)
  act_keeps P kept d a p is =
      each_act clock s t d P a p is
      (λ boots at.
      let n = PowerOn (rebooted (boots + 1)) in
      in_event P clock s t Boot None (record d { power = n }) kept (kept.powered d n is))
      (λ n at. kept.off d n.core.boot is) (λ n at. kept.powered d _ is)

  -- a node that is off is silent
  abbrev pub Silent : Device → Type 0
  Silent d = SilentBy d d.power

  silent_by : (e : Event) (x : Option Sending) (d : Device) (p : Power) → d.power ≡ p → SilentBy d p → Silent (event_by clock s t e x d p)
  silent_by e x d (PowerOff boots) on is = subst (SilentBy d) (sym on) is
  silent_by e x d (PowerOn n) on is = let y = event_by clock s t e x d (PowerOn n) in subst (SilentBy y) (sym (stepped_power clock s t e x d n)) tt

  pub event_silent : (e : Event) (x : Option Sending) (d : Device) → Silent d → Silent (event clock s t e x d)
  event_silent e x d is = silent_by e x d d.power refl is

  act_silent : (d : Device) (a : Act) (p : Power) → d.power ≡ p → SilentBy d p → Silent (device_after_act clock s t d a p)
  act_silent d a p on is =
      each_act clock s t d Silent a p (subst (SilentBy d) (sym on) is)
      (λ boots at. subst (SilentBy (device_after_on clock s t boots d)) (sym (switched_on_is clock s t boots d).power) tt)
      (λ n at. record { radio = refl; alarm = refl; ordered = refl }) (λ n at. tt)

  pub line_known : (d : Device) (l : ScriptLine) → NothingDue t Lines d → NothingDue t Lines (device_after_line clock s t d l)
  line_known d l is =
      let ahead = act_keeps (Ahead t) (kept_ahead clock s t) d l.act d.power (is.alarm, is.ordered, is.sending) in
      record { alarm = ahead.0; ordered = ahead.1; sending = ahead.2; off = act_silent d l.act d.power refl is.off }

  pub told_known : (d : Device) → NothingDue t Lines d → NothingDue t Hearings d
  told_known d is = record { alarm = is.alarm; ordered = is.ordered; sending = is.sending; off = is.off }

  pub hearing_known : (d : Device) (h : Reception) → NothingDue t Hearings d → NothingDue t Hearings (device_after_reception clock s t d h)
  hearing_known d h is =
      let ahead = in_event (Ahead t) clock s t (Heard h.packet) None d (kept_ahead clock s t) (is.alarm, is.ordered, is.sending) in
      record { alarm = ahead.0; ordered = ahead.1; sending = ahead.2; off = event_silent (Heard h.packet) None d is.off }

  pub taken_known : (d : Device) → NothingDue t Hearings d → NothingDue t End d
  taken_known d is = record { alarm = is.alarm; ordered = is.ordered; sending = is.sending; off = is.off }

  unsent : (d : Device) (p : Power) → SilentBy d p → SilentBy (record d { sending = None }) p
  unsent d (PowerOff boots) is = record { radio = is.radio; alarm = is.alarm; ordered = is.ordered }
  unsent d (PowerOn n) is = tt

  end_silent : (d : Device) (x : Option Sending) → Silent d → Silent (device_ended_by clock s t d x)
  end_silent d None is = is
  end_silent d (Some x) is =
      let y : Device = record d { sending = None } in
      cond_both (x.end == t) (event clock s t Sent (Some x) y) d Silent (λ ends. event_silent Sent (Some x) y (unsent d d.power is)) (λ runs. is)

  pub end_known : (d : Device) → NothingDue t End d → NothingDue t Alarms (device_after_end clock s t d)
  end_known d is =
      let ahead = in_end (Ahead t) clock s t d (kept_ahead clock s t) (is.alarm, is.ordered, is.sending) in
      record { alarm = ahead.0; ordered = ahead.1; sending = end_over clock s t d d.sending refl is.sending; off = end_silent d d.sending is.off }

  unset : (d : Device) (p : Power) → SilentBy d p → SilentBy (record d { alarm = None }) p
  unset d (PowerOff boots) is = record { radio = is.radio; alarm = refl; ordered = is.ordered }
  unset d (PowerOn n) is = tt

  pub alarm_known : (d : Device) → NothingDue t Alarms d → NothingDue t Alarms (one_alarm clock s t d)
  alarm_known d is =
      let y : Device = record d { alarm = None } in
      let ahead = in_event (Ahead t) clock s t Alarm None y (kept_ahead clock s t) (tt, is.ordered, later d.sending is.sending) in
      let runs = in_event (Sends (suc t)) clock s t Alarm None y (kept_sends clock s t (suc t)) is.sending in
      record { alarm = ahead.0; ordered = ahead.1; sending = runs; off = event_silent Alarm None y (unset d d.power is.off) }
    where
      later : (x : Option Sending) → IfSome x (λ y. suc t ≤ y.end) → IfSome x (λ y. t ≤ y.end)
      later None is = tt
      later (Some x) is = omega (arith, is)

  pub over_known : (d : Device) → alarm_is_due t d.alarm ≡ false → NothingDue t Alarms d → NothingDue t Start d
  over_known d none is = record { alarm = alarm_over t d.alarm none is.alarm; ordered = is.ordered; sending = is.sending; off = is.off }

  start_silent : (d : Device) (packet : List ℕ) (l : Option Listening) (x : Option Sending) (p : Power) → SilentBy d p → SilentBy (starts s t packet d l x) p
  start_silent d packet None x (PowerOff boots) is = record { radio = is.radio; alarm = is.alarm; ordered = refl }
  start_silent d packet (Some l) (Some x) (PowerOff boots) is = record { radio = is.radio; alarm = is.alarm; ordered = refl }
  start_silent d packet (Some l) None (PowerOff boots) is = record { radio = is.radio; alarm = is.alarm; ordered = refl }
  start_silent d packet l x (PowerOn n) is = tt

  same_power : (d : Device) (packet : List ℕ) (l : Option Listening) (x : Option Sending) → (starts s t packet d l x).power ≡ d.power
  same_power d packet None x = refl
  same_power d packet (Some l) (Some x) = refl
  same_power d packet (Some l) None = refl

  begun_silent : (d : Device) (o : Option OrderedPacket) → Silent d → Silent (begun_by s t d o)
  begun_silent d None is = is
  begun_silent d (Some o) is =
      let y = starts s t o.packet d d.listening d.sending in
      cond_both (o.tick == t) y d Silent
      (λ now. subst (SilentBy y) (sym (same_power d o.packet d.listening d.sending)) (start_silent d o.packet d.listening d.sending d.power is))
      (λ other. is)

  pub begun_known : 1 ≤ s.profile.byte → (d : Device) → NothingDue t Start d → NothingDue t Over (device_after_start s t d)
  begun_known some d is =
      let ahead = begin_over s t d d.ordered some refl is.alarm is.ordered is.sending in
      record { alarm = ahead.0; ordered = ahead.1; sending = ahead.2; off = begun_silent d d.ordered is.off }

  pub passed_known : (d : Device) → NothingDue t Over d → NothingDue (suc t) Lines d
  passed_known d is = record { alarm = is.alarm; ordered = is.ordered; sending = is.sending; off = is.off }
