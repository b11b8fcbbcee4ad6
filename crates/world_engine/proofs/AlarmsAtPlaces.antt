-- The alarms of a tick come to an end at whatever device is shown at a place.
use Rattle.std.proofs.Common.{◌≡◌, ℕ, zero, suc, ◌+◌, ◌<◌, List, [], ◌∷◌, Bool, true, false, None, Option, fold, refl, sym, ◌∙◌, ap, subst}
use Rattle.std.proofs.lemmas.Bool.{cond_both}
use Rattle.lwb_base.specs.declared.event.Event.{Event}
use Rattle.lwb_base.specs.declared.event.Event.TheVariants.{Alarm as AlarmEvent}
use Rattle.lwb_base.specs.declared.order.Order.{Order}
use Rattle.lwb_base.specs.declared.order.Order.TheVariants.{Listen, Off, SendAt, Alarm as AlarmAt}
use Rattle.event_calendar.specs.declared.class.Class.TheVariants.{Alarm}
use Rattle.event_calendar.specs.Orders.{Due}
use Rattle.radio_model.specs.OnAir.{Tuning}
use Rattle.radio_model.specs.declared.sending.Sending.{Sending}
use Rattle.scenario_text.specs.ScenarioParts.{ScenarioParts}
use Rattle.scenario_text.specs.ScenarioFacts.{IsSoundScenario}
use Rattle.bus_rules.specs.Cores.{Setup}
use Rattle.node_core.specs.Rows.{row}
use Rattle.node_core.specs.Rows.{orders_by}
use Rattle.air_log.specs.Devices.{Device, Power, PowerOff, PowerOn, obeyed, moved, event_by, silenced, tunes, listens_to}
use Rattle.scenario_text.specs.Setups.{setup_of}
use Rattle.air_log.specs.Trails.{run_end, alarm_is_due, one_alarm, alarms, alarmed}
use Rattle.air_log.specs.AlarmRuns.{IsAlarmRun}
use Rattle.air_log.specs.Lawful.{heard_by}
use Rattle.air_log.proofs.AlarmRuns.{is_run}
use Rattle.world_engine.specs.Fields.{FieldState, FieldShows}
use Rattle.world_engine.specs.Moments.{At}
use Rattle.world_engine.specs.Running.{HasPlaces}
use Rattle.world_engine.proofs.TickPoints.{alarm_run}
use Rattle.world_engine.proofs.ShownDevices.{node_there, same_power, same_alarm}
use Rattle.world_engine.proofs.TrailsGoOn.{OnTrails, AreClocks, IsClockAt}

-- alarms depends on the power and the alarm alone
abbrev AreAlike : Device → Device → Type 0
AreAlike d e = (d.power ≡ e.power) × (d.alarm ≡ e.alarm)

on_alike : (rank t : ℕ) (d e : Device) (es : List Tuning) → AreAlike d e → AreAlike (tunes rank t d es) e
on_alike rank t d e [] is = is
on_alike rank t d e (x ∷ es) is = cond_both _ _ _ (λ (y : Device). AreAlike y e) (λ same. is) (λ other. is)

listen_alike : (clock : ℕ → ℕ) (v t rank : ℕ) (d : Device) → AreAlike (obeyed clock v t d (Listen rank)) d
listen_alike clock v t rank d =
    let x = silenced v t d in
    cond_both (listens_to rank d.listening) d (tunes rank t x x.made.tuned) (λ (y : Device). AreAlike y d) (λ on. (refl, refl))
    (λ off. on_alike rank t x d x.made.tuned (refl, refl))

module _ (clock : ℕ → ℕ) (s : Setup) (t : ℕ) where
  order_alike : (d e : Device) (o : Order) → AreAlike d e → AreAlike (obeyed clock s.id t d o) (obeyed clock s.id t e o)
  order_alike d e (Listen rank) is =
      let x = listen_alike clock s.id t rank d in
      let y = listen_alike clock s.id t rank e in
      (x.0 ∙ is.0 ∙ sym y.0, x.1 ∙ is.1 ∙ sym y.1)
  order_alike d e Off is = is
  order_alike d e (SendAt local packet) is = is
  order_alike d e (AlarmAt local) is = (is.0, refl)

  orders_alike : (os : List Order) (d e : Device) → AreAlike d e → AreAlike (fold (obeyed clock s.id t) d os) (fold (obeyed clock s.id t) e os)
  orders_alike [] d e is = is
  orders_alike (o ∷ os) d e is = orders_alike os (obeyed clock s.id t d o) (obeyed clock s.id t e o) (order_alike d e o is)

  event_alike : (x : Event) (y : Option Sending) (d e : Device) (p : Power) → AreAlike d e → AreAlike (event_by clock s t x y d p) (event_by clock s t x y e p)
  event_alike x y d e (PowerOff boots) is = is
  event_alike x y d e (PowerOn n) is = let r = row s n (clock t) x in orders_alike (orders_by r) (moved t x y d n r) (moved t x y e n r) (refl, is.1)

  alarm_alike : (d e : Device) → AreAlike d e → AreAlike (one_alarm clock s t d) (one_alarm clock s t e)
  alarm_alike d e is =
      let without : Device → Device = λ x. record x { alarm = None } in
      subst (λ (p : Power). AreAlike (one_alarm clock s t d) (event_by clock s t AlarmEvent None (without e) p)) is.0
      (event_alike AlarmEvent None (without d) (without e) d.power (is.0, refl))

  alarms_alike : (b : Bool) (more : ℕ) (d e : Device) → AreAlike d e → AreAlike (alarms clock s t b more d) (alarms clock s t b more e)
  unfolding alarms
  alarms_alike false more d e is = is
  alarms_alike true zero d e is = is
  alarms_alike true (suc more) d e is =
      let x = one_alarm clock s t d in
      let y = one_alarm clock s t e in
      let both = alarm_alike d e is in
      subst (λ (b : Bool). AreAlike (alarms clock s t (alarm_is_due t x.alarm) more x) (alarms clock s t b more y)) (ap (alarm_is_due t) both.1)
      (alarms_alike (alarm_is_due t x.alarm) more x y both)

  alarmed_alike : (d e : Device) → AreAlike d e → AreAlike (alarmed clock s t d) (alarmed clock s t e)
  alarmed_alike d e is =
      subst (λ (b : Bool). AreAlike (alarmed clock s t d) (alarms clock s t b (clock t + 300) e)) (ap (alarm_is_due t) is.1)
      (alarms_alike (alarm_is_due t d.alarm) (clock t + 300) d e is)

  -- so they end at both or at none
  run_alike : (d e : Device) → AreAlike d e → IsAlarmRun clock s t e (alarmed clock s t e) → IsAlarmRun clock s t d (alarmed clock s t d)
  run_alike d e is run =
      is_run clock s t (alarm_is_due t d.alarm) (clock t + 300) d refl (ap (alarm_is_due t) (alarmed_alike d e is).1 ∙ run.over)

module _ (s : ScenarioParts) (clocks : ℕ → ℕ → ℕ) (t p : ℕ) (clock : ℕ → ℕ) (own_clock : IsClockAt s clocks p clock) (w : FieldState) (due : List Due)
    (sound : IsSoundScenario s) (drifts : AreClocks clocks) (within : t < run_end s) (places : HasPlaces s w due)
    (trails : OnTrails s clocks t (At Alarm) w due) where
  pub alarms_end : (q : Setup) (d : Device) → FieldShows q t w due p d → IsAlarmRun clock q t d (alarmed clock q t d)
  alarms_end q d shows =
      let n = node_there s q t w due p d places shows in
      let v = n.0.node in
      let trail = trails p n.0 n.1 in
      let e = trail.device in
      let of_trail : IsAlarmRun (clocks v) (setup_of s v) t e (alarmed (clocks v) (setup_of s v) t e) =
      alarm_run s v (clocks v) (heard_by w.air v) t sound (drifts v) within e trail.at in
      let by_clock : IsAlarmRun clock (setup_of s v) t e (alarmed clock (setup_of s v) t e) =
      subst (λ (c : ℕ → ℕ). IsAlarmRun c (setup_of s v) t e (alarmed c (setup_of s v) t e)) (sym (own_clock n.0 n.1)) of_trail in
      let by_setup : IsAlarmRun clock q t e (alarmed clock q t e) = subst (λ (x : Setup). IsAlarmRun clock x t e (alarmed clock x t e)) (sym n.2) by_clock in
      run_alike clock q t d e
      (same_power q (setup_of s v) t t w due p d e shows trail.shows, same_alarm q (setup_of s v) t t w due p d e shows trail.shows)
      by_setup
