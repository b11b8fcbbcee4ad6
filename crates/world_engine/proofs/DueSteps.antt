-- The step that is due next: what the field asks for, and what holds after it.
use Rattle.std.proofs.Common.{◌≡◌, ℕ, ◌<◌, ◌≤◌, ◌^◌, List, [], length, get_or, Some, refl, sym, ap, subst, ◌∙◌, arith}
use Rattle.std.specs.Prelude.{slice_get}
use Rattle.std.proofs.lemmas.Option.{slice_get_read}
use Rattle.link_trace.specs.Passes.{Lines}
use Rattle.link_trace.specs.Sealed.{Traced}
use Rattle.scenario_text.specs.FloodParts.{IsSealed}
use Rattle.scenario_text.specs.ScenarioParts.{ScenarioParts}
use Rattle.scenario_text.specs.ScenarioFacts.{IsSoundScenario}
use Rattle.scenario_text.specs.declared.lines.NodeLine.{NodeLine}
use Rattle.scenario_text.specs.declared.script.ScriptLine.{ScriptLine}
use Rattle.radio_model.specs.declared.sending.Sending.{Sending}
use Rattle.radio_model.specs.Hearing.{Scene}
use Rattle.radio_model.specs.Holding.{Holds}
use Rattle.radio_model.specs.Stations.{Ends, nodes_of}
use Rattle.event_calendar.specs.declared.class.Class.{Class}
use Rattle.event_calendar.specs.declared.class.Class.TheVariants.{SendingEnd, Alarm, SendingStart}
use Rattle.event_calendar.specs.Orders.{Due, Order, IsNext, at}
use Rattle.tick_clock.specs.Clocks.{IsClock}
use Rattle.bus_rules.specs.Cores.{Setup}
use Rattle.air_log.specs.Devices.{Device}
use Rattle.air_log.specs.AlarmRuns.{IsAlarmRun}
use Rattle.air_log.specs.Trails.{run_end, alarmed, device_after_start, sendings_starting}
use Rattle.air_log.proofs.AlarmLoop.{early_in_run}
use Rattle.air_log.specs.ClockLists.{clocks_by}
use Rattle.world_engine.specs.Fields.{FieldState, FieldShows, FieldIsShown}
use Rattle.world_engine.specs.FieldSteps.{Acts, EndsSending, DeviceSends, readings_at}
use Rattle.world_engine.specs.Counting.{TrailsStay}
use Rattle.world_engine.specs.Frames.{AllComeLater}
use Rattle.world_engine.specs.Moments.{At}
use Rattle.world_engine.specs.Running.{IsRunning}
use Rattle.world_engine.proofs.AlarmsAtPlaces.{alarms_end}
use Rattle.world_engine.proofs.ClocksAtPlaces.{all_drift, own_clock, clocks_at_places}
use Rattle.world_engine.proofs.CountedScans.{acts_stay, end_stays}
use Rattle.world_engine.proofs.HeardAtEnds.{not_own, heard_at_end}
use Rattle.world_engine.proofs.KnownAtPlaces.{shown_within, sends_at, ends_at_place}
use Rattle.world_engine.proofs.PastOrders.{past, later_places, were_at, were_at_end, alarm_gone, start_gone}
use Rattle.world_engine.proofs.PlacedNodes.{node_of_place, as_many_devices, at_place}
use Rattle.world_engine.proofs.RunPlaces.{place_of_order, sealed}
use Rattle.world_engine.proofs.StepsGoOn.{end_goes_on, alarm_goes_on, begin_goes_on}
use Rattle.world_engine.proofs.TrailsGoOn.{AreClocks}

-- this order is the next of a run over these clocks
pub record IsDue {C : Type 0} (R : C → ℕ → ℕ) (s : ScenarioParts) (cs : List C) (x : Order) (old_due : List Due) : Type 0 where
  pub law : (c : C) → IsClock (R c)
  pub sound : IsSoundScenario s
  pub count : length cs ≡ length s.nodes
  pub within : x.0 < run_end s
  pub next : IsNext old_due (Some x)

-- what has to hold after it
abbrev pub IsDone : ScenarioParts → (ℕ → ℕ → ℕ) → Order → List ScriptLine → FieldState → FieldState → List Due → Type 0
IsDone s clocks x told old new new_due =
    IsRunning s clocks told x.0 (At x.1) new new_due × AllComeLater x.0 x.1 x.2 new_due × TrailsStay s clocks x.0 old.air new.air

module _ {C : Type 0} {R : C → ℕ → ℕ} {s : ScenarioParts} {cs : List C} {x : Order} {old_due : List Due} (due : IsDue R s cs x old_due) where
  abbrev t : ℕ
  t = x.0

  abbrev p : ℕ
  p = x.2

  abbrev clocks : ℕ → ℕ → ℕ
  clocks = clocks_by R s.nodes cs

  drifts : AreClocks clocks
  drifts = all_drift R due.law s.nodes cs

  pub early : t ≤ 2 ^ 45
  early = early_in_run s t due.sound (omega (arith, due.within))

  module _ {told : List ScriptLine} {old : FieldState} (run : IsRunning s clocks told x.0 (At x.1) old old_due) where
    pub inside : p < length old.devices
    inside = place_of_order s old old_due run.places p x.1 t due.next.0

    pub in_clocks : p < length cs
    in_clocks = let long = as_many_devices s old old_due run.places in omega (arith, inside, long, due.count)

    pub clock_there : {i : ℕ} {c : C} → i ≡ p → c ≡ get_or cs i c → slice_get cs p ≡ Some c
    clock_there {i} {c} place is = slice_get_read cs (length cs) p c refl in_clocks (is ∙ ap (λ (k : ℕ). get_or cs k c) place)

    node : (n : NodeLine) × (slice_get s.nodes p ≡ Some n)
    node = node_of_place s old old_due run.places p inside

    pub shown : (q : ℕ) → q < length old.devices → FieldIsShown t old old_due q
    shown = shown_within s clocks t (At x.1) old old_due run.places run.trails

    pub trace_sealed : (trace : Traced) → IsSealed trace s.nodes → trace.nodes ≡ nodes_of old.medium
    trace_sealed = sealed s old old_due run.places

    pub held : (lines : Lines) → lines ≡ s.trace → (a : Scene) × Holds old.medium a × (a.lines ≡ lines)
    held lines is = (run.air.scene, run.air.holds.held, run.air.holds.lines ∙ sym is)

    few : p < 64
    few = let long = as_many_devices s old old_due run.places in omega (arith, inside, long, due.sound.few_nodes)

    -- as an order of a class
    abbrev IsDoneAs : Class → FieldState → List Due → Type 0
    IsDoneAs k new new_due = IsDone s clocks (t, k, p) told old new new_due

    -- the end of a transmission
    module _ (is_end : x.1 ≡ SendingEnd) where
      run_end_of : IsRunning s clocks told t (At SendingEnd) old old_due
      run_end_of = subst (λ (k : Class). IsRunning s clocks told t (At k) old old_due) is_end run

      next_end : IsNext old_due (Some (t, SendingEnd, p))
      next_end = subst (λ (k : Class). IsNext old_due (Some (t, k, p))) is_end due.next

      pub sending : (y : Sending) × (y.end ≡ t) × DeviceSends t old old_due p y
      sending = sends_at s clocks t (At SendingEnd) old old_due run.places run_end_of.trails p node.0 node.1 next_end.0

      pub ends : (q : Setup) (d : Device) → FieldShows q t old old_due p d → Ends old.medium q.id t
      ends = ends_at_place t old old_due p run.air.scene run.air.holds.held sending.0 sending.1 sending.2

      pub end_done : {lines : Lines} → lines ≡ s.trace → {new : FieldState} {new_due : List Due}
          → (hearers : List ℕ) × EndsSending lines (readings_at R cs) t p sending.0 hearers old old_due new new_due → IsDone s clocks x told old new new_due
      end_done {lines} by_trace {new} {new_due} all =
          let y = sending.0 in
          let air = run_end_of.air in
          let after = end_goes_on s clocks due.sound told t p node.0 node.1 old old_due new new_due lines by_trace (readings_at R cs)
          (clocks_at_places R s due.sound cs due.count) y sending.1 sending.2 next_end all.0 all.1 run_end_of in
          let deaf = not_own s clocks due.sound lines by_trace
          (readings_at R cs) t p y sending.1 all.0 old old_due new new_due all.1 run_end_of.places run_end_of.trails sending.2 node.0 node.1
          air.scene air.holds air.has.in_turn after.air.has.in_turn in
          subst (λ (k : Class). IsDoneAs k new new_due) (sym is_end) (
            after,
            past s clocks due.sound drifts told t due.within SendingEnd p few new new_due after
                (later_places t SendingEnd p old_due new_due next_end
                (were_at_end s clocks told t p SendingEnd old old_due new new_due run_end_of after lines (readings_at R cs) y all.0 all.1 deaf refl)),
            end_stays s clocks t y all.0 old.air new.air sending.1
                (heard_at_end s clocks due.sound lines by_trace
                (readings_at R cs) t p y sending.1 all.0 old old_due new new_due all.1 run_end_of.places run_end_of.trails sending.2 node.0 node.1
                air.scene air.holds air.has.in_turn after.air.has.in_turn),
          )

    -- alarms
    module _ (is_alarm : x.1 ≡ Alarm) {c : C} (clock : slice_get cs p ≡ Some c) where
      run_alarm_of : IsRunning s clocks told t (At Alarm) old old_due
      run_alarm_of = subst (λ (k : Class). IsRunning s clocks told t (At k) old old_due) is_alarm run

      next_alarm : IsNext old_due (Some (t, Alarm, p))
      next_alarm = subst (λ (k : Class). IsNext old_due (Some (t, k, p))) is_alarm due.next

      pub alarms_over : (q : Setup) (d : Device) → FieldShows q t old old_due p d → IsAlarmRun (R c) q t d (alarmed (R c) q t d)
      alarms_over =
          alarms_end s clocks t p (R c) (own_clock R s due.sound cs due.count p c clock) old old_due due.sound drifts due.within run.places run_alarm_of.trails

      pub alarm_done : {new : FieldState} {new_due : List Due} → Acts t p (λ q d. alarmed (R c) q t d) [] [] old old_due new new_due
          → IsDone s clocks x told old new new_due
      alarm_done {new} {new_due} acts =
          let after = alarm_goes_on s clocks due.sound told t p node.0 node.1 old old_due new new_due drifts due.within (R c)
          (own_clock R s due.sound cs due.count p c clock) acts run_alarm_of in
          subst (λ (k : Class). IsDoneAs k new new_due) (sym is_alarm) (
            after,
            past s clocks due.sound drifts told t due.within Alarm p few new new_due after
                (later_places t Alarm p old_due new_due next_alarm
                (were_at s clocks told t p Alarm old old_due new new_due run_alarm_of after (λ q d. alarmed (R c) q t d) [] [] acts
                (λ q d shows. alarm_gone (R c) q t d (alarms_over q d shows)))),
            acts_stay s clocks t p (λ q d. alarmed (R c) q t d) [] [] old old_due new new_due acts,
          )

    -- a start
    module _ (is_start : x.1 ≡ SendingStart) where
      run_start_of : IsRunning s clocks told t (At SendingStart) old old_due
      run_start_of = subst (λ (k : Class). IsRunning s clocks told t (At k) old old_due) is_start run

      next_start : IsNext old_due (Some (t, SendingStart, p))
      next_start = subst (λ (k : Class). IsNext old_due (Some (t, k, p))) is_start due.next

      pub start_stands : at old_due p SendingStart ≡ Some t
      start_stands = next_start.0

      pub start_done : {new : FieldState} {new_due : List Due}
          → (starts : List Sending) × Acts t p (λ q d. device_after_start q t d) starts [] old old_due new new_due
          × ((q : Setup) (d : Device) → FieldShows q t old old_due p d → starts ≡ sendings_starting q t d)
          → IsDone s clocks x told old new new_due
      start_done {new} {new_due} all =
          let c = at_place cs p in_clocks in
          let after = begin_goes_on s clocks due.sound told t p node.0 node.1 old old_due new new_due drifts due.within (R c.0)
          (own_clock R s due.sound cs due.count p c.0 c.1) all.0 all.1 all.2 run_start_of in
          subst (λ (k : Class). IsDoneAs k new new_due) (sym is_start) (
            after,
            past s clocks due.sound drifts told t due.within SendingStart p few new new_due after
                (later_places t SendingStart p old_due new_due next_start
                (were_at s clocks told t p SendingStart old old_due new new_due run_start_of after (λ q d. device_after_start q t d) all.0 [] all.1
                (λ q d shows. start_gone q t d))),
            acts_stay s clocks t p (λ q d. device_after_start q t d) all.0 [] old old_due new new_due all.1,
          )
