-- After a step all that is comes later than what was for it.
use Rattle.std.proofs.Common.{◌==◌, ◌≡◌, ◌≢◌, ℕ, ◌<◌, ◌≤◌, List, Option, Some, None, false, inl, inr, ◌⊎◌, refl, sym, ap, subst, ◌∙◌, arith}
use Rattle.std.specs.Prelude.{Contains, slice_get}
use Rattle.std.specs.Option.{option_map}
use Rattle.std.proofs.lemmas.Bool.{cases_lt, cases_eq, cond_both, eqb-false}
use Rattle.lwb_base.proofs.Elements.{among_or_not}
use Rattle.link_trace.specs.Passes.{Lines}
use Rattle.scenario_text.specs.ScenarioParts.{ScenarioParts}
use Rattle.scenario_text.specs.ScenarioFacts.{IsSoundScenario}
use Rattle.scenario_text.specs.declared.lines.NodeLine.{NodeLine}
use Rattle.scenario_text.specs.declared.script.ScriptLine.{ScriptLine}
use Rattle.radio_model.specs.declared.sending.Sending.{Sending}
use Rattle.event_calendar.specs.declared.class.Class.{Class}
use Rattle.event_calendar.specs.declared.class.Class.TheVariants.{SendingEnd, Alarm, SendingStart}
use Rattle.event_calendar.specs.Orders.{Due, IsNext, at, tick_of, rank}
use Rattle.event_calendar.proofs.OneOrder.{same_class}
use Rattle.bus_rules.specs.Cores.{Setup}
use Rattle.bus_rules.specs.declared.delivery.DropLine.{DropLine}
use Rattle.air_log.specs.Devices.{Device, Listening, OrderedPacket}
use Rattle.air_log.specs.AlarmRuns.{IsAlarmRun}
use Rattle.scenario_text.specs.Setups.{setup_of}
use Rattle.air_log.specs.Trails.{run_end, alarmed, device_after_start, begun_by, starts}
use Rattle.world_engine.specs.Fields.{FieldState, FieldShows}
use Rattle.world_engine.specs.FieldSteps.{Acts, EndsSending, told_of_end, told_of_hearing}
use Rattle.world_engine.specs.Frames.{order_key, AllComeLater}
use Rattle.world_engine.specs.Moments.{At}
use Rattle.world_engine.specs.Running.{IsRunning}
use Rattle.world_engine.specs.Runs.{standing}
use Rattle.world_engine.proofs.NextMoments.{order_not_past, order_not_earlier}
use Rattle.world_engine.proofs.PlacedNodes.{node_of_place}
use Rattle.world_engine.proofs.QueueKeys.{small_rank}
use Rattle.world_engine.proofs.RunPlaces.{place_of_order}
use Rattle.world_engine.proofs.ToldDevices.{told_of_hearing_sending, told_of_end_sending}
use Rattle.world_engine.proofs.ShownDevices.{stands_at}
use Rattle.world_engine.proofs.TrailsGoOn.{AreClocks}
use Rattle.world_engine.proofs.TickPoints.{alarm_at}
use Rattle.air_log.specs.DeviceStates.{sending_end}
use Rattle.air_log.specs.DeviceStates.{tick_of_ordered as start_of}

-- what is of the class at the tick is at later places
abbrev pub LaterPlaces : ℕ → Class → ℕ → List Due → Type 0
LaterPlaces t c p due = (q : ℕ) → at due q c ≡ Some t → p < q

module _ (s : ScenarioParts) (clocks : ℕ → ℕ → ℕ) (sound : IsSoundScenario s) (drifts : AreClocks clocks) (told : List ScriptLine) (t : ℕ)
    (within : t < run_end s) (c : Class) (p : ℕ) (few : p < 64)
    (w : FieldState) (due : List Due) (run : IsRunning s clocks told t (At c) w due) where
  pub past : LaterPlaces t c p due → AllComeLater t c p due
  past later y stands = by_time (cases_lt t y.0)
    where
      node : (n : NodeLine) × (slice_get s.nodes y.2 ≡ Some n)
      node = node_of_place s w due run.places y.2 (place_of_order s w due run.places y.2 y.1 y.0 stands)

      from : t ≤ y.0
      from = order_not_past s clocks t w due c run.trails sound drifts within y stands node.0 node.1

      small : rank c ≤ 2
      small = small_rank c

      by_class : y.0 ≡ t → (rank c < rank y.1) ⊎ (rank y.1 ≤ rank c) → order_key t c p < order_key y.0 y.1 y.2
      by_class now (inl more) = omega (arith, now, more, few)
      by_class now (inr le) =
          let up = order_not_earlier s clocks t w due c run.trails sound drifts within y stands node.0 node.1 now in
          let same : rank c ≡ rank y.1 = omega (arith, up, le) in
          let class : c ≡ y.1 = same_class c y.1 same in
          let here : at due y.2 c ≡ Some t = ap (at due y.2) class ∙ stands ∙ ap (λ (u : ℕ). Some u) now in
          omega (arith, now, same, later y.2 here)

      by_time : (t < y.0) ⊎ (y.0 ≤ t) → order_key t c p < order_key y.0 y.1 y.2
      by_time (inl less) = omega (arith, less, few, small)
      by_time (inr le) = by_class (omega (arith, le, from)) (cases_lt (rank c) (rank y.1))

-- where the order of the place is gone and no other of the class has come
module _ (t : ℕ) (c : Class) (p : ℕ) (old_due new_due : List Due) (next : IsNext old_due (Some (t, c, p))) where
  pub later_places : ((q : ℕ) → at new_due q c ≡ Some t → (q ≢ p) × (at old_due q c ≡ Some t)) → LaterPlaces t c p new_due
  later_places were q stands =
      let was = were q stands in
      let le = (next.1 (t, c, q) was.1).place refl refl in
      by_place (cases_lt p q) le was.0
    where
      by_place : (p < q) ⊎ (q ≤ p) → p ≤ q → q ≢ p → p < q
      by_place (inl less) le other = less
      by_place (inr more) le other = absurd (other (omega (arith, le, more)))

module _ (s : ScenarioParts) (clocks : ℕ → ℕ → ℕ) (told : List ScriptLine) (t p : ℕ) (c : Class) (old : FieldState) (old_due : List Due)
    (new : FieldState) (new_due : List Due)
    (before : IsRunning s clocks told t (At c) old old_due) (after : IsRunning s clocks told t (At c) new new_due) where
  -- the node at a place at which something is
  node : (q u : ℕ) → at new_due q c ≡ Some u → (n : NodeLine) × (slice_get s.nodes q ≡ Some n)
  node q u stands = node_of_place s new new_due after.places q (place_of_order s new new_due after.places q c u stands)

  -- a step at one device
  pub were_at : (change : Setup → Device → Device) (begins : List Sending) (lost : List DropLine) → Acts t p change begins lost old old_due new new_due
      → ((x : Setup) (d : Device) → FieldShows x t old old_due p d → tick_of c (standing (change x d)) ≡ Some t → ⊥)
      → (q : ℕ) → at new_due q c ≡ Some t → (q ≢ p) × (at old_due q c ≡ Some t)
  were_at change begins lost acts gone q stands = by (cases_eq q p)
    where
      n : (n : NodeLine) × (slice_get s.nodes q ≡ Some n)
      n = node q t stands

      by : (q ≡ p) ⊎ (q ≢ p) → (q ≢ p) × (at old_due q c ≡ Some t)
      by (inl is) =
          let trail = before.trails q n.0 n.1 in
          let x = setup_of s n.0.node in
          let shown : FieldShows x t old old_due p trail.device = subst (λ (r : ℕ). FieldShows x t old old_due r trail.device) is trail.shows in
          let here : at new_due p c ≡ Some t = subst (λ (r : ℕ). at new_due r c ≡ Some t) is stands in
          absurd (gone x trail.device shown (sym (stands_at x t new new_due p (change x trail.device) (acts.own x trail.device shown) c) ∙ here))
      by (inr other) =
          let trail = before.trails q n.0 n.1 in
          let x = setup_of s n.0.node in (
            other,
            stands_at x t old old_due q trail.device trail.shows c
                ∙ sym (stands_at x t new new_due q trail.device (acts.others q other x trail.device trail.shows) c) ∙ stands,
          )

  -- the end of a transmission
  pub were_at_end : (lines : Lines) (at_places : ℕ → ℕ → ℕ) (x : Sending) (hearers : List ℕ)
      → EndsSending lines at_places t p x hearers old old_due new new_due → (Contains hearers p → ⊥) → c ≡ SendingEnd
      → (q : ℕ) → at new_due q c ≡ Some t → (q ≢ p) × (at old_due q c ≡ Some t)
  were_at_end lines at_places x hearers ends deaf is_end q stands = by (cases_eq q p) (among_or_not hearers q)
    where
      n : (n : NodeLine) × (slice_get s.nodes q ≡ Some n)
      n = node q t stands

      end_now : at new_due q SendingEnd ≡ Some t
      end_now = subst (λ (k : Class). at new_due q k ≡ Some t) is_end stands

      back : at old_due q SendingEnd ≡ Some t → at old_due q c ≡ Some t
      back was = subst (λ (k : Class). at old_due q k ≡ Some t) (sym is_end) was

      no_end : (o : Option Sending) → o ≡ None → option_map sending_end o ≡ Some t → ⊥
      no_end None none is = cc
      no_end (Some y) none is = cc

      by : (q ≡ p) ⊎ (q ≢ p) → Contains hearers q ⊎ (Contains hearers q → ⊥) → (q ≢ p) × (at old_due q c ≡ Some t)
      by (inl is) hears =
          let trail = before.trails q n.0 n.1 in
          let u = setup_of s n.0.node in
          let shown : FieldShows u t old old_due p trail.device = subst (λ (r : ℕ). FieldShows u t old old_due r trail.device) is trail.shows in
          let e = told_of_end (at_places p) t x u trail.device in
          let here : at new_due p SendingEnd ≡ Some t = subst (λ (r : ℕ). at new_due r SendingEnd ≡ Some t) is end_now in
          absurd (no_end e.sending (told_of_end_sending (at_places p) u t x trail.device)
          (sym (stands_at u t new new_due p e (ends.sender deaf u trail.device shown) SendingEnd) ∙ here))
      by (inr other) (inl hears) =
          let trail = before.trails q n.0 n.1 in
          let u = setup_of s n.0.node in
          let e = told_of_hearing (at_places q) t x u trail.device in
          let same : e.sending ≡ trail.device.sending = told_of_hearing_sending (at_places q) u t x trail.device in (
            other,
            back (stands_at u t old old_due q trail.device trail.shows SendingEnd
                ∙ ap (option_map sending_end) (sym same)
                ∙ sym (stands_at u t new new_due q e (ends.hearer q hears other u trail.device trail.shows) SendingEnd)
                ∙ end_now),
          )
      by (inr other) (inr none) =
          let trail = before.trails q n.0 n.1 in
          let u = setup_of s n.0.node in (
            other,
            back (stands_at u t old old_due q trail.device trail.shows SendingEnd
                ∙ sym (stands_at u t new new_due q trail.device (ends.others q none other u trail.device trail.shows) SendingEnd)
                ∙ end_now),
          )

pub alarm_gone : (clock : ℕ → ℕ) (s : Setup) (t : ℕ) (d : Device) → IsAlarmRun clock s t d (alarmed clock s t d)
    → tick_of Alarm (standing (alarmed clock s t d)) ≡ Some t → ⊥
alarm_gone clock s t d run = alarm_at t (alarmed clock s t d).alarm run.over

-- nor does what was to start
begun_over : (s : Setup) (t : ℕ) (d : Device) (o : Option OrderedPacket) → d.ordered ≡ o → option_map start_of (begun_by s t d o).ordered ≡ Some t → ⊥
begun_over s t d None at is = no_start d.ordered at is
  where
    no_start : (o : Option OrderedPacket) → o ≡ None → option_map start_of o ≡ Some t → ⊥
    no_start None none is = cc
    no_start (Some o) none is = cc
begun_over s t d (Some o) at is =
    cond_both (o.tick == t) (starts s t o.packet d d.listening d.sending) d (λ (e : Device). option_map start_of e.ordered ≡ Some t → ⊥)
    (λ now. started d.listening d.sending)
    (λ other later. not_now d.ordered at other later)
    is
  where
    started : (l : Option Listening) (y : Option Sending) → option_map start_of (starts s t o.packet d l y).ordered ≡ Some t → ⊥
    started None y is = cc
    started (Some l) (Some y) is = cc
    started (Some l) None is = cc

    not_now : (x : Option OrderedPacket) → x ≡ Some o → (o.tick == t) ≡ false → option_map start_of x ≡ Some t → ⊥
    not_now None at other is = cc
    not_now (Some y) at other is = eqb-false o.tick t other (ap tick (sym (same y at)) ∙ is_tick y.tick is)
      where
        tick : OrderedPacket → ℕ
        tick z = z.tick

        same : (y : OrderedPacket) → Some y ≡ Some o → y ≡ o
        same y is = cc

        is_tick : (k : ℕ) → Some k ≡ Some t → k ≡ t
        is_tick k is = cc

pub start_gone : (s : Setup) (t : ℕ) (d : Device) → tick_of SendingStart (standing (device_after_start s t d)) ≡ Some t → ⊥
start_gone s t d is = begun_over s t d d.ordered refl is
