-- What is known of a device by its place in a field.
use Rattle.std.proofs.Common.{◌≡◌, ℕ, ◌<◌, ◌≤◌, List, Some, None, Option, option_map, refl, sym, ◌∙◌, ap, arith}
use Rattle.std.specs.Prelude.{slice_get}
use Rattle.std.specs.Option.{IfSome}
use Rattle.std.proofs.lemmas.Option.{slice_get-map, get_or_from_slice_get, same_Some}
use Rattle.event_calendar.specs.declared.class.Class.{Class}
use Rattle.event_calendar.specs.declared.class.Class.TheVariants.{SendingEnd, Alarm, SendingStart}
use Rattle.event_calendar.specs.Orders.{Due, Order, nothing_due, tick_of, rank, at, IsNext}
use Rattle.radio_model.specs.declared.sending.Sending.{Sending}
use Rattle.scenario_text.specs.ScenarioParts.{ScenarioParts}
use Rattle.scenario_text.specs.declared.lines.NodeLine.{NodeLine}
use Rattle.bus_rules.specs.Cores.{Setup}
use Rattle.air_log.specs.Devices.{Device, OrderedPacket}
use Rattle.scenario_text.specs.Setups.{setup_of}
use Rattle.air_log.specs.Ahead.{IsAhead}
use Rattle.air_log.specs.DeviceStates.{DeviceState, running}
use Rattle.air_log.specs.Lawful.{sent_by}
use Rattle.air_log.specs.Tunings.{tunings_with}
use Rattle.air_log.proofs.KeptTunings.{ended_later}
use Rattle.air_log.proofs.ShownCourses.{device_later}
use Rattle.world_engine.specs.Fields.{FieldState, FieldShows, due_of_device, setup_of_device}
use Rattle.world_engine.specs.Running.{HasPlaces, setup_by}
use Rattle.world_engine.specs.Runs.{standing}
use Rattle.world_engine.proofs.ShownPlaces.{runs_logged, due_stands}
use Rattle.world_engine.proofs.TickPoints.{IsOver}

pub shows_later : (q : Setup) (t u : ℕ) (w : FieldState) (due : List Due) (p : ℕ) (d : Device) → t ≤ u → FieldShows q t w due p d → FieldShows q u w due p d
shows_later q t u w due p d up shows = record {
  state = shows.state;
  there = shows.there;
  station = shows.station;
  made = shows.made;
  shows = device_later q t u shows.state (tunings_with q.id shows.station.tuning shows.made.tuned) shows.made d up shows.shows;
  ended = ended_later t u shows.made.tuned up shows.ended;
  logged = shows.logged;
  known = shows.known;
}

-- the place tells the state
module _ (q r : Setup) (t u : ℕ) (w : FieldState) (due : List Due) (p : ℕ) (d e : Device) (x : FieldShows q t w due p d) (y : FieldShows r u w due p e) where
  same_state : x.state ≡ y.state
  same_state = same_Some x.state y.state (sym x.there ∙ y.there)

  pub same_power : d.power ≡ e.power
  same_power = ap (λ (z : Device). z.power) (sym x.shows.is) ∙ ap (λ (z : DeviceState). z.power) same_state ∙ ap (λ (z : Device). z.power) y.shows.is

  pub same_alarm : d.alarm ≡ e.alarm
  same_alarm = ap (λ (z : Device). z.alarm) (sym x.shows.is) ∙ ap (λ (z : DeviceState). z.alarm) same_state ∙ ap (λ (z : Device). z.alarm) y.shows.is

  pub same_sending : d.sending ≡ e.sending
  same_sending =
      sym (runs_logged q t w due p d x) ∙ ap (λ (z : DeviceState). running z.busy_until (sent_by w.air z.setup.id)) same_state ∙ runs_logged r u w due p e y

-- the place is that of a node of the scenario
pub node_there : (s : ScenarioParts) (q : Setup) (t : ℕ) (w : FieldState) (due : List Due) (p : ℕ) (d : Device) → HasPlaces s w due → FieldShows q t w due p d
    → (n : NodeLine) × (slice_get s.nodes p ≡ Some n) × (q ≡ setup_of s n.node)
node_there s q t w due p d places shows =
    by (slice_get s.nodes p) refl
    (sym (slice_get-map (setup_by s) s.nodes p)
    ∙ ap (λ (xs : List Setup). slice_get xs p) (sym places.setups)
    ∙ slice_get-map setup_of_device w.devices p
    ∙ ap (option_map setup_of_device) shows.there
    ∙ ap (λ (x : Setup). Some x) shows.shows.setup)
  where
    by : (o : Option NodeLine) → slice_get s.nodes p ≡ o → option_map (setup_by s) o ≡ Some q
        → (n : NodeLine) × (slice_get s.nodes p ≡ Some n) × (q ≡ setup_of s n.node)
    by None is same = absurd (none_some same)
      where
        none_some : None ≡ Some q → ⊥
        none_some is = cc
    by (Some n) is same = (n, is, sym (same_Some (setup_of s n.node) q same))

-- what is in the queue at the place is at the device
module _ (q : Setup) (t : ℕ) (w : FieldState) (due : List Due) (p : ℕ) (d : Device) (shows : FieldShows q t w due p d) where
  pub stands_at : (c : Class) → at due p c ≡ tick_of c (standing d)
  stands_at c =
      ap (tick_of c) (get_or_from_slice_get due p (due_of_device shows.state) nothing_due shows.known.set)
      ∙ ap (tick_of c) (due_stands q t w due p d shows)

  if_some : {X : Type 0} (P : X → Type 0) (o : Option X) → ((x : X) → o ≡ Some x → P x) → IfSome o P
  if_some P None each = tt
  if_some P (Some x) each = each x refl

  -- no order is before the tick
  pub ahead_by : (u : ℕ) → ((c : Class) (tick : ℕ) → at due p c ≡ Some tick → u ≤ tick) → IsAhead u d
  ahead_by u none = record {
    alarm = if_some (λ (tick : ℕ). u ≤ tick) d.alarm (λ tick is. none Alarm tick (stands_at Alarm ∙ is));
    ordered = if_some (λ (o : OrderedPacket). u ≤ o.tick) d.ordered
        (λ o is. none SendingStart o.tick (stands_at SendingStart ∙ ap (λ (z : Option OrderedPacket). option_map (λ (o : OrderedPacket). o.tick) z) is));
    sending = if_some (λ (x : Sending). u ≤ x.end) d.sending
        (λ x is. none SendingEnd x.end (stands_at SendingEnd ∙ ap (λ (z : Option Sending). option_map (λ (x : Sending). x.end) z) is));
  }

  -- the next order is at that tick, and of that class
  pub over_by_next : (x : Order) → IsNext due (Some x) → (j : Class) → rank j < rank x.1 → IsOver j x.0 d
  over_by_next x next j less is = omega (arith, less, (next.1 (x.0, j, p) (stands_at j ∙ is)).class refl)
