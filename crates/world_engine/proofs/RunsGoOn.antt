-- A run goes on: each step, and the time between two steps, leaves what holds of a run.
use Rattle.std.proofs.Common.{◌≡◌, ℕ, suc, ◌<◌, ◌≤◌, ◌^◌, List, ◌++◌, map, nat_lt, ◌==◌, false, Some, inl, inr, ◌⊎◌, sym, ap, subst, ◌∙◌, arith}
use Rattle.std.specs.Prelude.{Contains, slice_get}
use Rattle.std.proofs.lemmas.Bool.{cases_lt, ltb-true}
use Rattle.std.proofs.lemmas.Option.{same_Some}
use Rattle.std.proofs.lemmas.List.Kept.{AllPairs-filter}
use Rattle.scenario_text.specs.ScenarioParts.{ScenarioParts}
use Rattle.scenario_text.specs.ScenarioFacts.{IsSoundScenario}
use Rattle.scenario_text.specs.declared.lines.NodeLine.{NodeLine}
use Rattle.scenario_text.specs.declared.script.ScriptLine.{ScriptLine}
use Rattle.radio_model.specs.declared.sending.Sending.{Sending}
use Rattle.radio_model.specs.declared.station.Station.{Station}
use Rattle.radio_model.specs.OnAir.{Hearing}
use Rattle.radio_model.specs.Stations.{IsTime, id_of_station, station_of}
use Rattle.radio_model.proofs.OneCall.{found_member}
use Rattle.event_calendar.specs.declared.class.Class.{Class}
use Rattle.event_calendar.specs.declared.class.Class.TheVariants.{SendingEnd}
use Rattle.event_calendar.specs.Orders.{Due, Order, IsNext, at}
use Rattle.bus_rules.specs.Cores.{Setup}
use Rattle.air_log.specs.Entries.{hearings_of}
use Rattle.air_log.specs.Lawful.{AreInTurn, reception_comes_before, reception_of, hearings_by, heard_by}
use Rattle.air_log.specs.Trails.{Reception, run_end, frame_start}
use Rattle.air_log.proofs.InTurn.{heard_in_turn}
use Rattle.air_log.proofs.AlarmLoop.{early_in_run}
use Rattle.lwb_base.proofs.Elements.{map_contains, map_from, filtered}
use Rattle.world_engine.specs.Fields.{FieldState, ids_of}
use Rattle.world_engine.specs.Moments.{TickMoment, Before, InLines, At, over_by}
use Rattle.world_engine.specs.Running.{IsRunning, IsOnAir, HasTakenLines}
use Rattle.world_engine.specs.Frames.{told_before}
use Rattle.world_engine.proofs.AirInTime.{time_passes, more_is_over}
use Rattle.world_engine.proofs.NextMoments.{NoneBefore, none_before_next, within_frame, starts_up, starts_apart, lines_begin_trails, lines_end_trails}
use Rattle.world_engine.proofs.NextMoments.{order_not_past, order_not_earlier, same_tick_trails, later_tick_trails, to_frame_trails}
use Rattle.world_engine.proofs.PlacedNodes.{node_of_place}
use Rattle.world_engine.proofs.RunPlaces.{place_of_order}
use Rattle.world_engine.proofs.ShownPlaces.{station_sends}
use Rattle.world_engine.proofs.ShownTunings.{AreTuned, trails_tuned, place_in, shown_id, shown_end}
use Rattle.world_engine.proofs.TimePasses.{HeardBefore}
use Rattle.world_engine.proofs.ToldSoFar.{told_later}
use Rattle.world_engine.proofs.TrailsGoOn.{AreClocks}

module _ (s : ScenarioParts) (clocks : ℕ → ℕ → ℕ) (told : List ScriptLine) (t : ℕ) (m : TickMoment) (w : FieldState) (due : List Due)
    (run : IsRunning s clocks told t m w due) where
  pub tuned_so_far : AreTuned t w due
  tuned_so_far = trails_tuned s clocks t m w due run.places run.trails

  -- what runs ends at the next order or later
  pub time_until : (u : ℕ) → t ≤ u → u ≤ 2 ^ 46 → NoneBefore due u → IsTime w.medium u
  time_until u later small none = record {
    later = omega (arith, run.air.holds.time.later, later);
    small = small;
    running = ends_later;
  }
    where
      ends_later : (st : Station) (y : Sending) → Contains w.medium.stations st → st.sending ≡ Some y → u ≤ y.end
      ends_later st y there sends =
          let field = run.places.field in
          let id : Contains (ids_of w) st.node = subst (λ (l : List ℕ). Contains l st.node) (sym field.nodes)
          (map_contains id_of_station w.medium.stations st there) in
          let place = place_in w st.node id in
          let tuned = tuned_so_far place.place place.within in
          let shows = tuned.shows in
          let same_id : tuned.setup.id ≡ st.node = same_Some _ _ (sym (shown_id tuned.setup t w due place.place tuned.device shows) ∙ place.id) in
          let here : station_of w.medium st.node ≡ Some shows.station = ap (station_of w.medium) (sym same_id)
          ∙ ap (λ (x : Setup). station_of w.medium x.id) (sym shows.shows.setup) ∙ shows.known.there in
          let same : shows.station ≡ st = same_Some _ _ (sym here ∙ found_member w.medium.stations st field.medium.nodes.ascending there) in
          let runs : tuned.device.sending ≡ Some y =
          sym (station_sends tuned.setup t w due place.place tuned.device shows) ∙ ap (λ (z : Station). z.sending) same ∙ sends in
          let set : at due place.place SendingEnd ≡ Some y.end = shown_end tuned.setup t w due place.place tuned.device shows y runs in
          none place.place SendingEnd y.end set

  -- all that was received is over
  pub heard_so_far : (v : ℕ) → HeardBefore (heard_by w.air v) (over_by t m)
  heard_so_far v h there =
      let has = run.air.has in
      let in_turn : AreInTurn (hearings_by w.air v) =
      AllPairs-filter (λ g k. reception_comes_before k g ≡ false) (λ g. g.node == v) (hearings_of w.air) has.in_turn in
      let plain : Contains (map reception_of (hearings_by w.air v)) h = subst (λ (l : List Reception). Contains l h) (heard_in_turn w.air v in_turn) there in
      let g = map_from reception_of (hearings_by w.air v) h plain in
      let logged = filtered (λ (k : Hearing). k.node == v) (hearings_of w.air) g.0 g.1 in
      let is = (has.heard g.0.node g.0.sending).0 logged.0 in
      let ended = has.ended g.0.sending is.0 is.1 in
      let same : g.0.sending.end ≡ h.end = ap (λ (r : Reception). r.end) g.2 in
      omega (arith, ended, same)

module _ (s : ScenarioParts) (clocks : ℕ → ℕ → ℕ) (sound : IsSoundScenario s) (drifts : AreClocks clocks) where
  -- the times of a run are small
  pub small_start : (f : ℕ) → f ≤ s.frames → frame_start s f ≤ run_end s
  small_start f within = starts_up s f s.frames within

  pub small_time : (u : ℕ) → u ≤ run_end s → u ≤ 2 ^ 46
  small_time u within = let early = early_in_run s u sound within in omega (arith, early)

  -- the lines of a frame begin
  pub lines_begin : (f : ℕ) (w : FieldState) (due : List Due) → IsRunning s clocks (told_before s f) (frame_start s f) Before w due
      → IsRunning s clocks (told_before s f) (frame_start s f) (InLines (told_before s f)) w due
  lines_begin f w due run = record {
    places = run.places;
    trails = lines_begin_trails s clocks (frame_start s f) w due (told_before s f) none_now run.trails;
    air = run.air;
    script = run.script;
  }
    where
      none_now : (l : ScriptLine) → Contains (told_before s f) l → frame_start s l.frame ≡ frame_start s f → ⊥
      none_now l there same =
          let early = ltb-true l.frame f (filtered (λ (k : ScriptLine). nat_lt k.frame f) s.script l there).1 in
          omega (arith, starts_apart s sound l.frame f early, same)

  -- and end
  pub lines_over : (f : ℕ) (told rest : List ScriptLine) (w : FieldState) (due : List Due) → s.script ≡ told ++ rest
      → ((l : ScriptLine) → Contains rest l → f < l.frame)
      → IsRunning s clocks told (frame_start s f) (InLines told) w due → IsRunning s clocks told (frame_start s f) (At SendingEnd) w due
  lines_over f told rest w due is later run =
      let t = frame_start s f in
      record {
        places = run.places;
        trails = lines_end_trails s clocks t w due told rest is (λ l there same. omega (arith, starts_apart s sound f l.frame (later l there), same))
            (heard_so_far s clocks told t (InLines told) w due run) run.trails;
        air = more_is_over s t (suc t) t w due (omega arith) run.air;
        script = run.script;
      }

  -- the next order is at this tick and of this class or a later one, or at a later tick
  pub comes_next : (f : ℕ) (told : List ScriptLine) (t : ℕ) (c : Class) (x : Order) (w : FieldState) (due : List Due) → f < s.frames
      → frame_start s f ≤ t → t < frame_start s (suc f) → x.0 < frame_start s (suc f) → IsNext due (Some x)
      → IsRunning s clocks told t (At c) w due → IsRunning s clocks told x.0 (At x.1) w due × (t ≤ x.0)
  comes_next f told t c x w due frame from until before next run = by_time (cases_lt t x.0)
    where
      within : t < run_end s
      within = let last = small_start (suc f) (omega (arith, frame)) in omega (arith, until, last)

      node : (n : NodeLine) × (slice_get s.nodes x.2 ≡ Some n)
      node = node_of_place s w due run.places x.2 (place_of_order s w due run.places x.2 x.1 x.0 next.0)

      not_past : t ≤ x.0
      not_past = order_not_past s clocks t w due c run.trails sound drifts within x next.0 node.0 node.1

      small : x.0 ≤ 2 ^ 46
      small = let last = small_start (suc f) (omega (arith, frame)) in small_time x.0 (omega (arith, before, last))

      later_air : (over : ℕ) → suc t ≤ over → IsOnAir s over x.0 w due
      later_air over grows =
          time_passes s (suc t) over t x.0 w due not_past (omega arith) grows
          (time_until s clocks told t (At c) w due run x.0 not_past small (none_before_next due x next)) run.places.field
          (tuned_so_far s clocks told t (At c) w due run) run.air

      later_script : HasTakenLines s clocks told x.0 w due
      later_script = told_later s clocks told t (At c) w due run.trails run.script x.0 not_past run.places

      by_time : (t < x.0) ⊎ (x.0 ≤ t) → IsRunning s clocks told x.0 (At x.1) w due × (t ≤ x.0)
      by_time (inl later) = (
        record {
          places = run.places;
          trails = later_tick_trails s clocks t w due c run.trails (heard_so_far s clocks told t (At c) w due run) x next later
              (within_frame s f (suc t) (suc x.0) (omega (arith, from)) (omega (arith, before)));
          air = later_air (suc x.0) (omega (arith, later));
          script = later_script;
        },
        not_past,
      )
      by_time (inr now) =
          let same : x.0 ≡ t = omega (arith, now, not_past) in (
            record {
              places = run.places;
              trails = same_tick_trails s clocks t w due c run.trails x next same
                  (order_not_earlier s clocks t w due c run.trails sound drifts within x next.0 node.0 node.1 same);
              air = later_air (suc x.0) (omega (arith, not_past));
              script = later_script;
            },
            not_past,
          )

  -- nothing more is due in the frame
  pub frame_over : (f : ℕ) (told : List ScriptLine) (t : ℕ) (c : Class) (w : FieldState) (due : List Due) → f < s.frames → frame_start s f ≤ t
      → t < frame_start s (suc f) → NoneBefore due (frame_start s (suc f))
      → IsRunning s clocks told t (At c) w due → IsRunning s clocks told (frame_start s (suc f)) Before w due
  frame_over f told t c w due frame from until none run =
      let u = frame_start s (suc f) in
      let small = small_time u (small_start (suc f) (omega (arith, frame))) in
      record {
        places = run.places;
        trails = to_frame_trails s clocks t w due c run.trails (heard_so_far s clocks told t (At c) w due run) u none until
            (within_frame s f (suc t) u (omega (arith, from)) (omega arith));
        air = time_passes s (suc t) u t u w due (omega (arith, until)) (omega arith) (omega (arith, until))
            (time_until s clocks told t (At c) w due run u (omega (arith, until)) small none) run.places.field
            (tuned_so_far s clocks told t (At c) w due run) run.air;
        script = told_later s clocks told t (At c) w due run.trails run.script u (omega (arith, until)) run.places;
      }
