-- Each step of a run leaves what holds of a run.
use Rattle.std.proofs.Common.{◌≡◌, ℕ, ◌<◌, List, [], ◌∷◌, ◌++◌, length, option_to_list, Some, arith}
use Rattle.std.specs.Prelude.{slice_get}
use Rattle.std.proofs.lemmas.Option.{slice_get_within}
use Rattle.link_trace.specs.Passes.{Lines}
use Rattle.scenario_text.specs.ScenarioParts.{ScenarioParts}
use Rattle.scenario_text.specs.ScenarioFacts.{IsSoundScenario}
use Rattle.scenario_text.specs.declared.lines.NodeLine.{NodeLine}
use Rattle.scenario_text.specs.declared.script.ScriptLine.{ScriptLine}
use Rattle.radio_model.specs.declared.sending.Sending.{Sending}
use Rattle.event_calendar.specs.declared.class.Class.TheVariants.{SendingEnd, Alarm, SendingStart}
use Rattle.event_calendar.specs.Orders.{Due, IsNext}
use Rattle.bus_rules.specs.Cores.{Setup}
use Rattle.bus_rules.specs.declared.delivery.DropLine.{DropLine}
use Rattle.air_log.specs.Devices.{Device}
use Rattle.air_log.specs.ScriptedDevices.{device_after_line}
use Rattle.air_log.specs.Trails.{run_end, frame_start, alarmed, device_after_start, sendings_starting}
use Rattle.air_log.specs.Drops.{drop_by}
use Rattle.world_engine.specs.Fields.{FieldState, FieldShows}
use Rattle.world_engine.proofs.GoesOn.{field_goes_on}
use Rattle.world_engine.specs.FieldSteps.{MediumGoesOn, Acts, EndsSending, DeviceSends, AreSame}
use Rattle.world_engine.specs.Moments.{TickMoment, InLines, At}
use Rattle.world_engine.specs.Running.{IsRunning, HasPlaces}
use Rattle.world_engine.proofs.TrailsGoOn.{IsClockAt, AreClocks, same_places, line_trails, alarm_trails, begin_trails}
use Rattle.world_engine.proofs.TrailsAtEnds.{end_trails}
use Rattle.world_engine.proofs.ToldSoFar.{acts_told, end_told_of, line_told_of}
use Rattle.air_log.proofs.KeptPower.{alarmed_power, begun_power}
use Rattle.world_engine.proofs.HeardAtEnds.{not_own, heard_at_end, heard_on_at_end}
use Rattle.world_engine.proofs.RunsOnAir.{air_after_line, air_after_alarm, air_after_begin, air_after_end}
use Rattle.world_engine.proofs.PlacedNodes.{as_many_devices}

module _ (s : ScenarioParts) (clocks : ℕ → ℕ → ℕ) (sound : IsSoundScenario s) (told : List ScriptLine) (t p : ℕ) (n : NodeLine)
    (here : slice_get s.nodes p ≡ Some n)
    (old : FieldState) (old_due : List Due) (new : FieldState) (new_due : List Due) where
  inside : (m : TickMoment) → IsRunning s clocks told t m old old_due → p < length old.devices
  inside m run = let long = as_many_devices s old old_due run.places in omega (arith, slice_get_within s.nodes p n here, long)

  places_after : (m : TickMoment) (begun : List Sending) → IsRunning s clocks told t m old old_due → AreSame old old_due new new_due
      → MediumGoesOn t old.medium new.medium begun → HasPlaces s new new_due
  places_after m begun run same air = same_places s old new old_due new_due same
      (field_goes_on t begun old new old_due new_due same air run.places.field) run.places

  -- a line of the script is given to its node
  pub line_goes_on : (clock : ℕ → ℕ) → IsClockAt s clocks p clock → (l : ScriptLine) → l.node ≡ n.node → frame_start s l.frame ≡ t → (lost : List DropLine)
      → Acts t p (λ x d. device_after_line clock x t d l) [] lost old old_due new new_due
      → ((x : Setup) (d : Device) → FieldShows x t old old_due p d → lost ≡ option_to_list (drop_by l l.act d.power))
      → IsRunning s clocks told t (InLines told) old old_due → IsRunning s clocks (told ++ l ∷ []) t (InLines (told ++ l ∷ [])) new new_due
  line_goes_on clock own_clock l own now lost acts loses run =
      let places = places_after (InLines told) [] run acts.same acts.air in
      record {
        places = places;
        trails = line_trails s clocks t p clock own_clock old old_due new new_due told l n [] lost sound here own now acts run.trails;
        air = air_after_line s clocks told t (InLines told) old old_due run run.places.field p (inside (InLines told) run) clock new new_due l lost acts;
        script = line_told_of s clocks told t p clock own_clock old old_due new new_due l n sound here own now [] lost acts run.trails run.script places loses;
      }

  module _ (drifts : AreClocks clocks) (within : t < run_end s) where
    -- the alarms of a node
    pub alarm_goes_on : (clock : ℕ → ℕ) → IsClockAt s clocks p clock → Acts t p (λ x d. alarmed clock x t d) [] [] old old_due new new_due
        → IsRunning s clocks told t (At Alarm) old old_due → IsRunning s clocks told t (At Alarm) new new_due
    alarm_goes_on clock own_clock acts run =
        let places = places_after (At Alarm) [] run acts.same acts.air in
        record {
          places = places;
          trails = alarm_trails s clocks t p clock own_clock old old_due new new_due sound drifts within [] [] acts run.trails;
          air = air_after_alarm s clocks told t (At Alarm) old old_due run run.places.field p (inside (At Alarm) run) clock new new_due acts;
          script = acts_told s clocks told t (At Alarm) old old_due run.trails run.script new new_due places p (λ x d. alarmed clock x t d) [] acts
              (λ x d. alarmed_power clock x t d);
        }

    -- the start of what a node was to send
    pub begin_goes_on : (clock : ℕ → ℕ) → IsClockAt s clocks p clock → (starts : List Sending)
        → Acts t p (λ x d. device_after_start x t d) starts [] old old_due new new_due
        → ((x : Setup) (d : Device) → FieldShows x t old old_due p d → starts ≡ sendings_starting x t d)
        → IsRunning s clocks told t (At SendingStart) old old_due → IsRunning s clocks told t (At SendingStart) new new_due
    begin_goes_on clock own_clock starts acts are run =
        let places = places_after (At SendingStart) starts run acts.same acts.air in
        record {
          places = places;
          trails = begin_trails s clocks t p clock own_clock old old_due new new_due sound drifts within starts [] acts run.trails;
          air = air_after_begin s clocks told t (At SendingStart) old old_due run run.places.field p (inside (At SendingStart) run) new new_due starts acts are;
          script =
              acts_told s clocks told t (At SendingStart) old old_due run.trails run.script new new_due places p (λ x d. device_after_start x t d) starts acts
              (λ x d. begun_power clock x t d);
        }

  -- the end of a transmission of the node
  pub end_goes_on : (lines : Lines) → lines ≡ s.trace → (at_places : ℕ → ℕ → ℕ) → ((q : ℕ) → IsClockAt s clocks q (at_places q)) → (x : Sending)
      → x.end ≡ t → DeviceSends t old old_due p x → IsNext old_due (Some (t, SendingEnd, p))
      → (hearers : List ℕ) → EndsSending lines at_places t p x hearers old old_due new new_due
      → IsRunning s clocks told t (At SendingEnd) old old_due → IsRunning s clocks told t (At SendingEnd) new new_due
  end_goes_on lines by_trace at_places own_clocks x now sends next hearers ends run =
      let places = places_after (At SendingEnd) [] run ends.same ends.air in
      let air = run.air in
      let air_now = air_after_end s clocks told t old old_due run run.places.field lines by_trace at_places p
      (inside (At SendingEnd) run) next x now sends hearers new new_due ends in
      let deaf =
      not_own s clocks sound lines by_trace at_places t p x now hearers old old_due new new_due ends run.places run.trails sends n here air.scene air.holds
      air.has.in_turn air_now.has.in_turn in
      let heard =
      heard_at_end s clocks sound lines by_trace at_places t p x now hearers old old_due new new_due ends run.places run.trails sends n here
      air.scene air.holds air.has.in_turn air_now.has.in_turn in
      let heard_on =
      heard_on_at_end s clocks sound lines by_trace at_places t p x now hearers old old_due new new_due ends run.places run.trails sends n here
      air.scene air.holds air.has.in_turn air_now.has.in_turn in
      record {
        places = places;
        trails = end_trails s clocks lines at_places own_clocks t p x now hearers old old_due new new_due ends sends deaf heard run.trails;
        air = air_now;
        script = end_told_of s clocks told t
            (At SendingEnd) old old_due run.trails run.script new new_due places lines at_places p x hearers ends deaf heard_on;
      }
