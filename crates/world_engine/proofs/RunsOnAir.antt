-- What is in the log of a run from moment to moment.
use Rattle.std.proofs.Common.{◌≡◌, ℕ, suc, ◌<◌, ◌≤◌, List, [], length, Some, arith}
use Rattle.link_trace.specs.Passes.{Lines}
use Rattle.radio_model.specs.declared.sending.Sending.{Sending}
use Rattle.scenario_text.specs.ScenarioParts.{ScenarioParts}
use Rattle.scenario_text.specs.declared.script.ScriptLine.{ScriptLine}
use Rattle.event_calendar.specs.Orders.{Due, IsNext}
use Rattle.event_calendar.specs.declared.class.Class.TheVariants.{SendingEnd}
use Rattle.bus_rules.specs.declared.delivery.DropLine.{DropLine}
use Rattle.bus_rules.specs.Cores.{Setup}
use Rattle.air_log.specs.Devices.{Device}
use Rattle.air_log.specs.ScriptedDevices.{device_after_line}
use Rattle.air_log.specs.Trails.{run_end, alarmed, device_after_start, sendings_starting}
use Rattle.air_log.specs.Lawful.{FollowsHearing}
use Rattle.world_engine.specs.Fields.{FieldState, IsField, FieldShows}
use Rattle.world_engine.specs.FieldSteps.{Acts, EndsSending, DeviceSends, IsClosed}
use Rattle.world_engine.specs.Moments.{TickMoment, Before, InLines, At, over_by}
use Rattle.world_engine.specs.Running.{IsOnAir, IsRunning}
use Rattle.world_engine.proofs.ShownTunings.{AreTuned, trails_tuned}
use Rattle.world_engine.proofs.HearingsGoOn.{Does, step_on_air, line_does, alarmed_does, begun_does}
use Rattle.world_engine.proofs.SendingEnds.{end_on_air}
use Rattle.world_engine.proofs.HearingsAtEnd.{run_follows_hearing}

over_soon : (t : ℕ) (m : TickMoment) → over_by t m ≤ suc t
over_soon t Before = omega arith
over_soon t (InLines told) = omega arith
over_soon t (At class) = omega arith

module _ (s : ScenarioParts) (clocks : ℕ → ℕ → ℕ) (told : List ScriptLine) (t : ℕ) (m : TickMoment) (w : FieldState) (due : List Due)
    (run : IsRunning s clocks told t m w due) (field : IsField w) where
  pub all_tuned : AreTuned t w due
  all_tuned = trails_tuned s clocks t m w due run.places run.trails

  -- a step at one device
  pub air_after_step : (p : ℕ) (change : Setup → Device → Device) (begins : List Sending) (lost : List DropLine) (new : FieldState) (new_due : List Due)
      → p < length w.devices → Does t p change begins w due → Acts t p change begins lost w due new new_due → IsOnAir s (over_by t m) t new new_due
  air_after_step p change begins lost new new_due within does acts =
      step_on_air t p change begins lost w due new new_due acts within field all_tuned does s (over_by t m) (over_soon t m) run.air

  module _ (p : ℕ) (within : p < length w.devices) (clock : ℕ → ℕ) (new : FieldState) (new_due : List Due) where
    pub air_after_line : (line : ScriptLine) (lost : List DropLine) → Acts t p (λ x d. device_after_line clock x t d line) [] lost w due new new_due
        → IsOnAir s (over_by t m) t new new_due
    air_after_line line lost acts =
        air_after_step p (λ x d. device_after_line clock x t d line) [] lost new new_due within (line_does clock t p w due line) acts

    pub air_after_alarm : Acts t p (λ x d. alarmed clock x t d) [] [] w due new new_due → IsOnAir s (over_by t m) t new new_due
    air_after_alarm acts = air_after_step p (λ x d. alarmed clock x t d) [] [] new new_due within (alarmed_does clock t p w due) acts

  pub air_after_begin : (p : ℕ) → p < length w.devices → (new : FieldState) (new_due : List Due) (begins : List Sending)
      → Acts t p (λ x d. device_after_start x t d) begins [] w due new new_due
      → ((x : Setup) (d : Device) → FieldShows x t w due p d → begins ≡ sendings_starting x t d) → IsOnAir s (over_by t m) t new new_due
  air_after_begin p within new new_due begins acts is =
      air_after_step p (λ x d. device_after_start x t d) begins [] new new_due within (begun_does t p begins w due field is) acts

-- the end of a transmission
pub air_after_end : (s : ScenarioParts) (clocks : ℕ → ℕ → ℕ) (told : List ScriptLine) (t : ℕ) (old : FieldState) (old_due : List Due)
    → IsRunning s clocks told t (At SendingEnd) old old_due → IsField old
    → (lines : Lines) → lines ≡ s.trace → (at_places : ℕ → ℕ → ℕ) (p : ℕ) → p < length old.devices → IsNext old_due (Some (t, SendingEnd, p))
    → (x : Sending) → x.end ≡ t → DeviceSends t old old_due p x
    → (hearers : List ℕ) (new : FieldState) (new_due : List Due) → EndsSending lines at_places t p x hearers old old_due new new_due
    → IsOnAir s (suc t) t new new_due
air_after_end s clocks told t old old_due run field lines by_trace at_places p within least x now sends hearers new new_due ends =
    end_on_air ends within field (all_tuned s clocks told t (At SendingEnd) old old_due run field) sends now by_trace least run.air

-- the end of the run
pub hearing_followed : (s : ScenarioParts) (clocks : ℕ → ℕ → ℕ) (told : List ScriptLine) (w : FieldState) (due : List Due)
    → IsRunning s clocks told (run_end s) Before w due → IsField w
    → (end : FieldState) → IsClosed (run_end s) w due end → FollowsHearing s end.air
hearing_followed s clocks told w due run field end closed =
    run_follows_hearing s w due end run.air closed (all_tuned s clocks told (run_end s) Before w due run field)
