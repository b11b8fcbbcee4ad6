-- The events of a frame, taken one after another until nothing more is due in it.
use Rattle.std.proofs.Common.{◌≡◌, ℕ, suc, ◌+◌, ◌*◌, ◌-◌, ◌<◌, ◌≤◌, List, Some, None, sym, ap, subst, ◌∙◌, arith, add-one}
use Rattle.lwb_base.specs.Profile.{Numbers}
use Rattle.scenario_text.specs.ScenarioParts.{ScenarioParts}
use Rattle.scenario_text.specs.ScenarioFacts.{IsSoundScenario}
use Rattle.scenario_text.specs.declared.script.ScriptLine.{ScriptLine}
use Rattle.event_calendar.specs.declared.class.Class.{Class}
use Rattle.event_calendar.specs.declared.class.Class.TheVariants.{SendingEnd}
use Rattle.event_calendar.specs.Orders.{Due, Order, IsNext}
use Rattle.air_log.specs.Trails.{run_end, frame_start}
use Rattle.air_log.specs.declared.entry.Entry.{Entry}
use Rattle.world_engine.specs.Counting.{TrailsStay}
use Rattle.world_engine.specs.Fields.{FieldState}
use Rattle.world_engine.specs.Moments.{Before, At}
use Rattle.world_engine.specs.Running.{IsRunning}
use Rattle.world_engine.specs.Frames.{order_key, AllComeLater}
use Rattle.world_engine.proofs.CountedScans.{stay_same, stay_then, stay_until}
use Rattle.world_engine.proofs.NextMoments.{NoneBefore, none_before_next, none_stands, none_earlier, starts_apart}
use Rattle.world_engine.proofs.PlacedNodes.{as_many_devices}
use Rattle.world_engine.proofs.QueueKeys.{least_from, least_from_below, above_least, small_rank}
use Rattle.world_engine.proofs.RunPlaces.{place_of_order}
use Rattle.world_engine.proofs.RunsGoOn.{small_start, comes_next, frame_over}
use Rattle.world_engine.proofs.TrailsGoOn.{AreClocks}

-- the run has come to some tick of the frame, at the beginning of which this log was there
pub record IsWithin (first : List Entry) (s : ScenarioParts) (clocks : ℕ → ℕ → ℕ) (told : List ScriptLine) (f : ℕ) (w : FieldState)
    (due : List Due) : Type 0 where
  pub tick : ℕ
  pub class : Class
  pub from : frame_start s f ≤ tick
  pub until : tick < frame_start s (suc f)
  pub running : IsRunning s clocks told tick (At class) w due
  pub stay : TrailsStay s clocks (frame_start s f) first w.air

-- how much of the frame is ahead
abbrev pub last_key : ScenarioParts → ℕ → ℕ
last_key s f = order_key (frame_start s (suc f)) SendingEnd 0

abbrev pub keys_left : ScenarioParts → ℕ → List Due → ℕ
keys_left s f due = last_key s f - least_from (last_key s f) 0 due

-- a frame of a run over these clocks
pub record IsFrame (s : ScenarioParts) (clocks : ℕ → ℕ → ℕ) (f : ℕ) : Type 0 where
  pub sound : IsSoundScenario s
  pub drifts : AreClocks clocks
  pub within : f < s.frames

module _ {s : ScenarioParts} {clocks : ℕ → ℕ → ℕ} {f : ℕ} (frame : IsFrame s clocks f) where
  pub at_start : {told : List ScriptLine} {w : FieldState} {due : List Due} → IsRunning s clocks told (frame_start s f) (At SendingEnd) w due
      → IsWithin w.air s clocks told f w due
  at_start {w = w} run = record {
    tick = frame_start s f;
    class = SendingEnd;
    from = omega arith;
    until = starts_apart s frame.sound f (suc f) (omega arith);
    running = run;
    stay = stay_same s clocks (frame_start s f) w.air;
  }

  -- the end of the frame, as the code has it
  pub frame_end : (a b : ℕ) (p : Numbers) → a ≡ f → b ≡ p.frame → p ≡ s.profile → (a + 1) * b ≡ frame_start s (suc f)
  frame_end a b p number long profile = ap (λ (k : ℕ). (k + 1) * b) number ∙ ap (λ (k : ℕ). (f + 1) * k) (long ∙ ap (λ (q : Numbers). q.frame) profile)
      ∙ ap (λ (k : ℕ). k * s.profile.frame) (add-one f)

  module _ {told : List ScriptLine} {w : FieldState} {due : List Due} {first : List Entry} (within : IsWithin first s clocks told f w due) where
    module _ (x : Order) (next : IsNext due (Some x)) (before : x.0 < frame_start s (suc f)) where
      pub tick_within : x.0 < run_end s
      tick_within = let last = small_start s clocks frame.sound frame.drifts (suc f) (omega (arith, frame.within)) in omega (arith, before, last)

      come : IsRunning s clocks told x.0 (At x.1) w due × (within.tick ≤ x.0)
      come =
          comes_next s clocks frame.sound frame.drifts f told within.tick within.class x w due frame.within within.from within.until before next within.running

      pub runs_to : IsRunning s clocks told x.0 (At x.1) w due
      runs_to = come.0

      few_places : x.2 < 64
      few_places =
          let inside = place_of_order s w due within.running.places x.2 x.1 x.0 next.0 in
          let long = as_many_devices s w due within.running.places in
          omega (arith, inside, long, frame.sound.few_nodes)

      pub goes_on : {new : FieldState} {new_due : List Due} → IsRunning s clocks told x.0 (At x.1) new new_due → TrailsStay s clocks x.0 w.air new.air
          → IsWithin first s clocks told f new new_due
      goes_on {new} run stays =
          let up = come.1 in
          record {
            tick = x.0;
            class = x.1;
            from = omega (arith, within.from, up);
            until = before;
            running = run;
            stay = stay_then s clocks (frame_start s f) first w.air new.air within.stay
                (stay_until s clocks (frame_start s f) x.0 w.air new.air (omega (arith, within.from, up)) stays);
          }

      -- less of the frame is left then
      pub nearer : (new_due : List Due) → AllComeLater x.0 x.1 x.2 new_due → keys_left s f new_due < keys_left s f due
      nearer new_due past =
          let bound = last_key s f in
          let small = small_rank x.1 in
          let below : order_key x.0 x.1 x.2 < bound = omega (arith, few_places, before, small) in
          let old : least_from bound 0 due ≤ order_key x.0 x.1 x.2 =
          subst (λ (q : ℕ). least_from bound 0 due ≤ order_key x.0 x.1 q) (omega arith) (least_from_below bound 0 due x.2 x.1 x.0 next.0) in
          let new : suc (order_key x.0 x.1 x.2) ≤ least_from bound 0 new_due =
          above_least bound (suc (order_key x.0 x.1 x.2)) 0 new_due (omega (arith, below))
          (λ i c u is. subst (λ (q : ℕ). suc (order_key x.0 x.1 x.2) ≤ order_key u c q) (omega arith) (past (u, c, i) is)) in
          omega (arith, below, old, new)

    over_at : NoneBefore due (frame_start s (suc f)) → IsRunning s clocks told (frame_start s (f + 1)) Before w due
    over_at none =
        subst (λ (k : ℕ). IsRunning s clocks told (frame_start s k) Before w due) (sym (add-one f))
        (frame_over s clocks frame.sound frame.drifts f told within.tick within.class w due frame.within within.from within.until none within.running)

    pub over_at_next : (x : Order) → IsNext due (Some x) → frame_start s (suc f) ≤ x.0 → IsRunning s clocks told (frame_start s (f + 1)) Before w due
    over_at_next x next past = over_at (none_earlier due (frame_start s (suc f)) x.0 past (none_before_next due x next))

    pub over_at_none : IsNext due None → IsRunning s clocks told (frame_start s (f + 1)) Before w due
    over_at_none next = over_at (none_stands due (frame_start s (suc f)) next)
