-- From one moment of a run to the next: to the next order, to the beginning of a frame, and through its lines.
use Rattle.std.proofs.Common.{◌≡◌, ℕ, suc, ◌<◌, ◌≤◌, List, ◌++◌, Some, None, Contains, ◌⊎◌, inl, inr, sym, ◌∙◌, ap, subst, arith, mul-le-mul_right}
use Rattle.std.specs.Prelude.{slice_get}
use Rattle.std.proofs.lemmas.Bool.{cases_lt}
use Rattle.event_calendar.specs.declared.class.Class.{Class}
use Rattle.event_calendar.specs.declared.class.Class.TheVariants.{SendingEnd}
use Rattle.event_calendar.specs.Orders.{Due, Order, at, rank, tick_of, Stands, IsNext}
use Rattle.scenario_text.specs.ScenarioParts.{ScenarioParts}
use Rattle.scenario_text.specs.ScenarioFacts.{IsSoundScenario}
use Rattle.scenario_text.specs.declared.lines.NodeLine.{NodeLine}
use Rattle.scenario_text.specs.declared.script.ScriptLine.{ScriptLine}
use Rattle.scenario_text.specs.Setups.{setup_of}
use Rattle.air_log.specs.Trails.{run_end, frame_start}
use Rattle.air_log.specs.Lawful.{heard_by}
use Rattle.air_log.proofs.AlarmRows.{roomy}
use Rattle.world_engine.specs.Fields.{FieldState}
use Rattle.world_engine.specs.Moments.{Before, InLines, At}
use Rattle.world_engine.specs.Running.{IsOnTrail}
use Rattle.world_engine.specs.Runs.{standing}
use Rattle.world_engine.proofs.TickPoints.{IsOver, not_yet, to_class, earlier_over}
use Rattle.world_engine.proofs.LinesTold.{lines_begin, lines_end}
use Rattle.world_engine.proofs.TimePasses.{HeardBefore, from_class, from_class_into}
use Rattle.world_engine.proofs.AheadInTick.{ahead_at}
use Rattle.world_engine.proofs.ShownDevices.{shows_later, stands_at, ahead_by, over_by_next}
use Rattle.world_engine.proofs.TrailsGoOn.{OnTrails, AreClocks}

-- no order is before the tick
abbrev pub NoneBefore : List Due → ℕ → Type 0
NoneBefore due u = (p : ℕ) (c : Class) (tick : ℕ) → at due p c ≡ Some tick → u ≤ tick

pub none_before_next : (due : List Due) (x : Order) → IsNext due (Some x) → NoneBefore due x.0
none_before_next due x next p c tick stands = (next.1 (tick, c, p) stands).tick

pub none_stands : (due : List Due) (u : ℕ) → IsNext due None → NoneBefore due u
none_stands due u next p c tick stands = absurd (none_some (sym (next p c) ∙ stands))
  where
    none_some : None ≡ Some tick → ⊥
    none_some is = cc

pub none_earlier : (due : List Due) (u b : ℕ) → u ≤ b → NoneBefore due b → NoneBefore due u
none_earlier due u b up none p c tick stands = omega (arith, up, none p c tick stands)

-- no line starts from tick a on and before tick b
abbrev pub NoLines : ScenarioParts → ℕ → ℕ → Type 0
NoLines s a b = (l : ScriptLine) → Contains s.script l → a ≤ frame_start s l.frame → frame_start s l.frame < b → ⊥

-- nor within a frame
pub starts_up : (s : ScenarioParts) (f g : ℕ) → f ≤ g → frame_start s f ≤ frame_start s g
starts_up s f g up = mul-le-mul_right s.profile.frame up

pub within_frame : (s : ScenarioParts) (f a b : ℕ) → frame_start s f < a → b ≤ frame_start s (suc f) → NoLines s a b
within_frame s f a b after before l there from below = by (cases_lt f l.frame)
  where
    by : (f < l.frame) ⊎ (l.frame ≤ f) → ⊥
    by (inl later) = omega (arith, starts_up s (suc f) l.frame (omega (arith, later)), before, below)
    by (inr earlier) = omega (arith, starts_up s l.frame f earlier, after, from)

-- frames start one after another
pub starts_apart : (s : ScenarioParts) → IsSoundScenario s → (f g : ℕ) → f < g → frame_start s f < frame_start s g
starts_apart s sound f g less =
    let long = (roomy s.profile sound.profile).long in
    let up : frame_start s (suc f) ≤ frame_start s g = starts_up s (suc f) g (omega (arith, less)) in
    omega (arith, long, up)

module _ (s : ScenarioParts) (clocks : ℕ → ℕ → ℕ) (t : ℕ) (w : FieldState) (due : List Due) where
  -- the lines of a frame begin: none of those given so far is of it
  pub lines_begin_trails : (told : List ScriptLine) → ((l : ScriptLine) → Contains told l → frame_start s l.frame ≡ t → ⊥)
      → OnTrails s clocks t Before w due → OnTrails s clocks t (InLines told) w due
  lines_begin_trails told none trails p n there =
      let trail = trails p n there in
      record {
        device = trail.device;
        shows = trail.shows;
        at = lines_begin s n.node (clocks n.node) (heard_by w.air n.node) t told trail.device (λ l in_told own is. none l in_told is) trail.at;
      }

  -- and end: none of the others is of it
  pub lines_end_trails : (told rest : List ScriptLine) → s.script ≡ told ++ rest → ((l : ScriptLine) → Contains rest l → frame_start s l.frame ≡ t → ⊥)
      → ((v : ℕ) → HeardBefore (heard_by w.air v) t)
      → OnTrails s clocks t (InLines told) w due → OnTrails s clocks t (At SendingEnd) w due
  lines_end_trails told rest is none over trails p n there =
      let trail = trails p n there in
      record {
        device = trail.device;
        shows = trail.shows;
        at = lines_end s n.node (clocks n.node) (heard_by w.air n.node) t told rest trail.device is (λ l in_rest own at. none l in_rest at)
            (λ h heard at. omega (arith, over n.node h heard, at)) trail.at;
      }

  module _ (c : Class) (trails : OnTrails s clocks t (At c) w due) where
    module _ (sound : IsSoundScenario s) (drifts : AreClocks clocks) (within : t < run_end s) (x : Order) (stands : Stands due x) (n : NodeLine)
        (there : slice_get s.nodes x.2 ≡ Some n) where
      at_device : tick_of x.1 (standing (trails x.2 n there).device) ≡ Some x.0
      at_device = let trail = trails x.2 n there in sym (stands_at (setup_of s n.node) t w due x.2 trail.device trail.shows x.1) ∙ stands

      -- no order comes before the present tick, or of an earlier class at it
      pub order_not_past : t ≤ x.0
      order_not_past = by (cases_lt x.0 t)
        where
          by : (x.0 < t) ⊎ (t ≤ x.0) → t ≤ x.0
          by (inl less) =
              let trail = trails x.2 n there in
              absurd (not_yet x.1 t x.0 trail.device less
              (ahead_at s n.node (clocks n.node) (heard_by w.air n.node) t sound (drifts n.node) within c trail.device trail.at) at_device)
          by (inr from) = from

      pub order_not_earlier : x.0 ≡ t → rank c ≤ rank x.1
      order_not_earlier now = by (cases_lt (rank x.1) (rank c))
        where
          by : (rank x.1 < rank c) ⊎ (rank c ≤ rank x.1) → rank c ≤ rank x.1
          by (inl less) =
              let trail = trails x.2 n there in
              absurd (earlier_over s n.node (clocks n.node) (heard_by w.air n.node) t sound (drifts n.node) within c x.1 trail.device less trail.at
              (at_device ∙ ap (λ (u : ℕ). Some u) now))
          by (inr from) = from

    -- to the next order, at the same tick or at a later one
    pub same_tick_trails : (x : Order) → IsNext due (Some x) → x.0 ≡ t → rank c ≤ rank x.1 → OnTrails s clocks x.0 (At x.1) w due
    same_tick_trails x next now up p n there =
        let trail = trails p n there in
        subst (λ (u : ℕ). IsOnTrail s clocks u (At x.1) w due p n.node) (sym now) (record {
          device = trail.device;
          shows = trail.shows;
          at = to_class s n.node (clocks n.node) (heard_by w.air n.node) t c x.1 trail.device up trail.at (λ j less.
              subst (λ (u : ℕ). IsOver j u trail.device) now (over_by_next (setup_of s n.node) t w due p trail.device trail.shows x next j less));
        })

    module _ (over : (v : ℕ) → HeardBefore (heard_by w.air v) (suc t)) where
      pub later_tick_trails : (x : Order) → IsNext due (Some x) → t < x.0 → NoLines s (suc t) (suc x.0) → OnTrails s clocks x.0 (At x.1) w due
      later_tick_trails x next later none p n there =
          let trail = trails p n there in
          let v = n.node in
          record {
            device = trail.device;
            shows = shows_later (setup_of s v) t x.0 w due p trail.device (omega (arith, later)) trail.shows;
            at = from_class_into s v (clocks v) (heard_by w.air v) t x.0 later (over v) c x.1 trail.device
                (λ l told own from below. none l told from below) trail.at
                (ahead_by (setup_of s v) t w due p trail.device trail.shows x.0 (none_before_next due x next p))
                (over_by_next (setup_of s v) t w due p trail.device trail.shows x next);
          }

      -- to a later tick before which nothing is due
      pub to_frame_trails : (b : ℕ) → NoneBefore due b → t < b → NoLines s (suc t) b → OnTrails s clocks b Before w due
      to_frame_trails b none_due later none p n there =
          let trail = trails p n there in
          let v = n.node in
          record {
            device = trail.device;
            shows = shows_later (setup_of s v) t b w due p trail.device (omega (arith, later)) trail.shows;
            at = from_class s v (clocks v) (heard_by w.air v) t b later (over v) c trail.device (λ l told own from below. none l told from below) trail.at
                (ahead_by (setup_of s v) t w due p trail.device trail.shows b (none_due p));
          }
