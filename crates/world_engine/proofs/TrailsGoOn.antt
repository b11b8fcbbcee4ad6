-- A step of a run leaves all devices on their trails.
use Rattle.std.proofs.Common.{◌≡◌, ◌≢◌, ℕ, ◌<◌, List, [], ◌∷◌, ◌++◌, map, filter, ◌==◌, get_or, Some, ◌⊎◌, inl, inr, sym, ◌∙◌, ap, subst, arith}
use Rattle.std.specs.Prelude.{slice_get}
use Rattle.std.proofs.lemmas.Bool.{cases_eq, cases_order}
use Rattle.std.proofs.lemmas.Option.{get_or_from_slice_get, slice_get_within, same_Some}
use Rattle.tick_clock.specs.Clocks.{IsClock}
use Rattle.event_calendar.specs.declared.class.Class.TheVariants.{Alarm, SendingStart}
use Rattle.event_calendar.specs.Orders.{Due}
use Rattle.radio_model.specs.declared.sending.Sending.{Sending}
use Rattle.radio_model.specs.OnAir.{Hearing}
use Rattle.scenario_text.specs.ScenarioParts.{ScenarioParts}
use Rattle.scenario_text.specs.ScenarioFacts.{IsSoundScenario}
use Rattle.scenario_text.specs.declared.lines.NodeLine.{NodeLine}
use Rattle.scenario_text.specs.declared.script.ScriptLine.{ScriptLine}
use Rattle.bus_rules.specs.declared.delivery.DropLine.{DropLine}
use Rattle.bus_rules.specs.Cores.{Setup}
use Rattle.air_log.specs.Devices.{Device}
use Rattle.air_log.specs.ScriptedDevices.{device_after_line}
use Rattle.scenario_text.specs.Setups.{setup_of}
use Rattle.air_log.specs.Trails.{Reception, run_end, frame_start, alarmed, device_after_start}
use Rattle.air_log.specs.Lawful.{by_end, reception_of, heard_by}
use Rattle.world_engine.specs.Fields.{IsField, FieldState}
use Rattle.world_engine.specs.FieldSteps.{AreSame, Acts}
use Rattle.world_engine.specs.Moments.{TickMoment, InLines, At, IsAtMoment}
use Rattle.world_engine.specs.Running.{HasPlaces, IsOnTrail}
use Rattle.world_engine.proofs.TickPoints.{alarmed_at, begun_at}
use Rattle.world_engine.proofs.LinesTold.{line_told, line_of_other}

-- each node's device is at its place, at this moment of its trail
abbrev pub OnTrails : ScenarioParts → (ℕ → ℕ → ℕ) → ℕ → TickMoment → FieldState → List Due → Type 0
OnTrails s clocks t m w due = (p : ℕ) (n : NodeLine) → slice_get s.nodes p ≡ Some n → IsOnTrail s clocks t m w due p n.node

-- the clock is that of the node at the place
abbrev pub IsClockAt : ScenarioParts → (ℕ → ℕ → ℕ) → ℕ → (ℕ → ℕ) → Type 0
IsClockAt s clocks p clock = (n : NodeLine) → slice_get s.nodes p ≡ Some n → clock ≡ clocks n.node

abbrev pub AreClocks : (ℕ → ℕ → ℕ) → Type 0
AreClocks clocks = (v : ℕ) → IsClock (clocks v)

pub same_places : (s : ScenarioParts) (old new : FieldState) (old_due new_due : List Due) → AreSame old old_due new new_due → IsField new
    → HasPlaces s old old_due → HasPlaces s new new_due
same_places s old new old_due new_due same field places = record { setups = same.setups ∙ places.setups; field = field; places = same.places ∙ places.places }

-- nodes at two places have two ids
pub ids_apart : (s : ScenarioParts) → IsSoundScenario s → (p q : ℕ) (n m : NodeLine) → p ≢ q → slice_get s.nodes p ≡ Some n
    → slice_get s.nodes q ≡ Some m → n.node ≢ m.node
ids_apart s sound p q n m apart here there same = by (cases_order p q)
  where
    at : (i : ℕ) (x d : NodeLine) → slice_get s.nodes i ≡ Some x → get_or s.nodes i d ≡ x
    at i x d is = get_or_from_slice_get s.nodes i x d is

    ascends : (i j : ℕ) (x y : NodeLine) → i < j → slice_get s.nodes i ≡ Some x → slice_get s.nodes j ≡ Some y → x.node < y.node
    ascends i j x y less first second =
        let ordered : (get_or s.nodes i x).node < (get_or s.nodes j x).node = sound.ascending i j x less (slice_get_within s.nodes j y second) in
        subst (λ (b : NodeLine). x.node < b.node) (at j y x second) (subst (λ (a : NodeLine). a.node < (get_or s.nodes j x).node) (at i x x first) ordered)

    by : (p ≡ q) ⊎ ((p < q) ⊎ (q < p)) → ⊥
    by (inl is) = apart is
    by (inr (inl less)) = omega (arith, same, ascends p q n m less here there)
    by (inr (inr more)) = omega (arith, same, ascends q p m n more there here)

-- a step at one place
module _ (s : ScenarioParts) (clocks : ℕ → ℕ → ℕ) (t p : ℕ) (change : Setup → Device → Device) (starting : List Sending) (lost : List DropLine)
    (old : FieldState) (old_due : List Due) (new : FieldState) (new_due : List Due) (acts : Acts t p change starting lost old old_due new new_due) where
  pub heard_same : (v : ℕ) → heard_by new.air v ≡ heard_by old.air v
  heard_same v = ap (λ (hs : List Hearing). map reception_of (by_end (filter (λ h. h.node == v) hs))) acts.hearings

  -- from one moment of a trail to another
  abbrev Comes : TickMoment → TickMoment → ℕ → (Device → Device) → Type 0
  Comes m k v f = (d : Device) → IsAtMoment s (clocks v) (heard_by old.air v) v t m d → IsAtMoment s (clocks v) (heard_by old.air v) v t k (f d)

  own_trail : (m k : TickMoment) (v : ℕ) → Comes m k v (change (setup_of s v)) → IsOnTrail s clocks t m old old_due p v → IsOnTrail s clocks t k new new_due p v
  own_trail m k v step trail =
      let e = change (setup_of s v) trail.device in
      record {
        device = e;
        shows = acts.own (setup_of s v) trail.device trail.shows;
        at = subst (λ (hs : List Reception). IsAtMoment s (clocks v) hs v t k e) (sym (heard_same v)) (step trail.device trail.at);
      }

  other_trail : (m k : TickMoment) (q v : ℕ) → q ≢ p → Comes m k v (λ d. d) → IsOnTrail s clocks t m old old_due q v → IsOnTrail s clocks t k new new_due q v
  other_trail m k q v other step trail = record {
    device = trail.device;
    shows = acts.others q other (setup_of s v) trail.device trail.shows;
    at = subst (λ (hs : List Reception). IsAtMoment s (clocks v) hs v t k trail.device) (sym (heard_same v)) (step trail.device trail.at);
  }

  pub acts_trails : (m k : TickMoment)
      → ((n : NodeLine) → slice_get s.nodes p ≡ Some n → Comes m k n.node (change (setup_of s n.node)))
      → ((q : ℕ) (n : NodeLine) → q ≢ p → slice_get s.nodes q ≡ Some n → Comes m k n.node (λ d. d))
      → OnTrails s clocks t m old old_due → OnTrails s clocks t k new new_due
  acts_trails m k own others trails q n there = by (cases_eq q p)
    where
      by : (q ≡ p) ⊎ (q ≢ p) → IsOnTrail s clocks t k new new_due q n.node
      by (inl is) =
          let here : slice_get s.nodes p ≡ Some n = subst (λ (x : ℕ). slice_get s.nodes x ≡ Some n) is there in
          subst (λ (x : ℕ). IsOnTrail s clocks t k new new_due x n.node) (sym is) (own_trail m k n.node (own n here) (trails p n here))
      by (inr other) = other_trail m k q n.node other (others q n other there) (trails q n there)

-- alarms, a start and a line
module _ (s : ScenarioParts) (clocks : ℕ → ℕ → ℕ) (t p : ℕ) (clock : ℕ → ℕ) (own_clock : IsClockAt s clocks p clock)
    (old : FieldState) (old_due : List Due) (new : FieldState) (new_due : List Due) where
  module _ (sound : IsSoundScenario s) (drifts : AreClocks clocks) (within : t < run_end s) where
    pub alarm_trails : (starting : List Sending) (lost : List DropLine) → Acts t p (λ x d. alarmed clock x t d) starting lost old old_due new new_due
        → OnTrails s clocks t (At Alarm) old old_due → OnTrails s clocks t (At Alarm) new new_due
    alarm_trails starting lost acts =
        acts_trails s clocks t p (λ x d. alarmed clock x t d) starting lost old old_due new new_due acts (At Alarm) (At Alarm)
        (λ n there d at.
        subst (λ (c : ℕ → ℕ). IsAtMoment s (clocks n.node) (heard_by old.air n.node) n.node t (At Alarm) (alarmed c (setup_of s n.node) t d))
        (sym (own_clock n there))
        (alarmed_at s n.node (clocks n.node) (heard_by old.air n.node) t sound (drifts n.node) within d at))
        (λ q n other there d at. at)

    pub begin_trails : (starting : List Sending) (lost : List DropLine) → Acts t p (λ x d. device_after_start x t d) starting lost old old_due new new_due
        → OnTrails s clocks t (At SendingStart) old old_due → OnTrails s clocks t (At SendingStart) new new_due
    begin_trails starting lost acts =
        acts_trails s clocks t p (λ x d. device_after_start x t d) starting lost old old_due new new_due acts (At SendingStart) (At SendingStart)
        (λ n there d at. begun_at s n.node (clocks n.node) (heard_by old.air n.node) t sound (drifts n.node) within d at)
        (λ q n other there d at. at)

  -- no other place is of the node of the place
  ids_differ : (q : ℕ) (n m : NodeLine) → IsSoundScenario s → q ≢ p → slice_get s.nodes p ≡ Some n → slice_get s.nodes q ≡ Some m → n.node ≢ m.node
  ids_differ q n m sound other here there = ids_apart s sound p q n m (λ is. other (sym is)) here there

  pub line_trails : (told : List ScriptLine) (l : ScriptLine) (n : NodeLine) (starting : List Sending) (lost : List DropLine) → IsSoundScenario s
      → slice_get s.nodes p ≡ Some n → l.node ≡ n.node → frame_start s l.frame ≡ t
      → Acts t p (λ x d. device_after_line clock x t d l) starting lost old old_due new new_due
      → OnTrails s clocks t (InLines told) old old_due → OnTrails s clocks t (InLines (told ++ l ∷ [])) new new_due
  line_trails told l n starting lost sound here own now acts =
      acts_trails s clocks t p (λ x d. device_after_line clock x t d l) starting lost old old_due new new_due acts (InLines told) (InLines (told ++ l ∷ []))
      (λ m there d at.
      let same : n ≡ m = same_Some n m (sym here ∙ there) in
      subst (λ (c : ℕ → ℕ). IsAtMoment s (clocks m.node) (heard_by old.air m.node) m.node t (InLines (told ++ l ∷ []))
      (device_after_line c (setup_of s m.node) t d l)) (sym (own_clock m there))
      (line_told s m.node (clocks m.node) (heard_by old.air m.node) t told l d (own ∙ ap (λ (x : NodeLine). x.node) same) now at))
      (λ q m other there d at.
      line_of_other s m.node (clocks m.node) (heard_by old.air m.node) t told l d (λ is. ids_differ q n m sound other here there (sym own ∙ is)) at)
