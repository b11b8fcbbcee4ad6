-- What holds of the lines given so far, through the steps of a run.
use Rattle.std.proofs.Common.{◌≡◌, ◌≢◌, ℕ, ◌≤◌, List, [], ◌∷◌, ◌++◌, false, Some, None, Contains, ◌⊎◌, inl, inr, refl, sym, ◌∙◌, ap, subst, arith, append-nil}
use Rattle.std.specs.Prelude.{slice_get}
use Rattle.std.proofs.lemmas.Bool.{cases_eq, eq-eqb, ne_eqb}
use Rattle.std.proofs.lemmas.List.Elements.{Contains-push_cases}
use Rattle.std.proofs.lemmas.Option.{same_Some}
use Rattle.link_trace.specs.Passes.{Lines}
use Rattle.lwb_base.specs.declared.event.Event.TheVariants.{Heard, Sent}
use Rattle.lwb_base.proofs.Elements.{among_or_not}
use Rattle.event_calendar.specs.Orders.{Due}
use Rattle.radio_model.specs.declared.sending.Sending.{Sending}
use Rattle.scenario_text.specs.ScenarioParts.{ScenarioParts}
use Rattle.scenario_text.specs.ScenarioFacts.{IsSoundScenario, turned, turned_by}
use Rattle.scenario_text.specs.declared.lines.NodeLine.{NodeLine}
use Rattle.scenario_text.specs.declared.script.ScriptLine.{ScriptLine}
use Rattle.scenario_text.proofs.BootsTold.{turned_more}
use Rattle.bus_rules.specs.declared.delivery.DropLine.{DropLine}
use Rattle.bus_rules.specs.Cores.{Setup}
use Rattle.air_log.specs.Devices.{Device, seen_power}
use Rattle.air_log.specs.ScriptedDevices.{device_after_line}
use Rattle.scenario_text.specs.Setups.{setup_of}
use Rattle.air_log.specs.Trails.{frame_start}
use Rattle.air_log.specs.Lawful.{heard_by}
use Rattle.air_log.specs.Drops.{device_before_line}
use Rattle.world_engine.specs.Fields.{FieldState, FieldShows}
use Rattle.world_engine.specs.FieldSteps.{Acts, EndsSending, told_of_end, told_of_hearing}
use Rattle.world_engine.specs.Moments.{TickMoment, InLines, trail_after_lines}
use Rattle.world_engine.specs.Running.{HasPlaces, HasTakenLines}
use Rattle.air_log.proofs.KeptPower.{event_power, line_power}
use Rattle.air_log.proofs.DropsBelow.{trail_drops_below, told_by_place}
use Rattle.world_engine.proofs.KeptDrops.{HeardOn, lost_by, drops_more, drops_stay, line_finds}
use Rattle.world_engine.proofs.ShownDevices.{node_there, same_power, shows_later}
use Rattle.world_engine.proofs.TrailsGoOn.{OnTrails, IsClockAt, heard_same, ids_apart}

-- a node's device at its place whose power is that after the lines given
pub record HasPower (s : ScenarioParts) (told : List ScriptLine) (t : ℕ) (w : FieldState) (due : List Due) (p : ℕ) (n : NodeLine) : Type 0 where
  pub device : Device
  pub shows : FieldShows (setup_of s n.node) t w due p device
  pub power : seen_power device.power ≡ turned n.node (false, 0) told

abbrev pub HavePower : ScenarioParts → List ScriptLine → ℕ → FieldState → List Due → Type 0
HavePower s told t w due = (p : ℕ) (n : NodeLine) → slice_get s.nodes p ≡ Some n → HasPower s told t w due p n

-- whatever trail a device is of
pub power_told : (s : ScenarioParts) (told : List ScriptLine) (t : ℕ) (w : FieldState) (due : List Due) → HasPlaces s w due → HavePower s told t w due
    → (q : Setup) (p : ℕ) (d : Device) → FieldShows q t w due p d → seen_power d.power ≡ turned q.id (false, 0) told
power_told s told t w due places each q p d shows =
    let n = node_there s q t w due p d places shows in
    let has = each p n.0 n.1 in
    ap seen_power (same_power q (setup_of s n.0.node) t t w due p d has.device shows has.shows)
    ∙ has.power
    ∙ ap (λ (v : ℕ). turned v (false, 0) told) (ap (λ (x : Setup). x.id) (sym n.2))

module _ (s : ScenarioParts) (clocks : ℕ → ℕ → ℕ) (told : List ScriptLine) (t : ℕ) (m : TickMoment) (old : FieldState) (old_due : List Due)
    (trails : OnTrails s clocks t m old old_due) (is : HasTakenLines s clocks told t old old_due) where
  old_power : (p : ℕ) (n : NodeLine) (there : slice_get s.nodes p ≡ Some n) → seen_power (trails p n there).device.power ≡ turned n.node (false, 0) told
  old_power p n there = let trail = trails p n there in is.power (setup_of s n.node) p trail.device trail.shows

  -- time goes on
  pub told_later : (u : ℕ) → t ≤ u → HasPlaces s old old_due → HasTakenLines s clocks told u old old_due
  told_later u up places = record {
    drops = is.drops;
    power = power_told s told u old old_due places (λ p n there.
        let trail = trails p n there in
        record { device = trail.device; shows = shows_later (setup_of s n.node) t u old old_due p trail.device up trail.shows; power = old_power p n there });
    lines = λ l there. omega (arith, up, is.lines l there);
  }

  module _ (new : FieldState) (new_due : List Due) (places : HasPlaces s new new_due) where
    -- a step at one place that changes no power and loses nothing
    pub acts_told : (p : ℕ) (change : Setup → Device → Device) (starting : List Sending) → Acts t p change starting [] old old_due new new_due
        → ((x : Setup) (d : Device) → seen_power (change x d).power ≡ seen_power d.power) → HasTakenLines s clocks told t new new_due
    acts_told p change starting acts kept = record {
      drops = acts.drops ∙ append-nil old.drops ∙ is.drops ∙ told_by_place s clocks old.air told
          ∙ sym (drops_stay s clocks t old.air new.air [] told is.lines (λ v. inl (heard_same s clocks t p change starting [] old old_due new new_due acts v)))
          ∙ sym (told_by_place s clocks new.air told);
      power = power_told s told t new new_due places each;
      lines = is.lines;
    }
      where
        each : HavePower s told t new new_due
        each q n there = by (cases_eq q p)
          where
            by : (q ≡ p) ⊎ (q ≢ p) → HasPower s told t new new_due q n
            by (inl same) =
                let trail = trails q n there in
                let x = setup_of s n.node in
                let shown : FieldShows x t new new_due p (change x trail.device) =
                acts.own x trail.device (subst (λ (r : ℕ). FieldShows x t old old_due r trail.device) same trail.shows) in
                record {
                  device = change x trail.device;
                  shows = subst (λ (r : ℕ). FieldShows x t new new_due r (change x trail.device)) (sym same) shown;
                  power = kept x trail.device ∙ old_power q n there;
                }
            by (inr other) =
                let trail = trails q n there in
                record { device = trail.device; shows = acts.others q other (setup_of s n.node) trail.device trail.shows; power = old_power q n there }

    -- the end of a transmission
    pub end_told_of : (lines : Lines) (at_places : ℕ → ℕ → ℕ) (p : ℕ) (x : Sending) (hearers : List ℕ)
        → EndsSending lines at_places t p x hearers old old_due new new_due
        → (Contains hearers p → ⊥) → ((v : ℕ) → HeardOn t old.air new.air v) → HasTakenLines s clocks told t new new_due
    end_told_of lines at_places p x hearers ends not_own heard = record {
      drops = ends.drops ∙ is.drops ∙ told_by_place s clocks old.air told
          ∙ sym (drops_stay s clocks t old.air new.air [] told is.lines heard)
          ∙ sym (told_by_place s clocks new.air told);
      power = power_told s told t new new_due places each;
      lines = is.lines;
    }
      where
        each : HavePower s told t new new_due
        each q n there = by (cases_eq q p) (among_or_not hearers q)
          where
            by : (q ≡ p) ⊎ (q ≢ p) → Contains hearers q ⊎ (Contains hearers q → ⊥) → HasPower s told t new new_due q n
            by (inl same) hears =
                let trail = trails q n there in
                let y = setup_of s n.node in
                let e = told_of_end (at_places p) t x y trail.device in
                let shown : FieldShows y t new new_due p e = ends.sender not_own y trail.device
                (subst (λ (r : ℕ). FieldShows y t old old_due r trail.device) same trail.shows) in
                record {
                  device = e;
                  shows = subst (λ (r : ℕ). FieldShows y t new new_due r e) (sym same) shown;
                  power = event_power (at_places p) y t Sent (Some x) (record (trail.device) { sending = None }) ∙ old_power q n there;
                }
            by (inr other) (inl hears) =
                let trail = trails q n there in
                let y = setup_of s n.node in
                record {
                  device = told_of_hearing (at_places q) t x y trail.device;
                  shows = ends.hearer q hears other y trail.device trail.shows;
                  power = event_power (at_places q) y t (Heard x.packet) None trail.device ∙ old_power q n there;
                }
            by (inr other) (inr deaf) =
                let trail = trails q n there in
                record { device = trail.device; shows = ends.others q deaf other (setup_of s n.node) trail.device trail.shows; power = old_power q n there }

-- a line is given at the place of its node
module _ (s : ScenarioParts) (clocks : ℕ → ℕ → ℕ) (told : List ScriptLine) (t p : ℕ) (clock : ℕ → ℕ) (own_clock : IsClockAt s clocks p clock)
    (old : FieldState) (old_due : List Due) (new : FieldState) (new_due : List Due)
    (l : ScriptLine) (n : NodeLine) (sound : IsSoundScenario s) (here : slice_get s.nodes p ≡ Some n) (own : l.node ≡ n.node) (now : frame_start s l.frame ≡ t)
    (starting : List Sending) (lost : List DropLine) (acts : Acts t p (λ x d. device_after_line clock x t d l) starting lost old old_due new new_due)
    (trails : OnTrails s clocks t (InLines told) old old_due) (is : HasTakenLines s clocks told t old old_due) where
  -- the node is as the line finds it by its trail
  found : (trails p n here).device ≡ device_before_line s clocks old.air told l
  found =
      (trails p n here).at
      ∙ ap (λ (v : ℕ). trail_after_lines s v (clocks v) (heard_by old.air v) t told) (sym own)
      ∙ sym (line_finds s clocks old.air told l t now)

  drops_told : ((x : Setup) (d : Device) → FieldShows x t old old_due p d → lost ≡ lost_by l d)
      → new.drops ≡ trail_drops_below s clocks new.air [] (told ++ l ∷ [])
  drops_told loses =
      let trail = trails p n here in
      let stay : trail_drops_below s clocks new.air [] (told ++ l ∷ []) ≡ trail_drops_below s clocks old.air [] (told ++ l ∷ []) =
      drops_stay s clocks t old.air new.air [] (told ++ l ∷ []) early
      (λ v. inl (heard_same s clocks t p (λ x d. device_after_line clock x t d l) starting lost old old_due new new_due acts v)) in
      acts.drops
      ∙ ap (λ (ds : List DropLine). old.drops ++ ds) (loses (setup_of s n.node) trail.device trail.shows ∙ ap (lost_by l) found)
      ∙ ap (λ (ds : List DropLine). ds ++ lost_by l (device_before_line s clocks old.air told l)) (is.drops ∙ told_by_place s clocks old.air told)
      ∙ sym (drops_more s clocks old.air [] told l)
      ∙ sym stay
    where
      early : (k : ScriptLine) → Contains (told ++ l ∷ []) k → frame_start s k.frame ≤ t
      early k there = elim (Contains-push_cases told l k there) [
        | inl before ↦ is.lines k before
        | inr same ↦ subst (λ (z : ScriptLine). frame_start s z.frame ≤ t) same (omega (arith, now))
      ]

  each_power : HavePower s (told ++ l ∷ []) t new new_due
  each_power q k there = by (cases_eq q p)
    where
      by : (q ≡ p) ⊎ (q ≢ p) → HasPower s (told ++ l ∷ []) t new new_due q k
      by (inl same) =
          let trail = trails q k there in
          let x = setup_of s k.node in
          let e = device_after_line clock x t trail.device l in
          let shown : FieldShows x t new new_due p e =
          acts.own x trail.device (subst (λ (r : ℕ). FieldShows x t old old_due r trail.device) same trail.shows) in
          let mine : l.node ≡ k.node = own ∙ ap (λ (z : NodeLine). z.node)
          (same_Some n k (sym here ∙ subst (λ (r : ℕ). slice_get s.nodes r ≡ Some k) same there)) in
          record {
            device = e;
            shows = subst (λ (r : ℕ). FieldShows x t new new_due r e) (sym same) shown;
            power =
                line_power clock x t trail.device l
                ∙ ap (turned_by l.act) (is.power x q trail.device trail.shows)
                ∙ sym (turned_more k.node (false, 0) told l ∙ rw (eq-eqb l.node k.node mine) refl);
          }
      by (inr other) =
          let trail = trails q k there in
          let theirs : l.node ≢ k.node = λ same. ids_apart s sound p q n k (λ eq. other (sym eq)) here there (sym own ∙ same) in
          record {
            device = trail.device;
            shows = acts.others q other (setup_of s k.node) trail.device trail.shows;
            power = is.power (setup_of s k.node) q trail.device trail.shows
                ∙ sym (turned_more k.node (false, 0) told l ∙ rw (ne_eqb l.node k.node theirs) refl);
          }

  pub line_told_of : HasPlaces s new new_due → ((x : Setup) (d : Device) → FieldShows x t old old_due p d → lost ≡ lost_by l d)
      → HasTakenLines s clocks (told ++ l ∷ []) t new new_due
  line_told_of places loses = record {
    drops = drops_told loses ∙ sym (told_by_place s clocks new.air (told ++ l ∷ []));
    power = power_told s (told ++ l ∷ []) t new new_due places each_power;
    lines = λ k there. elim (Contains-push_cases told l k there) [
      | inl before ↦ is.lines k before
      | inr same ↦ subst (λ (z : ScriptLine). frame_start s z.frame ≤ t) same (omega (arith, now))
    ];
  }
