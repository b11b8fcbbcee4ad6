-- The script lines of a frame, given to a course one after another.
use Rattle.std.proofs.Common.{◌≡◌, ℕ, suc, ◌+◌, ◌≤◌, List, [], ◌∷◌, ◌++◌, take, drop, filter, fold, Bool, true, false, ◌&&◌, ◌==◌, if◌then◌else◌}
use Rattle.std.proofs.Common.{Some, refl, sym, ◌∙◌, ap, subst, arith, eq-eqb, eqb-true, take-append-drop}
use Rattle.std.specs.Prelude.{slice_get}
use Rattle.std.proofs.lemmas.Bool.{and_parts}
use Rattle.std.proofs.lemmas.Option.{slice_get_within, get_or_from_slice_get}
use Rattle.std.proofs.lemmas.List.{drop_more}
use Rattle.std.proofs.lemmas.List.Sums.{fold-append}
use Rattle.lwb_base.proofs.Orders.{same_factor}
use Rattle.bus_rules.specs.Cores.{Setup}
use Rattle.scenario_text.specs.ScenarioParts.{ScenarioParts}
use Rattle.scenario_text.specs.ScenarioFacts.{IsSoundScenario, IsScriptLine, turned, turned_by}
use Rattle.bus_rules.specs.States.{IsAct}
use Rattle.bus_rules.specs.declared.act.Act.TheVariants.{On}
use Rattle.scenario_text.specs.declared.script.ScriptLine.{ScriptLine}
use Rattle.scenario_text.proofs.BootsTold.{turned_more, Boots}
use Rattle.air_log.specs.Devices.{Device, Power, PowerOff, PowerOn, seen_power}
use Rattle.air_log.specs.ScriptedDevices.{device_after_line}
use Rattle.air_log.specs.Trails.{frame_start, lines_at}
use Rattle.air_log.specs.DeviceStates.{CanBoot}
use Rattle.scenario_text.specs.AddedLines.{frame_of_line}
use Rattle.air_log.specs.Courses.{CourseState, CourseShows, CourseIsShown, Goes, IsSplitByKey}
use Rattle.air_log.proofs.AlarmRows.{roomy}
use Rattle.air_log.proofs.KeptPower.{line_power, few_before}
use Rattle.air_log.proofs.ShownCourses.{shows_as}
use Rattle.air_log.proofs.ListCuts.{IsGone, gone_first, gone_more, one_more, none_yet, none_left, filter_more}

abbrev pub own_line : (ℕ → ℕ) → ℕ → ScriptLine → Setup → Device → Device
own_line clock t l q d = if l.node == q.id then device_after_line clock q t d l else d

-- the power that is shown
power_shown : (q : Setup) (t : ℕ) (c : CourseState) (d : Device) → CourseShows q t c d → c.device.power ≡ d.power
power_shown q t c d shows = ap (λ (x : Device). x.power) shows.shows.is

module _ (clock : ℕ → ℕ) (s : ScenarioParts) (f : ℕ) where
  abbrev pub is_line : ℕ → ScriptLine → Bool
  is_line v l = (l.node == v) && (frame_start s l.frame == frame_start s f)

  pub record AreTold (k : ℕ) (old now : CourseState) : Type 0 where
    pub cut : IsGone frame_of_line s.script k f
    pub power : seen_power now.device.power ≡ turned old.device.setup.id (false, 0) (take k s.script)
    pub setup : now.device.setup ≡ old.device.setup
    pub shown : CourseIsShown (frame_start s f) now
    pub goes : Goes (frame_start s f) (λ q d. fold (device_after_line clock q (frame_start s f)) d (filter (is_line q.id) (take k s.script))) old now

module _ (clock : ℕ → ℕ) (s : ScenarioParts) (sound : IsSoundScenario s) (f : ℕ) where
  abbrev is_own : ℕ → ScriptLine → Bool
  is_own v l = is_line clock s f v l

  abbrev Told : ℕ → CourseState → CourseState → Type 0
  Told k old now = AreTold clock s f k old now

  some_frame : 1 ≤ s.profile.frame
  some_frame = let room = roomy s.profile sound.profile in omega (arith, room.long)

  keyed : (v : ℕ) (l : ScriptLine) → is_own v l ≡ true → frame_of_line l ≡ f
  keyed v l is = same_factor l.frame f s.profile.frame some_frame (eqb-true (frame_start s l.frame) (frame_start s f) (and_parts _ _ is).1)

  pub none_told : (k : ℕ) (c : CourseState) → IsSplitByKey frame_of_line s.script k f
      → seen_power c.device.power ≡ turned c.device.setup.id (false, 0) (take k s.script) → CourseIsShown (frame_start s f) c → Told k c c
  none_told k c cut power shown = record {
    cut = gone_first frame_of_line s.script k f cut;
    power = power;
    setup = refl;
    shown = shown;
    goes = λ q d shows. shows_as q (frame_start s f) c d (fold (device_after_line clock q (frame_start s f)) d (filter (is_own q.id) (take k s.script))) shows
        (sym (ap (fold (device_after_line clock q (frame_start s f)) d) (none_yet frame_of_line s.script (is_own q.id) f (keyed q.id) k cut)));
  }

  module _ (k : ℕ) (old now : CourseState) (told : Told k old now) (l : ScriptLine) (at : slice_get s.script k ≡ Some l) where
    pub in_range : old.device.setup.profile ≡ s.profile → IsAct now.device.setup.profile l.act
    in_range profile =
        let below = slice_get_within s.script k l at in
        let line : IsScriptLine s l = subst (IsScriptLine s) (get_or_from_slice_get s.script k l l at) (sound.script k l below) in
        subst (λ (p : _). IsAct p l.act) (sym (ap (λ (q : Setup). q.profile) told.setup ∙ profile)) line.act

    splits : s.script ≡ take k s.script ++ l ∷ drop (k + 1) s.script
    splits =
        let below = slice_get_within s.script k l at in
        sym (take-append-drop k s.script) ∙ ap (λ (ls : List ScriptLine). take k s.script ++ ls)
        (drop_more s.script k l below ∙ ap (λ (x : ScriptLine). x ∷ drop (k + 1) s.script) (get_or_from_slice_get s.script k l l at))

    pub boots : l.node ≡ now.device.setup.id → l.act ≡ On → CanBoot now.device.power
    boots own on = by now.device.power refl
      where
        by : (power : Power) → now.device.power ≡ power → CanBoot power
        by (PowerOn n) is = tt
        by (PowerOff b) is =
            few_before s sound (take k s.script) (drop (k + 1) s.script) l splits on b
            (sym (ap seen_power is) ∙ told.power ∙ ap (λ (v : ℕ). turned v (false, 0) (take k s.script)) (sym (own ∙ ap (λ (q : Setup). q.id) told.setup)))

    power_by : (b : Bool) (q : Setup) (d : Device) → seen_power (if b then device_after_line clock q (frame_start s f) d l else d).power
        ≡ (if b then turned_by l.act (seen_power d.power) else seen_power d.power)
    power_by true q d = line_power clock q (frame_start s f) d l
    power_by false q d = refl

    fold_by : (b c : Bool) (q : Setup) (x : Device) → c ≡ true
        → fold (device_after_line clock q (frame_start s f)) x (if b && c then l ∷ [] else [])
        ≡ (if b then device_after_line clock q (frame_start s f) x l else x)
    fold_by true true q x is = refl
    fold_by false c q x is = refl
    fold_by true false q x is = cc

    pub one_more_told : l.frame ≡ f → (last : CourseState) → Goes (frame_start s f) (own_line clock (frame_start s f) l) now last → Told (k + 1) old last
    one_more_told same last goes =
        let T = frame_start s f in
        let w = told.shown in
        let after : CourseShows w.setup T last (own_line clock T l w.setup w.device) = goes w.setup w.device w.shows in
        let id : w.setup.id ≡ old.device.setup.id = ap (λ (q : Setup). q.id) (sym w.shows.shows.setup ∙ told.setup) in
        let next : suc k ≡ k + 1 = omega arith in
        let more : take k s.script ++ l ∷ [] ≡ take (k + 1) s.script = one_more s.script k l at ∙ ap (λ (n : ℕ). take n s.script) next in
        record {
          cut = gone_more frame_of_line s.script k f l at same told.cut;
          power =
              ap seen_power (power_shown w.setup T last (own_line clock T l w.setup w.device) after)
              ∙ power_by (l.node == w.setup.id) w.setup w.device
              ∙ ap (λ (b : Boots). if l.node == w.setup.id then turned_by l.act b else b)
              (sym (ap seen_power (power_shown w.setup T now w.device w.shows)) ∙ told.power)
              ∙ ap (λ (v : ℕ). if l.node == v then turned_by l.act (turned old.device.setup.id (false, 0) (take k s.script))
              else turned old.device.setup.id (false, 0) (take k s.script)) id
              ∙ sym (turned_more old.device.setup.id (false, 0) (take k s.script) l)
              ∙ ap (turned old.device.setup.id (false, 0)) more;
          setup = after.shows.setup ∙ sym w.shows.shows.setup ∙ told.setup;
          shown = record { setup = w.setup; device = _; shows = after };
          goes = λ q d shows.
              let so = fold (device_after_line clock q T) d (filter (is_own q.id) (take k s.script)) in
              shows_as q T last (own_line clock T l q so) (fold (device_after_line clock q T) d (filter (is_own q.id) (take (k + 1) s.script)))
              (goes q so (told.goes q d shows))
              (sym (ap (fold (device_after_line clock q T) d) (filter_more frame_of_line s.script (is_own q.id) k l at)
              ∙ fold-append (device_after_line clock q T) d (filter (is_own q.id) (take k s.script)) (if is_own q.id l then l ∷ [] else [])
              ∙ fold_by (l.node == q.id) (frame_start s l.frame == T) q so (eq-eqb (frame_start s l.frame) T (ap (frame_start s) same))));
        }

  pub all_told : (k : ℕ) (old now : CourseState) → Told k old now → IsSplitByKey frame_of_line s.script k (f + 1)
      → Goes (frame_start s f) (λ q d. fold (device_after_line clock q (frame_start s f)) d (lines_at s q.id (frame_start s f))) old now
  all_told k old now told cut = λ q d shows.
      shows_as q (frame_start s f) now (fold (device_after_line clock q (frame_start s f)) d (filter (is_own q.id) (take k s.script)))
      (fold (device_after_line clock q (frame_start s f)) d (lines_at s q.id (frame_start s f))) (told.goes q d shows)
      (sym (ap (fold (device_after_line clock q (frame_start s f)) d) (none_left frame_of_line s.script (is_own q.id) f (keyed q.id) k cut)))
