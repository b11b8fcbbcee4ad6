-- In how many frames each node scans, counted frame by frame while the log grows.
use Rattle.std.proofs.Common.{◌≡◌, ℕ, zero, suc, ◌+◌, ◌<◌, ◌≤◌, ◌^◌, List, [], ◌∷◌, map, filter, length, replicate, Bool, true, false, cond, ◌&&◌, ◌==◌}
use Rattle.std.proofs.Common.{nat_lt, if◌then◌else◌, Some, None, Option, Contains, ◌⊎◌, inl, inr, refl, sym, ◌∙◌, ap, arith, lt-ltb, eqb-true, fold}
use Rattle.std.specs.Prelude.{slice_get, All}
use Rattle.std.specs.List.{range_with_len}
use Rattle.std.specs.Option.{option_map}
use Rattle.std.proofs.lemmas.Bool.{cond-true, cond-false, cases_order}
use Rattle.std.proofs.lemmas.List.{length-map}
use Rattle.std.proofs.lemmas.List.Elements.{All-map}
use Rattle.std.proofs.lemmas.List.Sums.{count_by-le-length}
use Rattle.std.proofs.lemmas.Option.{slice_get-map}
use Rattle.lwb_base.specs.declared.limits.TheConstants.{MOST_FRAMES}
use Rattle.lwb_base.proofs.Elements.{among_or_not}
use Rattle.lwb_base.proofs.Lists.{counted_alike, count_next}
use Rattle.scenario_text.specs.ScenarioParts.{ScenarioParts}
use Rattle.scenario_text.specs.ScenarioFacts.{IsSoundScenario}
use Rattle.scenario_text.specs.declared.lines.NodeLine.{NodeLine}
use Rattle.scenario_text.specs.declared.script.ScriptLine.{ScriptLine}
use Rattle.radio_model.specs.declared.sending.Sending.{Sending}
use Rattle.event_calendar.specs.Orders.{Due}
use Rattle.bus_rules.specs.Cores.{Setup}
use Rattle.bus_rules.specs.declared.delivery.DropLine.{DropLine}
use Rattle.air_log.specs.declared.entry.Entry.{Entry}
use Rattle.air_log.specs.Charges.{scans_with}
use Rattle.air_log.specs.Devices.{Device}
use Rattle.air_log.specs.DeviceStates.{DeviceState}
use Rattle.air_log.specs.Lawful.{heard_by}
use Rattle.air_log.specs.ScriptedDevices.{device_after_line}
use Rattle.scenario_text.specs.Setups.{setup_of}
use Rattle.air_log.specs.Trails.{Reception, frame_start, lines_at, device_after_script, before_tick, tune_of, tune_at}
use Rattle.air_log.proofs.HearingMore.{earlier_stays}
use Rattle.world_engine.specs.Counting.{TrailsStay, scans_before, all_scans_before, scans_now, AreCountedOn}
use Rattle.world_engine.specs.Fields.{FieldState}
use Rattle.world_engine.specs.FieldSteps.{Acts}
use Rattle.world_engine.specs.Frames.{told_before}
use Rattle.world_engine.specs.Moments.{InLines}
use Rattle.world_engine.specs.Running.{IsRunning}
use Rattle.world_engine.proofs.NextMoments.{starts_apart}
use Rattle.world_engine.proofs.OrdersOver.{each_place}
use Rattle.world_engine.proofs.TrailsAtEnds.{reception, IsHeardAt}
use Rattle.world_engine.proofs.TrailsGoOn.{heard_same}

module _ (s : ScenarioParts) (clocks : ℕ → ℕ → ℕ) where
  pub stay_same : (t : ℕ) (air : List Entry) → TrailsStay s clocks t air air
  stay_same t air p n at u less = refl

  pub stay_then : (t : ℕ) (a b c : List Entry) → TrailsStay s clocks t a b → TrailsStay s clocks t b c → TrailsStay s clocks t a c
  stay_then t a b c one two p n at u less = two p n at u less ∙ one p n at u less

  pub stay_until : (t v : ℕ) (a b : List Entry) → t ≤ v → TrailsStay s clocks v a b → TrailsStay s clocks t a b
  stay_until t v a b before stay p n at u less = stay p n at u (omega (arith, before, less))

  -- a step in which nobody receives anything
  pub acts_stay : (t k : ℕ) (change : Setup → Device → Device) (starting : List Sending) (lost : List DropLine) (old : FieldState) (old_due : List Due)
      (new : FieldState) (new_due : List Due) → Acts t k change starting lost old old_due new new_due
      → TrailsStay s clocks t old.air new.air
  acts_stay t k change starting lost old old_due new new_due acts p n at u less =
      ap (λ (hs : List Reception). before_tick s n.node (clocks n.node) hs u) (heard_same s clocks t k change starting lost old old_due new new_due acts n.node)

  -- what ends at a tick changes nothing before it
  pub end_stays : (t : ℕ) (x : Sending) (hearers : List ℕ) (old new : List Entry) → x.end ≡ t → IsHeardAt s x hearers old new → TrailsStay s clocks t old new
  end_stays t x hearers old new now heard p n at u less = by (among_or_not hearers p)
    where
      over : List Reception → Device
      over hs = before_tick s n.node (clocks n.node) hs u

      by : Contains hearers p ⊎ (Contains hearers p → ⊥) → over (heard_by new n.node) ≡ over (heard_by old n.node)
      by (inl hears) = ap over (heard.heard p n at hears)
          ∙ earlier_stays s n.node (clocks n.node) (heard_by old n.node) (reception x) u (omega (arith, now, less))
      by (inr deaf) = ap over (heard.unheard p n at deaf)

length_range : (a n : ℕ) → length (range_with_len a n) ≡ n
length_range a zero = refl
length_range a (suc n) = let rest = length_range (a + 1) n in omega (arith, rest)

-- lists that have the same at each place
same_maps : {X Y : Type 0} (f g : X → Y) (xs : List X) → ((p : ℕ) (x : X) → slice_get xs p ≡ Some x → f x ≡ g x) → map f xs ≡ map g xs
same_maps f g [] same = refl
same_maps f g (x ∷ xs) same = ap (λ (y : _). y ∷ map f xs) (same 0 x refl) ∙ ap (λ (ys : List _). g x ∷ ys) (same_maps f g xs (λ p z at. same (suc p) z at))

-- a test that only those pass that pass another one
filter_within : {X : Type 0} (p q : X → Bool) (xs : List X) → ((x : X) → p x ≡ true → q x ≡ true) → filter p (filter q xs) ≡ filter p xs
filter_within p q [] so = refl
filter_within {X} p q (x ∷ xs) so = by (filter_within p q xs so) (p x) (q x) refl refl
  where
    true_false : (let b : Bool = true in b ≡ false) → ⊥
    true_false is = cc

    by : filter p (filter q xs) ≡ filter p xs → (b c : Bool) → p x ≡ b → q x ≡ c → filter p (filter q (x ∷ xs)) ≡ filter p (x ∷ xs)
    by rest b true is_p is_q = ap (filter p) (cond-true (q x) (x ∷ filter q xs) (filter q xs) is_q) ∙ ap (λ (l : List X). if p x then x ∷ l else l) rest
    by rest true false is_p is_q = absurd (true_false (sym (so x is_p) ∙ is_q))
    by rest false false is_p is_q = ap (filter p) (cond-false (q x) (x ∷ filter q xs) (filter q xs) is_q) ∙ rest
        ∙ sym (cond-false (p x) (x ∷ filter p xs) (filter p xs) is_p)

module _ (s : ScenarioParts) (clocks : ℕ → ℕ → ℕ) where
  -- what is received later changes none of the frames so far
  pub scans_stay : (t f : ℕ) (old new : List Entry) → ((g : ℕ) → g < f → frame_start s g ≤ t) → TrailsStay s clocks t old new
      → all_scans_before s clocks old f ≡ all_scans_before s clocks new f
  scans_stay t f old new before stay = same_maps (scans_before s clocks old f) (scans_before s clocks new f) s.nodes one
    where
      one : (p : ℕ) (n : NodeLine) → slice_get s.nodes p ≡ Some n → scans_before s clocks old f n ≡ scans_before s clocks new f n
      one p n at = counted_alike _ _ f (λ g less.
          ap (λ (d : Device). scans_with (if nat_lt g s.frames then tune_of (device_after_script s n.node (clocks n.node) (frame_start s g) d).power else None))
          (sym (stay p n at (frame_start s g) (before g less))))

  pub none_scanned : (air : List Entry) → replicate (length s.nodes) 0 ≡ all_scans_before s clocks air 0
  none_scanned air = by s.nodes
    where
      by : (ns : List NodeLine) → replicate (length ns) 0 ≡ map (scans_before s clocks air 0) ns
      by [] = refl
      by (n ∷ ns) = ap (λ (l : List ℕ). 0 ∷ l) (by ns)

  -- they are few
  pub few_scans : (air : List Entry) (f : ℕ) → f ≤ MOST_FRAMES → All (λ n. n < 2 ^ 31) (all_scans_before s clocks air f)
  few_scans air f small = All-map (λ n. n < 2 ^ 31) (scans_before s clocks air f) s.nodes (λ k d less.
      let n = count_by-le-length
      (λ (g : ℕ). scans_with (tune_at s (Rattle.std.specs.Prelude.get_or s.nodes k d).node
      (clocks (Rattle.std.specs.Prelude.get_or s.nodes k d).node) (heard_by air (Rattle.std.specs.Prelude.get_or s.nodes k d).node) g))
      (range_with_len 0 f) in
      omega (arith, n, length_range 0 f, small))

  module _ (sound : IsSoundScenario s) (f : ℕ) (within : f < s.frames) (w : FieldState) (due : List Due)
      (run : IsRunning s clocks (told_before s (f + 1)) (frame_start s f) (InLines (told_before s (f + 1))) w due) where
    same_frame : (g : ℕ) → frame_start s g ≡ frame_start s f → g ≡ f
    same_frame g same = by (cases_order g f)
      where
        by : (g ≡ f) ⊎ ((g < f) ⊎ (f < g)) → g ≡ f
        by (inl is) = is
        by (inr (inl less)) = absurd (omega (arith, same, starts_apart s sound g f less))
        by (inr (inr more)) = absurd (omega (arith, same, starts_apart s sound f g more))

    -- the lines of a frame are among those that have been given when it is over
    own_lines : (v : ℕ) → filter (λ (l : ScriptLine). (l.node == v) && (frame_start s l.frame == frame_start s f))
        (told_before s (f + 1)) ≡ lines_at s v (frame_start s f)
    own_lines v = filter_within (λ (l : ScriptLine). (l.node == v) && (frame_start s l.frame == frame_start s f))
        (λ (l : ScriptLine). nat_lt l.frame (f + 1)) s.script (λ l is.
        lt-ltb l.frame (f + 1) (let same = same_frame l.frame
        (eqb-true (frame_start s l.frame) (frame_start s f) (second (l.node == v) (frame_start s l.frame == frame_start s f) is)) in omega (arith, same)))
      where
        second : (a b : Bool) → (a && b) ≡ true → b ≡ true
        second true b is = is
        second false b is = cc

    -- so at each place the tune is that with which the frame begins
    pub tune_here : (p : ℕ) (n : NodeLine) (d : DeviceState) → slice_get s.nodes p ≡ Some n → slice_get w.devices p ≡ Some d
        → tune_of d.power ≡ tune_at s n.node (clocks n.node) (heard_by w.air n.node) f
    tune_here p n d at there =
        let on = run.trails p n at in
        let v = n.node in
        let t = frame_start s f in
        let state : d ≡ on.shows.state = same d on.shows.state (sym there ∙ on.shows.there) in
        let power : d.power ≡ on.device.power = ap (λ (x : DeviceState). x.power) state ∙ ap (λ (x : Device). x.power) on.shows.shows.is in
        let lines = ap (λ (ls : List ScriptLine).
        (fold (device_after_line (clocks v) (setup_of s v) t) (before_tick s v (clocks v) (heard_by w.air v) t) ls).power) (own_lines v) in
        ap tune_of (power ∙ ap (λ (x : Device). x.power) on.at ∙ lines)
        ∙ sym (cond-true (nat_lt f s.frames)
        (tune_of (device_after_script s v (clocks v) t (before_tick s v (clocks v) (heard_by w.air v) t)).power) None (lt-ltb f s.frames within))
      where
        same : (x y : DeviceState) → (let o : Option DeviceState = Some x in o ≡ Some y) → x ≡ y
        same x y is = cc

    -- each place counted once more
    pub scanned_on : (old new : List ℕ) → old ≡ all_scans_before s clocks w.air f → AreCountedOn w.devices old new
        → new ≡ all_scans_before s clocks w.air (f + 1)
    scanned_on old new are counted = each_place (scans_before s clocks w.air (f + 1)) s.nodes new
        (counted.long ∙ ap length are ∙ length-map s.nodes (scans_before s clocks w.air f)) one
      where
        one : (p : ℕ) (n : NodeLine) → slice_get s.nodes p ≡ Some n → slice_get new p ≡ Some (scans_before s clocks w.air (f + 1) n)
        one p n at =
            let on = run.trails p n at in
            let so_far : slice_get old p ≡ Some (scans_before s clocks w.air f n) = ap (λ (l : List ℕ). slice_get l p) are
            ∙ slice_get-map (scans_before s clocks w.air f) s.nodes p ∙ ap (option_map (scans_before s clocks w.air f)) at in
            let as_one : Bool → ℕ = λ b. cond b 1 0 in
            let tests : ℕ → Bool = λ g. scans_with (tune_at s n.node (clocks n.node) (heard_by w.air n.node) g) in
            let more : scans_before s clocks w.air f n + scans_now on.shows.state ≡ scans_before s clocks w.air (f + 1) n =
            ap (λ (b : Bool). scans_before s clocks w.air f n + as_one b) (ap scans_with (tune_here p n on.shows.state at on.shows.there))
            ∙ sym (count_next tests f) in
            counted.each p on.shows.state (scans_before s clocks w.air f n) on.shows.there so_far ∙ ap (λ (k : ℕ). let o : Option ℕ = Some k in o) more
