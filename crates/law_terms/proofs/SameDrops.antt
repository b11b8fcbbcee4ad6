-- Where the states at frame starts are the bus's, the drops are.
use Rattle.std.proofs.Common.{◌≡◌, ℕ, suc, ◌*◌, ◌/◌, ◌<◌, List, [], ◌∷◌, ◌++◌, Bool, ◌==◌, ◌&&◌, Option, inl, inr, refl, ap, sym, ◌∙◌, filter, arith}
use Rattle.std.proofs.Common.{option_to_list, All}
use Rattle.std.proofs.Math.Nat.{mul-div_cancel}
use Rattle.std.proofs.lemmas.Bool.{cases_eq, eq-eqb, ne_eqb}
use Rattle.scenario_text.specs.ScenarioParts.{ScenarioParts}
use Rattle.scenario_text.specs.declared.script.ScriptLine.{ScriptLine}
use Rattle.bus_rules.specs.declared.delivery.DropLine.{DropLine}
use Rattle.air_log.specs.declared.entry.Entry.{Entry}
use Rattle.air_log.specs.Devices.{Device}
use Rattle.scenario_text.specs.Setups.{setup_of}
use Rattle.air_log.specs.Trails.{frame_start, before_tick, lines_at, device_after_script}
use Rattle.air_log.specs.Lawful.{heard_by}
use Rattle.air_log.specs.Drops as AirDrops
use Rattle.bus_rules.specs.States.{State}
use Rattle.bus_terms.specs.ScriptedStates as Bus
use Rattle.bus_terms.specs.Bus as Frames
use Rattle.air_log.proofs.DropsBelow.{trail_drops_below, drops_by_place as trail_drops_by_place}
use Rattle.bus_terms.proofs.DropsBelow.{drops_below, drops_by_place}
use Rattle.air_log.specs.Devices.{state_of_power}
use Rattle.law_terms.proofs.ScriptedCores.{lines_same, drop_same}

-- equal frames have equal first ticks, and others do not
same_frames : (n a b : ℕ) → 0 < n → (a * n == b * n) ≡ (a == b)
same_frames n a b some = elim (cases_eq a b) [
  | inl is ↦ eq-eqb (a * n) (b * n) (ap (λ x. x * n) is) ∙ sym (eq-eqb a b is)
  | inr other ↦ ne_eqb (a * n) (b * n) (λ e. other (cancel e)) ∙ sym (ne_eqb a b other)
]
  where
    cancel : a * n ≡ b * n → a ≡ b
    cancel e = sym (mul-div_cancel a some) ∙ ap (λ x. x / n) e ∙ mul-div_cancel b some

both_tests : (a b c : Bool) → b ≡ c → (a && b) ≡ (a && c)
both_tests a b c is = ap (λ x. a && x) is

same_filter : {X : Type 0} (f g : X → Bool) → ((x : X) → f x ≡ g x) → (xs : List X) → filter f xs ≡ filter g xs
same_filter f g same [] = refl
same_filter f g same (x ∷ xs) = rw (same x, same_filter f g same xs) refl

same_lines : (s : ScenarioParts) (f v : ℕ) → 0 < s.profile.frame → lines_at s v (frame_start s f) ≡ Bus.lines_of s f v
same_lines s f v some = same_filter _ _ (λ (l : ScriptLine). both_tests (l.node == v) _ _ (same_frames s.profile.frame l.frame f some)) s.script

same_told : (s : ScenarioParts) (above : List ScriptLine) (l : ScriptLine) → 0 < s.profile.frame → AirDrops.told_at_tick s above l ≡ Bus.told_above above l
same_told s above l some = same_filter _ _ (λ (m : ScriptLine). both_tests (m.node == l.node) _ _ (same_frames s.profile.frame m.frame l.frame some)) above

-- the first phase of a frame
pub script_same : (s : ScenarioParts) (v f : ℕ) (clock : ℕ → ℕ) (d : Device) (states : ℕ → State) → 0 < s.profile.frame
    → state_of_power d.power ≡ states v → state_of_power (device_after_script s v clock (frame_start s f) d).power ≡ Bus.states_after_script s f states v
script_same s v f clock d states some is = rw (same_lines s f v some) (lines_same clock (setup_of s v) (frame_start s f) d (states v) (Bus.lines_of s f v) is)

module _ (s : ScenarioParts) (clocks : ℕ → ℕ → ℕ) (air : List Entry) (some : 0 < s.profile.frame) where
  abbrev pub IsStart : ScriptLine → Type 0
  IsStart l = state_of_power (before_tick s l.node (clocks l.node) (heard_by air l.node) (frame_start s l.frame)).power ≡ Frames.before_frame s l.frame l.node

  before_same : (above : List ScriptLine) (l : ScriptLine) → IsStart l
      → state_of_power (AirDrops.device_before_line s clocks air above l).power ≡ Frames.state_before_line s above l
  before_same above l start =
      rw (same_told s above l some)
      (lines_same (clocks l.node) (setup_of s l.node) (frame_start s l.frame) _ _ (Bus.told_above above l) start)

  drops_same : (above ls : List ScriptLine) → All IsStart ls → trail_drops_below s clocks air above ls ≡ drops_below s above ls
  drops_same above [] starts = refl
  drops_same above (l ∷ ls) starts =
      let start : IsStart l = starts 0 l (omega arith) in
      let later : All IsStart ls = λ k d below. starts (suc k) d (omega arith) in
      let one = drop_same l l.act (AirDrops.device_before_line s clocks air above l).power ∙ ap (Bus.lost_by l l.act) (before_same above l start) in
      ap (λ (x : Option DropLine). option_to_list x ++ trail_drops_below s clocks air (above ++ l ∷ []) ls) one
      ∙ ap (λ xs. option_to_list (Bus.lost_by l l.act (Frames.state_before_line s above l)) ++ xs) (drops_same (above ++ l ∷ []) ls later)

  pub all_drops_same : All IsStart s.script → AirDrops.drops_of s clocks air ≡ Frames.bus_drops s
  all_drops_same starts = trail_drops_by_place s clocks air ∙ drops_same [] s.script starts ∙ sym (drops_by_place s)
