-- What a stream of a node requests is given by the script alone.
use Rattle.std.proofs.Common.{◌≡◌, ℕ, zero, suc, ◌*◌, ◌≤◌, List, [], ◌∷◌, Bool, true, false, ◌&&◌, ◌||◌, ◌==◌, nat_lt, nat_le, if◌then◌else◌}
use Rattle.std.proofs.Common.{fold, filter, refl, sym, ◌∙◌, ap, subst, arith, inl, inr, Contains, lt-ltb}
use Rattle.std.specs.List.{AllByRecursion}
use Rattle.std.proofs.lemmas.Bool.{cond_both, cases_lt, cases_order, le-ltb, le-leb, lt-leb, eq-eqb, ne_eqb}
use Rattle.std.proofs.lemmas.List.Elements.{All-contains, recursion_from_All}
use Rattle.std.proofs.Math.Nat.{mul-le-mul_right}
use Rattle.lwb_base.specs.Profile.{Numbers}
use Rattle.scenario_text.specs.ScenarioFacts.{IsSoundScenario, IsScriptLine}
use Rattle.bus_rules.specs.States.{IsAct}
use Rattle.scenario_text.specs.ScenarioParts.{ScenarioParts}
use Rattle.scenario_text.specs.FloodDrafts.{Climbs}
use Rattle.bus_rules.specs.declared.act.Act.{Act}
use Rattle.bus_rules.specs.declared.act.Act.TheVariants.{On, Off, Declare, Leave, Put}
use Rattle.scenario_text.specs.declared.script.ScriptLine.{ScriptLine}
use Rattle.scenario_text.proofs.EachPair.{pairs_climb}
use Rattle.air_log.specs.Devices.{Device, Power, PowerOff, PowerOn}
use Rattle.scenario_text.specs.Setups.{setup_of}
use Rattle.air_log.specs.Trails.{Reception, frame_start, lines_at, device_after_script, ending_at, device_after_receptions, alarm_is_due, alarm_limit}
use Rattle.air_log.specs.Trails.{before_alarms, before_start, before_tick, at_frame}
use Rattle.lwb_base.proofs.Elements.{filtered}
use Rattle.law_safety.proofs.RunFacts.{frame_lasts}
use Rattle.host_return.specs.Restarts.{wish_of}
use Rattle.host_return.specs.Wishes.{told_by, told_line, told}
use Rattle.host_return.proofs.WishesInTick.{seen_wish, IsTold, hearings_told, end_told, alarms_told, begun_told, lines_told}
use Rattle.host_return.proofs.WishesKept.{same}

-- the lines of a tick are given after those before it
module _ (s : ScenarioParts) (v i : ℕ) where
  abbrev before_line : ℕ → Bool × ℕ → ScriptLine → Bool × ℕ
  before_line t w l = if nat_lt (frame_start s l.frame) t && (l.node == v) then told_by i l.act w else w

  abbrev at_tick : ℕ → ScriptLine → Bool
  at_tick t l = (l.node == v) && (frame_start s l.frame == t)

  abbrev tells : Bool × ℕ → ScriptLine → Bool × ℕ
  tells w l = told_by i l.act w

  -- none is before the tick
  still : (t : ℕ) (ls : List ScriptLine) (w : Bool × ℕ) → AllByRecursion (λ l. t ≤ frame_start s l.frame) ls → fold (before_line t) w ls ≡ w
  still t [] w late = refl
  still t (l ∷ ls) w late = rw (le-ltb (frame_start s l.frame) t late.0) (still t ls w late.1)

  later_too : (t f : ℕ) (ls : List ScriptLine) → t ≤ frame_start s f → AllByRecursion (λ l. f ≤ l.frame) ls → AllByRecursion (λ l. t ≤ frame_start s l.frame) ls
  later_too t f [] from all = tt
  later_too t f (l ∷ ls) from all =
      let up : frame_start s f ≤ frame_start s l.frame = mul-le-mul_right s.profile.frame all.0 in
      (omega (arith, from, up), later_too t f ls from all.1)

  abbrev Splits : ℕ → List ScriptLine → (Bool × ℕ) → Type 0
  Splits t ls w = fold (before_line (suc t)) w ls ≡ fold tells (fold (before_line t) w ls) (filter (at_tick t) ls)

  by_tests : (t : ℕ) (l : ScriptLine) (ls : List ScriptLine) (w : Bool × ℕ) (a e own : Bool) → nat_lt (frame_start s l.frame) t ≡ a
      → nat_lt (frame_start s l.frame) (suc t) ≡ (a || e) → (frame_start s l.frame == t) ≡ e → (l.node == v) ≡ own → (a && e) ≡ false
      → (e ≡ true → (u : Bool × ℕ) → fold (before_line t) u ls ≡ u) → ((u : Bool × ℕ) → Splits t ls u) → Splits t (l ∷ ls) w
  by_tests t l ls w true true own is next at mine apart quiet rest = absurd (cc)
  by_tests t l ls w true false true is next at mine apart quiet rest = rw (is, next, at, mine) (rest (tells w l))
  by_tests t l ls w true false false is next at mine apart quiet rest = rw (is, next, at, mine) (rest w)
  by_tests t l ls w false true true is next at mine apart quiet rest =
      rw (is, next, at, mine)
      (rest (tells w l)
      ∙ ap (λ (u : Bool × ℕ). fold tells u (filter (at_tick t) ls)) (quiet refl (tells w l))
      ∙ ap (λ (u : Bool × ℕ). fold tells (tells u l) (filter (at_tick t) ls)) (sym (quiet refl w)))
  by_tests t l ls w false true false is next at mine apart quiet rest = rw (is, next, at, mine) (rest w)
  by_tests t l ls w false false true is next at mine apart quiet rest = rw (is, next, at, mine) (rest w)
  by_tests t l ls w false false false is next at mine apart quiet rest = rw (is, next, at, mine) (rest w)

  splits : (t : ℕ) (ls : List ScriptLine) → Climbs (λ a b. a.frame ≤ b.frame) ls → (w : Bool × ℕ) → Splits t ls w
  splits t [] up w = refl
  splits t (l ∷ ls) up w =
      let k : ℕ = frame_start s l.frame in
      let rest = splits t ls up.1 in
      elim (cases_order k t) [
        | inl same ↦ by_tests t l ls w false true (l.node == v) (le-ltb k t (omega (arith, same))) (lt-ltb k (suc t) (omega (arith, same)))
            (eq-eqb k t same) refl refl (λ is u. still t ls u (later_too t l.frame ls (omega (arith, same)) up.0)) rest
        | inr (inl less) ↦ by_tests t l ls w true false (l.node == v) (lt-ltb k t less) (lt-ltb k (suc t) (omega (arith, less)))
            (ne_eqb k t (λ same. omega (arith, less, same))) refl refl (λ is u. absurd (cc)) rest
        | inr (inr more) ↦ by_tests t l ls w false false (l.node == v) (le-ltb k t (omega (arith, more))) (le-ltb k (suc t) (omega (arith, more)))
            (ne_eqb k t (λ same. omega (arith, more, same))) refl refl (λ is u. absurd (cc)) rest
      ]

-- so it goes from tick to tick
module _ (s : ScenarioParts) (sound : IsSoundScenario s) (v i : ℕ) (clock : ℕ → ℕ) (hs : List Reception) where
  abbrev so_far : ℕ → (Bool × ℕ)
  so_far t = fold (before_line s v i t) (false, 0) s.script

  acts : (t : ℕ) (l : ScriptLine) → Contains (lines_at s v t) l → IsAct s.profile l.act
  acts t l there =
      (All-contains (IsScriptLine s) s.script l sound.script
      (filtered (λ (m : ScriptLine). (m.node == v) && (frame_start s m.frame == t)) s.script l there).0).act

  scripted_told : (t : ℕ) (d : Device) → IsTold i (so_far t) d.power → IsTold i (so_far (suc t)) (device_after_script s v clock t d).power
  scripted_told t d was =
      subst (λ (w : Bool × ℕ). IsTold i w (device_after_script s v clock t d).power)
      (sym (splits s v i t s.script (pairs_climb (λ a b. a.frame ≤ b.frame) s.script sound.script_ascends) (false, 0)))
      (lines_told i clock (setup_of s v) t (so_far t) s.profile (lines_at s v t) d (acts t) was)

  tick_told : (t : ℕ) → IsTold i (so_far t) (before_tick s v clock hs t).power
  unfolding before_tick
  tick_told zero = record { four = tt; is = sym (still s v i 0 s.script (false, 0) (all_late s.script)) }
    where
      all_late : (ls : List ScriptLine) → AllByRecursion (λ l. 0 ≤ frame_start s l.frame) ls
      all_late [] = tt
      all_late (l ∷ ls) = (omega arith, all_late ls)
  tick_told (suc t) =
      let d = before_tick s v clock hs t in
      let x = setup_of s v in
      let w = so_far (suc t) in
      let d1 = device_after_script s v clock t d in
      let d2 = device_after_receptions clock x t hs d1 in
      let d3 = before_alarms s v clock hs t d in
      let d4 = before_start s v clock hs t d in
      begun_told i clock x t w d4 d4.ordered
      (alarms_told i clock x t w (alarm_is_due t d3.alarm) (alarm_limit clock t) d3
      (end_told i clock x t w d2 d2.sending
      (hearings_told i clock x t w (ending_at t hs) d1 (scripted_told t d (tick_told t)))))

  told_in_frame : (f : ℕ) → IsTold i (so_far (suc (frame_start s f))) (at_frame s v clock hs f).power
  told_in_frame f = scripted_told (frame_start s f) (before_tick s v clock hs (frame_start s f)) (tick_told (frame_start s f))

  by_power : (w : Bool × ℕ) (p : Power) → seen_wish i p ≡ w → wish_of i p ≡ w.1
  by_power w (PowerOff boots) is = ap (λ (u : Bool × ℕ). u.1) is
  by_power w (PowerOn n) is = ap (λ (u : Bool × ℕ). u.1) is

  -- a line of frame f at most is one before the tick after the start of frame f
  same_test : (f : ℕ) (l : ScriptLine) → nat_lt (frame_start s l.frame) (suc (frame_start s f)) ≡ nat_le l.frame f
  same_test f l =
      let some = frame_lasts s sound in
      elim (cases_lt f l.frame) [
        | inl past ↦
            let up : suc f * s.profile.frame ≤ l.frame * s.profile.frame = mul-le-mul_right s.profile.frame past in
            le-ltb (frame_start s l.frame) (suc (frame_start s f)) (omega (arith, up, some)) ∙ sym (lt-leb l.frame f past)
        | inr within ↦
            let up : l.frame * s.profile.frame ≤ f * s.profile.frame = mul-le-mul_right s.profile.frame within in
            lt-ltb (frame_start s l.frame) (suc (frame_start s f)) (omega (arith, up)) ∙ sym (le-leb l.frame f within)
      ]

  same_lines : (f : ℕ) (ls : List ScriptLine) (w : Bool × ℕ) → fold (before_line s v i (suc (frame_start s f))) w ls ≡ fold (told_line f v i) w ls
  same_lines f [] w = refl
  same_lines f (l ∷ ls) w =
      ap (λ (b : Bool). fold (before_line s v i (suc (frame_start s f))) (if b && (l.node == v) then told_by i l.act w else w) ls) (same_test f l)
      ∙ same_lines f ls (told_line f v i w l)

  pub wish_told : (f : ℕ) → wish_of i (at_frame s v clock hs f).power ≡ (told f v i s.script).1
  wish_told f =
      by_power (so_far (suc (frame_start s f))) (at_frame s v clock hs f).power (told_in_frame f).is
      ∙ ap (λ (w : Bool × ℕ). w.1) (same_lines f s.script (false, 0))

-- no requested interval is longer than an interval may be
few_by : (p : Numbers) (i : ℕ) (a : Act) (w : Bool × ℕ) → IsAct p a → w.1 ≤ 120 → (told_by i a w).1 ≤ 120
few_by p i On w range few = few
few_by p i Off w range few = omega arith
few_by p i (Declare j interval) w range few =
    cond_both w.0 (if j == i then interval else w.1) w.1 (λ (k : ℕ). k ≤ 120)
    (λ on. cond_both (j == i) interval w.1 (λ (k : ℕ). k ≤ 120) (λ is. range.2) (λ is. few)) (λ off. few)
few_by p i (Leave j) w range few =
    cond_both w.0 (if j == i then 0 else w.1) w.1 (λ (k : ℕ). k ≤ 120)
    (λ on. cond_both (j == i) 0 w.1 (λ (k : ℕ). k ≤ 120) (λ is. omega arith) (λ is. few)) (λ off. few)
few_by p i (Put j payload) w range few = cond_both w.0 w.1 w.1 (λ (k : ℕ). k ≤ 120) (λ on. few) (λ off. few)

few_told : (s : ScenarioParts) (f v i : ℕ) (ls : List ScriptLine) (w : Bool × ℕ) → AllByRecursion (IsScriptLine s) ls → w.1 ≤ 120
    → (fold (told_line f v i) w ls).1 ≤ 120
few_told s f v i [] w all few = few
few_told s f v i (l ∷ ls) w all few =
    few_told s f v i ls (told_line f v i w l) all.1
    (cond_both (nat_le l.frame f && (l.node == v)) (told_by i l.act w) w (λ (u : Bool × ℕ). u.1 ≤ 120)
    (λ is. few_by s.profile i l.act w all.0.act few) (λ is. few))

pub few_wished : (s : ScenarioParts) (f v i : ℕ) → IsSoundScenario s → (told f v i s.script).1 ≤ 120
few_wished s f v i sound = few_told s f v i s.script (false, 0) (recursion_from_All (IsScriptLine s) s.script sound.script) (omega arith)
