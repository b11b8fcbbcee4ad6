-- The power of a node goes by the script; and a node that boots in a frame scans for rank 0 after its script lines.
use Rattle.std.proofs.Common.{◌≡◌, ◌<◌, ◌≤◌, ◌+◌, ℕ, zero, suc, List, [], ◌∷◌, Bool, true, false, Some, fold, refl, sym, ◌∙◌, ap, subst, arith}
use Rattle.bus_terms.proofs.PowerKept.{act_power, ended_power, rounds_power}
use Rattle.law_times.proofs.Words.{false≢true, list_any, ScenarioParts, turned_by, ScriptLine, Act, On, Off, Declare, Leave, Put, Scan, no_plan, State}
use Rattle.law_times.proofs.Words.{state_after_act, acts_keep, before_frame, state_at, rounds, lines_of, power, state_after_line, states_after_script}
use Rattle.law_times.proofs.Words.{power_before, power_in, power_after_line, is_on_in, turns_on, BootsIn, StaysOff, or_parts}
use Rattle.law_times.proofs.QuietFrames.{Goes, none_in_frame}
use Rattle.law_times.proofs.Settings.{setting, idle}

lines_power : (ls : List ScriptLine) (x : State) → power (fold state_after_line x ls) ≡ fold power_after_line (power x) ls
lines_power [] x = refl
lines_power (l ∷ ls) x =
    lines_power ls (state_after_line x l) ∙ ap (λ (t : Bool × ℕ). fold power_after_line t ls) (act_power l.act x)

module _ (s : ScenarioParts) where
  before_power : (f v : ℕ) → power (before_frame s f v) ≡ power_before s f v
  unfolding before_frame power_before
  before_power zero v = refl
  before_power (suc f) v =
      ended_power s f v (rounds s f (states_after_script s f (before_frame s f)))
      ∙ rounds_power s f (states_after_script s f (before_frame s f)) v
      ∙ lines_power (lines_of s f v) (before_frame s f v)
      ∙ ap (λ (t : Bool × ℕ). fold power_after_line t (lines_of s f v)) (before_power f v)

  pub power_is : (f v : ℕ) → power (state_at s f v) ≡ power_in s f v
  unfolding power_before
  power_is f v = lines_power (lines_of s f v) (before_frame s f v) ∙ ap (λ (t : Bool × ℕ). fold power_after_line t (lines_of s f v)) (before_power f v)

-- after lines by which a node has booted it is as a boot leaves it, but for its streams
record Begun (boots : ℕ) (x : State) : Type 0 where
  more : boots ≤ (power x).1
  begun : boots < (power x).1 → (power x).0 ≡ true → setting x ≡ Some (idle (Scan 0 0) no_plan)

begins : (boots : ℕ) (a : Act) (x : State) → Begun boots x → Begun boots (state_after_act a x)
begins boots =
    acts_keep (Begun boots)
    (λ n is. record { more = (let few = is.more in omega (arith, few)); begun = λ anew on. refl })
    (λ c is. record { more = is.more; begun = λ anew on. absurd (false≢true on) })
    (λ a c is. record { more = is.more; begun = λ anew on. is.begun anew on })

lines_begin : (boots : ℕ) (ls : List ScriptLine) (x : State) → Begun boots x → Begun boots (fold state_after_line x ls)
lines_begin boots [] x is = is
lines_begin boots (l ∷ ls) x is = lines_begin boots ls (state_after_line x l) (begins boots l.act x is)

pub boots_scanning : (s : ScenarioParts) (b v : ℕ) → BootsIn s b v → Goes s b v (Scan 0 0) no_plan
boots_scanning s b v boots =
    let x = before_frame s b v in
    let first : Begun (power x).1 x = record { more = omega arith; begun = λ anew on. absurd (omega (arith, anew)) } in
    let last : Begun (power x).1 (state_at s b v) = lines_begin (power x).1 (lines_of s b v) x first in
    let was : (power x).1 ≡ (power_before s b v).1 = ap (λ (t : Bool × ℕ). t.1) (before_power s b v) in
    let now : (power (state_at s b v)).1 ≡ (power_in s b v).1 = ap (λ (t : Bool × ℕ). t.1) (power_is s b v) in
    let more = boots.boots in
    last.begun (omega (arith, was, now, more)) (ap (λ (t : Bool × ℕ). t.0) (power_is s b v) ∙ boots.on)

-- a node that is off and gets no on line stays off
stays : (ls : List ScriptLine) (t : Bool × ℕ) → list_any (λ l. turns_on l.act) ls ≡ false → t.0 ≡ false → (fold power_after_line t ls).0 ≡ false
stays [] t none is = is
stays (l ∷ ls) t none is =
    let both = or_parts (turns_on l.act) (list_any (λ l. turns_on l.act) ls) none in
    stays ls (power_after_line t l) both.1 (one l.act t both.0 is)
  where
    one : (a : Act) (t : Bool × ℕ) → turns_on a ≡ false → t.0 ≡ false → (turned_by a t).0 ≡ false
    one On t not_on is = absurd (false≢true (sym not_on))
    one Off t not_on is = refl
    one (Declare i interval) t not_on is = is
    one (Leave i) t not_on is = is
    one (Put i payload) t not_on is = is

pub off_throughout : (s : ScenarioParts) (b e v : ℕ) → StaysOff s b e v → (n : ℕ) → n + b ≤ e → is_on_in s (n + b) v ≡ false
unfolding power_before
off_throughout s b e v off zero within = subst (λ (f : ℕ). is_on_in s f v ≡ false) (omega arith) off.off
off_throughout s b e v off (suc n) within =
    let before = off_throughout s b e v off n (omega (arith, within)) in
    let next : suc n + b ≡ suc (n + b) = omega arith in
    subst (λ (f : ℕ). is_on_in s f v ≡ false) (sym next)
    (stays (lines_of s (suc (n + b)) v) (power_in s (n + b) v)
    (none_in_frame turns_on s b e v (suc (n + b)) off.stays (omega arith) (omega (arith, within))) before)
