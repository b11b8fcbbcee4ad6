-- A tick at which nothing is due changes nothing, and later receptions change nothing before.
use Rattle.std.proofs.Common.{◌≡◌, ℕ, zero, suc, ◌+◌, ◌<◌, ◌≤◌, List, [], ◌∷◌, Bool, true, false, cond, ◌-◌, ◌==◌, Some, None}
use Rattle.std.proofs.Common.{Option, refl, ap, ◌∙◌, sym, filter, arith, true≢false, ltb-true, lt-ltb, eqb-true}
use Rattle.radio_model.specs.declared.sending.Sending.{Sending}
use Rattle.scenario_text.specs.ScenarioParts.{ScenarioParts}
use Rattle.bus_rules.specs.Cores.{Setup}
use Rattle.air_log.specs.Devices.{Device, OrderedPacket, silenced}
use Rattle.scenario_text.specs.Setups.{setup_of}
use Rattle.air_log.specs.Trails.{Reception, ending_at, device_ended_by, begun_by, alarms, alarm_is_due, alarm_limit, before_start, device_after_start}
use Rattle.air_log.specs.Trails.{tick, before_tick, run_end, trail}
use Rattle.air_log.specs.QuietTicks.{IsQuiet, ends_at, ordered_starts_at, ends_before}

-- where nothing is due, a phase changes nothing
pub no_end : (clock : ℕ → ℕ) (s : Setup) (t : ℕ) (d : Device) (x : Option Sending) → ends_at t x ≡ false → device_ended_by clock s t d x ≡ d
no_end clock s t d None none = refl
no_end clock s t d (Some x) none = rw none refl

pub no_start : (s : Setup) (t : ℕ) (d : Device) (o : Option OrderedPacket) → ordered_starts_at t o ≡ false → begun_by s t d o ≡ d
no_start s t d None none = refl
no_start s t d (Some o) none = rw none refl

pub no_alarm : (clock : ℕ → ℕ) (s : Setup) (t more : ℕ) (d : Device) (b : Bool) → b ≡ false → alarms clock s t b more d ≡ d
unfolding alarms
no_alarm clock s t more d b none = rw none refl

pub quiet_tick : (s : ScenarioParts) (v : ℕ) (clock : ℕ → ℕ) (hs : List Reception) (t : ℕ) (d : Device) → IsQuiet s v hs t d → tick s v clock hs t d ≡ d
quiet_tick s v clock hs t d q =
    rw q.lines rw q.hearings
    (rw (no_end clock (setup_of s v) t d d.sending q.sending) rw (no_alarm clock (setup_of s v) t (alarm_limit clock t) d (alarm_is_due t d.alarm) q.alarm)
    (no_start (setup_of s v) t d d.ordered q.start))

module _ (s : ScenarioParts) (v : ℕ) (clock : ℕ → ℕ) where
  one_more : (hs : List Reception) (a t : ℕ) → before_tick s v clock hs t ≡ before_tick s v clock hs a → IsQuiet s v hs t (before_tick s v clock hs a)
      → before_tick s v clock hs (suc t) ≡ before_tick s v clock hs a
  unfolding before_tick
  one_more hs a t same q = ap (tick s v clock hs t) same ∙ quiet_tick s v clock hs t (before_tick s v clock hs a) q

  quiet_after : (hs : List Reception) (a n : ℕ) → ((t : ℕ) → a ≤ t → t < a + n → IsQuiet s v hs t (before_tick s v clock hs a))
      → before_tick s v clock hs (a + n) ≡ before_tick s v clock hs a
  quiet_after hs a zero quiet = ap (before_tick s v clock hs) (omega arith)
  quiet_after hs a (suc n) quiet =
      let same = quiet_after hs a n (λ t from below. quiet t from (omega (arith, below))) in
      ap (before_tick s v clock hs) (omega arith) ∙ one_more hs a (a + n) same (quiet (a + n) (omega arith) (omega arith))

  pub quiet_ticks : (hs : List Reception) (a b : ℕ) → a ≤ b → ((t : ℕ) → a ≤ t → t < b → IsQuiet s v hs t (before_tick s v clock hs a))
      → before_tick s v clock hs b ≡ before_tick s v clock hs a
  quiet_ticks hs a b ordered quiet =
      let is : a + (b - a) ≡ b = omega (arith, ordered) in
      ap (before_tick s v clock hs) (sym is) ∙ quiet_after hs a (b - a) (λ t from below. quiet t from (omega (arith, is, below)))

-- a filter after a filter that lets all through that it lets through itself
pub refined : {X : Type 0} (p q : X → Bool) → ((x : X) → p x ≡ true → q x ≡ true) → (xs : List X) → filter p (filter q xs) ≡ filter p xs
refined p q implies [] = refl
refined {X} p q implies (x ∷ xs) = by_test (q x) (p x) refl refl (refined p q implies xs)
  where
    by_test : (b c : Bool) → q x ≡ b → p x ≡ c → filter p (filter q xs) ≡ filter p xs
        → filter p (cond b (x ∷ filter q xs) (filter q xs)) ≡ cond c (x ∷ filter p xs) (filter p xs)
    by_test true true at_q at_p rest = rw at_p (ap (λ (l : List X). x ∷ l) rest)
    by_test true false at_q at_p rest = rw at_p rest
    by_test false true at_q at_p rest = absurd (true≢false (sym (implies x at_p) ∙ at_q))
    by_test false false at_q at_p rest = rest

ends_earlier : (t : ℕ) (h : Reception) → ends_before t h ≡ true → ends_before (suc t) h ≡ true
ends_earlier t h at = lt-ltb h.end (suc t) (omega (arith, ltb-true h.end t at))

ends_now : (t : ℕ) (h : Reception) → (h.end == t) ≡ true → ends_before (suc t) h ≡ true
ends_now t h at = lt-ltb h.end (suc t) (omega (arith, eqb-true h.end t at))

-- receptions that are the same before a tick are the same before each earlier one, and at the tick before
module _ (gs hs : List Reception) (t : ℕ) (same : filter (ends_before (suc t)) gs ≡ filter (ends_before (suc t)) hs) where
  same_earlier : filter (ends_before t) gs ≡ filter (ends_before t) hs
  same_earlier =
      sym (refined (ends_before t) (ends_before (suc t)) (ends_earlier t) gs)
      ∙ ap (filter (ends_before t)) same
      ∙ refined (ends_before t) (ends_before (suc t)) (ends_earlier t) hs

  same_now : ending_at t gs ≡ ending_at t hs
  same_now =
      sym (refined (λ h. h.end == t) (ends_before (suc t)) (ends_now t) gs)
      ∙ ap (filter (λ h. h.end == t)) same
      ∙ refined (λ h. h.end == t) (ends_before (suc t)) (ends_now t) hs

module _ (s : ScenarioParts) (v : ℕ) (clock : ℕ → ℕ) where
  pub same_start : (gs hs : List Reception) (t : ℕ) (d : Device) → ending_at t gs ≡ ending_at t hs
      → before_start s v clock gs t d ≡ before_start s v clock hs t d
  same_start gs hs t d now = rw now refl

  pub same_tick : (gs hs : List Reception) (t : ℕ) (d : Device) → ending_at t gs ≡ ending_at t hs → tick s v clock gs t d ≡ tick s v clock hs t d
  same_tick gs hs t d now = ap (device_after_start (setup_of s v) t) (same_start gs hs t d now)

  pub prefix : (gs hs : List Reception) (t : ℕ) → filter (ends_before t) gs ≡ filter (ends_before t) hs
      → before_tick s v clock gs t ≡ before_tick s v clock hs t
  unfolding before_tick
  prefix gs hs zero same = refl
  prefix gs hs (suc t) same =
      ap (tick s v clock gs t) (prefix gs hs t (same_earlier gs hs t same))
      ∙ same_tick gs hs t (before_tick s v clock hs t) (same_now gs hs t same)

  -- within a tick
  pub prefix_in : (gs hs : List Reception) (t : ℕ) → filter (ends_before (suc t)) gs ≡ filter (ends_before (suc t)) hs
      → before_start s v clock gs t (before_tick s v clock gs t) ≡ before_start s v clock hs t (before_tick s v clock hs t)
  prefix_in gs hs t same =
      ap (before_start s v clock gs t) (prefix gs hs t (same_earlier gs hs t same))
      ∙ same_start gs hs t (before_tick s v clock hs t) (same_now gs hs t same)

  pub prefix_run : (gs hs : List Reception) → filter (ends_before (run_end s)) gs ≡ filter (ends_before (run_end s)) hs
      → trail s v clock gs ≡ trail s v clock hs
  prefix_run gs hs same = ap (silenced v (run_end s)) (prefix gs hs (run_end s) same)
