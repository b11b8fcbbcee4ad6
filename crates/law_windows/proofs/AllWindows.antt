-- All windows of a node together.
use Rattle.std.proofs.Common.{◌≡◌, ℕ, ◌*◌, List, [], ◌∷◌, Bool, true, false, if◌then◌else◌, Some, None, Option, IfSome, is_some, Contains, cond}
use Rattle.std.proofs.Common.{count_by, sum_by, refl, sym, ap, arith, true≢false}
use Rattle.std.proofs.lemmas.List.Sums.{sum_by-cons}
use Rattle.tick_clock.specs.Clocks.{Near}
use Rattle.time_reference.specs.Budgets.{budget_of}
use Rattle.scenario_text.specs.FloodParts.{knows}
use Rattle.scenario_text.specs.ScenarioParts.{ScenarioParts}
use Rattle.air_log.specs.declared.entry.Entry.{Entry}
use Rattle.air_log.specs.Charges.{charge_of_window, charge_by_last, sent_packets}
use Rattle.air_log.specs.Lawful.{trail_in}
use Rattle.air_log.specs.Trails.{frame_start, run_end}
use Rattle.air_log.specs.WindowLogs.{WindowLog, Closing}
use Rattle.lwb_base.proofs.Elements.{contains_head, contains_tail}
use Rattle.law_trails.proofs.HeedfulLogs.{lawful_is_heedful}
use Rattle.law_safety.specs.Invariant.{IsObedientRun}
use Rattle.law_safety.proofs.RunFacts.{frame_is, frame_lasts}
use Rattle.bus_rules.specs.Charges.{last_if_all_sent}
use Rattle.law_windows.specs.OpenWindows.{AreClosed}
use Rattle.law_windows.proofs.ClosedByFrame.{closed_in_frames}
use Rattle.law_windows.specs.ChargeLaws.{on_in, on_until, WindowsTogether}
use Rattle.law_windows.specs.RadioTimes.{on_within}
use Rattle.law_windows.proofs.WindowsNearCharge.{near_charge_by_budget}

abbrev allowed : ℕ → Bool → ℕ
allowed e b = if b then e else 0

near_sum : (e : ℕ) (f g : WindowLog → ℕ) (ws : List WindowLog) → ((w : WindowLog) → Contains ws w → Near (f w) (g w) (allowed e w.by_alarm))
    → Near (sum_by f ws) (sum_by g ws) (e * count_by (λ (w : WindowLog). w.by_alarm) ws)
near_sum e f g [] each = record { below = omega arith; above = omega arith }
near_sum e f g (w ∷ ws) each =
    let first = sum_by-cons f w ws in
    let second = sum_by-cons g w ws in
    let count = ap (λ (n : ℕ). e * n) (sum_by-cons (λ (w : WindowLog). cond w.by_alarm 1 0) w ws) in
    let one = each w (contains_head w ws) in
    let rest = near_sum e f g ws (λ x there. each x (contains_tail w ws x there)) in
    let most = as_one w.by_alarm in
    omega (arith, first, second, count, one, rest, most)
  where
    as_one : (b : Bool) → allowed e b ≡ e * cond b 1 0
    as_one true = omega arith
    as_one false = omega arith

module _ (s : ScenarioParts) (air : List Entry) (v : ℕ) (w : WindowLog) (e : ℕ) where
  none_open : (b : Bool) → b ≡ false
      → Near (if b then on_until air v w w.closed else 0) (if b then charge_by_last s.profile (last_if_all_sent s.sends (sent_packets w)) else 0) (allowed e b)
  none_open true is = absurd (true≢false is)
  none_open false is = record { below = omega arith; above = omega arith }

  has_closed : (o : Option Closing) → is_some o ≡ true → IfSome o (λ c. Near (on_within air v w.opened c.tick) (charge_of_window s w) e)
      → Near (on_until air v w o) (charge_of_window s w) e
  has_closed None some near = absurd (true≢false (sym some))
  has_closed (Some c) some near = near

  each_window : is_some w.closed ≡ true → (w.by_alarm ≡ true → IfSome w.closed (λ c. Near (on_within air v w.opened c.tick) (charge_of_window s w) e))
      → Near (on_in air v w) (charge_of_window s w) (allowed e w.by_alarm)
  each_window some near = by_alarm w.by_alarm refl
    where
      by_alarm : (b : Bool) → w.by_alarm ≡ b → Near (on_in air v w) (charge_of_window s w) (allowed e w.by_alarm)
      by_alarm false is = none_open w.by_alarm is
      by_alarm true is =
          let time = has_closed w.closed some (near is) in
          let on : on_in air v w ≡ on_until air v w w.closed = ap (λ (b : Bool). if b then on_until air v w w.closed else 0) is in
          let most : allowed e w.by_alarm ≡ e = ap (allowed e) is in
          omega (arith, time, on, most)

-- each has closed when the run ends, as a frame would start then
closed_at_end : (s : ScenarioParts) (clocks : ℕ → ℕ → ℕ) (air : List Entry) → IsObedientRun s clocks air → (v : ℕ) → knows s.nodes v ≡ true
    → AreClosed (trail_in s clocks air v).made.windows
closed_at_end s clocks air run v known =
    let lasts = frame_lasts s run.driven.sound in
    closed_in_frames s clocks air run v known (run_end s) (omega arith)
    (ap (λ (f : ℕ). frame_start s f) (frame_is s s.frames (run_end s) (omega arith) (omega (arith, lasts))))

pub together : WindowsTogether
together s clocks air driven lawful v known =
    let run : IsObedientRun s clocks air = record { driven = driven; heedful = lawful_is_heedful s clocks air lawful } in
    near_sum (budget_of s.profile).zeros (on_in air v) (charge_of_window s) (trail_in s clocks air v).made.windows
    (λ w there. each_window s air v w (budget_of s.profile).zeros (closed_at_end s clocks air run v known w there)
    (near_charge_by_budget s clocks air driven lawful v known w there))
