-- What a window costs, and what it is charged.
use Rattle.std.specs.Prelude.{◌≡◌, ℕ, ◌*◌, List, true, Some, None, if◌then◌else◌, count_by, sum_by}
use Rattle.std.specs.declared.option.Option.{Option}
use Rattle.std.specs.Option.{IfSome}
use Rattle.tick_clock.specs.Clocks.{Near}
use Rattle.time_reference.specs.Budgets.{budget_of}
use Rattle.scenario_text.specs.FloodParts.{knows}
use Rattle.scenario_text.specs.ScenarioParts.{ScenarioParts}
use Rattle.air_log.specs.declared.entry.Entry.{Entry}
use Rattle.air_log.specs.Charges.{charge_of_window}
use Rattle.air_log.specs.Lawful.{Lawful, trail_in}
use Rattle.air_log.specs.Trails.{run_end}
use Rattle.air_log.specs.WindowLogs.{WindowLog, Closing}
use Rattle.air_log.specs.Energies.{energy_of}
use Rattle.law_safety.specs.Invariant.{IsDrivenWell}
use Rattle.law_windows.specs.WindowLaws.{OfLawfulWindows}
use Rattle.law_windows.specs.RadioTimes.{on_within}

-- from its opening by its alarm to its closing the radio of v was on for its charge, but for this many ticks
abbrev pub IsNearCharge : ℕ → ScenarioParts → List Entry → ℕ → WindowLog → Type 0
IsNearCharge bound s air v w =
    w.by_alarm ≡ true → IfSome w.closed (λ c. Near (on_within air v w.opened c.tick) (charge_of_window s w) bound)

-- in each window
abbrev pub WindowsCostTheirCharge : Type 0
WindowsCostTheirCharge = OfLawfulWindows (λ s clocks air v w. IsNearCharge 64000 s air v w)

-- and no more ticks than two zeros of one round may differ by
abbrev pub WindowsCostByBudget : Type 0
WindowsCostByBudget = OfLawfulWindows (λ s clocks air v w. IsNearCharge ((budget_of s.profile).zeros) s air v w)

-- for so long the radio of v was on in a window, if it opened by its alarm and has closed
abbrev pub on_until : List Entry → ℕ → WindowLog → Option Closing → ℕ
on_until air v w None = 0
on_until air v w (Some c) = on_within air v w.opened c.tick

abbrev pub on_in : List Entry → ℕ → WindowLog → ℕ
on_in air v w = if w.by_alarm then on_until air v w w.closed else 0

-- so all windows of v together cost what its account says of them, but for this many ticks each
abbrev pub WindowsTogether : Type 0
WindowsTogether =
    (s : ScenarioParts) (clocks : ℕ → ℕ → ℕ) (air : List Entry) → IsDrivenWell s clocks → Lawful s clocks air
    → (v : ℕ) → knows s.nodes v ≡ true
    → (let windows = (trail_in s clocks air v).made.windows in
    Near (sum_by (on_in air v) windows) (energy_of s clocks air v).windows ((budget_of s.profile).zeros * count_by (λ w. w.by_alarm) windows))

-- over the whole run the radio of v was on as long as its account says
abbrev pub OnIsTimeInRun : Type 0
OnIsTimeInRun =
    (s : ScenarioParts) (clocks : ℕ → ℕ → ℕ) (air : List Entry) → Lawful s clocks air → (v : ℕ) → knows s.nodes v ≡ true
    → on_within air v 0 (run_end s) ≡ (energy_of s clocks air v).on
