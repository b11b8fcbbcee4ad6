-- What a node says in its windows.
use Rattle.std.specs.Prelude.{◌≡◌, ℕ, true}
use Rattle.std.specs.Option.{IfSome}
use Rattle.lwb_member.specs.Said.{MaySay}
use Rattle.scenario_text.specs.ScenarioParts.{ScenarioParts}
use Rattle.air_log.specs.WindowLogs.{WindowLog}
use Rattle.scenario_text.specs.Setups.{setup_of}
use Rattle.law_windows.specs.WindowFloods.{initial_message}
use Rattle.law_windows.specs.WindowLaws.{OfAllWindows}

-- what v says in a window that opened by its alarm may be said in its slot
abbrev pub SaysInRange : ScenarioParts → ℕ → WindowLog → Type 0
SaysInRange s v w = w.by_alarm ≡ true → IfSome (initial_message (setup_of s v) w) (MaySay w.slot)

abbrev pub SayableLaw : Type 0
SayableLaw = OfAllWindows (λ s clocks air v w. SaysInRange s v w)
