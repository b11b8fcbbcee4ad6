-- The numbers of a profile's error budget, and when they fit together.
use Rattle.std.specs.Prelude.{ℕ, ◌+◌, ◌*◌, ◌/◌, ◌^◌, ◌<◌, ◌≤◌, if◌then◌else◌, ◌==◌}
use Rattle.lwb_base.specs.Profile.{Numbers, airtime, is_one, step}
use Rattle.lwb_base.specs.declared.limits.TheConstants.{DRIFT_BOUND, DRIFT_PERIOD, FLOOD_STEPS, GREATEST_GAP, LAST_STEP, MOST_FRAMES}

-- each is an upper bound: the greatest packet in bytes, the last slot of any round, and in ticks the greatest age of a
-- reference, the greatest difference of two zeros, that of two contenders, and the greatest error of a clock over the
-- run
pub record Budget : Type 0 where
  pub packet : ℕ
  pub last : ℕ
  pub age : ℕ
  pub zeros : ℕ
  pub contenders : ℕ
  pub clock : ℕ

-- from the start of step 0 to the end of the last
abbrev pub span : Numbers → ℕ → ℕ
span p n = LAST_STEP * step p n + airtime p n

-- n / 1,000,000, rounded up
abbrev pub millionths : ℕ → ℕ
millionths n = (n + 999999) / 1000000

pub record Fits (p : Numbers) (b : Budget) : Type 0 where
  pub displacement : 22 ≤ p.delta
  pub turn_apart : b.contenders + 23 < p.turn
  pub turn_short : p.turn + 2 ≤ DRIFT_PERIOD
  pub overlap : b.contenders + 23 < airtime p 7
  pub clock : 256002 + millionths (DRIFT_BOUND * (MOST_FRAMES * p.frame)) ≤ b.clock
  pub lead : b.clock + b.zeros < p.lead
  pub run : 4104 * p.frame < 2 ^ 45
  pub age : GREATEST_GAP * p.frame + (b.last + 1) * p.slot ≤ b.age
  pub zeros : millionths (2 * DRIFT_BOUND * b.age) + 160 ≤ b.zeros
  pub listen : b.zeros < p.listen
  pub contenders : millionths (2 * DRIFT_BOUND * (b.last * p.slot + p.listen)) + 160 ≤ b.contenders
  pub window : p.listen + FLOOD_STEPS * step p b.packet + b.zeros + 140 ≤ p.close + p.turn
  pub close : p.close < p.slot
  pub round : p.lead + (b.last + 1) * p.slot + 2 * b.clock + b.zeros ≤ p.end
  pub alarm : p.end + b.clock < p.frame

-- the budget of the first profile
abbrev pub budget_one : Budget
budget_one = record { packet = 64; last = 42; age = 1120000000; zeros = 44960; contenders = 3968; clock = 21227522 }

-- that of the second, with any number of contention slots
abbrev pub budget_two : Budget
budget_two = record { packet = 125; last = 45; age = 1452800000; zeros = 58300; contenders = 6656; clock = 26470402 }

-- the budget of a profile that a constructor made
abbrev pub budget_of : Numbers → Budget
budget_of p = if is_one p then budget_one else budget_two
