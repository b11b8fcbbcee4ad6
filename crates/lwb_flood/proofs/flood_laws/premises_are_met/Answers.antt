use Rattle.std.proofs.Common.{ℕ, ◌+◌, ◌<◌, ◌≤◌, arith}
use Rattle.std.proofs.Math.Nat.{mul-le-mul_right}
use Rattle.lwb_base.specs.Profile.{Numbers, airtime}
use Rattle.time_reference.specs.Budgets.{Budget, Fits}
use Rattle.glossy_relay.proofs.Spellings.{spelled_again}
use Rattle.lwb_flood.proofs.flood_laws.premises_are_met.Goals as goal

numbers_fit : (p : Numbers) (b : Budget) → Fits p b → (n q : ℕ) → 7 ≤ n → q ≤ b.contenders → (q + 23 < p.turn) × (q + 22 < airtime p n) × (22 ≤ p.delta)
numbers_fit p b fits n q long near = omega (arith, mul-le-mul_right p.byte long)

pub returns : goal.returns
returns c = record { numbers = numbers_fit; spelled = spelled_again }
