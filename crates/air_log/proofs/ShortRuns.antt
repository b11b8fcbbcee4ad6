-- A run ends within 2 ^ 46 ticks.
use Rattle.std.proofs.Common.{◌≤◌, ◌^◌, ap, arith, inl, inr}
use Rattle.std.proofs.Math.Nat.{mul-le-mul_right, mul-le-mul_left}
use Rattle.lwb_base.specs.declared.limits.TheConstants.{MOST_FRAMES}
use Rattle.lwb_base.specs.Profile.{Numbers}
use Rattle.scenario_text.specs.ScenarioFacts.{IsSoundScenario}
use Rattle.scenario_text.specs.ScenarioParts.{ScenarioParts}
use Rattle.air_log.specs.Trails.{run_end}

pub short_run : (s : ScenarioParts) → IsSoundScenario s → run_end s ≤ 2 ^ 46
short_run s sound =
    let few = sound.few_frames in
    let frame : s.profile.frame ≤ 320000000 = elim sound.profile [
      | inl one ↦ (let is = ap (λ (p : Numbers). p.frame) one in omega arith)
      | inr two ↦ (let is = ap (λ (p : Numbers). p.frame) two.0 in omega arith)
    ] in
    let most = mul-le-mul_right s.profile.frame few in
    let more = mul-le-mul_left MOST_FRAMES frame in
    omega (arith, most, more)
