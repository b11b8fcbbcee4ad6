-- At the first tick of a frame every node rests: what is set lies in the frame before, or after.
use Rattle.std.proofs.Common.{◌≡◌, ℕ, ◌+◌, ◌/◌, ◌<◌, ◌≤◌, ◌⊎◌, inl, inr, ◌∙◌, ap, arith}
use Rattle.std.proofs.Math.Nat.{mul-le-mul_right}
use Rattle.std.proofs.lemmas.Bool.{cases_lt}
use Rattle.lwb_base.specs.declared.limits.TheConstants.{MOST_FRAMES}
use Rattle.tick_clock.specs.Clocks.{IsClock}
use Rattle.time_reference.specs.Budgets.{budget_of}
use Rattle.time_reference.proofs.Run.{alarm_after_start}
use Rattle.node_core.specs.declared.stage.Stage.{Stage}
use Rattle.node_core.specs.declared.stage.Stage.TheVariants.{Idle, Scanning, AwaitFrame, AwaitSlot, InWindow}
use Rattle.node_core.specs.Nodes.{Node}
use Rattle.scenario_text.specs.ScenarioParts.{ScenarioParts}
use Rattle.scenario_text.specs.ScenarioFacts.{IsSoundScenario}
use Rattle.scenario_text.specs.declared.script.ScriptLine.{ScriptLine}
use Rattle.air_log.specs.Devices.{Device}
use Rattle.air_log.specs.Trails.{frame_start}
use Rattle.law_safety.specs.StillDevices.{IsStill}
use Rattle.law_safety.specs.CountedFrames.{IsResting, BeganBy, InFrame}
use Rattle.law_safety.specs.RadiosOn.{RadioFor}
use Rattle.law_safety.proofs.RunFacts.{run_fits, frame_lasts, frame_is}

-- frames rise with their first ticks
pub frame_before : (s : ScenarioParts) (f g : ℕ) → frame_start s f < frame_start s g → f < g
frame_before s f g before =
    elim (cases_lt f g) [
      | inl less ↦ less
      | inr more ↦ absurd (let k = mul-le-mul_right s.profile.frame more in omega (arith, before, k))
    ]

-- the tick of a script line is the first of its frame
pub line_starts : (s : ScenarioParts) → IsSoundScenario s → (t : ℕ) (l : ScriptLine) → frame_start s l.frame ≡ t → frame_start s (t / s.profile.frame) ≡ t
line_starts s sound t l now =
    let lasts = frame_lasts s sound in
    let same : t / s.profile.frame ≡ l.frame = frame_is s l.frame t (omega (arith, now)) (omega (arith, now, lasts)) in
    ap (λ (f : ℕ). frame_start s f) same ∙ now

-- who rests does nothing
pub rests_still : (n : Node) (d : Device) (st : Stage) → IsResting st → RadioFor n d st → IsStill d
rests_still n d Idle rests radio = absurd rests
rests_still n d Scanning rests radio = radio.1
rests_still n d AwaitFrame rests radio = radio.1
rests_still n d (AwaitSlot j) rests radio = radio.1
rests_still n d (InWindow j w) rests radio = absurd rests

-- a node counts the true frame or the next
pub counts_near : (s : ScenarioParts) (clocks : ℕ → ℕ → ℕ) (v t : ℕ) (n : Node) → InFrame s clocks v t n
    → (t / s.profile.frame ≤ n.frame) × (n.frame ≤ t / s.profile.frame + 1)
counts_near s clocks v t n is = elim is.at [
  | inl now ↦ (omega (arith, now), omega (arith, now))
  | inr over ↦ (let next = over.frame in (omega (arith, next), omega (arith, next)))
]

module _ (s : ScenarioParts) (clocks : ℕ → ℕ → ℕ) (v t : ℕ) (n : Node) (start : frame_start s (t / s.profile.frame) ≡ t) where
  -- the frame of a node that does not rest began before
  not_now : n.frame ≡ t / s.profile.frame → frame_start s n.frame < t → ⊥
  not_now same before =
      let at : frame_start s n.frame ≡ frame_start s (t / s.profile.frame) = ap (λ (f : ℕ). frame_start s f) same in
      omega (arith, at, start, before)

  rests_by : (st : Stage) → (n.frame ≡ t / s.profile.frame) ⊎ IsResting st → BeganBy s t n st → IsResting st
  rests_by Idle at began = absurd began
  rests_by Scanning at began = tt
  rests_by AwaitFrame at began = tt
  rests_by (AwaitSlot j) (inr rests) began = rests
  rests_by (AwaitSlot j) (inl same) (inl first) = first
  rests_by (AwaitSlot j) (inl same) (inr before) = absurd (not_now same before)
  rests_by (InWindow j w) (inr rests) began = rests
  rests_by (InWindow j w) (inl same) began = absurd (not_now same began)

  pub rests_at_start : InFrame s clocks v t n → IsResting n.stage
  rests_at_start is = rests_by n.stage (elim is.at [ inl same ↦ inl same | inr over ↦ inr over.rests ]) is.began

  -- and it counts the true frame
  pub counts_at_start : IsSoundScenario s → IsClock (clocks v) → t / s.profile.frame ≤ MOST_FRAMES → InFrame s clocks v t n → n.frame ≡ t / s.profile.frame
  counts_at_start sound clock early is =
      let alarm = alarm_after_start s.profile (budget_of s.profile) (run_fits s sound) (clocks v) clock (t / s.profile.frame) early in
      elim is.at [ inl same ↦ same | inr over ↦ absurd (let after = alarm.0 in let past = over.past in omega (arith, after, past, start)) ]
