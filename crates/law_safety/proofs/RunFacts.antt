-- What a run says of its clocks, ranks and frames.
use Rattle.std.proofs.Common.{◌≡◌, ℕ, ◌+◌, ◌-◌, ◌*◌, ◌/◌, ◌<◌, ◌≤◌, true, length, ◌∙◌, ap, arith, inl, inr}
use Rattle.std.specs.Prelude.{slice_index}
use Rattle.std.proofs.Math.Nat.{div-mul-le_self, mul-le-mul_right}
use Rattle.std.proofs.lemmas.Nat.{div-mul-add, div_below, le-div}
use Rattle.std.proofs.lemmas.Bool.{cases_lt}
use Rattle.std.proofs.lemmas.List.Elements.{All-contains, recursion_from_All}
use Rattle.std.proofs.lemmas.Option.{slice_get-get_or, slice_get_within, get_or_from_slice_get}
use Rattle.lwb_base.specs.declared.limits.TheConstants.{MOST_FRAMES}
use Rattle.tick_clock.specs.Clocks.{IsClock}
use Rattle.time_reference.specs.Budgets.{Fits, budget_of}
use Rattle.scenario_text.specs.ScenarioParts.{ScenarioParts}
use Rattle.scenario_text.specs.ScenarioFacts.{IsSoundScenario}
use Rattle.scenario_text.specs.FloodParts.{knows}
use Rattle.scenario_text.specs.declared.lines.NodeLine.{NodeLine}
use Rattle.air_log.specs.Trails.{run_end, frame_start}
use Rattle.law_trails.proofs.LogsInRange.{known_in}
use Rattle.law_trails.proofs.ProfilePackets.{fits_profile}
use Rattle.law_safety.specs.SentPlans.{IsHostOf}
use Rattle.law_safety.specs.Invariant.{IsDrivenWell}

-- a host is a node of the scenario
pub host_known : (s : ScenarioParts) → IsSoundScenario s → (rank v : ℕ) → IsHostOf s rank v → knows s.nodes v ≡ true
host_known s sound rank v is =
    All-contains (λ (h : ℕ). knows s.nodes h ≡ true) s.hosts v sound.hosts_known
    (rank, slice_get_within s.hosts rank v is, get_or_from_slice_get s.hosts rank v v is)

pub host_is : (s : ScenarioParts) (rank v : ℕ) → IsHostOf s rank v → slice_index s.hosts rank ≡ v
host_is s rank v is = get_or_from_slice_get s.hosts rank v 0 is

pub host_named : (s : ScenarioParts) (rank : ℕ) → rank < length s.hosts → IsHostOf s rank (slice_index s.hosts rank)
host_named s rank below = slice_get-get_or s.hosts rank 0 below

pub run_fits : (s : ScenarioParts) → IsSoundScenario s → Fits s.profile (budget_of s.profile)
run_fits s sound = fits_profile s.profile sound.profile

-- the clock of the host of a rank
pub host_clock : (s : ScenarioParts) (clocks : ℕ → ℕ → ℕ) → IsDrivenWell s clocks → (rank : ℕ) → rank < length s.hosts
    → IsClock (clocks (slice_index s.hosts rank))
host_clock s clocks driven rank below =
    let h = slice_index s.hosts rank in
    driven.drift h (host_known s driven.sound rank h (host_named s rank below))

-- the ids of nodes
pub known_id : (s : ScenarioParts) → IsSoundScenario s → (v : ℕ) → knows s.nodes v ≡ true → (1 ≤ v) × (v ≤ 200)
known_id s sound v known = known_in s.nodes v (recursion_from_All (λ (n : NodeLine). (1 ≤ n.node) × (n.node ≤ 200)) s.nodes sound.ids) known

pub frame_lasts : (s : ScenarioParts) → IsSoundScenario s → 1 ≤ s.profile.frame
frame_lasts s sound = let fits = run_fits s sound in let room = fits.alarm in omega (arith, room)

-- the frame of a tick
pub frame_is : (s : ScenarioParts) (f t : ℕ) → frame_start s f ≤ t → t < frame_start s (f + 1) → t / s.profile.frame ≡ f
frame_is s f t from until =
    let r : ℕ = t - f * s.profile.frame in
    let is : t ≡ f * s.profile.frame + r = omega arith in
    ap (λ (n : ℕ). n / s.profile.frame) is ∙ div-mul-add f s.profile.frame r (omega arith)

module _ (s : ScenarioParts) (sound : IsSoundScenario s) where
  pub frame_begins : (t : ℕ) → frame_start s (t / s.profile.frame) ≤ t
  frame_begins t = div-mul-le_self t s.profile.frame

  pub frame_ends : (t : ℕ) → t < frame_start s (t / s.profile.frame + 1)
  frame_ends t =
      elim (cases_lt t ((t / s.profile.frame + 1) * s.profile.frame)) [
        | inr past ↦ absurd (omega (arith, le-div (t / s.profile.frame + 1) t s.profile.frame (omega (arith, frame_lasts s sound)) (omega (arith, past))))
        | inl below ↦ below
      ]

  -- frames rise with ticks
  pub frame_below : (f t : ℕ) → t < frame_start s f → t / s.profile.frame < f
  frame_below f t before = div_below t s.profile.frame f (omega (arith, frame_lasts s sound)) before

  pub frame_from : (f t : ℕ) → frame_start s f ≤ t → f ≤ t / s.profile.frame
  frame_from f t from = le-div f t s.profile.frame (omega (arith, frame_lasts s sound)) from

  -- the frames of a run
  pub frame_in_run : (t : ℕ) → t < run_end s → t / s.profile.frame ≤ 4095
  frame_in_run t in_run =
      let few = sound.few_frames in
      let below : t / s.profile.frame < s.frames = frame_below s.frames t in_run in
      omega (arith, few, below)

  pub tick_in_run : (t : ℕ) → t < run_end s → t ≤ MOST_FRAMES * s.profile.frame
  tick_in_run t in_run = let frames = mul-le-mul_right s.profile.frame sound.few_frames in omega (arith, frames, in_run)
