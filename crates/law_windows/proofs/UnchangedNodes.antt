-- A node stays as its frame has found it until its first window of the frame.
use Rattle.std.proofs.Common.{◌≡◌, ℕ, suc, ◌+◌, ◌/◌, inl, inr, List, Bool, true, false, ◌==◌, if◌then◌else◌, min}
use Rattle.std.proofs.Common.{sym, ◌∙◌, ap, subst, arith}
use Rattle.std.proofs.lemmas.Bool.{cases_lt}
use Rattle.bus_rules.specs.declared.tune.Tune.{Tune}
use Rattle.bus_rules.specs.declared.tune.Tune.TheVariants.{Scan, Hold, Host}
use Rattle.bus_rules.specs.Cores.{Setup, frame_ended}
use Rattle.node_core.specs.declared.stage.Stage.{Stage}
use Rattle.node_core.specs.declared.stage.Stage.TheVariants.{Idle, Scanning, AwaitFrame, AwaitSlot, InWindow}
use Rattle.node_core.specs.Nodes.{Node}
use Rattle.node_core.specs.Rows.{boots, frame_alarms, stage_for}
use Rattle.scenario_text.specs.ScenarioParts.{ScenarioParts}
use Rattle.scenario_text.specs.declared.script.ScriptLine.{ScriptLine}
use Rattle.air_log.specs.declared.entry.Entry.{Entry}
use Rattle.air_log.specs.Devices.{Device, Power, PowerOff, PowerOn}
use Rattle.air_log.specs.Lawful.{heard_by}
use Rattle.scenario_text.specs.Setups.{setup_of}
use Rattle.air_log.specs.Trails.{frame_start, at_frame, device_after_script, before_tick}
use Rattle.law_trails.specs.Phases.{Phase, Lines, Hearings, End, Alarms, Start, Over, next_phase, device_at}
use Rattle.law_safety.specs.CountedFrames.{InFrame}
use Rattle.law_safety.specs.Rows.{AtTick}
use Rattle.law_safety.proofs.FrameStarts.{counts_near, line_starts}
use Rattle.law_safety.proofs.RunFacts.{frame_is, frame_begins, frame_ends, frame_in_run}
use Rattle.law_windows.specs.WindowStarts.{UnchangedAt, UnchangedBy, UnchangedIn}

module _ (s : ScenarioParts) (clocks : ℕ → ℕ → ℕ) (air : List Entry) (v : ℕ) where
  abbrev S : Setup
  S = setup_of s v

  abbrev Unchanged : ℕ → Phase → Device → Type 0
  Unchanged t phase d = UnchangedIn s clocks air v t phase d.power

  -- no line is given within a frame
  pub at_lines : (t : ℕ) → AtTick s clocks air v t → (l : ScriptLine) → frame_start s l.frame ≡ t → (p : Power) → UnchangedIn s clocks air v t Lines p
  at_lines t at l now p began = absurd (let start = line_starts s at.run.driven.sound t l now in omega (arith, began, start))

  -- the next frame is not this one
  next_frame : (f : ℕ) (n : Node) (tune : Tune) → (n.frame ≡ f → ⊥) → UnchangedAt s clocks air v f n (stage_for tune n.frame)
  next_frame f n (Scan r waited) other = λ same. absurd (other same)
  next_frame f n (Hold r due) other = by_test (due == n.frame)
    where
      by_test : (b : Bool) → UnchangedAt s clocks air v f n (if b then AwaitSlot 0 else AwaitFrame)
      by_test true = λ first same. absurd (other same)
      by_test false = tt
  next_frame f n (Host r due) other = by_test (due == n.frame)
    where
      by_test : (b : Bool) → UnchangedAt s clocks air v f n (if b then AwaitSlot 0 else AwaitFrame)
      by_test true = λ first same. absurd (other same)
      by_test false = tt

  pub ends_frame : (t : ℕ) → AtTick s clocks air v t → (n : Node) → InFrame s clocks v t n
      → UnchangedBy s clocks air v (t / s.profile.frame) (PowerOn (frame_alarms (setup_of s v) n).node)
  ends_frame t at n frame =
      let r = frame_alarms S n in
      let core = frame_ended S n.frame n.core in
      let early = frame_in_run s at.run.driven.sound t at.in_run in
      let counts = counts_near s clocks v t n frame in
      next_frame (t / s.profile.frame) r.node core.tune
      (λ same. (let counted : min (n.frame + 1) 16777215 ≡ t / s.profile.frame = same in omega (arith, counted, counts.0, counts.1, early)))

  -- a window closes
  pub closes : (f : ℕ) (m : Node) (j : ℕ) (b : Bool) → UnchangedAt s clocks air v f m (if b then AwaitSlot (j + 1) else AwaitFrame)
  closes f m j true = λ first. absurd (omega (arith, first))
  closes f m j false = tt

  -- to the next phase
  pub goes_on : (t : ℕ) → AtTick s clocks air v t → (phase : Phase) (d : Device) → Unchanged t phase d
      → d ≡ device_at s v (clocks v) (heard_by air v) t (next_phase phase) → Unchanged t (next_phase phase) d
  goes_on t at Lines d is enters = elim (cases_lt (frame_start s (t / s.profile.frame)) t) [
    | inl began ↦ is began
    | inr late ↦ (
        let begins = frame_begins s at.run.driven.sound t in
        let start : frame_start s (t / s.profile.frame) ≡ t = omega (arith, late, begins) in
        let found : (at_frame s v (clocks v) (heard_by air v) (t / s.profile.frame)).power ≡ d.power =
        ap (λ (u : ℕ). (device_after_script s v (clocks v) u (before_tick s v (clocks v) (heard_by air v) u)).power) start
        ∙ sym (ap (λ (e : Device). e.power) enters) in
        as_found d.power found
        )
  ]
    where
      as_found : (p : Power) → (at_frame s v (clocks v) (heard_by air v) (t / s.profile.frame)).power ≡ p → UnchangedBy s clocks air v (t / s.profile.frame) p
      as_found (PowerOff boots) found = tt
      as_found (PowerOn n) found = at_stage n found n.stage
        where
          at_stage : (n : Node) → (at_frame s v (clocks v) (heard_by air v) (t / s.profile.frame)).power ≡ PowerOn n → (st : Stage)
              → UnchangedAt s clocks air v (t / s.profile.frame) n st
          at_stage n found Idle = tt
          at_stage n found Scanning = λ same. found
          at_stage n found AwaitFrame = tt
          at_stage n found (AwaitSlot j) = λ first same. found
          at_stage n found (InWindow j w) = tt
  goes_on t at Hearings d is enters = is
  goes_on t at End d is enters = is
  goes_on t at Alarms d is enters = is
  goes_on t at Start d is enters = is
  goes_on t at Over d is enters = is

  -- and to the next tick
  pub passes : (t : ℕ) → AtTick s clocks air v t → (p : Power) → UnchangedIn s clocks air v t Over p → UnchangedIn s clocks air v (suc t) Lines p
  passes t at p is began =
      let ends = frame_ends s at.run.driven.sound (suc t) in
      let same : t / s.profile.frame ≡ suc t / s.profile.frame = frame_is s (suc t / s.profile.frame) t (omega (arith, began)) (omega (arith, ends)) in
      subst (λ (f : ℕ). UnchangedBy s clocks air v f p) same is
