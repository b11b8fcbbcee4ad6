-- The first windows of a frame open at their node as the frame has found it.
use Rattle.std.proofs.Common.{◌≡◌, ℕ, ◌+◌, ◌/◌, List, if◌then◌else◌, Some, sym, subst, true≢false}
use Rattle.lwb_base.specs.Messages.{Schedule}
use Rattle.node_core.specs.declared.stage.Stage.{Stage}
use Rattle.node_core.specs.declared.stage.Stage.TheVariants.{Scanning, AwaitFrame, AwaitSlot, InWindow}
use Rattle.node_core.specs.Nodes.{Node}
use Rattle.scenario_text.specs.ScenarioParts.{ScenarioParts}
use Rattle.scenario_text.specs.Setups.{setup_of}
use Rattle.air_log.specs.declared.entry.Entry.{Entry}
use Rattle.air_log.specs.Devices.{Device, Power, PowerOff, PowerOn}
use Rattle.air_log.specs.Trails.{Reception}
use Rattle.law_trails.specs.Phases.{Phase, Hearings, Alarms}
use Rattle.law_safety.specs.KnownInRows.{IsHeardNow}
use Rattle.law_safety.specs.Rows.{AtTick, IsFine}
use Rattle.law_safety.proofs.AwaitedSlots.{awaits, frame_now as opens_now}
use Rattle.law_safety.proofs.HeardPlaces.{frame_now}
use Rattle.law_safety.proofs.InvariantHolds.{all_rows}
use Rattle.law_windows.specs.WindowLaws.{FramesBeginSo}
use Rattle.law_windows.specs.WindowStarts.{IsAtStart, ComesFirst, UnchangedAt, UnchangedBy, UnchangedIn}
use Rattle.law_windows.specs.WindowSteps.{begun_log, joined_log}
use Rattle.law_windows.proofs.WindowWalk.{on_in}
use Rattle.law_windows.proofs.KnownThroughout.{KeepsKnown, all_windows}
use Rattle.law_windows.proofs.UnchangedNodes.{at_lines, ends_frame, closes, goes_on, passes}

module _ (s : ScenarioParts) (clocks : ℕ → ℕ → ℕ) (air : List Entry) (v : ℕ) where
  abbrev Unchanged : ℕ → Phase → Power → Type 0
  Unchanged t phase p = UnchangedIn s clocks air v t phase p

  opens_first : (t : ℕ) → AtTick s clocks air v t → (d : Device) (n : Node) (j : ℕ) → IsFine s clocks air v t Alarms d → d.alarm ≡ Some t → d.power ≡ PowerOn n
      → n.stage ≡ AwaitSlot j → Unchanged t Alarms (PowerOn n) → ComesFirst s clocks air v (begun_log (setup_of s v) t n j)
  opens_first t at d n j fine due on stage unchanged =
      let frame : n.frame ≡ t / s.profile.frame = opens_now s clocks air v t at d n j
      (awaits s clocks air v t d n j (on_in s clocks air v t Alarms d n fine on) stage due) in
      record {
        opening = λ alarm first. (
            let found = subst (UnchangedAt s clocks air v (t / s.profile.frame) n) stage unchanged first frame in
            subst (λ (f : ℕ). IsAtStart s clocks air v f n) (sym frame) found);
        joining = λ heard. absurd (true≢false heard);
      }

  joins_first : (t : ℕ) → AtTick s clocks air v t → (d : Device) (h : Reception) (n : Node) (y : Schedule) → IsFine s clocks air v t Hearings d
      → IsHeardNow s clocks air v t h d → d.power ≡ PowerOn n → n.stage ≡ Scanning → Unchanged t Hearings (PowerOn n)
      → ComesFirst s clocks air v (joined_log (setup_of s v) t (clocks v t) n h.packet y)
  joins_first t at d h n y fine now on stage unchanged =
      let frame : n.frame ≡ t / s.profile.frame = frame_now s clocks air v t h d now n (on_in s clocks air v t Hearings d n fine on) in
      record {
        opening = λ alarm first. absurd (true≢false (sym alarm));
        joining = λ heard. (
            let found = subst (UnchangedAt s clocks air v (t / s.profile.frame) n) stage unchanged frame in
            subst (λ (f : ℕ). IsAtStart s clocks air v f n) (sym frame) found);
      }

  -- at another place
  elsewhere : (t : ℕ) (n : Node) (st : Stage) → n.stage ≡ st → UnchangedAt s clocks air v (t / s.profile.frame) n st
      → UnchangedBy s clocks air v (t / s.profile.frame) (PowerOn n)
  elsewhere t n st stage is = subst (UnchangedAt s clocks air v (t / s.profile.frame) n) (sym stage) is

  steps : (t : ℕ) → AtTick s clocks air v t → KeepsKnown s clocks air v (UnchangedIn s clocks air v) (ComesFirst s clocks air v) t
  steps t at = record {
    told = λ l n m now frame same. at_lines s clocks air v t at l now (PowerOn m);
    off = λ l boots now. at_lines s clocks air v t at l now (PowerOff boots);
    joined = λ d h n y fine now on stage unchanged. joins_first t at d h n y fine now on stage unchanged;
    hears = λ n j w stage. elsewhere t n (InWindow j w) stage tt;
    goes_on = λ n j w stage. elsewhere t n (InWindow j w) stage tt;
    ends_frame = λ n frame. ends_frame s clocks air v t at n frame;
    opened = λ d n j fine due on stage unchanged. opens_first t at d n j fine due on stage unchanged;
    closes = λ n j b stage. elsewhere t n (if b then AwaitSlot (j + 1) else AwaitFrame) stage (closes s clocks air v (t / s.profile.frame) n j b);
    ended = λ p is. is;
    started = λ p is. is;
    onwards = λ phase d is enters. goes_on s clocks air v t at phase d is enters;
    passes = λ p is. passes s clocks air v t at p is;
  }

pub frames_begin_so : FramesBeginSo
frames_begin_so s clocks air run v known =
    all_windows s clocks air v (UnchangedIn s clocks air v) (ComesFirst s clocks air v)
    (λ x happenings last closed is. record { opening = is.opening; joining = is.joining }) all_rows run known (λ began. tt) (steps s clocks air v)
