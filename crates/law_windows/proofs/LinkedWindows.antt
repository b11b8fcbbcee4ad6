-- How the windows of a node follow one another, frame by frame, and where the node is in its frame.
use Rattle.std.proofs.Common.{◌≡◌, ℕ, suc, ◌/◌, ◌<◌, ◌≤◌, ◌⊎◌, inl, inr, List, [], ◌∷◌, ◌++◌, Bool, true, false, Some, None, is_some, Option, Contains, sym}
use Rattle.std.proofs.Common.{◌∙◌, ap, subst, arith, true≢false}
use Rattle.std.specs.Bool.{⊤}
use Rattle.scenario_text.specs.ScenarioParts.{ScenarioParts}
use Rattle.scenario_text.specs.ScenarioFacts.{IsSoundScenario}
use Rattle.bus_rules.specs.Cores.{frame_ended}
use Rattle.node_core.specs.declared.stage.Stage.TheVariants.{Scanning, AwaitFrame, AwaitSlot}
use Rattle.node_core.specs.Nodes.{Node}
use Rattle.node_core.specs.Rows.{stage_for}
use Rattle.air_log.specs.declared.entry.Entry.{Entry}
use Rattle.air_log.specs.WindowLogs.{WindowLog, Closing}
use Rattle.air_log.specs.Devices.{Device, Power, PowerOff, PowerOn}
use Rattle.scenario_text.specs.Setups.{setup_of}
use Rattle.air_log.specs.Trails.{frame_start}
use Rattle.lwb_base.proofs.Elements.{contains_head, contains_tail, contains_cases}
use Rattle.law_trails.specs.Phases.{Phase, Lines, Hearings, End, Alarms, Start, Over}
use Rattle.law_trails.specs.TrailLinks.{device_in}
use Rattle.law_trails.specs.Walks.{AwaitsFrame, NoWindow}
use Rattle.law_safety.specs.CountedFrames.{IsResting}
use Rattle.law_safety.specs.SetAlarms.{rank_at}
use Rattle.law_safety.proofs.RunFacts.{frame_from}
use Rattle.law_windows.specs.OpenWindows.{AreClosed}
use Rattle.law_terms.specs.FrameCourses.{power_at}

module _ (s : ScenarioParts) (clocks : ℕ → ℕ → ℕ) (air : List Entry) (v : ℕ) where
  -- these windows are of earlier frames
  abbrev pub AreEarlier : ℕ → List WindowLog → Type 0
  AreEarlier f logs = (y : WindowLog) → Contains logs y → y.frame < f

  -- a window is the first of its frame: it opens at the node as the script lines left it
  pub record IsFirst (frame rank slot : ℕ) (by_alarm : Bool) (before : Node) (logs : List WindowLog) : Type 0 where
    pub node : power_at s clocks air v frame ≡ PowerOn before
    pub of_rank : rank_at before ≡ rank
    pub how : ((by_alarm ≡ false) × (before.stage ≡ Scanning)) ⊎ ((by_alarm ≡ true) × (slot ≡ 0) × (before.stage ≡ AwaitSlot 0))
    pub first : AreEarlier frame logs

  -- or it follows the one before, which left the node awaiting its slot
  pub record IsNext (frame rank slot : ℕ) (by_alarm : Bool) (before : Node) (logs : List WindowLog) : Type 0 where
    pub last : WindowLog
    pub earlier : List WindowLog
    pub is : logs ≡ last ∷ earlier
    pub of_frame : last.frame ≡ frame
    pub of_rank : last.rank ≡ rank
    pub of_slot : slot ≡ suc last.slot
    pub alarm : by_alarm ≡ true
    pub closing : Closing
    pub closed : last.closed ≡ Some closing
    pub node : closing.after ≡ before
    pub awaited : before.stage ≡ AwaitSlot (suc last.slot)

  abbrev pub LinksTo : WindowLog → List WindowLog → Type 0
  LinksTo x logs = IsFirst x.frame x.rank x.slot x.by_alarm x.before logs ⊎ IsNext x.frame x.rank x.slot x.by_alarm x.before logs

  abbrev pub AreLinked : List WindowLog → Type 0
  AreLinked [] = ⊤
  AreLinked (x ∷ xs) = LinksTo x xs × AreLinked xs

  -- in frame f the node is as the script lines left it, or as its last window did
  pub record IsUntouched (f : ℕ) (logs : List WindowLog) (n : Node) : Type 0 where
    pub node : power_at s clocks air v f ≡ PowerOn n
    pub rests : IsResting n.stage
    pub first : AreEarlier f logs

  pub record IsLeft (f : ℕ) (logs : List WindowLog) (n : Node) : Type 0 where
    pub last : WindowLog
    pub earlier : List WindowLog
    pub is : logs ≡ last ∷ earlier
    pub frame : last.frame ≡ f
    pub rank : last.rank ≡ rank_at n
    pub closing : Closing
    pub closed : last.closed ≡ Some closing
    pub node : closing.after ≡ n
    pub stage : (n.stage ≡ AwaitSlot (suc last.slot)) ⊎ (n.stage ≡ AwaitFrame)

  abbrev pub Stands : ℕ → List WindowLog → Node → Type 0
  Stands f logs n = IsUntouched f logs n ⊎ IsLeft f logs n

  -- the alarm of frame f has gone
  pub record HasEnded (f : ℕ) (logs : List WindowLog) (n : Node) : Type 0 where
    pub before : Node
    pub stands : Stands f logs before
    pub awaited : AwaitsFrame before.stage
    pub core : n.core ≡ frame_ended (setup_of s v) f before.core
    pub place : n.stage ≡ stage_for n.core.tune n.frame
    pub fresh : n.core.own_slot ≡ None

  abbrev pub StandsIn : ℕ → List WindowLog → Power → Type 0
  StandsIn f logs (PowerOff boots) = (power_at s clocks air v f ≡ PowerOff boots) × AreEarlier f logs
  StandsIn f logs (PowerOn n) = NoWindow n.stage → ((n.frame ≡ f) × Stands f logs n) ⊎ ((n.frame ≡ suc f) × HasEnded f logs n)

  -- the windows at the end of frame f, to which only such of later frames have been added
  abbrev pub windows_until : ℕ → List WindowLog
  windows_until f = (device_in s clocks air v (frame_start s (suc f))).made.windows

  pub record HasAdded (f : ℕ) (logs : List WindowLog) : Type 0 where
    pub newer : List WindowLog
    pub is : logs ≡ newer ++ windows_until f
    pub later : (x : WindowLog) → Contains newer x → f < x.frame
    pub closed : AreClosed (windows_until f)

  -- in tick t
  pub record GoOn (t : ℕ) (logs : List WindowLog) : Type 0 where
    pub linked : AreLinked logs
    pub begun : (x : WindowLog) → Contains logs x → frame_start s x.frame < t
    pub added : (f : ℕ) → frame_start s (suc f) ≤ t → HasAdded f logs

  -- the script lines of the frame have been given
  abbrev pub AreTold : ℕ → Phase → Type 0
  AreTold t Lines = frame_start s (t / s.profile.frame) < t
  AreTold t Hearings = ⊤
  AreTold t End = ⊤
  AreTold t Alarms = ⊤
  AreTold t Start = ⊤
  AreTold t Over = ⊤

  pub record IsUnderWay (t : ℕ) (phase : Phase) (d : Device) : Type 0 where
    pub windows : GoOn t d.made.windows
    pub stands : AreTold t phase → StandsIn (t / s.profile.frame) d.made.windows d.power

  -- a window more
  pub one_more : IsSoundScenario s → (t : ℕ) (logs : List WindowLog) (x : WindowLog) → GoOn t logs → LinksTo x logs
      → x.frame ≡ t / s.profile.frame → frame_start s x.frame < t → GoOn t (x ∷ logs)
  one_more sound t logs x on links now began = record {
    linked = (links, on.linked);
    begun = λ y there. elim (contains_cases x logs y there) [
      | inl same ↦ subst (λ (z : WindowLog). frame_start s z.frame < t) same began
      | inr old ↦ on.begun y old
    ];
    added = λ f past.
        (let old : HasAdded f logs = on.added f past in
        let below = frame_from s sound (suc f) t past in
        record {
          newer = x ∷ old.newer;
          is = ap (λ (l : List WindowLog). x ∷ l) old.is;
          later = λ y there. elim (contains_cases x old.newer y there) [
            | inl same ↦ subst (λ (z : WindowLog). f < z.frame) same (omega (arith, now, below))
            | inr later ↦ old.later y later
          ];
          closed = old.closed;
        });
  }

  -- the open one changes
  not_closed : (x : WindowLog) → x.closed ≡ None → is_some x.closed ≡ true → ⊥
  not_closed x open_ closed = true≢false (sym closed ∙ ap (λ (c : Option Closing). is_some c) open_)

  module _ (f : ℕ) (first : WindowLog) (earlier : List WindowLog) (open_ : first.closed ≡ None) (x : WindowLog) (frame : x.frame ≡ first.frame) where
    added_by : (newer : List WindowLog) → first ∷ earlier ≡ newer ++ windows_until f → ((y : WindowLog) → Contains newer y → f < y.frame)
        → AreClosed (windows_until f) → HasAdded f (x ∷ earlier)
    added_by [] is later closed =
        absurd (not_closed first open_ (closed first (subst (λ (l : List WindowLog). Contains l first) is (contains_head first earlier))))
    added_by (y ∷ newer) is later closed =
        let same : first ≡ y = cc in
        let rest : earlier ≡ newer ++ windows_until f = cc in
        let of_first : f < first.frame = subst (λ (z : WindowLog). f < z.frame) (sym same) (later y (contains_head y newer)) in
        record {
          newer = x ∷ newer;
          is = ap (λ (l : List WindowLog). x ∷ l) rest;
          later = λ z there. elim (contains_cases x newer z there) [
            | inl is_x ↦ subst (λ (u : WindowLog). f < u.frame) is_x (omega (arith, of_first, frame))
            | inr old ↦ later z (contains_tail y newer z old)
          ];
          closed = closed;
        }

  pub one_changed : (t : ℕ) (logs : List WindowLog) (first : WindowLog) (earlier : List WindowLog) (x : WindowLog)
      → logs ≡ first ∷ earlier → first.closed ≡ None → x.frame ≡ first.frame → (LinksTo first earlier → LinksTo x earlier)
      → GoOn t logs → GoOn t (x ∷ earlier)
  one_changed t logs first earlier x is open_ frame links on =
      let linked : AreLinked (first ∷ earlier) = subst AreLinked is on.linked in
      let begun : (y : WindowLog) → Contains (first ∷ earlier) y → frame_start s y.frame < t =
      λ y there. on.begun y (subst (λ (l : List WindowLog). Contains l y) (sym is) there) in
      record {
        linked = (links linked.0, linked.1);
        begun = λ y there. elim (contains_cases x earlier y there) [
          | inl same ↦ subst (λ (z : WindowLog). frame_start s z.frame < t) same
              (subst (λ (f : ℕ). frame_start s f < t) (sym frame) (begun first (contains_head first earlier)))
          | inr old ↦ begun y (contains_tail first earlier y old)
        ];
        added = λ f past.
            (let old : HasAdded f logs = on.added f past in
            added_by f first earlier open_ x frame old.newer (sym is ∙ old.is) old.later old.closed);
      }
