-- Where a node of a run is at the end of a frame, and what has become of its windows by the end of the run.
use Rattle.std.proofs.Common.{◌≡◌, ℕ, suc, ◌-◌, ◌/◌, ◌<◌, ◌≤◌, inl, inr, List, [], ◌∷◌, ◌++◌, true, Contains, sym, ◌∙◌, ap, subst, arith}
use Rattle.std.proofs.Math.Nat.{mul-le-mul_right}
use Rattle.std.proofs.lemmas.List.Elements.{Contains-append_cases, Contains-append_right}
use Rattle.node_core.specs.Nodes.{Node}
use Rattle.scenario_text.specs.ScenarioParts.{ScenarioParts}
use Rattle.scenario_text.specs.FloodParts.{knows}
use Rattle.air_log.specs.declared.entry.Entry.{Entry}
use Rattle.air_log.specs.WindowLogs.{WindowLog}
use Rattle.air_log.specs.Devices.{Device, Power, PowerOff, PowerOn}
use Rattle.air_log.specs.Lawful.{heard_by}
use Rattle.air_log.specs.Trails.{run_end, frame_start}
use Rattle.law_trails.specs.Phases.{Hearings, Over, device_at}
use Rattle.law_trails.specs.TrailLinks.{device_in}
use Rattle.law_trails.specs.Walks.{NoWindow}
use Rattle.law_safety.specs.Invariant.{Invariant, IsObedientRun}
use Rattle.law_safety.specs.NodesInOrder.{InOrderBy}
use Rattle.law_safety.specs.Rows.{AllRows}
use Rattle.law_safety.proofs.FrameStarts.{frame_before, rests_at_start, counts_at_start}
use Rattle.law_safety.proofs.Induction.{rows_suffice}
use Rattle.law_safety.proofs.RunFacts.{frame_is, frame_lasts}
use Rattle.law_windows.specs.OpenWindows.{AreClosed}
use Rattle.law_windows.proofs.PlacesWithout.{no_window}
use Rattle.law_windows.proofs.WindowWalk.{windows_in_phase}
use Rattle.law_terms.specs.FrameCourses.{IsWindowIn, power_at, power_after}
use Rattle.law_windows.proofs.OwnRanks.{IsOwn, own_steps}
use Rattle.law_windows.proofs.CourseWalk.{under_way_before, under_way_over}
use Rattle.law_windows.proofs.LinkedWindows.{AreEarlier, AreLinked, HasAdded, HasEnded, IsUnderWay, StandsIn, windows_until}

module _ (s : ScenarioParts) (clocks : ℕ → ℕ → ℕ) (air : List Entry) (v f : ℕ) where
  -- what there is of a node at the end of the frame
  abbrev pub EndsAs : List WindowLog → Power → Type 0
  EndsAs logs (PowerOff boots) = (power_at s clocks air v f ≡ PowerOff boots) × AreEarlier s clocks air v f logs
  EndsAs logs (PowerOn n) = HasEnded s clocks air v f logs n

  pub record IsEnd : Type 0 where
    pub linked : AreLinked s clocks air v (windows_until s clocks air v f)
    pub closed : AreClosed (windows_until s clocks air v f)
    -- its windows so far are of frames up to this one, and those of this one are all that the run has
    pub before : (w : WindowLog) → Contains (windows_until s clocks air v f) w → w.frame ≤ f
    pub stay : (w : WindowLog) → Contains (windows_until s clocks air v f) w → w.frame ≡ f → IsWindowIn s clocks air v f w
    pub all : (w : WindowLog) → IsWindowIn s clocks air v f w → Contains (windows_until s clocks air v f) w
    pub ends : EndsAs (windows_until s clocks air v f) (power_after s clocks air v f)

  linked_rest : (newer logs : List WindowLog) → AreLinked s clocks air v (newer ++ logs) → AreLinked s clocks air v logs
  linked_rest [] logs linked = linked
  linked_rest (x ∷ newer) logs linked = linked_rest newer logs linked.1

  module _ (rows : AllRows) (run : IsObedientRun s clocks air) (known : knows s.nodes v ≡ true) (in_run : f < s.frames) where
    abbrev next : ℕ
    next = frame_start s (suc f)

    lasts : 1 ≤ s.profile.frame
    lasts = frame_lasts s run.driven.sound

    within : next ≤ run_end s
    within = mul-le-mul_right s.profile.frame in_run

    -- the last tick of the frame
    abbrev last : ℕ
    last = next - 1

    last_is : suc last ≡ next
    last_is = let some = lasts in omega (arith, some)

    last_frame : last / s.profile.frame ≡ f
    last_frame = let some = lasts in let is = last_is in frame_is s f last (omega (arith, some, is)) (omega (arith, is))

    next_frame : next / s.profile.frame ≡ suc f
    next_frame = let some = lasts in frame_is s (suc f) next (omega arith) (omega (arith, some))

    over : IsUnderWay s clocks air v last Over (device_in s clocks air v (suc last))
    over = under_way_over s clocks air v rows run known last (let is = last_is in let few = within in omega (arith, is, few))

    stands : StandsIn s clocks air v f (windows_until s clocks air v f) (power_after s clocks air v f)
    stands =
        subst (λ (t : ℕ). StandsIn s clocks air v f (device_in s clocks air v t).made.windows (device_in s clocks air v t).power) last_is
        (subst (λ (g : ℕ). StandsIn s clocks air v g (device_in s clocks air v (suc last)).made.windows (device_in s clocks air v (suc last)).power) last_frame
        (over.stands tt))

    -- a node that is on counts the next frame
    ends_by : (d : Device) (p : Power) → InOrderBy s clocks air v next next d p → StandsIn s clocks air v f (windows_until s clocks air v f) p
        → EndsAs (windows_until s clocks air v f) p
    ends_by d (PowerOff boots) order stands = stands
    ends_by d (PowerOn n) order stands =
        let few = run.driven.sound.few_frames in
        let same = next_frame in
        let start : frame_start s (next / s.profile.frame) ≡ next = ap (frame_start s) same in
        let none : NoWindow n.stage = no_window n.stage (rests_at_start s clocks v next n start order.frame) in
        let counted : n.frame ≡ next / s.profile.frame =
        counts_at_start s clocks v next n start run.driven.sound (run.driven.drift v known) (omega (arith, few, same, in_run)) order.frame in
        elim (stands none) [
          | inl here ↦ (let at = here.0 in absurd (omega (arith, at, counted, same)))
          | inr ended ↦ ended.1
        ]

    invariant : Invariant s clocks air next
    invariant = rows_suffice rows s clocks air run next within

    added : HasAdded s clocks air v f (device_in s clocks air v (run_end s)).made.windows
    added = (under_way_before s clocks air v rows run known (run_end s) (omega arith)).windows.added f within

    pub is_end : IsEnd
    is_end =
        let whole = under_way_before s clocks air v rows run known (run_end s) (omega arith) in
        let more = added in
        let until = (under_way_before s clocks air v rows run known next within).windows in
        record {
          linked = linked_rest more.newer (windows_until s clocks air v f) (subst (AreLinked s clocks air v) more.is whole.windows.linked);
          closed = more.closed;
          before = λ w there. (let below = frame_before s w.frame (suc f) (until.begun w there) in omega (arith, below));
          stay = λ w there frame. record {
            there = subst (λ (l : List WindowLog). Contains l w) (sym more.is) (Contains-append_right more.newer (windows_until s clocks air v f) w there);
            frame = frame;
          };
          all = λ w is. elim (Contains-append_cases more.newer (windows_until s clocks air v f) w
              (subst (λ (l : List WindowLog). Contains l w) more.is is.there)) [
                | inl newer ↦ (let later = more.later w newer in let of_frame = is.frame in absurd (omega (arith, later, of_frame)))
                | inr old ↦ old
              ];
          ends = ends_by (device_in s clocks air v next) (power_after s clocks air v f) (invariant.nodes v known).by_power stands;
        }

    -- a node that is on after the script lines counts the frame
    pub counted : (n : Node) → power_at s clocks air v f ≡ PowerOn n → n.frame ≡ f
    counted n on =
        let few = run.driven.sound.few_frames in
        let some = lasts in
        let most = within in
        let t = frame_start s f in
        let same : t / s.profile.frame ≡ f = frame_is s f t (omega arith) (omega (arith, some)) in
        let start : frame_start s (t / s.profile.frame) ≡ t = ap (frame_start s) same in
        let fine = (windows_in_phase s clocks air v (λ now taken w. IsOwn s clocks air v w) rows run known
        (λ u at. own_steps s clocks air v u) t (omega (arith, most, some)) Hearings).0 in
        let order : InOrderBy s clocks air v t (suc t) (device_at s v (clocks v) (heard_by air v) t Hearings) (PowerOn n) =
        subst (InOrderBy s clocks air v t (suc t) (device_at s v (clocks v) (heard_by air v) t Hearings)) on fine.node.by_power in
        counts_at_start s clocks v t n start run.driven.sound (run.driven.drift v known) (omega (arith, few, same, in_run)) order.frame ∙ same
