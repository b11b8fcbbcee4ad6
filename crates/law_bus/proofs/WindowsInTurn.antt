-- The windows of a node in a frame, one after another: each closes by its row, and is followed by that of the next slot.
use Rattle.std.proofs.Common.{◌≡◌, ℕ, suc, ◌+◌, ◌<◌, ◌≤◌, List, Bool, true, nat_lt, Some, None, Option, Contains, is_some, refl, sym, ◌∙◌, ap, subst, arith}
use Rattle.std.proofs.Common.{lt-ltb, true≢false}
use Rattle.std.specs.Option.{IfSome}
use Rattle.std.proofs.lemmas.Bool.{ltb-true, cond-true, cond_both}
use Rattle.bus_rules.specs.Cores.{is_member}
use Rattle.node_core.specs.declared.stage.Stage.{Stage}
use Rattle.node_core.specs.declared.stage.Stage.TheVariants.{AwaitFrame, AwaitSlot}
use Rattle.node_core.specs.Nodes.{Node}
use Rattle.scenario_text.specs.ScenarioParts.{ScenarioParts}
use Rattle.air_log.specs.declared.entry.Entry.{Entry}
use Rattle.air_log.specs.Lawful.{trail_in}
use Rattle.air_log.specs.Trails.{run_end}
use Rattle.air_log.specs.WindowLogs.{WindowLog, Closing}
use Rattle.law_safety.specs.SetAlarms.{rank_at}
use Rattle.law_windows.specs.WindowRows.{IsOpened, OpensBy, ClosesAs}
use Rattle.law_windows.proofs.WindowFacts.{open_by_rows, close_by_rows}
use Rattle.law_terms.specs.LawfulRuns.{IsLawfulRun}
use Rattle.law_terms.specs.FrameCourses.{IsWindowIn}
use Rattle.law_terms.specs.SlotLaws.{IsWindowOf}
use Rattle.law_bus.proofs.MembersByTune.{round_taken}
use Rattle.law_bus.proofs.RunsOfLogs.{run, known_by, round_by, HasCourse, course_of}
use Rattle.law_bus.proofs.WindowsOfRounds.{OfMember, OfRoundBy}

module _ (s : ScenarioParts) (clocks : ℕ → ℕ → ℕ) (air : List Entry) (lawful : IsLawfulRun s clocks air) where
  -- the rows by which a window opens and closes
  pub opened_by : (v : ℕ) (w : WindowLog) → Contains (trail_in s clocks air v).made.windows w → IsOpened s clocks v w
  opened_by v w there = open_by_rows s clocks air (run s clocks air lawful) v
      (known_by s clocks air lawful v w there) (run_end s) (omega arith) w there

  pub closed_as : (v : ℕ) (w : WindowLog) (c : Closing) → Contains (trail_in s clocks air v).made.windows w → w.closed ≡ Some c → ClosesAs s clocks v w c
  closed_as v w c there is =
      subst (λ (o : Option Closing). IfSome o (ClosesAs s clocks v w)) is
      (close_by_rows s clocks air (run s clocks air lawful) v (known_by s clocks air lawful v w there) (run_end s) (omega arith) w there)

  pub of_kind : (v : ℕ) (w : WindowLog) (b : Bool) → Contains (trail_in s clocks air v).made.windows w
      → w.by_alarm ≡ b → OfRoundBy s clocks air v b (run_end s) w
  of_kind v w b there is = subst (λ (x : Bool). OfRoundBy s clocks air v x (run_end s) w) is (round_by s clocks air lawful v w there)

  pub opens_by : (v : ℕ) (w : WindowLog) (b : Bool) → Contains (trail_in s clocks air v).made.windows w → w.by_alarm ≡ b → OpensBy s clocks v b w
  opens_by v w b there is = subst (λ (x : Bool). OpensBy s clocks v x w) is (opened_by v w there).by

  -- the stage after it
  pub closes_on : (v : ℕ) (w : WindowLog) (c : Closing) → Contains (trail_in s clocks air v).made.windows w → w.closed ≡ Some c → w.slot < w.last.last
      → c.after.stage ≡ AwaitSlot (suc w.slot)
  closes_on v w c there is more =
      ap (λ (n : Node). n.stage) (closed_as v w c there is)
      ∙ cond-true (nat_lt w.slot w.last.last) (AwaitSlot (w.slot + 1)) AwaitFrame (lt-ltb w.slot w.last.last more)
      ∙ ap AwaitSlot (omega arith)

  pub closes_last : (v : ℕ) (w : WindowLog) (c : Closing) → Contains (trail_in s clocks air v).made.windows w → w.closed ≡ Some c → w.last.last ≤ w.slot
      → c.after.stage ≡ AwaitFrame
  closes_last v w c there is end =
      ap (λ (n : Node). n.stage) (closed_as v w c there is)
      ∙ cond_both (nat_lt w.slot w.last.last) (AwaitSlot (w.slot + 1)) AwaitFrame (λ (st : Stage). st ≡ AwaitFrame)
      (λ less. absurd (let k = ltb-true w.slot w.last.last less in omega (arith, k, end))) (λ done. refl)

  module _ (rank f : ℕ) (in_run : f < s.frames) where
    abbrev pub Of : ℕ → ℕ → WindowLog → Type 0
    Of j v w = IsWindowOf s clocks air rank f j v w

    pub in_frame : (j v : ℕ) (w : WindowLog) → Of j v w → IsWindowIn s clocks air v f w
    in_frame j v w here = record { there = here.there; frame = here.frame }

    pub goes : (j v : ℕ) (w : WindowLog) → Of j v w → HasCourse s clocks air lawful v f
    goes j v w here = course_of s clocks air lawful v f w in_run (in_frame j v w here)

    -- each closes
    pub record HasClosing (w : WindowLog) : Type 0 where
      pub closing : Closing
      pub is : w.closed ≡ Some closing

    some_closing : (w : WindowLog) (o : Option Closing) → w.closed ≡ o → is_some o ≡ true → HasClosing w
    some_closing w None is some = absurd (true≢false (sym some))
    some_closing w (Some c) is some = record { closing = c; is = is }

    pub closing_of : (j v : ℕ) (w : WindowLog) → Of j v w → HasClosing w
    closing_of j v w here = some_closing w w.closed refl ((goes j v w here).course.closes w (in_frame j v w here))

    -- and is followed by that of the next slot, if there is one
    pub record HasNext (j v : ℕ) (w : WindowLog) : Type 0 where
      pub closing : Closing
      pub closed : w.closed ≡ Some closing
      pub window : WindowLog
      pub here : Of (suc j) v window
      pub by_alarm : window.by_alarm ≡ true
      pub node : window.before ≡ closing.after

    pub next_of : (j v : ℕ) (w : WindowLog) → Of j v w → w.slot < w.last.last → HasNext j v w
    next_of j v w here more =
        let c = closing_of j v w here in
        let stage = closes_on v w c.closing here.there c.is more in
        let next = (goes j v w here).course.goes_on w c.closing (in_frame j v w here) c.is stage in
        record {
          closing = c.closing;
          closed = c.is;
          window = next.window;
          here = record {
            there = next.here.there;
            frame = next.here.frame;
            channel = next.channel ∙ here.channel;
            slot = next.slot ∙ ap suc here.slot;
          };
          by_alarm = next.by_alarm;
          node = next.node;
        }

    module _ (j v : ℕ) (w : WindowLog) (here : Of j v w) (alarm : w.by_alarm ≡ true) where
      pub as_member : OfMember s clocks air v (run_end s) w
      as_member = of_kind v w true here.there alarm

      pub frame_is : w.before.frame ≡ f
      frame_is = (opened_by v w here.there).frame_before ∙ here.frame

      pub rank_is : rank_at w.before ≡ rank
      rank_is = (opened_by v w here.there).rank_before ∙ here.channel

      pub takes_part : is_member rank f w.before.core ≡ true
      takes_part =
          subst (λ (r : ℕ). is_member r f w.before.core ≡ true) rank_is
          (subst (λ (g : ℕ). is_member (rank_at w.before) g w.before.core ≡ true) frame_is
          (round_taken s clocks v w.before w.slot w.before.core.tune as_member.member.round))
