-- At the alarm of its frame a node goes on to the next one, and is in order there.
use Rattle.std.proofs.Common.{◌≡◌, ℕ, suc, ◌+◌, ◌*◌, ◌/◌, ◌<◌, ◌≤◌, ◌⊎◌, inl, inr, List, length, Bool, true, false, ◌==◌, if◌then◌else◌, Some, None, Option}
use Rattle.std.proofs.Common.{Contains, refl, sym, ◌∙◌, ap, subst, arith, eqb-true, true≢false}
use Rattle.std.specs.Prelude.{max, slice_index}
use Rattle.std.proofs.lemmas.Bool.{cases_lt, eqb-false}
use Rattle.std.proofs.lemmas.Option.{same_Some}
use Rattle.lwb_base.specs.declared.limits.TheConstants.{MOST_FRAMES}
use Rattle.tick_clock.specs.Clocks.{IsClock, due}
use Rattle.time_reference.specs.Budgets.{Fits, budget_of}
use Rattle.time_reference.specs.Zeros.{opening_offset}
use Rattle.time_reference.proofs.Points.{after_start}
use Rattle.time_reference.proofs.Run.{alarm_after_start}
use Rattle.bus_rules.specs.declared.tune.Tune.{Tune}
use Rattle.bus_rules.specs.declared.tune.Tune.TheVariants.{Scan, Hold, Host}
use Rattle.bus_rules.specs.Tuning.{rank_of, is_scan}
use Rattle.bus_rules.specs.Cores.{Core, is_fresh}
use Rattle.radio_model.specs.declared.sending.Sending.{Sending}
use Rattle.radio_model.specs.Hearing.{slot_of_sending}
use Rattle.scenario_text.specs.ScenarioParts.{ScenarioParts}
use Rattle.node_core.specs.declared.stage.Stage.{Stage}
use Rattle.node_core.specs.declared.stage.Stage.TheVariants.{Idle, Scanning, AwaitFrame, AwaitSlot, InWindow}
use Rattle.node_core.specs.Nodes.{Node, stopped_frame, frame_alarm}
use Rattle.air_log.specs.declared.entry.Entry.{Entry}
use Rattle.air_log.specs.Devices.{Device}
use Rattle.air_log.specs.Trails.{frame_start}
use Rattle.law_trails.specs.Obeying.{channel_if_on}
use Rattle.law_trails.specs.Walks.{AwaitsFrame}
use Rattle.law_trails.proofs.UnstoppedTimes.{alarm_sum}
use Rattle.law_safety.specs.StillDevices.{IsStill}
use Rattle.law_safety.specs.CountedFrames.{IsOver, IsResting, frame_alarm_at}
use Rattle.law_safety.specs.SetAlarms.{rank_at, AlarmFor}
use Rattle.law_safety.specs.RoundZeros.{GoodFor}
use Rattle.law_safety.specs.TunedNodes.{IsTunedAt, IsRoundOf, Waits, Scans}
use Rattle.law_safety.specs.RadiosOn.{RadioFor}
use Rattle.law_safety.specs.BegunFloods.{HasBegun}
use Rattle.law_safety.specs.KnownPlans.{PlanAt, PlanFor, InRound}
use Rattle.law_safety.specs.NodesInOrder.{IsOn}
use Rattle.law_safety.specs.Rows.{AtTick}
use Rattle.law_safety.proofs.RunFacts.{run_fits, host_clock, frame_begins, frame_ends, frame_in_run, frame_from}
use Rattle.law_safety.proofs.TunedRadios.{listens_is, off_is}

module _ (s : ScenarioParts) (clocks : ℕ → ℕ → ℕ) (air : List Entry) (v t : ℕ) (at : AtTick s clocks air v t) where
  abbrev pub fits : Fits s.profile (budget_of s.profile)
  fits = run_fits s at.run.driven.sound

  abbrev pub clock : IsClock (clocks v)
  clock = at.run.driven.drift v at.known

  module _ (d : Device) (n : Node) (is : IsOn s clocks air v t (suc t) d n) (awaits : AwaitsFrame n.stage) (now : d.alarm ≡ Some t)
      (past : (x : Sending) → Contains d.made.sent x → x.start < t) where
    -- it waits for this alarm, and does nothing
    still_at : (p : Stage) → AwaitsFrame p → RadioFor n d p → IsStill d
    still_at Idle a r = absurd a
    still_at Scanning a r = r.1
    still_at AwaitFrame a r = r.1
    still_at (AwaitSlot j) a r = absurd a
    still_at (InWindow j w) a r = absurd a

    pub still : IsStill d
    still = still_at n.stage awaits is.radio.at

    alarm_at : (a : ℕ) (p : Stage) → AwaitsFrame p → AlarmFor s clocks v n a p → a ≡ frame_alarm_at s clocks v n.frame
    alarm_at a Idle awaiting set = absurd awaiting
    alarm_at a Scanning awaiting set = set
    alarm_at a AwaitFrame awaiting set = set
    alarm_at a (AwaitSlot j) awaiting set = absurd awaiting
    alarm_at a (InWindow j w) awaiting set = absurd awaiting

    pub alarm_now : t ≡ frame_alarm_at s clocks v n.frame
    alarm_now = same_Some t is.alarm.alarm (sym now ∙ is.alarm.set) ∙ alarm_at is.alarm.alarm n.stage awaits is.alarm.at

    true_early : t / s.profile.frame ≤ 4095
    true_early = frame_in_run s at.run.driven.sound t at.in_run

    -- the frame that it counts is the true one
    pub frame_true : n.frame ≡ t / s.profile.frame
    frame_true = elim is.frame.at [
      | inl same ↦ same
      | inr over ↦ absurd (
          let early = true_early in
          let counted = over.frame in
          let begun = (alarm_after_start s.profile (budget_of s.profile) fits (clocks v) clock n.frame (omega (arith, early, counted))).0 in
          let starts : n.frame * s.profile.frame < t = subst (λ (a : ℕ). n.frame * s.profile.frame < a) (sym alarm_now) begun in
          let from = frame_from s at.run.driven.sound n.frame t (omega (arith, starts)) in
          omega (arith, from, counted))
    ]

    pub early : n.frame ≤ 4095
    early = let same = frame_true in let few = true_early in omega (arith, same, few)

    abbrev pub f : ℕ
    f = stopped_frame (n.frame + 1)

    pub next : f ≡ n.frame + 1
    next = let few = early in omega (arith, few)

    -- the frame to come
    pub before_next : t < frame_start s f
    before_next =
        subst (λ (g : ℕ). t < frame_start s g) (ap (λ (g : ℕ). g + 1) (sym frame_true) ∙ sym next) (frame_ends s at.run.driven.sound t)

    is_over : (m : Node) → m.frame ≡ f → IsResting m.stage → IsOver s clocks v t m
    is_over m same rests = record {
      frame = same ∙ next ∙ ap (λ (g : ℕ). g + 1) frame_true;
      past = (let is_now : t ≡ frame_alarm_at s clocks v (t / s.profile.frame) = subst (λ (g : ℕ). t ≡ frame_alarm_at s clocks v g) frame_true alarm_now
          in omega (arith, is_now));
      rests = rests;
    }

    pub f_early : f ≤ MOST_FRAMES
    f_early = let few = early in let is_next = next in omega (arith, few, is_next)

    -- the alarm of the frame to come
    next_alarm : max (due (clocks v) (frame_alarm s.profile f)) t ≡ frame_alarm_at s clocks v f
    next_alarm =
        let few = f_early in
        let sum = alarm_sum s.profile (budget_of s.profile) fits f (omega (arith, few)) in
        let same : due (clocks v) (frame_alarm s.profile f) ≡ due (clocks v) (f * s.profile.frame + s.profile.end) = ap (due (clocks v)) sum in
        let begun = (alarm_after_start s.profile (budget_of s.profile) fits (clocks v) clock f few).0 in
        later (due (clocks v) (frame_alarm s.profile f)) (due (clocks v) (f * s.profile.frame + s.profile.end)) (f * s.profile.frame) same begun before_next
      where
        later : (a b g : ℕ) → a ≡ b → g < b → t < g → max a t ≡ b
        later a b g same begun below = omega (arith, same, begun, below)

    slot_alarm : (z : ℕ) → t < due (clocks v) (z + 0) → max (due (clocks v) z) t ≡ due (clocks v) (z + opening_offset s.profile 0)
    slot_alarm z less =
        let none : z ≡ z + opening_offset s.profile 0 = omega arith in
        let zero : z ≡ z + 0 = omega arith in
        later (due (clocks v) z) (due (clocks v) (z + 0)) (due (clocks v) (z + opening_offset s.profile 0)) (ap (due (clocks v)) zero)
        (ap (due (clocks v)) none) less
      where
        later : (a b c : ℕ) → a ≡ b → a ≡ c → t < b → max a t ≡ c
        later a b c same also less = omega (arith, same, also, less)

    -- what it began was of earlier frames
    none_begun : (x : Sending) → HasBegun s f d x → ⊥
    none_begun x begun =
        let before = past x begun.sent in
        let in_frame : frame_start s f ≤ x.start = subst (λ (g : ℕ). frame_start s g ≤ x.start) begun.frame (frame_begins s at.run.driven.sound x.start) in
        let later = before_next in
        omega (arith, before, in_frame, later)

    -- what its orders leave of the device
    module _ (e : Device) (channel : Option ℕ) (alarm : ℕ) (tuned : channel_if_on e.listening ≡ channel) (set : e.alarm ≡ Some (max (due (clocks v) alarm) t))
        (ordered : e.ordered ≡ None) (sending : e.sending ≡ None) (sent : e.made.sent ≡ d.made.sent) where
      still_then : IsStill e
      still_then = record { ordered = ordered; sending = sending }

      begun_before : (g : ℕ) (x : Sending) → HasBegun s g e x → HasBegun s g d x
      begun_before g x b = record { sent = subst (λ (xs : List Sending). Contains xs x) sent b.sent; first = b.first; frame = b.frame }

      none_then : (x : Sending) → HasBegun s f e x → ⊥
      none_then x begun = none_begun x (begun_before f x begun)

      once_then : (g : ℕ) (x y : Sending) → HasBegun s g e x → HasBegun s g e y → slot_of_sending x ≡ slot_of_sending y → x ≡ y
      once_then g x y bx by same = is.begun.once g x y (begun_before g x bx) (begun_before g y by) same

      pub on_scanning : (core : Core) (z r w : ℕ) → core.tune ≡ Scan r w → is_fresh core ≡ false → r < length s.hosts
          → channel ≡ Some r → alarm ≡ frame_alarm s.profile f
          → IsOn s clocks air v t (suc t) e (record { core = core; frame = f; zero = z; stage = Scanning })
      on_scanning core z r w tune stale below on when =
          let m : Node = record { core = core; frame = f; zero = z; stage = Scanning } in
          let rank : rank_at m ≡ r = ap rank_of tune in
          record {
            frame = record { at = inr (is_over m refl tt); began = tt };
            alarm = record {
              alarm = frame_alarm_at s clocks v f;
              set = set ∙ ap (λ (a : ℕ). Some (max (due (clocks v) a) t)) when ∙ ap (λ (a : ℕ). Some a) next_alarm;
              at = refl;
            };
            tune = record { rank = subst (λ (k : ℕ). k < length s.hosts) (sym rank) below; at = subst (Scans s clocks v m) (sym tune) stale };
            radio = record { at = (listens_is (rank_at m) e.listening (tuned ∙ on ∙ ap (λ (k : ℕ). Some k) (sym rank)), still_then) };
            begun = record { at = none_then; once = once_then };
            plan = record { at = tt };
            window = tt;
          }

      -- it waits for its round of the frame `ahead`
      module _ (core : Core) (z ahead : ℕ) (stale : is_fresh core ≡ false) (below : rank_of core.tune < length s.hosts) (off : channel ≡ None) where
        abbrev pub at_stage : Stage → Node
        at_stage p = record { core = core; frame = f; zero = z; stage = p }

        pub record IsReady : Type 0 where
          pub waits : f < ahead → Waits s clocks v (at_stage AwaitFrame) core.tune
          pub plan : f < ahead → PlanFor s clocks air v (suc t) (at_stage AwaitFrame) core.tune
          pub good : ahead ≡ f → GoodFor s clocks (rank_of core.tune) v z f 0
          pub round : ahead ≡ f → IsRoundOf s clocks v (at_stage (AwaitSlot 0)) 0 false core.tune
          pub of_plan : ahead ≡ f → InRound s clocks air v (suc t) (at_stage (AwaitSlot 0)) 0 core.plan

        pub on_resting : n.frame < ahead → IsReady → (b : Bool) → (ahead == f) ≡ b → alarm ≡ (if b then z else frame_alarm s.profile f)
            → IsOn s clocks air v t (suc t) e (at_stage (if b then AwaitSlot 0 else AwaitFrame))
        on_resting later ready true now_is when =
            let due_now : ahead ≡ f = eqb-true ahead f now_is in
            let good : GoodFor s clocks (rank_of core.tune) v z f 0 = ready.good due_now in
            let host = host_clock s clocks at.run.driven (rank_of core.tune) below in
            let starts = after_start s.profile (budget_of s.profile) fits (clocks (slice_index s.hosts (rank_of core.tune))) (clocks v) z f host clock good in
            let less : t < due (clocks v) (z + 0) = (let before = before_next in omega (arith, before, starts)) in
            record {
              frame = record { at = inr (is_over (at_stage (AwaitSlot 0)) refl refl); began = inl refl };
              alarm = record {
                alarm = due (clocks v) (z + opening_offset s.profile 0);
                set = set ∙ ap (λ (a : ℕ). Some (max (due (clocks v) a) t)) when ∙ ap (λ (a : ℕ). Some a) (slot_alarm z less);
                at = inl refl;
              };
              tune = record {
                rank = below;
                at = record {
                  slot = omega arith;
                  good = subst (λ (q : ℕ). GoodFor s clocks (rank_of core.tune) v z f q) (omega arith) good;
                  round = ready.round due_now;
                };
              };
              radio = record { at = (off_is e.listening (tuned ∙ off), still_then) };
              begun = record { at = λ x begun. absurd (none_then x begun); once = once_then };
              plan = record { at = ready.of_plan due_now };
              window = tt;
            }
        on_resting later ready false not_now when =
            let beyond : f < ahead = (
            let other = eqb-false ahead f not_now in
            let is_next = next in
            elim (cases_lt f ahead) [ inl less ↦ less | inr at_most ↦ absurd (other (omega (arith, later, is_next, at_most))) ]) in
            record {
              frame = record { at = inr (is_over (at_stage AwaitFrame) refl tt); began = tt };
              alarm = record {
                alarm = frame_alarm_at s clocks v f;
                set = set ∙ ap (λ (a : ℕ). Some (max (due (clocks v) a) t)) when ∙ ap (λ (a : ℕ). Some a) next_alarm;
                at = refl;
              };
              tune = record { rank = below; at = ready.waits beyond };
              radio = record { at = (off_is e.listening (tuned ∙ off), still_then) };
              begun = record { at = tt; once = once_then };
              plan = record { at = ready.plan beyond };
              window = tt;
            }

-- between rounds: it scans, or waits for its next round
module _ (s : ScenarioParts) (clocks : ℕ → ℕ → ℕ) (air : List Entry) (v t : ℕ) (n : Node) where
  abbrev pub Rests : Type 0
  Rests = Scans s clocks v n n.core.tune ⊎ (Waits s clocks v n n.core.tune × PlanFor s clocks air v (suc t) n n.core.tune)

  pub rests_at : (p : Stage) → AwaitsFrame p → IsTunedAt s clocks v n p → PlanAt s clocks air v (suc t) n p → Rests
  rests_at Idle awaiting tuned plan = absurd awaiting
  rests_at Scanning awaiting tuned plan = inl tuned
  rests_at AwaitFrame awaiting tuned plan = inr (tuned, plan)
  rests_at (AwaitSlot j) awaiting tuned plan = absurd awaiting
  rests_at (InWindow j w) awaiting tuned plan = absurd awaiting

  no_scan : (T : Tune) → is_scan T ≡ false → Scans s clocks v n T → ⊥
  no_scan (Scan r w) other is = true≢false other
  no_scan (Hold r due) other is = is
  no_scan (Host r due) other is = is

  pub waits_by : (T : Tune) → n.core.tune ≡ T → is_scan T ≡ false → Rests → Waits s clocks v n T × PlanFor s clocks air v (suc t) n T
  waits_by T is other rests =
      elim rests [
        | inl scans ↦ absurd (no_scan T other (subst (Scans s clocks v n) is scans))
        | inr waits ↦ (subst (Waits s clocks v n) is waits.0, subst (PlanFor s clocks air v (suc t) n) is waits.1)
      ]
