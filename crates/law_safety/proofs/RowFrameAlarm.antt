-- The alarm of a frame: the node goes on to the next frame, and the life of its rank with it.
use Rattle.std.proofs.Common.{◌≡◌, ℕ, suc, ◌+◌, ◌/◌, ◌<◌, ◌≤◌, inl, inr, List, length, Bool, true, false, ◌==◌, if◌then◌else◌, Some, None, Option, fold}
use Rattle.std.proofs.Common.{Contains, refl, sym, ◌∙◌, ap, subst, arith, true≢false}
use Rattle.lwb_base.specs.declared.limits.TheConstants.{MOST_FRAMES}
use Rattle.lwb_base.specs.Messages.{Plan}
use Rattle.lwb_base.specs.declared.event.Event.TheVariants.{Alarm}
use Rattle.time_reference.specs.Budgets.{budget_of}
use Rattle.time_reference.specs.Reference.{host_zero}
use Rattle.time_reference.specs.Zeros.{Good}
use Rattle.time_reference.proofs.Points.{host_good}
use Rattle.bus_rules.specs.declared.tune.Tune.{Tune}
use Rattle.bus_rules.specs.declared.tune.Tune.TheVariants.{Scan, Hold, Host}
use Rattle.bus_rules.specs.Tuning.{rank_of, hosts, next_tune}
use Rattle.bus_rules.specs.Cores.{Core, Setup, is_fresh, empty_plan, new_host}
use Rattle.radio_model.specs.declared.sending.Sending.{Sending}
use Rattle.scenario_text.specs.ScenarioParts.{ScenarioParts}
use Rattle.node_core.specs.declared.stage.Stage.TheVariants.{AwaitSlot}
use Rattle.node_core.specs.Nodes.{Node, stopped_frame, frame_alarm, zero_of_host}
use Rattle.node_core.specs.Rows.{Stepped, frame_alarms}
use Rattle.air_log.specs.declared.entry.Entry.{Entry}
use Rattle.air_log.specs.Devices.{Device, Power, PowerOn, OrderedPacket}
use Rattle.scenario_text.specs.Setups.{setup_of}
use Rattle.law_trails.specs.Lives.{Step, Ends, IsPast, after_step, plan_after, ByTune, ByPower, HostsQuietly}
use Rattle.law_trails.specs.Obeying.{channel_if_on, channel_by, alarm_by, ordered_by}
use Rattle.law_trails.specs.Phases.{Alarms}
use Rattle.law_trails.specs.Walks.{AwaitsFrame, device_after_row}
use Rattle.law_trails.proofs.HostRanks.{host_is_of_rank}
use Rattle.law_trails.proofs.LifeSteps.{step_quiet}
use Rattle.law_trails.proofs.RowsOfDevices.{row_obeyed}
use Rattle.law_trails.proofs.UnstoppedTimes.{host_sum}
use Rattle.law_safety.specs.SentPlans.{IsHostOf, FitsRound, IsPlanned, HasHeardPlan}
use Rattle.law_safety.specs.StillDevices.{IsStill}
use Rattle.law_safety.specs.RoundZeros.{GoodFor}
use Rattle.law_safety.specs.TunedNodes.{IsTunedAt, Waits}
use Rattle.law_safety.specs.KnownPlans.{InRound}
use Rattle.law_safety.specs.NodesInOrder.{IsOn, InOrderBy}
use Rattle.law_safety.specs.QuietHosts.{HostsInOrder, LivesBy, LivesAs, IsOrderedBy}
use Rattle.law_safety.specs.Rows.{IsFine, AtTick, FrameAlarmRow, AlarmElsewhereRow}
use Rattle.law_safety.proofs.EndedFrames.{empty_short, orders_no_sending, after_tunes, by_next_tune, tune_next, plan_next}
use Rattle.law_safety.proofs.NextFrames.{fits, clock, still, next, f_early, on_scanning, on_resting, Rests, rests_at, waits_by}
use Rattle.law_safety.proofs.RunFacts.{host_is}

module _ (s : ScenarioParts) (clocks : ℕ → ℕ → ℕ) (air : List Entry) (v t : ℕ) (at : AtTick s clocks air v t)
    (d : Device) (n : Node) (fine : IsFine s clocks air v t Alarms d) (on : d.power ≡ PowerOn n) (awaits : AwaitsFrame n.stage) (now : d.alarm ≡ Some t) where
  abbrev set_up : Setup
  set_up = setup_of s v

  is : IsOn s clocks air v t (suc t) d n
  is = subst (λ (p : Power). InOrderBy s clocks air v t (suc t) d p) on fine.node.by_power

  rests : Rests s clocks air v t n
  rests = rests_at s clocks air v t n n.stage awaits is.tune.at is.plan.at

  abbrev g : ℕ
  g = stopped_frame (n.frame + 1)

  is_next : g ≡ n.frame + 1
  is_next = next s clocks air v t at d n is awaits now fine.before

  g_early : g ≤ MOST_FRAMES
  g_early = f_early s clocks air v t at d n is awaits now fine.before

  ranks : 1 ≤ length s.hosts
  ranks = let below = is.tune.rank in omega (arith, below)

  of_rank : (rank : ℕ) → IsHostOf s rank v → set_up.own ≡ Some rank
  of_rank rank named = (host_is_of_rank s at.run.driven.sound v rank).1 named

  named_by : (rank : ℕ) → set_up.own ≡ Some rank → IsHostOf s rank v
  named_by rank own = (host_is_of_rank s at.run.driven.sound v rank).0 own

  -- a host's zero is good for a frame from 2 on
  host_zero_good : (r z : ℕ) → IsHostOf s r v → z ≡ host_zero s.profile g → 2 ≤ g → GoodFor s clocks r v z g 0
  host_zero_good r z named zero some =
      subst (λ (h : ℕ). Good s.profile (budget_of s.profile) (clocks h) (clocks v) z g 0) (sym (host_is s r v named))
      (subst (λ (y : ℕ). Good s.profile (budget_of s.profile) (clocks v) (clocks v) y g 0) (sym zero)
      (host_good s.profile (budget_of s.profile) (fits s clocks air v t at) (clocks v) g (clock s clocks air v t at) some g_early))

  -- the life of a rank is as the node does
  module _ (rank : ℕ) (named : IsHostOf s rank v) where
    abbrev h : HostsInOrder s rank t (suc t) d
    h = fine.host rank named

    lives : LivesAs h.life n
    lives = subst (λ (p : Power). LivesBy h.life (t / s.profile.frame) p) on h.lives

    stands : ByTune rank h.life n.core.tune
    stands = subst (ByTune rank h.life) lives.tune (subst (λ (b : Bool). ByPower rank h.life b) lives.on h.quiet.stands)

    abbrev ending : Step
    ending = Ends (is_fresh n.core) (empty_plan s.profile rank n.core.boot)

    no_round : h.life.tune ≡ Host rank h.life.frame → ⊥
    no_round hosting =
        let this : n.core.tune ≡ Host rank n.frame = sym lives.tune ∙ hosting ∙ ap (λ (k : ℕ). Host rank k) lives.frame in
        let waits : Waits s clocks v n (Host rank n.frame) = (waits_by s clocks air v t n (Host rank n.frame) this refl rests).0 in
        let less : n.frame < n.frame = waits.2 in
        omega (arith, less)

  -- the end of the frame in the life of a rank
  host_after : (rank : ℕ) (named : IsHostOf s rank v) (e : Device) → e.power ≡ PowerOn (frame_alarms set_up n).node
      → e.ordered ≡ None → e.made.sent ≡ d.made.sent
      → HostsInOrder s rank t (suc t) e
  host_after rank named e power ordered sent =
      let b = h rank named in
      let l = lives rank named in
      let m = (frame_alarms set_up n).node in
      let own = of_rank rank named in
      let new = after_step rank (length s.hosts) b.life (ending rank named) in
      let tune : new.tune ≡ m.core.tune =
      ap (λ (T : Tune). next_tune T b.life.frame (is_fresh n.core) (Some rank) (length s.hosts)) l.tune
      ∙ ap (λ (k : ℕ). next_tune n.core.tune k (is_fresh n.core) (Some rank) (length s.hosts)) l.frame
      ∙ ap (λ (o : Option ℕ). next_tune n.core.tune n.frame (is_fresh n.core) o (length s.hosts)) (sym own)
      ∙ sym (tune_next set_up n) in
      let on_now : LivesAs new m = record {
        on = l.on;
        frame = ap (λ (k : ℕ). k + 1) l.frame ∙ sym is_next;
        tune = tune;
        plan = λ hosting.
            ap (λ (T : Tune). plan_after T new.tune b.life.plan (empty_plan s.profile rank n.core.boot)) l.tune
            ∙ ap (λ (T : Tune). plan_after n.core.tune T b.life.plan (empty_plan s.profile rank n.core.boot)) tune
            ∙ plan_by n.core.tune m.core.tune b.life.plan n.core.plan (empty_plan s.profile rank n.core.boot) hosting l.plan
            ∙ plan_next set_up n rank own ranks is.tune.rank hosting;
      } in
      record {
        life = new;
        quiet = step_quiet rank (length s.hosts) b.life b.quiet (ending rank named) (l.on, no_round rank named);
        lives = subst (λ (p : Power). LivesBy new (t / s.profile.frame) p) (sym power) on_now;
        opened = b.opened;
        closed = b.closed;
        sent = λ x y there. b.sent x y (subst (λ (xs : List Sending). Contains xs x) sent there);
        ordered = subst (λ (o : Option OrderedPacket). IsOrderedBy new (t / s.profile.frame) o) (sym ordered) tt;
      }
    where
      taken : (b : Bool) (p q new : Plan) → b ≡ true → (if b then new else p) ≡ (if b then new else q)
      taken true p q new is_host = refl
      taken false p q new is_host = absurd (true≢false (sym is_host))

      plan_by : (T U : Tune) (p q new : Plan) → hosts U ≡ true → (hosts T ≡ true → p ≡ q) → plan_after T U p new ≡ plan_after T U q new
      plan_by (Host r due) U p q new hosting same = same refl
      plan_by (Hold r due) U p q new hosting same = taken (hosts U) p q new hosting
      plan_by (Scan r w) U p q new hosting same = taken (hosts U) p q new hosting

  -- the node, by what its orders leave
  module _ (e : Device) (ordered : e.ordered ≡ None) (sending : e.sending ≡ None) (sent : e.made.sent ≡ d.made.sent) where
    abbrev InOrderThen : Stepped → Type 0
    InOrderThen r =
        channel_if_on e.listening ≡ fold channel_by (channel_if_on d.listening) r.orders
        → e.alarm ≡ fold (alarm_by (clocks v) t) None r.orders
        → IsOn s clocks air v t (suc t) e r.node

    abbrev core_with : Tune → Core
    core_with T = record (n.core) { tune = T; own_slot = None }

    scanning : (r w : ℕ) → r < length s.hosts → InOrderThen (after_tunes set_up n (Scan r w) (Scan r w))
    scanning r w below channel alarm =
        on_scanning s clocks air v t at d n is awaits now fine.before e (Some r) (frame_alarm s.profile g) channel alarm ordered sending sent
        (core_with (Scan r w)) n.zero r w refl refl below refl refl

    holding : (r due : ℕ) → n.core.tune ≡ Hold r due → n.frame < due → InOrderThen (after_tunes set_up n (Hold r due) (Hold r due))
    holding r due tune ahead channel alarm =
        let below : r < length s.hosts = subst (λ (T : Tune). rank_of T < length s.hosts) tune is.tune.rank in
        let old = waits_by s clocks air v t n (Hold r due) tune refl rests in
        let good : GoodFor s clocks r v n.zero due 0 = old.0 ahead in
        let of_plan = old.1 ahead in
        let planned : IsPlanned s air r due n.core.plan = subst (λ (T : Tune). IsPlanned s air (rank_of T) due n.core.plan) tune of_plan.1.planned in
        let heard : HasHeardPlan s air v r due n.core.plan (suc t) =
        subst (λ (T : Tune). hosts T ≡ false → HasHeardPlan s air v (rank_of T) due n.core.plan (suc t)) tune of_plan.1.heard refl in
        on_resting s clocks air v t at d n is awaits now fine.before e None (if due == g then n.zero else frame_alarm s.profile g)
        channel alarm ordered sending sent
        (core_with (Hold r due)) n.zero due refl below refl ahead
        (record {
          waits = λ later. (λ again. good);
          plan = λ later. (λ again. (of_plan.0, record { planned = planned; heard = λ guest. heard }));
          good = λ at_due. subst (λ (k : ℕ). GoodFor s clocks r v n.zero k 0) at_due good;
          round = λ at_due. at_due;
          of_plan = λ at_due. record {
            fits = of_plan.0;
            known = λ why. record {
              planned = subst (λ (k : ℕ). IsPlanned s air r k n.core.plan) at_due planned;
              heard = λ guest. subst (λ (k : ℕ). HasHeardPlan s air v r k n.core.plan (suc t)) at_due heard;
            };
            fresh = λ fresh. absurd (true≢false (sym fresh));
          };
        })
        (due == g) refl refl

    -- a host knows its plan before it says it
    unsaid : (r ahead : ℕ) (core : Core) (z : ℕ) → core.tune ≡ Host r ahead → is_fresh core ≡ false → FitsRound s r core.plan
        → InRound s clocks air v (suc t) (record { core = core; frame = g; zero = z; stage = AwaitSlot 0 }) 0 core.plan
    unsaid r ahead core z tune stale room = record {
      fits = subst (λ (k : ℕ). FitsRound s k core.plan) (sym (ap rank_of tune)) room;
      known = λ why. elim why [
        | inl guest ↦ absurd (true≢false (sym (ap hosts tune) ∙ guest))
        | inr behind ↦ absurd (omega (arith, behind))
      ];
      fresh = λ fresh. absurd (true≢false (sym fresh ∙ stale));
    }

    hosting_on : (r due : ℕ) → n.core.tune ≡ Host r due → InOrderThen (after_tunes set_up n (Host r due) (Host r due))
    hosting_on r due tune channel alarm =
        let below : r < length s.hosts = subst (λ (T : Tune). rank_of T < length s.hosts) tune is.tune.rank in
        let old = waits_by s clocks air v t n (Host r due) tune refl rests in
        let named : IsHostOf s r v = old.0.0 in
        let zero : n.zero ≡ host_zero s.profile due = old.0.1 in
        let room : FitsRound s r n.core.plan = old.1 in
        let quiet : HostsQuietly r (h r named).life r due = subst (ByTune r (h r named).life) tune (stands r named) in
        let some : 2 ≤ due = (let waited = quiet.waited in omega (arith, waited)) in
        on_resting s clocks air v t at d n is awaits now fine.before e None (if due == g then n.zero else frame_alarm s.profile g)
        channel alarm ordered sending sent
        (core_with (Host r due)) n.zero due refl below refl old.0.2
        (record {
          waits = λ later. (named, zero, later);
          plan = λ later. room;
          good = λ at_due. host_zero_good r n.zero named (subst (λ (k : ℕ). n.zero ≡ host_zero s.profile k) at_due zero) (omega (arith, some, at_due));
          round = λ at_due. (named, subst (λ (k : ℕ). n.zero ≡ host_zero s.profile k) at_due zero, at_due);
          of_plan = λ at_due. unsaid r due (core_with (Host r due)) n.zero refl refl room;
        })
        (due == g) refl refl

    becoming : (r w : ℕ) → n.core.tune ≡ Scan r w → set_up.own ≡ Some r → w + 1 ≡ 5 → InOrderThen (after_tunes set_up n (Scan r w) (Host r (n.frame + 1)))
    becoming r w tune own five channel alarm =
        let below : r < length s.hosts = subst (λ (T : Tune). rank_of T < length s.hosts) tune is.tune.rank in
        let named : IsHostOf s r v = named_by r own in
        let z = zero_of_host s.profile (n.frame + 1) in
        let ahead = n.frame + 1 in
        let core = new_host s.profile r (core_with (Host r ahead)) in
        let same : ahead ≡ g = sym is_next in
        let g_few = g_early in
        let zero : z ≡ host_zero s.profile g =
        host_sum s.profile (budget_of s.profile) (fits s clocks air v t at) ahead (omega (arith, g_few, same)) ∙ ap (host_zero s.profile) same in
        let scanned : (((h r named).life.boot + w) ≤ (h r named).life.frame) × IsPast (h r named).life (h r named).life.boot =
        subst (ByTune r (h r named).life) tune (stands r named) in
        let framed = (lives r named).frame in
        let some : 2 ≤ g = (let waited = scanned.0 in omega (arith, waited, framed, five, same)) in
        on_resting s clocks air v t at d n is awaits now fine.before e None (if ahead == g then z else frame_alarm s.profile g)
        channel alarm ordered sending sent
        core z ahead refl below refl (omega arith)
        (record {
          waits = λ later. absurd (omega (arith, later, same));
          plan = λ later. absurd (omega (arith, later, same));
          good = λ at_due. host_zero_good r z named zero some;
          round = λ at_due. (named, zero, at_due);
          of_plan = λ at_due. unsaid r ahead core z refl refl (record { of_rank = refl; short = empty_short s at.run.driven.sound r n.core.boot });
        })
        (ahead == g) refl refl

    on_after : InOrderThen (frame_alarms set_up n)
    on_after = by_next_tune set_up n InOrderThen ranks is.tune.rank scanning holding hosting_on becoming

pub frame_alarm_row : FrameAlarmRow
frame_alarm_row s clocks air v t at d n here due_now on awaits =
    let b = row_obeyed (clocks v) (setup_of s v) t Alarm None (record d { alarm = None }) n (frame_alarms (setup_of s v) n) in
    let e = device_after_row (clocks v) (setup_of s v) t Alarm None (record d { alarm = None }) n (frame_alarms (setup_of s v) n) in
    let fine = here.holds in
    let is_on = is s clocks air v t at d n fine on awaits due_now.due in
    let m = (frame_alarms (setup_of s v) n).node in
    let orders_none : fold (ordered_by (clocks v) t) d.ordered (frame_alarms (setup_of s v) n).orders ≡ d.ordered =
    orders_no_sending s.profile m.core.tune m.frame m.zero (clocks v) t d.ordered in
    let resting : IsStill d = still s clocks air v t at d n is_on awaits due_now.due fine.before in
    let none : e.ordered ≡ None = b.ordered ∙ orders_none ∙ resting.ordered in
    let silent : e.sending ≡ None = b.sending ∙ resting.sending in
    record {
      node = record {
        by_power = subst (λ (p : Power). InOrderBy s clocks air v t (suc t) e p) (sym b.power)
            (on_after s clocks air v t at d n fine on awaits due_now.due e none silent b.sent b.channel b.alarm);
      };
      host = λ rank named. host_after s clocks air v t at d n fine on awaits due_now.due rank named e b.power none b.sent;
      sent = λ x there. fine.sent x (subst (λ (xs : List Sending). Contains xs x) b.sent there);
      before = λ x there. fine.before x (subst (λ (xs : List Sending). Contains xs x) b.sent there);
    }

pub alarm_elsewhere_row : AlarmElsewhereRow
alarm_elsewhere_row s clocks air v t at d n here due_now on idle =
    let is_on : IsOn s clocks air v t (suc t) d n = subst (λ (p : Power). InOrderBy s clocks air v t (suc t) d p) on here.holds.node.by_power in
    absurd (subst (IsTunedAt s clocks v n) idle is_on.tune.at)
