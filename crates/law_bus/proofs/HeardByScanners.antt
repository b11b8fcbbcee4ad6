-- Who receives a schedule of its rank has a window that is open then.
use Rattle.std.proofs.Common.{◌≡◌, ℕ, suc, ◌-◌, ◌/◌, ◌<◌, ◌≤◌, inl, inr, List, true, ◌==◌, Some}
use Rattle.std.proofs.Common.{None, Option, Contains, fold, length, refl, sym, ◌∙◌, ap, subst, arith, eq-eqb}
use Rattle.std.specs.Option.{IfSome}
use Rattle.lwb_base.specs.Messages.{Schedule}
use Rattle.bus_rules.specs.Slots.{ScheduleOf}
use Rattle.lwb_member.specs.Said.{message_of}
use Rattle.node_core.specs.declared.stage.Stage.{Stage}
use Rattle.node_core.specs.declared.stage.Stage.TheVariants.{Idle, Scanning, AwaitFrame, AwaitSlot, InWindow}
use Rattle.node_core.specs.Nodes.{Node}
use Rattle.scenario_text.specs.ScenarioParts.{ScenarioParts}
use Rattle.scenario_text.specs.FloodParts.{knows}
use Rattle.radio_model.specs.declared.sending.Sending.{Sending}
use Rattle.radio_model.specs.Hearing.{frame_of_sending}
use Rattle.air_log.specs.declared.entry.Entry.{Entry}
use Rattle.air_log.specs.Devices.{Device, Power, PowerOff, PowerOn, Listening}
use Rattle.air_log.specs.Entries.{HasHeardEntry}
use Rattle.air_log.specs.Lawful.{heard_by, trail_in}
use Rattle.scenario_text.specs.Setups.{setup_of}
use Rattle.air_log.specs.Trails.{Reception, ending_at, device_after_reception, run_end}
use Rattle.air_log.specs.WindowLogs.{WindowLog, Closing}
use Rattle.lwb_base.proofs.Elements.{in_filtered, contains_head}
use Rattle.air_log.proofs.SendingsKept.{profile_lasts}
use Rattle.law_trails.specs.Obeying.{channel_if_on}
use Rattle.law_trails.specs.Phases.{End, device_at}
use Rattle.law_trails.specs.TrailLinks.{ListensSince, device_in}
use Rattle.law_trails.proofs.HeardInTrails.{reception_is}
use Rattle.law_trails.proofs.SentInTrails.{sent_lasts}
use Rattle.law_trails.proofs.TunedInTrails.{tuned_listens}
use Rattle.law_safety.specs.CountedFrames.{IsResting}
use Rattle.law_safety.specs.Invariant.{IsObedientRun}
use Rattle.law_safety.specs.NodesInOrder.{InOrderBy}
use Rattle.law_safety.specs.RadiosOn.{RadioFor}
use Rattle.law_safety.specs.Rows.{AtTick, IsFine}
use Rattle.law_safety.specs.SetAlarms.{rank_at}
use Rattle.law_safety.proofs.FloodTimes.{after_frame_start, before_frame_end}
use Rattle.law_safety.proofs.HeardPlaces.{listened, silent}
use Rattle.law_safety.proofs.InvariantHolds.{all_rows}
use Rattle.law_safety.proofs.RunFacts.{frame_is}
use Rattle.law_windows.specs.OpenWindows.{IsOpenFirst, StandAt, StandBy}
use Rattle.law_windows.specs.WindowSteps.{HasWindows, KeepsWindows}
use Rattle.law_windows.proofs.HeardThroughout.{nothing_told}
use Rattle.law_windows.proofs.ScannedHearings.{InSome, joined_device, stays_device}
use Rattle.law_windows.proofs.WindowWalk.{at_tick, fine_before, windows_in_phase}
use Rattle.law_terms.specs.LawfulRuns.{IsLawfulRun}
use Rattle.law_bus.proofs.RunsOfLogs.{run}
use Rattle.law_bus.proofs.KeptOpen.{IsStill, since_hearings}

module _ (s : ScenarioParts) (clocks : ℕ → ℕ → ℕ) (air : List Entry) (lawful : IsLawfulRun s clocks air) (v : ℕ) where
  abbrev pub Opened : ℕ → ℕ → WindowLog → Type 0
  Opened now taken w = w.opened ≤ now

  pub opened_steps : (t : ℕ) → KeepsWindows s clocks air v Opened t
  opened_steps t = record {
    begun = λ d n j fine due on stage. omega arith;
    joined = λ d h n y fine next now on stage says rank. omega arith;
    heard = λ d h n j w x here next now on stage is in_it known. known;
    taken = λ d fine is before now x there. now.each x there;
    sent = λ d y n j w x fine enters own ends on stage waiting is in_it known. known;
    closed = λ d n j w x fine due on stage is known. known;
    passed = λ x known. omega (arith, known);
  }

  -- a window of the frame of x that is open as x ends
  pub record IsOpenAsEnds (x : Sending) : Type 0 where
    pub window : WindowLog
    pub there : Contains (trail_in s clocks air v).made.windows window
    pub frame : window.frame ≡ frame_of_sending s.profile x
    pub opened : window.opened ≤ x.end
    pub closed : IfSome window.closed (λ c. x.end ≤ c.tick)

  module _ (known : knows s.nodes v ≡ true) (x : Sending) (y : Schedule) (there : HasHeardEntry air v x)
      (says : message_of x.packet ≡ Some (ScheduleOf y)) (own : y.plan.rank ≡ x.rank) where
    abbrev t : ℕ
    t = x.end

    go : IsObedientRun s clocks air
    go = run s clocks air lawful

    in_run : t < run_end s
    in_run = ((lawful.lawful.hearing.heard v x).0 there).0

    before : x.start < t
    before =
        let lasts = sent_lasts s clocks air go.heedful.trails x (go.heedful.heard v x there).sent in
        let some = profile_lasts s.profile go.driven.sound.profile (length x.packet) in
        omega (arith, lasts.1, some)

    at : AtTick s clocks air v t
    at = at_tick s clocks air v Opened all_rows go known t in_run

    frame : t / s.profile.frame ≡ frame_of_sending s.profile x
    frame =
        let sent = (go.heedful.heard v x there).sent in
        let flood = at.before.sendings x sent before in
        let from = after_frame_start s clocks air go x flood sent in
        let until = before_frame_end s clocks air go x flood sent in
        let first = before in
        frame_is s (frame_of_sending s.profile x) t (omega (arith, from, first)) (omega (arith, until))

    abbrev d : Device
    d = device_in s clocks air v t

    abbrev e : Device
    e = device_at s v (clocks v) (heard_by air v) t End

    listens : ListensSince x.rank (t - 1) d
    listens =
        let first = before in
        let tuned = ((lawful.lawful.hearing.heard v x).0 there).1.tuned (t - 1) (omega (arith, first)) (omega (arith, first)) in
        subst (λ (k : ℕ). ListensSince x.rank (t - 1) (device_in s clocks air v k)) (omega (arith, first))
        (tuned_listens s clocks air go.heedful.trails v x.rank (t - 1) tuned)

    channel : channel_if_on d.listening ≡ Some x.rank
    channel = ap (λ (l : Option Listening). channel_if_on l) listens.is ∙ ap (λ (r : ℕ). Some r) listens.channel

    abbrev h : Reception
    h = record { packet = x.packet; end = x.end }

    among : Contains (ending_at t (heard_by air v)) h
    among = in_filtered (λ (r : Reception). r.end == t) (heard_by air v) h
        ((reception_is air v h).1 (record { sending = x; there = there; packet = refl; end = refl })) (eq-eqb x.end t refl)

    abbrev Behind : Type 0
    Behind = InSome (clocks v) (setup_of s v) t (fold (device_after_reception (clocks v) (setup_of s v) t) d (ending_at t (heard_by air v))).power

    by_stage : (n : Node) (st : Stage) → d.power ≡ PowerOn n → n.stage ≡ st → RadioFor n d st → Behind
    by_stage n Idle on stage radio = absurd radio
    by_stage n Scanning on stage radio =
        let rank = listened d.listening (rank_at n) x.rank channel radio.0 in
        joined_device (clocks v) (setup_of s v) t (ending_at t (heard_by air v)) d n on stage h among (λ other. other y says (own ∙ rank))
    by_stage n AwaitFrame on stage radio = absurd (silent d.listening x.rank channel radio.0)
    by_stage n (AwaitSlot j) on stage radio = absurd (silent d.listening x.rank channel radio.0)
    by_stage n (InWindow j w) on stage radio =
        stays_device (clocks v) (setup_of s v) t (ending_at t (heard_by air v)) d (subst (InSome (clocks v) (setup_of s v) t) (sym on) (j, w, stage))

    by_power : (p : Power) → d.power ≡ p → InOrderBy s clocks air v t t d p → Behind
    by_power (PowerOff boots) on order = absurd (silent d.listening x.rank channel order.0.radio)
    by_power (PowerOn n) on order = by_stage n n.stage on refl order.radio.at

    in_some : InSome (clocks v) (setup_of s v) t e.power
    in_some =
        let few = in_run in
        let fine = fine_before s clocks air v t (omega (arith, few)) go known at.before in
        subst (λ (z : Device). InSome (clocks v) (setup_of s v) t
        (fold (device_after_reception (clocks v) (setup_of s v) t) z (ending_at t (heard_by air v))).power)
        (sym (nothing_told s clocks air v t at x there refl)) (by_power d.power refl fine.node.by_power)

    have : IsFine s clocks air v t End e × HasWindows s v (λ w. w.opened ≤ t) t e
    have = windows_in_phase s clocks air v Opened all_rows go known (λ u now. opened_steps u) t in_run End

    still_open : (first : WindowLog) → Contains e.made.windows first → first.closed ≡ None → first.frame ≡ t / s.profile.frame → IsOpenAsEnds x
    still_open first in_it open_ of_frame =
        let is : IsStill t first (device_in s clocks air v (run_end s)).made.windows =
        since_hearings t first s v (clocks v) (heard_by air v) (run_end s) in_run (record {
          window = first;
          there = in_it;
          frame = refl;
          rank = refl;
          slot = refl;
          opened = refl;
          closed = subst (λ (c : Option Closing). IfSome c (λ c. t ≤ c.tick)) (sym open_) tt;
        }) in
        let opened = have.1.each first in_it in
        let same = is.opened in
        record {
          window = is.window;
          there = is.there;
          frame = is.frame ∙ of_frame ∙ frame;
          opened = omega (arith, opened, same);
          closed = is.closed;
        }

    by_end : (p : Power) → InSome (clocks v) (setup_of s v) t p → StandBy e.made.windows p → InOrderBy s clocks air v t (suc t) e p → IsOpenAsEnds x
    by_end (PowerOff boots) is stand order = absurd is
    by_end (PowerOn n) is stand order =
        let j = is.0 in
        let w = is.1 in
        let stage = is.2 in
        let open_ : IsOpenFirst e.made.windows n j w = subst (StandAt e.made.windows n) stage stand in
        let counted : n.frame ≡ t / s.profile.frame = elim order.frame.at [ inl now ↦ now | inr over ↦ absurd (subst IsResting stage over.rests) ] in
        still_open open_.first (subst (λ (l : List WindowLog). Contains l open_.first) (sym open_.is) (contains_head open_.first open_.earlier))
        open_.now.open_ (open_.now.frame ∙ counted)

    pub open_as_ends : IsOpenAsEnds x
    open_as_ends = by_end e.power in_some have.1.stand have.0.node.by_power
