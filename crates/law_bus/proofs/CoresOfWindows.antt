-- The windows of a valid run are those of the bus, and their cores too.
use Rattle.std.proofs.Common.{◌≡◌, ℕ, suc, ◌<◌, ◌≤◌, List, Bool, true, false, if◌then◌else◌, Some, None, Option, Contains, is_some, refl, sym, ◌∙◌, ap, subst}
use Rattle.std.proofs.Common.{arith, true≢false}
use Rattle.std.specs.Option.{IfSome}
use Rattle.std.proofs.lemmas.Bool.{cond-true}
use Rattle.lwb_base.specs.Messages.{Plan}
use Rattle.bus_rules.specs.Plans.{last_slot}
use Rattle.bus_rules.specs.Cores.{Core, is_member}
use Rattle.bus_rules.specs.Slots.{Opened, part_of, opened_slot}
use Rattle.bus_rules.specs.States.{State, StateOff, StateOn}
use Rattle.scenario_text.specs.ScenarioParts.{ScenarioParts}
use Rattle.scenario_text.specs.FloodParts.{knows}
use Rattle.air_log.specs.declared.entry.Entry.{Entry}
use Rattle.air_log.specs.Devices.{state_of_power}
use Rattle.air_log.specs.Lawful.{trail_in}
use Rattle.air_log.specs.Trails.{run_end}
use Rattle.air_log.specs.WindowLogs.{WindowLog, Closing}
use Rattle.law_trails.proofs.SentInTrails.{sent_lasts}
use Rattle.law_safety.proofs.RunFacts.{frame_below}
use Rattle.law_windows.specs.WindowTimes.{IsInTime}
use Rattle.law_windows.proofs.WindowFacts.{open_in_time}
use Rattle.scenario_text.specs.Setups.{setup_of}
use Rattle.bus_terms.specs.Rounds.{opened_at, round_plan}
use Rattle.bus_terms.specs.Bus.{state_at}
use Rattle.law_terms.specs.LawfulRuns.{IsLawfulRun}
use Rattle.bus_terms.specs.HostedRounds.{node_before}
use Rattle.law_terms.specs.SlotLaws.{CoresLaw, IsAligned, IsRound, IsWindowOf, WindowsLaw}
use Rattle.law_terms.specs.SlotSteps.{IsFrameStart, IsSlotStart, IsSlotHeard, SlotHeardLaw}
use Rattle.law_terms.specs.RunLaws.{RunLaw}
use Rattle.law_bus.specs.AllSlots.{AllSlotsLaw}
use Rattle.law_bus.proofs.BusLeaders.{has_round}
use Rattle.law_bus.proofs.FramesInTurn.{starts, hears, frame_starts}
use Rattle.law_bus.proofs.LedRounds.{led_round}
use Rattle.law_bus.proofs.PlannedRounds.{placed}
use Rattle.law_bus.proofs.RoundsInTurn.{round_planned}
use Rattle.law_bus.proofs.RunsOfLogs.{run, known_by}
use Rattle.law_bus.proofs.SlotsAtNodes.{left_by_window, up}
use Rattle.law_bus.proofs.WindowsInTurn.{of_kind}
use Rattle.law_bus.proofs.WindowsOfRounds.{OfRoundBy}

module _ (heards : SlotHeardLaw) where
  pub run_law : RunLaw
  run_law s clocks air lawful v f known in_run = frame_starts heards s clocks air lawful f (omega (arith, in_run)) v known

  pub all_slots : AllSlotsLaw
  all_slots s clocks air lawful rank f j p round within =
      let in_run = round.in_run in
      let found : IsFrameStart s clocks air f = frame_starts heards s clocks air lawful f (omega (arith, in_run)) in
      (starts heards s clocks air lawful f found rank p round j within, hears heards s clocks air lawful f found rank p round j within)

  -- a member of the bus has a window, and who has one is a member
  opens_at : (s : ScenarioParts) (rank f j v : ℕ) (p : Plan) (x : State) → is_some (opened_at s rank f (part_of p j) v x) ≡ true
      → (c : Core) × (x ≡ StateOn c) × (is_member rank f c ≡ true)
  opens_at s rank f j v p (StateOff boots) is = absurd (true≢false (sym is))
  opens_at s rank f j v p (StateOn c) is = (c, refl, by_test (is_member rank f c) (Some (opened_slot (setup_of s v) f (part_of p j) c)) is)
    where
      by_test : (b : Bool) (o : Option Opened) → is_some (if b then o else None) ≡ true → b ≡ true
      by_test true o is = refl
      by_test false o is = absurd (true≢false (sym is))

  pub windows_law : WindowsLaw
  windows_law s clocks air lawful rank f j v p round within known =
      let start = (all_slots s clocks air lawful rank f j p round within).0 in (
        (λ is. let on = opens_at s rank f j v p (node_before s rank f p j v) is in start.window v on.0 known on.1 on.2),
        (λ has.
            let w = has.window in
            ap (λ (x : State). is_some (opened_at s rank f (part_of p j) v x)) (start.core v w has.here has.by_alarm)
            ∙ ap (λ (o : Option Opened). is_some o)
            (cond-true (is_member rank f w.before.core) (Some (opened_slot (setup_of s v) f (part_of p j) w.before.core)) None
            (start.member v w has.here has.by_alarm))),
      )

  -- a window is of a frame of the run
  module _ (s : ScenarioParts) (clocks : ℕ → ℕ → ℕ) (air : List Entry) (lawful : IsLawfulRun s clocks air) (v : ℕ) (w : WindowLog)
      (there : Contains (trail_in s clocks air v).made.windows w) where
    is_node : knows s.nodes v ≡ true
    is_node = known_by s clocks air lawful v w there

    timed : IsInTime s clocks air v w
    timed = open_in_time s clocks air (run s clocks air lawful) v is_node (run_end s) (omega arith) w there

    by_kind : (b : Bool) → w.by_alarm ≡ b → OfRoundBy s clocks air v b (run_end s) w → w.frame < s.frames
    by_kind true alarm is =
        subst (λ (g : ℕ). g < s.frames) timed.frame (frame_below s lawful.sound s.frames w.opened is.opened)
    by_kind false joined is =
        (let sent = ((run s clocks air lawful).heedful.heard v is.heard is.there).sent in
        let early = (sent_lasts s clocks air (run s clocks air lawful).heedful.trails is.heard sent).0 in
        subst (λ (g : ℕ). g < s.frames) is.of_slot.frame (frame_below s lawful.sound s.frames is.heard.start early))

    pub frame_in_run : w.frame < s.frames
    frame_in_run = by_kind w.by_alarm refl (of_kind s clocks air lawful v w w.by_alarm there refl)

    abbrev f : ℕ
    f = w.frame

    here : IsWindowOf s clocks air w.rank f w.slot v w
    here = record { there = there; frame = refl; channel = refl; slot = refl }

    found : IsFrameStart s clocks air f
    found = (let in_run = frame_in_run in frame_starts heards s clocks air lawful f (omega (arith, in_run)))

    round_there : (p : Plan) × (round_plan s w.rank f (state_at s f) ≡ Some p)
    round_there =
        let led = led_round s clocks air lawful w.rank f frame_in_run w.slot v w here in
        has_round s w.rank f (state_at s f) led.host led.node.core led.known (sym (found led.host led.known) ∙ ap state_of_power led.on) led.leads

    round_of : IsRound s w.rank f round_there.0
    round_of = record { in_run = frame_in_run; hosted = timed.hosted; plan = round_there.1 }

    abbrev p : Plan
    p = round_there.0

    within : w.slot ≤ last_slot p
    within = (placed s clocks air lawful w.rank f frame_in_run p
        (round_planned s clocks air lawful w.rank f frame_in_run found p round_of) w.slot v w here).within

    start : IsSlotStart s clocks air w.rank f p w.slot
    start = (all_slots s clocks air lawful w.rank f w.slot p round_of within).0

    heard : IsSlotHeard s clocks air w.rank f p w.slot
    heard = (all_slots s clocks air lawful w.rank f w.slot p round_of within).1

    before_by : (b : Bool) → w.by_alarm ≡ b → node_before s w.rank f p w.slot v ≡ StateOn w.before.core
    before_by true alarm = start.core v w here alarm
    before_by false joined = up s clocks air lawful w.rank f frame_in_run w.slot p start heard v w here joined

    after_by : (o : Option Closing) → w.closed ≡ o → IfSome o (λ c. StateOn c.after.core ≡ node_before s w.rank f p (suc w.slot) v)
    after_by None is = tt
    after_by (Some c) is = sym (left_by_window s clocks air lawful w.rank f frame_in_run w.slot p start heard v w here c is)

    pub aligned : IsAligned s v w
    aligned = record {
      plan = p;
      round = round_of;
      slot = within;
      before = sym (before_by w.by_alarm refl);
      after = after_by w.closed refl;
    }

  pub cores_law : CoresLaw
  cores_law s clocks air lawful v w known there = aligned s clocks air lawful v w there
