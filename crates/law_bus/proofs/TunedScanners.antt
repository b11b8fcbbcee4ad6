-- Who takes part in a slot without a window by an alarm is tuned through what is sent in it, tick by tick, until its last
-- own transmission has ended: after each tick it is as the frame has found it, or in the window of the slot that it has joined.
use Rattle.std.proofs.Common.{◌≡◌, ℕ, suc, ◌-◌, ◌/◌, ◌<◌, ◌≤◌, inl, inr, List, true, false, Some, Option, Contains, get_or, refl, sym}
use Rattle.std.proofs.Common.{◌∙◌, ap, subst, arith}
use Rattle.std.specs.Prelude.{◌⊎◌}
use Rattle.std.specs.Option.{IfSome}
use Rattle.lwb_base.specs.Messages.{Plan}
use Rattle.bus_rules.specs.Plans.{last_slot}
use Rattle.node_core.specs.declared.stage.Stage.{Stage}
use Rattle.node_core.specs.declared.stage.Stage.TheVariants.{Idle, Scanning, AwaitFrame, AwaitSlot, InWindow}
use Rattle.node_core.specs.Nodes.{Node}
use Rattle.node_core.specs.Windows.{Window}
use Rattle.scenario_text.specs.ScenarioParts.{ScenarioParts}
use Rattle.scenario_text.specs.FloodParts.{knows}
use Rattle.radio_model.specs.declared.sending.Sending.{Sending}
use Rattle.radio_model.specs.Hearing.{Scene, IsTuned, frame_of_sending}
use Rattle.air_log.specs.declared.entry.Entry.{Entry}
use Rattle.air_log.specs.Devices.{Device, Power, PowerOff, PowerOn}
use Rattle.air_log.specs.Entries.{sendings_of}
use Rattle.air_log.specs.HearsAir.{scene_of}
use Rattle.air_log.specs.Lawful.{heard_by, trail_in}
use Rattle.air_log.specs.NodeEvents.{Event, own_ends}
use Rattle.air_log.specs.Trails.{run_end}
use Rattle.air_log.specs.WindowLogs.{WindowLog, Happening, Closing}
use Rattle.lwb_base.proofs.Elements.{contains_head}
use Rattle.law_trails.specs.Phases.{Over}
use Rattle.law_trails.specs.TrailLinks.{device_in}
use Rattle.law_trails.specs.Walks.{NoWindow}
use Rattle.law_trails.proofs.ObeyedOrders.{channel_is}
use Rattle.law_safety.specs.CountedFrames.{frame_alarm_at}
use Rattle.law_safety.specs.FloodSendings.{IsOfFlood}
use Rattle.law_safety.specs.Invariant.{IsObedientRun}
use Rattle.law_safety.specs.NodesInOrder.{InOrderBy, IsOn}
use Rattle.law_safety.specs.RadiosOn.{RadioFor}
use Rattle.law_safety.specs.Rows.{IsFine}
use Rattle.law_safety.specs.SetAlarms.{rank_at}
use Rattle.law_safety.proofs.FloodTimes.{after_frame_start, before_alarms, before_frame_end}
use Rattle.law_safety.proofs.InvariantHolds.{all_rows}
use Rattle.law_safety.proofs.RunFacts.{frame_is}
use Rattle.law_safety.proofs.RunSendings.{of_flood}
use Rattle.law_windows.specs.OpenWindows.{IsOpenFirst, StandAt, StandBy}
use Rattle.law_windows.specs.WindowRadios.{IsOpenAt, sendings_by, sendings_in}
use Rattle.law_windows.specs.WindowSteps.{HasWindows}
use Rattle.law_windows.specs.WindowTimes.{ClosesInTime, IsOfSlot}
use Rattle.law_windows.proofs.CountedEnds.{few_early}
use Rattle.law_windows.proofs.TunedByDevices.{listens_tuned}
use Rattle.law_windows.proofs.WindowFacts.{close_in_time, radios_on, slot_covered}
use Rattle.law_windows.proofs.WindowWalk.{windows_behind}
use Rattle.bus_terms.specs.Flooding.{has}
use Rattle.law_terms.specs.FrameCourses.{IsWindowIn}
use Rattle.law_terms.specs.LawfulRuns.{IsLawfulRun}
use Rattle.bus_terms.specs.HostedRounds.{slot_in}
use Rattle.law_terms.specs.SlotLaws.{IsRound, IsWindowOf, HasWindow}
use Rattle.law_terms.specs.SlotSteps.{IsSlotStart}
use Rattle.law_windows.proofs.CourseWalk.{under_way_over}
use Rattle.law_windows.proofs.LinkedWindows.{HasEnded, IsLeft, IsUnderWay, IsUntouched, Stands, StandsIn}
use Rattle.law_bus.proofs.RunsOfLogs.{run, whole}
use Rattle.law_bus.specs.SlotRun.{AreEvents, run_of_slot}
use Rattle.law_bus.proofs.FoundScanning.{IsFound, found, known}
use Rattle.law_bus.proofs.HeardByScanners.{Opened, opened_steps}
use Rattle.law_bus.proofs.KeptOpen.{IsStill, since_tick}
use Rattle.law_bus.proofs.OtherSlots.{opens_behind, which_window}
use Rattle.law_bus.proofs.SlotSendings.{IsOf}
use Rattle.law_bus.proofs.SlotsOnAir.{ends_in_run, sent_here}

same_node : (n m : Node) → PowerOn n ≡ PowerOn m → n ≡ m
same_node n m same = cc

on_not_off : (n : Node) (boots : ℕ) → PowerOn n ≡ PowerOff boots → ⊥
on_not_off n boots same = cc

module _ (s : ScenarioParts) (clocks : ℕ → ℕ → ℕ) (air : List Entry) (lawful : IsLawfulRun s clocks air)
    (rank f j : ℕ) (p : Plan) (round : IsRound s rank f p) (within : j ≤ last_slot p) (start : IsSlotStart s clocks air rank f p j)
    (events : ℕ → List Event) (are : AreEvents s clocks air rank f j events)
    (v : ℕ) (here : has (slot_in s rank f p j).flood.everyone v ≡ true) (no_alarm : HasWindow s clocks air rank f j v → ⊥)
    (x : Sending) (there : Contains (run_of_slot s clocks air rank f p j events).sendings x) (far : ℕ)
    (off : x.end ≤ get_or (own_ends (events v)) (s.sends - 1) far) (t : ℕ) (from : x.start ≤ t) (until : t < x.end) where
  abbrev a : Scene
  a = scene_of s.profile s.trace air

  abbrev d : Device
  d = device_in s clocks air v (suc t)

  abbrev trail_windows : List WindowLog
  trail_windows = (trail_in s clocks air v).made.windows

  go : IsObedientRun s clocks air
  go = run s clocks air lawful

  is_node : knows s.nodes v ≡ true
  is_node = known s clocks air lawful rank f j p round.in_run start v here no_alarm

  scanner : IsFound s clocks air lawful rank f j p round.in_run start v here no_alarm
  scanner = found s clocks air lawful rank f j p round.in_run start v here no_alarm

  is : Contains (sendings_of air) x × IsOf s.profile rank f j x
  is = sent_here s clocks air lawful rank f j p round.in_run start events x there

  flood : IsOfFlood s clocks air x
  flood = of_flood s clocks air (whole s clocks air lawful) x is.0

  in_run : t < run_end s
  in_run = let ends = ends_in_run s clocks air lawful rank f j p round.in_run start events x there in omega (arith, ends, until)

  frame : t / s.profile.frame ≡ f
  frame =
      let begins = after_frame_start s clocks air go x flood is.0 in
      let ends = before_frame_end s clocks air go x flood is.0 in
      frame_is s (frame_of_sending s.profile x) t (omega (arith, begins, from)) (omega (arith, ends, until)) ∙ is.1.1

  have : IsFine s clocks air v t Over d × HasWindows s v (λ w. w.opened ≤ t) t d
  have = windows_behind s clocks air v (Opened s clocks air lawful v) all_rows go is_node (λ u now. opened_steps s clocks air lawful v u) t in_run

  stands : StandsIn s clocks air v f d.made.windows d.power
  stands =
      let way : IsUnderWay s clocks air v t Over d = under_way_over s clocks air v all_rows go is_node t in_run in
      subst (λ (g : ℕ). StandsIn s clocks air v g d.made.windows d.power) frame (way.stands tt)

  -- a window of the frame that is there after the tick, as the trail has it
  module _ (y : WindowLog) (in_it : Contains d.made.windows y) (of_frame : y.frame ≡ f) where
    still : (bound : ℕ) → bound ≤ suc t → IfSome y.closed (λ c. bound ≤ c.tick) → IsStill bound y trail_windows
    still bound early closed =
        since_tick bound y s v (clocks v) (heard_by air v) (suc t) early (run_end s) (omega (arith, in_run)) (record {
          window = y;
          there = in_it;
          frame = refl;
          rank = refl;
          slot = refl;
          opened = refl;
          closed = closed;
        })

    -- it is of this slot, for else it would have opened after x
    record IsJoined (u : WindowLog) : Type 0 where
      own : IsWindowOf s clocks air rank f j v u
      joined : u.by_alarm ≡ false

    is_joined : (bound : ℕ) (kept : IsStill bound y trail_windows) → IsJoined kept.window
    is_joined bound kept =
        let in_frame : IsWindowIn s clocks air v f kept.window = record { there = kept.there; frame = kept.frame ∙ of_frame } in
        elim (which_window s clocks air lawful rank f j p round within start v here no_alarm kept.window in_frame) [
          | inl own ↦ record { own = own.0; joined = own.1 }
          | inr later ↦ absurd (
              let behind = opens_behind s clocks air lawful rank f j p round within start v here no_alarm kept.window in_frame later x is.0 is.1 in
              let same = kept.opened in
              let opened = have.1.each y in_it in
              omega (arith, behind, same, opened, until)
              )
        ]

  -- it was not left by one
  not_left : (n : Node) → IsLeft s clocks air v f d.made.windows n → ⊥
  not_left n left =
      let y = left.last in
      let in_it : Contains d.made.windows y = subst (λ (l : List WindowLog). Contains l y) (sym left.is) (contains_head y left.earlier) in
      let kept = still y in_it left.frame 0 (omega arith) (subst (λ (c : Option Closing). IfSome c (λ c. 0 ≤ c.tick)) (sym left.closed) (omega arith)) in
      let own = (is_joined y in_it left.frame 0 kept).own in
      let of_slot : IsOfSlot s y x = record {
        channel = is.1.0 ∙ sym own.channel ∙ kept.rank;
        frame = is.1.1 ∙ sym left.frame;
        slot = is.1.2 ∙ sym own.slot ∙ kept.slot;
      } in
      let lies = (slot_covered s clocks air go v is_node (suc t) (omega (arith, in_run)) y in_it x is.0 of_slot).0 in
      let in_time : ClosesInTime s clocks air v y left.closing =
      subst (λ (c : Option Closing). IfSome c (ClosesInTime s clocks air v y)) left.closed
      (close_in_time s clocks air go v is_node (suc t) (omega (arith, in_run)) y in_it) in
      let past : left.closing.tick ≤ t = subst (λ (c : Option Closing). IfSome c (λ c. c.tick ≤ t)) left.closed (have.1.past y in_it) in
      omega (arith, lies, in_time, past, until)

  -- in the window that it has joined fewer transmissions have ended than it sends at most
  module _ (u : WindowLog) (own : IsWindowOf s clocks air rank f j v u) where
    few : sendings_by t u < s.sends
    few =
        let played = are.by_window v u own in
        let es = played.part.has.events in
        let early : t < get_or (own_ends es) (s.sends - 1) far =
        subst (λ (l : List Event). t < get_or (own_ends l) (s.sends - 1) far) (sym played.same) (omega (arith, off, until)) in
        let most = few_early t (s.sends - 1) far es played.part.has.in_order early in
        let same = ap (λ (l : List Happening). sendings_in t l) played.part.has.happened in
        let some = lawful.sound.some_sends in
        omega (arith, most, same, some)

    in_window : IsOpenAt u t → IsTuned a v rank t
    in_window open_at =
        subst (λ (r : ℕ). IsTuned a v r t) own.channel
        ((radios_on s clocks air go v is_node (run_end s) (omega arith) u own.there).tuned t in_run open_at few)

  open_window : (n : Node) (i : ℕ) (w : Window) → n.frame ≡ f → IsOpenFirst d.made.windows n i w → IsTuned a v rank t
  open_window n i w counted open_ =
      let y = open_.first in
      let in_it : Contains d.made.windows y = subst (λ (l : List WindowLog). Contains l y) (sym open_.is) (contains_head y open_.earlier) in
      let of_frame = open_.now.frame ∙ counted in
      let kept = still y in_it of_frame (suc t) (omega arith) (subst (λ (c : Option Closing). IfSome c (λ c. suc t ≤ c.tick)) (sym open_.now.open_) tt) in
      let opened = have.1.each y in_it in
      let same = kept.opened in
      in_window kept.window (is_joined y in_it of_frame (suc t) kept).own (record { since = omega (arith, opened, same); until = kept.closed })

  -- the alarm of the frame comes after x
  module _ (n : Node) (order : IsOn s clocks air v t (suc t) d n) where
    alarm_later : frame_alarm_at s clocks v (t / s.profile.frame) ≤ t → ⊥
    alarm_later past =
        let later = before_alarms s clocks air go x flood is.0 (clocks v) (lawful.drift v is_node) in
        let at : frame_alarm_at s clocks v f ≤ t = subst (λ (g : ℕ). frame_alarm_at s clocks v g ≤ t) frame past in
        let before : x.end < frame_alarm_at s clocks v f = subst (λ (g : ℕ). x.end < frame_alarm_at s clocks v g) is.1.1 later in
        omega (arith, at, before, until)

    counted : n.frame ≡ f
    counted = elim order.frame.at [ inl now ↦ now ∙ frame | inr over ↦ absurd (alarm_later over.past) ]

    scans_there : IsUntouched s clocks air v f d.made.windows n → IsTuned a v rank t
    scans_there as_found =
        let same : n ≡ scanner.node = same_node n scanner.node (sym as_found.node ∙ scanner.on) in
        let stage : n.stage ≡ Scanning = ap (λ (m : Node). m.stage) same ∙ scanner.scans_on in
        let of_rank : rank_at n ≡ rank = ap (λ (m : Node). rank_at m) same ∙ scanner.of_rank in
        let radio : RadioFor n d Scanning = subst (RadioFor n d) stage order.radio.at in
        listens_tuned s clocks air go.heedful.trails v rank t is_node in_run
        (channel_is (rank_at n) d.listening radio.0 ∙ ap (λ (r : ℕ). Some r) of_rank)

    between : (((n.frame ≡ f) × Stands s clocks air v f d.made.windows n) ⊎ ((n.frame ≡ suc f) × HasEnded s clocks air v f d.made.windows n))
        → IsTuned a v rank t
    between (inl (now, inl as_found)) = scans_there as_found
    between (inl (now, inr left)) = absurd (not_left n left)
    between (inr (next, ended)) = absurd (omega (arith, next, counted))

    by_stage : (st : Stage) → n.stage ≡ st
        → (NoWindow st → ((n.frame ≡ f) × Stands s clocks air v f d.made.windows n) ⊎ ((n.frame ≡ suc f) × HasEnded s clocks air v f d.made.windows n))
        → StandAt d.made.windows n st → RadioFor n d st → IsTuned a v rank t
    by_stage Idle at stand have_windows radio = absurd radio
    by_stage Scanning at stand have_windows radio = between (stand tt)
    by_stage AwaitFrame at stand have_windows radio = between (stand tt)
    by_stage (AwaitSlot i) at stand have_windows radio = between (stand tt)
    by_stage (InWindow i w) at stand have_windows radio = open_window n i w counted have_windows

  by_power : (q : Power) → d.power ≡ q → StandsIn s clocks air v f d.made.windows q → StandBy d.made.windows q
      → InOrderBy s clocks air v t (suc t) d q → IsTuned a v rank t
  by_power (PowerOff boots) at stand windows order = absurd (on_not_off scanner.node boots (sym scanner.on ∙ stand.0))
  by_power (PowerOn n) at stand windows order = by_stage n order n.stage refl stand windows order.radio.at

  pub tuned_then : IsTuned a v x.rank t
  tuned_then = subst (λ (r : ℕ). IsTuned a v r t) (sym is.1.0) (by_power d.power refl stands have.1.stand have.0.node.by_power)
