-- Who initiates in a slot has a window in it that opened by its alarm, says there what the bus says, and sends it when its
-- clock comes to the start of the slot.
use Rattle.std.proofs.Common.{◌≡◌, ℕ, ◌<◌, Bool, true, false, ◌==◌, List, [], ◌∷◌, Some, None, Option, is_some, inl, inr, Contains, find, refl, sym}
use Rattle.std.proofs.Common.{◌∙◌, ap, subst, eq-eqb, eqb-true, true≢false}
use Rattle.std.proofs.lemmas.Bool.{and_parts, cond-true, cond-false}
use Rattle.lwb_base.specs.Messages.{Plan}
use Rattle.time_reference.specs.Zeros.{tick_at_offset, starting_offset}
use Rattle.bus_rules.specs.declared.part.Part.{Part}
use Rattle.bus_rules.specs.Cores.{Core, is_member}
use Rattle.bus_rules.specs.Slots.{Message, Opened, part_of, opened_slot}
use Rattle.bus_rules.specs.States.{State, StateOff, StateOn}
use Rattle.lwb_member.specs.Said.{bytes_of}
use Rattle.scenario_text.specs.ScenarioParts.{ScenarioParts}
use Rattle.scenario_text.specs.FloodParts.{knows}
use Rattle.air_log.specs.declared.entry.Entry.{Entry}
use Rattle.air_log.specs.Lawful.{trail_in}
use Rattle.air_log.specs.NodeEvents.{Event}
use Rattle.scenario_text.specs.Setups.{setup_of}
use Rattle.air_log.specs.WindowLogs.{WindowLog}
use Rattle.lwb_base.proofs.Elements.{contains_cases, contains_head, contains_tail, not_in_none}
use Rattle.lwb_base.proofs.Options.{some_is}
use Rattle.law_windows.specs.WindowFloods.{initial_message}
use Rattle.law_windows.specs.WindowParts.{SendsAt}
use Rattle.bus_terms.specs.FloodOfText.{ids}
use Rattle.bus_terms.specs.Flooding.{has}
use Rattle.bus_terms.specs.Rounds as rounds
use Rattle.bus_terms.proofs.ReceivedByPaths.{in_filtered, in_whole, of_filtered}
use Rattle.lwb_flood.specs.FloodRun.{Run, initiates}
use Rattle.lwb_flood.proofs.LogEntries.{ids_known}
use Rattle.law_terms.specs.LawfulRuns.{IsLawfulRun}
use Rattle.bus_terms.specs.HostedRounds.{node_before, slot_in}
use Rattle.law_terms.specs.SlotLaws.{IsWindowOf}
use Rattle.law_terms.specs.SlotSteps.{IsSlotStart}
use Rattle.law_bus.proofs.WindowsInTurn.{opened_by}
use Rattle.law_bus.specs.SlotRun.{AreEvents, run_of_slot, bytes_said, is_window_of_slot, start_in}
use Rattle.law_bus.proofs.SlotEvents.{same_window}

-- the only element that passes a test is found
find_first : {X : Type 0} (test : X → Bool) (x : X) (xs : List X) (w : X) → (b : Bool) → test x ≡ b → (b ≡ true → x ≡ w) → (b ≡ false → find test xs ≡ Some w)
    → find test (x ∷ xs) ≡ Some w
find_first test x xs w true is here later = cond-true (test x) (Some x) (find test xs) is ∙ ap Some (here refl)
find_first test x xs w false is here later = cond-false (test x) (Some x) (find test xs) is ∙ later refl

still_there : {X : Type 0} (test : X → Bool) (x : X) (xs : List X) (w : X) → Contains (x ∷ xs) w → test w ≡ true → test x ≡ false → Contains xs w
still_there test x xs w there passes fails = elim (contains_cases x xs w there) [
  | inl same ↦ absurd (true≢false (sym passes ∙ ap test (sym same) ∙ fails))
  | inr more ↦ more
]

find_one : {X : Type 0} (test : X → Bool) (xs : List X) (w : X) → Contains xs w → test w ≡ true
    → ((x : X) → Contains xs x → test x ≡ true → x ≡ w) → find test xs ≡ Some w
find_one test [] w there passes only = absurd (not_in_none w there)
find_one test (x ∷ xs) w there passes only =
    by_test (test x) refl (λ later. find_one test xs w later passes (λ y more. only y (contains_tail x xs y more)))
  where
    by_test : (b : Bool) → test x ≡ b → (Contains xs w → find test xs ≡ Some w) → find test (x ∷ xs) ≡ Some w
    by_test b is rest = find_first test x xs w b is (λ passes. only x (contains_head x xs) (is ∙ passes))
        (λ fails. rest (still_there test x xs w there passes (is ∙ fails)))

-- what is said is said by a member
member_says : (s : ScenarioParts) (rank f : ℕ) (part : Part) (v : ℕ) (x : State)
    → is_some (rounds.message_said (rounds.opened_at s rank f part v x)) ≡ true → (c : Core) × (x ≡ StateOn c) × (is_member rank f c ≡ true)
member_says s rank f part v (StateOff boots) is = absurd (true≢false (sym is))
member_says s rank f part v (StateOn c) is = by_test (is_member rank f c) refl
  where
    by_test : (b : Bool) → is_member rank f c ≡ b → (d : Core) × (StateOn c ≡ StateOn d) × (is_member rank f d ≡ true)
    by_test true member = (c, refl, member)
    by_test false other = absurd (true≢false (sym is
        ∙ ap (λ (o : Option Opened). is_some (rounds.message_said o))
        (cond-false (is_member rank f c) (Some (opened_slot (setup_of s v) f part c)) None other)))

-- and so it takes part
speaker_takes : (rank : ℕ) (part : Part) (x : State) (w : Option Opened) → is_some (rounds.message_said w) ≡ true → rounds.takes_part rank part x w ≡ true
speaker_takes rank part x None is = absurd (true≢false (sym is))
speaker_takes rank part x (Some o) is = refl

module _ (s : ScenarioParts) (clocks : ℕ → ℕ → ℕ) (air : List Entry) (lawful : IsLawfulRun s clocks air)
    (rank f j : ℕ) (p : Plan) (in_run : f < s.frames) (start : IsSlotStart s clocks air rank f p j) where
  abbrev Of : ℕ → WindowLog → Type 0
  Of v w = IsWindowOf s clocks air rank f j v w

  abbrev window_of : ℕ → Option Opened
  window_of v = (slot_in s rank f p j).window v

  -- a window by alarm opens as on the bus, and its node says the same
  module _ (v : ℕ) (w : WindowLog) (here : Of v w) (alarm : w.by_alarm ≡ true) where
    pub part_is : part_of w.before.core.plan w.slot ≡ part_of p j
    part_is = ap (λ (q : Plan). part_of q w.slot) (start.plan v w here alarm) ∙ ap (part_of p) here.slot

    frame_is : w.before.frame ≡ f
    frame_is = (opened_by s clocks air lawful v w here.there).frame_before ∙ here.frame

    pub window_is : window_of v ≡ Some (opened_slot (setup_of s v) f (part_of p j) w.before.core)
    window_is =
        ap (rounds.opened_at s rank f (part_of p j) v) (start.core v w here alarm)
        ∙ cond-true (is_member rank f w.before.core) (Some (opened_slot (setup_of s v) f (part_of p j) w.before.core)) None (start.member v w here alarm)

    pub said_same : rounds.message_said (window_of v) ≡ initial_message (setup_of s v) w
    said_same =
        ap rounds.message_said window_is
        ∙ ap (λ (k : Part). (opened_slot (setup_of s v) f k w.before.core).message) (sym part_is)
        ∙ ap (λ (g : ℕ). (opened_slot (setup_of s v) g (part_of w.before.core.plan w.slot) w.before.core).message) (sym frame_is)

  -- the window of v is the one that is looked up
  pub window_found : (v : ℕ) (w : WindowLog) → Of v w → find (is_window_of_slot rank f j) (trail_in s clocks air v).made.windows ≡ Some w
  window_found v w here =
      find_one (is_window_of_slot rank f j) (trail_in s clocks air v).made.windows w here.there
      (rw (eq-eqb w.rank rank here.channel, eq-eqb w.frame f here.frame, eq-eqb w.slot j here.slot) refl)
      (λ x there passes. (
      let first = and_parts (x.rank == rank) _ passes in
      let more = and_parts (x.frame == f) _ first.1 in
      same_window s clocks air lawful rank f j in_run v x w
      (record { there = there; channel = eqb-true x.rank rank first.0; frame = eqb-true x.frame f more.0; slot = eqb-true x.slot j more.1 }) here
      ))

  -- an initiator and its window
  pub record IsSpeaker (o : ℕ) : Type 0 where
    pub window : WindowLog
    pub here : Of o window
    pub by_alarm : window.by_alarm ≡ true
    pub message : Message
    pub on_bus : rounds.message_said (window_of o) ≡ Some message
    pub said : initial_message (setup_of s o) window ≡ Some message

  abbrev says : ℕ → Bool
  says o = is_some (rounds.message_said (window_of o))

  pub speaker : (o : ℕ) → has (slot_in s rank f p j).flood.initiators o ≡ true → IsSpeaker o
  speaker o initiates =
      let some = of_filtered says (ids s.nodes) o initiates in
      let known : knows s.nodes o ≡ true = sym (ids_known s.nodes o) ∙ in_whole says (ids s.nodes) o initiates in
      let member = member_says s rank f (part_of p j) o (node_before s rank f p j o) some in
      let own = start.window o member.0 known member.1 member.2 in
      let m = some_is (rounds.message_said (window_of o)) some in
      record {
        window = own.window;
        here = own.here;
        by_alarm = own.by_alarm;
        message = m.0;
        on_bus = m.1;
        said = sym (said_same o own.window own.here own.by_alarm) ∙ m.1;
      }

  -- it takes part
  pub speaker_there : (o : ℕ) → has (slot_in s rank f p j).flood.initiators o ≡ true → has (slot_in s rank f p j).flood.everyone o ≡ true
  speaker_there o initiates =
      in_filtered (λ v. rounds.takes_part rank (part_of p j) (node_before s rank f p j v) (window_of v)) (ids s.nodes) o
      (in_whole says (ids s.nodes) o initiates)
      (speaker_takes rank (part_of p j) (node_before s rank f p j o) (window_of o) (of_filtered says (ids s.nodes) o initiates))

  -- who says something in its window initiates
  pub speaks : (v : ℕ) (w : WindowLog) (m : Message) → knows s.nodes v ≡ true → Of v w → w.by_alarm ≡ true → initial_message (setup_of s v) w ≡ Some m
      → has (slot_in s rank f p j).flood.initiators v ≡ true
  speaks v w m known here alarm said =
      in_filtered says (ids s.nodes) v (ids_known s.nodes v ∙ known) (ap (λ (o : Option Message). is_some o) (said_same v w here alarm ∙ said))

  module _ (events : ℕ → List Event) (are : AreEvents s clocks air rank f j events) (o : ℕ) (is : IsSpeaker o) where
    abbrev r : Run
    r = run_of_slot s clocks air rank f p j events

    pub message_is : r.message o ≡ bytes_of is.message j
    message_is = ap (bytes_said j) is.on_bus

    pub start_is : r.starts o ≡ tick_at_offset (clocks o) is.window.after.zero (starting_offset s.profile is.window.slot)
    start_is = ap (start_in s.profile (clocks o)) (window_found o is.window is.here)

    -- its first transmission
    pub first_sending : SendsAt s clocks air o is.window (r.starts o) (r.message o)
    first_sending =
        subst (λ (t : ℕ). SendsAt s clocks air o is.window t (r.message o)) (sym start_is)
        (subst (λ (q : List ℕ). SendsAt s clocks air o is.window (tick_at_offset (clocks o) is.window.after.zero (starting_offset s.profile is.window.slot)) q)
        (ap (bytes_of is.message) is.here.slot ∙ sym message_is)
        ((are.by_window o is.window is.here).part.begun is.message is.by_alarm is.said))
