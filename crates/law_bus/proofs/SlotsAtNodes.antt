-- One slot at each node: a member is left by it as its window closes, and so is a scanning node that received in it; every other
-- node stays as it is.
use Rattle.std.proofs.Common.{◌≡◌, ℕ, suc, ◌<◌, List, [], ◌∷◌, Bool, true, false, Some, None, Option, inl, inr, Contains, is_some, refl, sym, ◌∙◌, ap}
use Rattle.std.proofs.Common.{true≢false}
use Rattle.std.specs.Prelude.{◌⊎◌}
use Rattle.std.proofs.lemmas.Bool.{cases_eq, cases_Bool, cond-false}
use Rattle.lwb_base.specs.Messages.{Plan}
use Rattle.bus_rules.specs.declared.part.Part.{Part}
use Rattle.bus_rules.specs.declared.part.Part.TheVariants.{Opening, Data as DataSlot, Contention, Closing as ClosingSlot}
use Rattle.bus_rules.specs.Cores.{Core, is_member}
use Rattle.bus_rules.specs.Slots.{Message, ScheduleOf, DataOf, RequestOf, Opened, part_of, opened_slot, closed_slot, slot_heard, hosts_now}
use Rattle.bus_rules.specs.States.{State, StateOff, StateOn}
use Rattle.node_core.specs.Nodes.{Node}
use Rattle.node_core.specs.Rows.{accepted_in}
use Rattle.scenario_text.specs.ScenarioParts.{ScenarioParts}
use Rattle.scenario_text.specs.FloodParts.{knows}
use Rattle.air_log.specs.declared.entry.Entry.{Entry}
use Rattle.air_log.specs.Devices.{state_of_power}
use Rattle.scenario_text.specs.Setups.{setup_of}
use Rattle.air_log.specs.Trails.{run_end}
use Rattle.air_log.specs.WindowLogs.{WindowLog, Closing}
use Rattle.lwb_base.proofs.Elements.{contains_cases, contains_head, contains_tail, not_in_none}
use Rattle.law_windows.specs.WindowRows.{node_in_window, OpensByAlarm, OpensByHearing}
use Rattle.bus_terms.specs.Rounds.{opened_at, closed_slot_of, left_by, message_said, accepted_at, before_slot}
use Rattle.bus_terms.specs.Bus.{state_at}
use Rattle.law_terms.specs.LawfulRuns.{IsLawfulRun}
use Rattle.bus_terms.specs.HostedRounds.{node_before, slot_in}
use Rattle.law_terms.specs.SlotLaws.{IsWindowOf, HasWindow}
use Rattle.law_terms.specs.SlotSteps.{IsSlotStart, IsSlotHeard}
use Rattle.law_terms.proofs.AlignedSlots.{slot_aligned}
use Rattle.law_bus.proofs.MembersByTune.{scanner_takes, scanner_hosts}
use Rattle.law_bus.proofs.RunsOfLogs.{known_by}
use Rattle.law_bus.proofs.WindowsInTurn.{opened_by, closed_as, of_kind, opens_by, in_frame, goes}
use Rattle.law_bus.proofs.WindowsOfRounds.{OfMember, OfScanner}

-- a node has a window of a slot, or it has none
module _ (rank f j : ℕ) where
  pub record IsThere (logs : List WindowLog) : Type 0 where
    pub window : WindowLog
    pub there : Contains logs window
    pub frame : window.frame ≡ f
    pub channel : window.rank ≡ rank
    pub slot : window.slot ≡ j

  abbrev pub NoneThere : List WindowLog → Type 0
  NoneThere logs = (w : WindowLog) → Contains logs w → w.frame ≡ f → w.rank ≡ rank → w.slot ≡ j → ⊥

  none_more : (x : WindowLog) (logs : List WindowLog) → (x.frame ≡ f → x.rank ≡ rank → x.slot ≡ j → ⊥) → NoneThere logs → NoneThere (x ∷ logs)
  none_more x logs other none w there frame channel slot =
      elim (contains_cases x logs w there) [
        | inl same ↦ other (ap (λ (y : WindowLog). y.frame) same ∙ frame) (ap (λ (y : WindowLog). y.rank) same ∙ channel)
            (ap (λ (y : WindowLog). y.slot) same ∙ slot)
        | inr later ↦ none w later frame channel slot
      ]

  pub look_up : (logs : List WindowLog) → IsThere logs ⊎ NoneThere logs
  look_up [] = inr (λ w there frame channel slot. not_in_none w there)
  look_up (x ∷ logs) = with_rest (look_up logs)
    where
      further : IsThere logs ⊎ NoneThere logs → (x.frame ≡ f → x.rank ≡ rank → x.slot ≡ j → ⊥) → IsThere (x ∷ logs) ⊎ NoneThere (x ∷ logs)
      further (inl is) other =
          inl (record { window = is.window; there = contains_tail x logs is.window is.there; frame = is.frame; channel = is.channel; slot = is.slot })
      further (inr none) other = inr (none_more x logs other none)

      with_rest : IsThere logs ⊎ NoneThere logs → IsThere (x ∷ logs) ⊎ NoneThere (x ∷ logs)
      with_rest rest =
          elim (cases_eq x.frame f) [
            | inr other ↦ further rest (λ frame channel slot. other frame)
            | inl frame ↦ elim (cases_eq x.rank rank) [
              | inr other ↦ further rest (λ frame channel slot. other channel)
              | inl channel ↦ elim (cases_eq x.slot j) [
                | inr other ↦ further rest (λ frame channel slot. other slot)
                | inl slot ↦ inl (record { window = x; there = contains_head x logs; frame = frame; channel = channel; slot = slot })
              ]
            ]
          ]

-- at a node that does not host nothing depends on what the slot is for
guest_heard : (f : ℕ) (part : Part) (h : Bool) (c : Core) → hosts_now f c ≡ false → slot_heard f part h c ≡ c
guest_heard f Opening h c guest = refl
guest_heard f (DataSlot owner) h c guest = rw guest refl
guest_heard f (Contention i) h c guest = refl
guest_heard f ClosingSlot h c guest = refl

guest_slot : (s : ScenarioParts) (f v : ℕ) (part other : Part) (begun : Bool) (c : Core) → hosts_now f c ≡ false → (m : Option Message)
    → left_by (StateOn c) (closed_slot_of s f part v None m (StateOn c)) ≡ StateOn (closed_slot (setup_of s v) f other begun c m).core
guest_slot s f v part other begun c guest None = ap StateOn (sym (guest_heard f other begun c guest))
guest_slot s f v part other begun c guest (Some (ScheduleOf x)) = refl
guest_slot s f v part other begun c guest (Some (DataOf d)) = ap StateOn (guest_heard f part true c guest ∙ sym (guest_heard f other true c guest))
guest_slot s f v part other begun c guest (Some (RequestOf a)) = refl

none_left : (s : ScenarioParts) (f v : ℕ) (part : Part) (x : State) → left_by x (closed_slot_of s f part v None None x) ≡ x
none_left s f v part x = refl

module _ (s : ScenarioParts) (clocks : ℕ → ℕ → ℕ) (air : List Entry) (lawful : IsLawfulRun s clocks air)
    (rank f : ℕ) (in_run : f < s.frames) (j : ℕ) (p : Plan)
    (start : IsSlotStart s clocks air rank f p j) (heard : IsSlotHeard s clocks air rank f p j) where
  abbrev Of : ℕ → WindowLog → Type 0
  Of v w = IsWindowOf s clocks air rank f j v w

  abbrev states : ℕ → State
  states = before_slot s rank f p (state_at s f) j

  -- what is left of v, by what its window is, and what it accepted
  abbrev left_of : ℕ → Option Opened → State → State
  left_of v w x = left_by x (closed_slot_of s f (part_of p j) v w (accepted_at (slot_in s rank f p j) v) x)

  module _ (v : ℕ) (w : WindowLog) (here : Of v w) where
    frame_after : w.after.frame ≡ f
    frame_after = (opened_by s clocks air lawful v w here.there).frame_after ∙ here.frame

    module _ (alarm : w.by_alarm ≡ true) where
      member : OfMember s clocks air v (run_end s) w
      member = of_kind s clocks air lawful v w true here.there alarm

      opens : OpensByAlarm s clocks v w
      opens = opens_by s clocks air lawful v w true here.there alarm

      plan : w.before.core.plan ≡ p
      plan = start.plan v w here alarm

      part_is : part_of w.before.core.plan w.slot ≡ part_of p j
      part_is = ap (λ (q : Plan). part_of q w.slot) plan ∙ ap (part_of p) here.slot

      frame_before : w.before.frame ≡ f
      frame_before = (opened_by s clocks air lawful v w here.there).frame_before ∙ here.frame

      core_after : w.after.core ≡ (opened_slot (setup_of s v) f (part_of p j) w.before.core).core
      core_after =
          ap (λ (n : Node). n.core) opens.after
          ∙ ap (λ (g : ℕ). (opened_slot (setup_of s v) g (part_of w.before.core.plan w.slot) w.before.core).core) frame_before
          ∙ ap (λ (k : Part). (opened_slot (setup_of s v) f k w.before.core).core) part_is

      pub window_is : opened_at s rank f (part_of p j) v (states v) ≡ Some (opened_slot (setup_of s v) f (part_of p j) w.before.core)
      window_is = ap (opened_at s rank f (part_of p j) v) (start.core v w here alarm) ∙ rw (start.member v w here alarm) refl

    module _ (hears : w.by_alarm ≡ false) where
      scanner : OfScanner s clocks air v w
      scanner = of_kind s clocks air lawful v w false here.there hears

      joins : OpensByHearing s clocks v w
      joins = opens_by s clocks air lawful v w false here.there hears

      known : knows s.nodes v ≡ true
      known = known_by s clocks air lawful v w here.there

      by_no_alarm : HasWindow s clocks air rank f j v → ⊥
      by_no_alarm has =
          let go = goes s clocks air lawful rank f in_run j v w here in
          let same : w ≡ has.window =
          go.course.once w has.window (in_frame s clocks air lawful rank f in_run j v w here)
          (in_frame s clocks air lawful rank f in_run j v has.window has.here) (here.slot ∙ sym has.here.slot) in
          true≢false (sym has.by_alarm ∙ ap (λ (x : WindowLog). x.by_alarm) (sym same) ∙ hears)

      -- as the frame found it
      pub up : states v ≡ StateOn w.before.core
      up =
          let go = goes s clocks air lawful rank f in_run j v w here in
          let node : w.before ≡ go.node = go.course.joins w (in_frame s clocks air lawful rank f in_run j v w here) hears in
          start.others v known by_no_alarm ∙ sym (start.found v known) ∙ ap state_of_power go.on ∙ ap (λ (n : Node). StateOn n.core) (sym node)

      pub no_window : opened_at s rank f (part_of p j) v (states v) ≡ None
      no_window =
          ap (opened_at s rank f (part_of p j) v) up
          ∙ cond-false (is_member rank f w.before.core) (Some (opened_slot (setup_of s v) f (part_of p j) w.before.core)) None
          (scanner_takes s clocks v w.before rank f w.before.core.tune scanner.scans)

      guest : hosts_now f w.before.core ≡ false
      guest = scanner_hosts s clocks v w.before f w.before.core.tune scanner.scans

    module _ (c : Closing) (is : w.closed ≡ Some c) where
      closes : is_some w.closed ≡ true
      closes = ap (λ (o : Option Closing). is_some o) is

      -- a member
      member_left : w.by_alarm ≡ true → node_before s rank f p (suc j) v ≡ StateOn c.after.core
      unfolding before_slot
      member_left alarm =
          slot_aligned s rank f p j v states w.before.core (node_in_window w) w.last
          (start.core v w here alarm) (start.member v w here alarm) frame_after (core_after alarm) ((member alarm).part ∙ part_is alarm)
          (heard.initiated v w here ∙ ap (λ (o : Option Opened). is_some (message_said o)) (window_is alarm))
          (heard.accepted v w here closes)
          ∙ ap (λ (n : Node). StateOn n.core) (sym (closed_as s clocks air lawful v w c here.there is))

      -- what the row of the closing leaves
      row_left : w.by_alarm ≡ false → c.after.core ≡ (closed_slot (setup_of s v) f w.last.part w.last.flood.initiated w.before.core (accepted_in w.last)).core
      row_left hears =
          ap (λ (n : Node). n.core) (closed_as s clocks air lawful v w c here.there is)
          ∙ ap (λ (x : Core). (closed_slot (setup_of s v) w.after.frame w.last.part w.last.flood.initiated x (accepted_in w.last)).core)
          (ap (λ (n : Node). n.core) (joins hears).after)
          ∙ ap (λ (g : ℕ). (closed_slot (setup_of s v) g w.last.part w.last.flood.initiated w.before.core (accepted_in w.last)).core) frame_after

      -- a scanning node
      scanner_left : w.by_alarm ≡ false → node_before s rank f p (suc j) v ≡ StateOn c.after.core
      unfolding before_slot
      scanner_left hears =
          let m = accepted_at (slot_in s rank f p j) v in
          ap (λ (o : Option Opened). left_of v o (states v)) (no_window hears)
          ∙ ap (left_of v None) (up hears)
          ∙ guest_slot s f v (part_of p j) w.last.part w.last.flood.initiated w.before.core (guest hears) m
          ∙ ap (λ (a : Option Message). StateOn (closed_slot (setup_of s v) f w.last.part w.last.flood.initiated w.before.core a).core)
          (sym (heard.accepted v w here closes))
          ∙ ap StateOn (sym (row_left hears))

      left_as : (b : Bool) → w.by_alarm ≡ b → node_before s rank f p (suc j) v ≡ StateOn c.after.core
      left_as true alarm = member_left alarm
      left_as false hears = scanner_left hears

      -- who has a window is left as that closes
      pub left_by_window : node_before s rank f p (suc j) v ≡ StateOn c.after.core
      left_by_window = left_as w.by_alarm refl

  module _ (v : ℕ) (known : knows s.nodes v ≡ true) (none : (w : WindowLog) → Of v w → ⊥) where
    not_there : HasWindow s clocks air rank f j v → ⊥
    not_there has = none has.window has.here

    pub not_member : (x : State) → states v ≡ x → opened_at s rank f (part_of p j) v x ≡ None
    not_member (StateOff boots) at = refl
    not_member (StateOn c) at =
        elim (cases_Bool (is_member rank f c)) [
          | inl takes ↦ absurd (not_there (start.window v c known at takes))
          | inr other ↦ cond-false (is_member rank f c) (Some (opened_slot (setup_of s v) f (part_of p j) c)) None other
        ]

    -- who has none stays as it is
    pub stays_without : node_before s rank f p (suc j) v ≡ node_before s rank f p j v
    unfolding before_slot
    stays_without =
        ap (λ (o : Option Opened). left_of v o (states v)) (not_member (states v) refl)
        ∙ ap (λ (m : Option Message). left_by (states v) (closed_slot_of s f (part_of p j) v None m (states v))) (heard.deaf v known none)
        ∙ none_left s f v (part_of p j) (states v)

    -- that is as the frame found it
    pub found_without : node_before s rank f p j v ≡ state_at s f v
    found_without = start.others v known not_there
