-- What the closing of a slot changes and delivers is what the round's definition says of each node.
use Rattle.std.proofs.Common.{◌≡◌, ℕ, Bool, true, false, ◌&&◌, ◌||◌, ◌==◌, Option, Some, None, is_some, refl, sym, ◌∙◌, ap, if◌then◌else◌, option_map}
use Rattle.std.proofs.lemmas.Bool.{false≢true, and_right}
use Rattle.lwb_base.specs.Messages.{Ask, Schedule, node_of, stream_of}
use Rattle.bus_rules.specs.Plans.{opening}
use Rattle.bus_rules.specs.Streams.{WaitingPacket, first_waiting, requested}
use Rattle.scenario_text.specs.ScenarioParts.{ScenarioParts}
use Rattle.bus_rules.specs.Slots.{Message, ScheduleOf, DataOf, RequestOf, Opened, opened_slot, data_of, request_of, is_own, is_schedule_part}
use Rattle.bus_rules.specs.Slots.{hosts_now, host_closes, silent}
use Rattle.bus_rules.specs.Cores.{Core, is_member, is_fresh}
use Rattle.bus_rules.specs.Tuning.{rank_of, hosts, hosts_in, holds_in, scans}
use Rattle.bus_rules.specs.declared.tune.Tune.{Tune}
use Rattle.bus_rules.specs.declared.tune.Tune.TheVariants.{Scan, Hold, Host}
use Rattle.bus_rules.specs.declared.part.Part.{Part}
use Rattle.bus_rules.specs.declared.part.Part.TheVariants.{Opening, Data as DataSlot, Contention, Closing}
use Rattle.bus_rules.specs.States.{State, StateOff, StateOn}
use Rattle.bus_rules.proofs.Ranks.{not_scanner, hosts_own, member_hosts}
use Rattle.bus_terms.specs.Rounds.{opened_at, message_said, takes_part, closed_slot_of, left_by}
use Rattle.scenario_text.specs.Setups.{setup_of}
use Rattle.bus_terms.proofs.OtherRanks.{IsElsewhere, no_window}
use Rattle.lwb_member.specs.Members.{MayAccept}
use Rattle.plain_bus.specs.BusNodes.{window_of_state, state_opened, closed_of, MayAcceptIn, HasRoom}
use Rattle.plain_bus.specs.SlotFloods.{seen_by}
use Rattle.plain_bus.proofs.MembersOfSlots.{window_at}

-- a node of another rank is seen as one that is off
pub none_takes : (rank : ℕ) (part : Part) (x : State) → IsElsewhere rank x → takes_part rank part (StateOff 0) None ≡ takes_part rank part x None
none_takes rank part (StateOff boots) other = refl
none_takes rank part (StateOn c) other = ap (λ (b : Bool). is_schedule_part part && b) (sym (not_scanner rank c.tune other))

module _ (s : ScenarioParts) (rank f : ℕ) (part : Part) (v : ℕ) (x : State) where
  abbrev window : Option Opened
  window = opened_at s rank f part v x

  pub seen_mixed : (b : Bool) (o : State) → (b ≡ false → IsElsewhere rank x)
      → (let y : State = if b then (if b then x else o) else StateOff 0 in seen_by rank part y (window_of_state (setup_of s v) rank f part y))
      ≡ seen_by rank part x window
  seen_mixed true o other = ap (λ (w : Option Opened). seen_by rank part x w) (window_at s rank f part v x)
  seen_mixed false o other =
      ap (λ (t : Bool). record { is_open = false; takes_part = t; initiates = false; message = None }) (none_takes rank part x (other refl))
      ∙ ap (λ (w : Option Opened). seen_by rank part x w) (sym (no_window s rank f part v x (other refl)))

-- what a closing leaves of the state that the opening left
pub left_opened : (s : ScenarioParts) (rank f : ℕ) (part : Part) (v : ℕ) (x : State) (heard : Option Message)
    → left_by (state_opened (setup_of s v) rank f part x) (closed_slot_of s f part v (opened_at s rank f part v x) heard x)
    ≡ left_by x (closed_slot_of s f part v (opened_at s rank f part v x) heard x)
left_opened s rank f part v (StateOff boots) None = refl
left_opened s rank f part v (StateOff boots) (Some m) = refl
left_opened s rank f part v (StateOn c) heard = by_member (is_member rank f c) heard
  where
    by_member : (b : Bool) (heard : Option Message)
        → (let window : Option Opened = if b then Some (opened_slot (setup_of s v) f part c) else None in
        left_by (StateOn (if b then (opened_slot (setup_of s v) f part c).core else c)) (closed_slot_of s f part v window heard (StateOn c))
        ≡ left_by (StateOn c) (closed_slot_of s f part v window heard (StateOn c)))
    by_member true heard = refl
    by_member false None = refl
    by_member false (Some m) = refl

-- a node of no window that accepts nothing is left alone
pub untouched : (s : ScenarioParts) (f : ℕ) (part : Part) (v : ℕ) (x : State) → closed_of (setup_of s v) f part false false None x ≡ None
untouched s f part v (StateOff boots) = refl
untouched s f part v (StateOn c) = refl

-- a host of this round says its schedule
host_says : (s : ScenarioParts) (rank f : ℕ) (part : Part) (v : ℕ) (c : Core) → is_schedule_part part ≡ true → hosts_in rank f c.tune ≡ true
    → is_some (opened_slot (setup_of s v) f part c).message ≡ true
host_says s rank f (DataSlot o) v c sched host = absurd (false≢true sched)
host_says s rank f (Contention o) v c sched host = absurd (false≢true sched)
host_says s rank f Opening v c sched host = rw (hosts_own rank f c.tune host) refl
host_says s rank f Closing v c sched host = rw (hosts_own rank f c.tune host) refl

hosts_none : (rank f : ℕ) (t : Tune) → hosts t ≡ false → hosts_in rank f t ≡ false
hosts_none rank f (Scan r w) is = refl
hosts_none rank f (Hold r d) is = refl
hosts_none rank f (Host r d) is = absurd (false≢true (sym is))

-- who does not host does not by an opening
tune_opened : (s : ScenarioParts) (f : ℕ) (part : Part) (v : ℕ) (c : Core) → hosts c.tune ≡ false
    → hosts (opened_slot (setup_of s v) f part c).core.tune ≡ false
tune_opened s f Opening v c is = is
tune_opened s f (DataSlot o) v c is = is
tune_opened s f (Contention i) v c is = is
tune_opened s f Closing v c is = rw (hosts_none (rank_of c.tune) f c.tune is) is

member_host : (rank f : ℕ) (t : Tune) (fresh : Bool) → hosts t ≡ true → (hosts_in rank f t || holds_in rank f t || (scans rank t && fresh)) ≡ true
    → hosts_in rank f t ≡ true
member_host rank f (Scan r w) fresh host is = absurd (false≢true host)
member_host rank f (Hold r d) fresh host is = absurd (false≢true host)
member_host rank f (Host r d) fresh host is = by_test ((r == rank) && (d == f)) is
  where
    by_test : (a : Bool) → (a || false || (false && fresh)) ≡ true → a ≡ true
    by_test true is = refl
    by_test false is = is

host_scans_not : (rank : ℕ) (t : Tune) → hosts t ≡ true → scans rank t ≡ false
host_scans_not rank (Scan r w) host = absurd (false≢true host)
host_scans_not rank (Hold r d) host = absurd (false≢true host)
host_scans_not rank (Host r d) host = refl

never : (m : Message) → ◌≡◌ {A = Option Message} (Some m) None → ⊥
never m is = cc

-- the opening of a data slot or a contention slot leaves the room
room_opened : (s : ScenarioParts) (rank f : ℕ) (part : Part) (v : ℕ) (c : Core) → is_schedule_part part ≡ false → is_member rank f c ≡ true
    → HasRoom (setup_of s v) rank f part (StateOn c) → (a : Ask) → MayAccept (setup_of s v) f (opened_slot (setup_of s v) f part c).core (Some (RequestOf a))
room_opened s rank f Opening v c plain is room a = absurd (false≢true (sym plain))
room_opened s rank f Closing v c plain is room a = absurd (false≢true (sym plain))
room_opened s rank f (DataSlot owner) v c plain is room a = λ now. room plain (member_hosts rank f c is now)
room_opened s rank f (Contention i) v c plain is room a = λ now. room plain (member_hosts rank f c is now)

-- a host accepts no schedule: in its own round it says one itself, and otherwise it takes no part. Where it accepts a request,
-- it has room
pub may_accept : (s : ScenarioParts) (rank f : ℕ) (part : Part) (v : ℕ) (x : State) (heard : Option Message)
    → (is_some (message_said (opened_at s rank f part v x)) ≡ true → heard ≡ None)
    → (takes_part rank part x (opened_at s rank f part v x) ≡ false → heard ≡ None)
    → (is_schedule_part part ≡ false → (m : Schedule) → heard ≡ Some (ScheduleOf m) → ⊥)
    → (is_schedule_part part ≡ true → (a : Ask) → heard ≡ Some (RequestOf a) → ⊥)
    → HasRoom (setup_of s v) rank f part x
    → MayAcceptIn (setup_of s v) f (state_opened (setup_of s v) rank f part x) heard
may_accept s rank f part v (StateOff boots) heard quiet outside plain asks room = tt
may_accept s rank f part v (StateOn c) None quiet outside plain asks room = tt
may_accept s rank f part v (StateOn c) (Some (DataOf d)) quiet outside plain asks room = tt
may_accept s rank f part v (StateOn c) (Some (RequestOf a)) quiet outside plain asks room =
    by_tests (is_member rank f c) (is_schedule_part part) refl refl outside
  where
    by_tests : (b t : Bool) → is_member rank f c ≡ b → is_schedule_part part ≡ t
        → (takes_part rank part (StateOn c) (if b then Some (opened_slot (setup_of s v) f part c) else None) ≡ false
        → ◌≡◌ {A = Option Message} (Some (RequestOf a)) None)
        → MayAccept (setup_of s v) f (if b then (opened_slot (setup_of s v) f part c).core else c) (Some (RequestOf a))
    by_tests b true is sched outside = absurd (asks sched a refl)
    by_tests true false is sched outside = room_opened s rank f part v c sched is room a
    by_tests false false is sched outside =
        absurd (never (RequestOf a) (outside (ap (λ (t : Bool). t && scans rank c.tune) sched)))
may_accept s rank f part v (StateOn c) (Some (ScheduleOf m)) quiet outside plain asks room =
    by_tests (is_member rank f c) (hosts c.tune) (is_schedule_part part) refl refl refl quiet outside
  where
    by_tests : (b h t : Bool) → is_member rank f c ≡ b → hosts c.tune ≡ h → is_schedule_part part ≡ t
        → (is_some (message_said (if b then Some (opened_slot (setup_of s v) f part c) else None)) ≡ true → ◌≡◌ {A = Option Message} (Some (ScheduleOf m)) None)
        → (takes_part rank part (StateOn c) (if b then Some (opened_slot (setup_of s v) f part c) else None) ≡ false
        → ◌≡◌ {A = Option Message} (Some (ScheduleOf m)) None)
        → hosts (if b then (opened_slot (setup_of s v) f part c).core else c).tune ≡ false
    by_tests b h false is host sched quiet outside = absurd (plain sched m refl)
    by_tests true false true is host sched quiet outside = tune_opened s f part v c host
    by_tests false false true is host sched quiet outside = host
    by_tests true true true is host sched quiet outside =
        absurd (never (ScheduleOf m) (quiet (host_says s rank f part v c sched (member_host rank f c.tune (is_fresh c) host is))))
    by_tests false true true is host sched quiet outside =
        absurd (never (ScheduleOf m) (outside (and_right (is_schedule_part part) (scans rank c.tune) (host_scans_not rank c.tune host))))

-- a schedule is said in the first slot and the last alone
pub no_schedule : (s : ScenarioParts) (rank f : ℕ) (part : Part) (v : ℕ) (x : State) (m : Schedule) → is_schedule_part part ≡ false
    → message_said (opened_at s rank f part v x) ≡ Some (ScheduleOf m) → ⊥
no_schedule s rank f part v (StateOff boots) m plain is = cc
no_schedule s rank f part v (StateOn c) m plain is = by_member (is_member rank f c) is
  where
    by_part : (part : Part) → is_schedule_part part ≡ false → (opened_slot (setup_of s v) f part c).message ≡ Some (ScheduleOf m) → ⊥
    by_part Opening plain is = false≢true (sym plain)
    by_part Closing plain is = false≢true (sym plain)
    by_part (DataSlot owner) plain is = by_owner (node_of owner == v) (first_waiting c.streams (stream_of owner)) is
      where
        by_owner : (b : Bool) (w : Option WaitingPacket) → (if b then option_map (data_of v c (stream_of owner)) w else None) ≡ Some (ScheduleOf m) → ⊥
        by_owner false w is = cc
        by_owner true None is = cc
        by_owner true (Some w) is = cc
    by_part (Contention i) plain is = by_own (is_own c.own_slot i) (requested c.streams) is
      where
        by_own : (b : Bool) (w : Option ℕ) → (if b then option_map (request_of v c) w else None) ≡ Some (ScheduleOf m) → ⊥
        by_own false w is = cc
        by_own true None is = cc
        by_own true (Some w) is = cc

    by_member : (b : Bool) → message_said (if b then Some (opened_slot (setup_of s v) f part c) else None) ≡ Some (ScheduleOf m) → ⊥
    by_member true is = by_part part plain is
    by_member false is = cc

-- and a request in no slot of schedules
pub no_request : (s : ScenarioParts) (rank f : ℕ) (part : Part) (v : ℕ) (x : State) (a : Ask) → is_schedule_part part ≡ true
    → message_said (opened_at s rank f part v x) ≡ Some (RequestOf a) → ⊥
no_request s rank f part v (StateOff boots) a sched is = cc
no_request s rank f part v (StateOn c) a sched is = by_member (is_member rank f c) is
  where
    by_part : (part : Part) → is_schedule_part part ≡ true → (opened_slot (setup_of s v) f part c).message ≡ Some (RequestOf a) → ⊥
    by_part (DataSlot owner) sched is = false≢true sched
    by_part (Contention i) sched is = false≢true sched
    by_part Opening sched is = by_host (hosts_now f c) is
      where
        by_host : (b : Bool) → (if b then Some (ScheduleOf (opening c.plan)) else None) ≡ Some (RequestOf a) → ⊥
        by_host true is = cc
        by_host false is = cc
    by_part Closing sched is = by_host (hosts_now f c) is
      where
        by_host : (b : Bool) → (if b then host_closes (setup_of s v) f c else silent c).message ≡ Some (RequestOf a) → ⊥
        by_host true is = cc
        by_host false is = cc

    by_member : (b : Bool) → message_said (if b then Some (opened_slot (setup_of s v) f part c) else None) ≡ Some (RequestOf a) → ⊥
    by_member true is = by_part part sched is
    by_member false is = cc
