-- What is said in data slots: its number is from the bound on, and later numbers of its boot are above it.
use Rattle.std.proofs.Common.{◌≡◌, ℕ, zero, suc, ◌+◌, ◌<◌, ◌≤◌, Bool, true, false, ◌==◌, if◌then◌else◌, is_some}
use Rattle.std.proofs.Common.{Option, Some, None, option_map, inl, inr, refl, ap, sym, subst, arith}
use Rattle.std.proofs.lemmas.Bool.{false≢true, cases_lt}
use Rattle.std.specs.Prelude.{◌⊎◌}
use Rattle.lwb_base.specs.Messages.{Plan, node_of, stream_of}
use Rattle.scenario_text.specs.ScenarioParts.{ScenarioParts}
use Rattle.bus_rules.specs.declared.part.Part.{Part}
use Rattle.bus_rules.specs.declared.part.Part.TheVariants.{Opening, Data as DataSlot, Contention, Closing}
use Rattle.bus_rules.specs.Cores.{Core, Setup, is_member}
use Rattle.bus_rules.specs.Plans.{opening}
use Rattle.bus_rules.specs.Slots.{Data, Message, ScheduleOf, DataOf, Opened, opened_slot, data_of, part_of, hosts_now, host_closes, silent, is_own, request_of}
use Rattle.bus_rules.specs.States.{State, StateOff, StateOn}
use Rattle.bus_rules.specs.Streams.{Streams, WaitingPacket, stream_at, after_taking, first_waiting, requested}
use Rattle.scenario_text.specs.Setups.{setup_of}
use Rattle.bus_terms.specs.Rounds.{slot_of_round, opened_at, message_said, accepted_at, closed_slot_of, left_by, after_slot, before_slot}
use Rattle.bus_terms.proofs.NumberedStreams.{IsNumbered, taken_first}
use Rattle.bus_terms.proofs.NumbersKept.{IsPast, IsWell, Keeps, keeps_same, keeps_both, core_both, on_keeps, opened_core, closed_core}

-- a slot keeps the numbers of each node
closing_keeps : (s : ScenarioParts) (rank f : ℕ) (part : Part) (v : ℕ) (heard : Option Message) (x : State)
    → Keeps x (left_by x (closed_slot_of s f part v (opened_at s rank f part v x) heard x))
closing_keeps s rank f part v None (StateOff boots) = keeps_same (StateOff boots)
closing_keeps s rank f part v (Some m) (StateOff boots) = keeps_same (StateOff boots)
closing_keeps s rank f part v heard (StateOn c) = by_member (is_member rank f c) heard
  where
    by_member : (b : Bool) (heard : Option Message)
        → Keeps (StateOn c) (left_by (StateOn c) (closed_slot_of s f part v (if b then Some (opened_slot (setup_of s v) f part c) else None) heard (StateOn c)))
    by_member true heard =
        let o = opened_slot (setup_of s v) f part c in
        on_keeps c _ (core_both c o.core _ (opened_core (setup_of s v) f part c) (closed_core (setup_of s v) f part (is_some o.message) o.core heard))
    by_member false None = keeps_same (StateOn c)
    by_member false (Some m) = on_keeps c _ (closed_core (setup_of s v) f part false c (Some m))

slot_keeps : (s : ScenarioParts) (rank f : ℕ) (p : Plan) (j v : ℕ) (states : ℕ → State) → Keeps (states v) (after_slot s rank f p j states v)
slot_keeps s rank f p j v states = closing_keeps s rank f (part_of p j) v (accepted_at (slot_of_round s rank f p j states) v) (states v)

in_order : (j k : ℕ) → (j ≤ k) ⊎ (k < j)
in_order j k = elim (cases_lt k j) [ inl less ↦ inr less | inr more ↦ inl (omega arith) ]

-- and so do several
pub slots_keep : (s : ScenarioParts) (rank f : ℕ) (p : Plan) (v : ℕ) (states : ℕ → State) (j k : ℕ) → j ≤ k
    → Keeps (before_slot s rank f p states j v) (before_slot s rank f p states k v)
unfolding before_slot
slots_keep s rank f p v states j zero le =
    let none : j ≡ zero = omega arith in
    subst (λ (i : ℕ). Keeps (before_slot s rank f p states i v) (states v)) (sym none) (keeps_same (states v))
slots_keep s rank f p v states j (suc k) le = by_order (in_order j k) (slots_keep s rank f p v states j k)
  where
    by_order : (j ≤ k) ⊎ (k < j) → (j ≤ k → Keeps (before_slot s rank f p states j v) (before_slot s rank f p states k v))
        → Keeps (before_slot s rank f p states j v) (before_slot s rank f p states (suc k) v)
    by_order (inl before) rest =
        keeps_both (before_slot s rank f p states j v) (before_slot s rank f p states k v) (before_slot s rank f p states (suc k) v) (rest before)
        (slot_keeps s rank f p k v (before_slot s rank f p states k))
    by_order (inr after) rest =
        let same : suc k ≡ j = omega arith in
        subst (λ (i : ℕ). Keeps (before_slot s rank f p states i v) (before_slot s rank f p states (suc k) v)) same
        (keeps_same (before_slot s rank f p states (suc k) v))

-- d is said by a window that opens at this core: it is the first that waits in its stream, which it leaves
pub record IsSaidBy (node : ℕ) (c : Core) (o : Opened) (d : Data) : Type 0 where
  pub waiting : WaitingPacket
  pub first : first_waiting c.streams d.stream ≡ Some waiting
  pub number : d.seq ≡ waiting.seq
  pub of_node : d.node ≡ node
  pub of_boot : d.boot ≡ c.boot
  pub boot : o.core.boot ≡ c.boot
  pub streams : o.core.streams ≡ after_taking d.stream c.streams

pub said_by : (s : Setup) (f : ℕ) (part : Part) (c : Core) (d : Data) → (opened_slot s f part c).message ≡ Some (DataOf d)
    → IsSaidBy s.id c (opened_slot s f part c) d × ((owner : ℕ) × (part ≡ DataSlot owner))
said_by s f Opening c d is = absurd (by_test (hosts_now f c) is)
  where
    by_test : (b : Bool) → (if b then Some (ScheduleOf (opening c.plan)) else None) ≡ Some (DataOf d) → ⊥
    by_test true is = cc
    by_test false is = cc
said_by s f (DataSlot owner) c d is = (by_test (node_of owner == s.id) (first_waiting c.streams (stream_of owner)) refl refl is, (owner, refl))
  where
    by_test : (b : Bool) (w : Option WaitingPacket) → (node_of owner == s.id) ≡ b → first_waiting c.streams (stream_of owner) ≡ w
        → (if b then option_map (data_of s.id c (stream_of owner)) w else None) ≡ Some (DataOf d) → IsSaidBy s.id c (opened_slot s f (DataSlot owner) c) d
    by_test false w at first is = absurd (cc)
    by_test true None at first is = absurd (cc)
    by_test true (Some w) at first is =
        let same : record { node = s.id; boot = c.boot; stream = stream_of owner; seq = w.seq; payload = w.payload } ≡ d = data_same _ d is in
        subst (λ (e : Data). IsSaidBy s.id c (opened_slot s f (DataSlot owner) c) e) same
        (record {
          waiting = w;
          first = first;
          number = refl;
          of_node = refl;
          of_boot = refl;
          boot = refl;
          streams = ap (λ (b : Bool). if b then after_taking (stream_of owner) c.streams else c.streams) at;
        })
      where
        data_same : (a b : Data) → Some (DataOf a) ≡ Some (DataOf b) → a ≡ b
        data_same a b is = cc
said_by s f (Contention i) c d is = absurd (by_test (is_own c.own_slot i) (requested c.streams) is)
  where
    by_test : (b : Bool) (r : Option ℕ) → (if b then option_map (request_of s.id c) r else None) ≡ Some (DataOf d) → ⊥
    by_test false r is = cc
    by_test true None is = cc
    by_test true (Some r) is = cc
said_by s f Closing c d is = absurd (by_test (hosts_now f c) is)
  where
    by_test : (b : Bool) → (if b then host_closes s f c else silent c).message ≡ Some (DataOf d) → ⊥
    by_test true is = cc
    by_test false is = cc

-- what is said in slot j of a round: by whom, and in which state
pub record Says (s : ScenarioParts) (rank f : ℕ) (part : Part) (v : ℕ) (x : State) (d : Data) : Type 0 where
  pub core : Core
  pub on : x ≡ StateOn core
  pub member : is_member rank f core ≡ true
  pub said : IsSaidBy v core (opened_slot (setup_of s v) f part core) d
  pub slot : (owner : ℕ) × (part ≡ DataSlot owner)

pub says : (s : ScenarioParts) (rank f : ℕ) (part : Part) (v : ℕ) (x : State) (d : Data) → message_said (opened_at s rank f part v x) ≡ Some (DataOf d)
    → Says s rank f part v x d
says s rank f part v (StateOff boots) d is = absurd (cc)
says s rank f part v (StateOn c) d is = by_test (is_member rank f c) refl is
  where
    by_test : (b : Bool) → is_member rank f c ≡ b → message_said (if b then Some (opened_slot (setup_of s v) f part c) else None) ≡ Some (DataOf d)
        → Says s rank f part v (StateOn c) d
    by_test false at is = absurd (cc)
    by_test true at is =
        let by = said_by (setup_of s v) f part c d is in
        record { core = c; on = refl; member = at; said = by.0; slot = by.1 }

-- its number is from the bound on
pub number_from : (s : ScenarioParts) (rank f : ℕ) (part : Part) (v : ℕ) (x : State) (d : Data) → Says s rank f part v x d → (low : ℕ)
    → IsPast d.boot d.stream low x → low ≤ d.seq
number_from s rank f part v x d is low past =
    let there = subst (IsPast d.boot d.stream low) is.on past in
    let found = taken_first is.core.streams d.stream low is.said.waiting is.said.first (there.1 (sym is.said.of_boot)) in
    let number = is.said.number in
    omega (arith, found.0)

-- and after the slot the numbers of its boot are above it
pub above_then : (s : ScenarioParts) (rank f : ℕ) (p : Plan) (j v : ℕ) (states : ℕ → State) (d : Data) → Says s rank f (part_of p j) v (states v) d
    → IsWell (states v)
    → IsPast d.boot d.stream (d.seq + 1) (after_slot s rank f p j states v)
above_then s rank f p j v states d is well =
    subst (λ (x : State). IsPast d.boot d.stream (d.seq + 1) (left_by x (closed_slot_of s f part v (opened_at s rank f part v x) heard x))) (sym is.on)
    (by_member (is_member rank f c) is.member)
  where
    part : Part
    part = part_of p j

    heard : Option Message
    heard = accepted_at (slot_of_round s rank f p j states) v

    c : Core
    c = is.core

    o : Opened
    o = opened_slot (setup_of s v) f part c

    numbered : IsNumbered 0 (stream_at c.streams d.stream)
    numbered = subst IsWell is.on well d.stream

    later : IsNumbered (d.seq + 1) (stream_at o.core.streams d.stream)
    later =
        let found = taken_first c.streams d.stream 0 is.said.waiting is.said.first numbered in
        let above = subst (λ (n : ℕ). IsNumbered (n + 1) (stream_at (after_taking d.stream c.streams) d.stream)) (sym is.said.number) found.1 in
        subst (λ (t : Streams). IsNumbered (d.seq + 1) (stream_at t d.stream)) (sym is.said.streams) above

    by_member : (b : Bool) → b ≡ true
        → IsPast d.boot d.stream (d.seq + 1) (left_by (StateOn c)
        (closed_slot_of s f part v (if b then Some (opened_slot (setup_of s v) f part c) else None) heard (StateOn c)))
    by_member false at = absurd (false≢true at)
    by_member true at =
        let boot = is.said.boot in
        let of_boot = is.said.of_boot in
        (on_keeps o.core _ (closed_core (setup_of s v) f part (is_some o.message) o.core heard)).past d.boot d.stream (d.seq + 1) (omega arith, λ same. later)
