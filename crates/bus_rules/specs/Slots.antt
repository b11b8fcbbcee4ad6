-- One slot of a round at one node: what is done where its window opens, and where it closes.
use Rattle.std.specs.Prelude.{ℕ, ◌+◌, ◌-◌, List, [], ◌∷◌, ◌++◌, Bool, true, false, ◌==◌, nat_lt, nat_le}
use Rattle.std.specs.Prelude.{if◌then◌else◌, Some, None, slice_index, length, option_map}
use Rattle.std.specs.declared.option.Option.{Option}
use Rattle.lwb_base.specs.Messages.{Ask, Plan, Schedule, node_of, stream_of, length_of}
use Rattle.bus_rules.specs.declared.delivery.Delivery.{Delivery}
use Rattle.bus_rules.specs.declared.part.Part.{Part}
use Rattle.bus_rules.specs.declared.part.Part.TheVariants.{Opening, Data as DataSlot, Contention, Closing}
use Rattle.bus_rules.specs.declared.tune.Tune.TheVariants.{Host}
use Rattle.bus_rules.specs.Plans.{opening, last_slot}
use Rattle.bus_rules.specs.Streams.{WaitingPacket, first_waiting, after_taking, requested, after_contention, stream_at}
use Rattle.bus_rules.specs.Tables.{Table, heard_owner, unheard_owner}
use Rattle.bus_rules.specs.Tuning.{hosts_in, rank_of}
use Rattle.bus_rules.specs.HostPlans.{HostPlan, host_plan}
use Rattle.bus_rules.specs.Cores.{Core, Setup, schedule_accepted}

-- a packet of a stream, by its node and that node's boot
pub record Data : Type 0 where
  pub node : ℕ
  pub boot : ℕ
  pub stream : ℕ
  pub seq : ℕ
  pub payload : List ℕ

-- what is said in a slot
pub data Message : Type 0 where
  ScheduleOf : Schedule → Message
  DataOf : Data → Message
  RequestOf : Ask → Message

-- what slot j of a plan's round is for: the data slots are counted from 1, and so are the contention slots
abbrev pub part_of : Plan → ℕ → Part
part_of p j =
    if j == 0 then Opening
    else if nat_le j (length p.owners) then DataSlot (slice_index p.owners (j - 1))
    else if nat_lt j (last_slot p) then Contention (j - length p.owners)
    else Closing

-- it hosts, and the round of this frame is its own
abbrev pub hosts_now : ℕ → Core → Bool
hosts_now f c = hosts_in (rank_of c.tune) f c.tune

-- what the opening of a window leaves, and what the node says in the slot, if it initiates
pub record Opened : Type 0 where
  pub core : Core
  pub message : Option Message

-- a data slot: of its own stream a node sends the packet that waits longest, which leaves the queue
abbrev pub data_of : ℕ → Core → ℕ → WaitingPacket → Message
data_of node c i w = DataOf (record { node = node; boot = c.boot; stream = i; seq = w.seq; payload = w.payload })

abbrev pub data_opened : ℕ → ℕ → Core → Opened
data_opened node owner c =
    let i = stream_of owner in
    record {
      core = record c { streams = if node_of owner == node then after_taking i c.streams else c.streams };
      message = if node_of owner == node then option_map (data_of node c i) (first_waiting c.streams i) else None;
    }

-- contention slot i: a node that has this round's schedule and owns the slot requests, if a request is due and it has no slots
-- to skip
abbrev pub is_own : Option ℕ → ℕ → Bool
is_own None i = false
is_own (Some own) i = own == i

abbrev pub request_of : ℕ → Core → ℕ → Message
request_of node c i = RequestOf (record { node = node; boot = c.boot; stream = i; interval = (stream_at c.streams i).wish })

abbrev pub contention_opened : ℕ → ℕ → Core → Opened
contention_opened node i c = record {
  core = record c { streams = if is_own c.own_slot i then after_contention node c.streams else c.streams };
  message = if is_own c.own_slot i then option_map (request_of node c) (requested c.streams) else None;
}

-- the last slot: a host plans, and goes by the new plan from the next round on
abbrev pub planned : ℕ → ℕ → Core → HostPlan → Opened
planned rank f c h = record {
  core = record c { tune = Host rank (f + h.gap); plan = h.plan; streams = h.streams; table = h.table; kept = [] };
  message = Some (ScheduleOf (record { plan = h.plan; gap = h.gap }));
}

abbrev pub host_closes : Setup → ℕ → Core → Opened
host_closes s f c =
    let rank = rank_of c.tune in
    planned rank f c (host_plan s.profile s.id c.boot rank f c.kept c.table c.streams)

abbrev pub silent : Core → Opened
silent c = record { core = c; message = None }

-- the window of a slot opens at a member of the round of frame f
abbrev pub opened_slot : Setup → ℕ → Part → Core → Opened
opened_slot s f Opening c = record { core = c; message = if hosts_now f c then Some (ScheduleOf (opening c.plan)) else None }
opened_slot s f (DataSlot owner) c = data_opened s.id owner c
opened_slot s f (Contention i) c = contention_opened s.id i c
opened_slot s f Closing c = if hosts_now f c then host_closes s f c else silent c

-- whether a slot is a node's turn: the opening or the closing of its own round, a data slot of its own, its contention slot
abbrev pub is_turn : Setup → ℕ → Part → Core → Bool
is_turn s f Opening c = hosts_now f c
is_turn s f (DataSlot owner) c = node_of owner == s.id
is_turn s f (Contention i) c = is_own c.own_slot i
is_turn s f Closing c = hosts_now f c

-- what the closing of a window leaves, and the data that is delivered, if some is
pub record Closed : Type 0 where
  pub core : Core
  pub delivered : Option Data

-- a host receives the owner of a data slot, or does not
abbrev pub owner_heard : Bool → ℕ → Table → Table
owner_heard true owner t = heard_owner owner t
owner_heard false owner t = unheard_owner owner t

abbrev pub slot_heard : ℕ → Part → Bool → Core → Core
slot_heard f (DataSlot owner) heard c = record c { table = if hosts_now f c then owner_heard heard owner c.table else c.table }
slot_heard f Opening heard c = c
slot_heard f (Contention i) heard c = c
slot_heard f Closing heard c = c

-- the window of a slot closes in frame f. initiated: the node said something itself; last, what it accepted
abbrev pub closed_slot : Setup → ℕ → Part → Bool → Core → Option Message → Closed
closed_slot s f part initiated c None = record { core = slot_heard f part initiated c; delivered = None }
closed_slot s f part initiated c (Some (ScheduleOf x)) = record { core = schedule_accepted s.id f x c; delivered = None }
closed_slot s f part initiated c (Some (DataOf d)) = record { core = slot_heard f part true c; delivered = Some d }
closed_slot s f part initiated c (Some (RequestOf a)) = record {
  core = record c { kept = if hosts_now f c then c.kept ++ a ∷ [] else c.kept };
  delivered = None;
}

-- what this node delivers of the data that it accepted in slot j of the round of this frame and rank
abbrev pub delivery_of : ℕ → ℕ → ℕ → ℕ → Data → Delivery
delivery_of node frame rank j d = record {
  frame = frame;
  rank = rank;
  slot = j;
  node = node;
  from = d.node;
  boot = d.boot;
  stream = d.stream;
  seq = d.seq;
  payload = d.payload;
}

-- a slot in which the host says its schedule
abbrev pub is_schedule_part : Part → Bool
is_schedule_part Opening = true
is_schedule_part (DataSlot owner) = false
is_schedule_part (Contention i) = false
is_schedule_part Closing = true

-- the bytes of what is said
abbrev pub message_length : Message → ℕ
message_length (ScheduleOf x) = length_of x
message_length (DataOf d) = 8 + length d.payload
message_length (RequestOf a) = 7
