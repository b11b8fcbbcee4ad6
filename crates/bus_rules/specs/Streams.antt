-- The streams of a node: requests, queues, the contention rule, and what an accepted schedule does.
use Rattle.std.specs.Prelude.{ℕ, ◌+◌, ◌-◌, ◌^◌, ◌%◌, List, [], ◌∷◌, ◌++◌, Bool, false, not, ◌&&◌, ◌||◌, ◌==◌, nat_lt}
use Rattle.std.specs.Prelude.{if◌then◌else◌, is_none, Some, None, map, length, drop, min, find, slice_get, slice_set, fold}
use Rattle.std.specs.declared.option.Option.{Option}
use Rattle.std.specs.List.{slice_index_or}
use Rattle.lwb_base.specs.Messages.{Ask, Schedule, node_of, stream_of}
use Rattle.bus_rules.specs.declared.act.Act.{Act}
use Rattle.bus_rules.specs.declared.act.Act.TheVariants.{Declare, Leave, Put}

-- a packet that waits
pub record WaitingPacket : Type 0 where
  pub seq : ℕ
  pub payload : List ℕ

-- one stream: the interval that its node requests, the one agreed with the host (0 for none, both), the frame in which a
-- schedule last named it, the packets that wait, and the next sequence number
pub record Stream : Type 0 where
  pub wish : ℕ
  pub agreed : ℕ
  pub last : ℕ
  pub queue : List WaitingPacket
  pub next : ℕ

-- the four streams in their order, the tries and skips of contention, and the rank of the host of the last accepted
-- schedule with its boot
pub record Streams : Type 0 where
  pub all : List Stream
  pub tries : ℕ
  pub skips : ℕ
  pub host : Option (ℕ × ℕ)

abbrev pub no_stream : Stream
no_stream = record { wish = 0; agreed = 0; last = 0; queue = []; next = 0 }

-- as a boot leaves them
abbrev pub cleared : Streams
cleared = record { all = no_stream ∷ no_stream ∷ no_stream ∷ no_stream ∷ []; tries = 0; skips = 0; host = None }

abbrev pub stream_at : Streams → ℕ → Stream
stream_at s i = slice_index_or s.all i no_stream

abbrev pub with_stream : ℕ → Stream → Streams → Streams
with_stream i x s = record s { all = slice_set s.all i x }

abbrev pub wishes : ℕ → Stream → Stream
wishes interval x = record x { wish = interval }

abbrev pub declared : ℕ → ℕ → Streams → Streams
declared i interval s = with_stream i (wishes interval (stream_at s i)) s

abbrev pub emptied : Stream → Stream
emptied x = record x { wish = 0; queue = [] }

abbrev pub streams_after_leaving : ℕ → Streams → Streams
streams_after_leaving i s = with_stream i (emptied (stream_at s i)) s

-- a put is dropped where nothing is requested, 16 packets wait, or 65,535 numbers are used
abbrev pub refuses : Stream → Bool
refuses x = (x.wish == 0) || not (nat_lt (length x.queue) 16) || not (nat_lt x.next 65535)

abbrev pub drops : Streams → ℕ → Bool
drops s i = refuses (stream_at s i)

abbrev pub queued : List ℕ → Stream → Stream
queued payload x = record x { queue = x.queue ++ record { seq = x.next; payload = payload } ∷ []; next = x.next + 1 }

abbrev pub put_to : List ℕ → Stream → Stream
put_to payload x = if refuses x then x else queued payload x

abbrev pub after_put : ℕ → List ℕ → Streams → Streams
after_put i payload s = with_stream i (put_to payload (stream_at s i)) s

-- what a script has the streams do. Power is not for them
abbrev pub streams_after_act : Act → Streams → Streams
streams_after_act (Declare i interval) s = declared i interval s
streams_after_act (Leave i) s = streams_after_leaving i s
streams_after_act (Put i payload) s = after_put i payload s
streams_after_act other s = s

-- a packet is put that its stream drops
abbrev pub drops_by : Act → Streams → Bool
drops_by (Put i payload) s = drops s i
drops_by other s = false

abbrev pub first_waiting : Streams → ℕ → Option WaitingPacket
first_waiting s i = slice_get (stream_at s i).queue 0

abbrev pub without_first : Stream → Stream
without_first x = record x { queue = drop 1 x.queue }

abbrev pub after_taking : ℕ → Streams → Streams
after_taking i s = with_stream i (without_first (stream_at s i)) s

-- a request of the stream is due: the requested interval is not what is agreed, and there is none or a packet waits
abbrev pub has_due_request : Stream → Bool
has_due_request x = not (x.wish == x.agreed) && ((x.wish == 0) || not (length x.queue == 0))

abbrev pub request_is_due : Streams → ℕ → Bool
request_is_due s i = has_due_request (stream_at s i)

abbrev pub due_of : Streams → ℕ → Option ℕ
due_of s i = if request_is_due s i then Some (stream_at s i).wish else None

-- the least stream of which a request is due
abbrev pub due_stream : Streams → Option ℕ
due_stream s = find (request_is_due s) (0 ∷ 1 ∷ 2 ∷ 3 ∷ [])

-- a stream with its requested interval
abbrev pub with_wish : Streams → ℕ → ℕ × ℕ
with_wish s i = (i, (stream_at s i).wish)

-- contention, in the own slot of a fresh node: the stream that is requested now, and the streams after
abbrev pub requested : Streams → Option ℕ
requested s = if s.skips == 0 then due_stream s else None

abbrev pub tries_after : Streams → ℕ
tries_after s = min 4 (s.tries + 1)

abbrev pub after_contention : ℕ → Streams → Streams
after_contention node s =
    if is_none (due_stream s) then s
    else if s.skips == 0 then record s { tries = tries_after s; skips = node % 2 ^ tries_after s }
    else record s { skips = s.skips - 1 }

abbrev pub with_granted_interval : ℕ → Stream → Stream
with_granted_interval interval x = record x { agreed = interval }

abbrev pub with_agreed : ℕ → ℕ → Streams → Streams
with_agreed i interval s = with_stream i (with_granted_interval interval (stream_at s i)) s

-- what a node forgets when it hosts, or receives another host
abbrev pub unbound : Streams → Streams
unbound s = record s { all = map (with_granted_interval 0) s.all; tries = 0; skips = 0 }

abbrev pub is_host : Option (ℕ × ℕ) → ℕ → ℕ → Bool
is_host None rank boot = false
is_host (Some h) rank boot = (h.0 == rank) && (h.1 == boot)

-- an accepted schedule, first: its host is another
abbrev pub heard_host : ℕ → ℕ → Streams → Streams
heard_host rank boot s = if is_host s.host rank boot then s else record (unbound s) { host = Some (rank, boot) }

abbrev pub names : ℕ → ℕ → Ask → Bool
names node boot a = (a.node == node) && (a.boot == boot)

abbrev pub granted_stream : ℕ → ℕ → Stream → Stream
granted_stream interval frame x = record x { agreed = interval; last = frame }

-- second: an acknowledgement that names this node and this boot
abbrev pub acknowledged : ℕ → ℕ → ℕ → Streams → Ask → Streams
acknowledged node boot frame s a =
    if names node boot a
    then record (with_stream a.stream (granted_stream a.interval frame (stream_at s a.stream)) s) { tries = 0; skips = 0 }
    else s

abbrev pub named_in : ℕ → Stream → Stream
named_in frame x = record x { last = frame }

-- third: an owner that is one of its streams
abbrev pub owner_named : ℕ → ℕ → Streams → ℕ → Streams
owner_named node frame s c = if node_of c == node then with_stream (stream_of c) (named_in frame (stream_at s (stream_of c))) s else s

-- fourth, at a closing: a stream that no schedule has named for long
abbrev pub forgotten : ℕ → Stream → Stream
forgotten frame x = record x { agreed = if nat_lt 0 x.agreed && nat_lt (x.agreed + 8) (frame - x.last) then 0 else x.agreed }

abbrev pub after_forgetting : ℕ → Streams → Streams
after_forgetting frame s = record s { all = map (forgotten frame) s.all }

-- a schedule accepted in this frame, at a node that does not host. A closing is one with gap above 0
unfoldable pub schedule_heard : ℕ → ℕ → ℕ → Schedule → Streams → Streams
schedule_heard node boot frame s before =
    let known = heard_host s.plan.rank s.plan.boot before in
    let answered = fold (acknowledged node boot frame) known s.plan.acks in
    let named = fold (owner_named node frame) answered s.plan.owners in
    if s.gap == 0 then named else after_forgetting frame named
