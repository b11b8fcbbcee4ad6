-- What became of each packet that the script puts, and how late it was delivered.
use Rattle.std.specs.Prelude.{ℕ, ◌+◌, ◌-◌, List, [], ◌∷◌, Bool, true, false, ◌&&◌, ◌==◌, Some, None, nat_lt, map, filter, filter_map, flat_map, find}
use Rattle.std.specs.Prelude.{drop, length, count_by, option_map, slice_get}
use Rattle.std.specs.declared.option.Option.{Option}
use Rattle.std.specs.List.{enumerate_from, list_any}
use Rattle.std.specs.Option.{option_map_or}
use Rattle.scenario_text.specs.ScenarioParts.{ScenarioParts}
use Rattle.scenario_text.specs.declared.script.ScriptLine.{ScriptLine}
use Rattle.bus_rules.specs.declared.act.Act.{Act}
use Rattle.bus_rules.specs.declared.act.Act.TheVariants.{Off, Leave}
use Rattle.bus_rules.specs.declared.delivery.Delivery.{Delivery}
use Rattle.bus_terms.specs.Bus.{bus_deliveries, frames_of}
use Rattle.bus_terms.specs.FloodOfText.{ids}
use Rattle.bus_terms.specs.Packets.{bus_puts, bus_sent, put_at}
use Rattle.bus_terms.specs.declared.packets.Fate.{Fate}
use Rattle.bus_terms.specs.declared.packets.Fate.TheVariants.{Dropped, Waiting, Cleared, Sent}
use Rattle.bus_terms.specs.declared.packets.HostedCount.{HostedCount}
use Rattle.bus_terms.specs.declared.packets.Latency.{Latency}
use Rattle.bus_terms.specs.declared.packets.LatencyCount.{LatencyCount}
use Rattle.bus_terms.specs.declared.packets.PacketId.{PacketId}
use Rattle.bus_terms.specs.declared.packets.PutFate.{PutFate}
use Rattle.bus_terms.specs.declared.packets.PutLine.{PutLine}
use Rattle.bus_terms.specs.declared.packets.SentPacket.{SentPacket}
use Rattle.bus_terms.specs.declared.packets.StreamCounts.{StreamCounts}

abbrev pub is_packet : PacketId → PacketId → Bool
is_packet x y = (x.node == y.node) && (x.boot == y.boot) && (x.stream == y.stream) && (x.seq == y.seq)

abbrev pub packet_delivered : Delivery → PacketId
packet_delivered d = record { node = d.from; boot = d.boot; stream = d.stream; seq = d.seq }

-- the deliveries of a packet
abbrev pub deliveries_of : ScenarioParts → PacketId → List Delivery
deliveries_of s x = filter (λ d. is_packet x (packet_delivered d)) (bus_deliveries s)

-- node v hosts this rank, by the hosts of the ranks
abbrev pub is_host : List ℕ → ℕ → ℕ → Bool
is_host hosts rank v = option_map_or (λ h. h == v) (slice_get hosts rank) false

-- a delivery at the host of its round
abbrev pub is_at_host : List ℕ → Delivery → Bool
is_at_host hosts d = is_host hosts d.rank d.node

-- an act that empties the queue of stream i
abbrev pub empties : ℕ → Act → Bool
empties i Off = true
empties i (Leave j) = i == j
empties i other = false

-- a line that empties the queue of the packet
abbrev pub clears : PacketId → ScriptLine → Bool
clears x l = (l.node == x.node) && empties x.stream l.act

-- the frame of the first such line below place i of the script
abbrev pub cleared_below : ScenarioParts → ℕ → PacketId → Option ℕ
cleared_below s i x = option_map (λ l. l.frame) (find (clears x) (drop (i + 1) s.script))

-- by its sending, by the frame in which its queue is emptied, by the number of its deliveries, and by whether one is at the host
abbrev pub fate_by : Option SentPacket → Option ℕ → ℕ → Bool → Fate
fate_by (Some t) cleared receivers at_host = Sent t.frame t.rank t.slot receivers at_host
fate_by None (Some f) receivers at_host = Cleared f
fate_by None None receivers at_host = Waiting

-- of the packet that the line at place i queued
abbrev pub fate_of : ScenarioParts → ℕ → Option PacketId → Fate
fate_of s i None = Dropped
fate_of s i (Some x) =
    fate_by (find (λ t. is_packet x t.packet) (bus_sent s)) (cleared_below s i x) (length (deliveries_of s x))
    (list_any (is_at_host s.hosts) (deliveries_of s x))

abbrev pub fate_at : ScenarioParts → ℕ × ScriptLine → Option PutFate
fate_at s (i, l) = option_map (λ p. record { put = p; fate = fate_of s i p.packet }) (put_at s (i, l))

-- each put line with what became of its packet, in the order of the text
abbrev pub bus_fates : ScenarioParts → List PutFate
bus_fates s = filter_map (fate_at s) (enumerate_from 0 s.script)

abbrev pub queues : PacketId → Option PacketId → Bool
queues x None = false
queues x (Some y) = is_packet x y

-- the line that queued a packet
abbrev pub put_of : ScenarioParts → PacketId → Option PutLine
put_of s x = find (λ p. queues x p.packet) (bus_puts s)

-- a delivery, with the frames since that of the put
abbrev pub latency_since : Delivery → PutLine → Latency
latency_since d p = record { node = d.from; stream = d.stream; at = d.node; frames = d.frame - p.frame }

abbrev pub latency_of : ScenarioParts → Delivery → Option Latency
latency_of s d = option_map (latency_since d) (put_of s (packet_delivered d))

-- by delivery
abbrev pub bus_latencies : ScenarioParts → List Latency
bus_latencies s = filter_map (latency_of s) (bus_deliveries s)

-- by delivery at the host of its round
abbrev pub host_latencies : ScenarioParts → List Latency
host_latencies s = filter_map (latency_of s) (filter (is_at_host s.hosts) (bus_deliveries s))

abbrev pub streams : List ℕ
streams = 0 ∷ 1 ∷ 2 ∷ 3 ∷ []

abbrev pub is_latency : Latency → Latency → Bool
is_latency a b = (a.node == b.node) && (a.stream == b.stream) && (a.at == b.at) && (a.frames == b.frames)

abbrev pub counted : List Latency → Latency → LatencyCount
counted latencies a = record { latency = a; count = count_by (is_latency a) latencies }

-- all latencies of a stream that may be, by receiver and frames
abbrev pub latencies_of : ScenarioParts → ℕ → ℕ → List Latency
latencies_of s v i = flat_map (λ w. map (λ n. record { node = v; stream = i; at = w; frames = n }) (frames_of s)) (ids s.nodes)

-- all that may be, by node and stream too
abbrev pub all_latencies : ScenarioParts → List Latency
all_latencies s = flat_map (λ v. flat_map (latencies_of s v) streams) (ids s.nodes)

-- how often each is among these, for those that are
abbrev pub counts_among : ScenarioParts → List Latency → List LatencyCount
counts_among s latencies = filter (λ c. nat_lt 0 c.count) (map (counted latencies) (all_latencies s))

-- how often each latency came
abbrev pub latency_counts : ScenarioParts → List LatencyCount
latency_counts s = counts_among s (bus_latencies s)

-- and at the hosts of the rounds
abbrev pub host_latency_counts : ScenarioParts → List LatencyCount
host_latency_counts s = counts_among s (host_latencies s)

-- of a stream, put lines with such a fate
abbrev pub of_stream : ℕ → ℕ → (Fate → Bool) → PutFate → Bool
of_stream v i test x = (x.put.node == v) && (x.put.stream == i) && test x.fate

abbrev pub is_dropped : Fate → Bool
is_dropped Dropped = true
is_dropped other = false

abbrev pub is_sent : Fate → Bool
is_sent (Sent frame rank slot receivers at_host) = true
is_sent other = false

-- sent in a round of node w
abbrev pub is_hosted_by : List ℕ → ℕ → Fate → Bool
is_hosted_by hosts w (Sent frame rank slot receivers at_host) = is_host hosts rank w
is_hosted_by hosts w other = false

abbrev pub is_waiting : Fate → Bool
is_waiting Waiting = true
is_waiting other = false

abbrev pub is_cleared : Fate → Bool
is_cleared (Cleared frame) = true
is_cleared other = false

-- how many packets of stream i of node v had each fate
abbrev pub counts_of : ScenarioParts → ℕ → ℕ → StreamCounts
counts_of s v i = record {
  node = v;
  stream = i;
  put = count_by (of_stream v i (λ fate. true)) (bus_fates s);
  dropped = count_by (of_stream v i is_dropped) (bus_fates s);
  sent = count_by (of_stream v i is_sent) (bus_fates s);
  waiting = count_by (of_stream v i is_waiting) (bus_fates s);
  cleared = count_by (of_stream v i is_cleared) (bus_fates s);
}

-- those of each stream with a put line, by node and stream
abbrev pub stream_counts : ScenarioParts → List StreamCounts
stream_counts s = filter (λ c. nat_lt 0 c.put) (flat_map (λ v. map (counts_of s v) streams) (ids s.nodes))

-- how many packets of stream i of node v were sent in rounds of node w
abbrev pub hosted_at : ScenarioParts → ℕ → ℕ → ℕ → HostedCount
hosted_at s v i w = record { node = v; stream = i; at = w; count = count_by (of_stream v i (is_hosted_by s.hosts w)) (bus_fates s) }

-- those of a stream, by host, where there are some
abbrev pub hosted_of : ScenarioParts → StreamCounts → List HostedCount
hosted_of s c = filter (λ h. nat_lt 0 h.count) (map (hosted_at s c.node c.stream) (ids s.nodes))

-- by node, stream and host
abbrev pub hosted_counts : ScenarioParts → List HostedCount
hosted_counts s = flat_map (hosted_of s) (stream_counts s)
