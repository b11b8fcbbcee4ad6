-- How late packets were delivered, as it is counted.
use Rattle.std.specs.Prelude.{◌≡◌, ℕ, List, Some, None, count_by, if◌then◌else◌, nat_lt, option_map}
use Rattle.std.specs.declared.cmp.Ordering.{Ordering}
use Rattle.std.specs.declared.option.Option.{Option}
use Rattle.std.specs.Ordering.{nat_cmp, ordering_then}
use Rattle.std.specs.BTreeMap.{BTreeMap, get}
use Rattle.bus_rules.specs.declared.delivery.Delivery.{Delivery}
use Rattle.bus_terms.specs.Fates.{is_at_host, is_latency, latency_since, packet_delivered}
use Rattle.bus_terms.specs.declared.packets.Latency.{Latency}
use Rattle.bus_terms.specs.declared.packets.LatencyCount.{LatencyCount}
use Rattle.bus_terms.specs.declared.packets.PacketId.{PacketId}
use Rattle.bus_terms.specs.declared.packets.PutLine.{PutLine}
use Rattle.packet_fates.specs.PacketOrder.{packet_cmp}

-- by node, stream, receiver and frames
abbrev pub latency_cmp : Latency → Latency → Ordering
latency_cmp a b = ordering_then (nat_cmp a.node b.node)
    (ordering_then (nat_cmp a.stream b.stream) (ordering_then (nat_cmp a.at b.at) (nat_cmp a.frames b.frames)))

-- by the line that queued each packet
abbrev pub latency_by : BTreeMap PacketId PutLine → Delivery → Option Latency
latency_by first d = option_map (latency_since d) (get packet_cmp first (packet_delivered d))

-- of the deliveries at the hosts of their rounds
abbrev pub host_latency_by : List ℕ → BTreeMap PacketId PutLine → Delivery → Option Latency
host_latency_by hosts first d = if is_at_host hosts d then latency_by first d else None

abbrev pub some_count : ℕ → Option ℕ
some_count n = if nat_lt 0 n then Some n else None

-- how often each latency is among these, for those that are
abbrev pub IsTallyOf : List Latency → BTreeMap Latency ℕ → Type 0
IsTallyOf latencies tally = (a : Latency) → get latency_cmp tally a ≡ some_count (count_by (is_latency a) latencies)

abbrev pub count_of_entry : Latency × ℕ → LatencyCount
count_of_entry (a, n) = record { latency = a; count = n }
