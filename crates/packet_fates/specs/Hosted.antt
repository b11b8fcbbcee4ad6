-- How many packets of streams were sent in rounds of hosts, as it is counted.
use Rattle.std.specs.Prelude.{◌≡◌, ℕ, List, Bool, None, count_by, slice_get}
use Rattle.std.specs.declared.cmp.Ordering.{Ordering}
use Rattle.std.specs.declared.option.Option.{Option}
use Rattle.std.specs.Ordering.{nat_cmp, ordering_then}
use Rattle.std.specs.BTreeMap.{BTreeMap, get}
use Rattle.std.specs.Map.{count_at}
use Rattle.bus_terms.specs.Fates.{is_hosted_by, of_stream}
use Rattle.bus_terms.specs.declared.packets.Fate.{Fate}
use Rattle.bus_terms.specs.declared.packets.Fate.TheVariants.{Sent}
use Rattle.bus_terms.specs.declared.packets.HostedCount.{HostedCount}
use Rattle.bus_terms.specs.declared.packets.PutFate.{PutFate}
use Rattle.packet_fates.specs.declared.hosted_tally.HostedStream.{HostedStream}

-- by node, stream and host
abbrev pub hosted_cmp : HostedStream → HostedStream → Ordering
hosted_cmp a b = ordering_then (nat_cmp a.node b.node) (ordering_then (nat_cmp a.stream b.stream) (nat_cmp a.at b.at))

-- the host of the round in which it was sent
abbrev pub host_of_fate : List ℕ → Fate → Option ℕ
host_of_fate hosts (Sent frame rank slot receivers at_host) = slice_get hosts rank
host_of_fate hosts other = None

-- of this stream, and sent in a round of this host
abbrev pub is_of_hosted : List ℕ → HostedStream → PutFate → Bool
is_of_hosted hosts k = of_stream k.node k.stream (is_hosted_by hosts k.at)

abbrev pub IsHostedTally : List ℕ → List PutFate → BTreeMap HostedStream ℕ → Type 0
IsHostedTally hosts fates tally = (k : HostedStream) → count_at (get hosted_cmp tally) k ≡ count_by (is_of_hosted hosts k) fates

-- as a tally has it
abbrev pub hosted_in : BTreeMap HostedStream ℕ → ℕ → ℕ → ℕ → HostedCount
hosted_in tally v i w =
    let k : HostedStream = record { node = v; stream = i; at = w } in
    record { node = v; stream = i; at = w; count = count_at (get hosted_cmp tally) k }
