use Rattle.std.proofs.Common.{◌≡◌, ◌∙◌, List, filter, map, subst}
use Rattle.std.proofs.lemmas.Result.{IfOk-weaker}
use Rattle.std.specs.BTreeMap.{IsOrdered}
use Rattle.bus_terms.specs.Bus.{bus_deliveries}
use Rattle.bus_terms.specs.Fates.{host_latency_counts, is_at_host}
use Rattle.bus_terms.specs.declared.packets.Latency.{Latency}
use Rattle.packet_fates.specs.Latencies.{IsTallyOf, count_of_entry, latency_cmp}
use Rattle.packet_fates.proofs.LatenciesInOrder.{at_hosts_among, counts_are, host_latencies_are}
use Rattle.packet_fates.proofs.latency_tally.host_latency_counts.Goals as goal

pub returns : goal.returns
returns c = λ s said hosts puts deliveries.
    let tally = c.in_ok-tally.tally in
    let same = host_latencies_are s c.in_ok-first.first c.args.puts.now puts c.in_ok-first.ensures c.args.hosts.now c.args.deliveries.now hosts deliveries in
    let tallied = subst (λ (l : List Latency). IsTallyOf l tally) same c.in_ok-tally.ensures in
    IfOk-weaker c.counts_in_order.result (λ counts. (counts.items ≡ map count_of_entry tally.entries) × IsOrdered latency_cmp tally)
    (λ counts. counts.items ≡ host_latency_counts s)
    (λ counts is. is.0 ∙ counts_are s said tally is.1 (filter (is_at_host s.hosts) (bus_deliveries s)) (at_hosts_among s) tallied) c.counts_in_order.ensures
