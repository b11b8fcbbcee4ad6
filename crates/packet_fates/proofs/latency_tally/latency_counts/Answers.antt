use Rattle.std.proofs.Common.{◌≡◌, ◌∙◌, List, map, subst}
use Rattle.std.proofs.lemmas.Result.{IfOk-weaker}
use Rattle.std.specs.BTreeMap.{IsOrdered}
use Rattle.bus_terms.specs.Bus.{bus_deliveries}
use Rattle.bus_terms.specs.Fates.{latency_counts}
use Rattle.bus_terms.specs.declared.packets.Latency.{Latency}
use Rattle.packet_fates.specs.Latencies.{IsTallyOf, count_of_entry, latency_cmp}
use Rattle.packet_fates.proofs.LatenciesInOrder.{counts_are, latencies_are}
use Rattle.packet_fates.proofs.latency_tally.latency_counts.Goals as goal

pub returns : goal.returns
returns c = λ s said puts deliveries.
    let tally = c.in_ok-tally.tally in
    let same = latencies_are s c.in_ok-first.first c.args.puts.now puts c.in_ok-first.ensures c.args.deliveries.now deliveries in
    let tallied = subst (λ (l : List Latency). IsTallyOf l tally) same c.in_ok-tally.ensures in
    IfOk-weaker c.counts_in_order.result (λ counts. (counts.items ≡ map count_of_entry tally.entries) × IsOrdered latency_cmp tally)
    (λ counts. counts.items ≡ latency_counts s) (λ counts is. is.0 ∙ counts_are s said tally is.1 (bus_deliveries s) (λ d there. there) tallied)
    c.counts_in_order.ensures
