use Rattle.std.proofs.Common.{◌≡◌, ◌++◌, List, ℕ, append_assoc, flat_map, ◌∙◌, ap, string_bytes}
use Rattle.scenario_text.specs.ScenarioParts.{ScenarioParts}
use Rattle.bus_terms.specs.Fates.{host_latency_counts, latency_counts}
use Rattle.scenario_text.specs.OverLines.{IsOverScenario, over}
use Rattle.bus_terms.specs.declared.packets.LatencyCount.{LatencyCount}
use Rattle.fate_report.specs.SampleLines.{host_line, latency_line}
use Rattle.plan_commands.proofs.seed_text.write_times.Goals as goal

pub returns : goal.returns
returns c =
    λ t run.
    let d : ScenarioParts = over c.args.scenario.now t in
    let said : IsOverScenario d = (c.args.scenario.now.trace, c.hosts.ensures.said) in
    let old : List ℕ = string_bytes c.args.text.now in
    let all : List ℕ = flat_map latency_line (latency_counts d) in
    let at_hosts : List ℕ = flat_map host_line (host_latency_counts d) in
    let late : c.in_ok-latencies.latencies.items ≡ latency_counts d =
    c.in_ok-latencies.ensures d said (c.puts.ensures ∙ run.put) (c.deliveries.ensures ∙ run.delivered) in
    let late_at_hosts : c.in_ok-at_hosts.at_hosts.items ≡ host_latency_counts d =
    c.in_ok-at_hosts.ensures d said c.hosts.ensures.value (c.puts-2.ensures ∙ run.put) (c.deliveries-2.ensures ∙ run.delivered) in
    let first : string_bytes c.write_latencies.new.text ≡ old ++ all =
    c.in_ok-write_latencies.ensures ∙ ap (λ (l : List LatencyCount). old ++ flat_map latency_line l) (c.deref.ensures.value ∙ late) in
    let second : string_bytes c.write_host_latencies.new.text ≡ string_bytes c.write_latencies.new.text ++ at_hosts =
    c.in_ok-write_host_latencies.ensures
    ∙ ap (λ (l : List LatencyCount). string_bytes c.write_latencies.new.text ++ flat_map host_line l) (c.deref-2.ensures.value ∙ late_at_hosts) in
    second ∙ ap (λ (l : List ℕ). l ++ at_hosts) first ∙ append_assoc old all at_hosts
