-- The lines of what became of the packets of each stream, counted.
use Rattle.std.specs.Prelude.{ℕ, List, [], ◌∷◌, ◌++◌, codes, flat_map}
use Rattle.text_writers.specs.Lines.{line_text, numbered}
use Rattle.scenario_text.specs.ScenarioParts.{ScenarioParts}
use Rattle.bus_terms.specs.Fates.{host_latency_counts, hosted_counts, latency_counts, stream_counts}
use Rattle.bus_terms.specs.declared.packets.HostedCount.{HostedCount}
use Rattle.bus_terms.specs.declared.packets.LatencyCount.{LatencyCount}
use Rattle.bus_terms.specs.declared.packets.StreamCounts.{StreamCounts}
use Rattle.bus_report.specs.BusReport.{cost_lines}

abbrev pub counts_line : StreamCounts → List ℕ
counts_line c = line_text (numbered (codes "puts") (c.node ∷ c.stream ∷ c.put ∷ c.dropped ∷ c.sent ∷ c.waiting ∷ c.cleared ∷ []))

abbrev pub hosted_line : HostedCount → List ℕ
hosted_line c = line_text (numbered (codes "hosted") (c.node ∷ c.stream ∷ c.at ∷ c.count ∷ []))

abbrev pub latency_numbers : LatencyCount → List ℕ
latency_numbers c = c.latency.node ∷ c.latency.stream ∷ c.latency.at ∷ c.latency.frames ∷ c.count ∷ []

abbrev pub latency_line : LatencyCount → List ℕ
latency_line c = line_text (numbered (codes "latency") (latency_numbers c))

abbrev pub host_line : LatencyCount → List ℕ
host_line c = line_text (numbered (codes "host") (latency_numbers c))

-- how many packets of each stream had each fate, and how many were sent in rounds of each host
abbrev pub streams_text : ScenarioParts → List ℕ
streams_text s = flat_map counts_line (stream_counts s) ++ flat_map hosted_line (hosted_counts s)

-- how late they were delivered, and how late at the hosts of the rounds
abbrev pub times_text : ScenarioParts → List ℕ
times_text s = flat_map latency_line (latency_counts s) ++ flat_map host_line (host_latency_counts s)

-- what became of the packets of each stream, how long they took, and what each node costs
abbrev pub sample_text : ScenarioParts → List ℕ
sample_text s = streams_text s ++ times_text s ++ cost_lines s
