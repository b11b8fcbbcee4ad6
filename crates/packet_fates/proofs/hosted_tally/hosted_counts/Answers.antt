use Rattle.std.proofs.Common.{◌≡◌, ◌∙◌, List, ap, arith, count_by, filter, flat_map, map, take}
use Rattle.std.proofs.lemmas.List.{take_all}
use Rattle.scenario_text.specs.declared.lines.NodeLine.{NodeLine}
use Rattle.bus_terms.specs.Fates.{bus_fates, stream_counts}
use Rattle.bus_terms.specs.declared.packets.HostedCount.{HostedCount}
use Rattle.bus_terms.specs.declared.packets.StreamCounts.{StreamCounts}
use Rattle.packet_fates.specs.Hosted.{IsHostedTally, hosted_in, is_of_hosted}
use Rattle.packet_fates.proofs.HostedStreams.{of_streams, some_sent}
use Rattle.packet_fates.proofs.hosted_tally.hosted_counts.Goals as goal

pub returns : goal.returns
returns c = λ s nodes hosts fates streams.
    let tally = c.in_ok-tally.tally in
    let all = c.args.streams.now in
    let of_all : List NodeLine → List StreamCounts → List HostedCount =
    λ ns cs. flat_map (λ (x : StreamCounts). filter some_sent (map (λ (n : NodeLine). hosted_in tally x.node x.stream n.node) ns)) cs in
    let end : take c.loop-stream.stream-index all ≡ all = take_all c.loop-stream.stream-index all (omega (arith, c.loop-stream-test.false)) in
    let are : IsHostedTally s.hosts (bus_fates s) tally =
    λ k. c.in_ok-tally.ensures k ∙ (λ j. count_by (is_of_hosted (hosts j) k) (fates j)) in
    c.loop-stream.invariant
    ∙ ap (of_all c.args.nodes.now) end
    ∙ (λ j. of_all (nodes j) (streams j))
    ∙ of_streams s tally are (stream_counts s)
