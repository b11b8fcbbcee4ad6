use Rattle.std.proofs.Common.{◌≡◌, ◌∙◌, List, take, filter, flat_map, map, ap, arith}
use Rattle.std.proofs.lemmas.List.{take_all}
use Rattle.scenario_text.specs.declared.lines.NodeLine.{NodeLine}
use Rattle.bus_terms.specs.FloodOfText.{ids}
use Rattle.bus_terms.specs.Fates.{counts_of, streams}
use Rattle.bus_terms.specs.declared.packets.PutFate.{PutFate}
use Rattle.packet_fates.specs.Counts.{counts_in, tally_at}
use Rattle.packet_fates.proofs.CountedStreams.{of_nodes, some_put}
use Rattle.packet_fates.proofs.stream_tally.stream_counts.Goals as goal

pub returns : goal.returns
returns c = λ s nodes fates.
    let all = c.args.nodes.now in
    let end : take c.loop-line.line-index all ≡ all = take_all c.loop-line.line-index all (omega (arith, c.loop-line-test.false)) in
    c.loop-line.invariant
    ∙ ap (λ (ns : List NodeLine). flat_map (λ n. filter some_put (map (tally_at c.in_ok-tally.tally n.node) streams)) ns) end
    ∙ of_nodes (tally_at c.in_ok-tally.tally) (counts_of s) all (λ v j. c.in_ok-tally.ensures v j ∙ ap (λ (l : List PutFate). counts_in l v j) fates)
    ∙ ap (λ (ns : List NodeLine). filter some_put (flat_map (λ v. map (counts_of s v) streams) (ids ns))) nodes
