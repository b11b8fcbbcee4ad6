use Rattle.std.proofs.Common.{◌∙◌, ap}
use Rattle.bus_terms.specs.declared.packets.StreamCounts.{StreamCounts}
use Rattle.packet_fates.specs.Counts.{counts_after}
use Rattle.packet_fates.specs.declared.stream_tally.StreamTally.{StreamTally}
use Rattle.packet_fates.proofs.CountedStreams.{noted_at}
use Rattle.packet_fates.proofs.stream_tally.StreamTally.note.Goals as goal

pub returns : goal.returns
returns c =
    let after : StreamTally = record { counts = c.insert.new.self } in
    let f = c.args.fate.now in
    noted_at c.args.self.now after f.put.node f.put.stream c.with_one_more-counts.result f.fate c.in_ok-insert.ensures.updates.0
    (c.with_one_more-counts.ensures ∙ ap (λ (x : StreamCounts). counts_after x f.fate) c.at.ensures)
