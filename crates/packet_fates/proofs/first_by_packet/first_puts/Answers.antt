use Rattle.std.proofs.Common.{Option, Some, None, if◌then◌else◌, sym, ◌∙◌, ap}
use Rattle.std.specs.Option.{option_or}
use Rattle.bus_terms.specs.Fates.{queues}
use Rattle.bus_terms.specs.declared.packets.PutLine.{PutLine}
use Rattle.packet_fates.proofs.FirstOnes.{find_more}
use Rattle.packet_fates.proofs.first_by_packet.first_puts.Goals as goal

pub loop-put-preserved : goal.loop-put-preserved
loop-put-preserved c = λ x.
    let p = c.put-item.result in
    c.in_ok-note_put.ensures x
    ∙ ap (λ (o : Option PutLine). option_or o (if queues x p.packet then Some p else None)) (c.loop-put.invariant x)
    ∙ sym (find_more (λ (p : PutLine). queues x p.packet) c.args.puts.now c.loop-put.put-index p c.loop-put-test.true c.put-item.is)
