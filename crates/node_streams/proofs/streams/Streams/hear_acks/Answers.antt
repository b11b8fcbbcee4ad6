use Rattle.std.proofs.Common.{◌≡◌, true, arith, sym, ◌∙◌}
use Rattle.std.proofs.lemmas.Bool.{and_parts, leb-true}
use Rattle.bus_rules.specs.Streams.{acknowledged}
use Rattle.schedule_codec.specs.AckLists.{ask_in_range}
use Rattle.node_streams.proofs.InTurn.{some_at, passes_at, fold_step}
use Rattle.node_streams.proofs.streams.Streams.hear_acks.Goals as goal

pub unwrap-ack-requires : goal.unwrap-ack-requires
unwrap-ack-requires c = rw c.at.ensures (some_at c.args.acks.now c.loop-i.i (omega arith))

pub hear_ack-requires : goal.hear_ack-requires
hear_ack-requires c =
    let ranges : ask_in_range c.unwrap-ack.result ≡ true =
    passes_at ask_in_range c.args.acks.now c.loop-i.i c.unwrap-ack.result c.requires (sym c.at.ensures ∙ c.unwrap-ack.ensures) in
    let parts = and_parts _ _ (and_parts _ _ ranges).0 in
    leb-true c.unwrap-ack.result.stream 3 parts.1

pub loop-i-preserved : goal.loop-i-preserved
loop-i-preserved c =
    fold_step (acknowledged c.args.node c.args.boot c.args.frame) c.args.self.now c.args.acks.now c.loop-i.i c.unwrap-ack.result c.loop-i.self
    c.hear_ack.new.self
    (sym c.at.ensures ∙ c.unwrap-ack.ensures) c.loop-i.invariant c.hear_ack.ensures
