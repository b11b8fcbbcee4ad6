use Rattle.lwb_member.proofs.Answering.{served_more}
use Rattle.lwb_member.proofs.planning.serve_own.Goals as goal

pub loop-stream-preserved : goal.loop-stream-preserved
loop-stream-preserved c =
    let l = c.loop-stream in
    record {
      is =
          served_more c.args.frame c.args.node c.args.boot l.stream c.new.result c.args.table.now l.table c.serve_one.new.table c.args.streams.now l.streams
          c.serve_one.new.streams c.loop-stream-test.true c.new.ensures l.invariant.is c.serve_one.ensures.table c.serve_one.ensures.streams;
      early = c.serve_one.ensures.early;
    }
