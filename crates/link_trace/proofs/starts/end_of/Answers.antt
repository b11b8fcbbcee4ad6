use Rattle.std.proofs.Common.{◌+◌, arith}
use Rattle.link_trace.proofs.starts.end_of.Goals as goal

pub returns-then-next-starts-clause-after : goal.returns-then-next-starts-clause-after
returns-then-next-starts-clause-after g c = λ k d low high.
    let later = (c.requires.starts.parted (c.args.slot + 1) c.if-next-starts.true).1 k d low high in omega (arith, later)
