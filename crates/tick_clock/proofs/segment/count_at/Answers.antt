use Rattle.std.proofs.Common.{◌∙◌, sym, arith}
use Rattle.tick_clock.proofs.Walks.{in_force_found, count_small}
use Rattle.tick_clock.proofs.segment.count_at.Goals as goal

pub counted-requires : goal.counted-requires
counted-requires c =
    let xs = c.args.segments.now in
    let force = in_force_found xs c.args.t c.last_begun.result c.requires.kept c.last_begun.ensures in
    record { rate = force.rate; begun = force.begun; small = omega (arith, force.early, count_small xs c.args.t c.requires.kept c.requires.range) }

pub returns : goal.returns
returns c = c.counted.ensures ∙ sym (in_force_found c.args.segments.now c.args.t c.last_begun.result c.requires.kept c.last_begun.ensures).counted
