use Rattle.drawn_links.proofs.LinksKept.{no_lines}
use Rattle.drawn_links.proofs.ratios.Ratios.new.Goals as goal

pub invariant_of-result : goal.invariant_of-result
invariant_of-result c =
    rw (c.in_ok-from_slice.ensures.items, c.new.ensures.items, c.in_ok-no_ratios.ensures)
    (no_lines c.args.nodes.now c.requires.few c.requires.ascending)
