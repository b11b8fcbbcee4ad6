use Rattle.drawn_links.proofs.LinksKept.{is_found}
use Rattle.drawn_links.proofs.ratios.place_of.Goals as goal

pub unwrap-requires : goal.unwrap-requires
unwrap-requires c =
    is_found c.args.nodes.now c.args.node c.binary_search.result c.requires.ascending c.requires.known c.binary_search.ensures.position
