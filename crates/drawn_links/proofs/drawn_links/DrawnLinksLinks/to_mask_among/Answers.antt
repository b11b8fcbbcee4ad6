use Rattle.std.proofs.Common.{◌≡◌, true, get_or, sym, ◌∙◌, ap, subst}
use Rattle.link_trace.specs.Masks.{IsMaskAmong}
use Rattle.link_trace.specs.Passes.{passes}
use Rattle.link_trace.specs.Sealed.{Traced}
use Rattle.drawn_links.specs.Drawings.{Drawing, has_coins, lines_of}
use Rattle.drawn_links.proofs.KeptBits.{all_among, kept_among}
use Rattle.drawn_links.proofs.drawn_links.DrawnLinksLinks.to_mask_among.Goals as goal

pub returns-then-not-has_coins : goal.returns-then-not-has_coins
returns-then-not-has_coins c =
    let d = c.self.inside in
    let t = d.trace.now in
    let mask = c.to_mask_among-receivers.result in
    subst (λ (x : Drawing). IsMaskAmong (λ v. passes (lines_of x) c.args.frame c.args.slot c.args.step (get_or x.trace.nodes c.args.from 0) v) x.trace.nodes
    c.args.among mask)
    c.self.view_is
    (all_among t.lines d.ratios.now.lines d.seed d.frames c.args.frame c.args.slot c.args.step t.nodes (get_or t.nodes c.args.from 0) c.args.among mask
    (sym c.has_coins.ensures ∙ c.if-not-has_coins.true) c.to_mask_among-receivers.ensures)

pub returns : goal.returns
returns c =
    let d = c.args.self.now in
    let from = get_or d.trace.nodes c.args.from 0 in
    let receivers = subst (λ (t : Traced). IsMaskAmong (λ v. passes t.lines c.args.frame c.args.slot c.args.step (get_or t.nodes c.args.from 0) v) t.nodes
    c.args.among c.to_mask_among-receivers.result) (ap (λ (x : Drawing). x.trace) c.self.view_is) c.to_mask_among-receivers.ensures in
    let coins : has_coins d.frames c.args.frame c.args.slot c.args.step ≡ true =
    ap (λ (x : Drawing). has_coins x.frames c.args.frame c.args.slot c.args.step) (sym c.self.view_is) ∙ sym c.has_coins.ensures ∙ c.if-not-has_coins.false in
    kept_among d.trace.lines d.ratios d.seed d.frames c.args.frame c.args.slot c.args.step d.trace.nodes from c.args.among c.to_mask_among-receivers.result
    c.kept_to.result coins receivers (c.kept_to.ensures c.args.slot c.args.step c.step_key.ensures)
