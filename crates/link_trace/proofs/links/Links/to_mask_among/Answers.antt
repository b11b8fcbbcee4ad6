use Rattle.std.proofs.Common.{ℕ, Bool, bit_and, get_or, ap, sym, subst, ◌∙◌}
use Rattle.link_trace.specs.Masks.{IsMaskAmong}
use Rattle.link_trace.specs.Passes.{passes}
use Rattle.link_trace.proofs.MaskBits.{in_set}
use Rattle.link_trace.proofs.links.Links.to_mask_among.Goals as goal

pub returns : goal.returns
returns g c =
    let nodes = g.Self.Links.nodes c.args.self.now in
    let test : ℕ → Bool = λ to. passes (g.Self.Links.lines c.args.self.now) c.args.frame c.args.slot c.args.step (get_or nodes c.args.from 0) to in
    subst (IsMaskAmong test nodes c.args.among) (sym (c.and.ensures ∙ ap (λ (n : ℕ). bit_and n c.args.among) c.of_word.ensures))
    (in_set nodes test c.to_mask.result c.args.among c.to_mask.ensures)
