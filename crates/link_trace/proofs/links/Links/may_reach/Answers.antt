use Rattle.std.proofs.Common.{◌≡◌, ℕ, Bool, get_or, ap, sym, ◌∙◌}
use Rattle.std.specs.Int.{bit_at}
use Rattle.link_trace.specs.Passes.{passes}
use Rattle.link_trace.proofs.MaskBits.{if_unset}
use Rattle.link_trace.proofs.links.Links.may_reach.Goals as goal

pub returns : goal.returns
returns g c =
    let nodes = g.Self.Links.nodes c.args.self.now in
    let test : ℕ → Bool = λ from. passes (g.Self.Links.lines c.args.self.now) c.args.frame c.args.slot c.args.step from (get_or nodes c.args.at 0) in
    λ i inside none. if_unset nodes test c.from_mask.result c.from_mask.ensures i inside (ap (λ (n : ℕ). bit_at n i) (sym c.of_word.ensures) ∙ none)
