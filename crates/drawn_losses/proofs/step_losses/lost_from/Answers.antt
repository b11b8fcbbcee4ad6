use Rattle.std.proofs.Common.{ℕ, List, Bool, false, not, ◌&&◌, get_or, subst, sym, ◌∙◌, ap}
use Rattle.link_trace.specs.Masks.{IsMask}
use Rattle.link_trace.specs.Passes.{passes}
use Rattle.link_trace.proofs.MaskBits.{empty_mask, left_out, same_tests}
use Rattle.plain_bus.proofs.HeardByMasks.{bit_tells}
use Rattle.drawn_losses.proofs.step_losses.lost_from.Goals as goal

pub returns-then-not-has : goal.returns-then-not-has
returns-then-not-has g c sends senders =
    let nodes = g.M.Links.nodes c.args.links.now in
    let u = get_or nodes c.args.from 0 in
    let fl = c.args.flood.now in
    let lost : ℕ → Bool = λ v. passes (g.B.Links.lines c.args.base.now) fl.frame fl.slot c.args.step u v
    && not (passes (g.M.Links.lines c.args.links.now) fl.frame fl.slot c.args.step u v) in
    let silent = sym (bit_tells nodes sends c.args.senders c.args.from senders c.requires.from) ∙ sym c.has.ensures ∙ c.if-not-has.true in
    same_tests nodes (λ v. false) (λ v. sends u && lost v) 0 (λ v. sym (ap (λ (b : Bool). b && lost v) silent)) (empty_mask nodes)

pub returns : goal.returns
returns g c sends senders =
    let nodes = g.M.Links.nodes c.args.links.now in
    let u = get_or nodes c.args.from 0 in
    let fl = c.args.flood.now in
    let p : ℕ → Bool = λ v. passes (g.B.Links.lines c.args.base.now) fl.frame fl.slot c.args.step u v in
    let q : ℕ → Bool = λ v. passes (g.M.Links.lines c.args.links.now) fl.frame fl.slot c.args.step u v in
    let transmits = sym (bit_tells nodes sends c.args.senders c.args.from senders c.requires.from) ∙ sym c.has.ensures ∙ c.if-not-has.false in
    let based : IsMask p nodes c.to_mask-2.result =
    subst (λ (l : List ℕ). IsMask (λ v. passes (g.B.Links.lines c.args.base.now) fl.frame fl.slot c.args.step (get_or l c.args.from 0) v) l c.to_mask-2.result)
    c.requires.same c.to_mask-2.ensures in
    same_tests nodes (λ v. p v && not (q v)) (λ v. sends u && (p v && not (q v)))
    c.except.result
    (λ v. sym (ap (λ (b : Bool). b && (p v && not (q v))) transmits))
    (left_out nodes p q c.of_word-by_base.result c.of_word-passing.result c.except.result c.except.ensures (rw c.of_word-by_base.ensures based)
    (rw c.of_word-passing.ensures c.to_mask.ensures))
