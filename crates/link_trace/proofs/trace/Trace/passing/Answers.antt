use Rattle.std.proofs.Common.{◌≡◌, ◌==◌, ℕ, List, sym, subst, ◌∙◌, ap}
use Rattle.std.specs.List.{filter, list_any}
use Rattle.link_trace.specs.declared.lines.CutLine.{CutLine}
use Rattle.link_trace.specs.declared.lines.LoseLine.{LoseLine}
use Rattle.link_trace.specs.Masks.{IsMask}
use Rattle.link_trace.specs.Passes.{cuts_by}
use Rattle.link_trace.specs.Sealed.{Traced}
use Rattle.link_trace.specs.Sides.{is_lost}
use Rattle.link_trace.proofs.MasksOfPassing.{none_passing, left_passing}
use Rattle.link_trace.proofs.trace.Trace.passing.Goals as goal

pub returns-then-names : goal.returns-then-names
returns-then-names c =
    let found = c.cuts_so_far-cuts.result.now in
    let found_is : found ≡ filter (cuts_by c.args.frame c.args.slot c.args.step) c.args.self.now.lines.cuts =
    c.cuts_so_far-cuts.ensures ∙ ap (λ (ls : List CutLine). filter (cuts_by c.args.frame c.args.slot c.args.step) ls) (c.deref-5.ensures.value
    ∙ ap (λ (t : Traced). t.lines.cuts) c.self.view_is) in
    none_passing c.args.self.now c.args.frame c.args.slot c.args.step c.args.side.now c.args.links c.requires found found_is
    (ap (λ (u : ℕ). list_any (λ (l : CutLine). l.node == u) found) (sym c.own.ensures) ∙ sym c.names.ensures ∙ c.if-names.true)

pub returns : goal.returns
returns c =
    let s = c.args.self.now in
    let f = c.args.frame in
    let j = c.args.slot in
    let k = c.args.step in
    let side = c.args.side.now in
    let found = c.cuts_so_far-cuts.result.now in
    let lost = c.lost_mask-lost.result in
    let nodes_are : c.as_slice-nodes.result.now ≡ s.nodes = c.as_slice-nodes.ensures.value ∙ ap (λ (t : Traced). t.nodes) c.self.view_is in
    let found_is : found ≡ filter (cuts_by f j k) s.lines.cuts =
    c.cuts_so_far-cuts.ensures ∙ ap (λ (ls : List CutLine). filter (cuts_by f j k) ls) (c.deref-5.ensures.value
    ∙ ap (λ (t : Traced). t.lines.cuts) c.self.view_is) in
    left_passing s f j k side c.args.links c.requires lost
    (subst (λ (ls : List LoseLine). IsMask (λ v. is_lost f j k side ls v) s.nodes lost) (c.deref-3.ensures.value
    ∙ ap (λ (t : Traced). t.lines.losses) c.self.view_is)
    (subst (λ (ns : List ℕ). IsMask (λ v. is_lost f j k side c.deref-3.result.now v) ns lost) nodes_are c.lost_mask-lost.ensures))
    c.except-2.result c.except-2.ensures found found_is
    (ap (λ (u : ℕ). list_any (λ (l : CutLine). l.node == u) found) (sym c.own.ensures) ∙ sym c.names.ensures ∙ c.if-names.false)
    c.cut_mask-cut.result
    (subst (λ (ns : List ℕ). IsMask (λ v. list_any (λ (l : CutLine). l.node == v) found) ns c.cut_mask-cut.result) nodes_are c.cut_mask-cut.ensures)
    c.except-3.result c.except-3.ensures
