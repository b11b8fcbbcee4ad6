use Rattle.std.proofs.Common.{ℕ, ◌<◌, ◌++◌, ◌∷◌, [], List, length, get_or, IfSome, sym, ◌∙◌, ap, subst}
use Rattle.drawn_links.specs.RatioTables.{Rated, last_frame, step_of}
use Rattle.drawn_links.specs.declared.ratio_line.RatioLine.{RatioLine}
use Rattle.drawn_links.specs.declared.ratio_step.RatioStep.{RatioStep}
use Rattle.drawn_links.proofs.LinksKept.{kept_there, begins_later, one_line_more}
use Rattle.drawn_links.proofs.ratios.Ratios.add.Goals as goal

pub add-requires : goal.add-requires
add-requires c =
    let l = c.args.line in
    let kept = c.self.inside in
    let place_from = c.place_of-from.result in
    let place_to = c.place_of-to.result in
    let from_inside = subst (λ (ns : List ℕ). place_from < length ns) c.deref.ensures.value c.place_of-from.ensures.within in
    let to_inside = subst (λ (ns : List ℕ). place_to < length ns) c.deref-2.ensures.value c.place_of-to.ensures.within in
    let from_is = ap (λ (ns : List ℕ). get_or ns place_from 0) (sym c.deref.ensures.value) ∙ c.place_of-from.ensures.node in
    let to_is = ap (λ (ns : List ℕ). get_or ns place_to 0) (sym c.deref-2.ensures.value) ∙ c.place_of-to.ensures.node in
    begins_later kept.lines.items l.from l.to l.frame c.index_mut-link.result.now
    (kept_there kept.nodes.items kept.lines.items kept.links.items c.self.invariant l place_from place_to from_inside to_inside from_is to_is
    c.link_place.result c.index_mut-link.result.now c.link_place.ensures c.index_mut-link.ensures.value)
    (subst (λ (r : Rated). IfSome (last_frame r.lines l.from l.to) (λ f. f < l.frame)) (sym c.self.view_is) c.requires.later)

pub invariant_of-self-2 : goal.invariant_of-self-2
invariant_of-self-2 c =
    let l = c.args.line in
    let kept = c.self.inside in
    let place_from = c.place_of-from.result in
    let place_to = c.place_of-to.result in
    let from_inside = subst (λ (ns : List ℕ). place_from < length ns) c.deref.ensures.value c.place_of-from.ensures.within in
    let to_inside = subst (λ (ns : List ℕ). place_to < length ns) c.deref-2.ensures.value c.place_of-to.ensures.within in
    let from_is = ap (λ (ns : List ℕ). get_or ns place_from 0) (sym c.deref.ensures.value) ∙ c.place_of-from.ensures.node in
    let to_is = ap (λ (ns : List ℕ). get_or ns place_to 0) (sym c.deref-2.ensures.value) ∙ c.place_of-to.ensures.node in
    let held = kept_there kept.nodes.items kept.lines.items kept.links.items c.self.invariant l place_from place_to from_inside to_inside from_is to_is
    c.link_place.result c.index_mut-link.result.now c.link_place.ensures c.index_mut-link.ensures.value in
    rw (c.push_reserved.ensures.items ∙ ap (λ (ls : List RatioLine). ls ++ l ∷ []) c.reserve.ensures.items)
    (one_line_more kept.nodes.items kept.lines.items kept.links.items c.self.invariant l place_from place_to from_inside to_inside from_is to_is
    c.link_place.result c.add.new.self c.link_place.ensures
    (c.in_ok-add.ensures.added ∙ ap (λ (steps : List RatioStep). steps ++ step_of l ∷ []) held))
