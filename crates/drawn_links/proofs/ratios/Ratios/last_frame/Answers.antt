use Rattle.std.proofs.Common.{◌≡◌, ℕ, ◌-◌, List, length, get_or, option_map, sym, ◌∙◌, ap}
use Rattle.std.specs.List.{slice_get}
use Rattle.drawn_links.specs.RatioTables.{Rated, steps_of}
use Rattle.drawn_links.specs.declared.ratio_step.RatioStep.{RatioStep}
use Rattle.drawn_links.proofs.LinksKept.{last_is}
use Rattle.drawn_links.proofs.ratios.Ratios.last_frame.Goals as goal

pub returns : goal.returns
returns c =
    let s = c.args.self.now in
    let nodes_are : c.self.inside.nodes.items ≡ s.nodes = ap (λ (r : Rated). r.nodes) c.self.view_is in
    let from_is : get_or s.nodes c.place_of-from.result 0 ≡ c.args.from =
    ap (λ (ns : List ℕ). get_or ns c.place_of-from.result 0) (sym (c.deref.ensures.value ∙ nodes_are)) ∙ c.place_of-from.ensures.node in
    let to_is : get_or s.nodes c.place_of-to.result 0 ≡ c.args.to =
    ap (λ (ns : List ℕ). get_or ns c.place_of-to.result 0) (sym (c.deref-2.ensures.value ∙ nodes_are)) ∙ c.place_of-to.ensures.node in
    c.last_frame.ensures
    ∙ ap (λ (steps : List RatioStep). option_map (λ (x : RatioStep). x.frame) (slice_get steps (length steps - 1)))
    (c.link.ensures ∙ ap (λ (u : ℕ). steps_of s.lines u (get_or s.nodes c.place_of-to.result 0)) from_is ∙ ap (steps_of s.lines c.args.from) to_is)
    ∙ last_is s.lines c.args.from c.args.to
