use Rattle.std.proofs.Common.{◌≡◌, ℕ, List, Option, nat_eq, not, get_or, subst, sym, ◌∙◌, ap}
use Rattle.std.specs.Option.{option_eq}
use Rattle.bus_terms.specs.Flooding.{hears, moment}
use Rattle.plain_bus.specs.FloodMasks.{AreAt}
use Rattle.drawn_bus.specs.KeptLosses.{flood_over}
use Rattle.drawn_losses.proofs.FloodsOverBase.{over_base, sends_over}
use Rattle.drawn_losses.proofs.step_losses.receives_otherwise.Goals as goal

pub returns : goal.returns
returns g c x flood known at =
    let k = c.args.step in
    let fl = c.args.flood.now in
    let m = moment x k in
    let base = g.B.Links.lines c.args.base.now in
    let lines = g.M.Links.lines c.args.links.now in
    let nodes = g.M.Links.nodes c.args.links.now in
    let y = flood_over base fl.frame fl.slot x in
    let here = c.hears.ensures x m flood known at in
    let there : c.hears-2.result ≡ hears y m k (get_or nodes c.args.place 0) =
    c.hears-2.ensures y m (over_base x base lines (g.B.Links.nodes c.args.base.now) nodes fl c.requires.same c.requires.captures flood)
    (sends_over x base fl.frame fl.slot m known)
    (subst (λ (l : List ℕ). AreAt m l c.args.now.now) (sym c.requires.same) at)
    ∙ ap (λ (l : List ℕ). hears y m k (get_or l c.args.place 0)) c.requires.same in
    c.ne.ensures ∙ ap (λ (o : Option ℕ). not (option_eq nat_eq o c.hears-2.result)) here
    ∙ ap (λ (o : Option ℕ). not (option_eq nat_eq (hears x m k (get_or nodes c.args.place 0)) o)) there
