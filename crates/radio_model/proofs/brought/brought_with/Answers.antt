use Rattle.std.proofs.Common.{◌∙◌, sym, subst, option_to_list}
use Rattle.radio_model.specs.Meetings.{IsBrought, rival_to}
use Rattle.radio_model.specs.declared.brought.Brought.{Brought}
use Rattle.radio_model.proofs.Crowds.{rival_comes}
use Rattle.radio_model.proofs.brought.brought_with.Goals as goal

pub returns-in-Some : goal.returns-in-Some
returns-in-Some g c =
    let lines = g.M.Links.lines c.args.links.now in
    let nodes = g.M.Links.nodes c.args.links.now in
    let p = c.args.profile.now in
    subst (λ (w : Brought). IsBrought lines nodes c.args.among (option_to_list (rival_to p c.args.x.now c.args.station.now c.args.y.now)) w) (sym c.by.ensures)
    (rival_comes lines nodes c.args.among p c.args.x.now c.args.y.now c.args.station.now c.in-Some.rival c.reach_of.result c.requires.at
    (sym c.in-Some.is ∙ c.rival_to.ensures) c.reach_of.ensures)
