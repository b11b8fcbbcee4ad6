use Rattle.std.proofs.Common.{sym, ◌∙◌, ap}
use Rattle.std.specs.Option.{option_copied}
use Rattle.radio_model.proofs.EndedSendings.{newest_tells, none_tells}
use Rattle.radio_model.proofs.station.Station.sent_over.Goals as goal

pub returns-in-Some : goal.returns-in-Some
returns-in-Some c = newest_tells c.args.x.now c.args.self.now.ended.items c.requires c.in-Some.y.now (sym c.back.ensures ∙ ap option_copied c.in-Some.is)

pub returns-in-None : goal.returns-in-None
returns-in-None c = none_tells c.args.x.now c.args.self.now.ended.items (sym c.back.ensures ∙ ap option_copied c.in-None.is)
