use Rattle.plain_bus.proofs.FoundPlaces.{found_there, found_nowhere}
use Rattle.plain_bus.proofs.places.place_of.Goals as goal

pub returns-in-Ok : goal.returns-in-Ok
returns-in-Ok c = record { place = found_there c.args.ids.now c.requires c.args.node c.in-Ok.place c.in-Ok.ensures.position; none = tt }

pub returns-in-Err : goal.returns-in-Err
returns-in-Err c = record { place = tt; none = found_nowhere c.args.ids.now c.requires c.args.node c.in-Err.field-0 c.in-Err.ensures.position }
