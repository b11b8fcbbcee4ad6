use Rattle.std.proofs.Common.{◌≡◌, take, false}
use Rattle.std.specs.List.{list_any}
use Rattle.radio_model.specs.Meetings.{comes_from, rivals_to}
use Rattle.radio_model.proofs.chosen.is_chosen.Given as goal

abbrev pub invariant-loop-station : goal.invariant-loop-station
invariant-loop-station g l =
    list_any (comes_from (g.M.Links.lines l.links) l.at.node l.named) (rivals_to l.profile l.x (take l.station-index l.stations)) ≡ false
