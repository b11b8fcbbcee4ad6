use Rattle.std.proofs.Common.{◌≡◌, length, take, filter_map}
use Rattle.radio_model.specs.Meetings.{IsBrought, rival_to}
use Rattle.radio_model.proofs.brought.brought_from.Given as goal

abbrev pub invariant-loop-i : goal.invariant-loop-i
invariant-loop-i g l = record {
  brought : IsBrought (g.M.Links.lines l.links) (g.M.Links.nodes l.links) l.among
      (filter_map (rival_to l.profile l.x l.station) (take l.i l.station.ended.items)) l.brought;
  within : l.i-end ≡ length l.station.ended.items;
}
