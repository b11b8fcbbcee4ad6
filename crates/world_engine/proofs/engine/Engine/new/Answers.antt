use Rattle.std.proofs.Common.{◌≡◌, rules, map}
use Rattle.air_log.specs.DeviceStates.{core_in}
use Rattle.world_engine.specs.Worlds.{new_core}
use Rattle.world_engine.proofs.FirstField.{first_cores}
use Rattle.world_engine.proofs.engine.Engine.new.Goals as goal

pub invariant_of-result : goal.invariant_of-result
invariant_of-result g c = record {
  count = c.requires;
  first = λ not. (c.in_ok-field.ensures, c.new-2.ensures.items);
}

pub returns : goal.returns
returns g c =
    let first = c.in_ok-field.ensures in
    let air = first.air in
    let drops = first.drops in
    let made = c.new-2.ensures.items in
    let cores : map core_in c.in_ok-field.field.devices ≡ map (new_core c.args.s) c.args.s.nodes = first_cores c.args.s c.in_ok-field.field first in
    search rules
