-- What contracts see of the parts of a field.
use Rattle.world_engine.specs.declared.field.Field.TheInside.{Inside}
use Rattle.world_engine.specs.Fields.{FieldState}

abbrev pub state_of : Inside → FieldState
state_of w = record {
  medium = w.medium;
  devices = w.devices.items;
  air = w.air;
  deliveries = w.deliveries.items;
  drops = w.drops.items;
}
