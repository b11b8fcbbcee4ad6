-- What sorting a part of a list keeps.
use Rattle.std.specs.Prelude.{◌≡◌, List}
use Rattle.std.specs.List.{filter}
use Rattle.std.specs.List.Sorted.{ties}
use Rattle.bus_rules.specs.declared.delivery.Delivery.{Delivery}
use Rattle.air_log.specs.Deliveries.{delivery_comes_before}

-- deliveries that the order of a report leaves equal stay in theirs
abbrev pub KeepsTies : List Delivery → List Delivery → Type 0
KeepsTies old new = (z : Delivery) → filter (ties delivery_comes_before z) new ≡ filter (ties delivery_comes_before z) old
