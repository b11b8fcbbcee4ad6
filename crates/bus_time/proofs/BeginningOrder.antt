-- Transmissions that are stamped, by frame, rank and slot.
use Rattle.std.specs.Cmp.{IsStrictWeakOrder}
use Rattle.std.proofs.lemmas.List.Sorted.{ranks_by}
use Rattle.lwb_base.proofs.Orders.{by_three_total}
use Rattle.bus_time.specs.Reading.{starts_first}
use Rattle.bus_time.specs.declared.beginning.Beginning.{Beginning}
use Rattle.bus_time.proofs.PlaceOrder.{Place}

-- what the order goes by
abbrev pub place_of : Beginning → Place
place_of b = (b.frame, b.rank, b.slot)

pub is_order : IsStrictWeakOrder starts_first
is_order = ranks_by by_three_total place_of
