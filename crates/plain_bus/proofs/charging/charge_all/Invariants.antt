use Rattle.std.proofs.Common.{◌≡◌, ◌≤◌, ◌+◌, ℕ, Bool, All, map, take, drop}
use Rattle.bus_terms.specs.Bus.{Cost}
use Rattle.plain_bus.specs.BusNodes.{BusNode}
use Rattle.plain_bus.specs.Closings.{Behind, IsBehind}
use Rattle.plain_bus.specs.FloodMasks.{AreSendersOf}
use Rattle.plain_bus.specs.SlotCosts.{IsBelow, slot_charged}
use Rattle.plain_bus.proofs.charging.charge_all.Given as goal

abbrev pub invariant-loop-cost : goal.invariant-loop-cost
invariant-loop-cost l = record {
  place : l.place ≡ l.cost-index;
  done : (b : Behind) (n : ℕ → BusNode) (cost : ℕ → Cost) (sends : ℕ → ℕ → Bool) → IsBehind b l.setting.ids.now l.windows l.end.stations.each.items
      → AreSendersOf sends l.setting.ids.now l.end.senders.items
      → l.nodes ≡ map n l.setting.ids.now → l.fn.costs ≡ map cost l.setting.ids.now → 1 ≤ l.setting.limit
      → take l.cost-index l.costs ≡ take l.cost-index (map (slot_charged l.setting.profile l.rank l.setting.limit b sends n cost) l.setting.ids.now);
  todo : drop l.cost-index l.costs ≡ drop l.cost-index l.fn.costs;
  room : (m : ℕ) → All (IsBelow m) l.fn.costs → All (IsBelow (m + 1)) (take l.cost-index l.costs);
}
