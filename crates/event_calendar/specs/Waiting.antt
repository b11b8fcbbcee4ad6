-- The orders of one class that wait in a queue, the earliest first, and at one tick by place.
use Rattle.std.specs.Prelude.{◌≡◌, ℕ, ◌<◌, ◌≤◌, List, ◌∷◌, Bool, ◌&&◌, ◌||◌, ◌==◌, nat_lt, Contains, AllPairs}
use Rattle.std.specs.List.Sorted.{IsPermutation}
use Rattle.event_calendar.specs.declared.placed_order.PlacedOrder.{PlacedOrder}

-- those that wait, front first, and how many there is room for
pub record WaitingEntries : Type 0 where
  pub entries : List PlacedOrder
  pub room : ℕ

abbrev pub is_before : PlacedOrder → PlacedOrder → Bool
is_before x y = nat_lt x.tick y.tick || ((x.tick == y.tick) && nat_lt x.place y.place)

pub record IsBefore (x y : PlacedOrder) : Type 0 where
  pub tick : x.tick ≤ y.tick
  pub place : x.tick ≡ y.tick → x.place < y.place

abbrev pub EntriesAreInOrder : List PlacedOrder → Type 0
EntriesAreInOrder entries = AllPairs IsBefore entries

-- an order comes in, and nothing else changes but where the orders are
pub record IsAdded (e : PlacedOrder) (before after : WaitingEntries) : Type 0 where
  pub entries : IsPermutation (e ∷ before.entries) after.entries
  pub order : EntriesAreInOrder after.entries
  pub room : before.room ≤ after.room

-- an order leaves
pub record IsRemoved (e : PlacedOrder) (before after : WaitingEntries) : Type 0 where
  pub entries : IsPermutation before.entries (e ∷ after.entries)
  pub gone : Contains after.entries e → ⊥
  pub order : EntriesAreInOrder after.entries
  pub room : before.room ≤ after.room
