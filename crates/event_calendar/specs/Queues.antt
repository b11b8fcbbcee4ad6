-- A queue for each class has the orders of a map, each where it is in time.
use Rattle.std.specs.Prelude.{◌≡◌, ◌≢◌, ℕ, ◌≤◌, List, [], Bool, Contains, count_by, is_some, nat_lt, if◌then◌else◌, length, slice_get, Some, None}
use Rattle.std.specs.declared.option.Option.{Option}
use Rattle.std.specs.Option.{option_map}
use Rattle.event_calendar.specs.declared.class.Class.{Class}
use Rattle.event_calendar.specs.declared.class.Class.TheVariants.{SendingEnd, Alarm, SendingStart}
use Rattle.event_calendar.specs.declared.placed_order.PlacedOrder.{PlacedOrder}
use Rattle.event_calendar.specs.declared.queues.Queues.{Queues}
use Rattle.event_calendar.specs.Orders.{Due, Order, at, tick_of}
use Rattle.event_calendar.specs.Waiting.{WaitingEntries, EntriesAreInOrder, IsAdded, IsRemoved}

abbrev pub queue_of : Class → Queues → WaitingEntries
queue_of SendingEnd q = q.ends
queue_of Alarm q = q.alarms
queue_of SendingStart q = q.starts

pub record IsEmpty (places : ℕ) (q : Queues) : Type 0 where
  pub entries : (class : Class) → (queue_of class q).entries ≡ []
  pub room : (class : Class) → places ≤ (queue_of class q).room

abbrev pub OthersStay : Class → Queues → Queues → Type 0
OthersStay class before after = (other : Class) → other ≢ class → queue_of other after ≡ queue_of other before

pub record AddsOne (class : Class) (e : PlacedOrder) (before after : Queues) : Type 0 where
  pub added : IsAdded e (queue_of class before) (queue_of class after)
  pub others : OthersStay class before after

pub record RemovesOne (class : Class) (e : PlacedOrder) (before after : Queues) : Type 0 where
  pub removed : IsRemoved e (queue_of class before) (queue_of class after)
  pub others : OthersStay class before after

-- whether a place has an order of that class
abbrev pub has_order_of_class : Class → Due → Bool
has_order_of_class class d = is_some (tick_of class d)

-- the queue of a class has exactly the orders of that class, in order
pub record IsQueueOf (class : Class) (map : List Due) (q : WaitingEntries) : Type 0 where
  pub order : EntriesAreInOrder q.entries
  pub stands : (e : PlacedOrder) → Contains q.entries e → at map e.place class ≡ Some e.tick
  pub waits : (e : PlacedOrder) → at map e.place class ≡ Some e.tick → Contains q.entries e
  pub count : length q.entries ≡ count_by (has_order_of_class class) map
  pub room : length map ≤ q.room

abbrev pub HasQueues : List Due → Queues → Type 0
HasQueues map queues = (class : Class) → IsQueueOf class map (queue_of class queues)

abbrev pub order : Class → Option PlacedOrder → Option Order
order class entry = option_map (λ e. (e.tick, class, e.place)) entry

-- the earlier of two by tick, and the first at one tick
abbrev pub earlier_order : Option Order → Option Order → Option Order
earlier_order None y = y
earlier_order (Some x) None = Some x
earlier_order (Some x) (Some y) = if nat_lt y.0 x.0 then Some y else Some x

abbrev pub first_in : Class → Queues → Option Order
first_in class q = order class (slice_get (queue_of class q).entries 0)

abbrev pub first_order : Queues → Option Order
first_order q = earlier_order (earlier_order (first_in SendingEnd q) (first_in Alarm q)) (first_in SendingStart q)
