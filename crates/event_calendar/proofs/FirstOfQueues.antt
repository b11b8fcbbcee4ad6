-- The first of the queues' first orders is the least order of the map.
use Rattle.std.proofs.Common.{◌≡◌, ℕ, ◌<◌, List, [], ◌∷◌, Bool, true, false, if◌then◌else◌, nat_lt, get_or}
use Rattle.std.proofs.Common.{slice_get, Contains, None, Some, refl, subst, inl, inr, arith}
use Rattle.std.specs.Prelude.{⊤}
use Rattle.std.specs.Option.{IfSome}
use Rattle.std.specs.declared.option.Option.{Option}
use Rattle.std.proofs.lemmas.Bool.{cases_eq, ltb-true, ltb-false}
use Rattle.event_calendar.specs.declared.class.Class.{Class}
use Rattle.event_calendar.specs.declared.class.Class.TheVariants.{SendingEnd, Alarm, SendingStart}
use Rattle.event_calendar.specs.declared.placed_order.PlacedOrder.{PlacedOrder}
use Rattle.event_calendar.specs.declared.queues.Queues.{Queues}
use Rattle.event_calendar.specs.Orders.{Due, Order, Stands, IsNext, IsNotAfter, at, rank}
use Rattle.event_calendar.specs.Waiting.{IsBefore, EntriesAreInOrder}
use Rattle.event_calendar.specs.Queues.{queue_of, order, earlier_order, first_in, first_order, HasQueues}

-- the first, if there is one, has the second no later than it
abbrev Follows : Option Order → Option Order → Type 0
Follows None x = ⊤
Follows (Some y) None = ⊥
Follows (Some y) (Some x) = IsNotAfter x y

-- the first order's class comes before the second's, where there are both
abbrev HasRanks : Option Order → Option Order → Type 0
HasRanks None y = ⊤
HasRanks (Some x) None = ⊤
HasRanks (Some x) (Some y) = rank x.1 < rank y.1

abbrev Standing : List Due → Option Order → Type 0
Standing map o = IfSome o (λ x. Stands map x)

follows_itself : (o : Option Order) → Follows o o
follows_itself None = tt
follows_itself (Some x) = omega arith

follows_on : (x y z : Option Order) → Follows y x → Follows z y → Follows z x
follows_on x y None yx zy = tt
follows_on None None (Some z) yx zy = zy
follows_on (Some x) None (Some z) yx zy = absurd zy
follows_on None (Some y) (Some z) yx zy = absurd yx
follows_on (Some x) (Some y) (Some z) yx zy = omega (arith, yx, zy)

chosen_left : (x y : Order) (t : Bool) → nat_lt y.0 x.0 ≡ t → Follows (Some x) (if t then Some y else Some x)
chosen_left x y true is = let less = ltb-true y.0 x.0 is in omega arith
chosen_left x y false is = follows_itself (Some x)

chosen_right : (x y : Order) (t : Bool) → nat_lt y.0 x.0 ≡ t → rank x.1 < rank y.1 → Follows (Some y) (if t then Some y else Some x)
chosen_right x y true is ranks = follows_itself (Some y)
chosen_right x y false is ranks = let not_less = ltb-false y.0 x.0 is in omega arith

left_follows : (a b : Option Order) → Follows a (earlier_order a b)
left_follows None b = tt
left_follows (Some x) None = follows_itself (Some x)
left_follows (Some x) (Some y) = chosen_left x y (nat_lt y.0 x.0) refl

right_follows : (a b : Option Order) → HasRanks a b → Follows b (earlier_order a b)
right_follows None b ranks = follows_itself b
right_follows (Some x) None ranks = tt
right_follows (Some x) (Some y) ranks = chosen_right x y (nat_lt y.0 x.0) refl ranks

chosen_keeps : (P : Option Order → Type 0) (x y : Order) (t : Bool) → P (Some x) → P (Some y) → P (if t then Some y else Some x)
chosen_keeps P x y true left right = right
chosen_keeps P x y false left right = left

earlier_keeps : (P : Option Order → Type 0) (a b : Option Order) → P a → P b → P (earlier_order a b)
earlier_keeps P None b left right = right
earlier_keeps P (Some x) None left right = left
earlier_keeps P (Some x) (Some y) left right = chosen_keeps P x y (nat_lt y.0 x.0) left right

ranks_of : (c d : Class) (a b : Option PlacedOrder) → rank c < rank d → HasRanks (order c a) (order d b)
ranks_of c d None b ranks = tt
ranks_of c d (Some x) None ranks = tt
ranks_of c d (Some x) (Some y) ranks = ranks

-- the first that waits is, and those that wait follow it
first_stands : (class : Class) (map : List Due) (xs : List PlacedOrder) → ((e : PlacedOrder) → Contains xs e → at map e.place class ≡ Some e.tick)
    → Standing map (order class (slice_get xs 0))
first_stands class map [] stands = tt
first_stands class map (x ∷ xs) stands = stands x (0, omega arith, refl)

follows_first : (class : Class) (xs : List PlacedOrder) (e : PlacedOrder) → EntriesAreInOrder xs → Contains xs e
    → Follows (Some (e.tick, class, e.place)) (order class (slice_get xs 0))
follows_first class [] e in_order c = absurd (omega (arith, c.1))
follows_first class (x ∷ xs) e in_order c =
    elim (cases_eq c.0 0) [
      | inl first ↦
          let same : x ≡ e = subst (λ (k : ℕ). get_or (x ∷ xs) k e ≡ e) first c.2 in
          subst (λ (y : PlacedOrder). IsNotAfter (x.tick, class, x.place) (y.tick, class, y.place)) same (omega arith)
      | inr later ↦
          let before : IsBefore x e = subst (λ (y : PlacedOrder). IsBefore x y) c.2 (in_order 0 c.0 e (omega arith) c.1) in
          omega (arith, before)
    ]

waiting_follows : (class : Class) (map : List Due) (q : Queues) (tick place : ℕ) → HasQueues map q → at map place class ≡ Some tick
    → Follows (Some (tick, class, place)) (first_in class q)
waiting_follows class map q tick place has is =
    let i = has class in
    let e : PlacedOrder = record { tick = tick; place = place } in
    follows_first class (queue_of class q).entries e i.order (i.waits e is)

all_follow : (class : Class) (map : List Due) (q : Queues) (tick place : ℕ) → HasQueues map q → at map place class ≡ Some tick
    → Follows (Some (tick, class, place)) (first_order q)
all_follow SendingEnd map q tick place has is =
    let end = first_in SendingEnd q in
    let alarm = first_in Alarm q in
    let start = first_in SendingStart q in
    let x : Option Order = Some (tick, SendingEnd, place) in
    let in_two = follows_on (earlier_order end alarm) end x (left_follows end alarm) (waiting_follows SendingEnd map q tick place has is) in
    follows_on (first_order q) (earlier_order end alarm) x (left_follows (earlier_order end alarm) start) in_two
all_follow Alarm map q tick place has is =
    let end = first_in SendingEnd q in
    let alarm = first_in Alarm q in
    let start = first_in SendingStart q in
    let x : Option Order = Some (tick, Alarm, place) in
    let ranks = ranks_of SendingEnd Alarm (slice_get q.ends.entries 0) (slice_get q.alarms.entries 0) (omega arith) in
    let in_two = follows_on (earlier_order end alarm) alarm x (right_follows end alarm ranks) (waiting_follows Alarm map q tick place has is) in
    follows_on (first_order q) (earlier_order end alarm) x (left_follows (earlier_order end alarm) start) in_two
all_follow SendingStart map q tick place has is =
    let end = first_in SendingEnd q in
    let alarm = first_in Alarm q in
    let start = first_in SendingStart q in
    let x : Option Order = Some (tick, SendingStart, place) in
    let from_end = ranks_of SendingEnd SendingStart (slice_get q.ends.entries 0) (slice_get q.starts.entries 0) (omega arith) in
    let from_alarm = ranks_of Alarm SendingStart (slice_get q.alarms.entries 0) (slice_get q.starts.entries 0) (omega arith) in
    let ranks = earlier_keeps (λ (o : Option Order). HasRanks o start) end alarm from_end from_alarm in
    follows_on (first_order q) start x (right_follows (earlier_order end alarm) start ranks) (waiting_follows SendingStart map q tick place has is)

first_of_class_stands : (class : Class) (map : List Due) (q : Queues) → HasQueues map q → Standing map (first_in class q)
first_of_class_stands class map q has = let i = has class in first_stands class map (queue_of class q).entries i.stands

next_by : (map : List Due) (o : Option Order) → Standing map o
    → ((tick place : ℕ) (class : Class) → at map place class ≡ Some tick → Follows (Some (tick, class, place)) o) → IsNext map o
next_by map None stands follows = λ place class. none place class (at map place class) refl
  where
    none : (place : ℕ) (class : Class) (tick : Option ℕ) → at map place class ≡ tick → at map place class ≡ None
    none place class None is = is
    none place class (Some t) is = absurd (follows t place class is)
next_by map (Some x) stands follows = (stands, λ y is. follows y.0 y.2 y.1 is)

pub first_is_next : (map : List Due) (q : Queues) → HasQueues map q → IsNext map (first_order q)
first_is_next map q has =
    let end = first_in SendingEnd q in
    let alarm = first_in Alarm q in
    let start = first_in SendingStart q in
    let two = earlier_keeps (Standing map) end alarm (first_of_class_stands SendingEnd map q has) (first_of_class_stands Alarm map q has) in
    next_by map (first_order q) (earlier_keeps (Standing map) (earlier_order end alarm) start two (first_of_class_stands SendingStart map q has))
    (λ tick place class is. all_follow class map q tick place has is)
