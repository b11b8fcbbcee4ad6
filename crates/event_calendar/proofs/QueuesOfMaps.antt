-- The queues of a map follow its changes.
use Rattle.std.proofs.Common.{◌≡◌, ◌≢◌, ◌⊎◌, ℕ, ◌+◌, ◌*◌, ◌<◌, List, ◌∷◌, cond, is_some, length, replicate, count_by}
use Rattle.std.proofs.Common.{Contains, None, Some, sym, ◌∙◌, ap, subst, inl, inr, mul-zero, arith}
use Rattle.std.specs.declared.option.Option.{Option}
use Rattle.std.proofs.Math.ListN.{length-set, length-replicate}
use Rattle.std.proofs.lemmas.Bool.{cases_eq}
use Rattle.std.proofs.lemmas.List.Folds.{sum_by-replicate}
use Rattle.std.proofs.lemmas.List.Sums.{sum_by-set, count_by-le-length}
use Rattle.std.proofs.lemmas.List.Sorted.{Contains-permutation, length_permutation, IsPermutation-sym}
use Rattle.lwb_base.proofs.Options.{not_both, one_value}
use Rattle.event_calendar.specs.declared.class.Class.{Class}
use Rattle.event_calendar.specs.declared.placed_order.PlacedOrder.{PlacedOrder}
use Rattle.event_calendar.specs.declared.queues.Queues.{Queues}
use Rattle.event_calendar.specs.Orders.{Due, at, changed, due_at, nothing_due, rank, tick_of, with_tick}
use Rattle.event_calendar.specs.Waiting.{WaitingEntries, EntriesAreInOrder, IsAdded, IsRemoved}
use Rattle.event_calendar.specs.Queues.{queue_of, has_order_of_class, IsEmpty, IsQueueOf, HasQueues, AddsOne, RemovesOne}
use Rattle.event_calendar.proofs.OneOrder.{there, elsewhere, new_tick, other_tick, nothing_at_first, same_class}
use Rattle.event_calendar.proofs.OrdersThatWait.{same_entry, one_or_other, the_one, the_other}

abbrev one : Option ℕ → ℕ
one tick = cond (is_some tick) 1 0

abbrev count : Class → List Due → ℕ
count class map = count_by (has_order_of_class class) map

-- the count of a class where one order of some class changes
counted : (class other : Class) (map : List Due) (place : ℕ) (tick : Option ℕ) → place < length map
    → count other (changed map place class tick) + one (at map place other) ≡ count other map + one (tick_of other (with_tick class tick (due_at map place)))
counted class other map place tick within =
    sum_by-set (λ (d : Due). cond (has_order_of_class other d) 1 0) map place (with_tick class tick (due_at map place)) nothing_due within

count_stays : (class other : Class) (map : List Due) (place : ℕ) (tick : Option ℕ) → place < length map → other ≢ class
    → count other (changed map place class tick) ≡ count other map
count_stays class other map place tick within apart =
    let ticks = other_tick class other tick (due_at map place) apart in
    let same : one (tick_of other (with_tick class tick (due_at map place))) ≡ one (at map place other) = ap one ticks in
    omega (arith, counted class other map place tick within, same)

count_here : (class : Class) (map : List Due) (place : ℕ) (before after : Option ℕ) → place < length map → at map place class ≡ before
    → count class (changed map place class after) + one before ≡ count class map + one after
count_here class map place before after within is =
    let old : one (at map place class) ≡ one before = ap one is in
    let new : one (tick_of class (with_tick class after (due_at map place))) ≡ one after = ap one (new_tick class after (due_at map place)) in
    omega (arith, counted class class map place after within, old, new)

pub size_stays : (map : List Due) (place : ℕ) (class : Class) (tick : Option ℕ) → length (changed map place class tick) ≡ length map
size_stays map place class tick = length-set map place (with_tick class tick (due_at map place))

-- where nothing is, there is room for one more
pub has_room : (class : Class) (map : List Due) (place : ℕ) (q : WaitingEntries) → place < length map → at map place class ≡ None → IsQueueOf class map q
    → length q.entries < q.room
has_room class map place q within is i =
    let more : count class (changed map place class (Some 0)) + 0 ≡ count class map + 1 = count_here class map place None (Some 0) within is in
    omega (arith, more, count_by-le-length (has_order_of_class class) (changed map place class (Some 0)), size_stays map place class (Some 0), i.count, i.room)

queue_stays : (class other : Class) (map : List Due) (place : ℕ) (tick : Option ℕ) (q : WaitingEntries) → place < length map → other ≢ class
    → IsQueueOf other map q → IsQueueOf other (changed map place class tick) q
queue_stays class other map place tick q within apart i = record {
  order = i.order;
  stands = λ e c. elsewhere map place e.place class other tick (inr apart) ∙ i.stands e c;
  waits = λ e is. i.waits e (sym (elsewhere map place e.place class other tick (inr apart)) ∙ is);
  count = i.count ∙ sym (count_stays class other map place tick within apart);
  room = omega (arith, size_stays map place class tick, i.room);
}

queue_added : (class : Class) (map : List Due) (e : PlacedOrder) (q after : WaitingEntries) → e.place < length map → at map e.place class ≡ None
    → IsQueueOf class map q → IsAdded e q after → IsQueueOf class (changed map e.place class (Some e.tick)) after
queue_added class map e q after within none i a = record {
  order = a.order;
  stands = λ x c. stands x (one_or_other e x q.entries (back x c));
  waits = λ x is. Contains-permutation (e ∷ q.entries) after.entries x a.entries (waits x is);
  count = omega (arith, length_permutation (e ∷ q.entries) after.entries a.entries, count_here class map e.place None (Some e.tick) within none, i.count);
  room = omega (arith, size_stays map e.place class (Some e.tick), i.room, a.room);
}
  where
    later : ℕ → Option ℕ
    later p = at (changed map e.place class (Some e.tick)) p class

    now : later e.place ≡ Some e.tick
    now = there map e.place class (Some e.tick) within

    back : (x : PlacedOrder) → Contains after.entries x → Contains (e ∷ q.entries) x
    back x c = Contains-permutation after.entries (e ∷ q.entries) x (IsPermutation-sym (e ∷ q.entries) after.entries a.entries) c

    stands : (x : PlacedOrder) → (e ≡ x) ⊎ Contains q.entries x → later x.place ≡ Some x.tick
    stands x (inl same) = subst (λ (y : PlacedOrder). later y.place ≡ Some y.tick) same now
    stands x (inr c) =
        let was = i.stands x c in
        let apart : x.place ≢ e.place = λ same. not_both (at map x.place class) x.tick (ap (λ (p : ℕ). at map p class) same ∙ none) was in
        elsewhere map e.place x.place class class (Some e.tick) (inl apart) ∙ was

    waits : (x : PlacedOrder) → later x.place ≡ Some x.tick → Contains (e ∷ q.entries) x
    waits x is = elim (cases_eq x.place e.place) [
      | inl same ↦
          let ticks : e.tick ≡ x.tick = one_value (later x.place) e.tick x.tick (ap later same ∙ now) is in
          subst (λ (y : PlacedOrder). Contains (e ∷ q.entries) y) (same_entry e x ticks (sym same)) (the_one e q.entries)
      | inr apart ↦
          let was = sym (elsewhere map e.place x.place class class (Some e.tick) (inl apart)) ∙ is in
          the_other e x q.entries (i.waits x was)
    ]

queue_removed : (class : Class) (map : List Due) (e : PlacedOrder) (q after : WaitingEntries) → e.place < length map → at map e.place class ≡ Some e.tick
    → IsQueueOf class map q → IsRemoved e q after → IsQueueOf class (changed map e.place class None) after
queue_removed class map e q after within some i r = record {
  order = r.order;
  stands = λ x c. stands x c;
  waits = λ x is. waits x is;
  count = omega (arith, length_permutation q.entries (e ∷ after.entries) r.entries, count_here class map e.place (Some e.tick) None within some, i.count);
  room = omega (arith, size_stays map e.place class None, i.room, r.room);
}
  where
    later : ℕ → Option ℕ
    later p = at (changed map e.place class None) p class

    now : later e.place ≡ None
    now = there map e.place class None within

    before : (x : PlacedOrder) → Contains after.entries x → Contains q.entries x
    before x c =
        let back = IsPermutation-sym q.entries (e ∷ after.entries) r.entries in
        Contains-permutation (e ∷ after.entries) q.entries x back (the_other e x after.entries c)

    stands : (x : PlacedOrder) → Contains after.entries x → later x.place ≡ Some x.tick
    stands x c =
        let was = i.stands x (before x c) in
        let ticks : x.place ≡ e.place → x.tick ≡ e.tick =
        λ same. one_value (at map x.place class) x.tick e.tick was (ap (λ (p : ℕ). at map p class) same ∙ some) in
        let apart : x.place ≢ e.place = λ same. r.gone (subst (λ (y : PlacedOrder). Contains after.entries y) (same_entry x e (ticks same) same) c) in
        elsewhere map e.place x.place class class None (inl apart) ∙ was

    waits : (x : PlacedOrder) → later x.place ≡ Some x.tick → Contains after.entries x
    waits x is =
        let apart : x.place ≢ e.place = λ same. not_both (later x.place) x.tick (ap later same ∙ now) is in
        let was : at map x.place class ≡ Some x.tick = sym (elsewhere map e.place x.place class class None (inl apart)) ∙ is in
        elim (one_or_other e x after.entries (Contains-permutation q.entries (e ∷ after.entries) x r.entries (i.waits x was))) [
          | inl same ↦ absurd (apart (sym (ap (λ (y : PlacedOrder). y.place) same)))
          | inr c ↦ c
        ]

-- a class is the one that changes, or another
same_or_other : (other class : Class) → (other ≡ class) ⊎ (other ≢ class)
same_or_other other class = elim (cases_eq (rank other) (rank class)) [
  | inl same ↦ inl (same_class other class same)
  | inr apart ↦ inr (λ is. apart (ap rank is))
]

pub queues_added : (class : Class) (map : List Due) (e : PlacedOrder) (q after : Queues) → e.place < length map → at map e.place class ≡ None → HasQueues map q
    → AddsOne class e q after → HasQueues (changed map e.place class (Some e.tick)) after
queues_added class map e q after within none has adds = λ other. elim (same_or_other other class) [
  | inl same ↦ subst (λ (c : Class). IsQueueOf c (changed map e.place class (Some e.tick)) (queue_of c after)) (sym same)
      (queue_added class map e (queue_of class q) (queue_of class after) within none (has class) adds.added)
  | inr apart ↦ subst (λ (w : WaitingEntries). IsQueueOf other (changed map e.place class (Some e.tick)) w) (sym (adds.others other apart))
      (queue_stays class other map e.place (Some e.tick) (queue_of other q) within apart (has other))
]

pub queues_removed : (class : Class) (map : List Due) (e : PlacedOrder) (q after : Queues) → e.place < length map → at map e.place class ≡ Some e.tick
    → HasQueues map q → RemovesOne class e q after → HasQueues (changed map e.place class None) after
queues_removed class map e q after within some has removes = λ other. elim (same_or_other other class) [
  | inl same ↦ subst (λ (c : Class). IsQueueOf c (changed map e.place class None) (queue_of c after)) (sym same)
      (queue_removed class map e (queue_of class q) (queue_of class after) within some (has class) removes.removed)
  | inr apart ↦ subst (λ (w : WaitingEntries). IsQueueOf other (changed map e.place class None) w) (sym (removes.others other apart))
      (queue_stays class other map e.place None (queue_of other q) within apart (has other))
]

nothing_counted : (class : Class) (places : ℕ) → count class (replicate places nothing_due) ≡ 0
nothing_counted class places =
    let none : one (tick_of class nothing_due) ≡ 0 = ap one (nothing_at_first 0 0 class) in
    sum_by-replicate (λ (d : Due). cond (has_order_of_class class d) 1 0) places nothing_due ∙ ap (λ (n : ℕ). places * n) none ∙ mul-zero places

-- empty queues are those of a map in which nothing is
pub queues_at_first : (places : ℕ) (q : Queues) → IsEmpty places q → HasQueues (replicate places nothing_due) q
queues_at_first places q empty = λ class. record {
  order = subst EntriesAreInOrder (sym (empty.entries class)) (λ i j d less below. absurd (omega arith));
  stands = λ e c. absurd (omega (arith, c.1, ap length (empty.entries class)));
  waits = λ e is. absurd (not_both (at (replicate places nothing_due) e.place class) e.tick (nothing_at_first places e.place class) is);
  count = ap length (empty.entries class) ∙ sym (nothing_counted class places);
  room = omega (arith, length-replicate {A = Due} places nothing_due, empty.room class);
}
