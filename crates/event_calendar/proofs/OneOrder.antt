-- What a change of one order does to a map, and that a map has one least order.
use Rattle.std.proofs.Common.{◌≡◌, ◌≢◌, ◌⊎◌, ℕ, ◌<◌, ◌≤◌, List, None, Some, length, get_or, set, replicate, refl, sym, ◌∙◌, ap, inl, inr, arith}
use Rattle.std.specs.declared.option.Option.{Option}
use Rattle.std.specs.Option.{IfSome}
use Rattle.std.proofs.Math.ListN.{length-replicate, length-set}
use Rattle.std.proofs.lemmas.Bool.{cases_eq, cases_lt}
use Rattle.std.proofs.lemmas.List.{get_or_past, get_or_read, get_or-replicate, get_or-set_other, set-set}
use Rattle.std.proofs.lemmas.Grind.{get_or-set_at}
use Rattle.event_calendar.specs.declared.class.Class.{Class}
use Rattle.event_calendar.specs.declared.class.Class.TheVariants.{SendingEnd, Alarm, SendingStart}
use Rattle.event_calendar.specs.Orders.{Due, Order, Stands, IsNext, IsNotAfter, at, changed, due_at, nothing_due, rank, tick_of, with_tick}

ticks_of_nothing : (class : Class) → tick_of class nothing_due ≡ None
ticks_of_nothing SendingEnd = refl
ticks_of_nothing Alarm = refl
ticks_of_nothing SendingStart = refl

nothing_past : (map : List Due) (place : ℕ) (class : Class) → length map ≤ place → at map place class ≡ None
nothing_past map place class past = ap (tick_of class) (get_or_past map place nothing_due past) ∙ ticks_of_nothing class

pub new_tick : (class : Class) (tick : Option ℕ) (d : Due) → tick_of class (with_tick class tick d) ≡ tick
new_tick SendingEnd tick d = refl
new_tick Alarm tick d = refl
new_tick SendingStart tick d = refl

pub other_tick : (class another : Class) (tick : Option ℕ) (d : Due) → another ≢ class → tick_of another (with_tick class tick d) ≡ tick_of another d
other_tick SendingEnd SendingEnd tick d apart = absurd (apart refl)
other_tick SendingEnd Alarm tick d apart = refl
other_tick SendingEnd SendingStart tick d apart = refl
other_tick Alarm SendingEnd tick d apart = refl
other_tick Alarm Alarm tick d apart = absurd (apart refl)
other_tick Alarm SendingStart tick d apart = refl
other_tick SendingStart SendingEnd tick d apart = refl
other_tick SendingStart Alarm tick d apart = refl
other_tick SendingStart SendingStart tick d apart = absurd (apart refl)

pub nothing_at_first : (places place : ℕ) (class : Class) → at (replicate places nothing_due) place class ≡ None
nothing_at_first places place class =
    elim (cases_lt place places) [
      | inl within ↦ ap (tick_of class) (get_or-replicate places place nothing_due nothing_due within) ∙ ticks_of_nothing class
      | inr past ↦ nothing_past (replicate places nothing_due) place class (omega (arith, length-replicate {A = Due} places nothing_due))
    ]

pub there : (map : List Due) (place : ℕ) (class : Class) (tick : Option ℕ) → place < length map → at (changed map place class tick) place class ≡ tick
there map place class tick within =
    ap (tick_of class) (get_or-set_at map place place (with_tick class tick (due_at map place)) nothing_due refl within) ∙ new_tick class tick (due_at map
    place)

pub elsewhere : (map : List Due) (place other : ℕ) (class another : Class) (tick : Option ℕ) → (other ≢ place) ⊎ (another ≢ class)
    → at (changed map place class tick) other another ≡ at map other another
elsewhere map place other class another tick (inl apart) =
    ap (tick_of another) (get_or-set_other map place other (with_tick class tick (due_at map place)) nothing_due apart)
elsewhere map place other class another tick (inr apart) =
    elim (cases_eq other place) [
      | inr away ↦ ap (tick_of another) (get_or-set_other map place other (with_tick class tick (due_at map place)) nothing_due away)
      | inl same ↦ elim (cases_lt other (length map)) [
        | inl within ↦
            ap (tick_of another) (get_or-set_at map place other (with_tick class tick (due_at map place)) nothing_due same (omega arith))
            ∙ other_tick class another tick (due_at map place) apart ∙ ap (λ (k : ℕ). at map k another) (sym same)
        | inr past ↦
            nothing_past (changed map place class tick) other another (omega (arith, length-set map place (with_tick class tick (due_at map place))))
            ∙ sym (nothing_past map other another past)
      ]
    ]

pub stands_within : (map : List Due) (x : Order) → Stands map x → x.2 < length map
stands_within map x stands =
    elim (cases_lt x.2 (length map)) [
      | inl within ↦ within
      | inr past ↦ let none = nothing_past map x.2 x.1 past in absurd (cc)
    ]

pub next_within : (map : List Due) (o : Option Order) → IsNext map o → IfSome o (λ x. x.2 < length map)
next_within map None least = tt
next_within map (Some x) least = stands_within map x least.0

pub same_class : (c d : Class) → rank c ≡ rank d → c ≡ d
same_class SendingEnd SendingEnd is = refl
same_class SendingEnd Alarm is = absurd (omega arith)
same_class SendingEnd SendingStart is = absurd (omega arith)
same_class Alarm SendingEnd is = absurd (omega arith)
same_class Alarm Alarm is = refl
same_class Alarm SendingStart is = absurd (omega arith)
same_class SendingStart SendingEnd is = absurd (omega arith)
same_class SendingStart Alarm is = absurd (omega arith)
same_class SendingStart SendingStart is = refl

same_order : (x y : Order) → IsNotAfter x y → IsNotAfter y x → x ≡ y
same_order x y first second =
    let tick : x.0 ≡ y.0 = omega arith in
    let class : x.1 ≡ y.1 = same_class x.1 y.1 (omega arith) in
    let place : x.2 ≡ y.2 = omega arith in
    let by_tick : ◌≡◌ {A = Order} x (y.0, x.1, x.2) = ap (λ (t : ℕ). (t, x.1, x.2)) tick in
    let by_class : ◌≡◌ {A = Order} (y.0, x.1, x.2) (y.0, y.1, x.2) = ap (λ (c : Class). (y.0, c, x.2)) class in
    let by_place : ◌≡◌ {A = Order} (y.0, y.1, x.2) y = ap (λ (p : ℕ). (y.0, y.1, p)) place in
    ◌∙◌ {b = (y.0, x.1, x.2)} by_tick (◌∙◌ {b = (y.0, y.1, x.2)} by_class by_place)

pub one_next : (map : List Due) (x y : Option Order) → IsNext map x → IsNext map y → x ≡ y
one_next map None None first second = refl
one_next map None (Some y) first second = let none = first y.2 y.1 in let some = second.0 in absurd (cc)
one_next map (Some x) None first second = let none = second x.2 x.1 in let some = first.0 in absurd (cc)
one_next map (Some x) (Some y) first second = ap Some (same_order x y (first.1 y second.0) (second.1 x first.0))

-- the orders of a place, as they are read at an index
pub read_due : (map : List Due) (index place : ℕ) (d : Due) → index ≡ place → place < length map → d ≡ get_or map index d → d ≡ due_at map place
read_due map index place d same within is = get_or_read map index d (omega arith) is nothing_due ∙ ap (due_at map) same

-- a change that is written at an index
pub changed_as : (map : List Due) (index place : ℕ) (class : Class) (tick : Option ℕ) (d new : Due) → index ≡ place → place < length map
    → d ≡ get_or map index d → new ≡ with_tick class tick d → set map index new ≡ changed map place class tick
changed_as map index place class tick d new same within is new_is =
    let there : new ≡ with_tick class tick (due_at map place) = new_is ∙ ap (with_tick class tick) (read_due map index place d same within is) in
    ap (set map index) there ∙ ap (λ (n : ℕ). set map n (with_tick class tick (due_at map place))) same

ticks_twice : (class : Class) (s t : Option ℕ) (d : Due) → with_tick class t (with_tick class s d) ≡ with_tick class t d
ticks_twice SendingEnd s t d = refl
ticks_twice Alarm s t d = refl
ticks_twice SendingStart s t d = refl

pub changed_twice : (map : List Due) (place : ℕ) (class : Class) (s t : Option ℕ) → place < length map
    → changed (changed map place class s) place class t ≡ changed map place class t
changed_twice map place class s t within =
    let was = with_tick class s (due_at map place) in
    let here : due_at (changed map place class s) place ≡ was = get_or-set_at map place place was nothing_due refl within in
    ap (λ (d : Due). set (changed map place class s) place (with_tick class t d)) here ∙ set-set map place was (with_tick class t was)
    ∙ ap (set map place) (ticks_twice class s t (due_at map place))
