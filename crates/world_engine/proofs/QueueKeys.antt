-- The least key of what is in a queue.
use Rattle.std.proofs.Common.{min, ◌≡◌, ℕ, zero, suc, ◌+◌, ◌≤◌, List, [], ◌∷◌, Option, Some, None, refl, ap, subst, arith, add-zero}
use Rattle.event_calendar.specs.declared.class.Class.{Class}
use Rattle.event_calendar.specs.declared.class.Class.TheVariants.{SendingEnd, Alarm, SendingStart}
use Rattle.event_calendar.specs.Orders.{Due, tick_of, at, due_at, nothing_due, rank}
use Rattle.world_engine.specs.Frames.{order_key}

-- the least key of what is, or this bound
abbrev key_or : ℕ → Option ℕ → Class → ℕ → ℕ
key_or bound None c p = bound
key_or bound (Some t) c p = order_key t c p

abbrev least_at : ℕ → ℕ → Due → ℕ
least_at bound p d = min (key_or bound d.sending_end SendingEnd p) (min (key_or bound d.alarm Alarm p) (key_or bound d.sending_start SendingStart p))

abbrev pub least_from : ℕ → ℕ → List Due → ℕ
least_from bound p [] = bound
least_from bound p (d ∷ due) = min (least_at bound p d) (least_from bound (p + 1) due)

pub small_rank : (c : Class) → rank c ≤ 2
small_rank SendingEnd = omega arith
small_rank Alarm = omega arith
small_rank SendingStart = omega arith

least_of : (bound p : ℕ) (d : Due) (c : Class) (t : ℕ) → tick_of c d ≡ Some t → least_at bound p d ≤ order_key t c p
least_of bound p d SendingEnd t at = let here = ap (λ (o : Option ℕ). key_or bound o SendingEnd p) at in omega (arith, here)
least_of bound p d Alarm t at = let here = ap (λ (o : Option ℕ). key_or bound o Alarm p) at in omega (arith, here)
least_of bound p d SendingStart t at = let here = ap (λ (o : Option ℕ). key_or bound o SendingStart p) at in omega (arith, here)

pub none_at_none : (c : Class) (t : ℕ) → tick_of c nothing_due ≡ Some t → ⊥
none_at_none SendingEnd t is = cc
none_at_none Alarm t is = cc
none_at_none SendingStart t is = cc

-- no order has a lesser key
pub least_from_below : (bound p : ℕ) (due : List Due) (i : ℕ) (c : Class) (t : ℕ) → tick_of c (due_at due i) ≡ Some t
    → least_from bound p due ≤ order_key t c (p + i)
least_from_below bound p [] i c t is = absurd (none_at_none c t is)
least_from_below bound p (d ∷ due) zero c t is =
    let here = least_of bound p d c t is in
    let same : order_key t c (p + 0) ≡ order_key t c p = ap (order_key t c) (add-zero p) in
    omega (arith, here, same)
least_from_below bound p (d ∷ due) (suc i) c t is =
    let there = least_from_below bound (p + 1) due i c t is in
    let same : order_key t c (p + suc i) ≡ order_key t c (p + 1 + i) = ap (order_key t c) (omega arith) in
    omega (arith, there, same)

above_or : (bound k : ℕ) (c : Class) (p : ℕ) (o : Option ℕ) → k ≤ bound → ((t : ℕ) → o ≡ Some t → k ≤ order_key t c p) → k ≤ key_or bound o c p
above_or bound k c p None le above = le
above_or bound k c p (Some t) le above = above t refl

-- a number below all keys is below the least
pub above_least : (bound k p : ℕ) (due : List Due) → k ≤ bound
    → ((i : ℕ) (c : Class) (t : ℕ) → tick_of c (due_at due i) ≡ Some t → k ≤ order_key t c (p + i)) → k ≤ least_from bound p due
above_least bound k p [] le above = le
above_least bound k p (d ∷ due) le above =
    let here : (c : Class) (t : ℕ) → tick_of c d ≡ Some t
    → k ≤ order_key t c p = λ c t is. subst (λ (q : ℕ). k ≤ order_key t c q) (add-zero p) (above 0 c t is) in
    let one = above_or bound k SendingEnd p d.sending_end le (here SendingEnd) in
    let two = above_or bound k Alarm p d.alarm le (here Alarm) in
    let three = above_or bound k SendingStart p d.sending_start le (here SendingStart) in
    let rest = above_least bound k (p + 1) due le (λ i c t is. subst (λ (q : ℕ). k ≤ order_key t c q) (omega arith) (above (suc i) c t is)) in
    omega (arith, one, two, three, rest)
