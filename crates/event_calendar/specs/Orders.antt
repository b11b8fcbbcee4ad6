-- Orders as a finite map: at each place, counted from 0, each class has a tick or none.
use Rattle.std.specs.Prelude.{◌≡◌, ℕ, ◌≤◌, List, slice_index_or, slice_set, Some, None}
use Rattle.std.specs.declared.option.Option.{Option}
use Rattle.event_calendar.specs.declared.class.Class.{Class}
use Rattle.event_calendar.specs.declared.class.Class.TheVariants.{SendingEnd, Alarm, SendingStart}

-- the ticks at one place
pub record Due : Type 0 where
  pub sending_end : Option ℕ
  pub alarm : Option ℕ
  pub sending_start : Option ℕ

abbrev pub nothing_due : Due
nothing_due = record { sending_end = None; alarm = None; sending_start = None }

abbrev pub tick_of : Class → Due → Option ℕ
tick_of SendingEnd d = d.sending_end
tick_of Alarm d = d.alarm
tick_of SendingStart d = d.sending_start

abbrev pub with_tick : Class → Option ℕ → Due → Due
with_tick SendingEnd tick d = record d { sending_end = tick }
with_tick Alarm tick d = record d { alarm = tick }
with_tick SendingStart tick d = record d { sending_start = tick }

-- a map is the list of its places; past them it has nothing
abbrev pub due_at : List Due → ℕ → Due
due_at map place = slice_index_or map place nothing_due

abbrev pub at : List Due → ℕ → Class → Option ℕ
at map place class = tick_of class (due_at map place)

abbrev pub changed : List Due → ℕ → Class → Option ℕ → List Due
changed map place class tick = slice_set map place (with_tick class tick (due_at map place))

-- an order has its tick, class and place
abbrev pub Order : Type 0
Order = ℕ × Class × ℕ

abbrev pub rank : Class → ℕ
rank SendingEnd = 0
rank Alarm = 1
rank SendingStart = 2

-- the one does not come after the other, by tick, then class, then place
pub record IsNotAfter (x y : Order) : Type 0 where
  pub tick : x.0 ≤ y.0
  pub class : x.0 ≡ y.0 → rank x.1 ≤ rank y.1
  pub place : x.0 ≡ y.0 → rank x.1 ≡ rank y.1 → x.2 ≤ y.2

abbrev pub Stands : List Due → Order → Type 0
Stands map x = at map x.2 x.1 ≡ Some x.0

-- the least order of a map, or none where nothing is in it
abbrev pub IsNext : List Due → Option Order → Type 0
IsNext map None = (place : ℕ) (class : Class) → at map place class ≡ None
IsNext map (Some x) = Stands map x × ((y : Order) → Stands map y → IsNotAfter x y)
