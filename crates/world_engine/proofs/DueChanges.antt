-- What is at the places of the queue after a tick of one place has changed.
use Rattle.std.proofs.Common.{◌≡◌, ℕ, List, length, Option, Some, refl, ◌∙◌, ap}
use Rattle.std.specs.List.{slice_get}
use Rattle.std.proofs.lemmas.Option.{slice_get_within, get_or_from_slice_get}
use Rattle.lwb_base.proofs.Lists.{set_elsewhere}
use Rattle.event_calendar.specs.Orders.{Due, due_at, tick_of, with_tick, changed}
use Rattle.event_calendar.specs.declared.class.Class.{Class}
use Rattle.event_calendar.specs.declared.class.Class.TheVariants.{SendingEnd, Alarm, SendingStart}
use Rattle.event_calendar.proofs.QueuesOfMaps.{size_stays}
use Rattle.world_engine.specs.Following.{Resets}
use Rattle.world_engine.proofs.DevicePlaces.{at_set}

-- a tick of the queue that is changed at a place
pub due_changed : (due : List Due) (p : ℕ) (class : Class) (tick : Option ℕ) (d : Due) → slice_get due p ≡ Some d
    → slice_get (changed due p class tick) p ≡ Some (with_tick class tick d)
due_changed due p class tick d there =
    at_set due p (with_tick class tick (due_at due p)) (slice_get_within due p d there)
    ∙ ap (λ (x : Due). Some (with_tick class tick x)) (get_or_from_slice_get due p d _ there)

pub is_reset : (p : ℕ) (class : Class) (from to : Option ℕ) (old new : List Due) → new ≡ changed old p class to → Resets p class from to old new
is_reset p class from to old new is = record {
  own = λ d there tick. ap (λ (l : List Due). slice_get l p) is ∙ due_changed old p class to d there;
  others = λ q other. ap (λ (l : List Due). slice_get l q) is ∙ set_elsewhere old p q (with_tick class to (due_at old p)) other;
  places = ap (λ (l : List Due). length l) is ∙ size_stays old p class to;
}

-- where it stays
with_same : (class : Class) (d : Due) (tick : Option ℕ) → tick_of class d ≡ tick → d ≡ with_tick class tick d
with_same SendingEnd d tick is = ap (λ (o : Option ℕ). record d { sending_end = o }) is
with_same Alarm d tick is = ap (λ (o : Option ℕ). record d { alarm = o }) is
with_same SendingStart d tick is = ap (λ (o : Option ℕ). record d { sending_start = o }) is

pub stays_set : (p : ℕ) (class : Class) (from to : Option ℕ) (due : List Due) → from ≡ to → Resets p class from to due due
stays_set p class from to due same = record {
  own = λ d there tick. there ∙ ap (λ (x : Due). Some x) (with_same class d to (tick ∙ same));
  others = λ q other. refl;
  places = refl;
}
