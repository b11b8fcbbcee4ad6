-- The core of a node that is computed to be on.
use Rattle.std.proofs.Common.{◌≡◌, Bool, true, false, refl}
use Rattle.law_service.proofs.Words.{false≢true, Core, booted, State, StateOff, StateOn}

abbrev pub core_of : State → Core
core_of (StateOff boots) = booted boots
core_of (StateOn c) = c

abbrev pub is_on : State → Bool
is_on (StateOff boots) = false
is_on (StateOn c) = true

pub on_core : (x : State) → is_on x ≡ true → x ≡ StateOn (core_of x)
on_core (StateOff boots) on = absurd (false≢true on)
on_core (StateOn c) on = refl
