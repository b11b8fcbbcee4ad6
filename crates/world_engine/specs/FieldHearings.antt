-- What it does to a field that a transmission is received.
use Rattle.std.specs.Prelude.{◌≡◌, ℕ, ◌<◌, List, [], ◌++◌, map, length, slice_index_or, All, Contains}
use Rattle.radio_model.specs.declared.sending.Sending.{Sending}
use Rattle.event_calendar.specs.Orders.{Due}
use Rattle.bus_rules.specs.Cores.{Setup}
use Rattle.air_log.specs.Entries.{sendings_of, hearings_of}
use Rattle.air_log.specs.Devices.{Device}
use Rattle.world_engine.specs.Fields.{FieldState, FieldShows}
use Rattle.world_engine.specs.FieldSteps.{MediumGoesOn, AreSame, hearing_at, told_of_hearing}

-- nodes are at these places, each at its own
pub record StandAtPlaces (ids nodes places : List ℕ) : Type 0 where
  pub within : All (λ q. q < length ids) places
  pub stand : map (λ q. slice_index_or ids q 0) places ≡ nodes

-- at tick t the devices at these places are notified that they received x, and nothing else happens
pub record AllHear (clocks : ℕ → ℕ → ℕ) (t : ℕ) (x : Sending) (hearers : List ℕ) (old : FieldState) (old_due : List Due) (new : FieldState)
    (new_due : List Due) : Type 0 where
  pub hearer : (q : ℕ) → Contains hearers q → (s : Setup) (d : Device) → FieldShows s t old old_due q d
      → FieldShows s t new new_due q (told_of_hearing (clocks q) t x s d)
  pub others : (q : ℕ) → (Contains hearers q → ⊥) → (s : Setup) (d : Device) → FieldShows s t old old_due q d → FieldShows s t new new_due q d
  pub hearings : hearings_of new.air ≡ hearings_of old.air ++ map (hearing_at old x) hearers
  pub sendings : sendings_of new.air ≡ sendings_of old.air
  pub drops : new.drops ≡ old.drops
  pub air : MediumGoesOn t old.medium new.medium []
  pub same : AreSame old old_due new new_due
