use Rattle.std.proofs.Common.{◌≡◌, ◌<◌, ℕ, get_or}
use Rattle.air_log.specs.DeviceStates.{DeviceState}
use Rattle.world_engine.proofs.field.Field.place_of.Given as goal

abbrev pub invariant-loop-place : goal.invariant-loop-place
invariant-loop-place l = (k : ℕ) (d : DeviceState) → k < l.place → (get_or l.device-items k d).setup.id ≡ l.node → ⊥
