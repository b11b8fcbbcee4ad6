-- The devices of a field at their places.
use Rattle.std.proofs.Common.{◌≡◌, ◌<◌, ℕ, List, [], ◌∷◌, length, map, get_or, sym, ◌∙◌, arith, Contains}
use Rattle.std.proofs.lemmas.List.{get_or-map, length-map}
use Rattle.air_log.specs.DeviceStates.{DeviceState}
use Rattle.world_engine.specs.Fields.{id_of}

-- some place is the node's
pub somewhere : (ds : List DeviceState) (v : ℕ) → Contains (map id_of ds) v → ((k : ℕ) (d : DeviceState) → k < length ds → (get_or ds k d).setup.id ≡ v → ⊥) → ⊥
somewhere [] v (k, below, at) none = absurd (omega arith)
somewhere (d ∷ ds) v (k, below, at) none =
    let within : k < length (d ∷ ds) = omega (arith, length-map (d ∷ ds) id_of) in
    none k d within (sym (get_or-map id_of (d ∷ ds) k d v within) ∙ at)
