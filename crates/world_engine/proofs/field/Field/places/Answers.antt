use Rattle.std.proofs.Common.{◌≡◌, ◌≤◌, ℕ, length, ap, sym, ◌∙◌, arith}
use Rattle.std.proofs.lemmas.List.{length-map}
use Rattle.world_engine.specs.Fields.{FieldState, IsField, id_of}
use Rattle.world_engine.proofs.field.Field.places.Goals as goal

in_range : (w : FieldState) → IsField w → (n : ℕ) → n ≡ length w.devices → (1 ≤ n) × (n ≤ 64)
in_range w field n is =
    let same = sym (length-map w.devices id_of) ∙ ap length field.nodes in
    let some = field.medium.nodes.some in
    let few = field.medium.nodes.few in
    omega (arith, is, same, some, few)

pub overflow_cast-result : goal.overflow_cast-result
overflow_cast-result c = let range = in_range _ c.self.invariant _ (ap length c.as_slice.ensures.value) in omega (arith, range)

pub returns-clause-range : goal.returns-clause-range
returns-clause-range c = in_range _ c.self.invariant _ (ap length c.as_slice.ensures.value)
