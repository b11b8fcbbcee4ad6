-- Elements of lists, which are in the base, by their earlier place and names.
use Rattle.std.proofs.Common.{List, ◌∷◌, ◌≡◌, ◌⊎◌, Contains}
use Rattle.lwb_base.proofs.Elements.{contains_head, contains_tail, contains_cases}
pub use Rattle.std.proofs.lemmas.List.{get_or_default as same_default}
pub use Rattle.lwb_base.proofs.Elements.{not_in_none, in_filter, filter_from as from_filter, any_of, some_of, pairs_head, pairs_tail}

pub in_head : {X : Type 0} (xs : List X) (x : X) → Contains (x ∷ xs) x
in_head xs x = contains_head x xs

pub in_tail : {X : Type 0} (xs : List X) (y x : X) → Contains xs x → Contains (y ∷ xs) x
in_tail xs y x there = contains_tail y xs x there

pub in_either : {X : Type 0} (xs : List X) (y x : X) → Contains (y ∷ xs) x → (y ≡ x) ⊎ Contains xs x
in_either xs y x there = contains_cases y xs x there
