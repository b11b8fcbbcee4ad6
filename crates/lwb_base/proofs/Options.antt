-- What an option is by the tests of it.
use Rattle.std.proofs.Common.{◌≡◌, ◌∙◌, true, Option, Some, None, is_some, is_none, refl, sym}
use Rattle.std.proofs.lemmas.Bool.{false≢true}
use Rattle.std.proofs.lemmas.Option.{none-some}

pub none_is : {X : Type 0} (o : Option X) → is_none o ≡ true → o ≡ None
none_is None is = refl
none_is (Some x) is = absurd (false≢true is)

pub some_is : {X : Type 0} (o : Option X) → is_some o ≡ true → (x : X) × (o ≡ Some x)
some_is None is = absurd (false≢true is)
some_is (Some x) is = (x, refl)

pub none_not_some : {X : Type 0} (o : Option X) → o ≡ None → is_some o ≡ true → ⊥
none_not_some o none is = let x = some_is o is in none-some x.0 (sym none ∙ x.1)

pub not_both : {X : Type 0} (o : Option X) (x : X) → o ≡ None → o ≡ Some x → ⊥
not_both o x none some = none-some x (sym none ∙ some)

pub one_value : {X : Type 0} (o : Option X) (x y : X) → o ≡ Some x → o ≡ Some y → x ≡ y
one_value {X} o x y first second = let same : ◌≡◌ {A = Option X} (Some x) (Some y) = sym first ∙ second in cc
