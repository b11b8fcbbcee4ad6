-- What two packets of one flood have in common.
use Rattle.std.specs.Prelude.{ℕ, List, slice_set}

-- all bytes but the relay counter, which is 0 here
abbrev pub body : List ℕ → List ℕ
body p = slice_set p 2 0
