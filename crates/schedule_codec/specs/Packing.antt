-- Numbers of w bits each, packed into bytes.
use Rattle.std.specs.Prelude.{◌≡◌, true, ℕ, zero, suc, ◌+◌, ◌-◌, ◌*◌, ◌/◌, ◌%◌, ◌^◌, List, [], ◌∷◌, fold, length}
pub use Rattle.lwb_base.specs.Messages.{fit}

-- numbers of w bits each, the first one highest, as one number
unfoldable pub packed_number : ℕ → List ℕ → ℕ
packed_number w ds = fold (λ n d. n * 2 ^ w + d) 0 ds

-- the k lowest numbers of w bits each in n, the highest of them first
unfoldable pub digits : ℕ → ℕ → ℕ → List ℕ
digits w zero n = []
digits w (suc k) n = (n / 2 ^ (k * w) % 2 ^ w) ∷ digits w k n

-- the bytes that this many bits take
abbrev pub bytes_for : ℕ → ℕ
bytes_for bits = (bits + 7) / 8

-- the zero bits that fill up this many bits to a whole byte
abbrev pub fill : ℕ → ℕ
fill bits = 8 * bytes_for bits - bits

-- numbers of w bits each in bytes: the highest bit first, without gaps, filled up with zero bits to a whole byte
abbrev pub packed : ℕ → List ℕ → List ℕ
packed w ds = let bits = length ds * w in digits 8 (bytes_for bits) (packed_number w ds * 2 ^ fill bits)

-- this many bits as one number, the first bit highest
pub record Bits : Type 0 where
  pub count : ℕ
  pub value : ℕ

-- ds are this many numbers of w bits each, and these are their bytes
pub record Packs (w count : ℕ) (bs ds : List ℕ) : Type 0 where
  pub many : length ds ≡ count
  pub fits : fit w ds ≡ true
  pub bytes : packed w ds ≡ bs
