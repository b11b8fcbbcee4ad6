-- A radio and its channel.
use Rattle.std.proofs.Common.{◌≡◌, ℕ, true, Some, None, Option, refl, sym}
use Rattle.std.proofs.lemmas.Bool.{eq-eqb}
use Rattle.std.proofs.lemmas.Option.{same_Some, none-some}
use Rattle.air_log.specs.Devices.{Listening, listens_to}
use Rattle.law_trails.specs.Obeying.{channel_if_on}

pub listens_is : (r : ℕ) (l : Option Listening) → channel_if_on l ≡ Some r → listens_to r l ≡ true
listens_is r None is = absurd (none-some r is)
listens_is r (Some l) is = eq-eqb l.rank r (same_Some l.rank r is)

pub off_is : (l : Option Listening) → channel_if_on l ≡ None → l ≡ None
off_is None off = refl
off_is (Some l) off = absurd (none-some l.rank (sym off))
