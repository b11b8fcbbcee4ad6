-- Who hosts after a frame's end, and did not begin to, hosted before.
use Rattle.std.proofs.Common.{◌≡◌, ℕ, Bool, true, false, Option, None, nat_lt, if◌then◌else◌, refl}
use Rattle.bus_rules.specs.declared.tune.Tune.{Tune}
use Rattle.bus_rules.specs.declared.tune.Tune.TheVariants.{Scan, Hold, Host}
use Rattle.bus_rules.specs.Tuning.{hosts, next_tune}
use Rattle.bus_rules.specs.Cores.{begins_host}

scanner : (r w : ℕ) (u : Tune) → begins_host (Scan r w) u ≡ None → hosts u ≡ true → false ≡ true
scanner r w (Scan a b) is host = host
scanner r w (Hold a b) is host = host
scanner r w (Host a b) is host = cc

holder : (r due : ℕ) (b : Bool) → hosts (if b then Hold r due else Scan r 0) ≡ true → false ≡ true
holder r due true host = host
holder r due false host = host

pub hosted_before : (t : Tune) (f : ℕ) (joined : Bool) (own : Option ℕ) (ranks : ℕ) → begins_host t (next_tune t f joined own ranks) ≡ None
    → hosts (next_tune t f joined own ranks) ≡ true → hosts t ≡ true
hosted_before (Host r due) f joined own ranks is host = refl
hosted_before (Hold r due) f joined own ranks is host = holder r due (nat_lt f due) host
hosted_before (Scan r w) f joined own ranks is host = scanner r w (next_tune (Scan r w) f joined own ranks) is host
