use Rattle.std.proofs.Common.{◌≡◌, ℕ, Bool, true, false, Some, None, if◌then◌else◌, refl, arith}
use Rattle.bus_rules.specs.Streams.{request_is_due, stream_at}
use Rattle.node_streams.proofs.InTurn.{least_found}
use Rattle.node_streams.proofs.streams.Streams.due.Goals as goal

of_due : (b : Bool) (w wish : ℕ) → Some wish ≡ (if b then Some w else None) → (b ≡ true) × (wish ≡ w)
of_due true w wish is = (refl, cc)
of_due false w wish is = cc

pub returns-in-Some-clause-least : goal.returns-in-Some-clause-least
returns-in-Some-clause-least c =
    let s = c.args.self.now in
    let i = c.loop-i.i in
    let here = of_due (request_is_due s i) (stream_at s i).wish c.in-Some.wish c.in-Some.ensures.value in
    let found = least_found (request_is_due s) i (omega arith) c.loop-i.invariant here.0 in
    rw (found, here.1) refl
