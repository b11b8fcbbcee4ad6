use Rattle.std.proofs.Common.{◌≡◌, sym, subst, not, Bool, ◌↔◌, true, Contains, get_or}
use Rattle.air_check.specs.Flags.{IsGivenAndMissing}
use Rattle.air_check.proofs.DueOnes.{where_not, where_there}
use Rattle.air_check.proofs.due.is_due.Goals as goal

pub returns-then-not-is_received : goal.returns-then-not-is_received
returns-then-not-is_received c =
    λ air hs d is are.
    let s = c.args.s.now in
    let sent = c.args.index.now.sent.items in
    let v = c.args.node in
    let k = c.args.place in
    let x = get_or sent k d in
    where_not s air hs v x c.is_received.result
    (subst (λ (b : Bool). (b ≡ true) ↔ Contains hs (record { node = v; sending = x })) (sym c.is_received.ensures.value)
    (are.each k v d c.requires.place c.is_received.ensures.range))
    c.if-not-is_received.true c.is_given.result
    (c.is_given.ensures air d is)

pub returns-else-not-is_received : goal.returns-else-not-is_received
returns-else-not-is_received c =
    λ air hs d is are.
    let s = c.args.s.now in
    let sent = c.args.index.now.sent.items in
    let v = c.args.node in
    let k = c.args.place in
    let x = get_or sent k d in
    subst (λ (b : Bool). IsGivenAndMissing s air hs v x (not b)) (sym c.if-not-is_received.false)
    (where_there s air hs v x c.is_received.result
    (subst (λ (b : Bool). (b ≡ true) ↔ Contains hs (record { node = v; sending = x })) (sym c.is_received.ensures.value)
    (are.each k v d c.requires.place c.is_received.ensures.range))
    c.if-not-is_received.false)
