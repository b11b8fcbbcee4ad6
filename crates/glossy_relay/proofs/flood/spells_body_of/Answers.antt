use Rattle.std.proofs.Common.{◌≡◌, Bool, true, false, ◌&&◌, nat_le, bytes_eq, sym, ◌∙◌, ap, arith}
use Rattle.std.proofs.lemmas.Bool.{le-leb, lt-leb}
use Rattle.lwb_packets.specs.Body.{body}
use Rattle.glossy_relay.specs.Relaying.{counter_of}
use Rattle.glossy_relay.proofs.Counters.{counter_tells}
use Rattle.glossy_relay.proofs.flood.spells_body_of.Goals as goal

pub returns-then-counter-le-LAST_STEP : goal.returns-then-counter-le-LAST_STEP
returns-then-counter-le-LAST_STEP c =
    let same = bytes_eq (body c.args.first.now) (body c.args.p.now) in
    let low : nat_le (counter_of c.args.p.now) 11 ≡ true = le-leb (counter_of c.args.p.now) 11
    (omega (arith, c.counter.ensures, c.if-counter-le-LAST_STEP.true)) in
    c.same_body.ensures ∙ ap (λ (b : Bool). b && same) (sym low) ∙ counter_tells c.args.kind c.args.first.now c.args.p.now c.requires

pub returns-else-counter-le-LAST_STEP : goal.returns-else-counter-le-LAST_STEP
returns-else-counter-le-LAST_STEP c =
    let same = bytes_eq (body c.args.first.now) (body c.args.p.now) in
    let high : nat_le (counter_of c.args.p.now) 11 ≡ false = lt-leb (counter_of c.args.p.now) 11
    (omega (arith, c.counter.ensures, c.if-counter-le-LAST_STEP.false)) in
    lt-leb c.counter.result 11 c.if-counter-le-LAST_STEP.false ∙ ap (λ (b : Bool). b && same) (sym high)
    ∙ counter_tells c.args.kind c.args.first.now c.args.p.now c.requires
