use Rattle.std.proofs.Common.{◌≤◌, sym, ◌∙◌, arith}
use Rattle.std.proofs.lemmas.Slice.Eq.{bytes_eq-Decides}
use Rattle.lwb_packets.specs.Body.{body}
use Rattle.glossy_relay.specs.Relaying.{counter_of}
use Rattle.bus_time.proofs.SameGaps.{same_gap}
use Rattle.bus_time.proofs.gaps.Told.gap_of.Goals as goal

pub returns-then-same_body : goal.returns-then-same_body
returns-then-same_body c =
    let told = c.self.inside in
    let packet = c.args.packet.now in
    let is = c.counter.ensures in
    let least = c.if-counter-le-LAST_STEP.true in
    let few : counter_of packet ≤ 11 = omega (arith, is, least) in
    same_gap packet told.packet told.gap few
    ((bytes_eq-Decides (body packet) (body told.packet)).0 (sym c.same_body.ensures ∙ c.if-same_body.true)) c.self.invariant
