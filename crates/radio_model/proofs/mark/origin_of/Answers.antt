use Rattle.std.proofs.Common.{◌<◌, ◌∙◌, get_or, length, inl, inr, refl, sym, ap, arith}
use Rattle.std.proofs.lemmas.Bool.{cases_eq}
use Rattle.std.specs.Int.{bit_at}
use Rattle.std.proofs.lemmas.List.{get_or_default}
use Rattle.radio_model.proofs.BegunOrigins.{sender_joins}
use Rattle.radio_model.proofs.mark.origin_of.Goals as goal

pub bounds-marks-i : goal.bounds-marks-i
bounds-marks-i c =
    let i = c.from-i.ensures in
    omega (arith, i, c.requires.one_each, c.loop-rest.invariant c.lowest-next.result c.lowest-next.ensures.set)

pub bounds-stations-i : goal.bounds-stations-i
bounds-stations-i c =
    let i = c.from-i.ensures in
    omega (arith, i, c.loop-rest.invariant c.lowest-next.result c.lowest-next.ensures.set)

pub bounds-marks-i-then-sends_packet : goal.bounds-marks-i-then-sends_packet
bounds-marks-i-then-sends_packet c =
    let i = c.from-i.ensures in
    omega (arith, i, c.requires.one_each, c.loop-rest.invariant c.lowest-next.result c.lowest-next.ensures.set)

pub loop-rest-init : goal.loop-rest-init
loop-rest-init c = c.requires.within

pub loop-rest-preserved : goal.loop-rest-preserved
loop-rest-preserved c =
    λ j one. elim (cases_eq j c.lowest-next.result) [
      | inl here ↦ absurd (omega (arith, one, c.without-rest.ensures.cleared, ap (bit_at c.without-rest.result) here))
      | inr other ↦ c.loop-rest.invariant j (sym (c.without-rest.ensures.others j other) ∙ one)
    ]

pub returns-then-sends_packet : goal.returns-then-sends_packet
returns-then-sends_packet c =
    let mks = c.args.marks.now in
    let at = c.from-i.ensures in
    let i = c.from-i.result in
    let below : i < length c.args.stations.now = omega (arith, at, c.loop-rest.invariant c.lowest-next.result c.lowest-next.ensures.set) in
    let st = c.index-stations-i.result in
    let mk = c.index-marks-i-then-sends_packet.result in
    inr (sender_joins c.args.stations.now mks i c.args.t c.args.packet.now st (get_or mks i mk)
    (record {
      below = below;
      station = sym c.index-stations-i.is;
      mark = get_or_default mks i (get_or mks i mk) mk (omega (arith, below, c.requires.one_each));
    })
    (sym c.sends_packet.ensures ∙ c.if-sends_packet.true))

pub returns : goal.returns
returns c = inl refl
