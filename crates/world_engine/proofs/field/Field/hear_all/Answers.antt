use Rattle.std.proofs.Common.{◌≡◌, ◌<◌, ℕ, List, [], Some, map, length, sym, subst, ◌∙◌, arith}
use Rattle.std.specs.Prelude.{slice_get}
use Rattle.std.proofs.lemmas.List.{nil_from_length}
use Rattle.world_engine.specs.Fields.{ids_of}
use Rattle.world_engine.specs.FieldHearings.{StandAtPlaces}
use Rattle.world_engine.specs.FieldSteps.{readings_at}
use Rattle.world_engine.proofs.HearersAtPlaces.{no_places}
use Rattle.world_engine.proofs.HearersTold.{none_hear}
use Rattle.world_engine.proofs.HearingLoop.{some_there, known_hearer, place_below, hearer_shown, heard_next, reads_there}
use Rattle.world_engine.proofs.field.Field.hear_all.Given.{Over}
use Rattle.world_engine.proofs.field.Field.hear_all.Goals as goal
use Rattle.world_engine.proofs.field.Field.hear_all.Goals.{After-place_of-place, After-unwrap-node}

pub returns-then-count-eq0 : goal.returns-then-count-eq0
returns-then-count-eq0 g c =
    let ids = ids_of c.args.self.now in
    let none : c.args.hearers.now ≡ [] = nil_from_length c.args.hearers.now (omega (arith, c.count.ensures.value, c.if-count-eq0.true)) in (
      [],
      subst (λ (l : List (ℕ × ℕ)). StandAtPlaces ids (map {A = ℕ × ℕ} {B = ℕ} (λ p. p.0) l) []) (sym none) (no_places ids),
      none_hear (readings_at g.C.DriftClock.readings c.args.clocks.now) c.args.x.now.end c.args.x.now c.args.self.now
          (g.Q.Orders.map c.args.orders.now) c.requires.time,
    )

pub loop-i-init : goal.loop-i-init
loop-i-init g c = (
  [],
  no_places (ids_of c.args.self.now),
  none_hear (readings_at g.C.DriftClock.readings c.args.clocks.now) c.args.x.now.end c.args.x.now c.args.self.now
      (g.Q.Orders.map c.args.orders.now) c.requires.time,
)

pub unwrap-node-requires : goal.unwrap-node-requires
unwrap-node-requires g c =
    let test = c.loop-i-test.true in some_there c.args.hearers.now c.loop-i.i c.at.result c.at.ensures
    (omega (arith, test, c.from-i-end.ensures, c.count.ensures.value))

there : (g : Over) (c : After-unwrap-node g) → slice_get c.args.hearers.now c.loop-i.i ≡ Some c.unwrap-node.result
there g c = sym c.at.ensures ∙ c.unwrap-node.ensures

-- the place of the hearer is one of the devices
below : (g : Over) (c : After-place_of-place g) → slice_get c.args.hearers.now c.loop-i.i ≡ Some c.unwrap-node.result
    → c.place_of-place.result < length c.args.self.now.devices
below g c at = place_below c.args.hearers.now c.loop-i.i at c.loop-i.invariant c.place_of-place.result c.place_of-place.ensures

pub place_of-place-requires : goal.place_of-place-requires
place_of-place-requires g c =
    known_hearer c.args.hearers.now c.loop-i.i (there g (goal.at.place_of-place-requires g c).After-unwrap-node) c.loop-i.invariant c.requires.nodes

pub offset_bounds-clocks-from : goal.offset_bounds-clocks-from
offset_bounds-clocks-from g c =
    let back = goal.at.offset_bounds-clocks-from g c in
    let within = below g back.After-place_of-place (there g back.After-unwrap-node) in omega (arith, within, c.from.ensures, c.requires.clocks)

pub bounds-clocks-from : goal.bounds-clocks-from
bounds-clocks-from g c =
    let back = goal.at.bounds-clocks-from g c in
    let within = below g back.After-place_of-place (there g back.After-unwrap-node) in omega (arith, within, c.from.ensures, c.requires.clocks)

pub hear-requires-clause-shown : goal.hear-requires-clause-shown
hear-requires-clause-shown g c =
    hearer_shown c.args.hearers.now c.loop-i.i (there g (goal.at.hear-requires-clause-shown g c).After-unwrap-node) c.loop-i.invariant
    c.place_of-place.result c.place_of-place.ensures c.requires.shown

pub loop-i-preserved : goal.loop-i-preserved
loop-i-preserved g c =
    let back = goal.at.loop-i-preserved g c in
    let within = below g back.After-place_of-place (there g back.After-unwrap-node) in
    let reads = reads_there g.C.DriftClock.readings c.args.clocks.now c.from.result c.place_of-place.result c.index-clocks-from.result c.from.ensures
    (omega (arith, within, c.from.ensures, c.requires.clocks)) c.index-clocks-from.is in
    heard_next c.args.hearers.now c.loop-i.i (there g back.After-unwrap-node) c.loop-i.invariant c.place_of-place.result c.place_of-place.ensures
    c.requires.ascending reads c.in_ok-hear.ensures
