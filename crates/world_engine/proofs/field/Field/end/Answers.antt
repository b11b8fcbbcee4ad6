use Rattle.std.proofs.Common.{◌≡◌, ℕ, [], set, Option, Some, None, sym, ◌∙◌, ap, subst, arith}
use Rattle.std.specs.Prelude.{option_copied}
use Rattle.std.proofs.lemmas.Result.{on_ok_weaker}
use Rattle.radio_model.specs.Hearing.{Scene}
use Rattle.radio_model.specs.Holding.{Holds}
use Rattle.radio_model.specs.Stations.{IsTime, sending_of_station, station_of}
use Rattle.radio_model.specs.declared.sending.Sending.{Sending}
use Rattle.lwb_base.specs.declared.event.Event.TheVariants.{Sent}
use Rattle.world_engine.specs.Fields.{FieldState}
use Rattle.world_engine.specs.FieldParts.{state_of}
use Rattle.world_engine.specs.FieldSteps.{Acts, readings_at}
use Rattle.air_log.specs.Devices.{event}
use Rattle.world_engine.proofs.HearingLoop.{reads_there}
use Rattle.world_engine.proofs.EndsInCode.{IsAsked, changed_field, node_ends, node_there, place_due, some_ends, ended_field, has_ended, sends_that, as_asked}
use Rattle.world_engine.proofs.EndsOfSendings.{HasEnded, known_hearers, shown_at_end, time_at_end, sender_shown, sending_ends}
use Rattle.world_engine.proofs.field.Field.end.Given.{Over}
use Rattle.world_engine.proofs.field.Field.end.Goals as goal
use Rattle.world_engine.proofs.field.Field.end.Goals.{After-node-node, After-sending, After-copy-x, After-end_sending}

none_some : (x : Sending) → (let o : Option Sending = None in o ≡ Some x) → ⊥
none_some x is = cc

asked : (g : Over) (c : After-node-node g)
    → IsAsked c.args.t c.args.place (state_of c.self.inside) c.args.self.now (g.Q.Orders.map c.args.orders.now)
asked g c = record {
  seen = c.self.view_is;
  field = c.self.invariant;
  within = c.requires.within;
  shown = c.requires.shown;
  time = c.requires.time;
  ends = c.requires.ends;
}

-- the medium has its transmission
some : (g : Over) (c : After-sending g) → IsAsked c.args.t c.args.place (state_of c.self.inside) c.args.self.now (g.Q.Orders.map c.args.orders.now)
    → (x : Sending) × (option_copied c.sending.result ≡ Some x)
some g c at = some_ends at c.from.ensures c.index.ensures c.node-node.ensures.id c.sending.ensures

sends : (g : Over) (c : After-copy-x g) → sending_of_station (station_of (state_of c.self.inside).medium c.node-node.result) ≡ Some c.copy-x.result
sends g c = sym c.sending.ensures ∙ ap option_copied c.in-Some.is ∙ ap (λ (y : Sending). Some y) (sym c.copy-x.ensures)

ended : (g : Over) (c : After-end_sending g) → sending_of_station (station_of (state_of c.self.inside).medium c.node-node.result) ≡ Some c.copy-x.result
    → IsAsked c.args.t c.args.place (state_of c.self.inside) c.args.self.now (g.Q.Orders.map c.args.orders.now) → (let w = state_of c.self.inside in
    HasEnded (g.M.Links.lines c.args.links.now) c.args.t c.args.place c.node-node.result w (g.Q.Orders.map c.args.orders.now) c.index_mut.result.now
    c.copy-x.result c.end-hearers.result (changed_field w c.end-hearers.new.self (set w.devices c.from-2.result c.end_sending.new.self))
    (g.Q.Orders.map c.clear.new.self))
ended g c has at =
    has_ended at c.from.ensures c.index.ensures c.node-node.ensures.id has c.from-2.ensures c.index_mut.ensures.value
    c.end_sending.ensures.ended c.end_sending.ensures.after c.end-hearers.ensures.state c.end-hearers.ensures.sender
    c.end-hearers.ensures.ascending c.end-hearers.ensures.hearers c.clear.ensures c.end-hearers.ensures.holds

pub sending-requires : goal.sending-requires
sending-requires g c =
    node_there (asked g (goal.at.sending-requires g c).After-node-node) c.from.ensures c.index.ensures c.node-node.ensures.id

pub unreachable-requires : goal.unreachable-requires
unreachable-requires g c =
    let back = goal.at.unreachable-requires g c in
    let is = some g back.After-sending (asked g back.After-node-node) in
    none_some is.0 (sym (ap option_copied c.in_default.is) ∙ is.1)

pub end-hearers-requires-clause-sends : goal.end-hearers-requires-clause-sends
end-hearers-requires-clause-sends g c =
    node_ends (asked g (goal.at.end-hearers-requires-clause-sends g c).After-node-node) c.from.ensures c.index.ensures c.node-node.ensures.id

pub clear-requires : goal.clear-requires
clear-requires g c = place_due (asked g (goal.at.clear-requires g c).After-node-node) c.from.ensures c.index.ensures

pub invariant_of-self : goal.invariant_of-self
invariant_of-self g c =
    let back = goal.at.invariant_of-self g c in
    ended_field (asked g back.After-node-node) c.from.ensures c.index.ensures c.node-node.ensures.id (sends g back.After-copy-x) c.from-2.ensures
    c.index_mut.ensures.value c.end_sending.ensures.ended c.end_sending.ensures.after c.end-hearers.ensures.state

pub hear_all-requires-clause-nodes : goal.hear_all-requires-clause-nodes
hear_all-requires-clause-nodes g c =
    let back = goal.at.hear_all-requires-clause-nodes g c in
    known_hearers (ended g back.After-end_sending (sends g back.After-copy-x) (asked g back.After-node-node))
    (subst (λ (v : FieldState). (a : Scene) × Holds v.medium a × (a.lines ≡ g.M.Links.lines c.args.links.now)) (sym c.self.view_is) c.requires.held)

pub hear_all-requires-clause-shown : goal.hear_all-requires-clause-shown
hear_all-requires-clause-shown g c =
    let back = goal.at.hear_all-requires-clause-shown g c in
    shown_at_end (ended g back.After-end_sending (sends g back.After-copy-x) (asked g back.After-node-node))

pub hear_all-requires-clause-time : goal.hear_all-requires-clause-time
hear_all-requires-clause-time g c =
    let back = goal.at.hear_all-requires-clause-time g c in
    time_at_end (ended g back.After-end_sending (sends g back.After-copy-x) (asked g back.After-node-node))

pub hear_all-requires-clause-early : goal.hear_all-requires-clause-early
hear_all-requires-clause-early g c =
    let back = goal.at.hear_all-requires-clause-early g c in
    let is = (ended g back.After-end_sending (sends g back.After-copy-x) (asked g back.After-node-node)).ending in
    omega (arith, is.until, c.requires.early)

pub tell-requires-clause-time : goal.tell-requires-clause-time
tell-requires-clause-time g c =
    let back = goal.at.tell-requires-clause-time g c in
    let is = (ended g back.After-end_sending (sends g back.After-copy-x) (asked g back.After-node-node)).ending in
    subst (λ (n : ℕ). IsTime c.hear_all.new.self.medium n) is.until c.in_ok-hear_all.ensures.2.air.time

pub tell-requires-clause-shown : goal.tell-requires-clause-shown
tell-requires-clause-shown g c =
    let back = goal.at.tell-requires-clause-shown g c in
    sender_shown (ended g back.After-end_sending (sends g back.After-copy-x) (asked g back.After-node-node))
    (readings_at g.C.DriftClock.readings c.args.clocks.now) c.in_ok-hear_all.ensures

pub returns : goal.returns
returns g c =
    let back = goal.at.returns g c in
    let t = c.args.t in
    let p = c.args.place in
    let x = c.copy-x.result in
    let clocks : ℕ → ℕ → ℕ = readings_at g.C.DriftClock.readings c.args.clocks.now in
    let within = c.requires.within in
    let reads : g.C.DriftClock.readings c.index-clocks-from.result ≡ clocks p =
    reads_there g.C.DriftClock.readings c.args.clocks.now c.from-3.result p c.index-clocks-from.result c.from-3.ensures
    (omega (arith, within, c.from-3.ensures, c.requires.clocks)) c.index-clocks-from.is in
    λ y that.
    let is_y : x ≡ y = sends_that (asked g back.After-node-node) c.from.ensures c.index.ensures c.node-node.ensures.id (sends g back.After-copy-x)
    c.from-2.ensures c.index_mut.ensures.value c.end_sending.ensures.ended c.end_sending.ensures.after c.end-hearers.ensures.state y that in
    on_ok_weaker c.tell.result (λ acts. (
      c.in_ok-hear_all.ensures.0,
      as_asked c.self.view_is is_y (sending_ends (ended g back.After-end_sending (sends g back.After-copy-x) (asked g back.After-node-node)) clocks
          c.in_ok-hear_all.ensures
          (subst (λ (r : ℕ → ℕ). Acts t p (λ s d. event r s t Sent (Some x) d) [] [] c.hear_all.new.self (g.Q.Orders.map c.hear_all.new.orders)
          c.tell.new.self (g.Q.Orders.map c.tell.new.orders)) reads acts)),
    ))
    c.tell.ensures
