use Rattle.std.proofs.Common.{◌≡◌, ℕ, List, Option, Some, None, option_map, set, refl, sym, ◌∙◌, ap, subst}
use Rattle.std.specs.Option.{option_or}
use Rattle.std.proofs.lemmas.Result.{on_ok_weaker}
use Rattle.radio_model.specs.Stations.{MediumState, IsTime}
use Rattle.event_calendar.specs.Orders.{Due, at, changed}
use Rattle.event_calendar.specs.declared.class.Class.TheVariants.{SendingEnd, SendingStart}
use Rattle.radio_model.specs.declared.sending.Sending.{Sending}
use Rattle.air_log.specs.DeviceStates.{whole, with_sent, sending_end}
use Rattle.world_engine.specs.Fields.{FieldState, IsField, FieldIsShown}
use Rattle.world_engine.specs.FieldParts.{state_of}
use Rattle.world_engine.proofs.BegunDevices.{Answers}
use Rattle.world_engine.proofs.BegunSendings.{has_begun, has_station, begun_is_field, as_given}
use Rattle.world_engine.proofs.NothingBegun.{IsStarting, not_begun, silent_is_field}
use Rattle.world_engine.proofs.ShownPlaces.{read_there}
use Rattle.world_engine.proofs.field.Field.begin.Given.{Over}
use Rattle.world_engine.proofs.field.Field.begin.Goals as goal
use Rattle.world_engine.proofs.field.Field.begin.Goals.{After-start}

-- the device at the place as it starts
starting : (g : Over) (c : After-start g)
    → IsStarting c.args.t c.from.result (state_of c.self.inside) (g.Q.Orders.map c.args.orders.now) c.index_mut-device.result.now c.start.new.self
starting g c =
    let w = state_of c.self.inside in
    let due : List Due = g.Q.Orders.map c.args.orders.now in
    let i = c.from.result in
    let shown : FieldIsShown c.args.t w due i = subst (λ (k : ℕ). FieldIsShown c.args.t w due k) (sym c.from.ensures)
    (subst (λ (v : FieldState). FieldIsShown c.args.t v due c.args.place) (sym c.self.view_is) c.requires.shown) in
    record {
      field = c.self.invariant;
      here = read_there c.args.t w due i c.index_mut-device.result.now shown c.index_mut-device.ensures.value;
      node = c.start.ensures.node;
      channel = c.start.ensures.channel;
      stands = ap (λ (k : ℕ). at due k SendingStart) c.from.ensures ∙ c.requires.stands;
      shown = shown;
      time = subst (λ (v : FieldState). IsTime v.medium c.args.t) (sym c.self.view_is) c.requires.time;
    }

-- what starts, or that nothing does
answers : (g : Over) (c : After-start g) (r : Option Sending) → c.start.result ≡ r → Answers c.args.t c.index_mut-device.result.now c.start.new.self r
answers g c r is x made runs channel =
    c.start.ensures.whole x made runs channel ∙ ap (λ (o : Option Sending). whole c.start.new.self x (with_sent o made)) is

until : (g : Over) (c : After-start g) (r : Option Sending) → c.start.result ≡ r
    → c.start.new.self.busy_until ≡ option_or (option_map sending_end r) c.index_mut-device.result.now.busy_until
until g c r is = c.start.ensures.until ∙ ap (λ (o : Option Sending). option_or (option_map sending_end o) c.index_mut-device.result.now.busy_until) is

none_of : (r : Option Sending) → ((x : Sending) → r ≡ Some x → ⊥) → r ≡ None
none_of None not = refl
none_of (Some x) not = absurd (not x refl)

pub invariant_of-self : goal.invariant_of-self
invariant_of-self g c =
    let back = goal.at.invariant_of-self g c in
    let none = none_of c.start.result c.in_default.not-Some in
    silent_is_field (starting g back.After-start) (answers g back.After-start None none) (until g back.After-start None none)

pub returns-in_default : goal.returns-in_default
returns-in_default g c =
    let back = goal.at.returns-in_default g c in
    let none = none_of c.start.result c.in_default.not-Some in
    as_given c.self.view_is c.from.ensures
    (c.clear.ensures ∙ ap (λ (k : ℕ). changed (g.Q.Orders.map c.args.orders.now) k SendingStart None) (sym c.from.ensures))
    (not_begun (starting g back.After-start) (answers g back.After-start None none) (until g back.After-start None none))

pub start-requires-2-clause-node : goal.start-requires-2-clause-node
start-requires-2-clause-node g c =
    let back = goal.at.start-requires-2-clause-node g c in
    has_station (starting g back.After-start) c.in-Some.x (answers g back.After-start (Some c.in-Some.x) c.in-Some.is)
    (until g back.After-start (Some c.in-Some.x) c.in-Some.is)

pub invariant_of-self-2 : goal.invariant_of-self-2
invariant_of-self-2 g c =
    let back = goal.at.invariant_of-self-2 g c in
    let w = state_of c.self.inside in
    subst (λ (m : MediumState). IsField (record w { medium = m; devices = set w.devices c.from.result c.start.new.self; air = c.push.new.self }))
    (sym c.start-2.ensures.state)
    (begun_is_field (starting g back.After-start) c.in-Some.x (answers g back.After-start (Some c.in-Some.x) c.in-Some.is)
    (until g back.After-start (Some c.in-Some.x) c.in-Some.is) c.push.new.self)

pub returns : goal.returns
returns g c =
    let back = goal.at.returns g c in
    let due : List Due = g.Q.Orders.map c.args.orders.now in
    let w = state_of c.self.inside in
    let x = c.in-Some.x in
    on_ok_weaker c.push.result (λ pushed.
    as_given c.self.view_is c.from.ensures
    (c.set.ensures ∙ ap (λ (q : List Due). changed q c.args.place SendingEnd (Some x.end)) c.clear.ensures
    ∙ ap (λ (k : ℕ). changed (changed due k SendingStart None) k SendingEnd (Some x.end)) (sym c.from.ensures))
    (has_begun (starting g back.After-start) x (answers g back.After-start (Some x) c.in-Some.is) (until g back.After-start (Some x) c.in-Some.is)
    c.start-2.new.self c.start-2.ensures.state c.start-2.ensures.holds c.push.new.self pushed)) c.push.ensures.ok
