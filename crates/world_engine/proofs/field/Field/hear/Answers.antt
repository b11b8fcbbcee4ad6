use Rattle.std.proofs.Common.{◌≡◌, ℕ, List, [], ◌∷◌, ◌++◌, Some, None, sym, ◌∙◌, ap, subst}
use Rattle.std.specs.Prelude.{slice_get}
use Rattle.std.proofs.lemmas.Result.{on_ok_weaker}
use Rattle.lwb_base.specs.declared.event.Event.{Event}
use Rattle.lwb_base.specs.declared.event.Event.TheVariants.{Heard}
use Rattle.event_calendar.specs.Orders.{Due}
use Rattle.air_log.specs.declared.entry.Entry.{Entry}
use Rattle.air_log.specs.declared.entry.Entry.TheVariants.{Heard as HeardLine}
use Rattle.air_log.specs.Devices.{event}
use Rattle.air_log.specs.Entries.{heard_entry}
use Rattle.world_engine.specs.Fields.{FieldState, FieldIsShown}
use Rattle.world_engine.specs.FieldSteps.{Acts}
use Rattle.world_engine.specs.FieldHearings.{AllHear}
use Rattle.world_engine.specs.FieldParts.{state_of}
use Rattle.world_engine.proofs.ShownPlaces.{read_there}
use Rattle.world_engine.proofs.HearersTold.{logged, is_shown_when_logged, heard_there}
use Rattle.world_engine.proofs.field.Field.hear.Given.{Over}
use Rattle.world_engine.proofs.field.Field.hear.Goals as goal
use Rattle.world_engine.proofs.field.Field.hear.Goals.{In_ok-push}

-- the log with the reception more, and the device as it is shown before it
pushed : (g : Over) (c : In_ok-push g) → c.push.new.self ≡ (state_of c.self.inside).air ++ heard_entry c.node-node.result c.args.x.now ∷ []
pushed g c =
    let x = c.args.x.now in
    let line : List ℕ → Entry = λ b. HeardLine (record { rank = x.rank; node = c.node-node.result; from = x.node; start = x.start; end = x.end; packet = b }) in
    c.in_ok-push.ensures.ok ∙ ap (λ (b : List ℕ). (state_of c.self.inside).air ++ line b ∷ []) c.copy.ensures

shown : (g : Over) (c : In_ok-push g) → FieldIsShown c.args.x.now.end (state_of c.self.inside) (g.Q.Orders.map c.args.orders.now) c.args.place
shown g c = subst (λ (v : FieldState). FieldIsShown c.args.x.now.end v (g.Q.Orders.map c.args.orders.now) c.args.place) (sym c.self.view_is) c.requires.shown

pub tell-requires-clause-shown : goal.tell-requires-clause-shown
tell-requires-clause-shown g c =
    let at = (goal.at.tell-requires-clause-shown g c).In_ok-push in
    let w = state_of c.self.inside in
    let due : List Due = g.Q.Orders.map c.args.orders.now in
    let x = c.args.x.now in
    subst (λ (l : List Entry). FieldIsShown x.end (record w { air = l }) due c.args.place) (sym (pushed g at))
    (is_shown_when_logged x.end c.args.place c.node-node.result x w due (shown g at))

pub returns : goal.returns
returns g c =
    let at = (goal.at.returns g c).In_ok-push in
    let w = state_of c.self.inside in
    let due : List Due = g.Q.Orders.map c.args.orders.now in
    let new_due : List Due = g.Q.Orders.map c.tell.new.orders in
    let clock : ℕ → ℕ = g.C.DriftClock.readings c.args.clock.now in
    let x = c.args.x.now in
    let u = c.node-node.result in
    let st = c.index.result.now in
    let there : slice_get w.devices c.args.place ≡ Some st =
    subst (λ (k : ℕ). slice_get w.devices k ≡ Some st) c.from.ensures
    (read_there x.end w due c.from.result st (subst (λ (k : ℕ). FieldIsShown x.end w due k) (sym c.from.ensures) (shown g at)) c.index.ensures) in
    on_ok_weaker c.tell.result (λ acts.
    let told : Acts x.end c.args.place (λ s d. event clock s x.end (Heard x.packet) None d) [] [] (logged u x w) due c.tell.new.self new_due =
    subst (λ (l : List Entry). Acts x.end c.args.place (λ s d. event clock s x.end (Heard x.packet) None d) [] []
    (record w { air = l }) due c.tell.new.self new_due) (pushed g at)
    (subst (λ (e : Event). Acts x.end c.args.place (λ s d. event clock s x.end e None d) [] []
    (record w { air = c.push.new.self }) due c.tell.new.self new_due) c.requires.heard acts) in
    subst (λ (v : FieldState). AllHear (λ q. clock) x.end x (c.args.place ∷ []) v due c.tell.new.self new_due) c.self.view_is
    (heard_there clock c.args.place u x w due st c.tell.new.self new_due there c.node-node.ensures.id told))
    c.tell.ensures
