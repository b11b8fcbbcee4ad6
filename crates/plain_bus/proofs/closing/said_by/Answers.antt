use Rattle.std.proofs.Common.{sym, ◌∙◌, ap, arith}
use Rattle.std.proofs.lemmas.Bool.{false≢true}
use Rattle.bus_terms.specs.Flooding.{has}
use Rattle.plain_bus.specs.SlotFloods.{Seen}
use Rattle.plain_bus.proofs.SaidBehind.{seen_there}
use Rattle.plain_bus.proofs.TextFloods.{has_element}
use Rattle.plain_bus.proofs.closing.said_by.Goals as goal

pub returns-in-Some-clause-known : goal.returns-in-Some-clause-known
returns-in-Some-clause-known c b are there =
    let place = c.in-Some.ensures.place in
    c.said_in.ensures
    ∙ ap (λ (w : Seen). w.message)
    (seen_there b c.args.ids.now c.args.windows.now are c.in-Some.place c.args.origin c.index-windows-place.result
    (omega (arith, place.0, c.requires.windows)) place.0 place.1 c.index-windows-place.is)

pub returns-in-Some-clause-unknown : goal.returns-in-Some-clause-unknown
returns-in-Some-clause-unknown c out =
    let place = c.in-Some.ensures.place in
    absurd (false≢true (sym out ∙ ap (has c.args.ids.now) (sym place.1) ∙ has_element c.args.ids.now c.in-Some.place place.0))

pub returns-in-None-clause-known : goal.returns-in-None-clause-known
returns-in-None-clause-known c b are there = absurd (false≢true (sym c.in-None.ensures.none ∙ there))
