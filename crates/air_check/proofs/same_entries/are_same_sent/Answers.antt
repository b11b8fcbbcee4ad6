use Rattle.std.proofs.Common.{◌≡◌, ◌<◌, List, take, length, get_or, refl, sym, ap, ◌∙◌, arith}
use Rattle.std.proofs.lemmas.Bool.{false≢true}
use Rattle.std.proofs.lemmas.List.{take_all, take_more_same, get_or_read}
use Rattle.radio_model.specs.declared.sending.Sending.{Sending}
use Rattle.air_check.proofs.same_entries.are_same_sent.Goals as goal

pub loop-i-preserved : goal.loop-i-preserved
loop-i-preserved c =
    let x = c.index-made-i in
    let y = c.index-logged-i in
    let within : c.loop-i.i < length c.args.logged.now = omega (arith, c.loop-i-test.true, c.if-made-logged.false) in
    take_more_same c.args.made.now c.args.logged.now c.loop-i.i x.result c.loop-i-test.true within c.loop-i.invariant
    (sym x.is ∙ c.is_same_sent.ensures.0 c.if-not-is_same_sent.false ∙ get_or_read c.args.logged.now c.loop-i.i y.result within y.is x.result)

pub returns : goal.returns
returns c =
    let first : take c.loop-i.i c.args.made.now ≡ c.args.made.now = take_all c.loop-i.i c.args.made.now c.loop-i-test.false in
    let second : take c.loop-i.i c.args.logged.now ≡ c.args.logged.now =
    take_all c.loop-i.i c.args.logged.now (omega (arith, c.loop-i-test.false, c.if-made-logged.false)) in
    (λ yes. sym first ∙ c.loop-i.invariant ∙ second, λ is. refl)

pub returns-then-not-is_same_sent : goal.returns-then-not-is_same_sent
returns-then-not-is_same_sent c =
    let x = c.index-made-i in
    let y = c.index-logged-i in
    let within : c.loop-i.i < length c.args.logged.now = omega (arith, c.loop-i-test.true, c.if-made-logged.false) in (
      λ yes. absurd (false≢true yes),
      λ is. sym c.if-not-is_same_sent.true ∙ c.is_same_sent.ensures.1 (x.is ∙ ap (λ (l : List Sending). get_or l c.loop-i.i x.result) is
          ∙ sym (get_or_read c.args.logged.now c.loop-i.i y.result within y.is x.result)),
    )
