use Rattle.std.proofs.Common.{Ok, Err, ◌∙◌, sym, refl}
use Rattle.std.proofs.lemmas.Result.{err_from_is_err_and}
use Rattle.scenario_text.proofs.WordsRead.{rate_read}
use Rattle.scenario_text.proofs.network_line.rate_line.Goals as goal

pub returns-in_err-id : goal.returns-in_err-id
returns-in_err-id c =
    let e = err_from_is_err_and c.from_residual.result c.from_residual.ensures.1 in
    rw (e.1, e.2) (sym (rate_read c.args.words.now _ (Err c.in_err-id.field-0.0) _ _ c.in-len4.len_at_least c.in-len4.len_below
    (sym c.in_err-id.was ∙ c.number.ensures) refl refl))

pub returns-in_err-tick : goal.returns-in_err-tick
returns-in_err-tick c =
    let e = err_from_is_err_and c.from_residual-in_err-tick.result c.from_residual-in_err-tick.ensures.1 in
    rw (e.1, e.2) (sym (rate_read c.args.words.now _ (Ok c.in_ok-id.id) (Err c.in_err-tick.field-0.0) _ c.in-len4.len_at_least c.in-len4.len_below
    (sym c.in_ok-id.was ∙ c.number.ensures) (sym c.in_err-tick.was ∙ c.number-2.ensures) refl))

pub returns-in_err-slow : goal.returns-in_err-slow
returns-in_err-slow c =
    let e = err_from_is_err_and c.from_residual-in_err-slow.result c.from_residual-in_err-slow.ensures.1 in
    rw (e.1, e.2)
    (sym (rate_read c.args.words.now _ (Ok c.in_ok-id.id) (Ok c.in_ok-tick.tick) (Err c.in_err-slow.field-0.0) c.in-len4.len_at_least c.in-len4.len_below
    (sym c.in_ok-id.was ∙ c.number.ensures) (sym c.in_ok-tick.was ∙ c.number-2.ensures) (sym c.in_err-slow.was ∙ c.signed_number.ensures)))

pub returns : goal.returns
returns c =
    sym
    (rate_read c.args.words.now _ (Ok c.in_ok-id.id) (Ok c.in_ok-tick.tick)
    (Ok (c.in_ok-slow.slow, c.in_ok-slow.parts)) c.in-len4.len_at_least c.in-len4.len_below
    (sym c.in_ok-id.was ∙ c.number.ensures) (sym c.in_ok-tick.was ∙ c.number-2.ensures) (sym c.in_ok-slow.was ∙ c.signed_number.ensures))
