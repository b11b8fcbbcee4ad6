use Rattle.std.proofs.Common.{Ok, Err, ◌∙◌, sym, refl}
use Rattle.std.proofs.lemmas.Result.{err_from_is_err_and}
use Rattle.text_readers.proofs.NumbersRead.{three_read}
use Rattle.text_readers.proofs.numbers.three_numbers.Goals as goal

pub returns-in_err-number : goal.returns-in_err-number
returns-in_err-number c =
    let e = err_from_is_err_and c.from_residual.result c.from_residual.ensures.1 in
    rw (e.1, e.2) (sym (three_read c.args.words.now _ (Err c.in_err-number.field-0.0) _ _ c.in-len4.len_at_least c.in-len4.len_below
    (sym c.in_err-number.was ∙ c.number.ensures) refl refl))

pub returns-in_err-number-2 : goal.returns-in_err-number-2
returns-in_err-number-2 c =
    let e = err_from_is_err_and c.from_residual-in_err-number-2.result c.from_residual-in_err-number-2.ensures.1 in
    rw (e.1, e.2) (sym (three_read c.args.words.now _ (Ok c.in_ok-number.field-0) (Err c.in_err-number-2.field-0.0) _ c.in-len4.len_at_least c.in-len4.len_below
    (sym c.in_ok-number.was ∙ c.number.ensures) (sym c.in_err-number-2.was ∙ c.number-2.ensures) refl))

pub returns-in_err-number-3 : goal.returns-in_err-number-3
returns-in_err-number-3 c =
    let e = err_from_is_err_and c.from_residual-in_err-number-3.result c.from_residual-in_err-number-3.ensures.1 in
    rw (e.1, e.2)
    (sym (three_read c.args.words.now _ (Ok c.in_ok-number.field-0) (Ok c.in_ok-number-2.field-0)
    (Err c.in_err-number-3.field-0.0) c.in-len4.len_at_least c.in-len4.len_below
    (sym c.in_ok-number.was ∙ c.number.ensures) (sym c.in_ok-number-2.was ∙ c.number-2.ensures) (sym c.in_err-number-3.was ∙ c.number-3.ensures)))

pub returns : goal.returns
returns c =
    sym
    (three_read c.args.words.now _ (Ok c.in_ok-number.field-0) (Ok c.in_ok-number-2.field-0)
    (Ok c.in_ok-number-3.field-0) c.in-len4.len_at_least c.in-len4.len_below
    (sym c.in_ok-number.was ∙ c.number.ensures) (sym c.in_ok-number-2.was ∙ c.number-2.ensures) (sym c.in_ok-number-3.was ∙ c.number-3.ensures))
