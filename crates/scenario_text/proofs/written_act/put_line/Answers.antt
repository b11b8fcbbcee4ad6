use Rattle.std.proofs.Common.{◌≡◌, true, Ok, Err, ◌∙◌, sym, ap, refl}
use Rattle.std.proofs.lemmas.Result.{err_from_is_err_and}
use Rattle.scenario_text.specs.Payloads.{is_payload, payload}
use Rattle.text_readers.specs.Words.{word}
use Rattle.text_readers.proofs.NumbersRead.{bytes_of}
use Rattle.scenario_text.proofs.WordsRead.{put_read}
use Rattle.scenario_text.proofs.written_act.put_line.Goals as goal

pub returns-in_err-frame : goal.returns-in_err-frame
returns-in_err-frame c =
    let pays : is_payload (word (bytes_of c.args.words.now) 4) ≡ true =
    sym (c.is_payload.ensures ∙ ap is_payload c.word-hex.ensures) ∙ c.if-not-is_payload.false in
    let e = err_from_is_err_and c.from_residual.result c.from_residual.ensures.1 in
    rw (e.1, e.2)
    (sym (put_read c.args.words.now _ (Err c.in_err-frame.field-0.0) _ _ _
    c.in-len5.len_at_least c.in-len5.len_below pays refl
    (sym c.in_err-frame.was ∙ c.number.ensures) refl refl))

pub returns-in_err-id : goal.returns-in_err-id
returns-in_err-id c =
    let pays : is_payload (word (bytes_of c.args.words.now) 4) ≡ true =
    sym (c.is_payload.ensures ∙ ap is_payload c.word-hex.ensures) ∙ c.if-not-is_payload.false in
    let e = err_from_is_err_and c.from_residual-in_err-id.result c.from_residual-in_err-id.ensures.1 in
    rw (e.1, e.2)
    (sym (put_read c.args.words.now _ (Ok c.in_ok-frame.frame) (Err c.in_err-id.field-0.0) _ _
    c.in-len5.len_at_least c.in-len5.len_below pays refl
    (sym c.in_ok-frame.was ∙ c.number.ensures) (sym c.in_err-id.was ∙ c.number-2.ensures) refl))

pub returns-in_err-stream : goal.returns-in_err-stream
returns-in_err-stream c =
    let pays : is_payload (word (bytes_of c.args.words.now) 4) ≡ true =
    sym (c.is_payload.ensures ∙ ap is_payload c.word-hex.ensures) ∙ c.if-not-is_payload.false in
    let e = err_from_is_err_and c.from_residual-in_err-stream.result c.from_residual-in_err-stream.ensures.1 in
    rw (e.1, e.2)
    (sym (put_read c.args.words.now _ (Ok c.in_ok-frame.frame) (Ok c.in_ok-id.id) (Err c.in_err-stream.field-0.0) _
    c.in-len5.len_at_least c.in-len5.len_below pays refl
    (sym c.in_ok-frame.was ∙ c.number.ensures) (sym c.in_ok-id.was ∙ c.number-2.ensures) (sym c.in_err-stream.was ∙ c.number-3.ensures)))

pub returns : goal.returns
returns c =
    let pays : is_payload (word (bytes_of c.args.words.now) 4) ≡ true =
    sym (c.is_payload.ensures ∙ ap is_payload c.word-hex.ensures) ∙ c.if-not-is_payload.false in
    sym (put_read c.args.words.now _ (Ok c.in_ok-frame.frame) (Ok c.in_ok-id.id) (Ok c.in_ok-stream.stream) c.payload-payload.result
    c.in-len5.len_at_least c.in-len5.len_below pays
    (c.payload-payload.ensures ∙ ap payload c.word-hex.ensures)
    (sym c.in_ok-frame.was ∙ c.number.ensures) (sym c.in_ok-id.was ∙ c.number-2.ensures) (sym c.in_ok-stream.was ∙ c.number-3.ensures))
