use Rattle.std.proofs.Common.{◌≡◌, ℕ, Some, None, refl, sym, ◌∙◌, ap}
use Rattle.lwb_base.specs.Messages.{Schedule}
use Rattle.schedule_codec.specs.Reading.{schedule_of}
use Rattle.air_log.specs.declared.entry.Entry.TheVariants.{Heard}
use Rattle.bus_time.specs.Reading.{note_now, note_ahead, round_ahead, word_of}
use Rattle.bus_time.proofs.ReadMore.{none_read, now_read, both_read, no_gap, some_gap, noted}
use Rattle.bus_time.proofs.reading.Reading.add_heard.Goals as goal
use Rattle.radio_model.specs.OnAir.{Hearing}

pub returns-in_default : goal.returns-in_default
returns-in_default c = λ air is.
    let old = c.args.self.now in
    let p = c.args.profile.now in
    let h = c.args.heard.now in
    let g : Hearing = record { node = h.node; sending = record { rank = h.rank; node = h.from; start = h.start; end = h.end; packet = h.packet } } in
    let none : schedule_of h.packet ≡ None = c.in_default.ensures.none in
    none_read p air (Heard h) old.present old.ahead old.beginnings.items is (ap (note_now p g) none) (ap (note_ahead p g) none) refl

pub returns-in_ok-note-2 : goal.returns-in_ok-note-2
returns-in_ok-note-2 c = λ air is.
    let old = c.args.self.now in
    let p = c.args.profile.now in
    let h = c.args.heard.now in
    let g : Hearing = record { node = h.node; sending = record { rank = h.rank; node = h.from; start = h.start; end = h.end; packet = h.packet } } in
    let told = c.in-Some.ensures.some in
    let y : Schedule = told.0 in
    let gap : c.in-Some.gap ≡ y.gap = sym told.2 in
    let some : schedule_of h.packet ≡ Some y = told.1 in
    both_read p air (Heard h) old.present old.ahead old.beginnings.items is _ (ap (note_now p g) some) refl c.note.new.self
    (noted old.present c.note.new.self c.round_of.result (round_ahead p 0 g)
    c.word_of.result (word_of 0 g) c.round_of.ensures c.word_of.ensures c.in_ok-note.ensures)
    _ (ap (note_ahead p g) some ∙ some_gap p g y (λ none. c.if-gap-ne0.true (gap ∙ none))) c.note-then-gap-ne0.new.self
    (noted old.ahead c.note-then-gap-ne0.new.self c.round_of-then-gap-ne0.result (round_ahead p y.gap g) c.word_of-then-gap-ne0.result (word_of y.gap g)
    (c.round_of-then-gap-ne0.ensures ∙ ap (λ (n : ℕ). round_ahead p n g) gap) (c.word_of-then-gap-ne0.ensures ∙ ap (λ (n : ℕ). word_of n g) gap)
    c.in_ok-note-2.ensures)

pub returns-else-gap-ne0 : goal.returns-else-gap-ne0
returns-else-gap-ne0 c = λ air is.
    let old = c.args.self.now in
    let p = c.args.profile.now in
    let h = c.args.heard.now in
    let g : Hearing = record { node = h.node; sending = record { rank = h.rank; node = h.from; start = h.start; end = h.end; packet = h.packet } } in
    let told = c.in-Some.ensures.some in
    let y : Schedule = told.0 in
    let some : schedule_of h.packet ≡ Some y = told.1 in
    now_read p air (Heard h) old.present old.ahead old.beginnings.items is _ (ap (note_now p g) some) refl c.note.new.self
    (noted old.present c.note.new.self c.round_of.result (round_ahead p 0 g)
    c.word_of.result (word_of 0 g) c.round_of.ensures c.word_of.ensures c.in_ok-note.ensures)
    (ap (note_ahead p g) some ∙ no_gap p g y (told.2 ∙ c.if-gap-ne0.false))
