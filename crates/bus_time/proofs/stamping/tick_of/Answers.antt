use Rattle.std.proofs.Common.{◌≡◌, ℕ, ◌*◌, ◌-◌, sym, ◌∙◌, ap, arith, true≢false}
use Rattle.lwb_base.specs.Profile.{Numbers, airtime}
use Rattle.time_reference.specs.Reference.{heard_zero}
use Rattle.radio_model.specs.Hearing.{frame_of_sending}
use Rattle.bus_time.proofs.StampTimes.{in_run, small_tick, small_reading, starts, frames, frame_begun}
use Rattle.bus_time.proofs.StampTimes.{hosting, guest, word_in_run, has_reference, summed, small_nominal}
use Rattle.bus_time.proofs.stamping.tick_of.Goals as goal

pub reading-local-requires : goal.reading-local-requires
reading-local-requires g c =
    let clocks = c.requires.0 in
    let air = c.requires.1 in
    let x = c.requires.2 in
    let may = c.requires.3 in
    let small = small_tick
    c.args.s.now clocks c.args.reading.now.present c.args.reading.now.ahead c.args.begun.now air x may x.start (in_run
    c.args.s.now clocks c.args.reading.now.present c.args.reading.now.ahead c.args.begun.now air x may) in
    let start = starts c.args.s.now clocks c.args.reading.now.present c.args.reading.now.ahead c.args.begun.now air x may in
    omega (arith, small, start)

pub returns-then-is_host : goal.returns-then-is_host
returns-then-is_host g c = λ clocks air x may reads. record {
  host = λ hosts. c.reading-local.ensures ∙ ap (λ (r : ℕ → ℕ). r c.args.begun.now.start) reads
      ∙ ap (clocks x.node) (starts c.args.s.now clocks c.args.reading.now.present c.args.reading.now.ahead c.args.begun.now air x may);
  other = λ guest. absurd (true≢false (sym (hosting
      c.args.s.now clocks c.args.reading.now.present c.args.reading.now.ahead c.args.begun.now air x may (c.is_host.ensures.yes c.if-is_host.true)) ∙ guest));
}

pub word_for-word-requires : goal.word_for-word-requires
word_for-word-requires g c =
    let clocks = c.requires.0 in
    let air = c.requires.1 in
    let x = c.requires.2 in
    let may = c.requires.3 in (
      c.args.s.now,
      clocks,
      air,
      x,
      may,
      guest
          c.args.s.now clocks c.args.reading.now.present c.args.reading.now.ahead c.args.begun.now air x may
          (λ is. true≢false (sym (c.is_host.ensures.back is) ∙ c.if-is_host.false)),
    )

pub reading-requires : goal.reading-requires
reading-requires g c =
    let clocks = c.requires.0 in
    let air = c.requires.1 in
    let x = c.requires.2 in
    let may = c.requires.3 in
    let guest_is = guest
    c.args.s.now clocks c.args.reading.now.present c.args.reading.now.ahead c.args.begun.now air x may
    (λ is. true≢false (sym (c.is_host.ensures.back is) ∙ c.if-is_host.false)) in
    let word = c.word_for-word.ensures c.args.s.now clocks air x may guest_is in
    let small = small_tick
    c.args.s.now clocks c.args.reading.now.present c.args.reading.now.ahead c.args.begun.now air x may c.word_for-word.result.end (word_in_run
    c.args.s.now clocks c.args.reading.now.present c.args.reading.now.ahead c.args.begun.now air x may c.word_for-word.result word) in
    omega (arith, small)

pub zero_by-zero-requires : goal.zero_by-zero-requires
zero_by-zero-requires g c =
    let clocks = c.requires.0 in
    let air = c.requires.1 in
    let x = c.requires.2 in
    let may = c.requires.3 in
    let guest_is = guest
    c.args.s.now clocks c.args.reading.now.present c.args.reading.now.ahead c.args.begun.now air x may
    (λ is. true≢false (sym (c.is_host.ensures.back is) ∙ c.if-is_host.false)) in
    let word = c.word_for-word.ensures c.args.s.now clocks air x may guest_is in
    let end = c.word_for-word.result.end in
    let small = small_reading
    c.args.s.now clocks c.args.reading.now.present c.args.reading.now.ahead c.args.begun.now air x may end (word_in_run
    c.args.s.now clocks c.args.reading.now.present c.args.reading.now.ahead c.args.begun.now air x may c.word_for-word.result word) in
    let reads = c.reading.ensures ∙ ap (λ (r : ℕ → ℕ). r end) c.requires.4 in
    omega (arith, small, reads)

pub overflow_add-nominal-2 : goal.overflow_add-nominal-2
overflow_add-nominal-2 g c =
    let clocks = c.requires.0 in
    let air = c.requires.1 in
    let x = c.requires.2 in
    let may = c.requires.3 in
    let s = c.args.s.now in
    let p = s.profile in
    let b = c.args.begun.now in
    let frame : c.frame.result ≡ p.frame = c.frame.ensures.value ∙ ap (λ (q : Numbers). q.frame) c.profile-profile.ensures.value in
    let lead : c.lead.result ≡ p.lead = c.lead.ensures.value ∙ ap (λ (q : Numbers). q.lead) c.profile-profile.ensures.value in
    let product : b.frame * c.frame.result ≡ frame_of_sending p x * p.frame = ap (λ (f : ℕ). b.frame * f) frame ∙ ap (λ (f : ℕ). f * p.frame) (frames
    c.args.s.now clocks c.args.reading.now.present c.args.reading.now.ahead c.args.begun.now air x may) in
    let begun = frame_begun c.args.s.now clocks c.args.reading.now.present c.args.reading.now.ahead c.args.begun.now air x may in
    let within = in_run c.args.s.now clocks c.args.reading.now.present c.args.reading.now.ahead c.args.begun.now air x may in
    let small = small_tick c.args.s.now clocks c.args.reading.now.present c.args.reading.now.ahead c.args.begun.now air x may x.start within in
    let start = starts c.args.s.now clocks c.args.reading.now.present c.args.reading.now.ahead c.args.begun.now air x may in
    let least = small_nominal s may.driven.sound in
    let read = small_reading c.args.s.now clocks c.args.reading.now.present c.args.reading.now.ahead c.args.begun.now air x may x.start within in
    let reads = c.reading-local.ensures ∙ ap (λ (r : ℕ → ℕ). r b.start) c.requires.4 ∙ ap (clocks x.node) start in
    omega (arith, lead, product, begun, small, least, read, reads)

pub returns : goal.returns
returns g c = λ clocks air x may reads.
    let p = c.args.s.now.profile in
    let b = c.args.begun.now in
    let w = c.word_for-word.result in
    let guest_is = guest
    c.args.s.now clocks c.args.reading.now.present c.args.reading.now.ahead c.args.begun.now air x may
    (λ is. true≢false (sym (c.is_host.ensures.back is) ∙ c.if-is_host.false)) in
    let word = c.word_for-word.ensures c.args.s.now clocks air x may guest_is in
    let profile = c.profile-profile.ensures.value in
    let frame : c.frame.result ≡ p.frame = c.frame.ensures.value ∙ ap (λ (q : Numbers). q.frame) profile in
    let again : c.frame-2.result ≡ p.frame = c.frame-2.ensures.value ∙ ap (λ (q : Numbers). q.frame) profile in
    let lead : c.lead.result ≡ p.lead = c.lead.ensures.value ∙ ap (λ (q : Numbers). q.lead) profile in
    let local = c.reading-local.ensures ∙ ap (λ (r : ℕ → ℕ). r b.start) reads ∙ ap (clocks x.node) (starts
    c.args.s.now clocks c.args.reading.now.present c.args.reading.now.ahead c.args.begun.now air x may) in
    let ended : c.reading.result ≡ clocks x.node w.end = c.reading.ensures ∙ ap (λ (r : ℕ → ℕ). r w.end) reads in
    let zeroed = c.zero_by-zero.ensures.value
    ∙ ap (λ (q : Numbers). heard_zero q (c.reading.result - airtime q w.length) w.counter w.length w.slot) profile
    ∙ ap (λ (e : ℕ). heard_zero p (e - airtime p w.length) w.counter w.length w.slot) ended in
    record {
      host = λ hosts. absurd (true≢false (sym hosts ∙ guest_is));
      other = λ other. has_reference
          c.args.s.now clocks c.args.reading.now.present c.args.reading.now.ahead c.args.begun.now air x may
          w word c.reading-local.result c.zero_by-zero.result c.saturating_sub.result local zeroed
          (c.saturating_sub.ensures
          ∙ summed b.frame c.frame.result c.lead.result c.reading-local.result c.zero_by-zero.result c.from.result c.frame-2.result p.frame p.lead w.ahead frame
          lead again c.from.ensures);
    }
