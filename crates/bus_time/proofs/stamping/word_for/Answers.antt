use Rattle.std.proofs.Common.{◌≡◌, ◌⊎◌, ◌≤◌, inl, inr, filter_map, Some, None, ap, arith}
use Rattle.law_safety.proofs.InvariantHolds.{whole_run}
use Rattle.bus_time.specs.Reading.{now_in, ahead_in}
use Rattle.bus_time.specs.declared.words.Word.{Word}
use Rattle.bus_time.specs.declared.beginning.Beginning.{Beginning}
use Rattle.bus_time.proofs.FoundWords.{now_word, none_now, ahead_word}
use Rattle.bus_time.proofs.GivenWords.{begun_data, given_ahead, found, late_word}
use Rattle.bus_time.proofs.stamping.word_for.Goals.{in-Some+else-word-begun, in_default}
use Rattle.bus_time.proofs.stamping.word_for.Goals as goal

pub returns-then-word-begun : goal.returns-then-word-begun
returns-then-word-begun c = λ s clocks air x may guest.
    let b = c.args.begun.now in
    let start = ap (λ (d : Beginning). d.start) may.is in
    now_word s air x c.in-Some.word
    (found s air x b may.is c.args.reading.now.present (filter_map (now_in s.profile) air) may.now_is c.number.result c.number-2.result c.number.ensures.value
    c.number-2.ensures.value (Some c.in-Some.word) c.in-Some.ensures)
    (omega (arith, c.if-word-begun.true, start))

pub unreachable-requires : goal.unreachable-requires
unreachable-requires c =
    let may = c.requires.4 in
    let s = c.requires.0 in
    let clocks = c.requires.1 in
    let air = c.requires.2 in
    let x = c.requires.3 in
    let guest = c.requires.5 in
    let b = c.args.begun.now in
    let start = ap (λ (d : Beginning). d.start) may.is in
    let branch : ((first : Word) × (c.first.result ≡ Some first) × (x.start ≤ first.end)) ⊎ (c.first.result ≡ None) = elim c.match-first.branch [
      | in-Some+else-word-begun w ↦ inl (w.in-Some.word, w.in-Some.is, (let late = w.if-word-begun.false in omega (arith, late, start)))
      | in_default w ↦ inr w.in_default.is
    ] in
    let none = none_now s air x c.first.result
    (found s air x b may.is c.args.reading.now.present (filter_map (now_in s.profile) air) may.now_is c.number.result c.number-2.result c.number.ensures.value
    c.number-2.ensures.value c.first.result c.first.ensures)
    (late_word c.first.result x.start branch) in
    given_ahead s clocks air (whole_run s clocks air may.driven may.lawful) x (begun_data air x may.there may.begins) guest none
    (found s air x b may.is c.args.reading.now.ahead (filter_map (ahead_in s.profile) air) may.ahead_is c.number.result c.number-2.result c.number.ensures.value
    c.number-2.ensures.value None c.in-None.ensures)

pub returns : goal.returns
returns c = λ s clocks air x may guest.
    let b = c.args.begun.now in
    let start = ap (λ (d : Beginning). d.start) may.is in
    let branch : ((first : Word) × (c.first.result ≡ Some first) × (x.start ≤ first.end)) ⊎ (c.first.result ≡ None) = elim c.match-first.branch [
      | in-Some+else-word-begun w ↦ inl (w.in-Some.word, w.in-Some.is, (let late = w.if-word-begun.false in omega (arith, late, start)))
      | in_default w ↦ inr w.in_default.is
    ] in
    let none = none_now s air x c.first.result
    (found s air x b may.is c.args.reading.now.present (filter_map (now_in s.profile) air) may.now_is c.number.result c.number-2.result c.number.ensures.value
    c.number-2.ensures.value c.first.result c.first.ensures)
    (late_word c.first.result x.start branch) in
    ahead_word s air x none c.in-Some-first.word
    (found s air x b may.is c.args.reading.now.ahead (filter_map (ahead_in s.profile) air) may.ahead_is c.number.result c.number-2.result c.number.ensures.value
    c.number-2.ensures.value (Some c.in-Some-first.word) c.in-Some-first.ensures)
