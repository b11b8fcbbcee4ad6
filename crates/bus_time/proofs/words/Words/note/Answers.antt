use Rattle.std.proofs.Common.{◌≡◌, ◌∷◌, ◌++◌, [], Some, sym, ◌∙◌, subst}
use Rattle.std.specs.HashMap.{get}
use Rattle.bus_time.specs.Words.{IsFirstWord, same_round}
use Rattle.bus_time.specs.declared.words.Round.{Round}
use Rattle.bus_time.proofs.FirstWords.{replaced, fresh, put, left}
use Rattle.bus_time.proofs.words.Words.note.Goals.{in-Some+else-not-comes_before, in_default}
use Rattle.bus_time.proofs.words.Words.note.Goals as goal

pub returns-then-not-comes_before : goal.returns-then-not-comes_before
returns-then-not-comes_before c = λ notes are.
    let words = c.args.self.now in
    let was : get same_round words.first c.args.round ≡ Some c.in-Some.old = sym (c.copied-old.ensures ∙ c.get.ensures.value) ∙ c.in-Some.is in
    left notes c.args.round c.args.word (λ (r : Round). get same_round words.first r) c.in-Some.old are was
    (sym c.comes_before.ensures ∙ c.if-not-comes_before.true)

pub returns : goal.returns
returns c = λ notes are.
    let words = c.args.self.now in
    let round = c.args.round in
    let word = c.args.word in
    let old : c.copied-old.result ≡ get same_round words.first round = c.copied-old.ensures ∙ c.get.ensures.value in
    let here : IsFirstWord (notes ++ (round, word) ∷ []) round (Some word) = elim c.match-old.branch [
      | in-Some+else-not-comes_before w ↦ replaced notes round word w.in-Some.old
          (subst (IsFirstWord notes round) (sym old ∙ w.in-Some.is) (are round)) (sym w.comes_before.ensures ∙ w.if-not-comes_before.false)
      | in_default w ↦ fresh notes round word (subst (IsFirstWord notes round) (sym old ∙ w.in_default.is) (are round))
    ] in
    let updates = c.in_ok-insert.ensures.updates in
    put notes round word (λ (r : Round). get same_round words.first r) are here
    (λ (r : Round). get same_round c.insert.new.self r) updates.1 updates.2
