use Rattle.std.proofs.Common.{◌≡◌, ◌∷◌, [], ◌↔◌, List, ℕ, Some, map, string_bytes, sym, ◌∙◌, arith, subst}
use Rattle.plan_commands.specs.Commands.{Spell}
use Rattle.plan_commands.specs.declared.command.Command.{Command}
use Rattle.plan_commands.proofs.PlanWords.{one_same, one_word, two_words, two_same, three_words, three_same}
use Rattle.plan_commands.proofs.command.command_of.Goals as goal

pub returns-in-len1 : goal.returns-in-len1
returns-in-len1 c =
    let words = one_word c.args.words.now c.word-item.result (omega arith) c.word-item.is in
    let spelled : map string_bytes c.args.words.now ≡ c.as_str.result.now ∷ [] = words ∙ one_same (sym c.as_str.ensures.value) in
    subst (λ (l : List (List ℕ)). (e : Command) → (c.alone.result ≡ Some e) ↔ Spell l e) (sym spelled) c.alone.ensures

pub returns-in-len2 : goal.returns-in-len2
returns-in-len2 c =
    let words = two_words c.args.words.now c.word-item-then-words-lt3.result c.seed-item.result (omega arith) c.word-item-then-words-lt3.is c.seed-item.is in
    let spelled : map string_bytes c.args.words.now ≡ c.as_str-in-len2.result.now ∷ c.as_str-in-len2-2.result.now ∷ [] =
    words ∙ two_same (sym c.as_str-in-len2.ensures.value) (sym c.as_str-in-len2-2.ensures.value) in
    subst (λ (l : List (List ℕ)). (e : Command) → (c.seeded_by.result ≡ Some e) ↔ Spell l e) (sym spelled) c.seeded_by.ensures

pub returns-in-len3 : goal.returns-in-len3
returns-in-len3 c =
    let words = three_words c.args.words.now c.word-item-then-words-lt4.result c.from-item.result c.count-item.result (omega arith)
    c.word-item-then-words-lt4.is c.from-item.is c.count-item.is in
    let spelled : map string_bytes c.args.words.now
    ≡ c.as_str-in-len3.result.now ∷ c.as_str-in-len3-2.result.now ∷ c.as_str-in-len3-3.result.now ∷ [] =
    words ∙ three_same (sym c.as_str-in-len3.ensures.value) (sym c.as_str-in-len3-2.ensures.value) (sym c.as_str-in-len3-3.ensures.value) in
    subst (λ (l : List (List ℕ)). (e : Command) → (c.sampled_by.result ≡ Some e) ↔ Spell l e) (sym spelled) c.sampled_by.ensures
