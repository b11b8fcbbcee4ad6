use Rattle.std.proofs.Common.{◌≡◌, ◌∷◌, [], decimal, refl}
use Rattle.plan_commands.proofs.PlanWords.{seeded_asked, two_same}
use Rattle.plan_commands.proofs.command.seeded_by.Goals as goal

pub returns : goal.returns
returns c =
    let seed = (c.in_ok-seed.ensures c.in_ok-seed.seed).0 refl in
    let word = c.args.word.now in
    let spells : word ∷ c.args.seed.now ∷ [] ≡ word ∷ decimal c.in_ok-seed.seed ∷ [] = two_same refl seed.0 in
    seeded_asked (word ∷ c.args.seed.now ∷ []) word c.in_ok-seed.seed c.seeded.result spells seed.1 c.seeded.ensures
