use Rattle.std.proofs.Common.{◌≡◌, ◌∷◌, [], decimal, refl}
use Rattle.plan_commands.proofs.PlanWords.{sampled_asked, three_same}
use Rattle.plan_commands.proofs.command.sampled_by.Goals as goal

pub sampled-requires : goal.sampled-requires
sampled-requires c = record {
  few = ((c.in_ok-from.ensures c.in_ok-from.from).0 refl).1;
  fewer = ((c.in_ok-count.ensures c.in_ok-count.count).0 refl).1;
}

pub returns : goal.returns
returns c =
    let from = (c.in_ok-from.ensures c.in_ok-from.from).0 refl in
    let count = (c.in_ok-count.ensures c.in_ok-count.count).0 refl in
    let word = c.args.word.now in
    let spells : word ∷ c.args.from.now ∷ c.args.count.now ∷ [] ≡ word ∷ decimal c.in_ok-from.from ∷ decimal c.in_ok-count.count ∷ [] =
    three_same refl from.0 count.0 in
    sampled_asked (word ∷ c.args.from.now ∷ c.args.count.now ∷ []) word c.in_ok-from.from c.in_ok-count.count c.sampled.result spells from.1 count.1
    c.sampled.ensures
