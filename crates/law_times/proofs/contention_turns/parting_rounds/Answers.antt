use Rattle.std.proofs.Common.{◌≡◌, ◌-◌, ℕ, sym, subst}
use Rattle.law_times.proofs.Words.{PartOnTheBus, PartWithin, parting_bound}
use Rattle.law_times.proofs.ContendersPart.{part_on_bus}
use Rattle.law_times.proofs.ContentionTurnsOfTwo.{part_within}
use Rattle.law_times.proofs.WorkedTurns.{not_within_less}
use Rattle.law_times.proofs.contention_turns.parting_rounds.Goals as goal

pub returns-clause-enough : goal.returns-clause-enough
returns-clause-enough c =
    let is : c.most_rounds.result ≡ parting_bound c.args.slots = c.most_rounds.ensures in
    subst (λ (n : ℕ). PartWithin c.args.slots n) (sym is) (part_within c.args.slots c.requires.0 c.requires.1)

pub returns-clause-least : goal.returns-clause-least
returns-clause-least c =
    let is : c.most_rounds.result ≡ parting_bound c.args.slots = c.most_rounds.ensures in
    subst (λ (n : ℕ). PartWithin c.args.slots (n - 1) → ⊥) (sym is) (not_within_less c.args.slots c.requires.0 c.requires.1)

pub returns-clause-bus : goal.returns-clause-bus
returns-clause-bus c =
    let is : c.most_rounds.result ≡ parting_bound c.args.slots = c.most_rounds.ensures in
    subst (λ (n : ℕ). PartOnTheBus c.args.slots n) (sym is)
    (part_on_bus c.args.slots (parting_bound c.args.slots) (part_within c.args.slots c.requires.0 c.requires.1))
