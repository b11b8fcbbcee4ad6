use Rattle.std.proofs.Common.{◌≡◌, ℕ, List, Option, Vec, Global, sym, ◌∙◌, ap}
use Rattle.std.specs.List.{find}
use Rattle.std.specs.Option.{option_map, option_or}
use Rattle.std.proofs.lemmas.Result.{IfOk-weaker}
use Rattle.scenario_text.specs.ScenarioParts.{ScenarioParts}
use Rattle.bus_rules.specs.declared.part.Part.{Part}
use Rattle.bus_rules.specs.States.{State}
use Rattle.bus_terms.specs.Rounds.{round_plan}
use Rattle.plain_bus.specs.BusNodes.{nodes_in}
use Rattle.plain_bus.specs.Leaders.{holds, parts_at, slot_parts}
use Rattle.plain_bus.proofs.RoundsLed.{led}
use Rattle.plain_bus.proofs.leading.parts_of_round.Goals as goal

abbrev items_of : Option (Vec Part Global) → Option (List Part)
items_of o = option_map {T = Vec Part Global} {U = List Part} (λ x. x.items) o

pub returns-in-Some-clause-parts : goal.returns-in-Some-clause-parts
returns-in-Some-clause-parts c s start others are =
    let held : Option (List Part) = option_map parts_at (find (holds c.args.rank c.args.frame) c.args.nodes.now) in
    ap (λ (h : Option (List Part)). option_or h held) (ap items_of (sym c.in-Some.is) ∙ c.in_ok-parts.ensures.parts)
    ∙ led s c.args.rank c.args.frame start others c.args.nodes.now are

pub returns-in-None-clause-parts : goal.returns-in-None-clause-parts
returns-in-None-clause-parts c =
    let held : Option (List Part) = option_map parts_at (find (holds c.args.rank c.args.frame) c.args.nodes.now) in
    IfOk-weaker c.parts_of_holder.result (λ o. items_of o ≡ held)
    (λ o. (s : ScenarioParts) (start others : ℕ → State) → c.args.nodes.now ≡ nodes_in s c.args.rank start start others
    → items_of o ≡ option_map slot_parts (round_plan s c.args.rank c.args.frame start))
    (λ o is s start others are. is ∙ ap (λ (h : Option (List Part)). option_or h held) (ap items_of (sym c.in-None.is) ∙ c.in_ok-parts.ensures.parts)
    ∙ led s c.args.rank c.args.frame start others c.args.nodes.now are)
    c.parts_of_holder.ensures.parts
