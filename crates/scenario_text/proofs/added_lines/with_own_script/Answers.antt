use Rattle.std.proofs.Common.{sym, ap, ◌∙◌, subst}
use Rattle.scenario_text.specs.Canonical.{canonical}
use Rattle.scenario_text.specs.Network.{Parts}
use Rattle.scenario_text.specs.ScenarioGrammar.{IsScenario}
use Rattle.scenario_text.proofs.LinesAdded.{same_parts}
use Rattle.scenario_text.proofs.added_lines.with_own_script.Goals as goal

pub of_network-requires : goal.of_network-requires
of_network-requires c =
    let s = c.args.s.now in
    let n = c.in_ok-network.network in
    let of_network = c.in_ok-network.ensures in
    let same =
    same_parts s c.profile.result c.frames.result n.sends n.nodes n.rates c.in_ok-hosts.hosts.items n.trace c.args.script.items c.profile.ensures.value
    c.frames.ensures.value (ap (λ (p : Parts). p.sends) of_network) (ap (λ (p : Parts). p.nodes) of_network) (ap (λ (p : Parts). p.rates) of_network)
    (c.in_ok-hosts.ensures.items ∙ c.hosts.ensures.value) (ap (λ (p : Parts). p.trace) of_network) in
    subst IsScenario (sym same) (canonical (record s { script = c.args.script.items }), c.requires)
