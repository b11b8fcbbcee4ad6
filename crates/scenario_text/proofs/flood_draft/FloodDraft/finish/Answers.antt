use Rattle.std.proofs.Common.{◌≡◌, ◌≤◌, ℕ, ◌∙◌, Some, None, true, nat_le, length, sym, ap, subst}
use Rattle.std.proofs.lemmas.Bool.{cond-true, le-leb}
use Rattle.scenario_text.specs.FloodParts.{knows}
use Rattle.scenario_text.specs.FloodGrammar.{Flood}
use Rattle.scenario_text.specs.Network.{DraftedNetwork, Parts, network_parts, rates_by_node}
use Rattle.scenario_text.proofs.FloodKeeps.{parts_sound, at_start}
use Rattle.scenario_text.proofs.flood_draft.FloodDraft.finish.Goals as goal

abbrev parts_at : DraftedNetwork → ℕ → Parts
parts_at d n = record { sends = n; nodes = d.nodes; rates = rates_by_node d.nodes d.rates; trace = d.trace }

whole : (d : DraftedNetwork) (n : ℕ) (p : Parts) → d.sends ≡ Some n → 2 ≤ length d.nodes → p ≡ parts_at d n → Some p ≡ network_parts d d.sends
whole d n p said two is =
    rw said (ap Some is ∙ sym (cond-true (nat_le 2 (length d.nodes)) (Some (parts_at d n)) None (le-leb 2 (length d.nodes) two)))

pub of_network-requires : goal.of_network-requires
of_network-requires c =
    let d = c.args.self.network in
    let n = c.in_ok-network.network in
    let told = c.in-Some.ensures.some in
    let known : knows d.nodes c.in-Some-start.start ≡ true = at_start (λ i. knows d.nodes i ≡ true) c.args.self.start c.in-Some-start.start
    (sym (ap (λ (f : Flood). f.start) c.self.view_is) ∙ c.in-Some-start.is) c.requires.start_known in
    let parts : Some n ≡ network_parts d d.sends = subst (λ (e : DraftedNetwork). Some n ≡ network_parts e e.sends)
    (ap (λ (f : Flood). f.network) c.self.view_is) (whole c.self.inside.network c.in-Some.sends n told.0 told.1 c.in_ok-network.ensures) in
    parts_sound d d.sends n c.in-Some-start.start c.requires.network c.requires.network.sends known parts
