use Rattle.std.proofs.Common.{◌≡◌, ◌<◌, ◌^◌, ◌++◌, List, ℕ, append_assoc, flat_map, length, refl, sym, ◌∙◌, ap, string_bytes, subst}
use Rattle.scenario_text.specs.ScenarioParts.{ScenarioParts}
use Rattle.bus_terms.specs.Fates.{bus_fates, hosted_counts, stream_counts}
use Rattle.scenario_text.specs.OverLines.{over}
use Rattle.bus_terms.specs.declared.packets.HostedCount.{HostedCount}
use Rattle.bus_terms.specs.declared.packets.PutFate.{PutFate}
use Rattle.bus_terms.specs.declared.packets.StreamCounts.{StreamCounts}
use Rattle.fate_report.specs.SampleLines.{counts_line, hosted_line}
use Rattle.plan_commands.proofs.FewDeliveries.{few_fates}
use Rattle.plan_commands.proofs.seed_text.write_streams.Goals as goal

pub stream_counts-requires : goal.stream_counts-requires
stream_counts-requires c =
    let s : ScenarioParts = c.args.scenario.now in
    let d : ScenarioParts = over s c.requires.run.0 in
    let became : c.in_ok-became.became.items ≡ bus_fates d = c.in_ok-became.ensures d c.requires.run.1 refl refl in
    record { few = subst (λ (l : List PutFate). length l < 2 ^ 32) (sym (c.deref.ensures.value ∙ became)) (few_fates d (s.trace, c.nodes.ensures.said)) }

pub hosted_counts-requires : goal.hosted_counts-requires
hosted_counts-requires c =
    let s : ScenarioParts = c.args.scenario.now in
    let d : ScenarioParts = over s c.requires.run.0 in
    let became : c.in_ok-became.became.items ≡ bus_fates d = c.in_ok-became.ensures d c.requires.run.1 refl refl in
    record { few = subst (λ (l : List PutFate). length l < 2 ^ 32) (sym (c.deref-2.ensures.value ∙ became)) (few_fates d (s.trace, c.nodes.ensures.said)) }

pub returns : goal.returns
returns c =
    λ t run.
    let d : ScenarioParts = over c.args.scenario.now t in
    let old : List ℕ = string_bytes c.args.text.now in
    let puts : List ℕ = flat_map counts_line (stream_counts d) in
    let rounds : List ℕ = flat_map hosted_line (hosted_counts d) in
    let became : c.in_ok-became.became.items ≡ bus_fates d = c.in_ok-became.ensures d run refl refl in
    let counts : c.in_ok-counts.counts.items ≡ stream_counts d = c.in_ok-counts.ensures d c.nodes.ensures.value (c.deref.ensures.value ∙ became) in
    let hosted : c.in_ok-hosted.hosted.items ≡ hosted_counts d =
    c.in_ok-hosted.ensures d c.nodes-2.ensures.value c.hosts.ensures.value (c.deref-2.ensures.value ∙ became) (c.deref-3.ensures.value ∙ counts) in
    let first : string_bytes c.write_counts.new.text ≡ old ++ puts =
    c.in_ok-write_counts.ensures ∙ ap (λ (l : List StreamCounts). old ++ flat_map counts_line l) (c.deref-4.ensures.value ∙ counts) in
    let second : string_bytes c.write_hosted.new.text ≡ string_bytes c.write_counts.new.text ++ rounds =
    c.in_ok-write_hosted.ensures
    ∙ ap (λ (l : List HostedCount). string_bytes c.write_counts.new.text ++ flat_map hosted_line l) (c.deref-5.ensures.value ∙ hosted) in
    second ∙ ap (λ (l : List ℕ). l ++ rounds) first ∙ append_assoc old puts rounds
