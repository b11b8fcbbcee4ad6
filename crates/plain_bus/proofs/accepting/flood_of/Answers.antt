use Rattle.std.proofs.Common.{◌==◌, ℕ, List, true, Some, subst, ap, ◌∙◌}
use Rattle.link_trace.specs.Masks.{IsMask}
use Rattle.scenario_text.specs.declared.lines.NodeLine.{NodeLine}
use Rattle.bus_terms.specs.FloodOfText.{ids}
use Rattle.plain_bus.specs.declared.station.Flood.{Flood}
use Rattle.plain_bus.proofs.TextFloods.{flood_of_text}
use Rattle.plain_bus.proofs.accepting.flood_of.Goals as goal

pub returns : goal.returns
returns c t lines sealed =
    let f = c.args.f.now in
    let made : ℕ → ℕ → Flood =
    λ n v. record { frame = 5; slot = 1; limit = n; initiators = c.mask_of.result; everyone = c.mask_of_all.result; lone = Some v } in
    let start : IsMask (λ v. v == f.start) (ids f.nodes) c.mask_of.result =
    subst (λ (u : ℕ). IsMask (λ v. v == u) (ids f.nodes) c.mask_of.result) c.start-start.ensures.value
    (subst (λ (ns : List NodeLine). IsMask (λ v. v == c.start-start.result) (ids ns) c.mask_of.result) c.nodes.ensures.value c.mask_of.ensures) in
    let all : IsMask (λ v. true) (ids f.nodes) c.mask_of_all.result =
    subst (λ (ns : List NodeLine). IsMask (λ v. true) (ids ns) c.mask_of_all.result) c.nodes-2.ensures.value c.mask_of_all.ensures in
    flood_of_text f c.start-start.ensures.sound.start_known t (made c.sends.result c.start-start.result) lines sealed
    (ap (λ (n : ℕ). made n c.start-start.result) c.sends.ensures.value ∙ ap (λ (v : ℕ). made f.sends v) c.start-start.ensures.value) start all
