use Rattle.std.proofs.Common.{◌≡◌, ◌++◌, ◌∷◌, [], ℕ, map, sym, ◌∙◌, ap, subst, arith, rules}
use Rattle.std.specs.Prelude.{Contains}
use Rattle.std.proofs.lemmas.List.{take_all}
use Rattle.std.proofs.lemmas.List.Elements.{Contains-get_or}
use Rattle.lwb_base.proofs.Elements.{map_pushed}
use Rattle.scenario_text.specs.declared.lines.NodeLine.{NodeLine}
use Rattle.host_return.proofs.IdleCounted.{count_for, counts_are, few_idle}
use Rattle.host_return.proofs.probes.counts_of.Goals as goal

pub overflow_cast-count_of : goal.overflow_cast-count_of
overflow_cast-count_of c =
    let s = c.args.s.now in
    let nodes = c.nodes-nodes.result.now in
    let n : NodeLine = c.line-item.result in
    let there : Contains nodes n = subst (Contains nodes) (sym c.line-item.is) (Contains-get_or nodes c.loop-line.line-index n c.loop-line-test.true) in
    let few = few_idle s c.requires.0 c.nodes-nodes.ensures.said c.args.idle.now c.requires.1 n
    (subst (λ l. Contains l n) c.nodes-nodes.ensures.value there) in
    omega (arith, few, c.count_of.ensures)

pub loop-line-preserved : goal.loop-line-preserved
loop-line-preserved c =
    let n : NodeLine = c.line-item.result in
    let one : ◌≡◌ {A = ℕ × ℕ} (n.node, c.count_of.result) (count_for c.args.idle.now n) = ap (λ (k : ℕ). let p : ℕ × ℕ = (n.node, k) in p) c.count_of.ensures in
    let raw : c.push.new.self.items ≡ c.loop-line.counts.items ++ (n.node, c.count_of.result) ∷ [] = search rules in
    raw
    ∙ map_pushed (count_for c.args.idle.now) c.nodes-nodes.result.now c.loop-line.line-index n c.loop-line.counts.items (n.node, c.count_of.result)
    c.loop-line-test.true c.line-item.is c.loop-line.invariant one

pub returns : goal.returns
returns c =
    λ air is.
    let past = c.loop-line-test.false in
    c.loop-line.invariant
    ∙ ap (map (count_for c.args.idle.now)) (take_all c.loop-line.line-index c.nodes-nodes.result.now (omega (arith, past)) ∙ c.nodes-nodes.ensures.value)
    ∙ counts_are c.args.s.now air c.nodes-nodes.ensures.said c.args.idle.now is
