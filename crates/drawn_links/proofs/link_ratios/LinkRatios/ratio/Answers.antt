use Rattle.std.proofs.Common.{rules, ◌≡◌, ℕ, ◌-◌, Some, List, get_or, ◌∙◌, sym, ap, subst, arith}
use Rattle.std.proofs.lemmas.List.Sorted.{IsPartitionPoint-from_clause}
use Rattle.drawn_links.specs.RatioTables.{AreRising, ratio_by}
use Rattle.drawn_links.specs.declared.ratio_step.RatioStep.{RatioStep}
use Rattle.drawn_links.proofs.StepsInForce.{has_begun, parted, none_in_force, last_in_force}
use Rattle.drawn_links.proofs.link_ratios.LinkRatios.ratio.Goals as goal

pub returns-then-begun-eq0 : goal.returns-then-begun-eq0
returns-then-begun-eq0 c =
    let ys = c.deref.result.now in
    let is = c.deref.ensures.value in
    let rising : AreRising ys = subst AreRising (sym is) c.self.invariant in
    let point = IsPartitionPoint-from_clause (has_begun c.args.frame) ys c.partition_point-begun.result c.partition_point-begun.ensures.partitioned
    (parted ys rising c.args.frame) (λ a r f' k. search rules) in
    let none : c.partition_point-begun.result ≡ 0 = c.if-begun-eq0.true in
    none_in_force ys c.args.frame (λ k d low high. point.1 k d (omega arith) high)
    ∙ ap (λ (l : List RatioStep). ratio_by l c.args.frame) (is ∙ c.self.view_is)

pub returns : goal.returns
returns c =
    let ys = c.deref.result.now in
    let is = c.deref.ensures.value in
    let n = c.partition_point-begun.result in
    let d = c.index.result.now in
    let k : ℕ = n - 1 in
    let rising : AreRising ys = subst AreRising (sym is) c.self.invariant in
    let point = IsPartitionPoint-from_clause (has_begun c.args.frame) ys n c.partition_point-begun.ensures.partitioned
    (parted ys rising c.args.frame) (λ a r f' k. search rules) in
    let some = c.if-begun-eq0.false in
    let inside = c.partition_point-begun.ensures.bound in
    ap (λ (s : RatioStep). Some s.ratio) (c.index.ensures ∙ ap (λ (l : List RatioStep). get_or l k d) (sym is))
    ∙ last_in_force ys c.args.frame k d (omega arith) (point.0 k d (omega arith) (omega arith)) (λ j e low high. point.1 j e (omega arith) high)
    ∙ ap (λ (l : List RatioStep). ratio_by l c.args.frame) (is ∙ c.self.view_is)
