-- The links and lose lines of a made scenario: they are of nodes that differ, they ascend, and there are few.
use Rattle.std.proofs.Common.{◌≡◌, ℕ, ◌+◌, ◌≤◌, List, [], ◌∷◌, true, false, ◌||◌, ◌==◌, length, sym, arith}
use Rattle.std.proofs.lemmas.Bool.{cond_both, or_parts, eqb-false}
use Rattle.std.specs.List.{AllByRecursion, fold, list_any}
use Rattle.std.specs.declared.cmp.Ordering.TheVariants.{Less}
use Rattle.link_trace.specs.Order.{by_link, by_loss, with_line}
use Rattle.link_trace.specs.Passes.{is_link, is_loss}
use Rattle.link_trace.specs.declared.lines.LinkLine.{LinkLine}
use Rattle.link_trace.specs.declared.lines.LoseLine.{LoseLine}
use Rattle.link_trace.proofs.Orders.{by_link_total, by_loss_total, tells_link, tells_loss}
use Rattle.scenario_text.specs.FloodDrafts.{Climbs}
use Rattle.scenario_text.specs.FloodParts.{knows}
use Rattle.scenario_text.specs.ScenarioFacts.{AreEnds, IsStepOf}
use Rattle.scenario_text.specs.ScenarioParts.{ScenarioParts}
use Rattle.scenario_text.specs.declared.lines.NodeLine.{NodeLine}
use Rattle.scenario_text.proofs.DraftFacts.{with_line_all, with_line_climbs, with_line_length}
use Rattle.scenario_maker.specs.Made.{with_new_link, with_pair, with_pairs, with_new_loss}

pub record AreKnown (ns : List NodeLine) (p : ℕ × ℕ) : Type 0 where
  pub first : knows ns p.0 ≡ true
  pub second : knows ns p.1 ≡ true

pub record AreLinks (ns : List NodeLine) (ls : List LinkLine) : Type 0 where
  pub ends : AllByRecursion (λ (l : LinkLine). AreEnds ns l.from l.to) ls
  pub climb : Climbs (λ a b. by_link a b ≡ Less) ls

module _ (ns : List NodeLine) where
  added : (u v : ℕ) (ls : List LinkLine) → AreEnds ns u v → list_any (is_link u v) ls ≡ false → AreLinks ns ls
      → AreLinks ns (with_line by_link (record { from = u; to = v }) ls)
  added u v ls ends fresh are = record {
    ends = with_line_all (λ (l : LinkLine). AreEnds ns l.from l.to) by_link (record { from = u; to = v }) ls ends are.ends;
    climb = with_line_climbs by_link (is_link u v) (record { from = u; to = v }) ls by_link_total (tells_link u v) fresh are.climb;
  }

  link_kept : (u v : ℕ) (ls : List LinkLine) → AreEnds ns u v → AreLinks ns ls → AreLinks ns (with_new_link u v ls)
  link_kept u v ls ends are =
      cond_both (list_any (is_link u v) ls) ls (with_line by_link (record { from = u; to = v }) ls) (AreLinks ns) (λ there. are)
      (λ fresh. added u v ls ends fresh are)

  pair_kept : (p : ℕ × ℕ) (ls : List LinkLine) → AreKnown ns p → AreLinks ns ls → AreLinks ns (with_pair ls p)
  pair_kept p ls known are =
      cond_both ((p.0 == p.1) || list_any (is_link p.0 p.1) ls) ls (with_new_link p.1 p.0 (with_line by_link (record { from = p.0; to = p.1 }) ls))
      (AreLinks ns)
      (λ skipped. are)
      (λ goes.
      let parts = or_parts (p.0 == p.1) (list_any (is_link p.0 p.1) ls) goes in
      let forth : AreEnds ns p.0 p.1 = record { from_known = known.first; to_known = known.second; differ = eqb-false p.0 p.1 parts.0 } in
      let back : AreEnds ns p.1 p.0 = record { from_known = known.second; to_known = known.first; differ = λ same. eqb-false p.0 p.1 parts.0 (sym same) } in
      link_kept p.1 p.0 (with_line by_link (record { from = p.0; to = p.1 }) ls) back (added p.0 p.1 ls forth parts.1 are))

  pub pairs_kept : (ps : List (ℕ × ℕ)) (ls : List LinkLine) → AllByRecursion (AreKnown ns) ps → AreLinks ns ls → AreLinks ns (with_pairs ls ps)
  pairs_kept [] ls known are = are
  pairs_kept (p ∷ ps) ls known are = pairs_kept ps (with_pair ls p) known.1 (pair_kept p ls known.0 are)

pub record IsDrawn (s : ScenarioParts) (l : LoseLine) : Type 0 where
  pub step : IsStepOf s l.frame l.slot l.step
  pub ends : AreKnown s.nodes (l.from, l.to)

pub record AreLosses (s : ScenarioParts) (ls : List LoseLine) : Type 0 where
  pub each : AllByRecursion (λ (l : LoseLine). IsStepOf s l.frame l.slot l.step × AreEnds s.nodes l.from l.to) ls
  pub climb : Climbs (λ a b. by_loss a b ≡ Less) ls

loss_kept : (s : ScenarioParts) (l : LoseLine) (ls : List LoseLine) → IsDrawn s l → AreLosses s ls → AreLosses s (with_new_loss ls l)
loss_kept s l ls drawn are =
    cond_both ((l.from == l.to) || list_any (is_loss l.frame l.slot l.step l.from l.to) ls) ls (with_line by_loss l ls) (AreLosses s)
    (λ skipped. are)
    (λ goes.
    let parts = or_parts (l.from == l.to) (list_any (is_loss l.frame l.slot l.step l.from l.to) ls) goes in
    record {
      each = with_line_all (λ (x : LoseLine). IsStepOf s x.frame x.slot x.step × AreEnds s.nodes x.from x.to) by_loss l ls
          (drawn.step, record { from_known = drawn.ends.first; to_known = drawn.ends.second; differ = eqb-false l.from l.to parts.0 }) are.each;
      climb = with_line_climbs by_loss (is_loss l.frame l.slot l.step l.from l.to) l ls by_loss_total
          (tells_loss l.frame l.slot l.step l.from l.to) parts.1 are.climb;
    })

pub losses_kept : (s : ScenarioParts) (ps ls : List LoseLine) → AllByRecursion (IsDrawn s) ps → AreLosses s ls → AreLosses s (fold with_new_loss ls ps)
losses_kept s [] ls drawn are = are
losses_kept s (p ∷ ps) ls drawn are = losses_kept s ps (with_new_loss ls p) drawn.1 (loss_kept s p ls drawn.0 are)

one_more : (l : LoseLine) (ls : List LoseLine) → length (with_new_loss ls l) ≤ length ls + 1
one_more l ls =
    cond_both ((l.from == l.to) || list_any (is_loss l.frame l.slot l.step l.from l.to) ls) ls (with_line by_loss l ls)
    (λ (xs : List LoseLine). length xs ≤ length ls + 1)
    (λ skipped. omega arith) (λ goes. omega (arith, with_line_length by_loss l ls))

pub few_losses : (ps ls : List LoseLine) → length (fold with_new_loss ls ps) ≤ length ls + length ps
few_losses [] ls = omega arith
few_losses (p ∷ ps) ls = omega (arith, one_more p ls, few_losses ps (with_new_loss ls p))
