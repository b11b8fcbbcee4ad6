-- What is known of the ids of a log before its first astray node.
use Rattle.std.proofs.Common.{◌≡◌, ℕ, ◌<◌, ◌≤◌, List, false, ◌==◌, All, length, get_or, inl, inr, sym, ap, ◌∙◌, subst, arith}
use Rattle.std.proofs.lemmas.Bool.{cases_Bool, cases_lt, eqb-true}
use Rattle.std.proofs.lemmas.List.{get_or_past}
use Rattle.std.proofs.lemmas.List.Elements.{All-contains}
use Rattle.lwb_base.proofs.Elements.{some_of}
use Rattle.scenario_text.specs.FloodParts.{knows}
use Rattle.scenario_text.specs.ScenarioFacts.{IsSoundScenario}
use Rattle.scenario_text.specs.ScenarioParts.{ScenarioParts}
use Rattle.scenario_text.specs.declared.lines.NodeLine.{NodeLine}
use Rattle.air_log.specs.declared.entry.Entry.{Entry}
use Rattle.air_log.specs.Lawful.{FollowsTrails}
use Rattle.air_check.specs.NodeLogs.{NodeLogState, empty_node_log, log_by, AreLogsOf}
use Rattle.air_check.specs.Verdicts.{FollowsTrail}
use Rattle.air_check.proofs.OwnTrails.{nothing_follows}
use Rattle.scenario_clocks.specs.NodeRates.{IsId}

outside : (ns : List NodeLine) → All IsId ns → (v : ℕ) → ((1 ≤ v) × (v ≤ 200) → ⊥) → knows ns v ≡ false
outside ns ids v not = elim (cases_Bool (knows ns v)) [
  | inl there ↦ absurd (
      let w = some_of (λ (n : NodeLine). n.node == v) ns there in
      not (subst (λ (u : ℕ). (1 ≤ u) × (u ≤ 200)) (eqb-true w.0.node v w.2) (All-contains IsId ns w.0 ids w.1)))
  | inr none ↦ none
]

module _ (s : ScenarioParts) (clocks : ℕ → ℕ → ℕ) (air : List Entry) (sound : IsSoundScenario s) where
  -- an id that is none does nothing
  follows_outside : (v : ℕ) → ((1 ≤ v) × (v ≤ 200) → ⊥) → log_by air v ≡ empty_node_log → FollowsTrail s clocks air v
  follows_outside v not none =
      nothing_follows s clocks air v (outside s.nodes sound.ids v not) (ap (λ (n : NodeLogState). n.sent) none) (ap (λ (n : NodeLogState). n.tuned) none)

  pub follows_at_zero : (logs : List NodeLogState) → AreLogsOf air logs → (v : ℕ) → v < 1 → FollowsTrail s clocks air v
  follows_at_zero logs are v less =
      let zero_is : v ≡ 0 = omega (arith, less) in
      follows_outside v (λ in_range. omega (arith, in_range.0, less))
      (ap (log_by air) zero_is ∙ sym (are.each 0) ∙ are.none)

  pub all_follow : (logs : List NodeLogState) (id : ℕ) → 201 ≤ id → length logs ≡ 201
      → ((v : ℕ) → id ≤ v → get_or logs v empty_node_log ≡ log_by air v) → id ≤ 201 → ((v : ℕ) → v < id → FollowsTrail s clocks air v)
      → FollowsTrails s clocks air
  all_follow logs id over long left few followed = record { sent = λ v. (at v).sent; tuned = λ v. (at v).tuned }
    where
      at : (v : ℕ) → FollowsTrail s clocks air v
      at v = elim (cases_lt v id) [
        | inl before ↦ followed v before
        | inr after ↦ follows_outside v (λ in_range. omega (arith, in_range.1, after, over))
            (sym (left v after) ∙ get_or_past logs v empty_node_log (omega (arith, long, after, few, over)))
      ]
