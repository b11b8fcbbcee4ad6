-- What the end of a frame makes of a node, by its tune.
use Rattle.std.proofs.Common.{◌≡◌, ℕ, ◌+◌, ◌%◌, ◌<◌, ◌≤◌, true, ◌&&◌, ◌==◌, nat_lt, if◌then◌else◌, Some, None, Option, refl, fold, sym, ◌∙◌, ap, subst, arith}
use Rattle.std.proofs.Common.{mod-lt, eqb-true, true≢false}
use Rattle.std.proofs.lemmas.Bool.{cond_both, and_parts, ltb-true}
use Rattle.bus_rules.specs.declared.tune.Tune.{Tune}
use Rattle.bus_rules.specs.declared.tune.Tune.TheVariants.{Scan, Hold, Host}
use Rattle.bus_rules.specs.Tuning.{rank_of, is_rank, next_tune, hosts}
use Rattle.bus_rules.specs.Cores.{Core, Setup, is_fresh, as_host, begins_host, empty_plan}
use Rattle.bus_rules.specs.Plans.{last_slot}
use Rattle.bus_rules.proofs.Ranks.{rank_is}
use Rattle.lwb_base.specs.Profile.{Numbers}
use Rattle.time_reference.specs.Budgets.{budget_of}
use Rattle.scenario_text.specs.ScenarioParts.{ScenarioParts}
use Rattle.scenario_text.specs.ScenarioFacts.{IsSoundScenario}
use Rattle.air_log.specs.Devices.{OrderedPacket}
use Rattle.law_trails.specs.Obeying.{ordered_by}
use Rattle.law_trails.proofs.ProfilePackets.{covers}
use Rattle.node_core.specs.Nodes.{Node, stopped_frame}
use Rattle.node_core.specs.Rows.{Stepped, frame_alarms, stage_for, orders_for, zero_for}
use Rattle.law_trails.specs.Lives.{plan_after}

module _ (s : Setup) (n : Node) where
  -- after the tune T the tune U
  abbrev pub after_tunes : Tune → Tune → Stepped
  after_tunes T U =
      let core = as_host s.profile (begins_host T U) (record (n.core) { tune = U; own_slot = None }) in
      let f = stopped_frame (n.frame + 1) in
      let z = zero_for s.profile core.tune (begins_host T core.tune) n.zero in
      record {
        node = record { core = core; frame = f; zero = z; stage = stage_for core.tune f };
        orders = orders_for s.profile core.tune f z;
        delivery = None;
      }

  -- it scans; it holds or hosts on; or it becomes the host of its own rank
  module _ (P : Stepped → Type 0) (ranks : 1 ≤ s.ranks) (below : rank_of n.core.tune < s.ranks)
      (scans : (r w : ℕ) → r < s.ranks → P (after_tunes (Scan r w) (Scan r w)))
      (holds : (r due : ℕ) → n.core.tune ≡ Hold r due → n.frame < due → P (after_tunes (Hold r due) (Hold r due)))
      (hosts_on : (r due : ℕ) → n.core.tune ≡ Host r due → P (after_tunes (Host r due) (Host r due)))
      (becomes : (r w : ℕ) → n.core.tune ≡ Scan r w → s.own ≡ Some r → w + 1 ≡ 5 → P (after_tunes (Scan r w) (Host r (n.frame + 1)))) where
    by_tune : (T : Tune) → n.core.tune ≡ T → P (after_tunes T (next_tune T n.frame (is_fresh n.core) s.own s.ranks))
    by_tune (Host r due) is = hosts_on r due is
    by_tune (Hold r due) is =
        cond_both (nat_lt n.frame due) (Hold r due) (Scan r 0) (λ (U : Tune). P (after_tunes (Hold r due) U))
        (λ less. holds r due is (ltb-true n.frame due less))
        (λ past. scans r 0 (subst (λ (T : Tune). rank_of T < s.ranks) is below))
    by_tune (Scan r w) is =
        let here : r < s.ranks = subst (λ (T : Tune). rank_of T < s.ranks) is below in
        let on : Tune = if w + 1 == 12 then Scan ((r + 1) % s.ranks) 0 else Scan r (w + 1) in
        let host : Tune = if is_rank s.own r && (w + 1 == 5) then Host r (n.frame + 1) else on in
        cond_both (is_fresh n.core) (Scan r 0) host (λ (U : Tune). P (after_tunes (Scan r w) U))
        (λ joined. scans r 0 here)
        (λ alone. cond_both (is_rank s.own r && (w + 1 == 5)) (Host r (n.frame + 1)) on (λ (U : Tune). P (after_tunes (Scan r w) U))
        (λ both. (let parts = and_parts (is_rank s.own r) (w + 1 == 5) both in becomes r w is (rank_is s.own r parts.0) (eqb-true (w + 1) 5 parts.1)))
        (λ not_yet. cond_both (w + 1 == 12) (Scan ((r + 1) % s.ranks) 0) (Scan r (w + 1)) (λ (U : Tune). P (after_tunes (Scan r w) U))
        (λ next. scans ((r + 1) % s.ranks) 0 (mod-lt (r + 1) (omega (arith, ranks))))
        (λ same. scans r (w + 1) here)))

    pub by_next_tune : P (frame_alarms s n)
    by_next_tune = by_tune n.core.tune refl

  host_tune : (o : Option ℕ) (c : Core) → (as_host s.profile o c).tune ≡ c.tune
  host_tune None c = refl
  host_tune (Some r) c = refl

  pub tune_next : (frame_alarms s n).node.core.tune ≡ next_tune n.core.tune n.frame (is_fresh n.core) s.own s.ranks
  tune_next =
      let U = next_tune n.core.tune n.frame (is_fresh n.core) s.own s.ranks in
      host_tune (begins_host n.core.tune U) (record (n.core) { tune = U; own_slot = None })

  -- the plan of a host goes on; a new host has none but its rank
  abbrev PlanGoesOn : ℕ → Stepped → Type 0
  PlanGoesOn rank r = hosts r.node.core.tune ≡ true →
      plan_after n.core.tune r.node.core.tune n.core.plan (empty_plan s.profile rank n.core.boot) ≡ r.node.core.plan

  none_some : (a b : ℕ) → Some a ≡ Some b → a ≡ b
  none_some a b is = cc

  pub plan_next : (rank : ℕ) → s.own ≡ Some rank → 1 ≤ s.ranks → rank_of n.core.tune < s.ranks → PlanGoesOn rank (frame_alarms s n)
  plan_next rank own ranks below =
      by_next_tune (PlanGoesOn rank) ranks below
      (λ r w less hosting. absurd (true≢false (sym hosting)))
      (λ r due is less hosting. absurd (true≢false (sym hosting)))
      (λ r due is hosting. ap (λ (T : Tune). plan_after T (Host r due) n.core.plan (empty_plan s.profile rank n.core.boot)) is)
      (λ r w is own_r five hosting.
      ap (λ (T : Tune). plan_after T (Host r (n.frame + 1)) n.core.plan (empty_plan s.profile rank n.core.boot)) is
      ∙ ap (λ (k : ℕ). empty_plan s.profile k n.core.boot) (none_some rank r (sym own ∙ own_r)))

-- a plan without owners fits every round
pub empty_short : (s : ScenarioParts) → IsSoundScenario s → (r boot : ℕ) → last_slot (empty_plan s.profile r boot) ≤ (budget_of s.profile).last
empty_short s sound r boot =
    let room = covers s.profile sound.profile in
    let few = room.few in
    let named = room.named in
    cond_both (s.profile.contend == 0) 1 s.profile.contend (λ (k : ℕ). 0 + k + 1 ≤ (budget_of s.profile).last)
    (λ none. omega (arith, few))
    (λ some. omega (arith, few, named))

-- the end of a frame orders no transmission
pub orders_no_sending : (p : Numbers) (U : Tune) (f z : ℕ) (reads : ℕ → ℕ) (t : ℕ) (o : Option OrderedPacket)
    → fold (ordered_by reads t) o (orders_for p U f z) ≡ o
orders_no_sending p (Scan r w) f z reads t o = refl
orders_no_sending p (Hold r due) f z reads t o = refl
orders_no_sending p (Host r due) f z reads t o = refl
