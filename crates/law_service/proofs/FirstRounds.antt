-- The round after a closing: when it comes, and the slots of those who were taken.
use Rattle.std.proofs.Common.{◌≡◌, ◌≢◌, ◌<◌, ◌≤◌, ◌+◌, ◌-◌, ◌*◌, ◌/◌, ℕ, false, refl, sym, ◌∙◌, ap, subst, arith, Contains}
use Rattle.law_service.proofs.Words.{Numbers, Plan, code, code_of, ScenarioParts, over_sound, Host, Core, count_of, owed_to, plan_round, host_plan, answers_to}
use Rattle.law_service.proofs.Words.{last_slot, host_closes, StateOn, TableEntry, Table, is_full, new_entry, rank_of, state_at, before_slot, setup_of, table_at}
use Rattle.law_service.proofs.Words.{PlansRound, FitsNextRound, RoundsFollow, OwedSlotsAreGranted, NewStreamsAreGranted, IsHosted, slot_in, node_before}
use Rattle.law_service.proofs.Words.{state_after_round, Hosting, leads, has_planned}
use Rattle.law_service.proofs.GrantedSlots.{gap_range, round_gap, fitting_grants, table_has}
use Rattle.law_service.proofs.LoneRequests.{same_core, at_closing, asked}
use Rattle.law_service.proofs.SoleVoices.{is_another}

-- what a host plans is planned from that table
planned_gap : (n : Numbers) (host rank f : ℕ) (c : Core)
    → (host_plan n host c.boot rank f c.kept c.table c.streams).gap ≡ (plan_round n.seconds f (table_at f host c)).gap
unfolding host_plan
planned_gap n host rank f c = refl

planned_owners : (n : Numbers) (host rank f : ℕ) (c : Core)
    → (host_plan n host c.boot rank f c.kept c.table c.streams).plan.owners ≡ (plan_round n.seconds f (table_at f host c)).owners
unfolding host_plan
planned_owners n host rank f c = refl

same_due : (r d q e : ℕ) → Host r d ≡ Host q e → d ≡ e
same_due r d q e is = cc

module _ (s : ScenarioParts) (rank f : ℕ) (p : Plan) (host : ℕ) (hosted : IsHosted s rank f p host) (c : Core) (due : ℕ) (plan : Plan)
    (plans : PlansRound s rank f p host c due plan) where
  next_is : (lead : Hosting rank f p (before_slot s rank f p (state_at s f) (last_slot p) host)) → plans.next ≡ (host_closes (setup_of s host) f c).core
  next_is lead =
      let same : lead.core ≡ c = same_core lead.core c (before_slot s rank f p (state_at s f) (last_slot p) host) lead.on plans.on in
      let after = has_planned s rank f p host hosted lead ∙ ap (λ (d : Core). StateOn (host_closes (setup_of s host) f d).core) same in
      same_core plans.next (host_closes (setup_of s host) f c).core (state_after_round s rank f p host) plans.next_on after

  lead : Hosting rank f p (before_slot s rank f p (state_at s f) (last_slot p) host)
  lead = leads s rank f p host hosted (last_slot p) (omega arith)

  pub due_is : due ≡ f + (plan_round s.profile.seconds f (table_at f host c)).gap
  due_is =
      let tune : Host rank due ≡ (host_closes (setup_of s host) f c).core.tune = sym plans.tune ∙ ap (λ (d : Core). d.tune) (next_is lead) in
      same_due rank due (rank_of c.tune) _ tune ∙ ap (λ (g : ℕ). f + g) (planned_gap s.profile host (rank_of c.tune) f c)

  owners_are : plan.owners ≡ (plan_round s.profile.seconds f (table_at f host c)).owners
  owners_are =
      ap (λ (q : Plan). q.owners) (sym plans.planned ∙ ap (λ (d : Core). d.plan) (next_is lead)) ∙ planned_owners s.profile host (rank_of c.tune) f c

  pub comes : (f < due) × (due ≤ f + 4)
  comes =
      let gap = round_gap s.profile.seconds f (table_at f host c) in
      let range = gap_range s.profile.seconds f (table_at f host c).entries in
      let is = due_is in
      (omega (arith, gap, range, is), omega (arith, gap, range, is))

  pub grants : FitsNextRound s f host c due → (e : TableEntry) → Contains (table_at f host c).entries e
      → owed_to s.profile.seconds due e ≤ count_of e.code plan.owners
  grants fits e there =
      subst (λ (owners : _). owed_to s.profile.seconds due e ≤ count_of e.code owners) (sym owners_are)
      (fitting_grants s.profile.seconds f due (table_at f host c) due_is fits e there)

pub follow : RoundsFollow
follow s accepted rank f p host hosted c due plan plans = comes s rank f p host hosted c due plan plans

pub granted : OwedSlotsAreGranted
granted s accepted rank f p host hosted c due plan plans fits e there = grants s rank f p host hosted c due plan plans fits e there

-- a new stream has been granted none
less_none : (q n : ℕ) → q - 0 ≤ n → q ≤ n
less_none q n is = omega (arith, is)

pub new_granted : NewStreamsAreGranted
new_granted s accepted rank f p host j u a b reaches room wants c due plan plans fits =
    let scenario = over_sound s accepted in
    let t = at_closing s scenario rank f p host j u a b reaches in
    let same : t.core ≡ c = same_core t.core c (node_before s rank f p (last_slot p) host) t.on plans.on in
    let kept = ap (λ (d : Core). d.kept) (sym same) ∙ t.kept in
    let table : c.table ≡ b.table = ap (λ (d : Core). d.table) (sym same) ∙ t.table in
    let free : is_full a (answers_to f b.kept c.table).table ≡ false = ap (λ (x : Table). is_full a (answers_to f b.kept x).table) table ∙ room in
    let ours = (asked s scenario rank f p host j u a b reaches).2 in
    let apart = is_another s (slot_in s rank f p j) u reaches.step host reaches.within in
    let other : (i : ℕ) → i ≤ 3 → code_of a ≢ code host i =
    λ i few equal. apart (omega (arith, few, equal, ours.node, ours.stream)) in
    let there = table_has f host c.boot a b.kept t.later c.kept c.table c.streams kept t.others free wants other in
    less_none (s.profile.seconds * (due - f) / a.interval) (count_of (code_of a) plan.owners)
    (grants s rank f p host reaches.hosted c due plan plans fits (new_entry a f) there)
