-- A host whose round is due holds it, and has its next round one to four frames later; while it is on, it stays a host.
use Rattle.std.proofs.Common.{◌≡◌, ◌<◌, ◌≤◌, ◌+◌, ◌==◌, ◌||◌, ℕ, List, [], ◌∷◌, Bool, true, false, Option, Some, get_or, length, option_and_then, refl, ◌∙◌, ap}
use Rattle.std.proofs.Common.{subst, arith}
use Rattle.scenario_text.specs.FloodParts.{knows}
use Rattle.scenario_text.specs.declared.lines.NodeLine.{NodeLine}
use Rattle.law_times.proofs.Words.{option_or, false≢true, eqb-true, position-Some, Ask, Plan, Numbers, ScenarioParts, IsSoundScenario, Host, own_rank}
use Rattle.law_times.proofs.Words.{answers_to, host_plan, served, last_slot, State, StateOff, StateOn, Streams, Table, rank_of, hosts_in, holds_in, state_at}
use Rattle.law_times.proofs.Words.{ids, has, IsHosted, state_after_round, after_round, first_node, plan_in, round_plan, rounds, rank_in, is_on_and, Hosting}
use Rattle.law_times.proofs.Words.{found_only, leads, has_planned, due_rank, one_of_rank, gap_range, round_gap}
use Rattle.law_times.proofs.QuietRounds.{hosts_round, host_is_own}
use Rattle.law_times.proofs.Settings.{setting}

-- a node of the scenario
pub known_ids : (ns : List NodeLine) (v : ℕ) → knows ns v ≡ true → has (ids ns) v ≡ true
known_ids [] v known = known
known_ids (n ∷ ns) v known = by_test (n.node == v) known (known_ids ns v)
  where
    by_test : (b : Bool) → (b || knows ns v) ≡ true → (knows ns v ≡ true → has (ids ns) v ≡ true) → (b || has (ids ns) v) ≡ true
    by_test true known later = refl
    by_test false known later = later known

pub host_known : (s : ScenarioParts) → IsSoundScenario s → (host rank : ℕ) → own_rank host s.hosts ≡ Some rank → has (ids s.nodes) host ≡ true
host_known s scenario host rank own =
    let at = position-Some (λ h. h == host) s.hosts rank 0 own in
    let here : get_or s.hosts rank 0 ≡ host = eqb-true (get_or s.hosts rank 0) host at.1 in
    known_ids s.nodes host (subst (λ (h : ℕ). knows s.nodes h ≡ true) here (scenario.hosts_known rank 0 at.0))

pub rank_below : (s : ScenarioParts) (host rank : ℕ) → own_rank host s.hosts ≡ Some rank → rank < length s.hosts
rank_below s host rank own = (position-Some (λ h. h == host) s.hosts rank 0 own).0

-- the gap of what a host plans
pub plan_gap : (n : Numbers) (node boot rank f : ℕ) (kept : List Ask) (t : Table) (x : Streams)
    → (0 < (host_plan n node boot rank f kept t x).gap) × ((host_plan n node boot rank f kept t x).gap ≤ 4)
unfolding host_plan
plan_gap n node boot rank f kept t x =
    let t = (served f node boot (answers_to f kept t).table x).table in
    let is = round_gap n.seconds f t in
    let range = gap_range n.seconds f t.entries in
    (omega (arith, is, range), omega (arith, is, range))

-- who hosts a round is of its rank
pub rank_hosted : (rank f : ℕ) (x : State) → hosts_round rank f x ≡ true → rank_in x ≡ rank
rank_hosted rank f (StateOff boots) now = absurd (false≢true now)
rank_hosted rank f (StateOn c) now = due_rank rank f c.tune now

-- the host after its round, and its next due frame
pub record Planned (x : State) (rank f : ℕ) : Type 0 where
  pub due : ℕ
  pub later : f < due
  pub soon : due ≤ f + 4
  pub own_slot : Option ℕ
  pub plan : Plan
  pub goes : setting x ≡ Some (record { tune = Host rank due; own_slot = own_slot; plan = plan })

module _ (s : ScenarioParts) (scenario : IsSoundScenario s) where
  pub is_hosted : (host rank f : ℕ) → hosts_round rank f (state_at s f host) ≡ true → (p : Plan) × IsHosted s rank f p host
  is_hosted host rank f due = by_plan (state_at s f host) refl due
    where
      own : own_rank host s.hosts ≡ Some rank
      own = host_is_own s rank f host due

      known : has (ids s.nodes) host ≡ true
      known = host_known s scenario host rank own

      led : first_node s (is_on_and (λ c. hosts_in rank f c.tune)) (state_at s f) ≡ Some host
      led = found_only (λ v. is_on_and (λ c. hosts_in rank f c.tune) (state_at s f v)) host due
          (λ v also. one_of_rank s.hosts v host rank (host_is_own s rank f v also) own) (ids s.nodes) known

      planned : round_plan s rank f (state_at s f) ≡ plan_in (state_at s f host)
      planned = ap (λ (o : Option ℕ). option_and_then (λ v. plan_in (state_at s f v))
          (option_or o (first_node s (is_on_and (λ c. holds_in rank f c.tune)) (state_at s f)))) led

      by_plan : (x : State) → state_at s f host ≡ x → hosts_round rank f x ≡ true → (p : Plan) × IsHosted s rank f p host
      by_plan (StateOff boots) is now = absurd (false≢true now)
      by_plan (StateOn c) is now = (c.plan, record { known = known; due = due; plan = planned ∙ ap plan_in is })

  pub rounds_are : (v rank f : ℕ) (p : Plan) → rank_in (state_at s f v) ≡ rank → round_plan s rank f (state_at s f) ≡ Some p
      → rounds s f (state_at s f) v ≡ state_after_round s rank f p v
  rounds_are v rank f p at is =
      ap (λ (r : ℕ). after_round s r f (state_at s f) (round_plan s r f (state_at s f)) v) at
      ∙ ap (λ (o : Option Plan). after_round s rank f (state_at s f) o v) is

  pub due_round : (host rank f : ℕ) → hosts_round rank f (state_at s f host) ≡ true → Planned (rounds s f (state_at s f) host) rank f
  due_round host rank f due =
      let p = is_hosted host rank f due in
      let lead : Hosting rank f p.0 _ = leads s rank f p.0 host p.1 (last_slot p.0) (omega arith) in
      let c = lead.core in
      let plan = host_plan s.profile host c.boot (rank_of c.tune) f c.kept c.table c.streams in
      let gap = plan_gap s.profile host c.boot (rank_of c.tune) f c.kept c.table c.streams in
      let of_rank : rank_of c.tune ≡ rank = due_rank rank f c.tune lead.due in
      let is = rounds_are host rank f p.0 (rank_hosted rank f (state_at s f host) due) p.1.plan ∙ has_planned s rank f p.0 host p.1 lead in
      record {
        due = f + plan.gap;
        later = omega (arith, gap);
        soon = omega (arith, gap);
        own_slot = c.own_slot;
        plan = plan.plan;
        goes = ap setting is ∙ ap (λ (r : ℕ). Some (record { tune = Host r (f + plan.gap); own_slot = c.own_slot; plan = plan.plan })) of_rank;
      }
