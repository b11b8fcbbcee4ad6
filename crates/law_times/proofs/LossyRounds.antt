-- What a round leaves of a node that took part in it, whatever is lost: its tune, or the next round of its host.
use Rattle.std.proofs.Common.{◌≡◌, ◌<◌, ◌≤◌, ◌+◌, ◌==◌, ℕ, Bool, true, false, Option, Some, None, if◌then◌else◌, inl, inr, is_some, refl, sym, ◌∙◌, ap, subst}
use Rattle.std.proofs.Common.{arith, add-one, ◌⊎◌}
use Rattle.law_times.proofs.Words.{false≢true, cond-false, ne_eqb, Plan, Schedule, IsOverScenario, ScenarioParts, IsSoundScenario, over_sound, Part, Closing}
use Rattle.law_times.proofs.Words.{Tune, Hold}
use Rattle.law_times.proofs.Words.{Host, Core, Setup, closing_accepted, is_member, opening_accepted, schedule_accepted, HostPlan, host_plan, last_slot, DataOf}
use Rattle.law_times.proofs.Words.{Message, Opened, RequestOf, ScheduleOf, closed_slot, host_closes, hosts_now, opened_slot, part_of, silent, State, StateOff}
use Rattle.law_times.proofs.Words.{StateOn, hosts_in, rank_of, member_hosts, planned_rank, same_schedule, state_at, IsHosted, slot_in, accepted_at, before_slot}
use Rattle.law_times.proofs.Words.{closed_slot_of, left_by, opened_at, rounds, setup_of, is_on_and, Hosting, closing_last, closing_opens, has_planned}
use Rattle.law_times.proofs.Words.{heard_from, leads, sole_host, due_rank, same_core}
use Rattle.law_times.proofs.EarlyTunes.{tunes_stay}
use Rattle.law_times.proofs.HostedFrames.{is_hosted, plan_gap, rounds_are, rank_hosted}
use Rattle.law_times.proofs.JoinedNodes.{next, same_round, there_rank}
use Rattle.law_times.proofs.QuietRounds.{hosts_round}
use Rattle.law_times.proofs.ReachedNodes.{IsThere}
use Rattle.law_times.proofs.Settings.{setting, tune_of}

-- the tune that a node had, or the next round by the plan of its host
abbrev pub IsLeft : Tune → ℕ → ℕ → Plan → State → Type 0
IsLeft t rank due plan (StateOff boots) = ⊥
IsLeft t rank due plan (StateOn c) = (c.tune ≡ t) ⊎ ((c.tune ≡ Hold rank due) × (c.plan ≡ plan))

-- the closing slot at a node that does not host, and that hears nothing, or this schedule
module _ (s : ScenarioParts) (rank f v : ℕ) (y : Schedule) (later : 0 < y.gap) (of_rank : y.plan.rank ≡ rank) where
  takes : (c : Core) → IsLeft c.tune rank (f + y.gap) y.plan (StateOn (schedule_accepted v f y c))
  takes c =
      subst (λ (d : Core). IsLeft c.tune rank (f + y.gap) y.plan (StateOn d))
      (sym (cond-false (y.gap == 0) (opening_accepted v f y c) (closing_accepted v f y c) (ne_eqb y.gap 0 (λ none. absurd (omega (arith, later, none))))))
      (inr (ap (λ (r : ℕ). Hold r (f + y.gap)) of_rank, refl))

  hears : (c : Core) (b : Bool) (heard : Option Message) → ((m : Message) → heard ≡ Some m → m ≡ ScheduleOf y)
      → IsLeft c.tune rank (f + y.gap) y.plan (StateOn (closed_slot (setup_of s v) f Closing b c heard).core)
  hears c b None only = inl refl
  hears c b (Some (DataOf d)) only = (let is = only (DataOf d) refl in absurd (cc))
  hears c b (Some (RequestOf a)) only = (let is = only (RequestOf a) refl in absurd (cc))
  hears c b (Some (ScheduleOf x)) only =
      let same : x ≡ y = same_schedule x y (ap (λ (m : Message). Some m) (only (ScheduleOf x) refl)) in
      subst (λ (z : Schedule). IsLeft c.tune rank (f + y.gap) y.plan (StateOn (schedule_accepted v f z c))) (sym same) (takes c)

  leaves : (c : Core) (heard : Option Message) → hosts_now f c ≡ false → ((m : Message) → heard ≡ Some m → m ≡ ScheduleOf y)
      → IsLeft c.tune rank (f + y.gap) y.plan (left_by (StateOn c) (closed_slot_of s f Closing v (opened_at s rank f Closing v (StateOn c)) heard (StateOn c)))
  leaves c heard idles only = by_member (is_member rank f c) heard only
    where
      by_host : (t : Bool) → t ≡ false → (b : Bool) (heard : Option Message) → ((m : Message) → heard ≡ Some m → m ≡ ScheduleOf y)
          → IsLeft c.tune rank (f + y.gap) y.plan
          (StateOn (closed_slot (setup_of s v) f Closing b (if t then host_closes (setup_of s v) f c else silent c).core heard).core)
      by_host true not b heard only = absurd (false≢true (sym not))
      by_host false not b heard only = hears c b heard only

      by_member : (t : Bool) (heard : Option Message) → ((m : Message) → heard ≡ Some m → m ≡ ScheduleOf y)
          → IsLeft c.tune rank (f + y.gap) y.plan
          (left_by (StateOn c) (closed_slot_of s f Closing v (if t then Some (opened_slot (setup_of s v) f Closing c) else None) heard (StateOn c)))
      by_member true heard only = by_host (hosts_now f c) idles (is_some (opened_slot (setup_of s v) f Closing c).message) heard only
      by_member false None only = inl refl
      by_member false (Some m) only = hears c false (Some m) only

-- who says something in a closing slot hosts its own round
closing_hosts : (q : Setup) (f : ℕ) (c : Core) (m : Message) → (opened_slot q f Closing c).message ≡ Some m → hosts_now f c ≡ true
closing_hosts q f c m said = by_test (hosts_now f c) refl said
  where
    by_test : (b : Bool) → hosts_now f c ≡ b → (if b then host_closes q f c else silent c).message ≡ Some m → hosts_now f c ≡ true
    by_test true at said = at
    by_test false at said = absurd (cc)

module _ (s : ScenarioParts) (accepted : IsOverScenario s) (rank f host : ℕ) (due : hosts_round rank f (state_at s f host) ≡ true) where
  abbrev scenario : IsSoundScenario s
  scenario = over_sound s accepted

  abbrev p : Plan
  p = (is_hosted s scenario host rank f due).0

  hosted : IsHosted s rank f p host
  hosted = (is_hosted s scenario host rank f due).1

  abbrev j : ℕ
  j = last_slot p

  abbrev before : ℕ → State
  before v = before_slot s rank f p (state_at s f) j v

  lead : Hosting rank f p (before host)
  lead = leads s rank f p host hosted j (omega arith)

  abbrev plan : HostPlan
  plan = host_plan s.profile host lead.core.boot (rank_of lead.core.tune) f lead.core.kept lead.core.table lead.core.streams

  abbrev said : Schedule
  said = record { plan = plan.plan; gap = plan.gap }

  own : rank_of lead.core.tune ≡ rank
  own = due_rank rank f lead.core.tune lead.due

  -- what anybody accepts in the closing slot is what the host says in it
  only_host : (v : ℕ) (m : Message) → accepted_at (slot_in s rank f p j) v ≡ Some m → m ≡ ScheduleOf said
  only_host v m is =
      let from = heard_from s rank f p (state_at s f) j Closing (closing_last p) v m is in
      let c = from.1 in
      let now = closing_hosts (setup_of s from.0) f c m from.4 in
      let hosts : hosts_in rank f c.tune ≡ true = member_hosts rank f c from.3 now in
      let same : from.0 ≡ host = sole_host s rank f p host hosted j from.0 (ap (is_on_and (λ c. hosts_in rank f c.tune)) from.2 ∙ hosts) in
      let at : before host ≡ StateOn c = ap before (sym same) ∙ from.2 in
      let core : c ≡ lead.core = same_core c lead.core (before host) at lead.on in
      let says : (opened_slot (setup_of s host) f Closing lead.core).message ≡ Some m =
      ap (λ (u : ℕ). (opened_slot (setup_of s u) f Closing lead.core).message) (sym same)
      ∙ ap (λ (d : Core). (opened_slot (setup_of s from.0) f Closing d).message) (sym core) ∙ from.4 in
      let is : Some m ≡ Some (ScheduleOf said) = sym says ∙ ap (λ (o : Opened). o.message) (closing_opens s rank f p host hosted lead) in
      cc

  same_next : (f + plan.gap ≡ (next s accepted rank f host due).due) × (plan.plan ≡ (next s accepted rank f host due).plan)
  same_next =
      let planned = next s accepted rank f host due in
      let hosts : setting (rounds s f (state_at s f) host)
      ≡ Some (record { tune = Host rank (f + plan.gap); own_slot = lead.core.own_slot; plan = plan.plan }) =
      ap setting (rounds_are s scenario host rank f p (rank_hosted rank f (state_at s f host) due) hosted.plan ∙ has_planned s rank f p host hosted lead)
      ∙ ap (λ (r : ℕ). Some (record { tune = Host r (f + plan.gap); own_slot = lead.core.own_slot; plan = plan.plan })) own in
      same_round rank (f + plan.gap) planned.due lead.core.own_slot planned.own_slot plan.plan planned.plan (sym hosts ∙ planned.goes)

  abbrev after : ℕ → State
  after v =
      left_by (before v)
      (closed_slot_of s f (part_of p j) v (opened_at s rank f (part_of p j) v (before v)) (accepted_at (slot_in s rank f p j) v) (before v))

  pub left_after : (v : ℕ) (there : IsThere s rank f v) → hosts_in (rank_of there.tune) f there.tune ≡ false
      → IsLeft there.tune rank (next s accepted rank f host due).due (next s accepted rank f host due).plan (rounds s f (state_at s f) v)
  unfolding before_slot
  left_after v there idles =
      subst (IsLeft there.tune rank (next s accepted rank f host due).due (next s accepted rank f host due).plan)
      (sym (rounds_are s scenario v rank f p (there_rank s rank f v there) hosted.plan
      ∙ ap (λ (i : ℕ). before_slot s rank f p (state_at s f) i v) (add-one j)))
      (subst (λ (d : ℕ). IsLeft there.tune rank d (next s accepted rank f host due).plan (after v)) same_next.0
      (subst (λ (q : Plan). IsLeft there.tune rank (f + plan.gap) q (after v)) same_next.1 in_closing))
    where
      gap : (0 < plan.gap) × (plan.gap ≤ 4)
      gap = plan_gap s.profile host lead.core.boot (rank_of lead.core.tune) f lead.core.kept lead.core.table lead.core.streams

      by_state : (x : State) → tune_of x ≡ Some there.tune → (heard : Option Message) → ((m : Message) → heard ≡ Some m → m ≡ ScheduleOf said)
          → IsLeft there.tune rank (f + plan.gap) plan.plan (left_by x (closed_slot_of s f Closing v (opened_at s rank f Closing v x) heard x))
      by_state (StateOff boots) on heard only = absurd (cc)
      by_state (StateOn c) on heard only =
          let same : c.tune ≡ there.tune = cc in
          let idle_now : hosts_now f c ≡ false = ap (λ (t : Tune). hosts_in (rank_of t) f t) same ∙ idles in
          let of_rank = planned_rank s.profile host lead.core.boot (rank_of lead.core.tune) f lead.core.kept lead.core.table lead.core.streams ∙ own in
          subst (λ (t : Tune). IsLeft t rank (f + plan.gap) plan.plan
          (left_by (StateOn c) (closed_slot_of s f Closing v (opened_at s rank f Closing v (StateOn c)) heard (StateOn c)))) same
          (leaves s rank f v said gap.0 of_rank c heard idle_now only)

      in_closing : IsLeft there.tune rank (f + plan.gap) plan.plan (after v)
      in_closing =
          subst (λ (q : Part). IsLeft there.tune rank (f + plan.gap) plan.plan
          (left_by (before v) (closed_slot_of s f q v (opened_at s rank f q v (before v)) (accepted_at (slot_in s rank f p j) v) (before v))))
          (sym (closing_last p))
          (by_state (before v) (tunes_stay s rank f p j (omega arith) v ∙ there.on) (accepted_at (slot_in s rank f p j) v) (λ m is. only_host v m is))
