-- In a slot of schedules without losses who listens within reach of the host accepts, and goes by what it accepted.
use Rattle.std.proofs.Common.{◌≡◌, ◌<◌, ◌+◌, ◌==◌, ℕ, suc, List, Bool, true, false, Option, Some, None, if◌then◌else◌, is_some, refl, sym, ◌∙◌, ap, arith}
use Rattle.std.proofs.Common.{AllPairs, add-one}
use Rattle.bus_terms.proofs.HostsOfRanks.{due_rank}
use Rattle.law_service.proofs.Words.{false≢true, and_parts, cond-false, ne_eqb, Numbers, Ask, Plan, Schedule, ScenarioParts, IsSoundScenario, over_sound, Part}
use Rattle.law_service.proofs.Words.{Opening, Closing, Hold, Host, Core, is_member, schedule_accepted, opening_accepted, closing_accepted, host_plan, HostPlan}
use Rattle.law_service.proofs.Words.{last_slot, opening, Message, ScheduleOf, Opened, opened_slot, part_of, hosts_now, host_closes, silent, is_schedule_part}
use Rattle.law_service.proofs.Words.{State, StateOff, StateOn, Streams, Table, hosts_in, rank_of, planned_rank, member_hosts, state_at, ids, Accepts, Slot}
use Rattle.law_service.proofs.Words.{opened_at, message_said, accepted_at, closed_slot_of, left_by, before_slot, takes_part, setup_of, is_on_and, in_filtered}
use Rattle.law_service.proofs.Words.{of_filtered, ids_rise, TakesPart, LosesNothing, IsWithin, IsHosted, slot_in, state_after_round, Hosting, has_planned}
use Rattle.law_service.proofs.Words.{closing_opens, opening_said, leads, sole_host, said_message, host_member, closing_last, windowed}
use Rattle.law_service.specs.ScheduleService.{OpeningsAreAccepted, ClosingsAreAccepted}
use Rattle.law_service.proofs.SoleVoices.{accepts, accepts_said}
use Rattle.law_service.proofs.GrantedSlots.{some_gap}

-- the state of a node that takes part and accepts a schedule
heard_schedule : (s : ScenarioParts) (rank f : ℕ) (part : Part) (v : ℕ) (x : State) (y : Schedule) → is_schedule_part part ≡ true
    → takes_part rank part x (opened_at s rank f part v x) ≡ true
    → (d : Core) × (left_by x (closed_slot_of s f part v (opened_at s rank f part v x) (Some (ScheduleOf y)) x) ≡ StateOn (schedule_accepted v f y d))
heard_schedule s rank f part v (StateOff boots) y schedule takes = absurd (false≢true (and_parts (is_schedule_part part) _ takes).1)
heard_schedule s rank f part v (StateOn c) y schedule takes = by_member (is_member rank f c)
  where
    by_member : (b : Bool) → (d : Core) × (left_by (StateOn c)
        (closed_slot_of s f part v (if b then Some (opened_slot (setup_of s v) f part c) else None) (Some (ScheduleOf y)) (StateOn c))
        ≡ StateOn (schedule_accepted v f y d))
    by_member true = ((opened_slot (setup_of s v) f part c).core, refl)
    by_member false = (c, refl)

-- the next round comes later
plan_gap : (n : Numbers) (node boot rank f : ℕ) (kept : List Ask) (t : Table) (x : Streams) → 0 < (host_plan n node boot rank f kept t x).gap
unfolding host_plan
plan_gap n node boot rank f kept t x = some_gap n.seconds f _

module _ (s : ScenarioParts) (scenario : IsSoundScenario s) (rank f : ℕ) (p : Plan) (host : ℕ) (hosted : IsHosted s rank f p host) where
  abbrev before : ℕ → ℕ → State
  before j = before_slot s rank f p (state_at s f) j

  rise : AllPairs (λ a b. a < b) (ids s.nodes)
  rise = ids_rise s.nodes scenario.ascending

  -- slot j is one of schedules, in which a host with its round due says this
  module _ (j : ℕ) (part : Part) (at : part_of p j ≡ part) (is : Hosting rank f p (before j host)) (y : Schedule)
      (says : (opened_slot (setup_of s host) f part is.core).message ≡ Some (ScheduleOf y))
      (only_hosts : (v : ℕ) (c : Core) (m : Message) → (opened_slot (setup_of s v) f part c).message ≡ Some m → hosts_now f c ≡ true)
      (only_members : (c : Core) → is_member rank f c ≡ true → hosts_now f c ≡ true → hosts_in rank f c.tune ≡ true) where
    abbrev x : Slot
    x = slot_in s rank f p j

    window_is : (v : ℕ) → x.window v ≡ opened_at s rank f part v (before j v)
    window_is v = ap (λ (q : Part). opened_at s rank f q v (before j v)) at

    host_window : x.window host ≡ Some (opened_slot (setup_of s host) f part is.core)
    host_window = window_is host ∙ ap (λ (z : State). opened_at s rank f part host z) is.on
        ∙ windowed s rank f part host is.core (host_member rank f is.core is.due)

    pub message : message_said (x.window host) ≡ Some (ScheduleOf y)
    message = ap message_said host_window ∙ says

    takes : TakesPart x host
    takes = in_filtered (λ v. takes_part rank x.part (before j v) (x.window v)) (ids s.nodes) host hosted.known
        (ap (λ (w : Option Opened). takes_part rank x.part (before j host) w) host_window)

    alone : (v : ℕ) → is_some (message_said (x.window v)) ≡ true → v ≡ host
    alone v some = by_message (message_said (x.window v)) refl some
      where
        by_message : (m : Option Message) → message_said (x.window v) ≡ m → is_some m ≡ true → v ≡ host
        by_message None said some = absurd (false≢true some)
        by_message (Some m) said some =
            let c = said_message s rank f part v (before j v) m (ap message_said (sym (window_is v)) ∙ said) in
            let due = only_members c.0 c.2 (only_hosts v c.0 m c.3) in
            sole_host s rank f p host hosted j v (ap (λ (z : State). is_on_and (λ c. hosts_in rank f c.tune) z) c.1 ∙ due)

    module _ (lossless : LosesNothing s x) (k v : ℕ) (within : IsWithin s x host (suc k) v) where
      pub accepts_here : Accepts x.flood v host k
      accepts_here = accepts s x f j refl (λ k u v. refl) refl scenario.some_sends rise lossless host (ScheduleOf y) hosted.known takes message alone k v within

      heard : accepted_at x v ≡ Some (ScheduleOf y)
      heard = accepts_said s x f j refl (λ k u v. refl) refl scenario.some_sends rise lossless host (ScheduleOf y) hosted.known takes message alone k v within

      pub goes_by : is_schedule_part part ≡ true → (d : Core) × (before_slot s rank f p (state_at s f) (suc j) v ≡ StateOn (schedule_accepted v f y d))
      unfolding before_slot
      goes_by schedule =
          let there = of_filtered (λ v. takes_part rank x.part (before j v) (x.window v)) (ids s.nodes) v within.there in
          let takes_here : takes_part rank part (before j v) (opened_at s rank f part v (before j v)) ≡ true =
          ap (λ (q : Part). takes_part rank q (before j v) (opened_at s rank f q v (before j v))) (sym at) ∙ there in
          let told = heard_schedule s rank f part v (before j v) y schedule takes_here in (
            told.0,
            ap (λ (h : Option Message). left_by (before j v) (closed_slot_of s f (part_of p j) v (x.window v) h (before j v))) heard
                ∙ ap (λ (q : Part). left_by (before j v) (closed_slot_of s f q v (opened_at s rank f q v (before j v)) (Some (ScheduleOf y)) (before j v))) at
                ∙ told.1,
          )

-- in the first slot and the last one who says something hosts its own round
opening_hosts : (s : ScenarioParts) (f v : ℕ) (c : Core) (m : Message) → (opened_slot (setup_of s v) f Opening c).message ≡ Some m → hosts_now f c ≡ true
opening_hosts s f v c m said = by_test (hosts_now f c) refl said
  where
    by_test : (b : Bool) → hosts_now f c ≡ b → (if b then Some (ScheduleOf (opening c.plan)) else None) ≡ Some m → hosts_now f c ≡ true
    by_test true at said = at
    by_test false at said = absurd (cc)

closing_hosts : (s : ScenarioParts) (f v : ℕ) (c : Core) (m : Message) → (opened_slot (setup_of s v) f Closing c).message ≡ Some m → hosts_now f c ≡ true
closing_hosts s f v c m said = by_test (hosts_now f c) refl said
  where
    by_test : (b : Bool) → hosts_now f c ≡ b → (if b then host_closes (setup_of s v) f c else silent c).message ≡ Some m → hosts_now f c ≡ true
    by_test true at said = at
    by_test false at said = absurd (cc)

pub openings : OpeningsAreAccepted
unfolding before_slot
openings s accepted rank f p host hosted lossless k v within =
    let scenario = over_sound s accepted in
    let is = leads s rank f p host hosted 0 (omega arith) in
    let says = opening_said s rank f p host hosted is in
    let told = goes_by s scenario rank f p host hosted 0 Opening refl is (opening is.core.plan) says (opening_hosts s f) (member_hosts rank f)
    lossless k v within refl in
    record {
      accepts = accepts_here s scenario rank f p host hosted 0 Opening refl is (opening is.core.plan) says (opening_hosts s f) (member_hosts rank f)
          lossless k v within;
      core = schedule_accepted v f (opening is.core.plan) told.0;
      on = told.1;
      plan = is.plan;
      fresh = refl;
    }

pub closings : ClosingsAreAccepted
unfolding before_slot
closings s accepted rank f p host hosted lossless k v within = record {
  accepts = accepts_here s scenario rank f p host hosted j Closing at is y says (closing_hosts s f) (member_hosts rank f) lossless k v within;
  hosting = planned.core;
  host_on = has_planned s rank f p host hosted is;
  holding = closing_accepted v f y told.0;
  on = after v ∙ told.1 ∙ ap (λ (c : Core). StateOn c) (cond-false (y.gap == 0) (opening_accepted v f y told.0) (closing_accepted v f y told.0) some);
  due = f + plan.gap;
  later = (let more = gap_some in omega (arith, more));
  hosts = ap (λ (r : ℕ). Host r (f + plan.gap)) own_rank_is;
  holds = ap (λ (r : ℕ). Hold r (f + plan.gap))
      (planned_rank s.profile host is.core.boot (rank_of is.core.tune) f is.core.kept is.core.table is.core.streams ∙ own_rank_is);
  plan = refl;
}
  where
    scenario : IsSoundScenario s
    scenario = over_sound s accepted

    j : ℕ
    j = last_slot p

    after : (v : ℕ) → state_after_round s rank f p v ≡ before_slot s rank f p (state_at s f) (suc j) v
    after v = ap (λ (i : ℕ). before_slot s rank f p (state_at s f) i v) (add-one (last_slot p))

    at : part_of p j ≡ Closing
    at = closing_last p

    is : Hosting rank f p (before_slot s rank f p (state_at s f) j host)
    is = leads s rank f p host hosted j (omega arith)

    own_rank_is : rank_of is.core.tune ≡ rank
    own_rank_is = due_rank rank f is.core.tune is.due

    plan : HostPlan
    plan = host_plan s.profile host is.core.boot (rank_of is.core.tune) f is.core.kept is.core.table is.core.streams

    y : Schedule
    y = record { plan = plan.plan; gap = plan.gap }

    planned : Opened
    planned = host_closes (setup_of s host) f is.core

    opens : opened_slot (setup_of s host) f Closing is.core ≡ planned
    opens = closing_opens s rank f p host hosted is

    says : (opened_slot (setup_of s host) f Closing is.core).message ≡ Some (ScheduleOf y)
    says = ap (λ (o : Opened). o.message) opens

    gap_some : 0 < plan.gap
    gap_some = plan_gap s.profile host is.core.boot (rank_of is.core.tune) f is.core.kept is.core.table is.core.streams

    some : (y.gap == 0) ≡ false
    some = ne_eqb plan.gap 0 (λ none. (let more = gap_some in absurd (omega (arith, more, none))))

    told : (d : Core) × (before_slot s rank f p (state_at s f) (suc j) v ≡ StateOn (schedule_accepted v f y d))
    told = goes_by s scenario rank f p host hosted j Closing at is y says (closing_hosts s f) (member_hosts rank f) lossless k v within refl
