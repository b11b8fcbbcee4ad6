-- The plan of each round has at most 40 owners: a host grants by a table that has no code twice, and all others go by its plan.
use Rattle.std.proofs.Common.{◌≡◌, ◌≤◌, ℕ, zero, suc, List, [], ◌∷◌, Bool, true, false, ◌==◌, Option, Some, None, if◌then◌else◌}
use Rattle.std.proofs.Common.{fold, length, option_and_then, refl, subst, arith}
use Rattle.std.proofs.lemmas.Bool.{cond_both}
use Rattle.lwb_base.specs.Messages.{Plan, Schedule}
use Rattle.lwb_base.specs.Profile.{Numbers}
use Rattle.scenario_text.specs.ScenarioParts.{ScenarioParts}
use Rattle.scenario_text.specs.declared.script.ScriptLine.{ScriptLine}
use Rattle.bus_rules.specs.declared.act.Act.{Act}
use Rattle.bus_rules.specs.declared.part.Part.{Part}
use Rattle.bus_rules.specs.declared.part.Part.TheVariants.{Opening, Data as DataSlot, Contention, Closing}
use Rattle.bus_rules.specs.Cores.{Core, Setup, as_host, begins_host, closing_accepted, frame_ended, is_fresh, opening_accepted, schedule_accepted}
use Rattle.bus_rules.specs.HostPlans.{host_plan}
use Rattle.bus_rules.specs.Plans.{opening}
use Rattle.bus_rules.specs.Slots.{Message, ScheduleOf, DataOf, RequestOf, Opened, opened_slot, closed_slot, slot_heard, hosts_now, host_closes, silent}
use Rattle.bus_rules.specs.Slots.{owner_heard}
use Rattle.bus_rules.specs.States.{State, StateOff, StateOn, at_core, state_after_act}
use Rattle.bus_rules.specs.Tables.{EntriesAscend, Table}
use Rattle.bus_rules.specs.Tuning.{next_tune, rank_of}
use Rattle.bus_rules.proofs.Ranks.{same_schedule}
use Rattle.bus_rules.proofs.Switches.{acts_keep}
use Rattle.bus_terms.specs.Bus.{before_frame, state_at}
use Rattle.bus_terms.specs.Rounds.{leader, plan_in, round_plan, rounds}
use Rattle.scenario_text.specs.Setups.{setup_of}
use Rattle.bus_terms.specs.ScriptedStates.{lines_of, state_after_line, states_after_script}
use Rattle.bus_terms.proofs.HostsOfRanks.{data_no_schedule, contention_no_schedule}
use Rattle.bus_terms.proofs.KeptInRounds.{rounds_keep}
use Rattle.air_log.proofs.SmallPlans.{host_plan_few, owner_keeps}

abbrev HasFew : Core → Type 0
HasFew c = (length c.plan.owners ≤ 40) × EntriesAscend c.table.entries

abbrev HasFewState : State → Type 0
HasFewState (StateOff boots) = Unit {0}
HasFewState (StateOn c) = HasFew c

abbrev SaysFew : Message → Type 0
SaysFew (ScheduleOf x) = length x.plan.owners ≤ 40
SaysFew (DataOf d) = Unit {0}
SaysFew (RequestOf a) = Unit {0}

-- what a host plans
planned : (q : Setup) (f : ℕ) (c : Core) → HasFew c → HasFew (host_closes q f c).core
planned q f c few = (host_plan_few q.profile q.id c.boot (rank_of c.tune) f c.kept c.table c.streams few.1).0

opens : (q : Setup) (f : ℕ) (part : Part) (c : Core) → HasFew c → HasFew (opened_slot q f part c).core
opens q f Opening c few = few
opens q f (DataSlot owner) c few = few
opens q f (Contention i) c few = few
opens q f Closing c few =
    cond_both (hosts_now f c) (host_closes q f c) (silent c) (λ (o : Opened). HasFew o.core) (λ is. planned q f c few) (λ is. few)

says : (q : Setup) (f : ℕ) (part : Part) (c : Core) (m : Message) → HasFew c → (opened_slot q f part c).message ≡ Some m → SaysFew m
says q f part c (DataOf d) few said = tt
says q f part c (RequestOf a) few said = tt
says q f (DataSlot owner) c (ScheduleOf x) few said = absurd (data_no_schedule q f owner c x said)
says q f (Contention i) c (ScheduleOf x) few said = absurd (contention_no_schedule q f i c x said)
says q f Opening c (ScheduleOf x) few said = by_test (hosts_now f c) said
  where
    by_test : (b : Bool) → (if b then Some (ScheduleOf (opening c.plan)) else None) ≡ Some (ScheduleOf x) → length x.plan.owners ≤ 40
    by_test true said = subst (λ (y : Schedule). length y.plan.owners ≤ 40) (same_schedule (opening c.plan) x said) few.0
    by_test false said = absurd (cc)
says q f Closing c (ScheduleOf x) few said = by_test (hosts_now f c) said
  where
    by_test : (b : Bool) → (if b then host_closes q f c else silent c).message ≡ Some (ScheduleOf x) → length x.plan.owners ≤ 40
    by_test true said =
        let h = host_plan q.profile q.id c.boot (rank_of c.tune) f c.kept c.table c.streams in
        let made = planned q f c few in
        subst (λ (y : Schedule). length y.plan.owners ≤ 40) (same_schedule (record { plan = h.plan; gap = h.gap }) x said) made.0
    by_test false said = absurd (cc)

heard : (f : ℕ) (part : Part) (b : Bool) (c : Core) → HasFew c → HasFew (slot_heard f part b c)
heard f Opening b c few = few
heard f (Contention i) b c few = few
heard f Closing b c few = few
heard f (DataSlot owner) b c few = (
  few.0,
  cond_both (hosts_now f c) (owner_heard b owner c.table) c.table (λ (t : Table). EntriesAscend t.entries) (λ is. owner_keeps owner b c.table few.1)
      (λ is. few.1),
)

takes : (node f : ℕ) (x : Schedule) (c : Core) → length x.plan.owners ≤ 40 → HasFew c → HasFew (schedule_accepted node f x c)
takes node f x c told few =
    cond_both (x.gap == 0) (opening_accepted node f x c) (closing_accepted node f x c) HasFew (λ is. (told, few.1)) (λ is. (told, few.1))

closes : (q : Setup) (f : ℕ) (part : Part) (b : Bool) (c : Core) (o : Option Message) → ((m : Message) → o ≡ Some m → SaysFew m) → HasFew c
    → HasFew (closed_slot q f part b c o).core
closes q f part b c None told few = heard f part b c few
closes q f part b c (Some (ScheduleOf x)) told few = takes q.id f x c (told (ScheduleOf x) refl) few
closes q f part b c (Some (DataOf d)) told few = heard f part true c few
closes q f part b c (Some (RequestOf a)) told few = few

-- the script and the end of a frame
acts : (a : Act) (x : State) → HasFewState x → HasFewState (state_after_act a x)
acts = acts_keep HasFewState (λ boots few. (omega arith, tt)) (λ c few. tt) (λ a c few. few)

lines : (ls : List ScriptLine) (x : State) → HasFewState x → HasFewState (fold state_after_line x ls)
lines [] x few = few
lines (l ∷ ls) x few = lines ls (state_after_line x l) (acts l.act x few)

hosts_few : (p : Numbers) (o : Option ℕ) (c : Core) → HasFew c → HasFew (as_host p o c)
hosts_few p None c few = few
hosts_few p (Some rank) c few = (omega arith, tt)

ends : (q : Setup) (f : ℕ) (x : State) → HasFewState x → HasFewState (at_core (frame_ended q f) x)
ends q f (StateOff boots) few = few
ends q f (StateOn c) few =
    let tune = next_tune c.tune f (is_fresh c) q.own q.ranks in
    hosts_few q.profile (begins_host c.tune tune) (record c { tune = tune; own_slot = None }) few

module _ (s : ScenarioParts) where
  told : (f : ℕ) (g : ℕ → State) → ((v : ℕ) → HasFewState (g v)) → (v : ℕ) → HasFewState (states_after_script s f g v)
  told f g all v = lines (lines_of s f v) (g v) (all v)

  run : (f : ℕ) (g : ℕ → State) → ((v : ℕ) → HasFewState (g v)) → (v : ℕ) → HasFewState (rounds s f g v)
  run f g all = rounds_keep s f (λ v x. HasFewState x) SaysFew
      (λ v part c few. opens (setup_of s v) f part c few)
      (λ v part c m few said. says (setup_of s v) f part c m few said)
      (λ v part b c o told few. closes (setup_of s v) f part b c o told few) g all

  before : (f v : ℕ) → HasFewState (before_frame s f v)
  unfolding before_frame
  before zero v = tt
  before (suc f) v =
      let g = before_frame s f in
      ends (setup_of s v) f (rounds s f (states_after_script s f g) v) (run f (states_after_script s f g) (told f g (before f)) v)

  pub few_owners : (rank f : ℕ) (p : Plan) → round_plan s rank f (state_at s f) ≡ Some p → length p.owners ≤ 40
  few_owners rank f p is = by_leader (leader s rank f (state_at s f)) is
    where
      one : (y : Plan) → Some y ≡ Some p → y ≡ p
      one y at = cc

      of_state : (x : State) → HasFewState x → plan_in x ≡ Some p → length p.owners ≤ 40
      of_state (StateOff boots) few at = absurd (cc)
      of_state (StateOn c) few at = subst (λ (y : Plan). length y.owners ≤ 40) (one c.plan at) few.0

      by_leader : (o : Option ℕ) → option_and_then (λ v. plan_in (state_at s f v)) o ≡ Some p → length p.owners ≤ 40
      by_leader None at = absurd (cc)
      by_leader (Some v) at = of_state (state_at s f v) (told f (before_frame s f) (before f) v) at
