-- On the bus a node hosts its own rank alone, and by a plan with the contention slots of the profile.
use Rattle.std.proofs.Common.{◌≡◌, ◌+◌, ◌%◌, ◌&&◌, ◌==◌, ℕ, zero, suc, List, [], ◌∷◌, Bool, true, false, Option, Some, None, nat_lt, if◌then◌else◌}
use Rattle.std.proofs.Common.{get_or, fold, option_map, refl, sym, ◌∙◌, ap, subst}
use Rattle.std.proofs.lemmas.Bool.{false≢true, true≢false, eqb-true, and_parts}
use Rattle.std.proofs.lemmas.List.Quantifiers.{position-Some}
use Rattle.lwb_base.specs.Messages.{Plan, Schedule, node_of, stream_of}
use Rattle.scenario_text.specs.ScenarioParts.{ScenarioParts}
use Rattle.bus_rules.specs.declared.act.Act.{Act}
use Rattle.scenario_text.specs.declared.script.ScriptLine.{ScriptLine}
use Rattle.bus_rules.specs.declared.part.Part.{Part}
use Rattle.bus_rules.specs.declared.part.Part.TheVariants.{Opening, Data as DataSlot, Contention, Closing}
use Rattle.bus_rules.specs.declared.tune.Tune.{Tune}
use Rattle.bus_rules.specs.declared.tune.Tune.TheVariants.{Scan, Hold, Host}
use Rattle.bus_rules.specs.Cores.{Core, Setup, own_rank, as_host, begins_host, frame_ended, is_fresh, opening_accepted, closing_accepted, schedule_accepted}
use Rattle.bus_rules.specs.HostPlans.{host_plan}
use Rattle.bus_rules.specs.Plans.{opening}
use Rattle.bus_rules.specs.Slots.{Message, ScheduleOf, DataOf, RequestOf, opened_slot, closed_slot, slot_heard, hosts_now, host_closes, silent, is_own, data_of}
use Rattle.bus_rules.specs.Slots.{request_of}
use Rattle.bus_rules.specs.States.{State, StateOff, StateOn, at_core, state_after_act}
use Rattle.bus_rules.specs.Streams.{WaitingPacket, first_waiting, requested}
use Rattle.bus_rules.specs.Tuning.{rank_of, hosts, hosts_in, is_rank, is_scan, next_tune}
use Rattle.bus_rules.proofs.Ranks.{same_schedule, rank_is, plan_contends}
use Rattle.bus_rules.proofs.Switches.{acts_keep}
use Rattle.bus_terms.specs.Bus.{before_frame, state_at}
use Rattle.bus_terms.specs.Rounds.{rounds, before_slot}
use Rattle.scenario_text.specs.Setups.{setup_of}
use Rattle.bus_terms.specs.ScriptedStates.{state_after_line, lines_of, states_after_script}
use Rattle.bus_terms.proofs.KeptInRounds.{slots_keep, rounds_keep}

pub record IsRightful (q : Setup) (c : Core) : Type 0 where
  pub own : hosts c.tune ≡ true → q.own ≡ Some (rank_of c.tune)
  pub contend : is_scan c.tune ≡ false → c.plan.contend ≡ q.profile.contend

abbrev pub IsRightfulState : Setup → State → Type 0
IsRightfulState q (StateOff boots) = Unit {0}
IsRightfulState q (StateOn c) = IsRightful q c

-- each schedule that is said has those contention slots too
abbrev pub IsContended : ℕ → Message → Type 0
IsContended n (ScheduleOf x) = x.plan.contend ≡ n
IsContended n (DataOf d) = Unit {0}
IsContended n (RequestOf a) = Unit {0}

pub due_hosts : (rank f : ℕ) (t : Tune) → hosts_in rank f t ≡ true → hosts t ≡ true
due_hosts rank f (Host r due) now = refl
due_hosts rank f (Hold r due) now = absurd (false≢true now)
due_hosts rank f (Scan r w) now = absurd (false≢true now)

pub due_plans : (rank f : ℕ) (t : Tune) → hosts_in rank f t ≡ true → is_scan t ≡ false
due_plans rank f (Host r due) now = refl
due_plans rank f (Hold r due) now = refl
due_plans rank f (Scan r w) now = absurd (false≢true now)

pub due_rank : (rank f : ℕ) (t : Tune) → hosts_in rank f t ≡ true → rank_of t ≡ rank
due_rank rank f (Host r due) now = eqb-true r rank (and_parts (r == rank) _ now).0
due_rank rank f (Hold r due) now = absurd (false≢true now)
due_rank rank f (Scan r w) now = absurd (false≢true now)

opens : (q : Setup) (f : ℕ) (part : Part) (c : Core) → IsRightful q c → IsRightful q (opened_slot q f part c).core
opens q f Opening c is = is
opens q f (DataSlot owner) c is = record { own = is.own; contend = is.contend }
opens q f (Contention i) c is = record { own = is.own; contend = is.contend }
opens q f Closing c is = by_test (hosts_now f c) refl
  where
    by_test : (b : Bool) → hosts_now f c ≡ b → IsRightful q (if b then host_closes q f c else silent c).core
    by_test true now = record {
      own = λ h. is.own (due_hosts (rank_of c.tune) f c.tune now);
      contend = λ plans. plan_contends q.profile q.id c.boot (rank_of c.tune) f c.kept c.table c.streams;
    }
    by_test false now = is

-- in a data slot or a contention slot nobody says a schedule
pub data_no_schedule : (q : Setup) (f owner : ℕ) (c : Core) (x : Schedule) → (opened_slot q f (DataSlot owner) c).message ≡ Some (ScheduleOf x) → ⊥
data_no_schedule q f owner c x is = by_owner (node_of owner == q.id) (first_waiting c.streams (stream_of owner)) is
  where
    by_owner : (b : Bool) (w : Option WaitingPacket) → (if b then option_map (data_of q.id c (stream_of owner)) w else None) ≡ Some (ScheduleOf x) → ⊥
    by_owner false w is = cc
    by_owner true None is = cc
    by_owner true (Some w) is = cc

pub contention_no_schedule : (q : Setup) (f i : ℕ) (c : Core) (x : Schedule) → (opened_slot q f (Contention i) c).message ≡ Some (ScheduleOf x) → ⊥
contention_no_schedule q f i c x is = by_own (is_own c.own_slot i) (requested c.streams) is
  where
    by_own : (b : Bool) (w : Option ℕ) → (if b then option_map (request_of q.id c) w else None) ≡ Some (ScheduleOf x) → ⊥
    by_own false w is = cc
    by_own true None is = cc
    by_own true (Some w) is = cc

says : (q : Setup) (f : ℕ) (part : Part) (c : Core) (m : Message) → IsRightful q c → (opened_slot q f part c).message ≡ Some m → IsContended q.profile.contend m
says q f part c (DataOf d) is said = tt
says q f part c (RequestOf a) is said = tt
says q f Opening c (ScheduleOf x) is said = by_test (hosts_now f c) refl said
  where
    by_test : (b : Bool) → hosts_now f c ≡ b → (if b then Some (ScheduleOf (opening c.plan)) else None) ≡ Some (ScheduleOf x)
        → x.plan.contend ≡ q.profile.contend
    by_test true now said =
        subst (λ (y : Schedule). y.plan.contend ≡ q.profile.contend) (same_schedule (opening c.plan) x said)
        (is.contend (due_plans (rank_of c.tune) f c.tune now))
    by_test false now said = absurd (cc)
says q f (DataSlot owner) c (ScheduleOf x) is said = absurd (data_no_schedule q f owner c x said)
says q f (Contention i) c (ScheduleOf x) is said = absurd (contention_no_schedule q f i c x said)
says q f Closing c (ScheduleOf x) is said = by_test (hosts_now f c) said
  where
    by_test : (b : Bool) → (if b then host_closes q f c else silent c).message ≡ Some (ScheduleOf x) → x.plan.contend ≡ q.profile.contend
    by_test true said =
        let h = host_plan q.profile q.id c.boot (rank_of c.tune) f c.kept c.table c.streams in
        let same = plan_contends q.profile q.id c.boot (rank_of c.tune) f c.kept c.table c.streams in
        subst (λ (y : Schedule). y.plan.contend ≡ q.profile.contend) (same_schedule (record { plan = h.plan; gap = h.gap }) x said) same
    by_test false said = absurd (cc)

heard : (q : Setup) (f : ℕ) (part : Part) (b : Bool) (c : Core) → IsRightful q c → IsRightful q (slot_heard f part b c)
heard q f Opening b c is = is
heard q f (DataSlot owner) b c is = record { own = is.own; contend = is.contend }
heard q f (Contention i) b c is = is
heard q f Closing b c is = is

takes : (q : Setup) (f : ℕ) (x : Schedule) (c : Core) → x.plan.contend ≡ q.profile.contend → IsRightful q c → IsRightful q (schedule_accepted q.id f x c)
takes q f x c same is = by_test (x.gap == 0)
  where
    by_test : (b : Bool) → IsRightful q (if b then opening_accepted q.id f x c else closing_accepted q.id f x c)
    by_test true = record { own = is.own; contend = λ plans. same }
    by_test false = record { own = λ host. absurd (false≢true host); contend = λ plans. same }

closes : (q : Setup) (f : ℕ) (part : Part) (b : Bool) (c : Core) (o : Option Message) → ((m : Message) → o ≡ Some m → IsContended q.profile.contend m)
    → IsRightful q c → IsRightful q (closed_slot q f part b c o).core
closes q f part b c None told is = heard q f part b c is
closes q f part b c (Some (ScheduleOf x)) told is = takes q f x c (told (ScheduleOf x) refl) is
closes q f part b c (Some (DataOf d)) told is = heard q f part true c is
closes q f part b c (Some (RequestOf a)) told is = record { own = is.own; contend = is.contend }

-- the script
acts : (q : Setup) (a : Act) (x : State) → IsRightfulState q x → IsRightfulState q (state_after_act a x)
acts q =
    acts_keep (IsRightfulState q) (λ boots is. record { own = λ host. absurd (false≢true host); contend = λ plans. absurd (true≢false plans) })
    (λ c is. tt) (λ a c is. record { own = is.own; contend = is.contend })

lines : (q : Setup) (ls : List ScriptLine) (x : State) → IsRightfulState q x → IsRightfulState q (fold state_after_line x ls)
lines q [] x is = is
lines q (l ∷ ls) x is = lines q ls (state_after_line x l) (acts q l.act x is)

-- the end of a frame
ends : (q : Setup) (f : ℕ) (c : Core) → IsRightful q c → IsRightful q (frame_ended q f c)
ends q f c is = by_tune c.tune refl
  where
    turned : (t : Tune) → Core
    turned t = record c { tune = t; own_slot = None }

    no_host : (host : false ≡ true) → {A : Type 0} → A
    no_host host = absurd (false≢true host)

    by_scan : (r w : ℕ) (joined serves turns : Bool) → (serves ≡ true → q.own ≡ Some r)
        → (let t : Tune = if joined then Scan r 0 else if serves then Host r (f + 1) else if turns then Scan ((r + 1) % q.ranks) 0 else Scan r (w + 1) in
        IsRightful q (as_host q.profile (begins_host (Scan r w) t) (turned t)))
    by_scan r w true serves turns own = record { own = λ host. absurd (false≢true host); contend = λ plans. absurd (true≢false plans) }
    by_scan r w false true turns own = record { own = λ host. own refl; contend = λ plans. refl }
    by_scan r w false false true own = record { own = λ host. absurd (false≢true host); contend = λ plans. absurd (true≢false plans) }
    by_scan r w false false false own = record { own = λ host. absurd (false≢true host); contend = λ plans. absurd (true≢false plans) }

    by_hold : (r due : ℕ) → c.plan.contend ≡ q.profile.contend → (b : Bool)
        → (let t : Tune = if b then Hold r due else Scan r 0 in IsRightful q (as_host q.profile (begins_host (Hold r due) t) (turned t)))
    by_hold r due plan true = record { own = λ host. absurd (false≢true host); contend = λ plans. plan }
    by_hold r due plan false = record { own = λ host. absurd (false≢true host); contend = λ plans. absurd (true≢false plans) }

    by_tune : (t : Tune) → c.tune ≡ t → IsRightful q
        (as_host q.profile (begins_host c.tune (next_tune c.tune f (is_fresh c) q.own q.ranks)) (turned (next_tune c.tune f (is_fresh c) q.own q.ranks)))
    by_tune t at = subst (λ (u : Tune). IsRightful q
        (as_host q.profile (begins_host u (next_tune u f (is_fresh c) q.own q.ranks)) (turned (next_tune u f (is_fresh c) q.own q.ranks)))) (sym at)
        (of_tune t
        (λ host. subst (λ (u : Tune). q.own ≡ Some (rank_of u)) at (is.own (ap hosts at ∙ host)))
        (λ plans. is.contend (ap is_scan at ∙ plans)))
      where
        of_tune : (u : Tune) → (hosts u ≡ true → q.own ≡ Some (rank_of u)) → (is_scan u ≡ false → c.plan.contend ≡ q.profile.contend)
            → IsRightful q (as_host q.profile (begins_host u (next_tune u f (is_fresh c) q.own q.ranks)) (turned (next_tune u f (is_fresh c) q.own q.ranks)))
        of_tune (Host r due) own plan = record { own = own; contend = plan }
        of_tune (Hold r due) own plan = by_hold r due (plan refl) (nat_lt f due)
        of_tune (Scan r w) own plan =
            by_scan r w (is_fresh c) (is_rank q.own r && (w + 1 == 5)) (w + 1 == 12) (λ serves. rank_is q.own r (and_parts (is_rank q.own r) _ serves).0)

ends_state : (q : Setup) (f : ℕ) (x : State) → IsRightfulState q x → IsRightfulState q (at_core (frame_ended q f) x)
ends_state q f (StateOff boots) is = is
ends_state q f (StateOn c) is = ends q f c is

module _ (s : ScenarioParts) where
  told : (f : ℕ) (g : ℕ → State) → ((v : ℕ) → IsRightfulState (setup_of s v) (g v)) → (v : ℕ) → IsRightfulState (setup_of s v) (states_after_script s f g v)
  told f g all v = lines (setup_of s v) (lines_of s f v) (g v) (all v)

  run : (f : ℕ) (g : ℕ → State) → ((v : ℕ) → IsRightfulState (setup_of s v) (g v)) → (v : ℕ) → IsRightfulState (setup_of s v) (rounds s f g v)
  run f g all = rounds_keep s f (λ v x. IsRightfulState (setup_of s v) x) (IsContended s.profile.contend)
      (λ v part c is. opens (setup_of s v) f part c is)
      (λ v part c m is said. says (setup_of s v) f part c m is said)
      (λ v part b c o told is. closes (setup_of s v) f part b c o told is) g all

  before : (f v : ℕ) → IsRightfulState (setup_of s v) (before_frame s f v)
  unfolding before_frame
  before zero v = tt
  before (suc f) v =
      let g = before_frame s f in
      ends_state (setup_of s v) f (rounds s f (states_after_script s f g) v) (run f (states_after_script s f g) (told f g (before f)) v)

  pub rightful : (f v : ℕ) → IsRightfulState (setup_of s v) (state_at s f v)
  rightful f v = told f (before_frame s f) (before f) v

  pub rightful_before : (rank f : ℕ) (p : Plan) (j v : ℕ) → IsRightfulState (setup_of s v) (before_slot s rank f p (state_at s f) j v)
  rightful_before rank f p j v = slots_keep s f (λ v x. IsRightfulState (setup_of s v) x) (IsContended s.profile.contend)
      (λ v part c is. opens (setup_of s v) f part c is)
      (λ v part c m is said. says (setup_of s v) f part c m is said)
      (λ v part b c o told is. closes (setup_of s v) f part b c o told is) rank p (state_at s f) (rightful f) j v

-- a rank has one host
pub one_of_rank : (hosts : List ℕ) (u v rank : ℕ) → own_rank u hosts ≡ Some rank → own_rank v hosts ≡ Some rank → u ≡ v
one_of_rank hosts u v rank first second =
    let a = position-Some (λ h. h == u) hosts rank 0 first in
    let b = position-Some (λ h. h == v) hosts rank 0 second in
    sym (eqb-true (get_or hosts rank 0) u a.1) ∙ eqb-true (get_or hosts rank 0) v b.1
