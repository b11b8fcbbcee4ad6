-- A node stays of its rank through each round, and its rank is one of the scenario.
use Rattle.std.proofs.Common.{◌≡◌, ◌<◌, ◌≤◌, ◌+◌, ◌%◌, ◌&&◌, ◌==◌, ℕ, zero, suc, List, [], ◌∷◌, Bool, true, false, Option, Some, None, nat_lt, if◌then◌else◌}
use Rattle.std.proofs.Common.{length, fold, is_some, option_map, option_and_then, inl, inr, refl, sym, ◌∙◌, ap, subst, arith, mod-lt}
use Rattle.std.specs.Prelude.{◌⊎◌}
use Rattle.std.proofs.lemmas.Bool.{cases_Bool, cases_eq, eqb-true, ne_eqb, true≢false}
use Rattle.lwb_base.specs.Messages.{Plan, Schedule, node_of, stream_of}
use Rattle.scenario_text.specs.ScenarioParts.{ScenarioParts}
use Rattle.bus_rules.specs.declared.act.Act.{Act}
use Rattle.scenario_text.specs.declared.script.ScriptLine.{ScriptLine}
use Rattle.lwb_base.specs.Profile.{Numbers}
use Rattle.bus_rules.specs.declared.part.Part.{Part}
use Rattle.bus_rules.specs.declared.part.Part.TheVariants.{Opening, Data as DataSlot, Contention, Closing}
use Rattle.bus_rules.specs.declared.tune.Tune.{Tune}
use Rattle.bus_rules.specs.declared.tune.Tune.TheVariants.{Scan, Hold, Host}
use Rattle.bus_rules.specs.Cores.{Core, Setup, as_host, begins_host, frame_ended, is_fresh, is_member, opening_accepted, closing_accepted, schedule_accepted}
use Rattle.bus_rules.specs.HostPlans.{host_plan}
use Rattle.bus_rules.specs.Plans.{last_slot, opening}
use Rattle.bus_rules.specs.Slots.{Message, ScheduleOf, DataOf, RequestOf, opened_slot, closed_slot, hosts_now, host_closes, silent, is_own, data_of}
use Rattle.bus_rules.specs.Slots.{part_of, request_of}
use Rattle.bus_rules.specs.States.{State, StateOff, StateOn, at_core, state_after_act}
use Rattle.bus_rules.specs.Streams.{WaitingPacket, first_waiting, requested}
use Rattle.bus_rules.specs.Tuning.{rank_of, is_rank, next_tune}
use Rattle.bus_rules.proofs.Ranks.{same_schedule, heard_rank}
use Rattle.bus_rules.proofs.Switches.{acts_keep}
use Rattle.bus_terms.specs.Bus.{before_frame, state_at}
use Rattle.bus_terms.specs.Flooding.{accepted}
use Rattle.bus_terms.specs.Rounds.{accepted_at, after_round, after_slot, before_slot, closed_slot_of, left_by, opened_at, rank_in, round_of_rank, round_plan}
use Rattle.bus_terms.specs.Rounds.{rounds, message_said, slot_of_round}
use Rattle.scenario_text.specs.Setups.{setup_of}
use Rattle.bus_terms.specs.ScriptedStates.{state_after_line, lines_of, states_after_script}
use Rattle.bus_terms.proofs.OtherRanks.{IsElsewhere, not_member, slot_elsewhere}

-- a schedule by which no tune changes, or one of this rank
abbrev IsOfRank : ℕ → Message → Type 0
IsOfRank rank (ScheduleOf x) = ((x.gap == 0) ≡ true) ⊎ (x.plan.rank ≡ rank)
IsOfRank rank (DataOf d) = Unit {0}
IsOfRank rank (RequestOf a) = Unit {0}

-- a window opens and closes
opened_rank : (q : Setup) (f : ℕ) (part : Part) (c : Core) → rank_of (opened_slot q f part c).core.tune ≡ rank_of c.tune
opened_rank q f Opening c = refl
opened_rank q f (DataSlot owner) c = refl
opened_rank q f (Contention i) c = refl
opened_rank q f Closing c = by_test (hosts_now f c)
  where
    by_test : (b : Bool) → rank_of (if b then host_closes q f c else silent c).core.tune ≡ rank_of c.tune
    by_test true = refl
    by_test false = refl

said_rank : (q : Setup) (f : ℕ) (part : Part) (c : Core) (m : Message) → (opened_slot q f part c).message ≡ Some m → IsOfRank (rank_of c.tune) m
unfolding host_plan
said_rank q f part c (DataOf d) said = tt
said_rank q f part c (RequestOf a) said = tt
said_rank q f Opening c (ScheduleOf x) said = by_test (hosts_now f c) said
  where
    by_test : (b : Bool) → (if b then Some (ScheduleOf (opening c.plan)) else None) ≡ Some (ScheduleOf x) → IsOfRank (rank_of c.tune) (ScheduleOf x)
    by_test true is = inl (ap (λ (y : Schedule). y.gap == 0) (sym (same_schedule (opening c.plan) x is)))
    by_test false is = absurd (cc)
said_rank q f (DataSlot owner) c (ScheduleOf x) said = absurd (by_owner (node_of owner == q.id) (first_waiting c.streams (stream_of owner)) said)
  where
    by_owner : (b : Bool) (w : Option WaitingPacket) → (if b then option_map (data_of q.id c (stream_of owner)) w else None) ≡ Some (ScheduleOf x) → ⊥
    by_owner false w is = cc
    by_owner true None is = cc
    by_owner true (Some w) is = cc
said_rank q f (Contention i) c (ScheduleOf x) said = absurd (by_own (is_own c.own_slot i) (requested c.streams) said)
  where
    by_own : (b : Bool) (w : Option ℕ) → (if b then option_map (request_of q.id c) w else None) ≡ Some (ScheduleOf x) → ⊥
    by_own false w is = cc
    by_own true None is = cc
    by_own true (Some w) is = cc
said_rank q f Closing c (ScheduleOf x) said = by_test (hosts_now f c) said
  where
    by_test : (b : Bool) → (if b then host_closes q f c else silent c).message ≡ Some (ScheduleOf x) → IsOfRank (rank_of c.tune) (ScheduleOf x)
    by_test true is =
        let h = host_plan q.profile q.id c.boot (rank_of c.tune) f c.kept c.table c.streams in
        inr (ap (λ (y : Schedule). y.plan.rank) (sym (same_schedule (record { plan = h.plan; gap = h.gap }) x is)))
    by_test false is = absurd (cc)

taken_rank : (node rank f : ℕ) (x : Schedule) (c : Core) → rank_of c.tune ≡ rank → IsOfRank rank (ScheduleOf x)
    → rank_of (schedule_accepted node f x c).tune ≡ rank
taken_rank node rank f x c at of_ = by_test (x.gap == 0) refl
  where
    by_test : (b : Bool) → (x.gap == 0) ≡ b → rank_of (if b then opening_accepted node f x c else closing_accepted node f x c).tune ≡ rank
    by_test true is = at
    by_test false is = elim of_ [ inl opens ↦ absurd (true≢false (sym opens ∙ is)) | inr same ↦ same ]

closed_rank : (q : Setup) (rank f : ℕ) (part : Part) (b : Bool) (c : Core) (o : Option Message) → ((m : Message) → o ≡ Some m → IsOfRank rank m)
    → rank_of c.tune ≡ rank → rank_of (closed_slot q f part b c o).core.tune ≡ rank
closed_rank q rank f part b c None told at = heard_rank f part b c ∙ at
closed_rank q rank f part b c (Some (ScheduleOf x)) told at = taken_rank q.id rank f x c at (told (ScheduleOf x) refl)
closed_rank q rank f part b c (Some (DataOf d)) told at = heard_rank f part true c ∙ at
closed_rank q rank f part b c (Some (RequestOf a)) told at = at

-- a member is of the rank
pub member_of : (rank f : ℕ) (c : Core) → is_member rank f c ≡ true → rank_of c.tune ≡ rank
member_of rank f c is =
    elim (cases_eq (rank_of c.tune) rank) [
      | inl same ↦ same
      | inr other ↦ absurd (true≢false (sym is ∙ not_member rank f c.tune (is_fresh c) (ne_eqb (rank_of c.tune) rank other)))
    ]

-- slot by slot
module _ (s : ScenarioParts) (rank f : ℕ) where
  window_says : (part : Part) (v : ℕ) (x : State) (m : Message) → message_said (opened_at s rank f part v x) ≡ Some m → IsOfRank rank m
  window_says part v (StateOff boots) m said = absurd (cc)
  window_says part v (StateOn c) m said = by_member (is_member rank f c) refl said
    where
      by_member : (b : Bool) → is_member rank f c ≡ b → message_said (if b then Some (opened_slot (setup_of s v) f part c) else None) ≡ Some m → IsOfRank rank m
      by_member true is said = subst (λ (r : ℕ). IsOfRank r m) (member_of rank f c is) (said_rank (setup_of s v) f part c m said)
      by_member false is said = absurd (cc)

  closing_rank : (part : Part) (v : ℕ) (heard : Option Message) (x : State) → ((m : Message) → heard ≡ Some m → IsOfRank rank m) → rank_in x ≡ rank
      → rank_in (left_by x (closed_slot_of s f part v (opened_at s rank f part v x) heard x)) ≡ rank
  closing_rank part v None (StateOff boots) told at = at
  closing_rank part v (Some m) (StateOff boots) told at = at
  closing_rank part v heard (StateOn c) told at = by_member (is_member rank f c) heard told
    where
      by_member : (b : Bool) (heard : Option Message) → ((m : Message) → heard ≡ Some m → IsOfRank rank m)
          → rank_in (left_by (StateOn c) (closed_slot_of s f part v (if b then Some (opened_slot (setup_of s v) f part c) else None) heard (StateOn c))) ≡ rank
      by_member true heard told =
          let o = opened_slot (setup_of s v) f part c in
          closed_rank (setup_of s v) rank f part (is_some o.message) o.core heard told (opened_rank (setup_of s v) f part c ∙ at)
      by_member false None told = at
      by_member false (Some m) told = closed_rank (setup_of s v) rank f part false c (Some m) told at

  heard_said : (p : Plan) (j v : ℕ) (g : ℕ → State) (m : Message) → accepted_at (slot_of_round s rank f p j g) v ≡ Some m → IsOfRank rank m
  heard_said p j v g m is = by_first (accepted (slot_of_round s rank f p j g).flood v) is
    where
      by_first : (o : Option (ℕ × ℕ)) → option_and_then (λ (a : ℕ × ℕ). message_said (opened_at s rank f (part_of p j) a.0 (g a.0))) o ≡ Some m
          → IsOfRank rank m
      by_first None is = absurd (cc)
      by_first (Some a) is = window_says (part_of p j) a.0 (g a.0) m is

  pub elsewhere : (x : State) → (rank_in x == rank) ≡ false → IsElsewhere rank x
  elsewhere (StateOff boots) is = tt
  elsewhere (StateOn c) is = is

  slot_rank : (p : Plan) (j v : ℕ) (g : ℕ → State) → rank_in (after_slot s rank f p j g v) ≡ rank_in (g v)
  slot_rank p j v g =
      elim (cases_Bool (rank_in (g v) == rank)) [
        | inl same ↦
            (let at = eqb-true (rank_in (g v)) rank same in
            closing_rank (part_of p j) v (accepted_at (slot_of_round s rank f p j g) v) (g v) (heard_said p j v g) at ∙ sym at)
        | inr other ↦ ap rank_in (slot_elsewhere s rank f p j v g (elsewhere (g v) other))
      ]

  slots_rank : (p : Plan) (states : ℕ → State) (j v : ℕ) → rank_in (before_slot s rank f p states j v) ≡ rank_in (states v)
  unfolding before_slot
  slots_rank p states zero v = refl
  slots_rank p states (suc j) v = slot_rank p j v (before_slot s rank f p states j) ∙ slots_rank p states j v

  pub round_rank : (states : ℕ → State) (v : ℕ) → rank_in (round_of_rank s rank f states v) ≡ rank_in (states v)
  round_rank states v = by_plan (round_plan s rank f states)
    where
      by_plan : (o : Option Plan) → rank_in (after_round s rank f states o v) ≡ rank_in (states v)
      by_plan None = refl
      by_plan (Some p) = slots_rank p states (last_slot p + 1) v

-- the script
acts : (r : ℕ) → 1 ≤ r → (a : Act) (x : State) → rank_in x < r → rank_in (state_after_act a x) < r
acts r some = acts_keep (λ x. rank_in x < r) (λ boots below. omega (arith, some)) (λ c below. omega (arith, some)) (λ a c below. below)

lines : (r : ℕ) → 1 ≤ r → (ls : List ScriptLine) (x : State) → rank_in x < r → rank_in (fold state_after_line x ls) < r
lines r some [] x below = below
lines r some (l ∷ ls) x below = lines r some ls (state_after_line x l) (acts r some l.act x below)

-- the end of a frame
as_host_rank : (p : Numbers) (o : Option ℕ) (c : Core) → rank_of (as_host p o c).tune ≡ rank_of c.tune
as_host_rank p None c = refl
as_host_rank p (Some rank) c = refl

next_rank : (t : Tune) (f : ℕ) (joined : Bool) (own : Option ℕ) (ranks : ℕ) → 1 ≤ ranks → rank_of t < ranks → rank_of (next_tune t f joined own ranks) < ranks
next_rank (Host r due) f joined own ranks some below = below
next_rank (Hold r due) f joined own ranks some below = by_due (nat_lt f due)
  where
    by_due : (b : Bool) → rank_of (if b then Hold r due else Scan r 0) < ranks
    by_due true = below
    by_due false = below
next_rank (Scan r w) f joined own ranks some below = by_tests joined (is_rank own r && (w + 1 == 5)) (w + 1 == 12)
  where
    by_tests : (joins serves turns : Bool)
        → rank_of (if joins then Scan r 0 else if serves then Host r (f + 1) else if turns then Scan ((r + 1) % ranks) 0 else Scan r (w + 1)) < ranks
    by_tests true serves turns = below
    by_tests false true turns = below
    by_tests false false true = mod-lt (r + 1) (omega (arith, some))
    by_tests false false false = below

ends : (q : Setup) (f : ℕ) → 1 ≤ q.ranks → (x : State) → rank_in x < q.ranks → rank_in (at_core (frame_ended q f) x) < q.ranks
ends q f some (StateOff boots) below = below
ends q f some (StateOn c) below =
    let tune = next_tune c.tune f (is_fresh c) q.own q.ranks in
    subst (λ (r : ℕ). r < q.ranks) (sym (as_host_rank q.profile (begins_host c.tune tune) (record c { tune = tune; own_slot = None })))
    (next_rank c.tune f (is_fresh c) q.own q.ranks some below)

module _ (s : ScenarioParts) (some_hosts : 1 ≤ length s.hosts) where
  told_rank : (f v : ℕ) (g : ℕ → State) → rank_in (g v) < length s.hosts → rank_in (states_after_script s f g v) < length s.hosts
  told_rank f v g below = lines (length s.hosts) some_hosts (lines_of s f v) (g v) below

  frame_rank : (f v : ℕ) → rank_in (before_frame s f v) < length s.hosts
  unfolding before_frame
  frame_rank zero v = some_hosts
  frame_rank (suc f) v =
      let g = states_after_script s f (before_frame s f) in
      ends (setup_of s v) f some_hosts (rounds s f g v)
      (subst (λ (r : ℕ). r < length s.hosts) (sym (round_rank s (rank_in (g v)) f g v)) (told_rank f v (before_frame s f) (frame_rank f v)))

  -- at the start of each frame
  pub hosted : (f v : ℕ) → rank_in (state_at s f v) < length s.hosts
  hosted f v = told_rank f v (before_frame s f) (frame_rank f v)
