-- A host leads its round from the opening to the closing, and is the only node that says a schedule in it.
use Rattle.std.proofs.Common.{◌≡◌, ◌<◌, ◌≤◌, ◌==◌, ℕ, zero, suc, List, [], ◌∷◌, Bool, true, false, Option, Some, None, if◌then◌else◌, inl, inr, nat_lt, nat_le}
use Rattle.std.proofs.Common.{add-one, is_some, length, option_and_then, refl, sym, ◌∙◌, ap, arith}
use Rattle.std.specs.List.{find}
use Rattle.std.specs.Option.{option_or}
use Rattle.std.proofs.lemmas.Bool.{false≢true, or_cases, eqb-true, cond_both, cond-true, cond-false, lt-ltb, le-ltb, lt-leb, ne_eqb}
use Rattle.lwb_base.specs.Messages.{Plan, Schedule}
use Rattle.scenario_text.specs.ScenarioParts.{ScenarioParts}
use Rattle.bus_rules.specs.declared.part.Part.{Part}
use Rattle.bus_rules.specs.declared.part.Part.TheVariants.{Opening, Data as DataSlot, Contention, Closing}
use Rattle.bus_rules.specs.declared.tune.Tune.{Tune}
use Rattle.bus_rules.specs.Cores.{Core, Setup, is_member, own_rank}
use Rattle.bus_rules.specs.HostPlans.{host_plan}
use Rattle.bus_rules.specs.Plans.{last_slot, opening}
use Rattle.bus_rules.specs.Slots.{Message, ScheduleOf, DataOf, RequestOf, Opened, opened_slot, closed_slot, part_of, hosts_now, host_closes, silent}
use Rattle.bus_rules.specs.States.{State, StateOff, StateOn}
use Rattle.bus_rules.specs.Tuning.{rank_of, hosts_in, holds_in, rank_of}
use Rattle.bus_rules.proofs.Ranks.{hosts_own}
use Rattle.bus_terms.specs.Bus.{state_at}
use Rattle.bus_terms.specs.FloodOfText.{ids}
use Rattle.bus_terms.specs.Flooding.{has, accepted, moment, STEPS}
use Rattle.bus_terms.specs.Rounds.{Slot, slot_at, opened_at, message_said, accepted_at, closed_slot_of, left_by, before_slot, plan_in, first_node}
use Rattle.scenario_text.specs.Setups.{setup_of}
use Rattle.bus_terms.specs.ScriptedStates.{is_on_and}
use Rattle.bus_terms.proofs.ReceivedByPaths.{in_filtered}
use Rattle.bus_terms.specs.HostedRounds.{IsHosted, slot_in, state_after_round}
use Rattle.bus_terms.proofs.HostsOfRanks.{IsRightfulState, rightful, rightful_before, due_hosts, due_rank, one_of_rank}
use Rattle.bus_terms.proofs.HostsOfRanks.{data_no_schedule, contention_no_schedule}
use Rattle.bus_terms.proofs.SaidByParts.{windowed, window_of, speaks}

-- the only one that passes a test is found
pub found_only : (test : ℕ → Bool) (u : ℕ) → test u ≡ true → ((v : ℕ) → test v ≡ true → v ≡ u) → (xs : List ℕ) → has xs u ≡ true → find test xs ≡ Some u
found_only test u is alone [] there = absurd (false≢true there)
found_only test u is alone (x ∷ xs) there = by_test (test x) refl (found_only test u is alone xs)
  where
    by_test : (b : Bool) → test x ≡ b → (has xs u ≡ true → find test xs ≡ Some u) → (if b then Some x else find test xs) ≡ Some u
    by_test true at later = ap (λ (n : ℕ). Some n) (alone x at)
    by_test false at later = elim (or_cases (x == u) _ there) [
      | inl same ↦ absurd (false≢true (sym at ∙ ap test (eqb-true x u same) ∙ is))
      | inr more ↦ later more
    ]

abbrev pub is_closing : Part → Bool
is_closing Opening = false
is_closing (DataSlot owner) = false
is_closing (Contention i) = false
is_closing Closing = true

pub before_closing : (p : Plan) (j : ℕ) → j < last_slot p → is_closing (part_of p j) ≡ false
before_closing p j early =
    cond_both (j == 0) Opening _ (λ (q : Part). is_closing q ≡ false) (λ _. refl)
    (λ _. cond_both (nat_le j (length p.owners)) (DataSlot _) _ (λ (q : Part). is_closing q ≡ false) (λ _. refl)
    (λ _. ap is_closing (cond-true (nat_lt j (last_slot p)) (Contention _) Closing (lt-ltb j (last_slot p) early))))

pub closing_last : (p : Plan) → part_of p (last_slot p) ≡ Closing
closing_last p =
    let long : length p.owners < last_slot p = omega arith in
    let some : (last_slot p == 0) ≡ false = ne_eqb (last_slot p) 0 (λ is. absurd (omega (arith, is, long))) in
    let past : nat_le (last_slot p) (length p.owners) ≡ false = lt-leb (last_slot p) (length p.owners) long in
    let end : nat_lt (last_slot p) (last_slot p) ≡ false = le-ltb (last_slot p) (last_slot p) (omega arith) in
    cond-false (last_slot p == 0) Opening _ some
    ∙ cond-false (nat_le (last_slot p) (length p.owners)) (DataSlot _) _ past
    ∙ cond-false (nat_lt (last_slot p) (last_slot p)) (Contention _) Closing end

-- what is said in a slot, by a member that is on
pub said_message : (s : ScenarioParts) (rank f : ℕ) (part : Part) (v : ℕ) (x : State) (m : Message) → message_said (opened_at s rank f part v x) ≡ Some m
    → (c : Core) × (x ≡ StateOn c) × (is_member rank f c ≡ true) × ((opened_slot (setup_of s v) f part c).message ≡ Some m)
said_message s rank f part v x m is =
    let o = speaks (opened_at s rank f part v x) (ap (λ (w : Option Message). is_some w) is) in
    let c = window_of s rank f part v x o.0 o.1 in
    (c.0, c.1, c.2, ap (λ (w : Opened). w.message) (sym c.3) ∙ ap message_said (sym o.1) ∙ is)

-- what is accepted was said by such a member
pub heard_from : (s : ScenarioParts) (rank f : ℕ) (p : Plan) (states : ℕ → State) (j : ℕ) (part : Part) → part_of p j ≡ part → (v : ℕ) (m : Message)
    → accepted_at (slot_at s rank f p states j) v ≡ Some m
    → (w : ℕ) × (c : Core) × (before_slot s rank f p states j w ≡ StateOn c) × (is_member rank f c ≡ true)
    × ((opened_slot (setup_of s w) f part c).message ≡ Some m)
heard_from s rank f p states j part at v m said = by_answer (accepted (slot_at s rank f p states j).flood v) said
  where
    before : ℕ → State
    before = before_slot s rank f p states j

    by_answer : (a : Option (ℕ × ℕ)) → option_and_then (λ a. message_said ((slot_at s rank f p states j).window a.0)) a ≡ Some m
        → (w : ℕ) × (c : Core) × (before w ≡ StateOn c) × (is_member rank f c ≡ true) × ((opened_slot (setup_of s w) f part c).message ≡ Some m)
    by_answer None is = absurd (cc)
    by_answer (Some a) is =
        let c = said_message s rank f part a.0 (before a.0) m (ap (λ (q : Part). message_said (opened_at s rank f q a.0 (before a.0))) (sym at) ∙ is) in
        (a.0, c.0, c.1, c.2, c.3)

-- who initiates accepts nothing
pub initiator_accepts_none : (x : Slot) (v : ℕ) → has x.flood.initiators v ≡ true → accepted_at x v ≡ None
initiator_accepts_none x v is =
    ap (λ (a : Option (ℕ × ℕ)). option_and_then (λ a. message_said (x.window a.0)) a)
    (cond-true (has x.flood.initiators v) None ((moment x.flood STEPS).heard v) is)

-- a member's state after the slot
pub left_windowed : (s : ScenarioParts) (rank f : ℕ) (part : Part) (v : ℕ) (x : State) (c : Core) (heard : Option Message) → x ≡ StateOn c
    → is_member rank f c ≡ true → left_by x (closed_slot_of s f part v (opened_at s rank f part v x) heard x)
    ≡ StateOn (closed_slot (setup_of s v) f part (is_some (opened_slot (setup_of s v) f part c).message) (opened_slot (setup_of s v) f part c).core heard).core
left_windowed s rank f part v x c heard on member =
    ap (λ (x : State). left_by x (closed_slot_of s f part v (opened_at s rank f part v x) heard x)) on
    ∙ ap (λ (w : Option Opened). left_by (StateOn c) (closed_slot_of s f part v w heard (StateOn c))) (windowed s rank f part v c member)

-- in a slot before the closing a host that accepts no schedule stays one, with its plan
stays_host : (q : Setup) (f : ℕ) (part : Part) (b : Bool) (c : Core) (heard : Option Message) → is_closing part ≡ false
    → ((y : Schedule) → heard ≡ Some (ScheduleOf y) → ⊥)
    → (let d : Core = (closed_slot q f part b (opened_slot q f part c).core heard).core in (d.tune ≡ c.tune) × (d.plan ≡ c.plan))
stays_host q f Closing b c heard early none = absurd (false≢true (sym early))
stays_host q f part b c (Some (ScheduleOf y)) early none = absurd (none y refl)
stays_host q f Opening b c None early none = (refl, refl)
stays_host q f Opening b c (Some (DataOf d)) early none = (refl, refl)
stays_host q f Opening b c (Some (RequestOf a)) early none = (refl, refl)
stays_host q f (DataSlot owner) b c None early none = (refl, refl)
stays_host q f (DataSlot owner) b c (Some (DataOf d)) early none = (refl, refl)
stays_host q f (DataSlot owner) b c (Some (RequestOf a)) early none = (refl, refl)
stays_host q f (Contention i) b c None early none = (refl, refl)
stays_host q f (Contention i) b c (Some (DataOf d)) early none = (refl, refl)
stays_host q f (Contention i) b c (Some (RequestOf a)) early none = (refl, refl)

-- the node is on, hosts the round of this rank in frame f, and has this plan
pub record Hosting (rank f : ℕ) (p : Plan) (x : State) : Type 0 where
  pub core : Core
  pub on : x ≡ StateOn core
  pub due : hosts_in rank f core.tune ≡ true
  pub plan : core.plan ≡ p

on_core : (test : Core → Bool) (x : State) → is_on_and test x ≡ true → (c : Core) × (x ≡ StateOn c) × (test c ≡ true)
on_core test (StateOff boots) is = absurd (false≢true is)
on_core test (StateOn c) is = (c, refl, is)

own_of : (s : ScenarioParts) (rank f v : ℕ) (x : State) → IsRightfulState (setup_of s v) x → is_on_and (λ c. hosts_in rank f c.tune) x ≡ true
    → own_rank v s.hosts ≡ Some rank
own_of s rank f v (StateOff boots) is due = absurd (false≢true due)
own_of s rank f v (StateOn c) is due = is.own (due_hosts rank f c.tune due) ∙ ap (λ (r : ℕ). Some r) (due_rank rank f c.tune due)

pub host_member : (rank f : ℕ) (c : Core) → hosts_in rank f c.tune ≡ true → is_member rank f c ≡ true
host_member rank f c due = rw due refl

module _ (s : ScenarioParts) (rank f : ℕ) (p : Plan) (host : ℕ) (hosted : IsHosted s rank f p host) where
  abbrev before : ℕ → ℕ → State
  before j = before_slot s rank f p (state_at s f) j

  own : own_rank host s.hosts ≡ Some rank
  own = own_of s rank f host (state_at s f host) (rightful s f host) hosted.due

  pub sole_host : (j v : ℕ) → is_on_and (λ c. hosts_in rank f c.tune) (before_slot s rank f p (state_at s f) j v) ≡ true → v ≡ host
  sole_host j v due = one_of_rank s.hosts v host rank (own_of s rank f v (before j v) (rightful_before s rank f p j v) due) own

  first_sole : (v : ℕ) → is_on_and (λ c. hosts_in rank f c.tune) (state_at s f v) ≡ true → v ≡ host
  first_sole v due = one_of_rank s.hosts v host rank (own_of s rank f v (state_at s f v) (rightful s f v) due) own

  -- the plan of the round is the host's
  pub begins : Hosting rank f p (state_at s f host)
  begins = record { core = at.0; on = at.1; due = at.2; plan = same }
    where
      at : (c : Core) × (state_at s f host ≡ StateOn c) × (hosts_in rank f c.tune ≡ true)
      at = on_core (λ c. hosts_in rank f c.tune) (state_at s f host) hosted.due

      led : first_node s (is_on_and (λ c. hosts_in rank f c.tune)) (state_at s f) ≡ Some host
      led = found_only (λ v. is_on_and (λ c. hosts_in rank f c.tune) (state_at s f v)) host hosted.due first_sole (ids s.nodes) hosted.known

      other : Option ℕ
      other = first_node s (is_on_and (λ c. holds_in rank f c.tune)) (state_at s f)

      planned : plan_in (state_at s f host) ≡ Some p
      planned = sym (ap (λ (o : Option ℕ). option_and_then (λ v. plan_in (state_at s f v)) (option_or o other)) led) ∙ hosted.plan

      same : at.0.plan ≡ p
      same = let is : Some at.0.plan ≡ Some p = sym (ap plan_in at.1) ∙ planned in cc

  -- where it says a schedule, it initiates, and accepts nothing
  pub accepts_none : (j : ℕ) (part : Part) → part_of p j ≡ part → (is : Hosting rank f p (before_slot s rank f p (state_at s f) j host)) (y : Schedule)
      → (opened_slot (setup_of s host) f part is.core).message ≡ Some (ScheduleOf y) → accepted_at (slot_in s rank f p j) host ≡ None
  accepts_none j part at is y says =
      let x : Slot = slot_in s rank f p j in
      let window : x.window host ≡ Some (opened_slot (setup_of s host) f part is.core) =
      ap (λ (q : Part). opened_at s rank f q host (before j host)) at ∙ ap (λ (z : State). opened_at s rank f part host z) is.on
      ∙ windowed s rank f part host is.core (host_member rank f is.core is.due) in
      let initiates : has x.flood.initiators host ≡ true =
      in_filtered (λ v. is_some (message_said (x.window v))) (ids s.nodes) host hosted.known
      (ap (λ (w : Option Opened). is_some (message_said w)) window ∙ ap (λ (o : Option Message). is_some o) says) in
      initiator_accepts_none x host initiates

  pub opening_said : (is : Hosting rank f p (before_slot s rank f p (state_at s f) 0 host))
      → (opened_slot (setup_of s host) f Opening is.core).message ≡ Some (ScheduleOf (opening is.core.plan))
  opening_said is = cond-true (hosts_now f is.core) _ None (hosts_own rank f is.core.tune is.due)

  pub closing_opens : (is : Hosting rank f p (before_slot s rank f p (state_at s f) (last_slot p) host))
      → opened_slot (setup_of s host) f Closing is.core ≡ host_closes (setup_of s host) f is.core
  closing_opens is = cond-true (hosts_now f is.core) (host_closes (setup_of s host) f is.core) (silent is.core) (hosts_own rank f is.core.tune is.due)

  -- a schedule is said by the host alone, in a slot of schedules
  no_schedule : (j : ℕ) (part : Part) → part_of p j ≡ part → is_closing part ≡ false → Hosting rank f p (before j host)
      → (y : Schedule) → accepted_at (slot_in s rank f p j) host ≡ Some (ScheduleOf y) → ⊥
  no_schedule j Closing at early is y said = false≢true (sym early)
  no_schedule j Opening at early is y said =
      let says : (opened_slot (setup_of s host) f Opening is.core).message ≡ Some (ScheduleOf (opening is.core.plan)) =
      cond-true (hosts_now f is.core) _ None (hosts_own rank f is.core.tune is.due) in
      let none = accepts_none j Opening at is (opening is.core.plan) says in
      cc
  no_schedule j (DataSlot owner) at early is y said =
      let m = heard_from s rank f p (state_at s f) j (DataSlot owner) at host (ScheduleOf y) said in data_no_schedule (setup_of s m.0) f owner m.1 y m.4
  no_schedule j (Contention i) at early is y said =
      let m = heard_from s rank f p (state_at s f) j (Contention i) at host (ScheduleOf y) said in contention_no_schedule (setup_of s m.0) f i m.1 y m.4

  -- it leads the round before each of its slots
  pub leads : (j : ℕ) → j ≤ last_slot p → Hosting rank f p (before_slot s rank f p (state_at s f) j host)
  unfolding before_slot
  leads zero early = begins
  leads (suc j) early = next (leads j (omega (arith, early)))
    where
      next : Hosting rank f p (before j host) → Hosting rank f p (before (suc j) host)
      next is =
          let part : Part = part_of p j in
          let o = opened_slot (setup_of s host) f part is.core in
          let heard = accepted_at (slot_in s rank f p j) host in
          let open_still = before_closing p j (omega (arith, early)) in
          let same = stays_host (setup_of s host) f part (is_some o.message) is.core heard open_still (no_schedule j part refl open_still is) in
          record {
            core = (closed_slot (setup_of s host) f part (is_some o.message) o.core heard).core;
            on = left_windowed s rank f part host (before j host) is.core heard is.on (host_member rank f is.core is.due);
            due = ap (λ (t : Tune). hosts_in rank f t) same.0 ∙ is.due;
            plan = same.1 ∙ is.plan;
          }

  -- and after the closing it goes by the plan that it made
  pub has_planned : (is : Hosting rank f p (before_slot s rank f p (state_at s f) (last_slot p) host))
      → state_after_round s rank f p host ≡ StateOn (host_closes (setup_of s host) f is.core).core
  unfolding before_slot
  has_planned is =
      let j = last_slot p in
      let opens = closing_opens is in
      let plan = host_plan s.profile host is.core.boot (rank_of is.core.tune) f is.core.kept is.core.table is.core.streams in
      let none = accepts_none j Closing (closing_last p) is (record { plan = plan.plan; gap = plan.gap }) (ap (λ (o : Opened). o.message) opens) in
      ap (λ (i : ℕ). before_slot s rank f p (state_at s f) i host) (add-one j)
      ∙ ap (λ (h : Option Message). left_by (before j host) (closed_slot_of s f (part_of p j) host (opened_at s rank f (part_of p j) host (before j host)) h
      (before j host))) none
      ∙ ap (λ (q : Part). left_by (before j host) (closed_slot_of s f q host (opened_at s rank f q host (before j host)) None (before j host))) (closing_last p)
      ∙ left_windowed s rank f Closing host (before j host) is.core None is.on (host_member rank f is.core is.due)
      ∙ ap (λ (o : Opened). StateOn o.core) opens
