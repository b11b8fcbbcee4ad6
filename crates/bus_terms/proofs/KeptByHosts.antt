-- What a host keeps in the contention slots of its round: one request of each at most, so that there is room for the next.
use Rattle.std.proofs.Common.{◌≡◌, ◌<◌, ◌≤◌, ◌+◌, ◌-◌, ◌==◌, ℕ, zero, suc, Bool, true, false, inl, inr, Some, None}
use Rattle.std.proofs.Common.{is_some, length, nat_le, add-zero, add-suc, refl, sym, ◌∙◌, ap, subst, arith}
use Rattle.std.proofs.lemmas.Bool.{false≢true, cond_both, cond-true, cases_lt, le-leb, eqb-false}
use Rattle.lwb_base.specs.Messages.{Ask, Plan, Schedule}
use Rattle.scenario_text.specs.ScenarioParts.{ScenarioParts}
use Rattle.bus_rules.specs.declared.part.Part.{Part}
use Rattle.bus_rules.specs.declared.part.Part.TheVariants.{Opening, Data as DataSlot, Contention, Closing}
use Rattle.bus_rules.specs.Cores.{Core}
use Rattle.bus_rules.specs.Plans.{last_slot, slots_named, opening}
use Rattle.bus_rules.specs.Slots.{Message, Data, ScheduleOf, DataOf, RequestOf, opened_slot, closed_slot, part_of, hosts_now}
use Rattle.bus_rules.specs.States.{State, StateOn}
use Rattle.bus_rules.proofs.Ranks.{hosts_own}
use Rattle.bus_terms.specs.Bus.{state_at}
use Rattle.bus_terms.specs.Rounds.{accepted_at, opened_at, closed_slot_of, left_by, before_slot}
use Rattle.scenario_text.specs.Setups.{setup_of}
use Rattle.bus_terms.specs.HostedRounds.{IsHosted, slot_in}
use Rattle.bus_terms.proofs.ContentionSlots.{contention_at, IsRequest, requests, only_requests, only_data}
use Rattle.bus_terms.proofs.ContentionSlots.{few_more, kept_by, keeps_by, keeps_none, own_of, own_stays}
use Rattle.bus_terms.proofs.HostedRounds.{Hosting, leads, heard_from, host_member, left_windowed, accepts_none}
use Rattle.bus_terms.proofs.HostsOfRanks.{rightful_before, due_plans, IsRightfulState}
use Rattle.bus_terms.proofs.KeptNone.{kept_of, keeps_nothing}

-- each round has a contention slot
some_named : (contend : ℕ) → 1 ≤ slots_named contend
some_named contend = cond_both (contend == 0) 1 contend (λ (n : ℕ). 1 ≤ n) (λ none. omega arith)
    (λ some. (let is = eqb-false contend 0 some in omega (arith, is)))

module _ (s : ScenarioParts) (rank f : ℕ) (p : Plan) where
  abbrev before : ℕ → ℕ → State
  before j = before_slot s rank f p (state_at s f) j

  -- what is accepted in one is a request of another
  pub request_from : (m v : ℕ) → length p.owners < m → m < last_slot p → (o : Message) → accepted_at (slot_in s rank f p m) v ≡ Some o
      → (b : Ask) × (o ≡ RequestOf b) × ((w : ℕ) × (c : Core) × (before m w ≡ StateOn c) × IsRequest w (m - length p.owners) c b)
  request_from m v late early o said =
      let from = heard_from s rank f p (state_at s f) m (Contention (m - length p.owners)) (contention_at p m late early) v o said in
      let only = only_requests (setup_of s from.0) f (m - length p.owners) from.1 o from.4 in
      let as_said : (opened_slot (setup_of s from.0) f (Contention (m - length p.owners)) from.1).message ≡ Some (RequestOf only.0) =
      from.4 ∙ ap (λ (n : Message). Some n) only.1 in
      (only.0, only.1, (from.0, from.1, from.2, requests (setup_of s from.0) f (m - length p.owners) from.1 only.0 as_said))

  no_schedule : (m v : ℕ) → length p.owners < m → m < last_slot p → (y : Schedule) → accepted_at (slot_in s rank f p m) v ≡ Some (ScheduleOf y) → ⊥
  no_schedule m v late early y said = (let b = request_from m v late early (ScheduleOf y) said in let is = b.1 in cc)

  own_next : (m v : ℕ) → length p.owners < m → m < last_slot p → own_of (before (suc m) v) ≡ own_of (before m v)
  unfolding before_slot
  own_next m v late early =
      ap (λ (q : Part). own_of (left_by (before m v) (closed_slot_of s f q v (opened_at s rank f q v (before m v)) (accepted_at (slot_in s rank f p m) v)
      (before m v)))) (contention_at p m late early)
      ∙ own_stays s rank f (m - length p.owners) v (before m v) (accepted_at (slot_in s rank f p m) v) (λ y said. no_schedule m v late early y said)

  -- a node's own slot is one and the same in all contention slots of the round
  pub own_same : (j v n : ℕ) → length p.owners < j → j + n < last_slot p → own_of (before (j + n) v) ≡ own_of (before j v)
  own_same j v zero late early = ap (λ (i : ℕ). own_of (before i v)) (add-zero j)
  own_same j v (suc n) late early =
      ap (λ (i : ℕ). own_of (before i v)) (add-suc j n) ∙ own_next (j + n) v (omega (arith, late)) (omega (arith, early))
      ∙ own_same j v n late (omega (arith, early))

  module _ (host : ℕ) (hosted : IsHosted s rank f p host) where
    -- the host's state after a contention slot
    pub slot_kept : (m : ℕ) → length p.owners < m → m < last_slot p → (is : Hosting rank f p (before m host))
        → (d : Core) × (before (suc m) host ≡ StateOn d) × (d.kept ≡ kept_by (setup_of s host) f is.core (accepted_at (slot_in s rank f p m) host))
        × (d.table ≡ is.core.table)
    unfolding before_slot
    slot_kept m late early is =
        let part = Contention (m - length p.owners) in
        let o = opened_slot (setup_of s host) f part is.core in
        let heard = accepted_at (slot_in s rank f p m) host in
        let same = keeps_by (setup_of s host) f (m - length p.owners) (is_some o.message) is.core heard (λ y said. no_schedule m host late early y said) in (
          (closed_slot (setup_of s host) f part (is_some o.message) o.core heard).core,
          ap (λ (q : Part). left_by (before m host) (closed_slot_of s f q host (opened_at s rank f q host (before m host)) heard (before m host)))
              (contention_at p m late early)
              ∙ left_windowed s rank f part host (before m host) is.core heard is.on (host_member rank f is.core is.due),
          same.0,
          same.1,
        )

    -- before the contention slots it keeps none
    part_early : (m : ℕ) → m ≤ length p.owners → (is_waiting : Part → Bool) → is_waiting Opening ≡ true → ((owner : ℕ) → is_waiting (DataSlot owner) ≡ true)
        → is_waiting (part_of p m) ≡ true
    part_early m few is_waiting opens owned =
        cond_both (m == 0) Opening _ (λ (q : Part). is_waiting q ≡ true) (λ _. opens)
        (λ _. ap is_waiting (cond-true (nat_le m (length p.owners)) (DataSlot _) _ (le-leb m (length p.owners) few)) ∙ owned _)

    kept_early : (m : ℕ) → m ≤ length p.owners → (is : Hosting rank f p (before m host)) → kept_of (before (suc m) host) ≡ is.core.kept
    unfolding before_slot
    kept_early m few is = by_part (part_of p m) refl (part_early m few first refl (λ owner. refl))
      where
        first : Part → Bool
        first Opening = true
        first (DataSlot owner) = true
        first (Contention i) = false
        first Closing = false

        kept_with : (part : Part) → part_of p m ≡ part → ((i : ℕ) → part ≡ Contention i → ⊥) → (part ≡ Closing → ⊥)
            → ((y : Schedule) → accepted_at (slot_in s rank f p m) host ≡ Some (ScheduleOf y) → ⊥)
            → ((a : Ask) → accepted_at (slot_in s rank f p m) host ≡ Some (RequestOf a) → ⊥) → kept_of (before (suc m) host) ≡ is.core.kept
        kept_with part at soon still none more =
            let o = opened_slot (setup_of s host) f part is.core in
            let heard = accepted_at (slot_in s rank f p m) host in
            ap (λ (q : Part). kept_of
            (left_by (before m host) (closed_slot_of s f q host (opened_at s rank f q host (before m host)) heard (before m host)))) at
            ∙ ap kept_of (left_windowed s rank f part host (before m host) is.core heard is.on (host_member rank f is.core is.due))
            ∙ keeps_none (setup_of s host) f part (is_some o.message) is.core heard soon still none more

        by_part : (part : Part) → part_of p m ≡ part → first (part_of p m) ≡ true → kept_of (before (suc m) host) ≡ is.core.kept
        by_part Closing at early = absurd (false≢true (ap first (sym at) ∙ early))
        by_part (Contention i) at early = absurd (false≢true (ap first (sym at) ∙ early))
        by_part Opening at early =
            let says : (opened_slot (setup_of s host) f Opening is.core).message ≡ Some (ScheduleOf (opening is.core.plan)) =
            cond-true (hosts_now f is.core) _ None (hosts_own rank f is.core.tune is.due) in
            let none = accepts_none s rank f p host hosted m Opening at is (opening is.core.plan) says in
            kept_with Opening at (λ i same. cc) (λ same. cc) (λ y said. cc) (λ a said. cc)
        by_part (DataSlot owner) at early = kept_with (DataSlot owner) at (λ i same. cc) (λ same. cc)
            (λ y said. (let d = data_from (ScheduleOf y) said in let is = d.1 in cc))
            (λ a said. (let d = data_from (RequestOf a) said in let is = d.1 in cc))
          where
            data_from : (o : Message) → accepted_at (slot_in s rank f p m) host ≡ Some o → (d : Data) × (o ≡ DataOf d)
            data_from o said =
                let from = heard_from s rank f p (state_at s f) m (DataSlot owner) at host o said in
                only_data (setup_of s from.0) f owner from.1 o from.4

    -- one more at most in each contention slot
    bound : (m : ℕ) → m ≤ last_slot p → length (kept_of (before m host)) ≤ m - (length p.owners + 1)
    unfolding before_slot
    bound zero early = let none = ap length (keeps_nothing s host hosted.known f) in omega (arith, none)
    bound (suc m) early = elim (cases_lt (length p.owners) m) [
      | inl late ↦
          (let d = slot_kept m late early (leads s rank f p host hosted m (omega (arith, early))) in
          let lead = leads s rank f p host hosted m (omega (arith, early)) in
          let now = ap (λ (x : State). length (kept_of x)) d.1 in
          let same = ap length d.2 in
          let more = few_more (setup_of s host) f lead.core (accepted_at (slot_in s rank f p m) host) in
          let was = ap (λ (x : State). length (kept_of x)) lead.on in
          let few = bound m (omega (arith, early)) in
          omega (arith, now, same, more, was, few, late))
      | inr soon ↦
          (let lead = leads s rank f p host hosted m (omega (arith, early)) in
          let same = ap length (kept_early m soon lead) in
          let was = ap (λ (x : State). length (kept_of x)) lead.on in
          let few = bound m (omega (arith, early)) in
          omega (arith, same, was, few, soon))
    ]

    -- so there is room for another
    pub room : (j : ℕ) → j < last_slot p → (is : Hosting rank f p (before j host)) → length is.core.kept < slots_named s.profile.contend
    room j early is =
        let few = bound j (omega (arith, early)) in
        let was = ap (λ (x : State). length (kept_of x)) is.on in
        let rightful : IsRightfulState (setup_of s host) (StateOn is.core) =
        subst (λ (x : State). IsRightfulState (setup_of s host) x) is.on (rightful_before s rank f p j host) in
        let contend : p.contend ≡ s.profile.contend = ap (λ (q : Plan). q.contend) (sym is.plan) ∙ rightful.contend (due_plans rank f is.core.tune is.due) in
        let named : slots_named p.contend ≡ slots_named s.profile.contend = ap slots_named contend in
        omega (arith, few, was, named, early, some_named s.profile.contend)
