-- In a round of frame f the next due frame of a node lies from f to four frames later, and who hosts a rank never holds it nor
-- accepts a schedule of it.
use Rattle.std.proofs.Common.{◌≡◌, ◌<◌, ◌≤◌, ◌+◌, ◌==◌, ℕ, Bool, true, false, inl, inr, Option, Some, None, if◌then◌else◌, is_some, refl, sym, ◌∙◌, ap, subst}
use Rattle.std.proofs.Common.{arith, ◌⊎◌}
use Rattle.law_times.proofs.Words.{false≢true, eqb-true, Plan, Schedule, ScenarioParts, Part, Opening, DataSlot, Contention, Closing, Tune, Scan, Hold, Host}
use Rattle.law_times.proofs.Words.{Core, Setup, is_member, own_rank, opening_accepted, closing_accepted, host_plan, last_slot, opening, Message, ScheduleOf}
use Rattle.law_times.proofs.Words.{DataOf, RequestOf, opened_slot, closed_slot, hosts_now, host_closes, silent, slot_heard, State, StateOff, StateOn, rank_of}
use Rattle.law_times.proofs.Words.{scans, same_schedule, planned_rank, host_now, state_at, after_round, before_slot, rounds, round_plan, rank_in, setup_of}
use Rattle.law_times.proofs.Words.{is_on_and, IsRightful, one_of_rank, data_no_schedule, contention_no_schedule, member_of}
use Rattle.law_times.proofs.HostedFrames.{plan_gap}
use Rattle.law_times.proofs.SlotInvariants.{Told, keeps}

-- the tune of a node that hosts this rank, if it does, in a round of frame f, before which its round of this frame was due or not
abbrev pub IsInRange : ℕ → Option ℕ → Bool → Tune → Option ℕ → Type 0
IsInRange f own due (Host q d) fresh = (f ≤ d) × (d ≤ f + 4) × (d ≡ f → due ≡ true)
IsInRange f own due (Hold q d) fresh = (f ≤ d) × (d ≤ f + 4) × (own ≡ Some q → ⊥)
IsInRange f own due (Scan q w) fresh = (w < 12) × (own ≡ Some q → (w < 5) × (fresh ≡ None))

-- a schedule of this rank, said by its host, whose next round comes in at most four frames
abbrev pub IsOfHost : ScenarioParts → ℕ → ℕ → Message → Type 0
IsOfHost s rank w (ScheduleOf y) = (own_rank w s.hosts ≡ Some rank) × (y.gap ≤ 4) × (((y.gap == 0) ≡ true) ⊎ (y.plan.rank ≡ rank))
IsOfHost s rank w (DataOf d) = Unit {0}
IsOfHost s rank w (RequestOf a) = Unit {0}

module _ (s : ScenarioParts) (rank f : ℕ) where
  abbrev q_of : ℕ → Setup
  q_of v = setup_of s v

  says : (v : ℕ) (part : Part) (c : Core) (m : Message) → is_member rank f c ≡ true → IsRightful (q_of v) c
      → (opened_slot (q_of v) f part c).message ≡ Some m → IsOfHost s rank v m
  says v part c (DataOf d) member is said = tt
  says v part c (RequestOf a) member is said = tt
  says v (DataSlot owner) c (ScheduleOf y) member is said = absurd (data_no_schedule (q_of v) f owner c y said)
  says v (Contention i) c (ScheduleOf y) member is said = absurd (contention_no_schedule (q_of v) f i c y said)
  says v Opening c (ScheduleOf y) member is said = by_test (hosts_now f c) refl said
    where
      by_test : (b : Bool) → hosts_now f c ≡ b → (if b then Some (ScheduleOf (opening c.plan)) else None) ≡ Some (ScheduleOf y)
          → IsOfHost s rank v (ScheduleOf y)
      by_test false now said = absurd (cc)
      by_test true now said =
          let same : opening c.plan ≡ y = same_schedule (opening c.plan) y said in
          subst (λ (x : Schedule). IsOfHost s rank v (ScheduleOf x)) same
          (is.own (host_now f c now) ∙ ap (λ (r : ℕ). Some r) (member_of rank f c member), omega arith, inl refl)
  says v Closing c (ScheduleOf y) member is said = by_test (hosts_now f c) refl said
    where
      by_test : (b : Bool) → hosts_now f c ≡ b → (if b then host_closes (q_of v) f c else silent c).message ≡ Some (ScheduleOf y)
          → IsOfHost s rank v (ScheduleOf y)
      by_test false now said = absurd (cc)
      by_test true now said =
          let h = host_plan s.profile v c.boot (rank_of c.tune) f c.kept c.table c.streams in
          let same : record { plan = h.plan; gap = h.gap } ≡ y = same_schedule (record { plan = h.plan; gap = h.gap }) y said in
          let gap = plan_gap s.profile v c.boot (rank_of c.tune) f c.kept c.table c.streams in
          subst (λ (x : Schedule). IsOfHost s rank v (ScheduleOf x)) same (
            is.own (host_now f c now) ∙ ap (λ (r : ℕ). Some r) (member_of rank f c member),
            gap.1,
            inr (planned_rank s.profile v c.boot (rank_of c.tune) f c.kept c.table c.streams ∙ member_of rank f c member),
          )

  abbrev pub was_due : ℕ → Bool
  was_due v = is_on_and (λ c. hosts_now f c) (state_at s f v)

  abbrev pub InRange : ℕ → State → Type 0
  InRange v (StateOff boots) = Unit {0}
  InRange v (StateOn c) = IsInRange f (own_rank v s.hosts) (was_due v) c.tune c.own_slot

  opens : (v : ℕ) (part : Part) (c : Core) → is_member rank f c ≡ true → InRange v (StateOn c)
      → InRange v (StateOn (opened_slot (q_of v) f part c).core) × (rank_of (opened_slot (q_of v) f part c).core.tune ≡ rank)
  opens v Opening c member is = (is, member_of rank f c member)
  opens v (DataSlot owner) c member is = (is, member_of rank f c member)
  opens v (Contention i) c member is = (is, member_of rank f c member)
  opens v Closing c member is = by_test (hosts_now f c)
    where
      by_test : (b : Bool) → InRange v (StateOn (if b then host_closes (q_of v) f c else silent c).core)
          × (rank_of (if b then host_closes (q_of v) f c else silent c).core.tune ≡ rank)
      by_test false = (is, member_of rank f c member)
      by_test true =
          let gap = plan_gap s.profile v c.boot (rank_of c.tune) f c.kept c.table c.streams in
          ((omega (arith, gap), omega (arith, gap), λ same. absurd (omega (arith, gap, same))), member_of rank f c member)

  heard : (v : ℕ) (part : Part) (b : Bool) (c : Core) → InRange v (StateOn c) → InRange v (StateOn (slot_heard f part b c))
  heard v Opening b c is = is
  heard v (DataSlot owner) b c is = is
  heard v (Contention i) b c is = is
  heard v Closing b c is = is

  -- the host of the rank hears no schedule of it from another node
  no_host : (v : ℕ) (part : Part) (y : Schedule) → Told (λ w part m. IsOfHost s rank w m) v part (ScheduleOf y) → own_rank v s.hosts ≡ Some rank → ⊥
  no_host v part y told own = told.other (one_of_rank s.hosts told.from v rank told.said.0 own)

  takes : (v : ℕ) (part : Part) (y : Schedule) (c : Core) → rank_of c.tune ≡ rank → Told (λ w part m. IsOfHost s rank w m) v part (ScheduleOf y)
      → InRange v (StateOn c) → (b : Bool) → (y.gap == 0) ≡ b
      → InRange v (StateOn (if b then opening_accepted v f y c else closing_accepted v f y c))
  takes v part y c at told is true gap = fresh c.tune at is
    where
      fresh : (t : Tune) → rank_of t ≡ rank → IsInRange f (own_rank v s.hosts) (was_due v) t c.own_slot
          → IsInRange f (own_rank v s.hosts) (was_due v) t (opening_accepted v f y c).own_slot
      fresh (Host r d) at is = is
      fresh (Hold r d) at is = is
      fresh (Scan r w) at is = (is.0, λ own. absurd (no_host v part y told (own ∙ ap (λ (n : ℕ). Some n) at)))
  takes v part y c at told is false gap =
      let of_rank : y.plan.rank ≡ rank = elim (told.said.2) [ inl none ↦ absurd (false≢true (sym gap ∙ none)) | inr same ↦ same ] in
      let few = told.said.1 in
      (omega arith, omega (arith, few), λ own. no_host v part y told (own ∙ ap (λ (n : ℕ). Some n) of_rank))

  closes : (v : ℕ) (part : Part) (b : Bool) (c : Core) (o : Option Message) → rank_of c.tune ≡ rank
      → ((m : Message) → o ≡ Some m → Told (λ w part m. IsOfHost s rank w m) v part m) → InRange v (StateOn c)
      → InRange v (StateOn (closed_slot (q_of v) f part b c o).core)
  closes v part b c None at told is = heard v part b c is
  closes v part b c (Some (ScheduleOf y)) at told is = takes v part y c at (told (ScheduleOf y) refl) is (y.gap == 0) refl
  closes v part b c (Some (DataOf d)) at told is = heard v part true c is
  closes v part b c (Some (RequestOf a)) at told is = is

  scanned_rank : (t : Tune) → scans rank t ≡ true → rank_of t ≡ rank
  scanned_rank (Host r d) is = absurd (false≢true is)
  scanned_rank (Hold r d) is = absurd (false≢true is)
  scanned_rank (Scan r w) is = eqb-true r rank is

  in_slots : (p : Plan) → ((v : ℕ) → InRange v (state_at s f v)) → (j : ℕ) → j ≤ last_slot p + 1 → (v : ℕ)
      → InRange v (before_slot s rank f p (state_at s f) j v)
  in_slots p all =
      keeps s rank f p (λ part. Unit {0}) InRange (λ w part m. IsOfHost s rank w m)
      (λ v part c m allowed member rightful is said. says v part c m member rightful said)
      (λ v part c o allowed member is told.
      let opened = opens v part c member is in
      closes v part (is_some (opened_slot (q_of v) f part c).message) (opened_slot (q_of v) f part c).core o opened.1 told opened.0)
      (λ v part c m allowed scanning is told.
      closes v part false c (Some m) (scanned_rank c.tune scanning) (λ n same. told_same m n same told) is)
      (last_slot p + 1) (λ j early. tt) all
    where
      told_same : {v : ℕ} {part : Part} (m n : Message) → Some m ≡ Some n → Told (λ w part m. IsOfHost s rank w m) v part m
          → Told (λ w part m. IsOfHost s rank w m) v part n
      told_same {v} {part} m n same told =
          let is : m ≡ n = cc in subst (λ (x : Message). Told (λ w part m. IsOfHost s rank w m) v part x) is told

  in_round : ((v : ℕ) → InRange v (state_at s f v)) → (o : Option Plan) (v : ℕ) → InRange v (after_round s rank f (state_at s f) o v)
  in_round all None v = all v
  in_round all (Some p) v = in_slots p all (last_slot p + 1) (omega arith) v

pub rounds_in_range : (s : ScenarioParts) (f : ℕ) → ((v : ℕ) → InRange s 0 f v (state_at s f v)) → (v : ℕ) → InRange s 0 f v (rounds s f (state_at s f) v)
rounds_in_range s f all v =
    in_round s (rank_in (state_at s f v)) f all (round_plan s (rank_in (state_at s f v)) f (state_at s f)) v
