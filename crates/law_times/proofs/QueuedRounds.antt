-- A round at a member with packets waiting: each data slot of a stream takes the first of its queue.
use Rattle.std.proofs.Common.{◌≡◌, ◌<◌, ◌≤◌, ◌+◌, ◌-◌, ◌==◌, ℕ, zero, suc, List, Bool, true, false, inl, inr, Option, Some, None, if◌then◌else◌, get_or}
use Rattle.std.proofs.Common.{is_some, length, nat_le, nat_lt, slice_get, slice_index, take, refl, sym, ◌∙◌, ap, subst, arith, ◌⊎◌}
use Rattle.law_times.proofs.Words.{cases_Bool, cond-true, cond-false, false≢true, le-leb, lt-leb, ne_eqb, eqb-true, eqb-false, count_by_more_no}
use Rattle.law_times.proofs.Words.{count_by_more_yes, take_all, Plan, code, ScenarioParts, Part, Opening, DataSlot, Contention, Closing, Tune, Core, is_member}
use Rattle.law_times.proofs.Words.{count_of, last_slot, Message, closed_slot, opened_slot, part_of, State, StateOff, StateOn, WaitingPacket, state_at, slot_in}
use Rattle.law_times.proofs.Words.{accepted_at, before_slot, closed_slot_of, left_by, opened_at, setup_of, closing_last, StreamPacket}
use Rattle.law_times.proofs.EarlyTunes.{tunes_stay}
use Rattle.law_times.proofs.QueuedPackets.{Waits, closed_same, is_slot_of, moves_up, opened_other, opened_own, waits_same}
use Rattle.law_times.proofs.Settings.{tune_of}

abbrev pub code_of_packet : StreamPacket → ℕ
code_of_packet w = code w.node w.stream

-- one slot at one node
module _ (s : ScenarioParts) (rank f : ℕ) (w : StreamPacket) (few : w.stream ≤ 3) where
  abbrev after : Part → Option Message → State → State
  after part heard x = left_by x (closed_slot_of s f part w.node (opened_at s rank f part w.node x) heard x)

  closes : (part : Part) (k : ℕ) (b : Bool) (c : Core) (heard : Option Message) → Waits w k (StateOn c)
      → Waits w k (StateOn (closed_slot (setup_of s w.node) f part b c heard).core)
  closes part k b c heard is = waits_same c (closed_slot (setup_of s w.node) f part b c heard).core w k (closed_same (setup_of s w.node) f part b c heard) is

  -- who is no member loses nothing
  slot_idle : (part : Part) (heard : Option Message) (k : ℕ) (c : Core) → is_member rank f c ≡ false → Waits w k (StateOn c)
      → Waits w k (after part heard (StateOn c))
  slot_idle part heard k c idle is = by_member (is_member rank f c) idle heard
    where
      by_member : (b : Bool) → b ≡ false → (heard : Option Message)
          → Waits w k (left_by (StateOn c)
          (closed_slot_of s f part w.node (if b then Some (opened_slot (setup_of s w.node) f part c) else None) heard (StateOn c)))
      by_member true is_false heard = absurd (false≢true (sym is_false))
      by_member false is_false None = is
      by_member false is_false (Some m) = closes part k false c (Some m) is

  slot_other : (part : Part) (heard : Option Message) (k : ℕ) (x : State) → is_slot_of (code_of_packet w) part ≡ false → Waits w k x
      → Waits w k (after part heard x)
  slot_other part heard k (StateOff boots) other is = absurd is
  slot_other part heard k (StateOn c) other is = by_member (is_member rank f c) heard
    where
      opened : Core
      opened = (opened_slot (setup_of s w.node) f part c).core

      by_member : (b : Bool) (heard : Option Message)
          → Waits w k (left_by (StateOn c)
          (closed_slot_of s f part w.node (if b then Some (opened_slot (setup_of s w.node) f part c) else None) heard (StateOn c)))
      by_member false None = is
      by_member false (Some m) = closes part k false c (Some m) is
      by_member true heard =
          let same = opened_other (setup_of s w.node) f part c w.stream few other in
          closes part k (is_some (opened_slot (setup_of s w.node) f part c).message) opened heard
          (same.0 ∙ is.0, ap (λ (l : List WaitingPacket). slice_get l k) same.1 ∙ is.1)

  slot_own : (part : Part) (heard : Option Message) (k : ℕ) (c : Core) → is_slot_of (code_of_packet w) part ≡ true → is_member rank f c ≡ true
      → Waits w (suc k) (StateOn c) → Waits w k (after part heard (StateOn c))
  slot_own part heard k c own member is = by_member (is_member rank f c) member
    where
      opened : Core
      opened = (opened_slot (setup_of s w.node) f part c).core

      by_member : (b : Bool) → b ≡ true → Waits w k (left_by (StateOn c)
          (closed_slot_of s f part w.node (if b then Some (opened_slot (setup_of s w.node) f part c) else None) heard (StateOn c)))
      by_member false is_true = absurd (false≢true is_true)
      by_member true is_true =
          closes part k (is_some (opened_slot (setup_of s w.node) f part c).message) opened heard
          (moves_up c opened w k (opened_own (setup_of s w.node) f part c w.stream few own) is)

-- the data slots of a stream before slot j
unfoldable pub slots_before : Plan → ℕ → ℕ → ℕ
slots_before p c zero = 0
slots_before p c (suc j) = slots_before p c j + (if is_slot_of c (part_of p j) then 1 else 0)

module _ (p : Plan) (c : ℕ) where
  pub part_data : (n : ℕ) → n < length p.owners → part_of p (suc n) ≡ DataSlot (get_or p.owners n 0)
  part_data n within =
      cond-false (suc n == 0) Opening _ (ne_eqb (suc n) 0 (λ none. absurd (omega (arith, none))))
      ∙ cond-true (nat_le (suc n) (length p.owners)) (DataSlot (slice_index p.owners (suc n - 1))) _ (le-leb (suc n) (length p.owners) within)
      ∙ ap (λ (m : ℕ). DataSlot (slice_index p.owners m)) (let less : suc n - 1 ≡ n = omega arith in less)

  part_later : (j : ℕ) → length p.owners < j → is_slot_of c (part_of p j) ≡ false
  part_later j past =
      ap (λ (q : Part). is_slot_of c q)
      (cond-false (j == 0) Opening _ (ne_eqb j 0 (λ none. absurd (omega (arith, past, none))))
      ∙ cond-false (nat_le j (length p.owners)) (DataSlot (slice_index p.owners (j - 1))) _ (lt-leb j (length p.owners) past))
      ∙ last (nat_lt j (last_slot p))
    where
      last : (b : Bool) → is_slot_of c (if b then Contention (j - length p.owners) else Closing) ≡ false
      last true = refl
      last false = refl

  among_owners : (n : ℕ) → n ≤ length p.owners → slots_before p c (suc n) ≡ count_of c (take n p.owners)
  unfolding slots_before
  among_owners zero within = refl
  among_owners (suc n) within =
      let before = among_owners n (omega (arith, within)) in
      let part = part_data n within in
      let more : ◌≡◌ {A = ℕ} (if is_slot_of c (part_of p (suc n)) then 1 else 0) (if get_or p.owners n 0 == c then 1 else 0) =
      ap (λ (q : Part). (if is_slot_of c q then 1 else 0)) part in
      by_test (get_or p.owners n 0 == c) refl before more
    where
      by_test : (b : Bool) → (get_or p.owners n 0 == c) ≡ b → slots_before p c (suc n) ≡ count_of c (take n p.owners)
          → ◌≡◌ {A = ℕ} (if is_slot_of c (part_of p (suc n)) then 1 else 0) (if get_or p.owners n 0 == c then 1 else 0)
          → slots_before p c (suc (suc n)) ≡ count_of c (take (suc n) p.owners)
      by_test true passes before more =
          let one : ◌≡◌ {A = ℕ} (if get_or p.owners n 0 == c then 1 else 0) 1 = cond-true (get_or p.owners n 0 == c) 1 0 passes in
          let next = count_by_more_yes (λ x. x == c) p.owners n 0 within passes in
          let at : suc n ≡ n + 1 = omega arith in
          let same : count_of c (take (suc n) p.owners) ≡ count_of c (take (n + 1) p.owners) = ap (λ (m : ℕ). count_of c (take m p.owners)) at in
          omega (arith, one, next, same, before, more)
      by_test false fails before more =
          let none : ◌≡◌ {A = ℕ} (if get_or p.owners n 0 == c then 1 else 0) 0 = cond-false (get_or p.owners n 0 == c) 1 0 fails in
          let next = count_by_more_no (λ x. x == c) p.owners n 0 within fails in
          let at : suc n ≡ n + 1 = omega arith in
          let same : count_of c (take (suc n) p.owners) ≡ count_of c (take (n + 1) p.owners) = ap (λ (m : ℕ). count_of c (take m p.owners)) at in
          omega (arith, none, next, same, before, more)

  past_owners : (m : ℕ) → slots_before p c (m + suc (length p.owners)) ≡ slots_before p c (suc (length p.owners))
  unfolding slots_before
  past_owners zero = ap (λ (n : ℕ). slots_before p c n) (let none : 0 + suc (length p.owners) ≡ suc (length p.owners) = omega arith in none)
  past_owners (suc m) =
      let none : ◌≡◌ {A = ℕ} (if is_slot_of c (part_of p (m + suc (length p.owners))) then 1 else 0) 0 =
      cond-false (is_slot_of c (part_of p (m + suc (length p.owners)))) 1 0 (part_later (m + suc (length p.owners)) (omega arith)) in
      let before = past_owners m in
      let same : slots_before p c (suc m + suc (length p.owners)) ≡ slots_before p c (suc (m + suc (length p.owners))) =
      ap (λ (n : ℕ). slots_before p c n) (let one : suc m + suc (length p.owners) ≡ suc (m + suc (length p.owners)) = omega arith in one) in
      omega (arith, none, before, same)

  -- of a whole round
  pub all_slots : slots_before p c (last_slot p + 1) ≡ count_of c p.owners
  all_slots =
      let n : ℕ = last_slot p + 1 - suc (length p.owners) in
      let at : n + suc (length p.owners) ≡ last_slot p + 1 = omega arith in
      ap (λ (j : ℕ). slots_before p c j) (sym at) ∙ past_owners n ∙ among_owners (length p.owners) (omega arith)
      ∙ ap (λ (l : List ℕ). count_of c l) (take_all (length p.owners) p.owners (omega arith))

-- a whole round of the rank, at a node that goes by this tune
module _ (s : ScenarioParts) (rank f : ℕ) (p : Plan) (w : StreamPacket) (few : w.stream ≤ 3) (t : Tune)
    (goes : tune_of (state_at s f w.node) ≡ Some t) where
  abbrev pub before : ℕ → State
  before j = before_slot s rank f p (state_at s f) j w.node

  abbrev c : ℕ
  c = code_of_packet w

  core_now : (j : ℕ) → j ≤ last_slot p → (k : ℕ) → Waits w k (before j) → (d : Core) × (before j ≡ StateOn d) × (d.tune ≡ t)
  core_now j early k is = by_state (before j) refl (tunes_stay s rank f p j early w.node ∙ goes) is
    where
      by_state : (x : State) → before j ≡ x → tune_of x ≡ Some t → Waits w k x → (d : Core) × (before j ≡ StateOn d) × (d.tune ≡ t)
      by_state (StateOff boots) at tune is = absurd is
      by_state (StateOn d) at tune is = (d, at, cc)

  step : (j k m : ℕ) → (Waits w k (before j) → Waits w m (after s rank f w few (part_of p j) (accepted_at (slot_in s rank f p j) w.node) (before j)))
      → Waits w k (before j) → Waits w m (before (suc j))
  unfolding before_slot
  step j k m slot is = slot is

  -- no member of it loses nothing
  pub round_idle : ((d : Core) → d.tune ≡ t → is_member rank f d ≡ false) → (k : ℕ) → Waits w k (state_at s f w.node) → (j : ℕ) → j ≤ last_slot p
      → Waits w k (before j)
  unfolding before_slot
  round_idle idle k is zero early = is
  round_idle idle k is (suc j) early =
      let now = round_idle idle k is j (omega (arith, early)) in
      let d = core_now j (omega (arith, early)) k now in
      step j k k (λ here. subst (λ (x : State). Waits w k (after s rank f w few (part_of p j) (accepted_at (slot_in s rank f p j) w.node) x)) (sym d.1)
      (slot_idle s rank f w few (part_of p j) (accepted_at (slot_in s rank f p j) w.node) k d.0 (idle d.0 d.2) (subst (Waits w k) d.1 here))) now

  pub closing_same : (k : ℕ) → Waits w k (before (last_slot p)) → Waits w k (before (last_slot p + 1))
  closing_same k is =
      subst (λ (n : ℕ). Waits w k (before n)) (omega arith)
      (step (last_slot p) k k
      (λ here. slot_other s rank f w few (part_of p (last_slot p)) (accepted_at (slot_in s rank f p (last_slot p)) w.node) k (before (last_slot p))
      (ap (λ (q : Part). is_slot_of c q) (closing_last p)) here) is)

  -- in one of the slots before slot j the packet was the first, and the slot is of its stream
  pub record IsTurn (end : ℕ) : Type 0 where
    pub slot : ℕ
    pub early : slot < end
    pub within : slot < last_slot p
    pub own : is_slot_of c (part_of p slot) ≡ true
    pub first : Waits w 0 (before slot)

  -- or so many fewer wait before it
  pub record IsBehind (end k : ℕ) : Type 0 where
    pub left : ℕ
    pub moved : left + slots_before p c end ≡ k
    pub waits : Waits w left (before end)

  pub longer : (j : ℕ) → IsTurn j → IsTurn (suc j)
  longer j turn = record {
    slot = turn.slot;
    early = (let early = turn.early in omega (arith, early));
    within = turn.within;
    own = turn.own;
    first = turn.first;
  }

  data_early : (j : ℕ) → j ≤ last_slot p → is_slot_of c (part_of p j) ≡ true → j < last_slot p
  data_early j early own = elim (cases_Bool (j == last_slot p)) [
    | inl same ↦
        (let at : j ≡ last_slot p = eqb-true j (last_slot p) same in
        absurd (false≢true (sym (ap (λ (n : ℕ). is_slot_of c (part_of p n)) at ∙ ap (λ (q : Part). is_slot_of c q) (closing_last p)) ∙ own)))
    | inr other ↦ (let apart = eqb-false j (last_slot p) other in omega (arith, early, apart))
  ]

  pub slots : ((d : Core) → d.tune ≡ t → is_member rank f d ≡ true) → (k : ℕ) → Waits w k (state_at s f w.node) → (j : ℕ) → j ≤ last_slot p + 1
      → IsTurn j ⊎ IsBehind j k
  unfolding before_slot slots_before
  slots member k is zero early = inr (record { left = k; moved = omega arith; waits = is })
  slots member k is (suc j) early = elim (slots member k is j (omega (arith, early))) [
    | inl turn ↦ inl (longer j turn)
    | inr behind ↦ elim (cases_Bool (is_slot_of c (part_of p j))) [
      | inl own ↦ mine own behind.left behind.moved behind.waits
      | inr other ↦
          (let none : ◌≡◌ {A = ℕ} (if is_slot_of c (part_of p j) then 1 else 0) 0 = cond-false (is_slot_of c (part_of p j)) 1 0 other in
          let moved = behind.moved in
          inr (record {
            left = behind.left;
            moved = omega (arith, none, moved);
            waits = step j behind.left behind.left
                (λ here. slot_other s rank f w few (part_of p j) (accepted_at (slot_in s rank f p j) w.node) behind.left (before j) other here) behind.waits;
          }))
    ]
  ]
    where
      mine : is_slot_of c (part_of p j) ≡ true → (left : ℕ) → left + slots_before p c j ≡ k → Waits w left (before j) → IsTurn (suc j) ⊎ IsBehind (suc j) k
      mine own zero moved now =
          inl (record { slot = j; early = omega arith; within = data_early j (omega (arith, early)) own; own = own; first = now })
      mine own (suc left) moved now =
          let one : ◌≡◌ {A = ℕ} (if is_slot_of c (part_of p j) then 1 else 0) 1 = cond-true (is_slot_of c (part_of p j)) 1 0 own in
          let d = core_now j (omega (arith, early)) (suc left) now in
          inr (record {
            left = left;
            moved = omega (arith, one, moved);
            waits = step j (suc left) left
                (λ here. subst (λ (x : State). Waits w left (after s rank f w few (part_of p j) (accepted_at (slot_in s rank f p j) w.node) x)) (sym d.1)
                (slot_own s rank f w few (part_of p j) (accepted_at (slot_in s rank f p j) w.node) left d.0 own (member d.0 d.2)
                (subst (Waits w (suc left)) d.1 here))) now;
          })

  pub whole_round : ((d : Core) → d.tune ≡ t → is_member rank f d ≡ true) → (k : ℕ) → Waits w k (state_at s f w.node)
      → IsTurn (last_slot p + 1) ⊎ IsBehind (last_slot p + 1) k
  whole_round member k is = slots member k is (last_slot p + 1) (omega arith)
