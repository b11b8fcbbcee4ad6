-- What a contention slot changes: the requests that a host keeps, and nothing else of its table, and nobody's own slot.
use Rattle.std.proofs.Common.{◌≡◌, ◌<◌, ◌≤◌, ◌+◌, ◌-◌, ◌==◌, ℕ, List, [], ◌∷◌, ◌++◌, Bool, true, false, Option, Some, None, if◌then◌else◌}
use Rattle.std.proofs.Common.{length, length-append, option_map, nat_le, nat_lt, refl, sym, ◌∙◌, ap, arith}
use Rattle.std.proofs.lemmas.Bool.{false≢true, eqb-true, cond_both, cond-true, cond-false, lt-ltb, lt-leb, ne_eqb}
use Rattle.lwb_base.specs.Messages.{Ask, Plan, Schedule, node_of, stream_of}
use Rattle.scenario_text.specs.ScenarioParts.{ScenarioParts}
use Rattle.bus_rules.specs.declared.part.Part.{Part}
use Rattle.bus_rules.specs.declared.part.Part.TheVariants.{Opening, Data as DataSlot, Contention, Closing}
use Rattle.bus_rules.specs.Cores.{Core, Setup, is_member}
use Rattle.bus_rules.specs.Plans.{last_slot}
use Rattle.bus_rules.specs.Slots.{Message, Data, data_of, ScheduleOf, DataOf, RequestOf, opened_slot, closed_slot, part_of, hosts_now, is_own}
use Rattle.bus_rules.specs.Slots.{request_of}
use Rattle.bus_rules.specs.States.{State, StateOff, StateOn}
use Rattle.bus_rules.specs.Streams.{Streams, WaitingPacket, first_waiting, requested, stream_at, due_stream, request_is_due}
use Rattle.bus_terms.specs.Rounds.{opened_at, closed_slot_of, left_by}
use Rattle.scenario_text.specs.Setups.{setup_of}

-- the contention slots are those after the data slots and before the last
pub contention_at : (p : Plan) (j : ℕ) → length p.owners < j → j < last_slot p → part_of p j ≡ Contention (j - length p.owners)
contention_at p j late early =
    let some : (j == 0) ≡ false = ne_eqb j 0 (λ is. absurd (omega (arith, is, late))) in
    let past : nat_le j (length p.owners) ≡ false = lt-leb j (length p.owners) late in
    cond-false (j == 0) Opening _ some ∙ cond-false (nat_le j (length p.owners)) (DataSlot _) _ past
    ∙ cond-true (nat_lt j (last_slot p)) (Contention _) Closing (lt-ltb j (last_slot p) early)

-- a request: its node is the one that says it, its stream is one of four, and the slot is this node's own
pub record IsRequest (v i : ℕ) (c : Core) (b : Ask) : Type 0 where
  pub node : b.node ≡ v
  pub stream : b.stream ≤ 3
  pub own : c.own_slot ≡ Some i

four : (w x y z : Bool) (k : ℕ) → (if w then Some 0 else if x then Some 1 else if y then Some 2 else if z then Some 3 else None) ≡ Some k → k ≤ 3
four true x y z k is = let same : 0 ≡ k = cc in omega (arith, same)
four false true y z k is = let same : 1 ≡ k = cc in omega (arith, same)
four false false true z k is = let same : 2 ≡ k = cc in omega (arith, same)
four false false false true k is = let same : 3 ≡ k = cc in omega (arith, same)
four false false false false k is = absurd (cc)

requested_stream : (x : Streams) (k : ℕ) → requested x ≡ Some k → k ≤ 3
requested_stream x k is = by_test (x.skips == 0) is
  where
    by_test : (b : Bool) → (if b then due_stream x else None) ≡ Some k → k ≤ 3
    by_test true is = four (request_is_due x 0) (request_is_due x 1) (request_is_due x 2) (request_is_due x 3) k is
    by_test false is = absurd (cc)

own_is : (own : Option ℕ) (i : ℕ) → is_own own i ≡ true → own ≡ Some i
own_is None i is = absurd (false≢true is)
own_is (Some n) i is = ap (λ (m : ℕ). Some m) (eqb-true n i is)

pub requests : (q : Setup) (f i : ℕ) (c : Core) (b : Ask) → (opened_slot q f (Contention i) c).message ≡ Some (RequestOf b) → IsRequest q.id i c b
requests q f i c b said = by_own (is_own c.own_slot i) refl (requested c.streams) refl said
  where
    by_own : (t : Bool) → is_own c.own_slot i ≡ t → (w : Option ℕ) → requested c.streams ≡ w
        → (if t then option_map (request_of q.id c) w else None) ≡ Some (RequestOf b) → IsRequest q.id i c b
    by_own false at w is said = absurd (cc)
    by_own true at None is said = absurd (cc)
    by_own true at (Some k) is said =
        let node : q.id ≡ b.node = cc in
        let stream : k ≡ b.stream = cc in
        let few = requested_stream c.streams k is in
        record { node = sym node; stream = omega (arith, stream, few); own = own_is c.own_slot i at }

-- nothing but requests is said in it
pub only_requests : (q : Setup) (f i : ℕ) (c : Core) (m : Message) → (opened_slot q f (Contention i) c).message ≡ Some m → (b : Ask) × (m ≡ RequestOf b)
only_requests q f i c m said = by_own (is_own c.own_slot i) (requested c.streams) said
  where
    by_own : (t : Bool) (w : Option ℕ) → (if t then option_map (request_of q.id c) w else None) ≡ Some m → (b : Ask) × (m ≡ RequestOf b)
    by_own false w said = absurd (cc)
    by_own true None said = absurd (cc)
    by_own true (Some k) said =
        let b : Ask = record { node = q.id; boot = c.boot; stream = k; interval = (stream_at c.streams k).wish } in
        let is : m ≡ RequestOf b = cc in (b, is)

-- and in a data slot nothing but data
pub only_data : (q : Setup) (f owner : ℕ) (c : Core) (m : Message) → (opened_slot q f (DataSlot owner) c).message ≡ Some m → (d : Data) × (m ≡ DataOf d)
only_data q f owner c m said = by_owner (node_of owner == q.id) (first_waiting c.streams (stream_of owner)) said
  where
    by_owner : (t : Bool) (w : Option WaitingPacket) → (if t then option_map (data_of q.id c (stream_of owner)) w else None) ≡ Some m
        → (d : Data) × (m ≡ DataOf d)
    by_owner false w said = absurd (cc)
    by_owner true None said = absurd (cc)
    by_owner true (Some x) said =
        let d : Data = record { node = q.id; boot = c.boot; stream = stream_of owner; seq = x.seq; payload = x.payload } in
        let is : m ≡ DataOf d = cc in (d, is)

-- what a host keeps after it
abbrev pub kept_by : Setup → ℕ → Core → Option Message → List Ask
kept_by q f c None = c.kept
kept_by q f c (Some (ScheduleOf x)) = c.kept
kept_by q f c (Some (DataOf d)) = c.kept
kept_by q f c (Some (RequestOf a)) = if hosts_now f c then c.kept ++ a ∷ [] else c.kept

pub few_more : (q : Setup) (f : ℕ) (c : Core) (heard : Option Message) → length (kept_by q f c heard) ≤ length c.kept + 1
few_more q f c None = omega arith
few_more q f c (Some (ScheduleOf x)) = omega arith
few_more q f c (Some (DataOf d)) = omega arith
few_more q f c (Some (RequestOf a)) =
    cond_both (hosts_now f c) (c.kept ++ a ∷ []) c.kept (λ (l : List Ask). length l ≤ length c.kept + 1)
    (λ _. omega (arith, length-append c.kept (a ∷ []))) (λ _. omega arith)

pub keeps_by : (q : Setup) (f i : ℕ) (b : Bool) (c : Core) (heard : Option Message) → ((y : Schedule) → heard ≡ Some (ScheduleOf y) → ⊥)
    → (let d : Core = (closed_slot q f (Contention i) b (opened_slot q f (Contention i) c).core heard).core in
    (d.kept ≡ kept_by q f c heard) × (d.table ≡ c.table))
keeps_by q f i b c None none = (refl, refl)
keeps_by q f i b c (Some (ScheduleOf y)) none = absurd (none y refl)
keeps_by q f i b c (Some (DataOf d)) none = (refl, refl)
keeps_by q f i b c (Some (RequestOf a)) none = (refl, refl)

-- and before the contention slots a host that accepts no schedule and no request keeps what it kept
pub keeps_none : (q : Setup) (f : ℕ) (part : Part) (b : Bool) (c : Core) (heard : Option Message) → ((i : ℕ) → part ≡ Contention i → ⊥)
    → (part ≡ Closing → ⊥) → ((y : Schedule) → heard ≡ Some (ScheduleOf y) → ⊥) → ((a : Ask) → heard ≡ Some (RequestOf a) → ⊥)
    → (closed_slot q f part b (opened_slot q f part c).core heard).core.kept ≡ c.kept
keeps_none q f (Contention i) b c heard early still none more = absurd (early i refl)
keeps_none q f Closing b c heard early still none more = absurd (still refl)
keeps_none q f part b c (Some (ScheduleOf y)) early still none more = absurd (none y refl)
keeps_none q f part b c (Some (RequestOf a)) early still none more = absurd (more a refl)
keeps_none q f Opening b c None early still none more = refl
keeps_none q f Opening b c (Some (DataOf d)) early still none more = refl
keeps_none q f (DataSlot owner) b c None early still none more = refl
keeps_none q f (DataSlot owner) b c (Some (DataOf d)) early still none more = refl

-- a node's own slot, if it is on and fresh
abbrev pub own_of : State → Option ℕ
own_of (StateOff boots) = None
own_of (StateOn c) = c.own_slot

pub own_stays : (s : ScenarioParts) (rank f i v : ℕ) (x : State) (heard : Option Message) → ((y : Schedule) → heard ≡ Some (ScheduleOf y) → ⊥)
    → own_of (left_by x (closed_slot_of s f (Contention i) v (opened_at s rank f (Contention i) v x) heard x)) ≡ own_of x
own_stays s rank f i v (StateOff boots) None none = refl
own_stays s rank f i v (StateOff boots) (Some m) none = refl
own_stays s rank f i v (StateOn c) heard none = by_member (is_member rank f c) heard none
  where
    by_member : (t : Bool) (heard : Option Message) → ((y : Schedule) → heard ≡ Some (ScheduleOf y) → ⊥)
        → own_of (left_by (StateOn c)
        (closed_slot_of s f (Contention i) v (if t then Some (opened_slot (setup_of s v) f (Contention i) c) else None) heard (StateOn c))) ≡ c.own_slot
    by_member true None none = refl
    by_member true (Some (ScheduleOf y)) none = absurd (none y refl)
    by_member true (Some (DataOf d)) none = refl
    by_member true (Some (RequestOf a)) none = refl
    by_member false None none = refl
    by_member false (Some (ScheduleOf y)) none = absurd (none y refl)
    by_member false (Some (DataOf d)) none = refl
    by_member false (Some (RequestOf a)) none = refl
