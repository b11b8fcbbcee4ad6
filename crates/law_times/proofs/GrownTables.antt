-- The table of a host from frame to frame: before its round it stays, and by the round that it plans each entry of before has been granted
-- at most the slots of that round more; others are new.
use Rattle.std.proofs.Common.{◌≡◌, ◌<◌, ◌≤◌, ◌+◌, ◌==◌, ℕ, List, [], ◌∷◌, Bool, true, false, not, inl, inr, Option, Some, None, if◌then◌else◌, is_some, nat_le}
use Rattle.std.proofs.Common.{nat_lt, fold, filter_map, map, sum_by, refl, sym, ◌∙◌, ap, subst, arith, ◌⊎◌, Contains}
use Rattle.law_times.proofs.Words.{cond-true, le-leb, false≢true, contains_cases, contains_head, contains_tail, filter_from, filtered, map_from, one_of, Ask}
use Rattle.law_times.proofs.Words.{Plan, code, code_of, Numbers, ScenarioParts, Part, Opening, DataSlot, Contention, Closing, Core, Setup, closing_accepted}
use Rattle.law_times.proofs.Words.{opening_accepted, Grants, count_of, gap_of, given, grant, granted_by, grants_for, last_code, owed_to, plan_round, share_in}
use Rattle.law_times.proofs.Words.{Answered, Served, answer, answers_to, host_plan, put_if, serve, served, last_slot, DataOf, Message, RequestOf, ScheduleOf}
use Rattle.law_times.proofs.Words.{closed_slot, hosts_now, opened_slot, owner_heard, slot_heard, State, StateOff, StateOn, Streams, due_of, with_agreed}
use Rattle.law_times.proofs.Words.{TableEntry, Table, after_request, entry_after_data, has_code, interval_of, is_full, missed, new_entry, with_entry, without}
use Rattle.law_times.proofs.Words.{state_at, before_slot, setup_of, before_closing, is_closing, fitting_grants, round_gap}
use Rattle.law_times.proofs.PacedTables.{Paced, fits}
use Rattle.law_times.proofs.SlotInvariants.{keeps}

-- the same stream, accepted in the same frame, with as many slots granted
pub record SameGrants (a b : TableEntry) : Type 0 where
  pub code : a.code ≡ b.code
  pub interval : a.interval ≡ b.interval
  pub accepted : a.accepted ≡ b.accepted
  pub granted : a.granted ≡ b.granted

pub same_grants : (e : TableEntry) → SameGrants e e
same_grants e = record { code = refl; interval = refl; accepted = refl; granted = refl }

grants_both : (a b c : TableEntry) → SameGrants a b → SameGrants b c → SameGrants a c
grants_both a b c first second = record {
  code = first.code ∙ second.code;
  interval = first.interval ∙ second.interval;
  accepted = first.accepted ∙ second.accepted;
  granted = first.granted ∙ second.granted;
}

-- such an entry is among these
pub record IsOf (es : List TableEntry) (e : TableEntry) : Type 0 where
  pub entry : TableEntry
  pub there : Contains es entry
  pub same : SameGrants entry e

pub itself : (es : List TableEntry) (e : TableEntry) → Contains es e → IsOf es e
itself es e there = record { entry = e; there = there; same = same_grants e }

-- data slots
after_heard : (c : ℕ) (es : List TableEntry) (e : TableEntry) → Contains (map (entry_after_data c) es) e → IsOf es e
after_heard c es e there =
    let x = map_from (entry_after_data c) es e there in
    record {
      entry = x.0;
      there = x.1;
      same = subst (SameGrants x.0) x.2 (record { code = refl; interval = refl; accepted = refl; granted = refl });
    }

after_missed : (c : ℕ) (es : List TableEntry) (e : TableEntry) → Contains (filter_map (missed c) es) e → IsOf es e
after_missed c es e there =
    let x = filter_from (missed c) es e there in
    record { entry = x.0; there = x.1; same = by_test x.0 (has_code c x.0) (nat_lt (x.0.unheard + 1) 16) x.2 }
  where
    by_test : (x : TableEntry) (a b : Bool) → (if a then (if b then Some (record x { unheard = x.unheard + 1 }) else None) else Some x) ≡ Some e
        → SameGrants x e
    by_test x false b is = let same : x ≡ e = cc in subst (SameGrants x) same (same_grants x)
    by_test x true false is = absurd (cc)
    by_test x true true is =
        let same : record x { unheard = x.unheard + 1 } ≡ e = cc in
        subst (SameGrants x) same (record { code = refl; interval = refl; accepted = refl; granted = refl })

-- requests
of_with : (x : TableEntry) (es : List TableEntry) (e : TableEntry) → Contains (with_entry x es) e → (x ≡ e) ⊎ Contains es e
of_with x [] e there = inl (one_of x e there)
of_with x (y ∷ es) e there = by_code (x.code == y.code) (nat_lt x.code y.code) there (of_with x es e)
  where
    by_code : (a b : Bool) → Contains (if a then x ∷ es else if b then x ∷ y ∷ es else y ∷ with_entry x es) e
        → (Contains (with_entry x es) e → (x ≡ e) ⊎ Contains es e) → (x ≡ e) ⊎ Contains (y ∷ es) e
    by_code true b there among = elim (contains_cases x es e there) [ inl same ↦ inl same | inr later ↦ inr (contains_tail y es e later) ]
    by_code false true there among = contains_cases x (y ∷ es) e there
    by_code false false there among = elim (contains_cases y (with_entry x es) e there) [
      | inl same ↦ inr (subst (λ (z : TableEntry). Contains (z ∷ es) e) (sym same) (contains_head e es))
      | inr later ↦ elim (among later) [ inl same ↦ inl same | inr there ↦ inr (contains_tail y es e there) ]
    ]

-- an entry is new in this frame, with nothing granted, or was there
abbrev pub NewOr : ℕ → List TableEntry → TableEntry → Type 0
NewOr f es e = ((e.accepted ≡ f) × (e.granted ≡ 0)) ⊎ Contains es e

after_asked : (f : ℕ) (t : Table) (a : Ask) (e : TableEntry) → Contains (after_request f t a).entries e → NewOr f t.entries e
after_asked f t a e there = by_test (is_full a t) (a.interval == 0) there
  where
    by_test : (full gone : Bool) → Contains
        (if full then t.entries else if gone then without (code_of a) t.entries else with_entry (new_entry a f) t.entries) e → NewOr f t.entries e
    by_test true gone there = inr there
    by_test false true there = inr (filtered (λ x. not (has_code (code_of a) x)) t.entries e there).0
    by_test false false there = elim (of_with (new_entry a f) t.entries e there) [
      | inl same ↦ inl (ap (λ (x : TableEntry). x.accepted) (sym same), ap (λ (x : TableEntry). x.granted) (sym same))
      | inr was ↦ inr was
    ]

new_both : (f : ℕ) (xs ys : List TableEntry) (e : TableEntry) → NewOr f ys e → (Contains ys e → NewOr f xs e) → NewOr f xs e
new_both f xs ys e (inl new) before = inl new
new_both f xs ys e (inr there) before = before there

answered_new : (f : ℕ) (kept : List Ask) (x : Answered) (e : TableEntry) → Contains (fold (answer f) x kept).table.entries e → NewOr f x.table.entries e
answered_new f [] x e there = inr there
answered_new f (a ∷ more) x e there =
    new_both f x.table.entries (answer f x a).table.entries e (answered_new f more (answer f x a) e there) (after_asked f x.table a e)

served_new : (f node boot : ℕ) (is : List ℕ) (x : Served) (e : TableEntry) → Contains (fold (serve f node boot) x is).table.entries e
    → NewOr f x.table.entries e
served_new f node boot [] x e there = inr there
served_new f node boot (k ∷ ks) x e there =
    new_both f x.table.entries (serve f node boot x k).table.entries e (served_new f node boot ks (serve f node boot x k) e there)
    (by_due (due_of (with_agreed k (interval_of x.table (code node k)) x.streams) k))
  where
    by_due : (o : Option ℕ) → Contains (put_if f node boot k o x.table).entries e → NewOr f x.table.entries e
    by_due None there = inr there
    by_due (Some n) there = after_asked f x.table (record { node = node; boot = boot; stream = k; interval = n }) e there

-- the table from which a host plans, with all requests put to it
abbrev pub asked_table : ℕ → ℕ → ℕ → List Ask → Table → Streams → Table
asked_table f node boot kept t x = (served f node boot (answers_to f kept t).table x).table

asked_new : (f node boot : ℕ) (kept : List Ask) (t : Table) (x : Streams) (e : TableEntry) → Contains (asked_table f node boot kept t x).entries e
    → NewOr f t.entries e
asked_new f node boot kept t x e there =
    new_both f t.entries (answers_to f kept t).table.entries e
    (served_new f node boot (0 ∷ 1 ∷ 2 ∷ 3 ∷ []) (record { table = (answers_to f kept t).table; streams = x }) e there)
    (answered_new f kept (record { table = t; acks = [] }) e)

-- what is granted
pub record IsGrown (f : ℕ) (es : List TableEntry) (owners : List ℕ) (e : TableEntry) : Type 0 where
  pub before : TableEntry
  pub code : before.code ≡ e.code
  pub interval : before.interval ≡ e.interval
  pub accepted : before.accepted ≡ e.accepted
  pub granted : e.granted ≤ before.granted + count_of e.code owners
  pub was : NewOr f es before

planned_grows : (seconds f : ℕ) → 0 < seconds → (t : Table) → Paced seconds f t.entries → (e : TableEntry) → Contains (plan_round seconds f t).table.entries e
    → (x : TableEntry) × Contains t.entries x × (x.code ≡ e.code) × (x.interval ≡ e.interval) × (x.accepted ≡ e.accepted)
    × (e.granted ≤ x.granted + count_of e.code (plan_round seconds f t).owners)
unfolding plan_round
planned_grows seconds f some t paced e there =
    let owes : TableEntry → ℕ = owed_to seconds (f + gap_of seconds f t.entries) in
    let fitting = fits seconds f some t paced in
    let all : grants_for owes (gap_of seconds f t.entries) t ≡ granted_by owes (gap_of seconds f t.entries) t.place t.entries =
    cond-true (nat_le (sum_by owes t.entries) 40) (granted_by owes (gap_of seconds f t.entries) t.place t.entries)
    (granted_by (share_in (given owes t)) (gap_of seconds f t.entries) (last_code (given owes t) + 1) t.entries) (le-leb (sum_by owes t.entries) 40 fitting) in
    let among : Contains (map (grant owes) t.entries) e = subst (λ (g : Grants). Contains g.table.entries e) all there in
    let x = map_from (grant owes) t.entries e among in
    let code_is : x.0.code ≡ e.code = ap (λ (y : TableEntry). y.code) x.2 in
    let granted_is : x.0.granted + owes x.0 ≡ e.granted = ap (λ (y : TableEntry). y.granted) x.2 in
    let gap : (plan_round seconds f t).gap ≡ gap_of seconds f t.entries = round_gap seconds f t in
    let counted : owes x.0 ≤ count_of x.0.code (plan_round seconds f t).owners =
    fitting_grants seconds f (f + gap_of seconds f t.entries) t (ap (λ (g : ℕ). f + g) (sym gap)) fitting x.0 x.1 in
    let same : count_of x.0.code (plan_round seconds f t).owners ≡ count_of e.code (plan_round seconds f t).owners =
    ap (λ (c : ℕ). count_of c (plan_round seconds f t).owners) code_is in
    (x.0, x.1, code_is, ap (λ (y : TableEntry). y.interval) x.2, ap (λ (y : TableEntry). y.accepted) x.2, omega (arith, granted_is, counted, same))

pub plan_grows : (n : Numbers) (node boot rank f : ℕ) (kept : List Ask) (t : Table) (x : Streams) → 0 < n.seconds
    → Paced n.seconds f (asked_table f node boot kept t x).entries → (e : TableEntry) → Contains (host_plan n node boot rank f kept t x).table.entries e
    → IsGrown f t.entries (host_plan n node boot rank f kept t x).plan.owners e
unfolding host_plan
plan_grows n node boot rank f kept t x some paced e there =
    let from = planned_grows n.seconds f some (asked_table f node boot kept t x) paced e there in
    record {
      before = from.0;
      code = from.2;
      interval = from.3;
      accepted = from.4;
      granted = from.5;
      was = asked_new f node boot kept t x from.0 from.1;
    }

-- up to the closing slot each entry of a table is one that the node had at the start of the frame
abbrev pub entries_at : State → List TableEntry
entries_at (StateOff boots) = []
entries_at (StateOn c) = c.table.entries

abbrev pub Comes : List TableEntry → State → Type 0
Comes es (StateOff boots) = Unit {0}
Comes es (StateOn c) = (e : TableEntry) → Contains c.table.entries e → IsOf es e

comes_first : (x : State) → Comes (entries_at x) x
comes_first (StateOff boots) = tt
comes_first (StateOn c) = λ e there. itself c.table.entries e there

further : (xs ys : List TableEntry) (e : TableEntry) → IsOf ys e → ((x : TableEntry) → Contains ys x → IsOf xs x) → IsOf xs e
further xs ys e is from =
    let first = from is.entry is.there in
    record { entry = first.entry; there = first.there; same = grants_both first.entry is.entry e first.same is.same }

module _ (q : Setup) (f : ℕ) (es : List TableEntry) where
  opens : (part : Part) (c : Core) → is_closing part ≡ false → Comes es (StateOn c) → Comes es (StateOn (opened_slot q f part c).core)
  opens Opening c early comes = comes
  opens (DataSlot owner) c early comes = comes
  opens (Contention i) c early comes = comes
  opens Closing c early comes = absurd (false≢true (sym early))

  heard : (part : Part) (b : Bool) (c : Core) → Comes es (StateOn c) → Comes es (StateOn (slot_heard f part b c))
  heard Opening b c comes = comes
  heard (Contention i) b c comes = comes
  heard Closing b c comes = comes
  heard (DataSlot owner) b c comes = by_test (hosts_now f c) b
    where
      by_test : (now b : Bool) (e : TableEntry) → Contains (if now then owner_heard b owner c.table else c.table).entries e → IsOf es e
      by_test false b e there = comes e there
      by_test true true e there = further es c.table.entries e (after_heard owner c.table.entries e there) comes
      by_test true false e there = further es c.table.entries e (after_missed owner c.table.entries e there) comes

  closes : (part : Part) (b : Bool) (c : Core) (o : Option Message) → Comes es (StateOn c) → Comes es (StateOn (closed_slot q f part b c o).core)
  closes part b c None comes = heard part b c comes
  closes part b c (Some (DataOf d)) comes = heard part true c comes
  closes part b c (Some (RequestOf a)) comes = comes
  closes part b c (Some (ScheduleOf y)) comes = by_gap (y.gap == 0)
    where
      by_gap : (t : Bool) → Comes es (StateOn (if t then opening_accepted q.id f y c else closing_accepted q.id f y c))
      by_gap true = comes
      by_gap false = comes

pub tables_come : (s : ScenarioParts) (rank f : ℕ) (p : Plan) (j : ℕ) → j ≤ last_slot p → (v : ℕ)
    → Comes (entries_at (state_at s f v)) (before_slot s rank f p (state_at s f) j v)
tables_come s rank f p =
    keeps s rank f p (λ part. is_closing part ≡ false) (λ v x. Comes (entries_at (state_at s f v)) x) (λ v part m. Unit {0})
    (λ v part c m early member rightful comes said. tt)
    (λ v part c o early member comes told.
    closes (setup_of s v) f (entries_at (state_at s f v)) part (is_some (opened_slot (setup_of s v) f part c).message)
    (opened_slot (setup_of s v) f part c).core o (opens (setup_of s v) f (entries_at (state_at s f v)) part c early comes))
    (λ v part c m early scanning comes told. closes (setup_of s v) f (entries_at (state_at s f v)) part false c (Some m) comes)
    (last_slot p) (λ j early. before_closing p j early) (λ v. comes_first (state_at s f v))
