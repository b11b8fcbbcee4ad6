-- Each host keeps its streams on pace, if no stream of the scenario asks for an interval below a frame: the requests that it keeps are
-- as slow, and what it plans is on pace at its next round.
use Rattle.std.proofs.Common.{◌≡◌, ◌<◌, ◌+◌, ◌*◌, ◌==◌, ℕ, List, [], ◌∷◌, ◌++◌, Bool, true, false, Option, Some, None, if◌then◌else◌, fold, nat_lt, option_map}
use Rattle.std.proofs.Common.{refl, sym, subst}
use Rattle.law_times.proofs.Words.{and_parts, cond_both, eqb-true, false≢true, Ask, node_of, stream_of, Numbers, Part, Opening, DataSlot, Contention, Closing}
use Rattle.law_times.proofs.Words.{Tune, Scan, Hold, Host, Core, Setup, as_host, begins_host, closing_accepted, frame_ended, is_fresh, opening_accepted}
use Rattle.law_times.proofs.Words.{plan_round, Answered, Served, answer, answers_to, host_plan, put_if, serve, served, opening, DataOf, Message, RequestOf}
use Rattle.law_times.proofs.Words.{ScheduleOf, closed_slot, host_closes, hosts_now, is_own, opened_slot, owner_heard, request_of, silent, slot_heard, State}
use Rattle.law_times.proofs.Words.{StateOff, StateOn, Streams, request_is_due, requested, schedule_heard, stream_at, after_taking, with_agreed, TableEntry}
use Rattle.law_times.proofs.Words.{Table, interval_of, hosts_in, next_tune, rank_of, only_data, round_gap}
use Rattle.law_times.proofs.KeptWishes.{agreed_keeps, contention_keeps, heard_keeps, taken_keeps, unbound_keeps}
use Rattle.law_times.proofs.PacedTables.{IsSlow, Paced, after_asked, after_heard, after_missed, none_paced, planned}

abbrev pub AllSlow : ℕ → List Ask → Type 0
AllSlow seconds [] = Unit {0}
AllSlow seconds (a ∷ more) = IsSlow seconds a.interval × AllSlow seconds more

-- the table of a host that has its next round in a frame is on pace by then
abbrev pub PacedBy : ℕ → Tune → List TableEntry → Type 0
PacedBy seconds (Host r d) es = Paced seconds d es
PacedBy seconds (Hold r d) es = Unit {0}
PacedBy seconds (Scan r w) es = Unit {0}

pub record KeepsPace (seconds : ℕ) (c : Core) : Type 0 where
  pub wishes : (i : ℕ) → IsSlow seconds (stream_at c.streams i).wish
  pub kept : AllSlow seconds c.kept
  pub table : PacedBy seconds c.tune c.table.entries

abbrev pub Keeps : ℕ → State → Type 0
Keeps seconds (StateOff boots) = Unit {0}
Keeps seconds (StateOn c) = KeepsPace seconds c

abbrev pub AsksSlowly : ℕ → Message → Type 0
AsksSlowly seconds (ScheduleOf y) = Unit {0}
AsksSlowly seconds (DataOf d) = Unit {0}
AsksSlowly seconds (RequestOf a) = IsSlow seconds a.interval

pub slow_same : (seconds m n : ℕ) → m ≡ n → IsSlow seconds n → IsSlow seconds m
slow_same seconds m n same is = subst (IsSlow seconds) (sym same) is

one_more : (seconds : ℕ) (xs : List Ask) (a : Ask) → AllSlow seconds xs → IsSlow seconds a.interval → AllSlow seconds (xs ++ a ∷ [])
one_more seconds [] a all is = (is, tt)
one_more seconds (x ∷ xs) a all is = (all.0, one_more seconds xs a all.1 is)

-- a host whose round is due
pub paced_now : (seconds rank f : ℕ) (t : Tune) (es : List TableEntry) → hosts_in rank f t ≡ true → PacedBy seconds t es → Paced seconds f es
paced_now seconds rank f (Host r d) es now paced = subst (λ (n : ℕ). Paced seconds n es) (eqb-true d f (and_parts (r == rank) (d == f) now).1) paced
paced_now seconds rank f (Hold r d) es now paced = absurd (false≢true now)
paced_now seconds rank f (Scan r w) es now paced = absurd (false≢true now)

-- what a host plans
pub answered : (seconds f : ℕ) (kept : List Ask) (x : Answered) → AllSlow seconds kept → Paced seconds f x.table.entries
    → Paced seconds f (fold (answer f) x kept).table.entries
answered seconds f [] x all paced = paced
answered seconds f (a ∷ more) x all paced = answered seconds f more (answer f x a) all.1 (after_asked seconds f x.table a all.0 paced)

pub serves : (seconds f node boot : ℕ) (is : List ℕ) (x : Served) → ((i : ℕ) → IsSlow seconds (stream_at x.streams i).wish) → Paced seconds f x.table.entries
    → ((i : ℕ) → IsSlow seconds (stream_at (fold (serve f node boot) x is).streams i).wish) × Paced seconds f (fold (serve f node boot) x is).table.entries
serves seconds f node boot [] x slow paced = (slow, paced)
serves seconds f node boot (k ∷ ks) x slow paced = serves seconds f node boot ks (serve f node boot x k) slow_now paced_now
  where
    streams : Streams
    streams = with_agreed k (interval_of x.table (node * 4 + k)) x.streams

    slow_now : (i : ℕ) → IsSlow seconds (stream_at (serve f node boot x k).streams i).wish
    slow_now i = slow_same seconds _ _ (agreed_keeps k (interval_of x.table (node * 4 + k)) x.streams i) (slow i)

    paced_now : Paced seconds f (serve f node boot x k).table.entries
    paced_now = by_due (request_is_due (serve f node boot x k).streams k)
      where
        by_due : (b : Bool) → Paced seconds f
            (put_if f node boot k (if b then Some (stream_at (serve f node boot x k).streams k).wish else None) x.table).entries
        by_due false = paced
        by_due true =
            after_asked seconds f x.table (record { node = node; boot = boot; stream = k; interval = (stream_at (serve f node boot x k).streams k).wish })
            (slow_now k) paced

-- the table from which a host plans
pub asked_paced : (seconds f node boot : ℕ) (kept : List Ask) (t : Table) (x : Streams) → AllSlow seconds kept
    → ((i : ℕ) → IsSlow seconds (stream_at x i).wish) → Paced seconds f t.entries
    → Paced seconds f (served f node boot (answers_to f kept t).table x).table.entries
asked_paced seconds f node boot kept t x all slow paced =
    (serves seconds f node boot (0 ∷ 1 ∷ 2 ∷ 3 ∷ []) (record { table = (answers_to f kept t).table; streams = x }) slow
    (answered seconds f kept (record { table = t; acks = [] }) all paced)).1

plan_paced : (n : Numbers) (node boot rank f : ℕ) (kept : List Ask) (t : Table) (x : Streams) → 0 < n.seconds → AllSlow n.seconds kept
    → ((i : ℕ) → IsSlow n.seconds (stream_at x i).wish) → Paced n.seconds f t.entries
    → ((i : ℕ) → IsSlow n.seconds (stream_at (host_plan n node boot rank f kept t x).streams i).wish)
    × Paced n.seconds (f + (host_plan n node boot rank f kept t x).gap) (host_plan n node boot rank f kept t x).table.entries
unfolding host_plan
plan_paced n node boot rank f kept t x some all slow paced =
    let first = answered n.seconds f kept (record { table = t; acks = [] }) all paced in
    let own = serves n.seconds f node boot (0 ∷ 1 ∷ 2 ∷ 3 ∷ []) (record { table = (answers_to f kept t).table; streams = x }) slow first in
    let table = (served f node boot (answers_to f kept t).table x).table in (
      own.0,
      subst (λ (g : ℕ). Paced n.seconds (f + g) (plan_round n.seconds f table).table.entries) (sym (round_gap n.seconds f table))
          (planned n.seconds f some table own.1),
    )

module _ (q : Setup) (f : ℕ) (some : 0 < q.profile.seconds) where
  abbrev sec : ℕ
  sec = q.profile.seconds

  pub opens : (part : Part) (c : Core) → KeepsPace sec c → KeepsPace sec (opened_slot q f part c).core
  opens Opening c is = is
  opens (DataSlot owner) c is = record {
    wishes = cond_both (node_of owner == q.id) (after_taking (stream_of owner) c.streams) c.streams (λ (x : Streams). (i : ℕ) → IsSlow sec (stream_at x i).wish)
        (λ _ i. slow_same sec _ _ (taken_keeps (stream_of owner) c.streams i) (is.wishes i)) (λ _. is.wishes);
    kept = is.kept;
    table = is.table;
  }
  opens (Contention k) c is = record {
    wishes = cond_both (is_own c.own_slot k) _ c.streams (λ (x : Streams). (i : ℕ) → IsSlow sec (stream_at x i).wish)
        (λ _ i. slow_same sec _ _ (contention_keeps q.id c.streams i) (is.wishes i)) (λ _. is.wishes);
    kept = is.kept;
    table = is.table;
  }
  opens Closing c is = by_test (hosts_now f c) refl
    where
      by_test : (b : Bool) → hosts_now f c ≡ b → KeepsPace sec (if b then host_closes q f c else silent c).core
      by_test false now = is
      by_test true now =
          (let plan = plan_paced q.profile q.id c.boot (rank_of c.tune) f c.kept c.table c.streams some is.kept is.wishes
          (paced_now sec (rank_of c.tune) f c.tune c.table.entries now is.table) in
          record { wishes = plan.0; kept = tt; table = plan.1 })

  pub says : (part : Part) (c : Core) (m : Message) → KeepsPace sec c → (opened_slot q f part c).message ≡ Some m → AsksSlowly sec m
  says part c (ScheduleOf y) is said = tt
  says part c (DataOf d) is said = tt
  says (DataSlot owner) c (RequestOf a) is said = (let d = only_data q f owner c (RequestOf a) said in let same = d.1 in absurd (cc))
  says Opening c (RequestOf a) is said = absurd (by_test (hosts_now f c) said)
    where
      by_test : (b : Bool) → (if b then Some (ScheduleOf (opening c.plan)) else None) ≡ Some (RequestOf a) → ⊥
      by_test true said = cc
      by_test false said = cc
  says Closing c (RequestOf a) is said = absurd (by_test (hosts_now f c) said)
    where
      by_test : (b : Bool) → (if b then host_closes q f c else silent c).message ≡ Some (RequestOf a) → ⊥
      by_test true said = cc
      by_test false said = cc
  says (Contention k) c (RequestOf a) is said = by_own (is_own c.own_slot k) (requested c.streams) said
    where
      by_own : (b : Bool) (w : Option ℕ) → (if b then option_map (request_of q.id c) w else None) ≡ Some (RequestOf a) → IsSlow sec a.interval
      by_own false w said = absurd (cc)
      by_own true None said = absurd (cc)
      by_own true (Some i) said = (let same : (stream_at c.streams i).wish ≡ a.interval = cc in subst (IsSlow sec) same (is.wishes i))

  table_heard : (t : Tune) (b heard : Bool) (owner : ℕ) (x : Table) → PacedBy sec t x.entries
      → PacedBy sec t (if b then owner_heard heard owner x else x).entries
  table_heard (Hold r d) b heard owner x is = tt
  table_heard (Scan r w) b heard owner x is = tt
  table_heard (Host r d) false heard owner x is = is
  table_heard (Host r d) true true owner x is = after_heard sec d owner x.entries is
  table_heard (Host r d) true false owner x is = after_missed sec d owner x.entries is

  heard : (part : Part) (b : Bool) (c : Core) → KeepsPace sec c → KeepsPace sec (slot_heard f part b c)
  heard Opening b c is = is
  heard (Contention k) b c is = is
  heard Closing b c is = is
  heard (DataSlot owner) b c is = record { wishes = is.wishes; kept = is.kept; table = table_heard c.tune (hosts_now f c) b owner c.table is.table }

  pub closes : (part : Part) (b : Bool) (c : Core) (o : Option Message) → ((m : Message) → o ≡ Some m → AsksSlowly sec m) → KeepsPace sec c
      → KeepsPace sec (closed_slot q f part b c o).core
  closes part b c None told is = heard part b c is
  closes part b c (Some (DataOf d)) told is = heard part true c is
  closes part b c (Some (RequestOf a)) told is = record {
    wishes = is.wishes;
    kept = cond_both (hosts_now f c) (c.kept ++ a ∷ []) c.kept (AllSlow sec) (λ _. one_more sec c.kept a is.kept (told (RequestOf a) refl)) (λ _. is.kept);
    table = is.table;
  }
  closes part b c (Some (ScheduleOf y)) told is = by_gap (y.gap == 0)
    where
      streams : (i : ℕ) → IsSlow sec (stream_at (schedule_heard q.id c.boot f y c.streams) i).wish
      streams i = slow_same sec _ _ (heard_keeps q.id c.boot f y c.streams i) (is.wishes i)

      by_gap : (t : Bool) → KeepsPace sec (if t then opening_accepted q.id f y c else closing_accepted q.id f y c)
      by_gap true = record { wishes = streams; kept = is.kept; table = is.table }
      by_gap false = record { wishes = streams; kept = is.kept; table = tt }

  -- the end of a frame
  pub ends : (c : Core) → KeepsPace sec c → KeepsPace sec (frame_ended q f c)
  ends c is = by_tune c.tune is.table
    where
      turned : Tune → Core
      turned t = record c { tune = t; own_slot = None }

      by_scan : (r w : ℕ) (u : Tune) → KeepsPace sec (as_host q.profile (begins_host (Scan r w) u) (turned u))
      by_scan r w (Scan s v) = record { wishes = is.wishes; kept = is.kept; table = tt }
      by_scan r w (Hold s d) = record { wishes = is.wishes; kept = is.kept; table = tt }
      by_scan r w (Host s d) = record {
        wishes = λ i. slow_same sec _ _ (unbound_keeps c.streams i) (is.wishes i);
        kept = is.kept;
        table = none_paced sec d;
      }

      by_due : (r d : ℕ) (b : Bool) → PacedBy sec (if b then Hold r d else Scan r 0) c.table.entries
      by_due r d true = tt
      by_due r d false = tt

      by_tune : (t : Tune) → PacedBy sec t c.table.entries
          → KeepsPace sec (as_host q.profile (begins_host t (next_tune t f (is_fresh c) q.own q.ranks)) (turned (next_tune t f (is_fresh c) q.own q.ranks)))
      by_tune (Host r d) paced = record { wishes = is.wishes; kept = is.kept; table = paced }
      by_tune (Hold r d) paced = record { wishes = is.wishes; kept = is.kept; table = by_due r d (nat_lt f d) }
      by_tune (Scan r w) paced = by_scan r w (next_tune (Scan r w) f (is_fresh c) q.own q.ranks)
