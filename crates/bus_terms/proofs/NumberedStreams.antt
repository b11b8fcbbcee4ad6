-- The numbers of a stream: those that wait ascend and are below the next. What is done to streams keeps that.
use Rattle.std.proofs.Common.{◌≡◌, ℕ, zero, suc, ◌+◌, ◌≤◌, List, [], ◌∷◌, ◌++◌, ◌-◌, ◌%◌, ◌^◌, Bool, true, false, ◌==◌}
use Rattle.std.proofs.Common.{is_none, if◌then◌else◌, Some, fold, map, arith, slice_get, drop, subst}
use Rattle.std.specs.List.{slice_index_or}
use Rattle.std.specs.Prelude.{slice_set}
use Rattle.std.proofs.lemmas.Bool.{cond_both}
use Rattle.lwb_base.specs.Messages.{Ask, Schedule, node_of, stream_of}
use Rattle.lwb_base.specs.Profile.{Numbers}
use Rattle.bus_rules.specs.declared.act.Act.{Act}
use Rattle.bus_rules.specs.declared.act.Act.TheVariants.{On, Off, Declare, Leave, Put}
use Rattle.bus_rules.specs.Tables.{Table}
use Rattle.bus_rules.specs.HostPlans.{Served, serve, answers_to, host_plan}
use Rattle.bus_rules.specs.Streams.{WaitingPacket, Stream, Streams, no_stream, stream_at, with_stream, queued, refuses, put_to, after_put, declared}
use Rattle.bus_rules.specs.Streams.{streams_after_leaving, after_taking, without_first, unbound, heard_host, is_host, names, acknowledged}
use Rattle.bus_rules.specs.Streams.{owner_named, after_forgetting, forgotten}
use Rattle.bus_rules.specs.Streams.{with_granted_interval, with_agreed, after_contention, tries_after, due_stream, schedule_heard, first_waiting, cleared}
use Rattle.bus_rules.specs.Streams.{granted_stream, named_in, wishes, emptied, streams_after_act}

-- from a number on, ascending, and below the next
abbrev pub Rises : ℕ → List WaitingPacket → ℕ → Type 0
Rises low [] next = low ≤ next
Rises low (w ∷ ws) next = (low ≤ w.seq) × Rises (w.seq + 1) ws next

abbrev pub IsNumbered : ℕ → Stream → Type 0
IsNumbered low x = Rises low x.queue x.next

pub from_lower : (low high : ℕ) (ws : List WaitingPacket) (next : ℕ) → low ≤ high → Rises high ws next → Rises low ws next
from_lower low high [] next le is = omega arith
from_lower low high (w ∷ ws) next le is = (omega arith, is.1)

up_to_next : (low : ℕ) (ws : List WaitingPacket) (next : ℕ) → Rises low ws next → low ≤ next
up_to_next low [] next is = is
up_to_next low (w ∷ ws) next is = (let rest = up_to_next (w.seq + 1) ws next is.1 in omega arith)

one_more : (low : ℕ) (ws : List WaitingPacket) (next : ℕ) (payload : List ℕ) → Rises low ws next
    → Rises low (ws ++ record { seq = next; payload = payload } ∷ []) (next + 1)
one_more low [] next payload is = (is, omega arith)
one_more low (w ∷ ws) next payload is = (is.0, one_more (w.seq + 1) ws next payload is.1)

abbrev pub KeepsNumbers : Stream → Stream → Type 0
KeepsNumbers x y = (low : ℕ) → IsNumbered low x → IsNumbered low y

abbrev pub KeepsAll : Streams → Streams → Type 0
KeepsAll s t = (i : ℕ) → KeepsNumbers (stream_at s i) (stream_at t i)

same_keeps : (s : Streams) → KeepsAll s s
same_keeps s i low is = is

-- either way
either_keeps : (b : Bool) (s t u : Streams) → KeepsAll s t → KeepsAll s u → KeepsAll s (if b then t else u)
either_keeps true s t u first second = first
either_keeps false s t u first second = second

-- one stream is exchanged
set_keeps : (xs : List Stream) (k i : ℕ) (x : Stream) → KeepsNumbers (slice_index_or xs k no_stream) x
    → KeepsNumbers (slice_index_or xs i no_stream) (slice_index_or (slice_set xs k x) i no_stream)
set_keeps [] k i x keeps low is = is
set_keeps (y ∷ ys) zero zero x keeps low is = keeps low is
set_keeps (y ∷ ys) zero (suc i) x keeps low is = is
set_keeps (y ∷ ys) (suc k) zero x keeps low is = is
set_keeps (y ∷ ys) (suc k) (suc i) x keeps low is = set_keeps ys k i x keeps low is

pub with_stream_keeps : (s : Streams) (k : ℕ) (x : Stream) → KeepsNumbers (stream_at s k) x → KeepsAll s (with_stream k x s)
with_stream_keeps s k x keeps i = set_keeps s.all k i x keeps

-- each stream is changed, but for its numbers
map_keeps : (g : Stream → Stream) → ((x : Stream) → KeepsNumbers x (g x)) → (xs : List Stream) (i : ℕ)
    → KeepsNumbers (slice_index_or xs i no_stream) (slice_index_or (map g xs) i no_stream)
map_keeps g keeps [] i low is = is
map_keeps g keeps (x ∷ xs) zero low is = keeps x low is
map_keeps g keeps (x ∷ xs) (suc i) low is = map_keeps g keeps xs i low is

declared_keeps : (i interval : ℕ) (s : Streams) → KeepsAll s (declared i interval s)
declared_keeps i interval s = with_stream_keeps s i (wishes interval (stream_at s i)) (λ low is. is)

left_keeps : (i : ℕ) (s : Streams) → KeepsAll s (streams_after_leaving i s)
left_keeps i s = with_stream_keeps s i (emptied (stream_at s i)) (λ low is. up_to_next low (stream_at s i).queue (stream_at s i).next is)

put_keeps : (i : ℕ) (payload : List ℕ) (s : Streams) → KeepsAll s (after_put i payload s)
put_keeps i payload s = with_stream_keeps s i (put_to payload (stream_at s i)) (put_one (stream_at s i))
  where
    put_one : (x : Stream) → KeepsNumbers x (put_to payload x)
    put_one x low is = cond_both (refuses x) x (queued payload x) (λ (y : Stream). IsNumbered low y) (λ _. is) (λ _. one_more low x.queue x.next payload is)

pub told_keeps : (a : Act) (s : Streams) → KeepsAll s (streams_after_act a s)
told_keeps On s = same_keeps s
told_keeps Off s = same_keeps s
told_keeps (Declare i interval) s = declared_keeps i interval s
told_keeps (Leave i) s = left_keeps i s
told_keeps (Put i payload) s = put_keeps i payload s

pub first_keeps : (x : Stream) → KeepsNumbers x (without_first x)
first_keeps x low is = by_queue x.queue x.next is
  where
    by_queue : (ws : List WaitingPacket) (next : ℕ) → Rises low ws next → IsNumbered low (without_first (record x { queue = ws; next = next }))
    by_queue [] next is = is
    by_queue (w ∷ ws) next is = from_lower low (w.seq + 1) ws next (omega arith) is.1

pub taken_keeps : (i : ℕ) (s : Streams) → KeepsAll s (after_taking i s)
taken_keeps i s = with_stream_keeps s i (without_first (stream_at s i)) (first_keeps (stream_at s i))

pub unbound_keeps : (s : Streams) → KeepsAll s (unbound s)
unbound_keeps s i = map_keeps (with_granted_interval 0) (λ x low is. is) s.all i

pub contention_keeps : (node : ℕ) (s : Streams) → KeepsAll s (after_contention node s)
contention_keeps node s =
    either_keeps (is_none (due_stream s)) s s _ (same_keeps s)
    (either_keeps (s.skips == 0) s
    (record s { tries = tries_after s; skips = node % 2 ^ tries_after s }) (record s { skips = s.skips - 1 }) (λ i low is. is) (λ i low is. is))

pub agreed_keeps : (i interval : ℕ) (s : Streams) → KeepsAll s (with_agreed i interval s)
agreed_keeps i interval s = with_stream_keeps s i (with_granted_interval interval (stream_at s i)) (λ low is. is)

-- steps one after another
fold_keeps : {A : Type 0} (g : Streams → A → Streams) → ((s : Streams) (a : A) → KeepsAll s (g s a)) → (xs : List A) (s : Streams) → KeepsAll s (fold g s xs)
fold_keeps g keeps [] s i low is = is
fold_keeps g keeps (a ∷ more) s i low is = fold_keeps g keeps more (g s a) i low (keeps s a i low is)

host_keeps : (rank boot : ℕ) (s : Streams) → KeepsAll s (heard_host rank boot s)
host_keeps rank boot s =
    either_keeps (is_host s.host rank boot) s s (record (unbound s) { host = Some (rank, boot) }) (same_keeps s) (λ i low is. unbound_keeps s i low is)

acknowledged_keeps : (node boot frame : ℕ) (s : Streams) (a : Ask) → KeepsAll s (acknowledged node boot frame s a)
acknowledged_keeps node boot frame s a =
    let x = granted_stream a.interval frame (stream_at s a.stream) in
    either_keeps (names node boot a) s (record (with_stream a.stream x s) { tries = 0; skips = 0 }) s
    (λ i low is. with_stream_keeps s a.stream x (λ low is. is) i low is) (same_keeps s)

owns_keeps : (node frame : ℕ) (s : Streams) (c : ℕ) → KeepsAll s (owner_named node frame s c)
owns_keeps node frame s c =
    let x = named_in frame (stream_at s (stream_of c)) in
    either_keeps (node_of c == node) s (with_stream (stream_of c) x s) s (with_stream_keeps s (stream_of c) x (λ low is. is)) (same_keeps s)

forgets_keeps : (frame : ℕ) (s : Streams) → KeepsAll s (after_forgetting frame s)
forgets_keeps frame s i = map_keeps (forgotten frame) (λ x low is. is) s.all i

pub heard_keeps : (node boot frame : ℕ) (x : Schedule) (s : Streams) → KeepsAll s (schedule_heard node boot frame x s)
unfolding schedule_heard
heard_keeps node boot frame x s i low is =
    let known = heard_host x.plan.rank x.plan.boot s in
    let answered = fold (acknowledged node boot frame) known x.plan.acks in
    let named = fold (owner_named node frame) answered x.plan.owners in
    let first = host_keeps x.plan.rank x.plan.boot s i low is in
    let second = fold_keeps (acknowledged node boot frame) (acknowledged_keeps node boot frame) x.plan.acks known i low first in
    let third = fold_keeps (owner_named node frame) (owns_keeps node frame) x.plan.owners answered i low second in
    either_keeps (x.gap == 0) named named (after_forgetting frame named) (same_keeps named) (forgets_keeps frame named) i low third

-- a host serves its own streams
serve_keeps : (frame node boot : ℕ) (x : Served) (i : ℕ) → KeepsAll x.streams (serve frame node boot x i).streams
serve_keeps frame node boot x i = agreed_keeps i _ x.streams

served_keeps : (frame node boot : ℕ) (is : List ℕ) (x : Served) → KeepsAll x.streams (fold (serve frame node boot) x is).streams
served_keeps frame node boot [] x i low is = is
served_keeps frame node boot (k ∷ ks) x i low is =
    served_keeps frame node boot ks (serve frame node boot x k) i low (serve_keeps frame node boot x k i low is)

pub plan_keeps : (p : Numbers) (node boot rank frame : ℕ) (kept : List Ask) (t : Table) (s : Streams)
    → KeepsAll s (host_plan p node boot rank frame kept t s).streams
unfolding host_plan
plan_keeps p node boot rank frame kept t s =
    served_keeps frame node boot (0 ∷ 1 ∷ 2 ∷ 3 ∷ []) (record { table = (answers_to frame kept t).table; streams = s })

-- the first that waits is taken: it is from the bound on, and those that are left are above it
take_first : (xs : List Stream) (i low : ℕ) (w : WaitingPacket) → slice_get (slice_index_or xs i no_stream).queue 0 ≡ Some w
    → IsNumbered low (slice_index_or xs i no_stream)
    → (low ≤ w.seq) × IsNumbered (w.seq + 1) (slice_index_or (slice_set xs i (without_first (slice_index_or xs i no_stream))) i no_stream)
take_first [] i low w first is = absurd (cc)
take_first (x ∷ xs) zero low w first is = by_queue x.queue x.next first is
  where
    by_queue : (ws : List WaitingPacket) (next : ℕ) → slice_get ws 0 ≡ Some w → Rises low ws next → (low ≤ w.seq) × Rises (w.seq + 1) (drop 1 ws) next
    by_queue [] next first is = absurd (cc)
    by_queue (v ∷ vs) next first is = (let same : v ≡ w = cc in subst (λ (x : WaitingPacket). (low ≤ x.seq) × Rises (x.seq + 1) vs next) same is)
take_first (x ∷ xs) (suc i) low w first is = take_first xs i low w first is

pub taken_first : (s : Streams) (i low : ℕ) (w : WaitingPacket) → first_waiting s i ≡ Some w → IsNumbered low (stream_at s i)
    → (low ≤ w.seq) × IsNumbered (w.seq + 1) (stream_at (after_taking i s) i)
taken_first s i low w first is = take_first s.all i low w first is

-- as a boot leaves them
pub cleared_is_numbered : (i : ℕ) → IsNumbered 0 (stream_at cleared i)
cleared_is_numbered zero = omega arith
cleared_is_numbered (suc zero) = omega arith
cleared_is_numbered (suc (suc zero)) = omega arith
cleared_is_numbered (suc (suc (suc zero))) = omega arith
cleared_is_numbered (suc (suc (suc (suc i)))) = omega arith
