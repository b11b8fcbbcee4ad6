-- No row but that of a boot changes what the streams of a node requested interval.
use Rattle.std.proofs.Common.{◌≡◌, ℕ, zero, suc, ◌-◌, ◌%◌, ◌^◌, List, [], ◌∷◌, Bool, true, false, ◌==◌, is_none, if◌then◌else◌}
use Rattle.std.proofs.Common.{Some, None, Option, fold, map, length, refl, ◌∙◌}
use Rattle.std.specs.List.{slice_index_or}
use Rattle.std.specs.Prelude.{slice_set}
use Rattle.std.proofs.lemmas.Bool.{cond_both}
use Rattle.std.proofs.lemmas.List.{length-set, length-map}
use Rattle.lwb_base.specs.Messages.{Ask, Schedule, node_of, stream_of}
use Rattle.lwb_base.specs.Profile.{Numbers}
use Rattle.lwb_base.specs.declared.event.Event.{Event}
use Rattle.lwb_base.specs.declared.event.Event.TheVariants.{Boot, Alarm, Heard, Sent}
use Rattle.bus_rules.specs.Tables.{Table}
use Rattle.bus_rules.specs.HostPlans.{Served, serve, answers_to, host_plan}
use Rattle.bus_rules.specs.Streams.{Stream, Streams, no_stream, stream_at, with_stream, after_taking, without_first, unbound, heard_host, is_host, names}
use Rattle.bus_rules.specs.Streams.{acknowledged, owner_named, after_forgetting, forgotten, with_granted_interval, after_contention, tries_after}
use Rattle.bus_rules.specs.Streams.{due_stream, schedule_heard}
use Rattle.bus_rules.specs.Streams.{granted_stream, named_in}
use Rattle.bus_rules.specs.declared.part.Part.{Part}
use Rattle.bus_rules.specs.declared.part.Part.TheVariants.{Opening, Data as DataSlot, Contention, Closing}
use Rattle.bus_rules.specs.Cores.{Core, Setup, as_host, opening_accepted, closing_accepted}
use Rattle.bus_rules.specs.Slots.{Message, ScheduleOf, DataOf, RequestOf, opened_slot, closed_slot, host_closes, silent, hosts_now, slot_heard, part_of, is_own}
use Rattle.bus_rules.specs.Tuning.{rank_of}
use Rattle.node_core.specs.Nodes.{Node}
use Rattle.node_core.specs.Rows.{Stepped, row, at_alarm, at_heard, at_sent, scanner_hears, joins, sends, accepted_in}
use Rattle.node_core.specs.declared.stage.Stage.{Stage}
use Rattle.node_core.specs.declared.stage.Stage.TheVariants.{Idle, Scanning, AwaitFrame, AwaitSlot, InWindow}

-- as many streams, which requested interval the same
pub record SameWishes (s t : Streams) : Type 0 where
  pub count : length t.all ≡ length s.all
  pub wish : (i : ℕ) → (stream_at t i).wish ≡ (stream_at s i).wish

in_turn : (s t u : Streams) → SameWishes s t → SameWishes t u → SameWishes s u
in_turn s t u first second = record { count = second.count ∙ first.count; wish = λ i. second.wish i ∙ first.wish i }

pub same : (s : Streams) → SameWishes s s
same s = record { count = refl; wish = λ i. refl }

-- either way
either : (b : Bool) (s t u : Streams) → SameWishes s t → SameWishes s u → SameWishes s (if b then t else u)
either true s t u first second = first
either false s t u first second = second

-- one stream is exchanged
set_wish : (xs : List Stream) (k i : ℕ) (x : Stream) → x.wish ≡ (slice_index_or xs k no_stream).wish
    → (slice_index_or (slice_set xs k x) i no_stream).wish ≡ (slice_index_or xs i no_stream).wish
set_wish [] k i x is = refl
set_wish (y ∷ ys) zero zero x is = is
set_wish (y ∷ ys) zero (suc i) x is = refl
set_wish (y ∷ ys) (suc k) zero x is = refl
set_wish (y ∷ ys) (suc k) (suc i) x is = set_wish ys k i x is

pub with_same : (s : Streams) (k : ℕ) (x : Stream) → x.wish ≡ (stream_at s k).wish → SameWishes s (with_stream k x s)
with_same s k x is = record { count = length-set s.all k x; wish = λ i. set_wish s.all k i x is }

-- each stream is changed, but for its requested interval
map_wish : (g : Stream → Stream) → ((x : Stream) → (g x).wish ≡ x.wish) → (xs : List Stream) (i : ℕ)
    → (slice_index_or (map g xs) i no_stream).wish ≡ (slice_index_or xs i no_stream).wish
map_wish g keeps [] i = refl
map_wish g keeps (x ∷ xs) zero = keeps x
map_wish g keeps (x ∷ xs) (suc i) = map_wish g keeps xs i

unbound_same : (s : Streams) → SameWishes s (unbound s)
unbound_same s = record { count = length-map s.all (with_granted_interval 0); wish = λ i. map_wish (with_granted_interval 0) (λ x. refl) s.all i }

contention_same : (node : ℕ) (s : Streams) → SameWishes s (after_contention node s)
contention_same node s =
    either (is_none (due_stream s)) s s _ (same s)
    (either (s.skips == 0) s
    (record s { tries = tries_after s; skips = node % 2 ^ tries_after s }) (record s { skips = s.skips - 1 })
    (record { count = refl; wish = λ i. refl }) (record { count = refl; wish = λ i. refl }))

-- steps one after another
fold_same : {A : Type 0} (g : Streams → A → Streams) → ((s : Streams) (a : A) → SameWishes s (g s a)) → (xs : List A) (s : Streams) → SameWishes s (fold g s xs)
fold_same g keeps [] s = same s
fold_same g keeps (a ∷ more) s = in_turn s (g s a) (fold g (g s a) more) (keeps s a) (fold_same g keeps more (g s a))

host_same : (rank boot : ℕ) (s : Streams) → SameWishes s (heard_host rank boot s)
host_same rank boot s =
    let free = unbound_same s in
    either (is_host s.host rank boot) s s (record (unbound s) { host = Some (rank, boot) }) (same s) (record { count = free.count; wish = free.wish })

acknowledged_same : (node boot frame : ℕ) (s : Streams) (a : Ask) → SameWishes s (acknowledged node boot frame s a)
acknowledged_same node boot frame s a =
    let x = granted_stream a.interval frame (stream_at s a.stream) in
    let new = with_same s a.stream x refl in
    either (names node boot a) s (record (with_stream a.stream x s) { tries = 0; skips = 0 }) s (record { count = new.count; wish = new.wish }) (same s)

owns_same : (node frame : ℕ) (s : Streams) (c : ℕ) → SameWishes s (owner_named node frame s c)
owns_same node frame s c =
    let x = named_in frame (stream_at s (stream_of c)) in
    either (node_of c == node) s (with_stream (stream_of c) x s) s (with_same s (stream_of c) x refl) (same s)

forgets_same : (frame : ℕ) (s : Streams) → SameWishes s (after_forgetting frame s)
forgets_same frame s = record { count = length-map s.all (forgotten frame); wish = λ i. map_wish (forgotten frame) (λ x. refl) s.all i }

heard_same : (node boot frame : ℕ) (x : Schedule) (s : Streams) → SameWishes s (schedule_heard node boot frame x s)
unfolding schedule_heard
heard_same node boot frame x s =
    let known = heard_host x.plan.rank x.plan.boot s in
    let answered = fold (acknowledged node boot frame) known x.plan.acks in
    let named = fold (owner_named node frame) answered x.plan.owners in
    let first = host_same x.plan.rank x.plan.boot s in
    let second = fold_same (acknowledged node boot frame) (acknowledged_same node boot frame) x.plan.acks known in
    let third = fold_same (owner_named node frame) (owns_same node frame) x.plan.owners answered in
    let all = in_turn s answered named (in_turn s known answered first second) third in
    either (x.gap == 0) s named (after_forgetting frame named) all (in_turn s named (after_forgetting frame named) all (forgets_same frame named))

-- a host serves its own streams
served_same : (frame node boot : ℕ) (is : List ℕ) (x : Served) → SameWishes x.streams (fold (serve frame node boot) x is).streams
served_same frame node boot [] x = same x.streams
served_same frame node boot (k ∷ ks) x =
    let y = serve frame node boot x k in
    in_turn x.streams y.streams (fold (serve frame node boot) y ks).streams (with_same x.streams k _ refl) (served_same frame node boot ks y)

plan_same : (p : Numbers) (node boot rank frame : ℕ) (kept : List Ask) (t : Table) (s : Streams)
    → SameWishes s (host_plan p node boot rank frame kept t s).streams
unfolding host_plan
plan_same p node boot rank frame kept t s =
    served_same frame node boot (0 ∷ 1 ∷ 2 ∷ 3 ∷ []) (record { table = (answers_to frame kept t).table; streams = s })

-- the rows
abbrev pub KeepsWishes : Node → Option Stepped → Type 0
KeepsWishes n None = Unit {0}
KeepsWishes n (Some r) = SameWishes n.core.streams r.node.core.streams

at_host : (p : Numbers) (rank : Option ℕ) (c : Core) → SameWishes c.streams (as_host p rank c).streams
at_host p None c = same c.streams
at_host p (Some rank) c = unbound_same c.streams

at_opening : (s : Setup) (f : ℕ) (part : Part) (c : Core) → SameWishes c.streams (opened_slot s f part c).core.streams
at_opening s f Opening c = same c.streams
at_opening s f (DataSlot owner) c =
    let i = stream_of owner in
    either (node_of owner == s.id) c.streams (after_taking i c.streams) c.streams
    (with_same c.streams i (without_first (stream_at c.streams i)) refl) (same c.streams)
at_opening s f (Contention i) c =
    either (is_own c.own_slot i) c.streams (after_contention s.id c.streams) c.streams (contention_same s.id c.streams) (same c.streams)
at_opening s f Closing c =
    cond_both (hosts_now f c) (host_closes s f c) (silent c) (λ o. SameWishes c.streams o.core.streams)
    (λ is. plan_same s.profile s.id c.boot (rank_of c.tune) f c.kept c.table c.streams) (λ is. same c.streams)

in_slot : (f : ℕ) (part : Part) (heard : Bool) (c : Core) → SameWishes c.streams (slot_heard f part heard c).streams
in_slot f Opening heard c = same c.streams
in_slot f (DataSlot owner) heard c = same c.streams
in_slot f (Contention i) heard c = same c.streams
in_slot f Closing heard c = same c.streams

at_closing : (s : Setup) (f : ℕ) (part : Part) (initiated : Bool) (c : Core) (m : Option Message)
    → SameWishes c.streams (closed_slot s f part initiated c m).core.streams
at_closing s f part initiated c None = in_slot f part initiated c
at_closing s f part initiated c (Some (ScheduleOf x)) =
    cond_both (x.gap == 0) (opening_accepted s.id f x c) (closing_accepted s.id f x c) (λ (k : Core). SameWishes c.streams k.streams)
    (λ is. heard_same s.id c.boot f x c.streams) (λ is. heard_same s.id c.boot f x c.streams)
at_closing s f part initiated c (Some (DataOf d)) = in_slot f part true c
at_closing s f part initiated c (Some (RequestOf a)) = same c.streams

by_alarm : (s : Setup) (n : Node) (stage : Stage) → KeepsWishes n (at_alarm s n stage)
by_alarm s n Idle = tt
by_alarm s n Scanning = at_host s.profile _ _
by_alarm s n AwaitFrame = at_host s.profile _ _
by_alarm s n (AwaitSlot j) = at_opening s n.frame (part_of n.core.plan j) n.core
by_alarm s n (InWindow j w) = at_closing s n.frame w.part w.flood.initiated n.core (accepted_in w)

by_schedule : (s : Setup) (n : Node) (now : ℕ) (p : List ℕ) (m : Option Message) → KeepsWishes n (scanner_hears s n now p m)
by_schedule s n now p None = tt
by_schedule s n now p (Some (DataOf d)) = tt
by_schedule s n now p (Some (RequestOf a)) = tt
by_schedule s n now p (Some (ScheduleOf x)) =
    cond_both (x.plan.rank == rank_of n.core.tune) (Some (joins s n now p x)) None (KeepsWishes n) (λ is. same n.core.streams) (λ is. tt)

by_hearing : (s : Setup) (n : Node) (now : ℕ) (p : List ℕ) (stage : Stage) → KeepsWishes n (at_heard s n now p stage)
by_hearing s n now p Idle = tt
by_hearing s n now p Scanning = by_schedule s n now p _
by_hearing s n now p AwaitFrame = tt
by_hearing s n now p (AwaitSlot j) = tt
by_hearing s n now p (InWindow j w) = same n.core.streams

by_sending : (n : Node) (stage : Stage) → KeepsWishes n (at_sent n stage)
by_sending n Idle = tt
by_sending n Scanning = tt
by_sending n AwaitFrame = tt
by_sending n (AwaitSlot j) = tt
by_sending n (InWindow j w) = cond_both w.flood.waiting (Some (sends n j w)) None (KeepsWishes n) (λ is. same n.core.streams) (λ is. tt)

abbrev pub IsNoBoot : Event → Type 0
IsNoBoot Boot = ⊥
IsNoBoot Alarm = Unit {0}
IsNoBoot (Heard p) = Unit {0}
IsNoBoot Sent = Unit {0}

pub wishes_kept : (s : Setup) (n : Node) (now : ℕ) (e : Event) → IsNoBoot e → KeepsWishes n (row s n now e)
wishes_kept s n now Boot other = absurd other
wishes_kept s n now Alarm other = by_alarm s n n.stage
wishes_kept s n now (Heard p) other = by_hearing s n now p n.stage
wishes_kept s n now Sent other = by_sending n n.stage
