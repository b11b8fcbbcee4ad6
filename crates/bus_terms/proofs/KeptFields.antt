-- A field of the streams of a node that neither grants nor schedules change: slots and schedules keep it.
use Rattle.std.proofs.Common.{◌≡◌, ◌≢◌, ℕ, zero, suc, ◌-◌, ◌%◌, ◌^◌, ◌==◌, List, [], ◌∷◌, Bool, true, false}
use Rattle.std.proofs.Common.{Some, is_none, if◌then◌else◌, fold, map, refl, ◌∙◌, ap}
use Rattle.std.specs.List.{slice_index_or}
use Rattle.std.specs.Prelude.{slice_set}
use Rattle.lwb_base.specs.Messages.{Schedule, Ask, code, node_of, stream_of}
use Rattle.bus_rules.specs.HostPlans.{Served, answers_to, host_plan, serve}
use Rattle.bus_rules.specs.Streams.{Stream, Streams, acknowledged, after_contention, due_stream, after_forgetting, forgotten, granted_stream}
use Rattle.bus_rules.specs.Streams.{heard_host, is_host}
use Rattle.bus_rules.specs.Streams.{named_in, names, no_stream, owner_named, schedule_heard, stream_at, tries_after, unbound, with_agreed}
use Rattle.bus_rules.specs.Streams.{with_granted_interval}
use Rattle.bus_rules.specs.Streams.{with_stream}
use Rattle.bus_rules.specs.Tables.{Table, interval_of}
use Rattle.lwb_base.specs.Profile.{Numbers}

-- another stream than the one that is exchanged
pub other_stays : (xs : List Stream) (k i : ℕ) (x : Stream) → k ≢ i → slice_index_or (slice_set xs k x) i no_stream ≡ slice_index_or xs i no_stream
other_stays [] k i x other = refl
other_stays (y ∷ ys) zero zero x other = absurd (other refl)
other_stays (y ∷ ys) zero (suc i) x other = refl
other_stays (y ∷ ys) (suc k) zero x other = refl
other_stays (y ∷ ys) (suc k) (suc i) x other = other_stays ys k i x (λ same. other (ap suc same))

module _ {X : Type 0} (field : Stream → X)
    (agrees : (n : ℕ) (x : Stream) → field (with_granted_interval n x) ≡ field x)
    (grants : (n frame : ℕ) (x : Stream) → field (granted_stream n frame x) ≡ field x)
    (named : (frame : ℕ) (x : Stream) → field (named_in frame x) ≡ field x)
    (forgot : (frame : ℕ) (x : Stream) → field (forgotten frame x) ≡ field x) where
  -- each stream has in this field what it had
  abbrev pub KeepsField : Streams → Streams → Type 0
  KeepsField s t = (i : ℕ) → field (stream_at t i) ≡ field (stream_at s i)

  pub either_keeps : (b : Bool) (s t u : Streams) → KeepsField s t → KeepsField s u → KeepsField s (if b then t else u)
  either_keeps true s t u first second = first
  either_keeps false s t u first second = second

  set_keeps : (xs : List Stream) (k i : ℕ) (x : Stream) → field x ≡ field (slice_index_or xs k no_stream)
      → field (slice_index_or (slice_set xs k x) i no_stream) ≡ field (slice_index_or xs i no_stream)
  set_keeps [] k i x keeps = refl
  set_keeps (y ∷ ys) zero zero x keeps = keeps
  set_keeps (y ∷ ys) zero (suc i) x keeps = refl
  set_keeps (y ∷ ys) (suc k) zero x keeps = refl
  set_keeps (y ∷ ys) (suc k) (suc i) x keeps = set_keeps ys k i x keeps

  pub with_stream_keeps : (s : Streams) (k : ℕ) (x : Stream) → field x ≡ field (stream_at s k) → KeepsField s (with_stream k x s)
  with_stream_keeps s k x keeps i = set_keeps s.all k i x keeps

  map_keeps : (g : Stream → Stream) → ((x : Stream) → field (g x) ≡ field x) → (xs : List Stream) (i : ℕ)
      → field (slice_index_or (map g xs) i no_stream) ≡ field (slice_index_or xs i no_stream)
  map_keeps g keeps [] i = refl
  map_keeps g keeps (x ∷ xs) zero = keeps x
  map_keeps g keeps (x ∷ xs) (suc i) = map_keeps g keeps xs i

  pub unbound_keeps : (s : Streams) → KeepsField s (unbound s)
  unbound_keeps s i = map_keeps (with_granted_interval 0) (agrees 0) s.all i

  pub contention_keeps : (node : ℕ) (s : Streams) → KeepsField s (after_contention node s)
  contention_keeps node s =
      either_keeps (is_none (due_stream s)) s s _ (λ i. refl)
      (either_keeps (s.skips == 0) s
      (record s { tries = tries_after s; skips = node % 2 ^ tries_after s }) (record s { skips = s.skips - 1 }) (λ i. refl) (λ i. refl))

  pub agreed_keeps : (i interval : ℕ) (s : Streams) → KeepsField s (with_agreed i interval s)
  agreed_keeps i interval s = with_stream_keeps s i (with_granted_interval interval (stream_at s i)) (agrees interval (stream_at s i))

  fold_keeps : {A : Type 0} (g : Streams → A → Streams) → ((s : Streams) (a : A) → KeepsField s (g s a)) → (xs : List A) (s : Streams)
      → KeepsField s (fold g s xs)
  fold_keeps g keeps [] s i = refl
  fold_keeps g keeps (a ∷ more) s i = fold_keeps g keeps more (g s a) i ∙ keeps s a i

  host_keeps : (rank boot : ℕ) (s : Streams) → KeepsField s (heard_host rank boot s)
  host_keeps rank boot s =
      either_keeps (is_host s.host rank boot) s s (record (unbound s) { host = Some (rank, boot) }) (λ i. refl) (λ i. unbound_keeps s i)

  acknowledged_keeps : (node boot frame : ℕ) (s : Streams) (a : Ask) → KeepsField s (acknowledged node boot frame s a)
  acknowledged_keeps node boot frame s a =
      let x = granted_stream a.interval frame (stream_at s a.stream) in
      let same = grants a.interval frame (stream_at s a.stream) in
      either_keeps (names node boot a) s (record (with_stream a.stream x s) { tries = 0; skips = 0 }) s (λ i. with_stream_keeps s a.stream x same i)
      (λ i. refl)

  owns_keeps : (node frame : ℕ) (s : Streams) (c : ℕ) → KeepsField s (owner_named node frame s c)
  owns_keeps node frame s c =
      let x = named_in frame (stream_at s (stream_of c)) in
      either_keeps (node_of c == node) s (with_stream (stream_of c) x s) s (with_stream_keeps s (stream_of c) x (named frame (stream_at s (stream_of c))))
      (λ i. refl)

  pub heard_keeps : (node boot frame : ℕ) (x : Schedule) (s : Streams) → KeepsField s (schedule_heard node boot frame x s)
  unfolding schedule_heard
  heard_keeps node boot frame x s i =
      let known = heard_host x.plan.rank x.plan.boot s in
      let answered = fold (acknowledged node boot frame) known x.plan.acks in
      let at = fold (owner_named node frame) answered x.plan.owners in
      either_keeps (x.gap == 0) at at (after_forgetting frame at) (λ i. refl) (λ i. map_keeps (forgotten frame) (forgot frame) at.all i) i
      ∙ fold_keeps (owner_named node frame) (owns_keeps node frame) x.plan.owners answered i
      ∙ fold_keeps (acknowledged node boot frame) (acknowledged_keeps node boot frame) x.plan.acks known i ∙ host_keeps x.plan.rank x.plan.boot s i

  -- what a host agrees with itself
  serves_keep : (f node boot : ℕ) (is : List ℕ) (x : Served) → KeepsField x.streams (fold (serve f node boot) x is).streams
  serves_keep f node boot [] x i = refl
  serves_keep f node boot (k ∷ ks) x i =
      serves_keep f node boot ks (serve f node boot x k) i ∙ agreed_keeps k (interval_of x.table (code node k)) x.streams i

  pub plan_keeps : (n : Numbers) (node boot rank f : ℕ) (kept : List Ask) (t : Table) (s : Streams)
      → KeepsField s (host_plan n node boot rank f kept t s).streams
  unfolding host_plan
  plan_keeps n node boot rank f kept t s =
      serves_keep f node boot (0 ∷ 1 ∷ 2 ∷ 3 ∷ []) (record { table = (answers_to f kept t).table; streams = s })
