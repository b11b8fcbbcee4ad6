-- The intervals that the streams of a node request: slots and schedules keep them, and the script alone changes them.
use Rattle.std.proofs.Common.{◌≡◌, ℕ, zero, suc, List, [], ◌∷◌, refl, slice_set}
use Rattle.law_times.proofs.Words.{slice_index_or, Schedule, Stream, Streams, after_contention, no_stream, schedule_heard, stream_at, after_taking, unbound}
use Rattle.law_times.proofs.Words.{with_agreed, without_first}
use Rattle.bus_terms.proofs.KeptFields as fields

abbrev wish : Stream → ℕ
wish x = x.wish

-- each stream requests what it did
abbrev pub KeepsWishes : Streams → Streams → Type 0
KeepsWishes s t = (i : ℕ) → (stream_at t i).wish ≡ (stream_at s i).wish

pub set_wish : (P : ℕ → Type 0) (xs : List Stream) (k i : ℕ) (x : Stream) → P x.wish → P (slice_index_or xs i no_stream).wish
    → P (slice_index_or (slice_set xs k x) i no_stream).wish
set_wish P [] k i x new is = is
set_wish P (y ∷ ys) zero zero x new is = new
set_wish P (y ∷ ys) zero (suc i) x new is = is
set_wish P (y ∷ ys) (suc k) zero x new is = is
set_wish P (y ∷ ys) (suc k) (suc i) x new is = set_wish P ys k i x new is

pub taken_keeps : (i : ℕ) (s : Streams) → KeepsWishes s (after_taking i s)
taken_keeps i s = fields.with_stream_keeps wish (λ n x. refl) (λ n f x. refl) (λ f x. refl) (λ f x. refl) s i (without_first (stream_at s i)) refl

pub unbound_keeps : (s : Streams) → KeepsWishes s (unbound s)
unbound_keeps = fields.unbound_keeps wish (λ n x. refl) (λ n f x. refl) (λ f x. refl) (λ f x. refl)

pub contention_keeps : (node : ℕ) (s : Streams) → KeepsWishes s (after_contention node s)
contention_keeps = fields.contention_keeps wish (λ n x. refl) (λ n f x. refl) (λ f x. refl) (λ f x. refl)

pub agreed_keeps : (i interval : ℕ) (s : Streams) → KeepsWishes s (with_agreed i interval s)
agreed_keeps = fields.agreed_keeps wish (λ n x. refl) (λ n f x. refl) (λ f x. refl) (λ f x. refl)

pub heard_keeps : (node boot frame : ℕ) (x : Schedule) (s : Streams) → KeepsWishes s (schedule_heard node boot frame x s)
heard_keeps = fields.heard_keeps wish (λ n x. refl) (λ n f x. refl) (λ f x. refl) (λ f x. refl)
