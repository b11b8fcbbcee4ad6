-- What a node does of itself: no packet more waits in any stream, and each has the number that it had for its next.
use Rattle.std.proofs.Common.{◌≡◌, ℕ, zero, suc, List, [], ◌∷◌, Bool, true, false, ◌==◌, if◌then◌else◌, Option, Some, None, Contains, drop}
use Rattle.std.proofs.Common.{refl, ap, subst}
use Rattle.std.specs.List.{slice_index_or}
use Rattle.std.specs.Prelude.{slice_set}
use Rattle.lwb_base.specs.Messages.{node_of, stream_of}
use Rattle.lwb_base.proofs.Elements.{contains_tail}
use Rattle.bus_rules.specs.declared.part.Part.{Part}
use Rattle.bus_rules.specs.declared.part.Part.TheVariants.{Opening, Data as DataSlot, Contention, Closing}
use Rattle.bus_rules.specs.Cores.{Core, Setup, as_host, begins_host, closing_accepted, frame_ended, is_fresh, opening_accepted}
use Rattle.bus_rules.specs.Slots.{DataOf, Message, RequestOf, ScheduleOf, closed_slot, host_closes, hosts_now, is_own, opened_slot, silent, slot_heard}
use Rattle.bus_rules.specs.HostPlans.{host_plan}
use Rattle.bus_rules.specs.Streams.{Stream, Streams, WaitingPacket, after_contention, no_stream, schedule_heard, stream_at, after_taking, unbound}
use Rattle.bus_rules.specs.Streams.{with_stream, without_first}
use Rattle.bus_rules.specs.Tuning.{next_tune, rank_of}
use Rattle.bus_terms.proofs.KeptFields as fields

-- one stream is exchanged for a related one
pub set_related : (R : Stream → Stream → Type 0) → ((x : Stream) → R x x) → (xs : List Stream) (k i : ℕ) (x : Stream)
    → R (slice_index_or xs k no_stream) x → R (slice_index_or xs i no_stream) (slice_index_or (slice_set xs k x) i no_stream)
set_related R same [] k i x is = same no_stream
set_related R same (y ∷ ys) zero zero x is = is
set_related R same (y ∷ ys) zero (suc i) x is = same (slice_index_or ys i no_stream)
set_related R same (y ∷ ys) (suc k) zero x is = same y
set_related R same (y ∷ ys) (suc k) (suc i) x is = set_related R same ys k i x is

-- y has the next number of x, and nothing waits in it that does not wait in x
pub record IsFewer (x y : Stream) : Type 0 where
  pub next : y.next ≡ x.next
  pub waits : (w : WaitingPacket) → Contains y.queue w → Contains x.queue w

pub same_stream : (x : Stream) → IsFewer x x
same_stream x = record { next = refl; waits = λ w there. there }

abbrev pub AreFewer : Streams → Streams → Type 0
AreFewer s t = (i : ℕ) → IsFewer (stream_at s i) (stream_at t i)

pub with_fewer : (s : Streams) (k : ℕ) (x : Stream) → IsFewer (stream_at s k) x → AreFewer s (with_stream k x s)
with_fewer s k x is i = set_related IsFewer same_stream s.all k i x is

first_fewer : (x : Stream) → IsFewer x (without_first x)
first_fewer x = record { next = refl; waits = by_queue x.queue }
  where
    by_queue : (ws : List WaitingPacket) (w : WaitingPacket) → Contains (drop 1 ws) w → Contains ws w
    by_queue [] w there = there
    by_queue (v ∷ vs) w there = contains_tail v vs w there

-- the two fields that count here
abbrev kept : Stream → List WaitingPacket × ℕ
kept x = (x.queue, x.next)

of_kept : (s t : Streams) → ((i : ℕ) → kept (stream_at t i) ≡ kept (stream_at s i)) → AreFewer s t
of_kept s t same i = record {
  next = ap (λ (p : List WaitingPacket × ℕ). p.1) (same i);
  waits = λ w there. subst (λ (p : List WaitingPacket × ℕ). Contains p.0 w) (same i) there;
}

-- a core after which this is so, of the same boot
pub record IsLess (c d : Core) : Type 0 where
  pub boot : d.boot ≡ c.boot
  pub streams : AreFewer c.streams d.streams

same_core : (c : Core) → IsLess c c
same_core c = record { boot = refl; streams = λ i. same_stream (stream_at c.streams i) }

module _ (q : Setup) (f : ℕ) where
  -- a window opens
  pub opened_less : (part : Part) (c : Core) → IsLess c (opened_slot q f part c).core
  opened_less Opening c = same_core c
  opened_less (DataSlot owner) c = by_test (node_of owner == q.id)
    where
      by_test : (b : Bool) → IsLess c (record c { streams = if b then after_taking (stream_of owner) c.streams else c.streams })
      by_test true = record { boot = refl; streams = with_fewer c.streams (stream_of owner) _ (first_fewer (stream_at c.streams (stream_of owner))) }
      by_test false = same_core c
  opened_less (Contention k) c = by_own (is_own c.own_slot k)
    where
      by_own : (b : Bool) → IsLess c (record c { streams = if b then after_contention q.id c.streams else c.streams })
      by_own true = record {
        boot = refl;
        streams = of_kept c.streams (after_contention q.id c.streams)
            (fields.contention_keeps kept (λ n x. refl) (λ n f x. refl) (λ f x. refl) (λ f x. refl) q.id c.streams);
      }
      by_own false = same_core c
  opened_less Closing c = by_test (hosts_now f c)
    where
      by_test : (b : Bool) → IsLess c (if b then host_closes q f c else silent c).core
      by_test true = record {
        boot = refl;
        streams = of_kept c.streams (host_plan q.profile q.id c.boot (rank_of c.tune) f c.kept c.table c.streams).streams
            (fields.plan_keeps kept (λ n x. refl) (λ n f x. refl) (λ f x. refl) (λ f x. refl) q.profile q.id c.boot (rank_of c.tune) f c.kept c.table
            c.streams);
      }
      by_test false = same_core c

  -- and closes
  heard_less : (part : Part) (b : Bool) (c : Core) → IsLess c (slot_heard f part b c)
  heard_less Opening b c = same_core c
  heard_less (DataSlot owner) b c = record { boot = refl; streams = λ i. same_stream (stream_at c.streams i) }
  heard_less (Contention k) b c = same_core c
  heard_less Closing b c = same_core c

  pub closed_less : (part : Part) (b : Bool) (c : Core) (o : Option Message) → IsLess c (closed_slot q f part b c o).core
  closed_less part b c None = heard_less part b c
  closed_less part b c (Some (DataOf d)) = heard_less part true c
  closed_less part b c (Some (RequestOf a)) = record { boot = refl; streams = λ i. same_stream (stream_at c.streams i) }
  closed_less part b c (Some (ScheduleOf y)) = by_gap (y.gap == 0)
    where
      heard : AreFewer c.streams (opening_accepted q.id f y c).streams
      heard =
          of_kept c.streams (schedule_heard q.id c.boot f y c.streams)
          (fields.heard_keeps kept (λ n x. refl) (λ n f x. refl) (λ f x. refl) (λ f x. refl) q.id c.boot f y c.streams)

      by_gap : (t : Bool) → IsLess c (if t then opening_accepted q.id f y c else closing_accepted q.id f y c)
      by_gap true = record { boot = refl; streams = heard }
      by_gap false = record { boot = refl; streams = heard }

  -- the end of a frame
  pub ended_less : (c : Core) → IsLess c (frame_ended q f c)
  ended_less c = by_host (begins_host c.tune (next_tune c.tune f (is_fresh c) q.own q.ranks))
    where
      ended : Core
      ended = record c { tune = next_tune c.tune f (is_fresh c) q.own q.ranks; own_slot = None }

      by_host : (o : Option ℕ) → IsLess c (as_host q.profile o ended)
      by_host None = record { boot = refl; streams = λ i. same_stream (stream_at c.streams i) }
      by_host (Some rank) = record {
        boot = refl;
        streams = of_kept c.streams (unbound c.streams)
            (fields.unbound_keeps kept (λ n x. refl) (λ n f x. refl) (λ f x. refl) (λ f x. refl) c.streams);
      }
