-- The packets that wait at a node: its own data slots take the first of a queue, the script adds to the end, and nothing else changes it.
use Rattle.std.proofs.Common.{◌≡◌, ◌≢◌, ◌≤◌, ◌==◌, ℕ, zero, suc, List, [], ◌∷◌, ◌++◌, Bool, true, false, inl, inr, Option, Some, None, if◌then◌else◌, drop}
use Rattle.std.proofs.Common.{slice_get, refl, sym, ◌∙◌, ap, subst, arith, slice_set}
use Rattle.law_times.proofs.Words.{slice_index_or, cases_eq, cond_both, eqb-true, eq-eqb, eqb-false, false≢true, code, node_of, stream_of, Act, On, Off}
use Rattle.law_times.proofs.Words.{Declare, Leave, Put, Part, Opening, DataSlot, Contention, Closing, Core, Setup, as_host, begins_host, closing_accepted}
use Rattle.law_times.proofs.Words.{frame_ended, is_fresh, opening_accepted, DataOf, Message, RequestOf, ScheduleOf, closed_slot, host_closes, hosts_now, is_own}
use Rattle.law_times.proofs.Words.{opened_slot, silent, slot_heard, State, StateOff, StateOn, at_core, Stream, WaitingPacket, after_contention, emptied}
use Rattle.law_times.proofs.Words.{no_stream, put_to, queued, refuses, stream_at, after_taking, wishes, with_stream, without_first, next_tune, rank_of}
use Rattle.law_times.proofs.Words.{IsQueued, StreamPacket, leaves, core_after_act, ScenarioParts, StaysOn, has_line, rounds, state_at, setup_of}
use Rattle.bus_terms.proofs.KeptFields as fields
use Rattle.law_times.proofs.KeptCores.{OnWith, next_keeps}

abbrev pub queue : Stream → List WaitingPacket
queue x = x.queue

-- each stream has the queue that it had, and its node the boot
pub record KeepsQueues (c d : Core) : Type 0 where
  pub boot : d.boot ≡ c.boot
  pub queues : (i : ℕ) → (stream_at d.streams i).queue ≡ (stream_at c.streams i).queue

-- a data slot of this stream of a node
abbrev pub is_slot_of : ℕ → Part → Bool
is_slot_of c Opening = false
is_slot_of c (DataSlot owner) = owner == c
is_slot_of c (Contention i) = false
is_slot_of c Closing = false

-- the first packet of this stream leaves its queue; all else stays
pub record TakesFirst (i : ℕ) (c d : Core) : Type 0 where
  pub boot : d.boot ≡ c.boot
  pub queue : (stream_at d.streams i).queue ≡ drop 1 (stream_at c.streams i).queue

taken_first : (xs : List Stream) (i : ℕ)
    → (slice_index_or (slice_set xs i (without_first (slice_index_or xs i no_stream))) i no_stream).queue ≡ drop 1 (slice_index_or xs i no_stream).queue
taken_first [] i = refl
taken_first (y ∷ ys) zero = refl
taken_first (y ∷ ys) (suc i) = taken_first ys i

pub parts_of_code : (v i : ℕ) → i ≤ 3 → (node_of (code v i) ≡ v) × (stream_of (code v i) ≡ i)
parts_of_code v i few = (omega (arith, few), omega (arith, few))

code_of_parts : (owner v i : ℕ) → node_of owner ≡ v → stream_of owner ≡ i → owner ≡ code v i
code_of_parts owner v i node stream = omega (arith, node, stream)

-- in a window
module _ (q : Setup) (f : ℕ) where
  opened_data : (owner i : ℕ) (c : Core) → (owner ≢ code q.id i) → i ≤ 3 → (b : Bool) → (node_of owner == q.id) ≡ b
      → (stream_at (if b then after_taking (stream_of owner) c.streams else c.streams) i).queue ≡ (stream_at c.streams i).queue
  opened_data owner i c other few false at = refl
  opened_data owner i c other few true at =
      ap queue (fields.other_stays c.streams.all (stream_of owner) i (without_first (stream_at c.streams (stream_of owner)))
      (λ same. other (code_of_parts owner q.id i (eqb-true (node_of owner) q.id at) same)))

  -- one of another stream, and any other part, leaves the queue
  pub opened_other : (part : Part) (c : Core) (i : ℕ) → i ≤ 3 → is_slot_of (code q.id i) part ≡ false
      → ((opened_slot q f part c).core.boot ≡ c.boot) × ((stream_at (opened_slot q f part c).core.streams i).queue ≡ (stream_at c.streams i).queue)
  opened_other Opening c i few not = (refl, refl)
  opened_other (DataSlot owner) c i few not =
      (refl, opened_data owner i c (eqb-false owner (code q.id i) not) few (node_of owner == q.id) refl)
  opened_other (Contention k) c i few not = (refl, by_own (is_own c.own_slot k))
    where
      by_own : (b : Bool) → (stream_at (if b then after_contention q.id c.streams else c.streams) i).queue ≡ (stream_at c.streams i).queue
      by_own false = refl
      by_own true = fields.contention_keeps queue (λ n x. refl) (λ n f x. refl) (λ f x. refl) (λ f x. refl) q.id c.streams i
  opened_other Closing c i few not = by_test (hosts_now f c)
    where
      by_test : (b : Bool) → ((if b then host_closes q f c else silent c).core.boot ≡ c.boot)
          × ((stream_at (if b then host_closes q f c else silent c).core.streams i).queue ≡ (stream_at c.streams i).queue)
      by_test false = (refl, refl)
      by_test true = (
        refl,
        fields.plan_keeps queue (λ n x. refl) (λ n f x. refl) (λ f x. refl) (λ f x. refl) q.profile q.id c.boot (rank_of c.tune) f c.kept c.table c.streams i,
      )

  -- its own takes the first
  pub opened_own : (part : Part) (c : Core) (i : ℕ) → i ≤ 3 → is_slot_of (code q.id i) part ≡ true
      → TakesFirst i c (opened_slot q f part c).core
  opened_own Opening c i few is = absurd (false≢true is)
  opened_own (Contention k) c i few is = absurd (false≢true is)
  opened_own Closing c i few is = absurd (false≢true is)
  opened_own (DataSlot owner) c i few is =
      let at : owner ≡ code q.id i = eqb-true owner (code q.id i) is in
      let parts = parts_of_code q.id i few in
      record {
        boot = refl;
        queue = ap (λ (b : Bool). (stream_at (if b then after_taking (stream_of owner) c.streams else c.streams) i).queue)
            (eq-eqb (node_of owner) q.id (ap node_of at ∙ parts.0))
            ∙ ap (λ (k : ℕ). (stream_at (after_taking k c.streams) i).queue) (ap stream_of at ∙ parts.1) ∙ taken_first c.streams.all i;
      }

  heard_same : (part : Part) (b : Bool) (c : Core) → KeepsQueues c (slot_heard f part b c)
  heard_same Opening b c = record { boot = refl; queues = λ i. refl }
  heard_same (DataSlot owner) b c = record { boot = refl; queues = λ i. refl }
  heard_same (Contention k) b c = record { boot = refl; queues = λ i. refl }
  heard_same Closing b c = record { boot = refl; queues = λ i. refl }

  pub closed_same : (part : Part) (b : Bool) (c : Core) (o : Option Message) → KeepsQueues c (closed_slot q f part b c o).core
  closed_same part b c None = heard_same part b c
  closed_same part b c (Some (DataOf d)) = heard_same part true c
  closed_same part b c (Some (RequestOf a)) = record { boot = refl; queues = λ i. refl }
  closed_same part b c (Some (ScheduleOf y)) = by_gap (y.gap == 0)
    where
      by_gap : (t : Bool) → KeepsQueues c (if t then opening_accepted q.id f y c else closing_accepted q.id f y c)
      by_gap true = record {
        boot = refl;
        queues = fields.heard_keeps queue (λ n x. refl) (λ n f x. refl) (λ f x. refl) (λ f x. refl) q.id c.boot f y c.streams;
      }
      by_gap false = record {
        boot = refl;
        queues = fields.heard_keeps queue (λ n x. refl) (λ n f x. refl) (λ f x. refl) (λ f x. refl) q.id c.boot f y c.streams;
      }

  -- the end of a frame
  pub ended_same : (c : Core) → KeepsQueues c (frame_ended q f c)
  ended_same c = by_host (begins_host c.tune (next_tune c.tune f (is_fresh c) q.own q.ranks))
    where
      ended : Core
      ended = record c { tune = next_tune c.tune f (is_fresh c) q.own q.ranks; own_slot = None }

      by_host : (o : Option ℕ) → KeepsQueues c (as_host q.profile o ended)
      by_host None = record { boot = refl; queues = λ i. refl }
      by_host (Some rank) =
          record { boot = refl; queues = fields.unbound_keeps queue (λ n x. refl) (λ n f x. refl) (λ f x. refl) (λ f x. refl) c.streams }

-- the packet waits at a node in this state, behind so many others
abbrev pub Waits : StreamPacket → ℕ → State → Type 0
Waits w k = OnWith (λ c. (c.boot ≡ w.boot) × (slice_get (stream_at c.streams w.stream).queue k ≡ Some w.packet))

pub waits_queued : (w : StreamPacket) (k : ℕ) (x : State) → IsQueued x w k → Waits w k x
waits_queued w k x is = subst (Waits w k) (sym is.on) (is.boot, is.place)

-- it stays where it is, or moves up
pub waits_same : (c d : Core) (w : StreamPacket) (k : ℕ) → KeepsQueues c d → Waits w k (StateOn c) → Waits w k (StateOn d)
waits_same c d w k same is =
    (same.boot ∙ is.0, ap (λ (l : List WaitingPacket). slice_get l k) (same.queues w.stream) ∙ is.1)

pub moves_up : (c d : Core) (w : StreamPacket) (k : ℕ) → TakesFirst w.stream c d → Waits w (suc k) (StateOn c) → Waits w k (StateOn d)
moves_up c d w k takes is =
    (takes.boot ∙ is.0, ap (λ (l : List WaitingPacket). slice_get l k) takes.queue ∙ later (stream_at c.streams w.stream).queue is.1)
  where
    later : (xs : List WaitingPacket) → slice_get xs (suc k) ≡ Some w.packet → slice_get (drop 1 xs) k ≡ Some w.packet
    later [] there = absurd (cc)
    later (x ∷ xs) there = there

-- script lines
still_there : (xs ys : List WaitingPacket) (k : ℕ) (w : WaitingPacket) → slice_get xs k ≡ Some w → slice_get (xs ++ ys) k ≡ Some w
still_there [] ys k w there = absurd (cc)
still_there (x ∷ xs) ys zero w there = there
still_there (x ∷ xs) ys (suc k) w there = still_there xs ys k w there

module _ (w : StreamPacket) (k : ℕ) where
  -- a stream whose queue begins with the same packets, in place of another
  exchanged : (c : Core) (j : ℕ) (x : Stream)
      → (j ≡ w.stream → slice_get (stream_at c.streams j).queue k ≡ Some w.packet → slice_get x.queue k ≡ Some w.packet)
      → Waits w k (StateOn c) → Waits w k (StateOn (record c { streams = with_stream j x c.streams }))
  exchanged c j x keeps is = (
    is.0,
    elim (cases_eq j w.stream) [
      | inl same ↦
          (let there : slice_get (stream_at c.streams j).queue k ≡ Some w.packet =
          ap (λ (i : ℕ). slice_get (stream_at c.streams i).queue k) same ∙ is.1 in
          subst (λ (i : ℕ). slice_get (stream_at (with_stream j x c.streams) i).queue k ≡ Some w.packet) same
          (at_own c.streams.all j there (keeps same there)))
      | inr other ↦ ap (λ (y : Stream). slice_get y.queue k) (fields.other_stays c.streams.all j w.stream x other) ∙ is.1
    ],
  )
    where
      at_own : (xs : List Stream) (i : ℕ) → slice_get (slice_index_or xs i no_stream).queue k ≡ Some w.packet → slice_get x.queue k ≡ Some w.packet
          → slice_get (slice_index_or (slice_set xs i x) i no_stream).queue k ≡ Some w.packet
      at_own [] i there new = there
      at_own (y ∷ ys) zero there new = new
      at_own (y ∷ ys) (suc i) there new = at_own ys i there new

  act_waits : (a : Act) (c : Core) → leaves w.stream a ≡ false → Waits w k (StateOn c) → Waits w k (StateOn (core_after_act a c))
  act_waits On c keeps is = is
  act_waits Off c keeps is = is
  act_waits (Declare i interval) c keeps is = exchanged c i (wishes interval (stream_at c.streams i)) (λ same there. there) is
  act_waits (Leave i) c keeps is =
      exchanged c i (emptied (stream_at c.streams i)) (λ same there. absurd (false≢true (sym keeps ∙ eq-eqb i w.stream same))) is
  act_waits (Put i payload) c keeps is = exchanged c i (put_to payload (stream_at c.streams i)) (λ same there. added there) is
    where
      added : slice_get (stream_at c.streams i).queue k ≡ Some w.packet → slice_get (put_to payload (stream_at c.streams i)).queue k ≡ Some w.packet
      added there =
          cond_both (refuses (stream_at c.streams i)) (stream_at c.streams i) (queued payload (stream_at c.streams i))
          (λ (y : Stream). slice_get y.queue k ≡ Some w.packet) (λ _. there)
          (λ _. still_there (stream_at c.streams i).queue _ k w.packet there)

  -- the end of a frame, and the script lines of the next one
  pub next_waits : (s : ScenarioParts) (b e f : ℕ) → StaysOn s b e w.node → has_line (leaves w.stream) s b e w.node ≡ false → b ≤ f → suc f ≤ e
      → Waits w k (rounds s f (state_at s f) w.node) → Waits w k (state_at s (suc f) w.node)
  next_waits s b e f stays keeps after within is =
      next_keeps (λ c. (c.boot ≡ w.boot) × (slice_get (stream_at c.streams w.stream).queue k ≡ Some w.packet)) (leaves w.stream) act_waits s b e w.node f
      stays keeps after within (ended (rounds s f (state_at s f) w.node) is)
    where
      ended : (x : State) → Waits w k x → Waits w k (at_core (frame_ended (setup_of s w.node) f) x)
      ended (StateOff boots) is = is
      ended (StateOn c) is = waits_same c (frame_ended (setup_of s w.node) f c) w k (ended_same (setup_of s w.node) f c) is
