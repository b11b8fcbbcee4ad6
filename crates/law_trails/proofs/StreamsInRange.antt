-- Whatever is done to the streams of a node, they stay in their ranges.
use Rattle.std.proofs.Common.{◌≡◌, ℕ, zero, suc, ◌+◌, ◌-◌, ◌%◌, ◌^◌, ◌<◌, ◌≤◌, List, [], ◌∷◌, length, fold, map, Bool, true, false, not, ◌&&◌, ◌||◌, ◌==◌}
use Rattle.std.proofs.Common.{nat_lt, is_none, if◌then◌else◌, Some, refl, ◌∙◌, arith}
use Rattle.std.specs.List.{AllByRecursion, list_all, slice_index_or}
use Rattle.std.proofs.lemmas.Bool.{cond_both, and_parts, leb-true, ltb-true}
use Rattle.std.proofs.lemmas.List.{length-set, length-map, length_push, length-drop}
use Rattle.std.proofs.lemmas.List.Elements.{All-nil, All-set, All-map, All-push, All-drop, All-weaker, recursion_from_All, All-from_recursion}
use Rattle.lwb_base.specs.Profile.{Numbers}
use Rattle.lwb_base.specs.Messages.{Ask, Schedule, node_of, stream_of}
use Rattle.schedule_codec.specs.AckLists.{ask_in_range}
use Rattle.bus_rules.specs.declared.act.Act.{Act}
use Rattle.bus_rules.specs.declared.act.Act.TheVariants.{On, Off, Declare, Leave, Put}
use Rattle.bus_rules.specs.States.{IsAct}
use Rattle.bus_rules.specs.Streams.{WaitingPacket, Stream, Streams, no_stream, cleared, stream_at, with_stream, queued, put_to, after_put, declared}
use Rattle.bus_rules.specs.Streams.{streams_after_leaving, after_taking, without_first, unbound, heard_host, is_host, names, acknowledged}
use Rattle.bus_rules.specs.Streams.{owner_named, after_forgetting, forgotten}
use Rattle.bus_rules.specs.Streams.{with_granted_interval, with_agreed, after_contention, tries_after, due_stream, schedule_heard, granted_stream, named_in}
use Rattle.bus_rules.specs.Streams.{wishes, emptied, streams_after_act}
use Rattle.law_trails.specs.StreamRanges.{IsWaiting, IsStream, AreStreams}

-- the element at a place, or another
pub at_or : {X : Type 0} (P : X → Type 0) (xs : List X) (i : ℕ) (d : X) → P d → AllByRecursion P xs → P (slice_index_or xs i d)
at_or P [] i d other all = other
at_or P (x ∷ xs) zero d other all = all.0
at_or P (x ∷ xs) (suc i) d other all = at_or P xs i d other all.1

pub interval_few : (a : Ask) → ask_in_range a ≡ true → a.interval ≤ 120
interval_few a is = leb-true a.interval 120 (and_parts _ _ is).1

module _ (p : Numbers) where
  pub no_stream_is : IsStream p no_stream
  no_stream_is = record { wish = omega arith; agreed = omega arith; few = omega arith; next = omega arith; queue = All-nil (IsWaiting p 0) }

  pub cleared_are : AreStreams p cleared
  cleared_are = record {
    four = refl;
    each = All-from_recursion (IsStream p) cleared.all (no_stream_is, (no_stream_is, (no_stream_is, (no_stream_is, tt))));
    tries = omega arith;
  }

  pub stream_is : (s : Streams) (i : ℕ) → AreStreams p s → IsStream p (stream_at s i)
  stream_is s i are = at_or (IsStream p) s.all i no_stream no_stream_is (recursion_from_All (IsStream p) s.all are.each)

  with_are : (s : Streams) (i : ℕ) (x : Stream) → AreStreams p s → IsStream p x → AreStreams p (with_stream i x s)
  with_are s i x are is = record { four = length-set s.all i x ∙ are.four; each = All-set (IsStream p) s.all i x is are.each; tries = are.tries }

  declared_are : (s : Streams) (i interval : ℕ) → interval ≤ 120 → AreStreams p s → AreStreams p (declared i interval s)
  declared_are s i interval few are =
      let x = stream_is s i are in
      with_are s i (wishes interval (stream_at s i)) are (record { wish = few; agreed = x.agreed; few = x.few; next = x.next; queue = x.queue })

  left_are : (s : Streams) (i : ℕ) → AreStreams p s → AreStreams p (streams_after_leaving i s)
  left_are s i are =
      let x = stream_is s i are in
      with_are s i (emptied (stream_at s i)) are (record {
        wish = omega arith;
        agreed = x.agreed;
        few = omega arith;
        next = x.next;
        queue = All-nil (IsWaiting p (stream_at s i).next);
      })

  -- a packet that is put
  queued_is : (x : Stream) (payload : List ℕ) → length payload ≤ p.payload_max → length x.queue < 16 → x.next < 65535 → IsStream p x
      → IsStream p (queued payload x)
  queued_is x payload short few more is =
      let w : WaitingPacket = record { seq = x.next; payload = payload } in
      let long = length_push x.queue w in
      record {
        wish = is.wish;
        agreed = is.agreed;
        few = omega arith;
        next = omega arith;
        queue = All-push (IsWaiting p (x.next + 1)) x.queue w
            (All-weaker (IsWaiting p x.next) (IsWaiting p (x.next + 1))
            (λ y early. record { seq = omega (arith, early.seq); payload = early.payload }) x.queue is.queue) (record {
              seq = omega arith;
              payload = short;
            });
      }

  put_to_is : (x : Stream) (payload : List ℕ) → length payload ≤ p.payload_max → IsStream p x → IsStream p (put_to payload x)
  put_to_is x payload short is = by_tests (x.wish == 0) (nat_lt (length x.queue) 16) (nat_lt x.next 65535) refl refl
    where
      by_tests : (a b c : Bool) → nat_lt (length x.queue) 16 ≡ b → nat_lt x.next 65535 ≡ c → IsStream p (if a || not b || not c then x else queued payload x)
      by_tests true b c few more = is
      by_tests false false c few more = is
      by_tests false true false few more = is
      by_tests false true true few more = queued_is x payload short (ltb-true (length x.queue) 16 few) (ltb-true x.next 65535 more) is

  put_are : (s : Streams) (i : ℕ) (payload : List ℕ) → length payload ≤ p.payload_max → AreStreams p s → AreStreams p (after_put i payload s)
  put_are s i payload short are = with_are s i (put_to payload (stream_at s i)) are (put_to_is (stream_at s i) payload short (stream_is s i are))

  -- what a script has the node do
  pub act_are : (s : Streams) (a : Act) → IsAct p a → AreStreams p s → AreStreams p (streams_after_act a s)
  act_are s On is are = are
  act_are s Off is are = are
  act_are s (Declare i interval) is are = declared_are s i interval is.2 are
  act_are s (Leave i) is are = left_are s i are
  act_are s (Put i payload) is are = put_are s i payload is.1 are

  pub taken_are : (s : Streams) (i : ℕ) → AreStreams p s → AreStreams p (after_taking i s)
  taken_are s i are =
      let x = stream_is s i are in
      let gone = length-drop 1 (stream_at s i).queue in
      with_are s i (without_first (stream_at s i)) are (record {
        wish = x.wish;
        agreed = x.agreed;
        few = omega (arith, gone, x.few);
        next = x.next;
        queue = All-drop (IsWaiting p (stream_at s i).next) 1 (stream_at s i).queue x.queue;
      })

  -- what is agreed
  agrees_is : (x : Stream) (interval : ℕ) → interval ≤ 120 → IsStream p x → IsStream p (with_granted_interval interval x)
  agrees_is x interval few is = record { wish = is.wish; agreed = few; few = is.few; next = is.next; queue = is.queue }

  pub agreed_are : (s : Streams) (i interval : ℕ) → interval ≤ 120 → AreStreams p s → AreStreams p (with_agreed i interval s)
  agreed_are s i interval few are =
      with_are s i (with_granted_interval interval (stream_at s i)) are (agrees_is (stream_at s i) interval few (stream_is s i are))

  each_are : (f : Stream → Stream) (s : Streams) → ((x : Stream) → IsStream p x → IsStream p (f x)) → AreStreams p s
      → AreStreams p (record s { all = map f s.all })
  each_are f s keeps are = record {
    four = length-map s.all f ∙ are.four;
    each = All-map (IsStream p) f s.all (All-weaker (IsStream p) (λ x. IsStream p (f x)) keeps s.all are.each);
    tries = are.tries;
  }

  pub unbound_are : (s : Streams) → AreStreams p s → AreStreams p (unbound s)
  unbound_are s are =
      let each = each_are (with_granted_interval 0) s (λ x is. agrees_is x 0 (omega arith) is) are in
      record { four = each.four; each = each.each; tries = omega arith }

  pub contention_are : (s : Streams) (node : ℕ) → AreStreams p s → AreStreams p (after_contention node s)
  contention_are s node are =
      cond_both (is_none (due_stream s)) s
      (if s.skips == 0 then record s { tries = tries_after s; skips = node % 2 ^ tries_after s } else record s { skips = s.skips - 1 }) (AreStreams p)
      (λ none. are)
      (λ some. cond_both (s.skips == 0) (record s { tries = tries_after s; skips = node % 2 ^ tries_after s }) (record s { skips = s.skips - 1 }) (AreStreams p)
      (λ now. record { four = are.four; each = are.each; tries = omega arith })
      (λ later. record { four = are.four; each = are.each; tries = are.tries }))

  -- an accepted schedule
  host_are : (s : Streams) (rank boot : ℕ) → AreStreams p s → AreStreams p (heard_host rank boot s)
  host_are s rank boot are =
      let new = unbound_are s are in
      cond_both (is_host s.host rank boot) s (record (unbound s) { host = Some (rank, boot) }) (AreStreams p)
      (λ same. are)
      (λ other. record { four = new.four; each = new.each; tries = new.tries })

  granted_is : (x : Stream) (interval frame : ℕ) → interval ≤ 120 → IsStream p x → IsStream p (granted_stream interval frame x)
  granted_is x interval frame few is = record { wish = is.wish; agreed = few; few = is.few; next = is.next; queue = is.queue }

  ack_are : (node boot frame : ℕ) (s : Streams) (a : Ask) → ask_in_range a ≡ true → AreStreams p s → AreStreams p (acknowledged node boot frame s a)
  ack_are node boot frame s a range are =
      let x = granted_stream a.interval frame (stream_at s a.stream) in
      let new = with_are s a.stream x are (granted_is (stream_at s a.stream) a.interval frame (interval_few a range) (stream_is s a.stream are)) in
      cond_both (names node boot a) (record (with_stream a.stream x s) { tries = 0; skips = 0 }) s (AreStreams p)
      (λ mine. record { four = new.four; each = new.each; tries = omega arith })
      (λ other. are)

  acks_are : (node boot frame : ℕ) (acks : List Ask) (s : Streams) → list_all ask_in_range acks ≡ true → AreStreams p s
      → AreStreams p (fold (acknowledged node boot frame) s acks)
  acks_are node boot frame [] s ranges are = are
  acks_are node boot frame (a ∷ acks) s ranges are =
      let both = and_parts (ask_in_range a) (list_all ask_in_range acks) ranges in
      acks_are node boot frame acks (acknowledged node boot frame s a) both.1 (ack_are node boot frame s a both.0 are)

  owner_are : (node frame : ℕ) (s : Streams) (c : ℕ) → AreStreams p s → AreStreams p (owner_named node frame s c)
  owner_are node frame s c are =
      let x = stream_is s (stream_of c) are in
      let y = named_in frame (stream_at s (stream_of c)) in
      cond_both (node_of c == node) (with_stream (stream_of c) y s) s (AreStreams p)
      (λ mine. with_are s (stream_of c) y are (record { wish = x.wish; agreed = x.agreed; few = x.few; next = x.next; queue = x.queue }))
      (λ other. are)

  owners_are : (node frame : ℕ) (owners : List ℕ) (s : Streams) → AreStreams p s → AreStreams p (fold (owner_named node frame) s owners)
  owners_are node frame [] s are = are
  owners_are node frame (c ∷ owners) s are = owners_are node frame owners (owner_named node frame s c) (owner_are node frame s c are)

  forgotten_is : (frame : ℕ) (x : Stream) → IsStream p x → IsStream p (forgotten frame x)
  forgotten_is frame x is = record {
    wish = is.wish;
    agreed = cond_both (nat_lt 0 x.agreed && nat_lt (x.agreed + 8) (frame - x.last)) 0 x.agreed (λ (n : ℕ). n ≤ 120) (λ long. omega arith) (λ short. is.agreed);
    few = is.few;
    next = is.next;
    queue = is.queue;
  }

  pub heard_are : (node boot frame : ℕ) (x : Schedule) (s : Streams) → list_all ask_in_range x.plan.acks ≡ true → AreStreams p s
      → AreStreams p (schedule_heard node boot frame x s)
  unfolding schedule_heard
  heard_are node boot frame x s ranges are =
      let known = heard_host x.plan.rank x.plan.boot s in
      let answered = fold (acknowledged node boot frame) known x.plan.acks in
      let named = fold (owner_named node frame) answered x.plan.owners in
      let now = owners_are node frame x.plan.owners answered (acks_are node boot frame x.plan.acks known ranges (host_are s x.plan.rank x.plan.boot are)) in
      cond_both (x.gap == 0) named (after_forgetting frame named) (AreStreams p) (λ opens. now)
      (λ closes. each_are (forgotten frame) named (forgotten_is frame) now)
