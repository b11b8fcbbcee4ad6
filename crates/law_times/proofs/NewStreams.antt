-- A stream that the host has not agreed to stays so, with its packets: by schedules that name nothing of its node, by contention slots, and by
-- packets that are put.
use Rattle.std.proofs.Common.{◌≡◌, ◌≢◌, ◌≤◌, ◌+◌, ◌-◌, ◌==◌, ◌&&◌, ◌||◌, ℕ, zero, suc, List, [], ◌∷◌, ◌++◌, Bool, true, false, not, inl, inr, Some}
use Rattle.std.proofs.Common.{if◌then◌else◌, fold, is_none, is_some, length, map, nat_lt, refl, sym, ◌∙◌, ap, subst, arith, slice_set, Option}
use Rattle.law_times.proofs.Words.{find, list_any, slice_index_or, cases_eq, cond_both, cond-true, cond-false, false≢true, ne_eqb, or_cases, eqb-true, Ask}
use Rattle.law_times.proofs.Words.{Schedule, node_of, Stream, Streams, WaitingPacket, acknowledged, after_contention, due_stream, after_forgetting, forgotten}
use Rattle.law_times.proofs.Words.{heard_host, is_host, names, no_stream, owner_named, after_put, put_to, queued, refuses, request_is_due, schedule_heard}
use Rattle.law_times.proofs.Words.{stream_at, has_due_request, has, IsNew, or_parts, Core}
use Rattle.bus_terms.proofs.KeptFields as fields
use Rattle.law_times.proofs.Backoffs.{backoff_of, one_turn, turn, Backoff}

-- its request is due
found : (p : ℕ → Bool) (xs : List ℕ) (i : ℕ) → has xs i ≡ true → p i ≡ true → is_some (find p xs) ≡ true
found p [] i there is = absurd (false≢true there)
found p (x ∷ xs) i there is = by_test (p x) refl (found p xs i)
  where
    by_test : (b : Bool) → p x ≡ b → (has xs i ≡ true → p i ≡ true → is_some (find p xs) ≡ true) → is_some (if b then Some x else find p xs) ≡ true
    by_test true at later = refl
    by_test false at later = elim (or_cases (x == i) _ there) [
      | inl same ↦ absurd (false≢true (sym at ∙ ap p (eqb-true x i same) ∙ is))
      | inr more ↦ later more is
    ]

few_has : (i : ℕ) → i ≤ 3 → has (0 ∷ 1 ∷ 2 ∷ 3 ∷ []) i ≡ true
few_has zero few = refl
few_has (suc zero) few = refl
few_has (suc (suc zero)) few = refl
few_has (suc (suc (suc zero))) few = refl
few_has (suc (suc (suc (suc i)))) few = absurd (omega (arith, few))

pub new_due : (x : Streams) (i : ℕ) → IsNew x i → is_some (due_stream x) ≡ true
new_due x i new = found (request_is_due x) (0 ∷ 1 ∷ 2 ∷ 3 ∷ []) i (few_has i new.few) wanted
  where
    y : Stream
    y = stream_at x i

    some : (xs : List WaitingPacket) → xs ≢ [] → (length xs == 0) ≡ false
    some [] other = absurd (other refl)
    some (z ∷ zs) other = ne_eqb (length (z ∷ zs)) 0 (λ none. absurd (omega (arith, none)))

    both : (a b c : Bool) → a ≡ false → c ≡ false → (not a && (b || not c)) ≡ true
    both a true c first third = rw first refl
    both a false c first third = rw (first, third) refl

    wanted : has_due_request (stream_at x i) ≡ true
    wanted = both ((stream_at x i).wish == (stream_at x i).agreed) ((stream_at x i).wish == 0) (length (stream_at x i).queue == 0)
        (ne_eqb (stream_at x i).wish (stream_at x i).agreed (λ same. new.wish (same ∙ new.agreed))) (some (stream_at x i).queue new.waits)

-- the same streams, tries, skips and host, but for what is agreed of other streams
pub record GoesOn (x y : Streams) (i : ℕ) : Type 0 where
  pub tries : y.tries ≡ x.tries
  pub skips : y.skips ≡ x.skips
  pub host : y.host ≡ x.host
  pub new : IsNew x i → IsNew y i

pub same_streams : (x : Streams) (i : ℕ) → GoesOn x x i
same_streams x i = record { tries = refl; skips = refl; host = refl; new = λ new. new }

-- a schedule that names nothing of the node
acked_none : (node boot f : ℕ) (acks : List Ask) (x : Streams) → list_any (names node boot) acks ≡ false → fold (acknowledged node boot f) x acks ≡ x
acked_none node boot f [] x none = refl
acked_none node boot f (a ∷ acks) x none =
    let both = or_parts (names node boot a) (list_any (names node boot) acks) none in
    ap (λ (y : Streams). fold (acknowledged node boot f) y acks) (cond-false (names node boot a) _ x both.0) ∙ acked_none node boot f acks x both.1

owned_none : (node f : ℕ) (owners : List ℕ) (x : Streams) → list_any (λ c. node_of c == node) owners ≡ false → fold (owner_named node f) x owners ≡ x
owned_none node f [] x none = refl
owned_none node f (c ∷ owners) x none =
    let both = or_parts (node_of c == node) (list_any (λ c. node_of c == node) owners) none in
    ap (λ (y : Streams). fold (owner_named node f) y owners) (cond-false (node_of c == node) _ x both.0) ∙ owned_none node f owners x both.1

heard_is : (node boot f : ℕ) (y : Schedule) (x : Streams) → is_host x.host y.plan.rank y.plan.boot ≡ true → list_any (names node boot) y.plan.acks ≡ false
    → list_any (λ c. node_of c == node) y.plan.owners ≡ false → schedule_heard node boot f y x ≡ (if y.gap == 0 then x else after_forgetting f x)
unfolding schedule_heard
heard_is node boot f y x knows acks owners =
    let known : heard_host y.plan.rank y.plan.boot x ≡ x = cond-true (is_host x.host y.plan.rank y.plan.boot) x _ knows in
    let named : fold (owner_named node f) (fold (acknowledged node boot f) (heard_host y.plan.rank y.plan.boot x) y.plan.acks) y.plan.owners ≡ x =
    ap (λ (z : Streams). fold (owner_named node f) (fold (acknowledged node boot f) z y.plan.acks) y.plan.owners) known
    ∙ ap (λ (z : Streams). fold (owner_named node f) z y.plan.owners) (acked_none node boot f y.plan.acks x acks) ∙ owned_none node f y.plan.owners x owners in
    ap (λ (z : Streams). if y.gap == 0 then z else after_forgetting f z) named

pub map_at : (g : Stream → Stream) → g no_stream ≡ no_stream → (xs : List Stream) (i : ℕ)
    → slice_index_or (map g xs) i no_stream ≡ g (slice_index_or xs i no_stream)
map_at g none [] i = sym none
map_at g none (x ∷ xs) zero = refl
map_at g none (x ∷ xs) (suc i) = map_at g none xs i

forgotten_goes : (f : ℕ) (x : Streams) (i : ℕ) → GoesOn x (after_forgetting f x) i
forgotten_goes f x i = record {
  tries = refl;
  skips = refl;
  host = refl;
  new = λ new. record {
    few = new.few;
    wish = λ none. new.wish (sym (ap (λ (z : Stream). z.wish) at) ∙ none);
    agreed = ap (λ (z : Stream). z.agreed) at ∙ stays (stream_at x i) new.agreed;
    waits = λ none. new.waits (sym (ap (λ (z : Stream). z.queue) at) ∙ none);
  };
}
  where
    at : stream_at (after_forgetting f x) i ≡ forgotten f (stream_at x i)
    at = map_at (forgotten f) refl x.all i

    stays : (z : Stream) → z.agreed ≡ 0 → (forgotten f z).agreed ≡ 0
    stays z none = cond_both (nat_lt 0 z.agreed && nat_lt (z.agreed + 8) (f - z.last)) 0 z.agreed (λ (n : ℕ). n ≡ 0) (λ _. refl) (λ _. none)

pub heard_goes : (node boot f : ℕ) (y : Schedule) (x : Streams) (i : ℕ) → is_host x.host y.plan.rank y.plan.boot ≡ true
    → list_any (names node boot) y.plan.acks ≡ false → list_any (λ c. node_of c == node) y.plan.owners ≡ false
    → GoesOn x (schedule_heard node boot f y x) i
heard_goes node boot f y x i knows acks owners =
    subst (λ (z : Streams). GoesOn x z i) (sym (heard_is node boot f y x knows acks owners))
    (cond_both (y.gap == 0) x (after_forgetting f x) (λ (z : Streams). GoesOn x z i) (λ _. same_streams x i) (λ _. forgotten_goes f x i))

-- a contention slot of its own
pub turned_new : (node : ℕ) (x : Streams) (i : ℕ) → IsNew x i
    → (backoff_of (after_contention node x) ≡ turn node (backoff_of x)) × IsNew (after_contention node x) i × ((after_contention node x).host ≡ x.host)
turned_new node x i new =
    let turned = one_turn node x (new_due x i new) in
    let at : stream_at (after_contention node x) i ≡ stream_at x i = ap (λ (l : List Stream). slice_index_or l i no_stream) turned.1 in (
      turned.0,
      record {
        few = new.few;
        wish = λ none. new.wish (sym (ap (λ (z : Stream). z.wish) at) ∙ none);
        agreed = ap (λ (z : Stream). z.agreed) at ∙ new.agreed;
        waits = λ none. new.waits (sym (ap (λ (z : Stream). z.queue) at) ∙ none);
      },
      cond_both (is_none (due_stream x)) x _ (λ (z : Streams). z.host ≡ x.host) (λ _. refl)
          (λ _. cond_both (x.skips == 0) _ _ (λ (z : Streams). z.host ≡ x.host) (λ _. refl) (λ _. refl)),
    )

-- a stream itself, or the one that is put in its place
pub exchanged : (xs : List Stream) (k : ℕ) (y : Stream) (P : Stream → Type 0) → P (slice_index_or xs k no_stream) → P y
    → P (slice_index_or (slice_set xs k y) k no_stream)
exchanged [] k y P was new = was
exchanged (z ∷ zs) zero y P was new = new
exchanged (z ∷ zs) (suc k) y P was new = exchanged zs k y P was new

-- a packet that is put
pub put_goes : (j : ℕ) (payload : List ℕ) (x : Streams) (i : ℕ) → GoesOn x (after_put j payload x) i
put_goes j payload x i = record {
  tries = refl;
  skips = refl;
  host = refl;
  new = λ new. elim (cases_eq j i) [
    | inl same ↦ subst (λ (k : ℕ). IsNew (after_put j payload x) k) same (at_own j (subst (λ (k : ℕ). IsNew x k) (sym same) new))
    | inr other ↦
        (let at : stream_at (after_put j payload x) i ≡ stream_at x i = fields.other_stays x.all j i (put_to payload (stream_at x j)) other in
        record {
          few = new.few;
          wish = λ none. new.wish (sym (ap (λ (z : Stream). z.wish) at) ∙ none);
          agreed = ap (λ (z : Stream). z.agreed) at ∙ new.agreed;
          waits = λ none. new.waits (sym (ap (λ (z : Stream). z.queue) at) ∙ none);
        })
  ];
}
  where
    added : (y : Stream) → ((put_to payload y).wish ≡ y.wish) × ((put_to payload y).agreed ≡ y.agreed) × (y.queue ≢ [] → (put_to payload y).queue ≢ [])
    added y = cond_both (refuses y) y (queued payload y) (λ (z : Stream). (z.wish ≡ y.wish) × (z.agreed ≡ y.agreed) × (y.queue ≢ [] → z.queue ≢ []))
        (λ _. (refl, refl, λ some. some)) (λ _. (refl, refl, λ some. longer (record { seq = y.next; payload = payload }) y.queue))
      where
        longer : (w : WaitingPacket) (xs : List WaitingPacket) → xs ++ w ∷ [] ≢ []
        longer w [] same = absurd (cc)
        longer w (z ∷ zs) same = absurd (cc)

    at_own : (k : ℕ) → IsNew x k → IsNew (after_put k payload x) k
    at_own k new =
        let more = added (stream_at x k) in
        record {
          few = new.few;
          wish = exchanged x.all k (put_to payload (stream_at x k)) (λ z. z.wish ≢ 0) new.wish (λ none. new.wish (sym more.0 ∙ none));
          agreed = exchanged x.all k (put_to payload (stream_at x k)) (λ z. z.agreed ≡ 0) new.agreed (more.1 ∙ new.agreed);
          waits = exchanged x.all k (put_to payload (stream_at x k)) (λ z. z.queue ≢ []) new.waits (more.2 new.waits);
        }

-- a node in this boot, with a request due of this stream, and this backoff, that knows the host
pub record AsksCore (boot i rank host_boot : ℕ) (b : Backoff) (c : Core) : Type 0 where
  pub booted : c.boot ≡ boot
  pub new : IsNew c.streams i
  pub backoff : backoff_of c.streams ≡ b
  pub knows : is_host c.streams.host rank host_boot ≡ true

pub asks_on : (boot i rank host_boot : ℕ) (b : Backoff) (c d : Core) → d.boot ≡ c.boot → GoesOn c.streams d.streams i
    → AsksCore boot i rank host_boot b c → AsksCore boot i rank host_boot b d
asks_on boot i rank host_boot b c d same goes is = record {
  booted = same ∙ is.booted;
  new = goes.new is.new;
  backoff = ap (λ (t : ℕ). (t, d.streams.skips)) goes.tries ∙ ap (λ (k : ℕ). (c.streams.tries, k)) goes.skips ∙ is.backoff;
  knows = ap (λ (h : Option (ℕ × ℕ)). is_host h rank host_boot) goes.host ∙ is.knows;
}
