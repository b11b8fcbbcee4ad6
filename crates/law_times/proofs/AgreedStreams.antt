-- A stream that its node and the host have agreed to stays agreed, as long as a schedule names it often enough, and its node does not request it.
use Rattle.std.proofs.Common.{◌≡◌, ◌≢◌, ◌<◌, ◌≤◌, ◌+◌, ◌-◌, ◌==◌, ◌&&◌, ℕ, zero, suc, List, [], ◌∷◌, Bool, true, false, not, inl, inr, Some, None, find, fold}
use Rattle.std.proofs.Common.{if◌then◌else◌, is_none, length, nat_lt, refl, sym, ◌∙◌, ap, subst, arith, ◌⊎◌, ◌||◌, Contains, slice_set}
use Rattle.law_times.proofs.Words.{slice_index_or, and_parts, cases_eq, cond_both, cond-true, eq-eqb, eqb-true, false≢true, ltb-true, contains_cases}
use Rattle.law_times.proofs.Words.{contains_head, contains_tail, not_in_none, Ask, Schedule, code, code_of, node_of, stream_of, Part, Opening, DataSlot}
use Rattle.law_times.proofs.Words.{Contention, Closing, Core, Setup, Opened, host_closes, hosts_now, is_own, opened_slot, silent, Stream, Streams, acknowledged}
use Rattle.law_times.proofs.Words.{after_contention, due_stream, after_forgetting, forgotten, granted_stream, heard_host, is_host, named_in, names, no_stream}
use Rattle.law_times.proofs.Words.{owner_named, request_is_due, requested, schedule_heard, stream_at, after_taking, has_due_request, with_stream, without_first}
use Rattle.bus_terms.proofs.KeptFields as fields
use Rattle.law_times.proofs.NewStreams.{map_at, exchanged}

-- the node requests this interval, has agreed to it, and a schedule has named the stream in this frame or later
pub record IsGood (interval low : ℕ) (z : Stream) : Type 0 where
  pub wish : z.wish ≡ interval
  pub agreed : z.agreed ≡ interval
  pub last : low ≤ z.last

set_at : (xs : List Stream) (k : ℕ) (y : Stream) → (slice_index_or xs k no_stream).wish ≢ 0 → slice_index_or (slice_set xs k y) k no_stream ≡ y
set_at [] k y some = absurd (some refl)
set_at (z ∷ zs) zero y some = refl
set_at (z ∷ zs) (suc k) y some = set_at zs k y some

module _ (node i interval : ℕ) (few : i ≤ 3) (positive : 0 < interval) where
  abbrev pub Good : ℕ → Streams → Type 0
  Good low x = IsGood interval low (stream_at x i)

  pub with_good : (low : ℕ) (x : Streams) (k : ℕ) (y : Stream) → (k ≡ i → IsGood interval low y) → Good low x → Good low (with_stream k y x)
  with_good low x k y new is = elim (cases_eq k i) [
    | inl same ↦ subst (λ (n : ℕ). IsGood interval low (stream_at (with_stream k y x) n)) same
        (exchanged x.all k y (IsGood interval low) (subst (λ (n : ℕ). IsGood interval low (stream_at x n)) (sym same) is) (new same))
    | inr other ↦ subst (IsGood interval low) (sym (fields.other_stays x.all k i y other)) is
  ]

  acks_good : (boot f low : ℕ) → low ≤ f → (acks : List Ask) → ((a : Ask) → Contains acks a → code_of a ≡ code node i → a.interval ≡ interval)
      → (x : Streams) → Good low x → Good low (fold (acknowledged node boot f) x acks)
  acks_good boot f low late [] same x is = is
  acks_good boot f low late (a ∷ more) same x is =
      acks_good boot f low late more (λ b there. same b (contains_tail a more b there)) (acknowledged node boot f x a) (by_name (names node boot a) refl)
    where
      by_name : (t : Bool) → names node boot a ≡ t
          → Good low (if t then record (with_stream a.stream (granted_stream a.interval f (stream_at x a.stream)) x) { tries = 0; skips = 0 } else x)
      by_name false at = is
      by_name true at =
          with_good low x a.stream (granted_stream a.interval f (stream_at x a.stream))
          (λ mine. record {
            wish = ap (λ (k : ℕ). (stream_at x k).wish) mine ∙ is.wish;
            agreed = same a (contains_head a more)
                (ap (λ (n : ℕ). code n a.stream) (eqb-true a.node node (and_parts (a.node == node) (a.boot == boot) at).0) ∙ ap (λ (k : ℕ). code node k) mine);
            last = late;
          }) is

  owned_good : (f low : ℕ) → low ≤ f → (c : ℕ) (x : Streams) → Good low x → Good low (owner_named node f x c)
  owned_good f low late c x is =
      cond_both (node_of c == node) (with_stream (stream_of c) (named_in f (stream_at x (stream_of c))) x) x (Good low)
      (λ _. with_good low x (stream_of c) (named_in f (stream_at x (stream_of c)))
      (λ mine. record {
        wish = ap (λ (k : ℕ). (stream_at x k).wish) mine ∙ is.wish;
        agreed = ap (λ (k : ℕ). (stream_at x k).agreed) mine ∙ is.agreed;
        last = late;
      }) is)
      (λ _. is)

  owners_good : (f low : ℕ) → low ≤ f → (owners : List ℕ) (x : Streams) → Good low x → Good low (fold (owner_named node f) x owners)
  owners_good f low late [] x is = is
  owners_good f low late (c ∷ more) x is = owners_good f low late more (owner_named node f x c) (owned_good f low late c x is)

  owners_name : (f low : ℕ) → low ≤ f → (owners : List ℕ) → Contains owners (code node i) → (x : Streams) → Good low x
      → Good f (fold (owner_named node f) x owners)
  owners_name f low late [] there x is = absurd (not_in_none (code node i) there)
  owners_name f low late (c ∷ more) there x is =
      by_place (contains_cases c more (code node i) there) (λ later. owners_name f low late more later (owner_named node f x c) (owned_good f low late c x is))
    where
      named_now : c ≡ code node i → Good f (owner_named node f x c)
      named_now same =
          let of_node : node_of c ≡ node = (let parts : node_of (code node i) ≡ node = omega (arith, few) in ap node_of same ∙ parts) in
          let of_stream : stream_of c ≡ i = (let parts : stream_of (code node i) ≡ i = omega (arith, few) in ap stream_of same ∙ parts) in
          subst (Good f)
          (sym (cond-true (node_of c == node) (with_stream (stream_of c) (named_in f (stream_at x (stream_of c))) x) x (eq-eqb (node_of c) node of_node)
          ∙ ap (λ (k : ℕ). with_stream k (named_in f (stream_at x k)) x) of_stream))
          (subst (IsGood interval f)
          (sym (set_at x.all i (named_in f (stream_at x i)) (λ none. (let w = is.wish in absurd (omega (arith, w, none, positive))))))
          (record { wish = is.wish; agreed = is.agreed; last = omega arith }))

      by_place : (c ≡ code node i) ⊎ Contains more (code node i)
          → (Contains more (code node i) → Good f (fold (owner_named node f) (owner_named node f x c) more))
          → Good f (fold (owner_named node f) (owner_named node f x c) more)
      by_place (inl same) later = owners_good f f (omega arith) more (owner_named node f x c) (named_now same)
      by_place (inr there) later = later there

  forgets_good : (f low : ℕ) → f ≤ low + interval + 8 → (x : Streams) → Good low x → Good low (after_forgetting f x)
  forgets_good f low soon x is =
      subst (IsGood interval low) (sym (map_at (forgotten f) refl x.all i))
      (record { wish = is.wish; agreed = still (stream_at x i) is.agreed is.last; last = is.last })
    where
      still : (z : Stream) → z.agreed ≡ interval → low ≤ z.last → (forgotten f z).agreed ≡ interval
      still z agreed last =
          cond_both (nat_lt 0 z.agreed && nat_lt (z.agreed + 8) (f - z.last)) 0 z.agreed (λ (n : ℕ). n ≡ interval)
          (λ old. (let long = ltb-true (z.agreed + 8) (f - z.last) (and_parts (nat_lt 0 z.agreed) (nat_lt (z.agreed + 8) (f - z.last)) old).1 in
          absurd (omega (arith, long, agreed, last, soon)))) (λ _. agreed)

  -- a schedule of its host
  module _ (boot f : ℕ) (y : Schedule) (x : Streams) (knows : is_host x.host y.plan.rank y.plan.boot ≡ true)
      (acks : (a : Ask) → Contains y.plan.acks a → code_of a ≡ code node i → a.interval ≡ interval) where
    known : heard_host y.plan.rank y.plan.boot x ≡ x
    known = cond-true (is_host x.host y.plan.rank y.plan.boot) x _ knows

    abbrev answered : Streams
    answered = fold (acknowledged node boot f) (heard_host y.plan.rank y.plan.boot x) y.plan.acks

    answered_good : (low : ℕ) → low ≤ f → Good low x → Good low answered
    answered_good low late is =
        subst (λ (z : Streams). Good low (fold (acknowledged node boot f) z y.plan.acks)) (sym known) (acks_good boot f low late y.plan.acks acks x is)

    whole_good : (low : ℕ) → f ≤ low + interval + 8 → Good low (fold (owner_named node f) answered y.plan.owners) → Good low (schedule_heard node boot f y x)
    unfolding schedule_heard
    whole_good low soon is =
        cond_both (y.gap == 0) (fold (owner_named node f) answered y.plan.owners)
        (after_forgetting f (fold (owner_named node f) answered y.plan.owners)) (Good low) (λ _. is)
        (λ _. forgets_good f low soon (fold (owner_named node f) answered y.plan.owners) is)

    pub heard_good : (low : ℕ) → low ≤ f → f ≤ low + interval + 8 → Good low x → Good low (schedule_heard node boot f y x)
    heard_good low late soon is = whole_good low soon (owners_good f low late y.plan.owners answered (answered_good low late is))

    pub heard_names : (low : ℕ) → low ≤ f → Contains y.plan.owners (code node i) → Good low x → Good f (schedule_heard node boot f y x)
    heard_names low late there is =
        whole_good f (omega arith) (owners_name f low late y.plan.owners there answered (answered_good low late is))

  -- its windows
  pub opened_good : (low f : ℕ) (part : Part) (q : Setup) (d : Core) → hosts_now f d ≡ false → Good low d.streams
      → Good low (opened_slot q f part d).core.streams × ((opened_slot q f part d).core.streams.host ≡ d.streams.host)
      × ((opened_slot q f part d).core.tune ≡ d.tune)
  opened_good low f Opening q d guest is = (is, refl, refl)
  opened_good low f (DataSlot owner) q d guest is = (
    cond_both (node_of owner == q.id) (after_taking (stream_of owner) d.streams) d.streams (Good low)
        (λ _. with_good low d.streams (stream_of owner) (without_first (stream_at d.streams (stream_of owner)))
        (λ mine. subst (λ (k : ℕ). IsGood interval low (without_first (stream_at d.streams k))) (sym mine)
        (record { wish = is.wish; agreed = is.agreed; last = is.last })) is)
        (λ _. is),
    cond_both (node_of owner == q.id) (after_taking (stream_of owner) d.streams) d.streams (λ (z : Streams). z.host ≡ d.streams.host) (λ _. refl) (λ _. refl),
    refl,
  )
  opened_good low f (Contention k) q d guest is = (
    cond_both (is_own d.own_slot k) (after_contention q.id d.streams) d.streams (Good low)
        (λ _. cond_both (is_none (due_stream d.streams)) d.streams _ (Good low) (λ _. is)
        (λ _. cond_both (d.streams.skips == 0) _ _ (Good low) (λ _. is) (λ _. is))) (λ _. is),
    cond_both (is_own d.own_slot k) (after_contention q.id d.streams) d.streams (λ (z : Streams). z.host ≡ d.streams.host)
        (λ _. cond_both (is_none (due_stream d.streams)) d.streams _ (λ (z : Streams). z.host ≡ d.streams.host) (λ _. refl)
        (λ _. cond_both (d.streams.skips == 0) _ _ (λ (z : Streams). z.host ≡ d.streams.host) (λ _. refl) (λ _. refl))) (λ _. refl),
    refl,
  )
  opened_good low f Closing q d guest is =
      cond_both (hosts_now f d) (host_closes q f d) (silent d)
      (λ (o : Opened). Good low o.core.streams × (o.core.streams.host ≡ d.streams.host) × (o.core.tune ≡ d.tune))
      (λ now. absurd (false≢true (sym guest ∙ now))) (λ _. (is, refl, refl))

  -- it requests another stream, if any
  pub asks_other : (low : ℕ) (x : Streams) (k : ℕ) → requested x ≡ Some k → Good low x → k ≢ i
  asks_other low x k is good same = by_skips (x.skips == 0) is
    where
      same_wish : (a b : ℕ) (c d : Bool) → a ≡ b → (not (a == b) && (c || d)) ≡ true → ⊥
      same_wish a b c d at is = false≢true (ap (λ (t : Bool). not t && (c || d)) (sym (eq-eqb a b at)) ∙ is)

      unwanted : has_due_request (stream_at x k) ≡ true → ⊥
      unwanted wanted =
          (let z = stream_at x i in
          same_wish (stream_at x i).wish (stream_at x i).agreed ((stream_at x i).wish == 0) (not (length (stream_at x i).queue == 0))
          (good.wish ∙ sym good.agreed) (ap (λ (n : ℕ). has_due_request (stream_at x n)) (sym same) ∙ wanted))

      found : (xs : List ℕ) → find (request_is_due x) xs ≡ Some k → request_is_due x k ≡ true
      found [] is = absurd (cc)
      found (n ∷ ns) is = by_test (request_is_due x n) refl is (found ns)
        where
          by_test : (t : Bool) → request_is_due x n ≡ t → (if t then Some n else find (request_is_due x) ns) ≡ Some k
              → (find (request_is_due x) ns ≡ Some k → request_is_due x k ≡ true) → request_is_due x k ≡ true
          by_test true at is later = (let one : n ≡ k = cc in ap (request_is_due x) (sym one) ∙ at)
          by_test false at is later = later is

      by_skips : (t : Bool) → (if t then due_stream x else None) ≡ Some k → ⊥
      by_skips false is = cc
      by_skips true is = unwanted (found (0 ∷ 1 ∷ 2 ∷ 3 ∷ []) is)
