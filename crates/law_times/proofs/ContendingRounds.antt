-- A round at a member whose request is due: it is fresh after the opening, goes on through the data slots, has its turn in the contention
-- slot of its own, and accepts the closing schedule.
use Rattle.std.proofs.Common.{◌≡◌, ◌≢◌, ◌<◌, ◌≤◌, ◌+◌, ◌-◌, ◌%◌, ◌==◌, ◌&&◌, ℕ, zero, suc, List, Bool, true, false, inl, inr, Option, Some, None, get_or}
use Rattle.std.proofs.Common.{if◌then◌else◌, is_some, length, nat_le, nat_lt, option_map, refl, sym, ◌∙◌, ap, subst, arith, ◌⊎◌}
use Rattle.std.proofs.lemmas.List.Folds.{list_any_at}
use Rattle.bus_terms.proofs.NumbersKept.{opened_core}
use Rattle.law_times.proofs.Words.{list_any, and_parts, cases_Bool, cases_eq, cases_lt, cond-true, cond-false, eq-eqb, eqb-true, false≢true, lt-leb, lt-ltb}
use Rattle.law_times.proofs.Words.{ne_eqb, mod_below, Ask, Plan, Schedule, node_of, ScenarioParts, Part, Opening, DataSlot, Contention, Closing, Tune, Hold}
use Rattle.law_times.proofs.Words.{Core, is_member, opening_accepted, closing_accepted, HostPlan, last_slot, opening, slots_named, Message, Opened, RequestOf}
use Rattle.law_times.proofs.Words.{is_own, opened_slot, part_of, request_of, State, StateOn, Streams, after_contention, due_stream, is_host, names, requested}
use Rattle.law_times.proofs.Words.{schedule_heard, after_taking, hosts_in, rank_of, state_at, Accepts, IsHosted, slot_in, state_after_round, before_slot}
use Rattle.law_times.proofs.Words.{message_said, opened_at, setup_of, windowed, IsNew, own_number, is_schedule_part}
use Rattle.law_times.proofs.Backoffs.{Backoff, backoff_of, spot, turn, asks}
use Rattle.law_times.proofs.MemberSlots.{IsAfterWindow, after_first, after_last, after_window, plans, said_last}
use Rattle.law_times.proofs.NewStreams.{GoesOn, heard_goes, new_due, same_streams, turned_new, AsksCore, asks_on}
use Rattle.law_times.proofs.PacketFrames.{is_due}
use Rattle.law_times.proofs.QueuedRounds.{part_data}
use Rattle.law_times.proofs.Settings.{Setting, of_core, opened_same}

none_at : (p : ℕ → Bool) (xs : List ℕ) (i : ℕ) → i < length xs → list_any p xs ≡ false → p (get_or xs i 0) ≡ false
none_at p xs i within none = elim (cases_Bool (p (get_or xs i 0))) [
  | inl is ↦ absurd (false≢true (sym none ∙ list_any_at p xs i 0 within is))
  | inr is ↦ is
]

module _ (s : ScenarioParts) (rank f : ℕ) (p : Plan) (host : ℕ) (hosted : IsHosted s rank f p host) (u : ℕ) where
  abbrev at_slot : ℕ → State
  at_slot j = before_slot s rank f p (state_at s f) j u

  module _ (boot i host_boot : ℕ) (b : Backoff) (of_rank : p.rank ≡ rank) (of_boot : p.boot ≡ host_boot) (unnamed : list_any (names u boot) p.acks ≡ false)
      (no_slots : list_any (λ c. node_of c == u) p.owners ≡ false) (slots : ℕ) (named_slots : slots_named p.contend ≡ slots) where
    -- the contention slot of its own
    abbrev pub own : ℕ
    own = own_number u b.0 slots

    some_slots : 1 ≤ slots
    some_slots = by_test (p.contend == 0) refl named_slots
      where
        by_test : (t : Bool) → (p.contend == 0) ≡ t → (if t then 1 else p.contend) ≡ slots → 1 ≤ slots
        by_test true is at = omega (arith, at)
        by_test false is at = elim (cases_eq p.contend 0) [
          | inl none ↦ absurd (false≢true (sym is ∙ eq-eqb p.contend 0 none))
          | inr some ↦ omega (arith, at, some)
        ]

    pub own_few : own ≤ slots
    own_few = (let below = mod_below (u + b.0) slots some_slots in omega (arith, below))

    -- before slot j it is fresh, and asks with this backoff
    pub record IsFreshAt (j : ℕ) (x : Backoff) : Type 0 where
      pub core : Core
      pub on : at_slot j ≡ StateOn core
      pub tune : core.tune ≡ Hold rank f
      pub own_slot : core.own_slot ≡ Some own
      pub asks : AsksCore boot i rank host_boot x core

    member_of : (d : Core) → d.tune ≡ Hold rank f → is_member rank f d ≡ true
    member_of d tune = is_due rank f f (Hold rank f) (inr refl) refl d tune

    pub after_opening : (c : Core) → state_at s f u ≡ StateOn c → c.tune ≡ Hold rank f → AsksCore boot i rank host_boot b c → (k : ℕ)
        → Accepts (slot_in s rank f p 0).flood u host k → IsFreshAt 1 b
    after_opening c start tune is k accepts = record {
      core = opening_accepted u f (opening p) c;
      on = after_first s rank f p host hosted u c start tune k accepts;
      tune = tune;
      own_slot = ap (λ (m : ℕ). Some (1 + (u + (schedule_heard u c.boot f (opening p) c.streams).tries) % m)) named_slots
          ∙ ap (λ (t : ℕ). Some (1 + (u + t) % slots)) (goes.tries ∙ ap (λ (x : Backoff). x.0) is.backoff);
      asks = asks_on boot i rank host_boot b c (opening_accepted u f (opening p) c) refl goes is;
    }
      where
        knows : is_host c.streams.host p.rank p.boot ≡ true
        knows = ap (λ (r : ℕ). is_host c.streams.host r p.boot) of_rank ∙ ap (λ (n : ℕ). is_host c.streams.host rank n) of_boot ∙ is.knows

        named : list_any (names u c.boot) p.acks ≡ false
        named = ap (λ (n : ℕ). list_any (names u n) p.acks) is.booted ∙ unnamed

        goes : GoesOn c.streams (schedule_heard u c.boot f (opening p) c.streams) i
        goes = heard_goes u c.boot f (opening p) c.streams i knows named no_slots

    -- and after the next slot, where its window changes its streams alone
    fresh_next : (j : ℕ) (part : Part) → part_of p j ≡ part → is_schedule_part part ≡ false → (x y : Backoff) → (is : IsFreshAt j x)
        → AsksCore boot i rank host_boot y (record is.core { streams = (opened_slot (setup_of s u) f part is.core).core.streams }) → IsFreshAt (suc j) y
    fresh_next j part at plain x y is asks_now = record {
      core = next.core;
      on = next.on;
      tune = next.same.tune ∙ ap (λ (k : Setting). k.tune) kept ∙ is.tune;
      own_slot = next.same.own_slot ∙ ap (λ (k : Setting). k.own_slot) kept ∙ is.own_slot;
      asks = asks_on boot i rank host_boot y (record is.core { streams = opened.streams }) next.core
          (next.same.boot ∙ (opened_core (setup_of s u) f part is.core).boot)
          (subst (λ (z : Streams). GoesOn opened.streams z i) (sym next.same.streams) (same_streams opened.streams i)) asks_now;
    }
      where
        opened : Core
        opened = (opened_slot (setup_of s u) f part is.core).core

        next : IsAfterWindow s rank f p host hosted u j opened
        next = after_window s rank f p host hosted u j part at plain is.core is.on is.tune

        kept : of_core opened ≡ of_core is.core
        kept = opened_same (setup_of s u) f part is.core (ap (λ (t : Tune). hosts_in (rank_of t) f t) is.tune)

    -- data slots are others'
    after_data : (n : ℕ) → n < length p.owners → IsFreshAt (suc n) b → IsFreshAt (suc (suc n)) b
    after_data n within is =
        fresh_next (suc n) (DataSlot owner) part refl b b is
        (asks_on boot i rank host_boot b is.core (record is.core { streams = opened.streams }) refl goes is.asks)
      where
        owner : ℕ
        owner = get_or p.owners n 0

        part : part_of p (suc n) ≡ DataSlot owner
        part = part_data p 0 n within

        other : (node_of owner == u) ≡ false
        other = none_at (λ c. node_of c == u) p.owners n within no_slots

        opened : Core
        opened = (opened_slot (setup_of s u) f (DataSlot owner) is.core).core

        goes : GoesOn is.core.streams opened.streams i
        goes = subst (λ (z : Streams). GoesOn is.core.streams z i)
            (sym (cond-false (node_of owner == u) (after_taking _ is.core.streams) is.core.streams other)) (same_streams is.core.streams i)

    through_data : (n : ℕ) → n ≤ length p.owners → IsFreshAt 1 b → IsFreshAt (suc n) b
    through_data zero within is = is
    through_data (suc n) within is = after_data n within (through_data n (omega (arith, within)) is)

    -- the contention slots
    abbrev pub turn_slot : ℕ → ℕ
    turn_slot k = length p.owners + k

    pub turn_part : (k : ℕ) → 1 ≤ k → k ≤ slots → part_of p (turn_slot k) ≡ Contention k
    turn_part k some few =
        cond-false (turn_slot k == 0) Opening _ (ne_eqb (turn_slot k) 0 (λ none. absurd (omega (arith, none, some))))
        ∙ cond-false (nat_le (turn_slot k) (length p.owners)) (DataSlot _) _ (lt-leb (turn_slot k) (length p.owners) (omega (arith, some)))
        ∙ cond-true (nat_lt (turn_slot k) (last_slot p)) (Contention (turn_slot k - length p.owners)) Closing
        (lt-ltb (turn_slot k) (last_slot p) (let last = named_slots in omega (arith, last, few)))
        ∙ ap (λ (m : ℕ). Contention m) (let same : turn_slot k - length p.owners ≡ k = omega arith in same)

    -- in one of another node nothing happens, in its own it has its turn
    after_turn : (k : ℕ) (x : Backoff) → 1 ≤ k → k ≤ slots → IsFreshAt (turn_slot k) x
        → ((own ≡ k) × IsFreshAt (suc (turn_slot k)) (turn u x)) ⊎ ((own ≢ k) × IsFreshAt (suc (turn_slot k)) x)
    after_turn k x some few is = elim (cases_eq own k) [ inl same ↦ inl (same, in_own same) | inr other ↦ inr (other, in_other other) ]
      where
        opened : Core
        opened = (opened_slot (setup_of s u) f (Contention k) is.core).core

        goes_on : (y : Backoff) → AsksCore boot i rank host_boot y (record is.core { streams = opened.streams }) → IsFreshAt (suc (turn_slot k)) y
        goes_on y asks_now = fresh_next (turn_slot k) (Contention k) (turn_part k some few) refl x y is asks_now

        in_other : own ≢ k → IsFreshAt (suc (turn_slot k)) x
        in_other other =
            let same : opened.streams ≡ is.core.streams =
            cond-false (is_own is.core.own_slot k) (after_contention u is.core.streams) is.core.streams
            (ap (λ (o : Option ℕ). is_own o k) is.own_slot ∙ ne_eqb own k other) in
            goes_on x
            (asks_on boot i rank host_boot x is.core (record is.core { streams = opened.streams }) refl
            (subst (λ (z : Streams). GoesOn is.core.streams z i) (sym same) (same_streams is.core.streams i)) is.asks)

        in_own : own ≡ k → IsFreshAt (suc (turn_slot k)) (turn u x)
        in_own mine =
            let all : opened.streams ≡ after_contention u is.core.streams =
            cond-true (is_own is.core.own_slot k) (after_contention u is.core.streams) is.core.streams
            (ap (λ (o : Option ℕ). is_own o k) is.own_slot ∙ eq-eqb own k mine) in
            let turned = turned_new u is.core.streams i is.asks.new in
            goes_on (turn u x)
            (record {
              booted = is.asks.booted;
              new = subst (λ (z : Streams). IsNew z i) (sym all) turned.1;
              backoff = ap backoff_of all ∙ turned.0 ∙ ap (turn u) is.asks.backoff;
              knows = ap (λ (z : Streams). is_host z.host rank host_boot) all
                  ∙ ap (λ (o : Option (ℕ × ℕ)). is_host o rank host_boot) turned.2 ∙ is.asks.knows;
            })

    -- up to its own slot, and from the next one on
    pub before_turn : (k : ℕ) → k < own → IsFreshAt 1 b → IsFreshAt (turn_slot (suc k)) b
    before_turn zero early is = subst (λ (j : ℕ). IsFreshAt j b) (omega arith) (through_data (length p.owners) (omega arith) is)
    before_turn (suc k) early is =
        let few = own_few in
        elim (after_turn (suc k) b (omega arith) (omega (arith, early, few)) (before_turn k (omega (arith, early)) is)) [
          | inl mine ↦ absurd (let same = mine.0 in omega (arith, same, early))
          | inr other ↦ subst (λ (j : ℕ). IsFreshAt j b) (let more : suc (turn_slot (suc k)) ≡ turn_slot (suc (suc k)) = omega arith in more) other.1
        ]

    at_turn : IsFreshAt 1 b → IsFreshAt (turn_slot own) b
    at_turn is =
        subst (λ (k : ℕ). IsFreshAt (turn_slot k) b) (let same : suc ((u + b.0) % slots) ≡ own = omega arith in same)
        (before_turn ((u + b.0) % slots) (omega arith) is)

    pub past_turn : (n : ℕ) → own + n ≤ slots → IsFreshAt 1 b → IsFreshAt (turn_slot (own + n + 1)) (turn u b)
    past_turn zero few is = elim (after_turn own b (omega arith) own_few (at_turn is)) [
      | inl mine ↦ subst (λ (j : ℕ). IsFreshAt j (turn u b)) (let more : suc (turn_slot own) ≡ turn_slot (own + 0 + 1) = omega arith in more) mine.1
      | inr other ↦ absurd (other.0 refl)
    ]
    past_turn (suc n) few is =
        elim (after_turn (own + n + 1) (turn u b) (omega arith) (omega (arith, few)) (past_turn n (omega (arith, few)) is)) [
          | inl mine ↦ absurd (let same = mine.0 in omega (arith, same))
          | inr other ↦
              subst (λ (j : ℕ). IsFreshAt j (turn u b)) (let more : suc (turn_slot (own + n + 1)) ≡ turn_slot (own + suc n + 1) = omega arith in more) other.1
        ]

    -- it requests in its own slot alone, and exactly if it skips no more slots
    said : (k : ℕ) (x : Backoff) → 1 ≤ k → k ≤ slots → (is : IsFreshAt (turn_slot k) x) → message_said ((slot_in s rank f p (turn_slot k)).window u)
        ≡ (if own == k then option_map (request_of u is.core) (requested is.core.streams) else None)
    said k x some few is =
        ap (λ (q : Part). message_said (opened_at s rank f q u (at_slot (turn_slot k)))) (turn_part k some few)
        ∙ ap (λ (x : State). message_said (opened_at s rank f (Contention k) u x)) is.on
        ∙ ap (λ (w : Option Opened). message_said w) (windowed s rank f (Contention k) u is.core (member_of is.core is.tune))
        ∙ ap (λ (o : Option ℕ). if is_own o k then option_map (request_of u is.core) (requested is.core.streams) else None) is.own_slot

    says_by : (k : ℕ) (x : Backoff) → 1 ≤ k → k ≤ slots → IsFreshAt (turn_slot k) x
        → is_some (message_said ((slot_in s rank f p (turn_slot k)).window u)) ≡ ((own == k) && asks x)
    says_by k x some few is =
        ap (λ (m : Option Message). is_some m) (said k x some few is)
        ∙ by_own (own == k) (is.core.streams.skips == 0) (due_stream is.core.streams) (new_due is.core.streams i is.asks.new)
        ∙ ap (λ (t : Bool). (own == k) && t) (ap asks is.asks.backoff)
      where
        by_own : (m t : Bool) (o : Option ℕ) → is_some o ≡ true
            → is_some (if m then option_map (request_of u is.core) (if t then o else None) else None) ≡ (m && t)
        by_own false t o some = refl
        by_own true true None some = absurd (false≢true some)
        by_own true true (Some k) some = refl
        by_own true false o some = refl

    pub says_at : (k : ℕ) → 1 ≤ k → k ≤ slots → IsFreshAt 1 b
        → is_some (message_said ((slot_in s rank f p (turn_slot k)).window u)) ≡ true → spot slots u b ≡ Some k
    says_at k some few is now = elim (cases_lt own k) [
      | inl past ↦
          absurd (false≢true (ap (λ (t : Bool). t && asks (turn u b)) (sym (ne_eqb own k (λ same. omega (arith, same, past))))
          ∙ sym (says_by k (turn u b) some few (let n : ℕ = k - own - 1 in
          subst (λ (m : ℕ). IsFreshAt (turn_slot m) (turn u b)) (let same : own + n + 1 ≡ k = omega (arith, past) in same)
          (past_turn n (omega (arith, past, few)) is))) ∙ now))
      | inr early ↦
          (let fresh : IsFreshAt (turn_slot k) b =
          (let n : ℕ = k - 1 in
          subst (λ (m : ℕ). IsFreshAt (turn_slot m) b) (let same : suc n ≡ k = omega (arith, some) in same) (before_turn n (omega (arith, some, early)) is)) in
          let both = and_parts (own == k) (asks b) (sym (says_by k b some few fresh) ∙ now) in
          ap (λ (t : Bool). if t then Some own else None) both.1 ∙ ap (λ (m : ℕ). Some m) (eqb-true own k both.0))
    ]

    -- what it says is then a request
    pub turn_request : IsFreshAt 1 b → asks b ≡ true → (a : Ask) × (message_said ((slot_in s rank f p (turn_slot own)).window u) ≡ Some (RequestOf a))
    turn_request is now =
        let fresh = at_turn is in
        let request = by_skips fresh.core (fresh.core.streams.skips == 0) (due_stream fresh.core.streams) (ap asks fresh.asks.backoff ∙ now)
        (new_due fresh.core.streams i fresh.asks.new) in (
          request.0,
          said own b (omega arith) own_few fresh
              ∙ cond-true (own == own) (option_map (request_of u fresh.core) (requested fresh.core.streams)) None (eq-eqb own own refl) ∙ request.1,
        )
      where
        by_skips : (c : Core) (t : Bool) (o : Option ℕ) → t ≡ true → is_some o ≡ true
            → (a : Ask) × (option_map (request_of u c) (if t then o else None) ≡ Some (RequestOf a))
        by_skips c false o now some = absurd (false≢true now)
        by_skips c true None now some = absurd (false≢true some)
        by_skips c true (Some k) now some = (_, refl)

    abbrev planned : HostPlan
    planned = plans s rank f p host hosted

    -- and after the round
    pub record HasGoneOn (x : State) : Type 0 where
      pub core : Core
      pub on : x ≡ StateOn core
      pub tune : (r : ℕ) × (d : ℕ) × (core.tune ≡ Hold r d)
      pub asks : AsksCore boot i rank host_boot (turn u b) core

    pub after_closing : IsFreshAt 1 b → (k : ℕ) → Accepts (slot_in s rank f p (last_slot p)).flood u host k → 0 < planned.gap
        → planned.plan.rank ≡ rank → planned.plan.boot ≡ host_boot → list_any (names u boot) planned.plan.acks ≡ false
        → list_any (λ c. node_of c == u) planned.plan.owners ≡ false → HasGoneOn (state_after_round s rank f p u)
    after_closing start k accepts some_gap rank_is boot_is acks owners = record {
      core = closing_accepted u f y d;
      on = after_last s rank f p host hosted u d turned.on turned.tune k accepts some_gap;
      tune = (y.plan.rank, f + y.gap, refl);
      asks = asks_on boot i rank host_boot (turn u b) d (closing_accepted u f y d) refl (heard_goes u d.boot f y d.streams i knows named owners) turned.asks;
    }
      where
        y : Schedule
        y = said_last s rank f p host hosted

        turned : IsFreshAt (last_slot p) (turn u b)
        turned =
            (let n : ℕ = slots - own in
            let few = own_few in
            let last = named_slots in
            subst (λ (j : ℕ). IsFreshAt j (turn u b)) (let same : turn_slot (own + n + 1) ≡ last_slot p = omega (arith, few, last) in same)
            (past_turn n (omega (arith, few)) start))

        d : Core
        d = turned.core

        knows : is_host d.streams.host planned.plan.rank planned.plan.boot ≡ true
        knows = ap (λ (r : ℕ). is_host d.streams.host r planned.plan.boot) rank_is ∙ ap (λ (n : ℕ). is_host d.streams.host rank n) boot_is
            ∙ turned.asks.knows

        named : list_any (names u d.boot) planned.plan.acks ≡ false
        named = ap (λ (n : ℕ). list_any (names u n) planned.plan.acks) turned.asks.booted ∙ acks
