-- A round at a member whose stream is agreed, and the frames between rounds.
use Rattle.std.proofs.Common.{◌≡◌, ◌≢◌, ◌<◌, ◌≤◌, ◌+◌, ◌-◌, ◌==◌, ℕ, zero, suc, Bool, true, false, Option, Some, None, if◌then◌else◌, length, nat_le, nat_lt}
use Rattle.std.proofs.Common.{option_map, refl, sym, ◌∙◌, ap, subst, arith, Contains}
use Rattle.law_times.proofs.Words.{cond_both, eqb-false, ltb-true, Ask, Plan, Schedule, code, code_of, ScenarioParts, Act, On, Off, Declare, Leave, Put, Part}
use Rattle.law_times.proofs.Words.{Opening, DataSlot, Contention, Closing, Tune, Hold, Core, Setup, closing_accepted, frame_ended}
use Rattle.law_times.proofs.Words.{opening_accepted, HostPlan, last_slot, opening, RequestOf, ScheduleOf, host_closes, hosts_now, is_own, opened_slot}
use Rattle.law_times.proofs.Words.{part_of, request_of, silent, State, StateOn, at_core, Streams, emptied, is_host, put_to, queued, refuses, requested}
use Rattle.law_times.proofs.Words.{stream_at, wishes, hosts_in, rank_of, state_at, Accepts, IsHosted, slot_in, state_after_round, before_slot}
use Rattle.law_times.proofs.Words.{message_said, rounds, setup_of, only_data, requests, said_message, resets, StaysOn, has_line, core_after_act}
use Rattle.law_times.proofs.AgreedStreams.{Good, IsGood, asks_other, heard_good, heard_names, opened_good, with_good}
use Rattle.law_times.proofs.KeptCores.{OnWith, holder_ends, next_keeps}
use Rattle.law_times.proofs.KnownHosts.{heard_knows}
use Rattle.law_times.proofs.MemberSlots.{after_first, after_last, after_window, plain_part, plans, said_last}

-- a contention slot lies between the opening slot and the closing slot
contention_early : (p : Plan) (j k : ℕ) → part_of p j ≡ Contention k → (1 ≤ j) × (j < last_slot p)
contention_early p j k is = by_tests _ _ (j == 0) refl (nat_le j (length p.owners)) (nat_lt j (last_slot p)) refl is
  where
    by_tests : (n m : ℕ) (a : Bool) → (j == 0) ≡ a → (b d : Bool) → nat_lt j (last_slot p) ≡ d
        → (if a then Opening else if b then DataSlot n else if d then Contention m else Closing) ≡ Contention k → (1 ≤ j) × (j < last_slot p)
    by_tests n m true at b d early is = absurd (cc)
    by_tests n m false at true d early is = absurd (cc)
    by_tests n m false at false false early is = absurd (cc)
    by_tests n m false at false true early is = (let some = eqb-false j 0 at in omega (arith, some), ltb-true j (last_slot p) early)

module _ (s : ScenarioParts) (rank f : ℕ) (p : Plan) (host : ℕ) (hosted : IsHosted s rank f p host) (u i interval : ℕ) (few : i ≤ 3)
    (positive : 0 < interval) (low : ℕ) (late : low ≤ f) (soon : f ≤ low + interval + 8) where
  abbrev GoodStreams : ℕ → Streams → Type 0
  GoodStreams = Good u i interval few positive

  pub record IsGoodAt (j : ℕ) : Type 0 where
    pub core : Core
    pub on : before_slot s rank f p (state_at s f) j u ≡ StateOn core
    pub tune : core.tune ≡ Hold rank f
    pub good : GoodStreams low core.streams
    pub knows : is_host core.streams.host p.rank p.boot ≡ true

  guest_of : (d : Core) → d.tune ≡ Hold rank f → hosts_now f d ≡ false
  guest_of d tune = ap (λ (t : Tune). hosts_in (rank_of t) f t) tune

  pub good_opening : (c : Core) → state_at s f u ≡ StateOn c → c.tune ≡ Hold rank f → GoodStreams low c.streams
      → is_host c.streams.host p.rank p.boot ≡ true → ((a : Ask) → Contains p.acks a → code_of a ≡ code u i → a.interval ≡ interval) → (k : ℕ)
      → Accepts (slot_in s rank f p 0).flood u host k → IsGoodAt 1
  good_opening c start tune good knows acks k accepts = record {
    core = opening_accepted u f (opening p) c;
    on = after_first s rank f p host hosted u c start tune k accepts;
    tune = tune;
    good = heard_good u i interval few positive c.boot f (opening p) c.streams knows acks low late soon good;
    knows = heard_knows u c.boot f (opening p) c.streams;
  }

  good_step : (j : ℕ) → 1 ≤ j → j < last_slot p → IsGoodAt j → IsGoodAt (suc j)
  good_step j later early is =
      let opened = opened_good u i interval few positive low f (part_of p j) (setup_of s u) is.core (guest_of is.core is.tune) is.good in
      let next = after_window s rank f p host hosted u j (part_of p j) refl (plain_part p j later early) is.core is.on is.tune in
      record {
        core = next.core;
        on = next.on;
        tune = next.same.tune ∙ opened.2 ∙ is.tune;
        good = subst (GoodStreams low) (sym next.same.streams) opened.0;
        knows = ap (λ (z : Streams). is_host z.host p.rank p.boot) next.same.streams
            ∙ ap (λ (h : Option (ℕ × ℕ)). is_host h p.rank p.boot) opened.1 ∙ is.knows;
      }

  pub good_slots : IsGoodAt 1 → (n : ℕ) → suc n ≤ last_slot p → IsGoodAt (suc n)
  good_slots first zero early = first
  good_slots first (suc n) early = good_step (suc n) (omega arith) early (good_slots first n (omega (arith, early)))

  -- it requests another stream, if any
  pub unasked : IsGoodAt 1 → (j v : ℕ) (a : Ask) → message_said ((slot_in s rank f p j).window v) ≡ Some (RequestOf a) → code_of a ≢ code u i
  unasked first j v a says same =
      (let said = said_message s rank f (part_of p j) v (before_slot s rank f p (state_at s f) j v) (RequestOf a) says in
      by_part (part_of p j) refl said.0 said.1 said.3)
    where
      requests_this : (q : Setup) (k : ℕ) (d : Core) → (opened_slot q f (Contention k) d).message ≡ Some (RequestOf a) → requested d.streams ≡ Some a.stream
      requests_this q k d is = by_own (is_own d.own_slot k) (requested d.streams) refl is
        where
          by_own : (t : Bool) (o : Option ℕ) → requested d.streams ≡ o → (if t then option_map (request_of q.id d) o else None) ≡ Some (RequestOf a)
              → requested d.streams ≡ Some a.stream
          by_own false o at is = absurd (cc)
          by_own true None at is = absurd (cc)
          by_own true (Some n) at is = (let one : n ≡ a.stream = cc in at ∙ ap (λ (m : ℕ). Some m) one)

      by_part : (part : Part) → part_of p j ≡ part → (d : Core) → before_slot s rank f p (state_at s f) j v ≡ StateOn d
          → (opened_slot (setup_of s v) f part d).message ≡ Some (RequestOf a) → ⊥
      by_part Opening at d on is = by_test (hosts_now f d) is
        where
          by_test : (b : Bool) → (if b then Some (ScheduleOf (opening d.plan)) else None) ≡ Some (RequestOf a) → ⊥
          by_test true is = cc
          by_test false is = cc
      by_part (DataSlot owner) at d on is = (let other = only_data (setup_of s v) f owner d (RequestOf a) is in (let no = other.1 in cc))
      by_part Closing at d on is = by_test (hosts_now f d) is
        where
          by_test : (b : Bool) → (if b then host_closes (setup_of s v) f d else silent d).message ≡ Some (RequestOf a) → ⊥
          by_test true is = cc
          by_test false is = cc
      by_part (Contention k) at d on is =
          let request = requests (setup_of s v) f k d a is in
          let node_is = request.node in
          let small = request.stream in
          let place = contention_early p j k at in
          let stream_same : a.stream ≡ i = omega (arith, same, small, few) in
          let node_same : v ≡ u = omega (arith, same, small, few, node_is) in
          let n : ℕ = j - 1 in
          let j_is : suc n ≡ j = omega (arith, place) in
          let here = subst IsGoodAt j_is (good_slots first n (omega (arith, place, j_is))) in
          let cores : StateOn here.core ≡ StateOn d = sym here.on ∙ ap (λ (w : ℕ). before_slot s rank f p (state_at s f) j w) (sym node_same) ∙ on in
          let core : here.core ≡ d = cc in
          asks_other u i interval few positive low here.core.streams a.stream
          (ap (λ (c : Core). requested c.streams) core ∙ requests_this (setup_of s v) k d is) here.good stream_same

  abbrev planned : HostPlan
  planned = plans s rank f p host hosted

  -- after the round
  pub record IsGoodAfter : Type 0 where
    pub core : Core
    pub on : state_after_round s rank f p u ≡ StateOn core
    pub tune : (r : ℕ) × (d : ℕ) × (core.tune ≡ Hold r d)
    pub good : GoodStreams low core.streams
    pub named : Contains planned.plan.owners (code u i) → GoodStreams f core.streams

  pub good_closing : IsGoodAt 1 → (k : ℕ) → Accepts (slot_in s rank f p (last_slot p)).flood u host k → 0 < planned.gap → planned.plan.rank ≡ p.rank
      → planned.plan.boot ≡ p.boot → ((a : Ask) → Contains planned.plan.acks a → code_of a ≡ code u i → a.interval ≡ interval) → IsGoodAfter
  good_closing first k accepts some_gap rank_is boot_is acks = record {
    core = closing_accepted u f y d;
    on = after_last s rank f p host hosted u d last.on last.tune k accepts some_gap;
    tune = (y.plan.rank, f + y.gap, refl);
    good = heard_good u i interval few positive d.boot f y d.streams knows acks low late soon last.good;
    named = λ there. heard_names u i interval few positive d.boot f y d.streams knows acks low late there last.good;
  }
    where
      y : Schedule
      y = said_last s rank f p host hosted

      last : IsGoodAt (last_slot p)
      last =
          (let n : ℕ = last_slot p - 1 in
          subst IsGoodAt (let same : suc n ≡ last_slot p = omega arith in same) (good_slots first n (omega arith)))

      d : Core
      d = last.core

      knows : is_host d.streams.host planned.plan.rank planned.plan.boot ≡ true
      knows = ap (λ (r : ℕ). is_host d.streams.host r planned.plan.boot) rank_is ∙ ap (λ (n : ℕ). is_host d.streams.host p.rank n) boot_is ∙ last.knows

-- from the rounds of a frame to the next frame
module _ (u i interval : ℕ) (few : i ≤ 3) (positive : 0 < interval) (low : ℕ) where
  abbrev pub GoodState : State → Type 0
  GoodState = OnWith (λ c. Good u i interval few positive low c.streams)

  act_good : (a : Act) (c : Core) → resets i a ≡ false → GoodState (StateOn c) → GoodState (StateOn (core_after_act a c))
  act_good On c keeps is = is
  act_good Off c keeps is = is
  act_good (Declare j n) c keeps is =
      with_good u i interval few positive low c.streams j (wishes n (stream_at c.streams j)) (λ same. absurd (eqb-false j i keeps same)) is
  act_good (Leave j) c keeps is =
      with_good u i interval few positive low c.streams j (emptied (stream_at c.streams j)) (λ same. absurd (eqb-false j i keeps same)) is
  act_good (Put j payload) c keeps is =
      with_good u i interval few positive low c.streams j (put_to payload (stream_at c.streams j))
      (λ same. cond_both (refuses (stream_at c.streams j)) (stream_at c.streams j) (queued payload (stream_at c.streams j)) (IsGood interval low)
      (λ _. subst (λ (n : ℕ). IsGood interval low (stream_at c.streams n)) (sym same) is)
      (λ _. subst (λ (n : ℕ). IsGood interval low (queued payload (stream_at c.streams n))) (sym same)
      (record { wish = is.wish; agreed = is.agreed; last = is.last }))) is

  end_good : (q : Setup) (f : ℕ) (c : Core) (r d : ℕ) → c.tune ≡ Hold r d → GoodState (StateOn c) → GoodState (StateOn (frame_ended q f c))
  end_good q f c r d hold is =
      subst (λ (e : Core). GoodState (StateOn e)) (sym (holder_ends q f c r d hold)) is

  pub next_good : (s : ScenarioParts) (first e f : ℕ) (c : Core) (r d : ℕ) → StaysOn s first e u → has_line (resets i) s first e u ≡ false
      → first ≤ f → suc f ≤ e → rounds s f (state_at s f) u ≡ StateOn c → c.tune ≡ Hold r d → GoodState (StateOn c)
      → GoodState (state_at s (suc f) u)
  next_good s first e f c r d stays keeps after within on hold is =
      next_keeps (λ c. Good u i interval few positive low c.streams) (resets i) act_good s first e u f stays keeps after within
      (subst (λ (x : State). GoodState (at_core (frame_ended (setup_of s u) f) x)) (sym on) (end_good (setup_of s u) f c r d hold is))
