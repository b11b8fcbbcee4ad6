-- Who holds a round knows the host of its plan.
use Rattle.std.proofs.Common.{◌≡◌, ◌+◌, ◌%◌, ◌&&◌, ◌==◌, ℕ, zero, suc, List, [], ◌∷◌, Bool, true, false, Option, Some, None, if◌then◌else◌, fold, is_none}
use Rattle.std.proofs.Common.{nat_lt, refl, sym, subst}
use Rattle.law_times.proofs.Words.{cond_both, eq-eqb, Schedule, node_of, stream_of, ScenarioParts, ScriptLine, Act, On, Off, Declare, Leave, Put, Part, Opening}
use Rattle.law_times.proofs.Words.{DataSlot, Contention, Closing, Tune, Scan, Hold, Host, Core, Setup, as_host, begins_host, closing_accepted, frame_ended}
use Rattle.law_times.proofs.Words.{is_fresh, opening_accepted, DataOf, Message, RequestOf, ScheduleOf, closed_slot, host_closes, hosts_now, is_own, opened_slot}
use Rattle.law_times.proofs.Words.{silent, slot_heard, State, StateOff, StateOn, at_core, Streams, acknowledged, after_contention, due_stream, after_forgetting}
use Rattle.law_times.proofs.Words.{heard_host, is_host, names, owner_named, schedule_heard, streams_after_act, after_taking, unbound, is_rank, next_tune}
use Rattle.law_times.proofs.Words.{acts_keep, before_frame, state_at, rounds, setup_of, lines_of, state_after_line, states_after_script, rounds_keep}

fold_knows : {A : Type 0} (rank boot : ℕ) (g : Streams → A → Streams) → ((x : Streams) (a : A) → (g x a).host ≡ x.host) → (xs : List A) (x : Streams)
    → is_host x.host rank boot ≡ true → is_host (fold g x xs).host rank boot ≡ true
fold_knows rank boot g keeps [] x is = is
fold_knows rank boot g keeps (a ∷ more) x is =
    fold_knows rank boot g keeps more (g x a) (subst (λ (h : Option (ℕ × ℕ)). is_host h rank boot ≡ true) (sym (keeps x a)) is)

pub heard_knows : (node boot f : ℕ) (y : Schedule) (x : Streams) → is_host (schedule_heard node boot f y x).host y.plan.rank y.plan.boot ≡ true
unfolding schedule_heard
heard_knows node boot f y x =
    let r = y.plan.rank in
    let b = y.plan.boot in
    let known : is_host (heard_host r b x).host r b ≡ true =
    cond_both (is_host x.host r b) x (record (unbound x) { host = Some (r, b) }) (λ (z : Streams). is_host z.host r b ≡ true) (λ is. is)
    (λ _. both (r == r) (b == b) (eq-eqb r r refl) (eq-eqb b b refl)) in
    let answered = fold_knows r b (acknowledged node boot f)
    (λ z a. cond_both (names node boot a) _ z (λ (t : Streams). t.host ≡ z.host) (λ _. refl) (λ _. refl)) y.plan.acks (heard_host r b x) known in
    let named = fold_knows r b (owner_named node f)
    (λ z c. cond_both (node_of c == node) _ z (λ (t : Streams). t.host ≡ z.host) (λ _. refl) (λ _. refl))
    y.plan.owners (fold (acknowledged node boot f) (heard_host r b x) y.plan.acks) answered in
    let last : Streams = fold (owner_named node f) (fold (acknowledged node boot f) (heard_host r b x) y.plan.acks) y.plan.owners in
    cond_both (y.gap == 0) last (after_forgetting f last) (λ (z : Streams). is_host z.host r b ≡ true) (λ _. named) (λ _. named)
  where
    both : (p q : Bool) → p ≡ true → q ≡ true → (p && q) ≡ true
    both p q first second = rw (first, second) refl

abbrev pub Knows : State → Type 0
Knows (StateOff boots) = Unit {0}
Knows (StateOn c) = (r d : ℕ) → c.tune ≡ Hold r d → is_host c.streams.host c.plan.rank c.plan.boot ≡ true

-- another host and streams with the same one
same_host : (c : Core) (x : Streams) → x.host ≡ c.streams.host → Knows (StateOn c) → Knows (StateOn (record c { streams = x }))
same_host c x same knows r d hold = subst (λ (h : Option (ℕ × ℕ)). is_host h c.plan.rank c.plan.boot ≡ true) (sym same) (knows r d hold)

module _ (q : Setup) (f : ℕ) where
  opens : (part : Part) (c : Core) → Knows (StateOn c) → Knows (StateOn (opened_slot q f part c).core)
  opens Opening c knows = knows
  opens (DataSlot owner) c knows =
      same_host c (if node_of owner == q.id then after_taking (stream_of owner) c.streams else c.streams)
      (cond_both (node_of owner == q.id) (after_taking (stream_of owner) c.streams) c.streams (λ (t : Streams). t.host
      ≡ c.streams.host) (λ _. refl) (λ _. refl))
      knows
  opens (Contention k) c knows =
      same_host c (if is_own c.own_slot k then after_contention q.id c.streams else c.streams)
      (cond_both (is_own c.own_slot k) (after_contention q.id c.streams) c.streams (λ (t : Streams). t.host ≡ c.streams.host)
      (λ _. cond_both (is_none (due_stream c.streams)) c.streams _ (λ (t : Streams). t.host ≡ c.streams.host) (λ _. refl)
      (λ _. cond_both (c.streams.skips == 0) _ _ (λ (t : Streams). t.host ≡ c.streams.host) (λ _. refl) (λ _. refl))) (λ _. refl)) knows
  opens Closing c knows = by_test (hosts_now f c)
    where
      by_test : (b : Bool) → Knows (StateOn (if b then host_closes q f c else silent c).core)
      by_test false = knows
      by_test true = λ r d hold. absurd (cc)

  heard : (part : Part) (b : Bool) (c : Core) → Knows (StateOn c) → Knows (StateOn (slot_heard f part b c))
  heard Opening b c knows = knows
  heard (DataSlot owner) b c knows = knows
  heard (Contention k) b c knows = knows
  heard Closing b c knows = knows

  closes : (part : Part) (b : Bool) (c : Core) (o : Option Message) → Knows (StateOn c) → Knows (StateOn (closed_slot q f part b c o).core)
  closes part b c None knows = heard part b c knows
  closes part b c (Some (DataOf d)) knows = heard part true c knows
  closes part b c (Some (RequestOf a)) knows = knows
  closes part b c (Some (ScheduleOf y)) knows = by_gap (y.gap == 0)
    where
      by_gap : (t : Bool) → Knows (StateOn (if t then opening_accepted q.id f y c else closing_accepted q.id f y c))
      by_gap true = λ r d hold. heard_knows q.id c.boot f y c.streams
      by_gap false = λ r d hold. heard_knows q.id c.boot f y c.streams

  ends : (x : State) → Knows x → Knows (at_core (frame_ended q f) x)
  ends (StateOff boots) knows = knows
  ends (StateOn c) knows = of_tune c.tune refl
    where
      turned : Tune → Core
      turned t = record c { tune = t; own_slot = None }

      by_scan : (r w : ℕ) (joined serves turns : Bool)
          → (let t : Tune = if joined then Scan r 0 else if serves then Host r (f + 1) else if turns then Scan ((r + 1) % q.ranks) 0 else Scan r (w + 1) in
          Knows (StateOn (as_host q.profile (begins_host (Scan r w) t) (turned t))))
      by_scan r w true serves turns = λ n d hold. absurd (cc)
      by_scan r w false true turns = λ n d hold. absurd (cc)
      by_scan r w false false true = λ n d hold. absurd (cc)
      by_scan r w false false false = λ n d hold. absurd (cc)

      by_due : (r d : ℕ) → c.tune ≡ Hold r d → (b : Bool)
          → (let t : Tune = if b then Hold r d else Scan r 0 in Knows (StateOn (as_host q.profile (begins_host (Hold r d) t) (turned t))))
      by_due r d is true = λ n e hold. knows r d is
      by_due r d is false = λ n e hold. absurd (cc)

      of_tune : (u : Tune) → c.tune ≡ u → Knows (StateOn
          (as_host q.profile (begins_host u (next_tune u f (is_fresh c) q.own q.ranks)) (turned (next_tune u f (is_fresh c) q.own q.ranks))))
      of_tune (Host r d) is = λ n e hold. absurd (cc)
      of_tune (Hold r d) is = by_due r d is (nat_lt f d)
      of_tune (Scan r w) is = by_scan r w (is_fresh c) (is_rank q.own r && (w + 1 == 5)) (w + 1 == 12)

act_knows : (a : Act) (c : Core) → (streams_after_act a c.streams).host ≡ c.streams.host
act_knows On c = refl
act_knows Off c = refl
act_knows (Declare i interval) c = refl
act_knows (Leave i) c = refl
act_knows (Put i payload) c = refl

module _ (s : ScenarioParts) where
  lines : (ls : List ScriptLine) (x : State) → Knows x → Knows (fold state_after_line x ls)
  lines [] x knows = knows
  lines (l ∷ ls) x knows =
      lines ls (state_after_line x l)
      (acts_keep Knows (λ boots off r d hold. absurd (cc)) (λ c on. tt)
      (λ a c is. same_host c (streams_after_act a c.streams) (act_knows a c) is) l.act x knows)

  before : (f v : ℕ) → Knows (before_frame s f v)
  unfolding before_frame
  before zero v = tt
  before (suc f) v =
      let told : (w : ℕ) → Knows (states_after_script s f (before_frame s f) w) = λ w. lines (lines_of s f w) (before_frame s f w) (before f w) in
      ends (setup_of s v) f (rounds s f (states_after_script s f (before_frame s f)) v)
      (rounds_keep s f (λ w x. Knows x) (λ m. Unit {0}) (λ w part c is. opens (setup_of s w) f part c is) (λ w part c m is said. tt)
      (λ w part b c o heard_it is. closes (setup_of s w) f part b c o is) (states_after_script s f (before_frame s f)) told v)

  pub knows : (f v : ℕ) → Knows (state_at s f v)
  knows f v = lines (lines_of s f v) (before_frame s f v) (before f v)
