-- Tries and skips of a node are always as the rule leaves them: at most four tries, and no more skips than its id gives after them.
use Rattle.std.proofs.Common.{◌≡◌, ◌≤◌, ◌-◌, ◌%◌, ◌^◌, ◌==◌, ℕ, zero, suc, List, [], ◌∷◌, Bool, true, false, Option, Some, None, if◌then◌else◌, fold, is_none}
use Rattle.std.proofs.Common.{refl, ap, arith}
use Rattle.law_times.proofs.Words.{cond_both, Ask, Schedule, node_of, stream_of, Numbers, ScenarioParts, ScriptLine, Act, On, Off, Declare, Leave, Put, Part}
use Rattle.law_times.proofs.Words.{Opening, DataSlot, Contention, Closing, Core, Setup, as_host, begins_host, closing_accepted, frame_ended, is_fresh}
use Rattle.law_times.proofs.Words.{opening_accepted, Served, answers_to, host_plan, serve, DataOf, Message, RequestOf, ScheduleOf, closed_slot, host_closes}
use Rattle.law_times.proofs.Words.{hosts_now, is_own, opened_slot, silent, slot_heard, State, StateOff, StateOn, at_core, Streams, acknowledged}
use Rattle.law_times.proofs.Words.{after_contention, due_stream, after_forgetting, heard_host, is_host, names, owner_named, schedule_heard, streams_after_act}
use Rattle.law_times.proofs.Words.{after_taking, tries_after, unbound, with_stream, Table, next_tune, rank_of, acts_keep, before_frame, state_at, rounds}
use Rattle.law_times.proofs.Words.{setup_of, lines_of, state_after_line, states_after_script, rounds_keep}

pub record IsRuled (node : ℕ) (x : Streams) : Type 0 where
  pub tries : x.tries ≤ 4
  pub skips : x.skips ≤ node % 2 ^ x.tries

module _ (node : ℕ) where
  same_ruled : (x y : Streams) → y.tries ≡ x.tries → y.skips ≡ x.skips → IsRuled node x → IsRuled node y
  same_ruled x y tries skips is = record {
    tries = (let few = is.tries in omega (arith, few, tries));
    skips = (let few = is.skips in
        let same : node % 2 ^ y.tries ≡ node % 2 ^ x.tries = ap (λ (t : ℕ). node % 2 ^ t) tries in omega (arith, few, skips, same));
  }

  none_ruled : (y : Streams) → y.tries ≡ 0 → y.skips ≡ 0 → IsRuled node y
  none_ruled y tries skips = record { tries = omega (arith, tries); skips = omega (arith, skips) }

  contention_ruled : (x : Streams) → IsRuled node x → IsRuled node (after_contention node x)
  contention_ruled x is =
      cond_both (is_none (due_stream x)) x _ (IsRuled node) (λ _. is)
      (λ _. cond_both (x.skips == 0) (record x { tries = tries_after x; skips = node % 2 ^ tries_after x }) (record x { skips = x.skips - 1 }) (IsRuled node)
      (λ _. record { tries = omega arith; skips = omega arith })
      (λ _. record { tries = is.tries; skips = (let few = is.skips in omega (arith, few)) }))

  fold_ruled : {A : Type 0} (g : Streams → A → Streams) → ((x : Streams) (a : A) → IsRuled node x → IsRuled node (g x a)) → (xs : List A) (x : Streams)
      → IsRuled node x → IsRuled node (fold g x xs)
  fold_ruled g keeps [] x is = is
  fold_ruled g keeps (a ∷ more) x is = fold_ruled g keeps more (g x a) (keeps x a is)

  heard_ruled : (boot f : ℕ) (y : Schedule) (x : Streams) → IsRuled node x → IsRuled node (schedule_heard node boot f y x)
  unfolding schedule_heard
  heard_ruled boot f y x is =
      let known : IsRuled node (heard_host y.plan.rank y.plan.boot x) =
      cond_both (is_host x.host y.plan.rank y.plan.boot) x (record (unbound x) { host = Some (y.plan.rank, y.plan.boot) }) (IsRuled node) (λ _. is)
      (λ _. none_ruled (record (unbound x) { host = Some (y.plan.rank, y.plan.boot) }) refl refl) in
      let answered = fold_ruled (acknowledged node boot f)
      (λ z a ruled. cond_both (names node boot a) (record (with_stream a.stream _ z) { tries = 0; skips = 0 }) z (IsRuled node)
      (λ _. none_ruled (record (with_stream a.stream _ z) { tries = 0; skips = 0 }) refl refl) (λ _. ruled))
      y.plan.acks (heard_host y.plan.rank y.plan.boot x) known in
      let named = fold_ruled (owner_named node f)
      (λ z c ruled. cond_both (node_of c == node) (with_stream (stream_of c) _ z) z (IsRuled node)
      (λ _. same_ruled z (with_stream (stream_of c) _ z) refl refl ruled) (λ _. ruled))
      y.plan.owners (fold (acknowledged node boot f) (heard_host y.plan.rank y.plan.boot x) y.plan.acks) answered in
      let last : Streams = fold (owner_named node f) (fold (acknowledged node boot f) (heard_host y.plan.rank y.plan.boot x) y.plan.acks) y.plan.owners in
      cond_both (y.gap == 0) last (after_forgetting f last) (IsRuled node) (λ _. named) (λ _. same_ruled last (after_forgetting f last) refl refl named)

  served_ruled : (f boot : ℕ) (is : List ℕ) (x : Served) → IsRuled node x.streams → IsRuled node (fold (serve f node boot) x is).streams
  served_ruled f boot [] x ruled = ruled
  served_ruled f boot (k ∷ ks) x ruled =
      served_ruled f boot ks (serve f node boot x k) (same_ruled x.streams (serve f node boot x k).streams refl refl ruled)

  plan_ruled : (n : Numbers) (boot rank f : ℕ) (kept : List Ask) (t : Table) (x : Streams) → IsRuled node x
      → IsRuled node (host_plan n node boot rank f kept t x).streams
  unfolding host_plan
  plan_ruled n boot rank f kept t x is =
      served_ruled f boot (0 ∷ 1 ∷ 2 ∷ 3 ∷ []) (record { table = (answers_to f kept t).table; streams = x }) is

  act_ruled : (a : Act) (x : Streams) → IsRuled node x → IsRuled node (streams_after_act a x)
  act_ruled On x is = is
  act_ruled Off x is = is
  act_ruled (Declare i interval) x is = same_ruled x (streams_after_act (Declare i interval) x) refl refl is
  act_ruled (Leave i) x is = same_ruled x (streams_after_act (Leave i) x) refl refl is
  act_ruled (Put i payload) x is = same_ruled x (streams_after_act (Put i payload) x) refl refl is

abbrev pub Ruled : ℕ → State → Type 0
Ruled node (StateOff boots) = Unit {0}
Ruled node (StateOn c) = IsRuled node c.streams

module _ (q : Setup) (f : ℕ) where
  opens : (part : Part) (c : Core) → IsRuled q.id c.streams → IsRuled q.id (opened_slot q f part c).core.streams
  opens Opening c is = is
  opens (DataSlot owner) c is =
      cond_both (node_of owner == q.id) (after_taking (stream_of owner) c.streams) c.streams (IsRuled q.id)
      (λ _. same_ruled q.id c.streams (after_taking (stream_of owner) c.streams) refl refl is) (λ _. is)
  opens (Contention k) c is =
      cond_both (is_own c.own_slot k) (after_contention q.id c.streams) c.streams (IsRuled q.id) (λ _. contention_ruled q.id c.streams is) (λ _. is)
  opens Closing c is = by_test (hosts_now f c)
    where
      by_test : (b : Bool) → IsRuled q.id (if b then host_closes q f c else silent c).core.streams
      by_test false = is
      by_test true = plan_ruled q.id q.profile c.boot (rank_of c.tune) f c.kept c.table c.streams is

  heard : (part : Part) (b : Bool) (c : Core) → IsRuled q.id c.streams → IsRuled q.id (slot_heard f part b c).streams
  heard Opening b c is = is
  heard (DataSlot owner) b c is = is
  heard (Contention k) b c is = is
  heard Closing b c is = is

  closes : (part : Part) (b : Bool) (c : Core) (o : Option Message) → IsRuled q.id c.streams → IsRuled q.id (closed_slot q f part b c o).core.streams
  closes part b c None is = heard part b c is
  closes part b c (Some (DataOf d)) is = heard part true c is
  closes part b c (Some (RequestOf a)) is = is
  closes part b c (Some (ScheduleOf y)) is = by_gap (y.gap == 0)
    where
      by_gap : (t : Bool) → IsRuled q.id (if t then opening_accepted q.id f y c else closing_accepted q.id f y c).streams
      by_gap true = heard_ruled q.id c.boot f y c.streams is
      by_gap false = heard_ruled q.id c.boot f y c.streams is

  ends : (x : State) → Ruled q.id x → Ruled q.id (at_core (frame_ended q f) x)
  ends (StateOff boots) is = is
  ends (StateOn c) is = by_host (begins_host c.tune (next_tune c.tune f (is_fresh c) q.own q.ranks))
    where
      by_host : (o : Option ℕ) → IsRuled q.id
          (as_host q.profile o (record c { tune = next_tune c.tune f (is_fresh c) q.own q.ranks; own_slot = None })).streams
      by_host None = is
      by_host (Some rank) = none_ruled q.id (unbound c.streams) refl refl

module _ (s : ScenarioParts) where
  lines : (v : ℕ) (ls : List ScriptLine) (x : State) → Ruled v x → Ruled v (fold state_after_line x ls)
  lines v [] x is = is
  lines v (l ∷ ls) x is =
      lines v ls (state_after_line x l)
      (acts_keep (Ruled v) (λ boots off. record { tries = omega arith; skips = omega arith }) (λ c on. tt) (λ a c ruled. act_ruled v a c.streams ruled)
      l.act x is)

  before : (f v : ℕ) → Ruled v (before_frame s f v)
  unfolding before_frame
  before zero v = tt
  before (suc f) v =
      let told : (w : ℕ) → Ruled w (states_after_script s f (before_frame s f) w) = λ w. lines w (lines_of s f w) (before_frame s f w) (before f w) in
      ends (setup_of s v) f (rounds s f (states_after_script s f (before_frame s f)) v)
      (rounds_keep s f Ruled (λ m. Unit {0}) (λ w part c is. opens (setup_of s w) f part c is) (λ w part c m is said. tt)
      (λ w part b c o heard_it is. closes (setup_of s w) f part b c o is) (states_after_script s f (before_frame s f)) told v)

  pub ruled : (f v : ℕ) → Ruled v (state_at s f v)
  ruled f v = lines v (lines_of s f v) (before_frame s f v) (before f v)
