-- At the start of each frame a node that is on is not fresh; the next due frame of who holds or hosts a rank is this one or one of the
-- next three; and who scans its own rank has done so for fewer than five frames.
use Rattle.std.proofs.Common.{◌≡◌, ◌<◌, ◌≤◌, ◌+◌, ◌%◌, ◌&&◌, ◌==◌, ℕ, zero, suc, List, [], ◌∷◌, Bool, true, false, inl, inr, Option, Some, None, is_some}
use Rattle.std.proofs.Common.{nat_lt, fold, refl, sym, ◌∙◌, ap, subst, arith}
use Rattle.law_times.proofs.Words.{false≢true, eq-eqb, ltb-true, cases_eq, cond_both, eqb-false, ScenarioParts, IsSoundScenario, ScriptLine, Act, Tune, Scan}
use Rattle.law_times.proofs.Words.{Hold, Host, Core, Setup, begins_host, frame_ended, is_fresh, own_rank, hosts_now, State, StateOff, StateOn, at_core}
use Rattle.law_times.proofs.Words.{state_after_act, hosts_in, is_rank, next_tune, rank_of, acts_keep, before_frame, state_at, rounds, setup_of, is_on_and}
use Rattle.law_times.proofs.Words.{lines_of, state_after_line}
use Rattle.law_times.proofs.HostedFrames.{Planned, due_round}
use Rattle.law_times.proofs.QuietFrames.{host_tune, host_slot}
use Rattle.law_times.proofs.QuietRounds.{hosts_round}
use Rattle.law_times.proofs.RangedRounds.{IsInRange, InRange, rounds_in_range}
use Rattle.law_times.proofs.Settings.{Setting, setting, of_core}

-- the tune of a node that hosts this rank, if it does, at the start of frame f
abbrev pub Starts : ℕ → Option ℕ → Tune → Type 0
Starts f own (Host q d) = (f ≤ d) × (d ≤ f + 3)
Starts f own (Hold q d) = (f ≤ d) × (d ≤ f + 3) × (own ≡ Some q → ⊥)
Starts f own (Scan q w) = (w < 12) × (own ≡ Some q → w < 5)

abbrev pub HasStarted : ℕ → Option ℕ → State → Type 0
HasStarted f own (StateOff boots) = Unit {0}
HasStarted f own (StateOn c) = Starts f own c.tune × (c.own_slot ≡ None)

-- script lines
acts : (f : ℕ) (own : Option ℕ) (a : Act) (x : State) → HasStarted f own x → HasStarted f own (state_after_act a x)
acts f own =
    acts_keep (HasStarted f own) (λ boots is. ((omega arith, λ host. omega arith), refl)) (λ c is. tt) (λ a c is. is)

lines : (f : ℕ) (own : Option ℕ) (ls : List ScriptLine) (x : State) → HasStarted f own x → HasStarted f own (fold state_after_line x ls)
lines f own [] x is = is
lines f own (l ∷ ls) x is = lines f own ls (state_after_line x l) (acts f own l.act x is)

-- the end of a frame, after the round in which a host that was due has planned
ends : (f : ℕ) (own : Option ℕ) (due : Bool) (ranks : ℕ) (t : Tune) (fresh : Option ℕ) → IsInRange f own due t fresh
    → ((q d : ℕ) → t ≡ Host q d → f < d) → Starts (suc f) own (next_tune t f (is_some fresh) own ranks)
ends f own due ranks (Host q d) fresh is planned = (let later = planned q d refl in let soon = is.1 in (omega (arith, later), omega (arith, soon)))
ends f own due ranks (Hold q d) fresh is planned =
    cond_both (nat_lt f d) (Hold q d) (Scan q 0) (λ (t : Tune). Starts (suc f) own t)
    (λ less. (let later = ltb-true f d less in let soon = is.1 in (omega (arith, later), omega (arith, soon), is.2)))
    (λ not_less. (omega arith, λ host. omega arith))
ends f own due ranks (Scan q w) fresh is planned =
    cond_both (is_some fresh) (Scan q 0) _ (λ (t : Tune). Starts (suc f) own t) (λ joined. (omega arith, λ host. omega arith))
    (λ alone. cond_both (is_rank own q && (w + 1 == 5)) (Host q (f + 1)) _ (λ (t : Tune). Starts (suc f) own t) (λ serves. (omega arith, omega arith))
    (λ not_yet. cond_both (w + 1 == 12) (Scan ((q + 1) % ranks) 0) (Scan q (w + 1)) (λ (t : Tune). Starts (suc f) own t)
    (λ turns. (omega arith, λ host. omega arith))
    (λ stays. (let few = is.0 in let more = eqb-false (w + 1) 12 stays in (omega (arith, few, more), λ host. own_still (own_yet host not_yet) (is.1 host).0)))))
  where
    own_yet : own ≡ Some q → (is_rank own q && (w + 1 == 5)) ≡ false → (w + 1 == 5) ≡ false
    own_yet host not_yet = by_own own host not_yet
      where
        by_own : (o : Option ℕ) → o ≡ Some q → (is_rank o q && (w + 1 == 5)) ≡ false → (w + 1 == 5) ≡ false
        by_own None host not_yet = absurd (cc)
        by_own (Some r) host not_yet =
            let same : r ≡ q = cc in
            let at : (r == q) ≡ true = eq-eqb r q same in
            sym (ap (λ (b : Bool). b && (w + 1 == 5)) at) ∙ not_yet

    own_still : (w + 1 == 5) ≡ false → w < 5 → w + 1 < 5
    own_still not_yet few = let more = eqb-false (w + 1) 5 not_yet in omega (arith, few, more)

ended_started : (q : Setup) (f : ℕ) (due : Bool) (x : State) → ((c : Core) → x ≡ StateOn c
    → IsInRange f q.own due c.tune c.own_slot × ((r d : ℕ) → c.tune ≡ Host r d → f < d)) → HasStarted (suc f) q.own (at_core (frame_ended q f) x)
ended_started q f due (StateOff boots) is = tt
ended_started q f due (StateOn c) is =
    let range = is c refl in
    let t = next_tune c.tune f (is_fresh c) q.own q.ranks in
    let d : Core = record c { tune = t; own_slot = None } in (
      subst (λ (u : Tune). Starts (suc f) q.own u) (sym (host_tune q.profile (begins_host c.tune t) d))
          (ends f q.own due q.ranks c.tune c.own_slot range.0 range.1),
      host_slot q.profile (begins_host c.tune t) d,
    )

module _ (s : ScenarioParts) (scenario : IsSoundScenario s) where
  in_range : (f v : ℕ) → HasStarted f (own_rank v s.hosts) (state_at s f v) → InRange s 0 f v (state_at s f v)
  in_range f v = by_state (state_at s f v) refl
    where
      by_tune : (due : Bool) (t : Tune) (fresh : Option ℕ) → (hosts_in (rank_of t) f t ≡ true → due ≡ true) → Starts f (own_rank v s.hosts) t → fresh ≡ None
          → IsInRange f (own_rank v s.hosts) due t fresh
      by_tune due (Host q d) fresh now is none = (
        is.0,
        (let soon = is.1 in omega (arith, soon)),
        λ same. now (rw (eq-eqb q q refl, eq-eqb d f same) refl),
      )
      by_tune due (Hold q d) fresh now is none = (is.0, (let soon = is.1 in omega (arith, soon)), is.2)
      by_tune due (Scan q w) fresh now is none = (is.0, λ host. (is.1 host, none))

      by_state : (x : State) → state_at s f v ≡ x → HasStarted f (own_rank v s.hosts) x → InRange s 0 f v x
      by_state (StateOff boots) at is = tt
      by_state (StateOn c) at is =
          by_tune (is_on_and (λ c. hosts_now f c) (state_at s f v)) c.tune c.own_slot (λ now. ap (is_on_and (λ c. hosts_now f c)) at ∙ now) is.0 is.1

  -- a host that was due has planned, and any other hosts later
  planned : (f v : ℕ) → is_on_and (λ c. hosts_now f c) (state_at s f v) ≡ true → (c : Core) → rounds s f (state_at s f) v ≡ StateOn c
      → (r d : ℕ) → c.tune ≡ Host r d → f < d
  planned f v due c on r d tune =
      let own = due_of (state_at s f v) due in
      let next : Planned (rounds s f (state_at s f) v) own.0 f = due_round s scenario v own.0 f own.1 in
      let same : Some (of_core c) ≡ Some (record { tune = Host own.0 next.due; own_slot = next.own_slot; plan = next.plan }) =
      ap setting (sym on) ∙ next.goes in
      let at : Host r d ≡ Host own.0 next.due = sym tune ∙ ap (λ (k : Option Setting). tune_or k c.tune) same in
      let is : d ≡ next.due = cc in
      let later = next.later in
      omega (arith, is, later)
    where
      tune_or : Option Setting → Tune → Tune
      tune_or None t = t
      tune_or (Some k) t = k.tune

      due_of : (x : State) → is_on_and (λ c. hosts_now f c) x ≡ true → (rank : ℕ) × (hosts_round rank f x ≡ true)
      due_of (StateOff boots) now = absurd (false≢true now)
      due_of (StateOn c) now = (rank_of c.tune, now)

  later : (f v : ℕ) (c : Core) → rounds s f (state_at s f) v ≡ StateOn c
      → IsInRange f (own_rank v s.hosts) (is_on_and (λ c. hosts_now f c) (state_at s f v)) c.tune c.own_slot
      → (r d : ℕ) → c.tune ≡ Host r d → f < d
  later f v c on range r d tune =
      let at : IsInRange f (own_rank v s.hosts) (is_on_and (λ c. hosts_now f c) (state_at s f v)) (Host r d) c.own_slot =
      subst (λ (t : Tune). IsInRange f (own_rank v s.hosts) (is_on_and (λ c. hosts_now f c) (state_at s f v)) t c.own_slot) tune range in
      elim (cases_eq d f) [
        | inl same ↦ planned f v (at.2 same) c on r d tune
        | inr other ↦ (let low = at.0 in omega (arith, low, other))
      ]

  told : (f v : ℕ) → HasStarted f (own_rank v s.hosts) (before_frame s f v) → HasStarted f (own_rank v s.hosts) (state_at s f v)
  told f v is = lines f (own_rank v s.hosts) (lines_of s f v) (before_frame s f v) is

  before : (f v : ℕ) → HasStarted f (own_rank v s.hosts) (before_frame s f v)
  unfolding before_frame
  before zero v = tt
  before (suc f) v =
      let all : (u : ℕ) → InRange s 0 f u (state_at s f u) = λ u. in_range f u (told f u (before f u)) in
      let after = rounds_in_range s f all v in
      ended_started (setup_of s v) f (is_on_and (λ c. hosts_now f c) (state_at s f v)) (rounds s f (state_at s f) v)
      (λ c on. (let range = subst (InRange s 0 f v) on after in (range, later f v c on range)))

  -- at the start of each frame
  pub started : (f v : ℕ) → HasStarted f (own_rank v s.hosts) (state_at s f v)
  started f v = told f v (before f v)
