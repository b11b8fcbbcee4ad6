-- How many frames it takes until a host that hears nothing hosts, by its tune: a round that it holds falls out, and then it searches
-- rank after rank.
use Rattle.std.proofs.Common.{◌≡◌, ◌<◌, ◌≤◌, ◌+◌, ◌-◌, ◌*◌, ◌%◌, ◌==◌, ℕ, zero, suc, List, [], ◌∷◌, Bool, true, Option, Some, inl, inr, if◌then◌else◌, length}
use Rattle.std.proofs.Common.{nat_le, get_or, refl, sym, ◌∙◌, ap, subst, arith}
use Rattle.law_times.proofs.Words.{cases_lt, cond-true, cond-false, false≢true, le-leb, lt-leb, or_left, or_right, position-Some, mod-eq_of_lt, mod_self}
use Rattle.law_times.proofs.Words.{list_any, Plan, ScenarioParts, IsSoundScenario, Tune, Scan, Hold, Host, own_rank, State, StateOff, StateOn, state_at, has}
use Rattle.law_times.proofs.Words.{is_on_in, power}
use Rattle.law_times.proofs.BootedNodes.{power_is}
use Rattle.law_times.proofs.QuietFrames.{Goes}
use Rattle.law_times.proofs.QuietRounds.{hosts_round}
use Rattle.law_times.proofs.Settings.{setting, idle, core_tune}
use Rattle.law_times.proofs.TuneRanges.{HasStarted, Starts, started}

-- how many ranks lie before this one, from rank q on
abbrev pub ranks_left : ℕ → ℕ → ℕ → ℕ
ranks_left ranks rank q = if nat_le q rank then rank - q else ranks + rank - q

pub left_low : (ranks rank q : ℕ) → q ≤ rank → ranks_left ranks rank q ≡ rank - q
left_low ranks rank q low = cond-true (nat_le q rank) (rank - q) (ranks + rank - q) (le-leb q rank low)

left_high : (ranks rank q : ℕ) → rank < q → ranks_left ranks rank q ≡ ranks + rank - q
left_high ranks rank q high = cond-false (nat_le q rank) (rank - q) (ranks + rank - q) (lt-leb q rank high)

pub one_less : (ranks rank q : ℕ) → rank < ranks → q < ranks → (q ≡ rank → ⊥) → ranks_left ranks rank q ≡ suc (ranks_left ranks rank ((q + 1) % ranks))
one_less ranks rank q low below other = elim (cases_lt q rank) [ inl before ↦ rising before | inr after ↦ beyond (omega (arith, after, other)) ]
  where
    rising : q < rank → ranks_left ranks rank q ≡ suc (ranks_left ranks rank ((q + 1) % ranks))
    rising before =
        let small : (q + 1) % ranks ≡ q + 1 = mod-eq_of_lt (omega (arith, before, low)) in
        let here = left_low ranks rank q (omega (arith, before)) in
        let there : ranks_left ranks rank ((q + 1) % ranks) ≡ rank - (q + 1) =
        ap (ranks_left ranks rank) small ∙ left_low ranks rank (q + 1) (omega (arith, before)) in
        omega (arith, here, there, before)

    beyond : rank < q → ranks_left ranks rank q ≡ suc (ranks_left ranks rank ((q + 1) % ranks))
    beyond after = elim (cases_lt (q + 1) ranks) [ inl more ↦ on more | inr end ↦ round (omega (arith, end, below)) ]
      where
        here : ranks_left ranks rank q ≡ ranks + rank - q
        here = left_high ranks rank q after

        on : q + 1 < ranks → ranks_left ranks rank q ≡ suc (ranks_left ranks rank ((q + 1) % ranks))
        on more =
            let small : (q + 1) % ranks ≡ q + 1 = mod-eq_of_lt more in
            let there : ranks_left ranks rank ((q + 1) % ranks) ≡ ranks + rank - (q + 1) =
            ap (ranks_left ranks rank) small ∙ left_high ranks rank (q + 1) (omega (arith, after)) in
            omega (arith, here, there, more)

        round : q + 1 ≡ ranks → ranks_left ranks rank q ≡ suc (ranks_left ranks rank ((q + 1) % ranks))
        round end =
            let none : (q + 1) % ranks ≡ 0 = ap (λ (n : ℕ). n % ranks) end ∙ mod_self ranks in
            let there : ranks_left ranks rank ((q + 1) % ranks) ≡ rank - 0 = ap (ranks_left ranks rank) none ∙ left_low ranks rank 0 (omega arith) in
            omega (arith, here, there, end)

pub few_left : (ranks rank q : ℕ) → rank < ranks → q < ranks → ranks_left ranks rank q ≤ ranks - 1
few_left ranks rank q low below = elim (cases_lt rank q) [
  | inl high ↦ (let is = left_high ranks rank q high in omega (arith, is, high, below))
  | inr near ↦ (let is = left_low ranks rank q near in omega (arith, is, low))
]

-- the frames until a node hosts this rank, which goes by a tune at the start of frame f
abbrev pub left : ℕ → ℕ → ℕ → Tune → ℕ
left ranks rank f (Host q d) = 0
left ranks rank f (Hold q d) = suc d - f + 12 * ranks_left ranks rank q + 5
left ranks rank f (Scan q w) = 12 * ranks_left ranks rank q + 5 - w

any_at : (p : ℕ → Bool) (xs : List ℕ) (i : ℕ) → i < length xs → p (get_or xs i 0) ≡ true → list_any p xs ≡ true
any_at p [] i below is = absurd (omega (arith, below))
any_at p (x ∷ xs) zero below is = or_left (p x) (list_any p xs) is
any_at p (x ∷ xs) (suc i) below is = or_right (p x) (list_any p xs) (any_at p xs i (omega (arith, below)) is)

pub is_a_host : (s : ScenarioParts) (v rank : ℕ) → own_rank v s.hosts ≡ Some rank → has s.hosts v ≡ true
is_a_host s v rank own = (let at = position-Some (λ h. h == v) s.hosts rank 0 own in any_at (λ h. h == v) s.hosts rank at.0 at.1)

-- who hosts a round is on
pub hosts_on : (s : ScenarioParts) (rank f v : ℕ) → hosts_round rank f (state_at s f v) ≡ true → is_on_in s f v ≡ true
hosts_on s rank f v due = sym (ap (λ (t : Bool × ℕ). t.0) (power_is s f v)) ∙ by_state (state_at s f v) due
  where
    by_state : (x : State) → hosts_round rank f x ≡ true → (power x).0 ≡ true
    by_state (StateOff boots) due = due
    by_state (StateOn c) due = refl

-- a node that is on goes by some tune
pub goes_on : (s : ScenarioParts) → IsSoundScenario s → (f v : ℕ) → is_on_in s f v ≡ true → (t : Tune) × (p : Plan) × Goes s f v t p
goes_on s scenario f v on = by_state (state_at s f v) (started s scenario f v) (ap (λ (t : Bool × ℕ). t.0) (power_is s f v) ∙ on)
  where
    by_state : (x : State) → HasStarted f (own_rank v s.hosts) x → (power x).0 ≡ true → (t : Tune) × (p : Plan) × (setting x ≡ Some (idle t p))
    by_state (StateOff boots) is on = absurd (false≢true on)
    by_state (StateOn c) is on =
        (c.tune, c.plan, ap (λ (o : Option ℕ). Some (record { tune = c.tune; own_slot = o; plan = c.plan })) is.1)

-- the range of its tune
pub goes_range : (s : ScenarioParts) → IsSoundScenario s → (f v : ℕ) (t : Tune) (p : Plan) → Goes s f v t p → Starts f (own_rank v s.hosts) t
goes_range s scenario f v t p goes = by_state (state_at s f v) (started s scenario f v) goes
  where
    by_state : (x : State) → HasStarted f (own_rank v s.hosts) x → setting x ≡ Some (idle t p) → Starts f (own_rank v s.hosts) t
    by_state (StateOff boots) is goes = absurd (cc)
    by_state (StateOn c) is goes = subst (Starts f (own_rank v s.hosts)) (core_tune c t p goes) is.0
