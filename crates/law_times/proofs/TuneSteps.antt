-- What a node that hears nothing does frame after frame: it scans on, serves its own rank, or goes on to the next.
use Rattle.std.proofs.Common.{◌≡◌, ◌<◌, ◌≤◌, ◌+◌, ◌%◌, ◌&&◌, ◌==◌, ℕ, zero, suc, Bool, true, false, Option, Some, nat_lt, length, refl, ◌∙◌, ap, subst, arith}
use Rattle.law_times.proofs.Words.{cond-true, cond-false, eq-eqb, ne_eqb, lt-ltb, le-ltb, Plan, ScenarioParts, IsSoundScenario, Tune, Scan, Hold, Host}
use Rattle.law_times.proofs.Words.{begins_host, own_rank, hosts_in, is_rank, next_tune, rank_of, rank_is, state_at, StaysOn, IsTuned, HasTune}
use Rattle.law_times.proofs.QuietFrames.{Goes, after_quiet, plan_of, quiet_frame}
use Rattle.law_times.proofs.QuietRounds.{hosts_round, set_to_host, by_setting, NobodyHosts}
use Rattle.law_times.proofs.Settings.{Setting, setting, idle, core_at}
use Rattle.law_times.proofs.TuneRanges.{HasStarted, started}

-- the rules
serves_not : (own : Option ℕ) (r w : ℕ) → (own ≡ Some r → w + 1 < 5) → (is_rank own r && (w + 1 == 5)) ≡ false
serves_not own r w early = by_test (is_rank own r) refl
  where
    by_test : (b : Bool) → is_rank own r ≡ b → (is_rank own r && (w + 1 == 5)) ≡ false
    by_test false is = ap (λ (b : Bool). b && (w + 1 == 5)) is
    by_test true is =
        let few = early (rank_is own r is) in
        ap (λ (b : Bool). b && (w + 1 == 5)) is ∙ ne_eqb (w + 1) 5 (λ same. absurd (omega (arith, few, same)))

pub scans_on : (own : Option ℕ) (r w f ranks : ℕ) → (own ≡ Some r → w + 1 < 5) → w + 1 < 12 → next_tune (Scan r w) f false own ranks ≡ Scan r (w + 1)
scans_on own r w f ranks early few =
    cond-false (is_rank own r && (w + 1 == 5)) (Host r (f + 1)) _ (serves_not own r w early)
    ∙ cond-false (w + 1 == 12) (Scan ((r + 1) % ranks) 0) (Scan r (w + 1)) (ne_eqb (w + 1) 12 (λ same. absurd (omega (arith, few, same))))

pub scan_serves : (own : Option ℕ) (r w f ranks : ℕ) → own ≡ Some r → w + 1 ≡ 5 → next_tune (Scan r w) f false own ranks ≡ Host r (f + 1)
scan_serves own r w f ranks is end =
    cond-true (is_rank own r && (w + 1 == 5)) (Host r (f + 1)) _
    (ap (λ (o : Option ℕ). is_rank o r && (w + 1 == 5)) is ∙ both (r == r) (w + 1 == 5) (eq-eqb r r refl) (eq-eqb (w + 1) 5 end))
  where
    both : (a b : Bool) → a ≡ true → b ≡ true → (a && b) ≡ true
    both a b first second = rw (first, second) refl

pub scan_turns : (own : Option ℕ) (r w f ranks : ℕ) → (own ≡ Some r → ⊥) → w + 1 ≡ 12 → next_tune (Scan r w) f false own ranks ≡ Scan ((r + 1) % ranks) 0
scan_turns own r w f ranks other end =
    cond-false (is_rank own r && (w + 1 == 5)) (Host r (f + 1)) _ (serves_not own r w (λ is. absurd (other is)))
    ∙ cond-true (w + 1 == 12) (Scan ((r + 1) % ranks) 0) (Scan r (w + 1)) (eq-eqb (w + 1) 12 end)

pub holds_on : (own : Option ℕ) (r d f ranks : ℕ) → f < d → next_tune (Hold r d) f false own ranks ≡ Hold r d
holds_on own r d f ranks later = cond-true (nat_lt f d) (Hold r d) (Scan r 0) (lt-ltb f d later)

pub hold_falls : (own : Option ℕ) (r d f ranks : ℕ) → d ≤ f → next_tune (Hold r d) f false own ranks ≡ Scan r 0
hold_falls own r d f ranks past = cond-false (nat_lt f d) (Hold r d) (Scan r 0) (le-ltb f d past)

-- what a node goes by, said in either way
pub goes_tuned : (s : ScenarioParts) (f v : ℕ) (t : Tune) (p : Plan) → Goes s f v t p → IsTuned s f v t p
goes_tuned s f v t p goes =
    let c = core_at (state_at s f v) (idle t p) goes in
    record { core = c.0; on = c.1; tune = ap (λ (k : Setting). k.tune) c.2; plan = ap (λ (k : Setting). k.plan) c.2 }

pub tuned_goes : (s : ScenarioParts) → IsSoundScenario s → (f v : ℕ) (t : Tune) (p : Plan) → IsTuned s f v t p → Goes s f v t p
tuned_goes s scenario f v t p tuned =
    let fresh = subst (HasStarted f (own_rank v s.hosts)) tuned.on (started s scenario f v) in
    let c = tuned.core in
    ap setting tuned.on ∙ ap (λ (u : Tune). Some (record { tune = u; own_slot = c.own_slot; plan = c.plan })) tuned.tune
    ∙ ap (λ (o : Option ℕ). Some (record { tune = t; own_slot = o; plan = c.plan })) fresh.1 ∙ ap (λ (q : Plan). Some (idle t q)) tuned.plan

pub tune_goes : (s : ScenarioParts) → IsSoundScenario s → (f v : ℕ) (t : Tune) → HasTune s f v t → (p : Plan) × Goes s f v t p
tune_goes s scenario f v t has = (has.plan, tuned_goes s scenario f v t has.plan has.tuned)

-- who goes by this tune does not host the rank in this frame
pub goes_idle : (s : ScenarioParts) (rank f v : ℕ) (t : Tune) (p : Plan) → Goes s f v t p → hosts_in rank f t ≡ false
    → hosts_round rank f (state_at s f v) ≡ false
goes_idle s rank f v t p goes idles = by_setting rank f (state_at s f v) ∙ ap (set_to_host rank f) goes ∙ idles

module _ (s : ScenarioParts) (b e v : ℕ) (stays : StaysOn s b e v) where
  -- a quiet frame by its rule
  pub quiet_step : (f : ℕ) (t u : Tune) (p : Plan) → b ≤ f → suc f ≤ e → Goes s f v t p → NobodyHosts s (rank_of t) f → after_quiet s f v t ≡ u
      → (q : Plan) × Goes s (suc f) v u q
  quiet_step f t u p after within goes nobody is =
      let next = quiet_frame s b e f v t p stays (omega (arith, after)) within goes nobody in
      let q = plan_of s.profile next.0 (begins_host t (after_quiet s f v t)) p in
      (q, next.1 ∙ ap (λ (w : Tune). Some (idle w q)) is)

  -- who scans a rank that nobody hosts scans on
  pub scanning : (r f w : ℕ) (p : Plan) → b ≤ f → Goes s f v (Scan r w) p → (n : ℕ) → n + f ≤ e → n + w < 12
      → (own_rank v s.hosts ≡ Some r → n + w < 5)
      → ((m : ℕ) (q : Plan) → m < n → Goes s (m + f) v (Scan r (m + w)) q → NobodyHosts s r (m + f))
      → (q : Plan) × Goes s (n + f) v (Scan r (n + w)) q
  scanning r f w p after goes zero within few early nobody =
      (p, subst (λ (g : ℕ). Goes s g v (Scan r (0 + w)) p) (omega arith) (subst (λ (k : ℕ). Goes s f v (Scan r k) p) (omega arith) goes))
  scanning r f w p after goes (suc n) within few early nobody =
      let before = scanning r f w p after goes n (omega (arith, within)) (omega (arith, few)) (λ own. (let soon = early own in omega (arith, soon)))
      (λ m q below at. nobody m q (omega (arith, below)) at) in
      let rule = scans_on (own_rank v s.hosts) r (n + w) (n + f) (length s.hosts) (λ own. (let soon = early own in omega (arith, soon))) (omega (arith, few)) in
      let next = quiet_step (n + f) (Scan r (n + w)) (Scan r (n + w + 1)) before.0 (omega (arith, after)) (omega (arith, within)) before.1
      (nobody n before.0 (omega arith) before.1) rule in (
        next.0,
        subst (λ (g : ℕ). Goes s g v (Scan r (suc n + w)) next.0) (omega arith)
            (subst (λ (k : ℕ). Goes s (suc (n + f)) v (Scan r k) next.0) (omega arith) next.1),
      )
