-- Where the links among those that take part pass in all steps, a flood reaches each node in the step of its distance.
use Rattle.std.proofs.Common.{◌≡◌, ℕ, zero, suc, ◌+◌, ◌<◌, ◌≤◌, ◌↔◌, List, [], ◌∷◌, Bool, true, false, ◌&&◌, ◌==◌, nat_lt}
use Rattle.std.proofs.Common.{if◌then◌else◌, inl, inr, eq-eqb, Option, Some, None, refl, sym, ◌∙◌, ap, subst, arith}
use Rattle.std.proofs.lemmas.Bool.{and_parts, and_from, eqb-true, false≢true, or_from, or_left, ne_eqb, cases_lt, lt-ltb, cond-true}
use Rattle.std.specs.Prelude.{◌⊎◌}
use Rattle.bus_terms.specs.Distances.{walks, IsDistance}
use Rattle.bus_terms.specs.Flooding.{Setting, moment, has, hears, Hears, Accepts, STEPS}
use Rattle.bus_terms.proofs.OneInitiator.{IsOrigin, has_one, last, sender, hears_reached, takes_part, witness, any_of}
use Rattle.bus_terms.proofs.FirstHearings.{heard_in_time}

module _ (s : Setting) (start : ℕ) (link : ℕ → ℕ → Bool) (alone : s.initiators ≡ start ∷ []) (here : has s.everyone start ≡ true) (some : 1 ≤ s.limit)
    (steady : (k u v : ℕ) → k < 12 → has s.everyone u ≡ true → has s.everyone v ≡ true → s.passes k u v ≡ link u v) where
  sends_heard : (k v : ℕ) → (moment s (suc k)).sends v ≡ Some start → Hears s v k start
  unfolding moment
  sends_heard k v is = by_end (nat_lt (k + 1) STEPS) is
    where
      by_end : (b : Bool) → (if b then hears s (moment s k) k v else None) ≡ Some start → Hears s v k start
      by_end false is = absurd (cc)
      by_end true is = is

  first_sends : (v : ℕ) → (moment s 0).sends v ≡ Some start → v ≡ start
  unfolding moment
  first_sends v is = by_test (has s.initiators v) is
    where
      by_test : (b : Bool) → (if b then Some v else None) ≡ Some start → v ≡ start
      by_test false is = absurd (cc)
      by_test true is = cc

  -- who receives in step k is reached by a walk of k + 1 links
  onward : (k v : ℕ) → Hears s v k start → ((u : ℕ) → (moment s k).sends u ≡ Some start → walks link s.everyone start k u ≡ true)
      → walks link s.everyone start (suc k) v ≡ true
  unfolding walks
  onward k v is before =
      let from = last s start alone k v is in
      let u = from.0 in
      let there = takes_part s start alone here k u from.1 in
      let over = sym (steady k u v (heard_in_time s k v start is) there from.5) ∙ from.2 in
      any_of (λ x. walks link s.everyone start k x && link x v) s.everyone u there (and_from _ _ (before u from.1) over)

  at_start : (u : ℕ) → (moment s 0).sends u ≡ Some start → walks link s.everyone start 0 u ≡ true
  unfolding walks
  at_start u sends = eq-eqb u start (first_sends u sends)

  heard_walks : (k v : ℕ) → Hears s v k start → walks link s.everyone start (suc k) v ≡ true
  heard_walks zero v is = onward zero v is at_start
  heard_walks (suc k) v is = onward (suc k) v is (λ u sends. heard_walks k u (sends_heard k u sends))

  sent_walks : (k v : ℕ) → (moment s k).sends v ≡ Some start → walks link s.everyone start k v ≡ true
  sent_walks zero v sends = at_start v sends
  sent_walks (suc k) v sends = heard_walks k v (sends_heard k v sends)

  -- until the step of its distance a node neither sends nor has sent
  quiet : (m v : ℕ) → IsDistance link s.everyone start m v → (i : ℕ) → i < m → (moment s i).sends v ≡ None
  quiet m v far i less = by_sending ((moment s i).sends v) refl ((has_one s start i alone).sends v)
    where
      by_sending : (o : Option ℕ) → (moment s i).sends v ≡ o → IsOrigin start o → (moment s i).sends v ≡ None
      by_sending None is one = is
      by_sending (Some o) is one =
          let walked = sent_walks i v (is ∙ ap (λ (x : ℕ). Some x) one) in
          absurd (false≢true (sym (far.nearest i less) ∙ walked))

  never_sent : (m v : ℕ) → IsDistance link s.everyone start m v → (i : ℕ) → i < m → (moment s i).times v ≡ 0
  unfolding moment
  never_sent m v far zero less = refl
  never_sent m v far (suc i) less =
      let before = never_sent m v far i (omega arith) in
      let none = quiet m v far i (omega arith) in
      rw (before, none) refl

  start_sends : (moment s 0).sends start ≡ Some start
  unfolding moment
  start_sends =
      let there : has s.initiators start ≡ true = ap (λ (l : List ℕ). has l start) alone ∙ or_left (start == start) _ (eq-eqb start start refl) in
      cond-true (has s.initiators start) (Some start) None there

  hears_sends : (k v : ℕ) → k + 1 < 12 → Hears s v k start → (moment s (suc k)).sends v ≡ Some start
  unfolding moment
  hears_sends k v early is = cond-true (nat_lt (k + 1) STEPS) (hears s (moment s k) k v) None (lt-ltb (k + 1) 12 early) ∙ is

  -- the node before it on a shortest walk
  before_last : (k v : ℕ) → IsDistance link s.everyone start (suc k) v
      → (u : ℕ) × (has s.everyone u ≡ true) × IsDistance link s.everyone start k u × (link u v ≡ true)
  unfolding walks
  before_last k v far =
      let w = witness (λ x. walks link s.everyone start k x && link x v) s.everyone far.reached in
      let both = and_parts (walks link s.everyone start k w.0) (link w.0 v) w.2 in
      (w.0, w.1, record { reached = both.0; nearest = λ i less. none_nearer w.0 w.1 both.1 i less (walks link s.everyone start i w.0) refl }, both.1)
    where
      none_nearer : (u : ℕ) → has s.everyone u ≡ true → link u v ≡ true → (i : ℕ) → i < k → (b : Bool) → walks link s.everyone start i u ≡ b
          → walks link s.everyone start i u ≡ false
      none_nearer u there over i less false is = is
      none_nearer u there over i less true is =
          let walked = any_of (λ x. walks link s.everyone start i x && link x v) s.everyone u there (and_from _ _ is over) in
          absurd (false≢true (sym (far.nearest (suc i) (omega arith)) ∙ walked))

  hears_from : (k v : ℕ) → k < 12 → has s.everyone v ≡ true → (far : IsDistance link s.everyone start (suc k) v) → (u : ℕ) → has s.everyone u ≡ true
      → link u v ≡ true
      → (moment s k).sends u ≡ Some start → Hears s v k start
  hears_from k v early there far u known over sends =
      let never = never_sent (suc k) v far k (omega arith) in
      hears_reached s start alone here k v there
      (u, sender s start alone k u sends, sends, steady k u v early known there ∙ over, quiet (suc k) v far k (omega arith), omega (arith, never, some))

  at_zero : (u : ℕ) → walks link s.everyone start 0 u ≡ true → u ≡ start
  unfolding walks
  at_zero u is = eqb-true u start is

  pub hears_at_distance : (k v : ℕ) → k < 12 → has s.everyone v ≡ true → IsDistance link s.everyone start (suc k) v → Hears s v k start
  hears_at_distance zero v early there far =
      let before = before_last zero v far in
      let at : before.0 ≡ start = at_zero before.0 before.2.reached in
      hears_from zero v early there far before.0 before.1 before.3 (subst (λ (x : ℕ). (moment s 0).sends x ≡ Some start) (sym at) start_sends)
  hears_at_distance (suc k) v early there far =
      let before = before_last (suc k) v far in
      let heard = hears_at_distance k before.0 (omega arith) before.1 before.2 in
      hears_from (suc k) v early there far before.0 before.1 before.3 (hears_sends k before.0 (omega arith) heard)

  -- of walks of fewer links than this, the shortest
  nearest_of : (v n : ℕ) → ((i : ℕ) → i < n → walks link s.everyone start i v ≡ false) ⊎ ((d : ℕ) × (d < n) × IsDistance link s.everyone start d v)
  nearest_of v zero = inl (λ i less. absurd (omega arith))
  nearest_of v (suc n) =
      elim (nearest_of v n) [
        | inl none ↦ by_test (walks link s.everyone start n v) refl none
        | inr found ↦ inr (found.0, omega (arith, found.1), found.2)
      ]
    where
      by_test : (b : Bool) → walks link s.everyone start n v ≡ b → ((i : ℕ) → i < n → walks link s.everyone start i v ≡ false)
          → ((i : ℕ) → i < suc n → walks link s.everyone start i v ≡ false) ⊎ ((d : ℕ) × (d < suc n) × IsDistance link s.everyone start d v)
      by_test true is none = inr (n, omega arith, record { reached = is; nearest = none })
      by_test false is none = inl (λ i less. elim (cases_lt i n)
          [ inl before ↦ none i before | inr after ↦ (let same : n ≡ i = omega arith in subst (λ (j : ℕ). walks link s.everyone start j v ≡ false) same is) ])

  pub accepts_at_distance : (k v : ℕ) → has s.everyone v ≡ true → (v ≡ start → ⊥)
      → Accepts s v start k ↔ (IsDistance link s.everyone start (suc k) v × (suc k ≤ 12))
  accepts_at_distance k v there other = (to, from)
    where
      listens : has s.initiators v ≡ false
      listens = ap (λ (l : List ℕ). has l v) alone ∙ or_from _ _ (ne_eqb start v (λ is. other (sym is))) refl

      to : Accepts s v start k → IsDistance link s.everyone start (suc k) v × (suc k ≤ 12)
      to a =
          let early = heard_in_time s k v start a.hears in
          (record { reached = heard_walks k v a.hears; nearest = none_nearer }, omega arith)
        where
          refused : (d : ℕ) → d < suc k → IsDistance link s.everyone start d v → ⊥
          refused zero less far = other (at_zero v far.reached)
          refused (suc d) less far = a.first d (omega arith) (hears_at_distance d v (let early = heard_in_time s k v start a.hears in omega arith) there far)

          none_nearer : (i : ℕ) → i < suc k → walks link s.everyone start i v ≡ false
          none_nearer = elim (nearest_of v (suc k)) [ inl none ↦ none | inr found ↦ absurd (refused found.0 found.1 found.2) ]

      from : IsDistance link s.everyone start (suc k) v × (suc k ≤ 12) → Accepts s v start k
      from far = record {
        here = there;
        listens = listens;
        hears = hears_at_distance k v (omega (arith, far.1)) there far.0;
        first = λ i less heard. false≢true (sym (far.0.nearest (suc i) (omega arith)) ∙ heard_walks i v heard);
      }
