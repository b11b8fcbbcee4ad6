-- Who takes part in the round of a rank and a frame, by its tune.
use Rattle.std.proofs.Common.{◌≡◌, ℕ, Bool, true, false, ◌==◌, ◌&&◌, ◌||◌, refl, sym, arith, eq-eqb, true≢false}
use Rattle.std.proofs.lemmas.Bool.{ne_eqb, and_right}
use Rattle.bus_rules.specs.declared.tune.Tune.{Tune}
use Rattle.bus_rules.specs.declared.tune.Tune.TheVariants.{Scan, Hold, Host}
use Rattle.bus_rules.specs.Tuning.{rank_of, hosts, hosts_in, holds_in, scans}
use Rattle.bus_rules.specs.Cores.{is_fresh}
use Rattle.node_core.specs.Nodes.{Node}
use Rattle.scenario_text.specs.ScenarioParts.{ScenarioParts}
use Rattle.law_safety.specs.TunedNodes.{IsRoundOf, Scans}

abbrev pub takes_by : ℕ → ℕ → Tune → Bool → Bool
takes_by rank f t fresh = hosts_in rank f t || holds_in rank f t || (scans rank t && fresh)

abbrev pub leads_by : ℕ → ℕ → Tune → Bool
leads_by rank f t = hosts_in rank f t || holds_in rank f t

-- who leads a round is a member
pub leads_member : (rank f : ℕ) (t : Tune) (fresh : Bool) → leads_by rank f t ≡ true → takes_by rank f t fresh ≡ true
leads_member rank f (Scan r w) fresh is = absurd (true≢false (sym is))
leads_member rank f (Hold r d) fresh is = rw is refl
leads_member rank f (Host r d) fresh is = with_more ((r == rank) && (d == f)) is
  where
    with_more : (b : Bool) → (b || false) ≡ true → (b || false || (false && fresh)) ≡ true
    with_more true is = refl
    with_more false is = absurd (true≢false (sym is))

-- a host of the frame leads
pub hosts_lead : (f : ℕ) (t : Tune) → hosts t ≡ true → leads_by (rank_of t) f t ≡ true → hosts_in (rank_of t) f t ≡ true
hosts_lead f (Scan r w) host is = absurd (true≢false (sym host))
hosts_lead f (Hold r d) host is = absurd (true≢false (sym host))
hosts_lead f (Host r d) host is = of_or ((r == r) && (d == f)) is
  where
    of_or : (b : Bool) → (b || false) ≡ true → b ≡ true
    of_or true is = refl
    of_or false is = is

module _ (s : ScenarioParts) (clocks : ℕ → ℕ → ℕ) (v : ℕ) (n : Node) where
  -- a node whose round it is takes part in it
  pub round_taken : (j : ℕ) (t : Tune) → IsRoundOf s clocks v n j false t → takes_by (rank_of t) n.frame t (is_fresh n.core) ≡ true
  round_taken j (Scan r w) is = rw (eq-eqb r r refl, is.0) refl
  round_taken j (Hold r d) is = rw (eq-eqb r r refl, eq-eqb d n.frame is) refl
  round_taken j (Host r d) is = rw (eq-eqb r r refl, eq-eqb d n.frame is.2) refl

  -- and leads it before slot 0
  pub round_led : (t : Tune) → IsRoundOf s clocks v n 0 false t → leads_by (rank_of t) n.frame t ≡ true
  round_led (Scan r w) is = absurd (let late = is.1 in omega (arith, late))
  round_led (Hold r d) is = rw (eq-eqb r r refl, eq-eqb d n.frame is) refl
  round_led (Host r d) is = rw (eq-eqb r r refl, eq-eqb d n.frame is.2) refl

  -- a scanning node that is not fresh takes no part, and does not host
  pub scanner_takes : (rank f : ℕ) (t : Tune) → Scans s clocks v n t → takes_by rank f t (is_fresh n.core) ≡ false
  scanner_takes rank f (Scan r w) is = and_right (r == rank) (is_fresh n.core) is
  scanner_takes rank f (Hold r d) is = absurd is
  scanner_takes rank f (Host r d) is = absurd is

  pub scanner_hosts : (f : ℕ) (t : Tune) → Scans s clocks v n t → hosts_in (rank_of t) f t ≡ false
  scanner_hosts f (Scan r w) is = refl
  scanner_hosts f (Hold r d) is = absurd is
  scanner_hosts f (Host r d) is = absurd is

-- nobody takes part before its frame is due
pub holder_takes : (rank f r d : ℕ) (fresh : Bool) → (d ≡ f → ⊥) → takes_by rank f (Hold r d) fresh ≡ false
holder_takes rank f r d fresh other = rw (ne_eqb d f other) (by_test (r == rank))
  where
    by_test : (b : Bool) → (false || (b && false) || (false && fresh)) ≡ false
    by_test true = refl
    by_test false = refl

pub host_takes : (rank f r d : ℕ) (fresh : Bool) → (d ≡ f → ⊥) → takes_by rank f (Host r d) fresh ≡ false
host_takes rank f r d fresh other = rw (ne_eqb d f other) (by_test (r == rank))
  where
    by_test : (b : Bool) → ((b && false) || false || (false && fresh)) ≡ false
    by_test true = refl
    by_test false = refl
