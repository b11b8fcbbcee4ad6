-- What is computed of the nodes of a worked network: their tunes and plans, groups and members.
use Rattle.std.proofs.Common.{◌≡◌, ◌≤◌, ◌<◌, ◌+◌, ◌==◌, ◌&&◌, ◌||◌, ℕ, List, ◌∷◌, Bool, true, inl, inr, Some, not, nat_le, refl, sym, ap}
use Rattle.std.proofs.lemmas.Bool.{not-true}
use Rattle.law_times.proofs.Words.{leb-true, and_parts, eq-eqb, eqb-true, or_cases, list_all, Plan, ScenarioParts, Tune, Hold, Host, State, StateOff, StateOn}
use Rattle.law_times.proofs.Words.{no_plan, state_at, has, ids, STEPS, walks, is_linked, AreMembers, HasTune, IsTuned, IsGroup, IsReached, has_line, turns_off}
use Rattle.law_times.proofs.ComputedTests.{Each, all_of, others_of}
use Rattle.law_times.proofs.QuietFrames.{Goes}
use Rattle.law_times.proofs.Settings.{tune_of}
use Rattle.law_times.proofs.TuneSteps.{goes_tuned}

abbrev pub plan_of : State → Plan
plan_of (StateOff boots) = no_plan
plan_of (StateOn c) = c.plan

pub is_tuned : (s : ScenarioParts) (f v : ℕ) (t : Tune) → tune_of (state_at s f v) ≡ Some t → IsTuned s f v t (plan_of (state_at s f v))
is_tuned s f v t is = by_state (state_at s f v) refl is
  where
    by_state : (x : State) → state_at s f v ≡ x → tune_of x ≡ Some t → IsTuned s f v t (plan_of (state_at s f v))
    by_state (StateOff boots) at is = absurd (cc)
    by_state (StateOn c) at is = record { core = c; on = at; tune = cc; plan = sym (ap plan_of at) }

pub has_tune : (s : ScenarioParts) (f v : ℕ) (t : Tune) → tune_of (state_at s f v) ≡ Some t → HasTune s f v t
has_tune s f v t is = record { plan = plan_of (state_at s f v); tuned = is_tuned s f v t is }

-- nodes that stay on, and so many links from their host
pub group_of : (s : ScenarioParts) (host b e : ℕ) (vs : List ℕ) (links : ℕ → ℕ) → list_all (has (ids s.nodes)) (host ∷ vs) ≡ true
    → list_all (λ v. not (has_line turns_off s b e v)) (host ∷ vs) ≡ true
    → list_all (λ v. nat_le (links v) STEPS && walks (is_linked s) (host ∷ vs) host (links v) v) vs ≡ true → IsGroup s host b e (host ∷ vs)
group_of s host b e vs links known stay near = record {
  led = ap (λ (t : Bool). t || has vs host) (eq-eqb host host refl);
  known = all_of (has (ids s.nodes)) (host ∷ vs) known;
  stay = λ v there. not-true (has_line turns_off s b e v) (all_of (λ v. not (has_line turns_off s b e v)) (host ∷ vs) stay v there);
  reached = λ v there other. reached_by v (elim (or_cases (host == v) (has vs v) there) [
    | inl same ↦ absurd (other (sym (eqb-true host v same)))
    | inr later ↦ all_of (λ v. nat_le (links v) STEPS && walks (is_linked s) (host ∷ vs) host (links v) v) vs near v later
  ]);
}
  where
    reached_by : (v : ℕ) → (nat_le (links v) STEPS && walks (is_linked s) (host ∷ vs) host (links v) v) ≡ true → IsReached s (host ∷ vs) host v
    reached_by v is =
        let both = and_parts (nat_le (links v) STEPS) (walks (is_linked s) (host ∷ vs) host (links v) v) is in
        record { links = links v; few = leb-true (links v) STEPS both.0; walk = both.1 }

abbrev pub members_of : (s : ScenarioParts) (rank f host due : ℕ) (p : Plan) (vs : List ℕ) → (f ≤ due) × (due < f + 4) → Goes s f host (Host rank due) p
    → Each (λ v. Goes s f v (Hold rank due) p) vs → AreMembers s rank f host (host ∷ vs)
members_of s rank f host due p vs range hosts hold = record {
  due = due;
  range = range;
  plan = p;
  hosts = goes_tuned s f host (Host rank due) p hosts;
  hold = λ v there other. goes_tuned s f v (Hold rank due) p (others_of (λ v. Goes s f v (Hold rank due) p) host vs hold v there other);
}
