-- The plan of each round has the contention slots of the profile.
use Rattle.std.proofs.Common.{◌≡◌, ℕ, Bool, true, false, Option, Some, None, option_and_then, refl, ◌∙◌, ap}
use Rattle.std.specs.Option.{option_or}
use Rattle.std.proofs.lemmas.Bool.{false≢true}
use Rattle.lwb_base.specs.Messages.{Plan}
use Rattle.scenario_text.specs.ScenarioParts.{ScenarioParts}
use Rattle.bus_rules.specs.declared.tune.Tune.{Tune}
use Rattle.bus_rules.specs.declared.tune.Tune.TheVariants.{Scan, Hold, Host}
use Rattle.bus_rules.specs.Cores.{Core, Setup}
use Rattle.bus_rules.specs.States.{State, StateOff, StateOn}
use Rattle.bus_rules.specs.Tuning.{holds_in, hosts_in, is_scan}
use Rattle.bus_terms.specs.Bus.{state_at}
use Rattle.bus_terms.specs.FloodOfText.{ids}
use Rattle.bus_terms.specs.Rounds.{first_node, plan_in, round_plan}
use Rattle.scenario_text.specs.Setups.{setup_of}
use Rattle.bus_terms.specs.ScriptedStates.{is_on_and}
use Rattle.bus_terms.proofs.HostsOfRanks.{IsRightfulState, due_plans, rightful}
use Rattle.bus_terms.proofs.SameRounds.{found_passes}

held_plans : (rank f : ℕ) (t : Tune) → holds_in rank f t ≡ true → is_scan t ≡ false
held_plans rank f (Host r due) now = refl
held_plans rank f (Hold r due) now = refl
held_plans rank f (Scan r w) now = absurd (false≢true now)

-- who leads a round does not scan
module _ (q : Setup) (p : Plan) (test : Core → Bool) (plans : (c : Core) → test c ≡ true → is_scan c.tune ≡ false) where
  of_leader : (x : State) → IsRightfulState q x → is_on_and test x ≡ true → plan_in x ≡ Some p → p.contend ≡ q.profile.contend
  of_leader (StateOff boots) is leads at = absurd (false≢true leads)
  of_leader (StateOn c) is leads at = ap (λ (y : Plan). y.contend) (one c.plan at) ∙ is.contend (plans c leads)
    where
      one : (y : Plan) → Some y ≡ Some p → p ≡ y
      one y at = cc

pub round_contends : (s : ScenarioParts) (rank f : ℕ) (p : Plan) → round_plan s rank f (state_at s f) ≡ Some p → p.contend ≡ s.profile.contend
round_contends s rank f p is =
    by_leader (first_node s (is_on_and hosting) g) (first_node s (is_on_and holding) g) refl refl is
  where
    g : ℕ → State
    g = state_at s f

    hosting : Core → Bool
    hosting c = hosts_in rank f c.tune

    holding : Core → Bool
    holding c = holds_in rank f c.tune

    by_leader : (h o : Option ℕ) → first_node s (is_on_and hosting) g ≡ h → first_node s (is_on_and holding) g ≡ o
        → option_and_then (λ v. plan_in (g v)) (option_or h o) ≡ Some p → p.contend ≡ s.profile.contend
    by_leader (Some v) o first second at =
        of_leader (setup_of s v) p hosting (λ c. due_plans rank f c.tune) (g v) (rightful s f v)
        (found_passes (λ u. is_on_and hosting (g u)) (ids s.nodes) v first) at
    by_leader None (Some v) first second at =
        of_leader (setup_of s v) p holding (λ c. held_plans rank f c.tune) (g v) (rightful s f v)
        (found_passes (λ u. is_on_and holding (g u)) (ids s.nodes) v second) at
    by_leader None None first second at = absurd (cc)
