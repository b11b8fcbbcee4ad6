-- Whether a node is on, and how often it booted, through the rounds and the end of a frame.
use Rattle.std.proofs.Common.{◌≡◌, ℕ, true, Option, Some, None, refl, ◌∙◌, ap}
use Rattle.scenario_text.specs.ScenarioParts.{ScenarioParts}
use Rattle.scenario_text.specs.ScenarioFacts.{turned_by}
use Rattle.bus_rules.specs.declared.act.Act.{Act}
use Rattle.bus_rules.specs.declared.act.Act.TheVariants.{On, Off, Declare, Leave, Put}
use Rattle.bus_rules.specs.Cores.{Core, Setup, as_host, begins_host, frame_ended}
use Rattle.bus_rules.specs.States.{State, StateOff, StateOn, at_core, state_after_act}
use Rattle.bus_rules.specs.declared.tune.Tune.{Tune}
use Rattle.bus_terms.specs.Rounds.{rounds}
use Rattle.scenario_text.specs.Setups.{setup_of}
use Rattle.bus_terms.specs.ScriptedStates.{power, states_after_end}
use Rattle.bus_terms.proofs.NumbersKept.{opened_core, closed_core}
use Rattle.bus_terms.proofs.KeptInRounds.{rounds_keep}

pub act_power : (a : Act) (x : State) → power (state_after_act a x) ≡ turned_by a (power x)
act_power On (StateOff boots) = refl
act_power On (StateOn c) = refl
act_power Off (StateOff boots) = refl
act_power Off (StateOn c) = refl
act_power (Declare i interval) (StateOff boots) = refl
act_power (Declare i interval) (StateOn c) = refl
act_power (Leave i) (StateOff boots) = refl
act_power (Leave i) (StateOn c) = refl
act_power (Put i payload) (StateOff boots) = refl
act_power (Put i payload) (StateOn c) = refl

ended_boot : (q : Setup) (f : ℕ) (c : Core) → (frame_ended q f c).boot ≡ c.boot
ended_boot q f c = by_host _ (begins_host c.tune _)
  where
    by_host : (t : Tune) (rank : Option ℕ) → (as_host q.profile rank (record c { tune = t; own_slot = None })).boot ≡ c.boot
    by_host t None = refl
    by_host t (Some rank) = refl

pub ended_power : (s : ScenarioParts) (f v : ℕ) (states : ℕ → State) → power (states_after_end s f states v) ≡ power (states v)
ended_power s f v states = by_state (states v)
  where
    by_state : (x : State) → power (at_core (frame_ended (setup_of s v) f) x) ≡ power x
    by_state (StateOff boots) = refl
    by_state (StateOn c) = ap (λ (n : ℕ). (true, n)) (ended_boot (setup_of s v) f c)

pub rounds_power : (s : ScenarioParts) (f : ℕ) (states : ℕ → State) (v : ℕ) → power (rounds s f states v) ≡ power (states v)
rounds_power s f states =
    rounds_keep s f (λ v x. power x ≡ power (states v)) (λ m. Unit {0})
    (λ v part c is. ap (λ (n : ℕ). (true, n)) (opened_core (setup_of s v) f part c).boot ∙ is)
    (λ v part c m is said. tt)
    (λ v part b c heard told is. ap (λ (n : ℕ). (true, n)) (closed_core (setup_of s v) f part b c heard).boot ∙ is)
    states (λ v. refl)
