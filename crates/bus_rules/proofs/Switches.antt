-- What is known of an act by what it does to power.
use Rattle.std.proofs.Common.{◌≡◌, ◌+◌, ℕ, Some, None, refl}
use Rattle.bus_rules.specs.declared.act.Act.{Act}
use Rattle.bus_rules.specs.declared.act.Act.TheVariants.{On, Off, Declare, Leave, Put}
use Rattle.bus_rules.specs.declared.act.Switch.TheVariants as switch
use Rattle.bus_rules.specs.Cores.{Core, booted}
use Rattle.bus_rules.specs.States.{State, StateOff, StateOn, switch_of, state_after_act, at_core, core_after_act}

pub switches_on : (a : Act) → switch_of a ≡ Some switch.On → a ≡ On
switches_on On is = refl
switches_on Off is = cc
switches_on (Declare i interval) is = cc
switches_on (Leave i) is = cc
switches_on (Put i payload) is = cc

pub switches_off : (a : Act) → switch_of a ≡ Some switch.Off → a ≡ Off
switches_off On is = cc
switches_off Off is = refl
switches_off (Declare i interval) is = cc
switches_off (Leave i) is = cc
switches_off (Put i payload) is = cc

pub changes_core : (a : Act) (x : State) → switch_of a ≡ None → state_after_act a x ≡ at_core (core_after_act a) x
changes_core On x is = cc
changes_core Off x is = cc
changes_core (Declare i interval) x is = refl
changes_core (Leave i) x is = refl
changes_core (Put i payload) x is = refl

-- what a boot, the end of power and an act for a stream keep is kept by each act
module _ (P : State → Type 0)
    (boots_keep : (boots : ℕ) → P (StateOff boots) → P (StateOn (booted (boots + 1))))
    (ends_keep : (c : Core) → P (StateOn c) → P (StateOff c.boot))
    (streams_keep : (a : Act) (c : Core) → P (StateOn c) → P (StateOn (core_after_act a c))) where
  pub acts_keep : (a : Act) (x : State) → P x → P (state_after_act a x)
  acts_keep On (StateOff boots) is = boots_keep boots is
  acts_keep On (StateOn c) is = is
  acts_keep Off (StateOff boots) is = is
  acts_keep Off (StateOn c) is = ends_keep c is
  acts_keep (Declare i interval) (StateOff boots) is = is
  acts_keep (Declare i interval) (StateOn c) is = streams_keep (Declare i interval) c is
  acts_keep (Leave i) (StateOff boots) is = is
  acts_keep (Leave i) (StateOn c) is = streams_keep (Leave i) c is
  acts_keep (Put i payload) (StateOff boots) is = is
  acts_keep (Put i payload) (StateOn c) is = streams_keep (Put i payload) c is
