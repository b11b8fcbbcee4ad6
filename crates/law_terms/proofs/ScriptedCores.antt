-- Script lines at a device and in the bus.
use Rattle.std.proofs.Common.{◌≡◌, ℕ, ◌+◌, List, [], ◌∷◌, None, refl, sym, ap, ◌∙◌, fold}
use Rattle.lwb_base.specs.declared.event.Event.TheVariants.{Boot}
use Rattle.bus_rules.specs.declared.act.Act.{Act}
use Rattle.bus_rules.specs.declared.act.Act.TheVariants.{On, Off, Declare, Leave, Put}
use Rattle.scenario_text.specs.declared.script.ScriptLine.{ScriptLine}
use Rattle.bus_rules.specs.Cores.{Setup}
use Rattle.node_core.specs.Nodes.{rebooted}
use Rattle.air_log.specs.Devices.{Device, Power, PowerOff, PowerOn}
use Rattle.air_log.specs.ScriptedDevices as Air
use Rattle.air_log.specs.Drops as AirDrops
use Rattle.bus_rules.specs.States.{State, StateOff, StateOn, switch_of, state_after_act}
use Rattle.bus_rules.proofs.Switches.{changes_core}
use Rattle.bus_terms.specs.ScriptedStates as Bus
use Rattle.air_log.specs.Devices.{state_of_power}
use Rattle.air_log.proofs.DeviceActs.{told, by_act}
use Rattle.air_log.proofs.EventPower.{stepped_power}

act_same : (clock : ℕ → ℕ) (s : Setup) (t : ℕ) (d : Device) (a : Act) (p : Power) → d.power ≡ p
    → state_of_power (Air.device_after_act clock s t d a p).power ≡ state_after_act a (state_of_power p)
act_same clock s t d =
    by_act clock s t d (λ a p e. d.power ≡ p → state_of_power e.power ≡ state_after_act a (state_of_power p))
    (λ b is. ap state_of_power (stepped_power clock s t Boot None (record d { power = PowerOn (rebooted (b + 1)) }) (rebooted (b + 1))))
    (λ n is. ap state_of_power is) (λ b is. ap state_of_power is) (λ n is. refl) streams
  where
    streams : (a : Act) (p : Power) → switch_of a ≡ None → d.power ≡ p → state_of_power (told d a p).power ≡ state_after_act a (state_of_power p)
    streams a (PowerOff b) none is = ap state_of_power is ∙ sym (changes_core a (StateOff b) none)
    streams a (PowerOn n) none is = sym (changes_core a (StateOn n.core) none)

-- any list of lines of the node, at one tick
pub lines_same : (clock : ℕ → ℕ) (s : Setup) (t : ℕ) (d : Device) (x : State) (ls : List ScriptLine) → state_of_power d.power ≡ x
    → state_of_power (fold (Air.device_after_line clock s t) d ls).power ≡ fold Bus.state_after_line x ls
lines_same clock s t d x [] is = is
lines_same clock s t d x (l ∷ ls) is = lines_same clock s t (Air.device_after_line clock s t d l) (Bus.state_after_line x l) ls
    (act_same clock s t d l.act d.power refl ∙ ap (state_after_act l.act) is)

-- a lost put is the same
pub drop_same : (l : ScriptLine) (a : Act) (p : Power) → AirDrops.drop_by l a p ≡ Bus.lost_by l a (state_of_power p)
drop_same l On p = refl
drop_same l Off p = refl
drop_same l (Declare i x) p = refl
drop_same l (Leave i) p = refl
drop_same l (Put i payload) p = refl
