-- What an act does to a device, with one case for all acts for streams.
use Rattle.std.proofs.Common.{◌≡◌, ℕ, Bool, None, refl, subst}
use Rattle.bus_rules.specs.declared.act.Act.{Act}
use Rattle.bus_rules.specs.declared.act.Act.TheVariants.{On, Off, Declare, Leave, Put}
use Rattle.bus_rules.specs.Cores.{Setup}
use Rattle.bus_rules.specs.States.{switch_of, core_after_act}
use Rattle.node_core.specs.Nodes.{Node}
use Rattle.scenario_text.specs.ScenarioFacts.{turned_by}
use Rattle.air_log.specs.Devices.{Device, Power, PowerOff, PowerOn}
use Rattle.air_log.specs.ScriptedDevices.{device_after_act, device_after_on, device_after_off, with_new_core}

-- what an act for a stream does
abbrev pub told : Device → Act → Power → Device
told d a (PowerOff boots) = d
told d a (PowerOn n) = with_new_core d n (core_after_act a n.core)

module _ (clock : ℕ → ℕ) (s : Setup) (t : ℕ) (d : Device) where
  pub by_act : (P : Act → Power → Device → Type 0)
      → ((boots : ℕ) → P On (PowerOff boots) (device_after_on clock s t boots d)) → ((n : Node) → P On (PowerOn n) d)
      → ((boots : ℕ) → P Off (PowerOff boots) d) → ((n : Node) → P Off (PowerOn n) (device_after_off s.id t n d))
      → ((a : Act) (p : Power) → switch_of a ≡ None → P a p (told d a p))
      → (a : Act) (p : Power) → P a p (device_after_act clock s t d a p)
  by_act P boots stays rests off other On (PowerOff b) = boots b
  by_act P boots stays rests off other On (PowerOn n) = stays n
  by_act P boots stays rests off other Off (PowerOff b) = rests b
  by_act P boots stays rests off other Off (PowerOn n) = off n
  by_act P boots stays rests off other (Declare i interval) (PowerOff b) = other (Declare i interval) (PowerOff b) refl
  by_act P boots stays rests off other (Declare i interval) (PowerOn n) = other (Declare i interval) (PowerOn n) refl
  by_act P boots stays rests off other (Leave i) (PowerOff b) = other (Leave i) (PowerOff b) refl
  by_act P boots stays rests off other (Leave i) (PowerOn n) = other (Leave i) (PowerOn n) refl
  by_act P boots stays rests off other (Put i payload) (PowerOff b) = other (Put i payload) (PowerOff b) refl
  by_act P boots stays rests off other (Put i payload) (PowerOn n) = other (Put i payload) (PowerOn n) refl

  pub stream_act : (a : Act) (p : Power) → switch_of a ≡ None → device_after_act clock s t d a p ≡ told d a p
  stream_act = by_act (λ a p e. switch_of a ≡ None → e ≡ told d a p) (λ boots is. cc) (λ n is. cc) (λ boots is. cc) (λ n is. cc) (λ a p none is. refl)

  -- what holds of it before, and of what each change leaves, holds after
  pub each_act : (P : Device → Type 0) (a : Act) (p : Power) → P d
      → ((boots : ℕ) → p ≡ PowerOff boots → P (device_after_on clock s t boots d))
      → ((n : Node) → p ≡ PowerOn n → P (device_after_off s.id t n d))
      → ((n : Node) → p ≡ PowerOn n → P (with_new_core d n (core_after_act a n.core)))
      → P (device_after_act clock s t d a p)
  each_act P a p same on off other =
      by_act (λ b q e. a ≡ b → p ≡ q → P e) (λ boots is at. on boots at) (λ n is at. same) (λ boots is at. same) (λ n is at. off n at) streams a p refl refl
    where
      streams : (b : Act) (q : Power) → switch_of b ≡ None → a ≡ b → p ≡ q → P (told d b q)
      streams b (PowerOff boots) none is at = same
      streams b (PowerOn n) none is at = subst (λ (c : Act). P (with_new_core d n (core_after_act c n.core))) is (other n at)

pub not_turned : (a : Act) → switch_of a ≡ None → (x : Bool × ℕ) → turned_by a x ≡ x
not_turned On is x = cc
not_turned Off is x = cc
not_turned (Declare i interval) is x = refl
not_turned (Leave i) is x = refl
not_turned (Put i payload) is x = refl
