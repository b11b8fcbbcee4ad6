-- What a device keeps whose node has other streams: all that is known of it.
use Rattle.std.proofs.Common.{◌≡◌, ℕ, ◌/◌, ◌≤◌, List, subst, arith}
use Rattle.bus_rules.specs.Streams.{Streams}
use Rattle.node_core.specs.Nodes.{Node}
use Rattle.node_core.specs.Nodes.{with_streams}
use Rattle.scenario_text.specs.ScenarioParts.{ScenarioParts}
use Rattle.air_log.specs.declared.entry.Entry.{Entry}
use Rattle.air_log.specs.Devices.{Device, Power, PowerOff, PowerOn}
use Rattle.law_trails.specs.Phases.{SilentBy}
use Rattle.law_trails.specs.Lives.{Life}
use Rattle.law_safety.specs.NodesInOrder.{IsOn, InOrderBy, IsInOrder}
use Rattle.law_safety.specs.QuietHosts.{LivesAs, LivesBy, HostsInOrder}
use Rattle.law_safety.proofs.KeptClauses.{with_power}
use Rattle.law_safety.proofs.KeptPlans.{TellsOn, on_kept}

-- a node that is on, in order
pub on_of : (s : ScenarioParts) (clocks : ℕ → ℕ → ℕ) (air : List Entry) (v t told : ℕ) (d : Device) (n : Node)
    → IsInOrder s clocks air v t told d → d.power ≡ PowerOn n → IsOn s clocks air v t told d n
on_of s clocks air v t told d n is on = subst (λ (p : Power). InOrderBy s clocks air v t told d p) on is.by_power

-- one that is off is silent
silent_by : (s : ScenarioParts) (clocks : ℕ → ℕ → ℕ) (air : List Entry) (v t told : ℕ) (d : Device) (p : Power)
    → InOrderBy s clocks air v t told d p → SilentBy d p
silent_by s clocks air v t told d (PowerOff boots) is = record { radio = is.0.radio; alarm = is.0.alarm; ordered = is.0.still.ordered }
silent_by s clocks air v t told d (PowerOn n) is = tt

pub silent_of : (s : ScenarioParts) (clocks : ℕ → ℕ → ℕ) (air : List Entry) (v t told : ℕ) (d : Device) → IsInOrder s clocks air v t told d → SilentBy d d.power
silent_of s clocks air v t told d is = silent_by s clocks air v t told d d.power is.by_power

-- the same device, after more of the script
pub power_kept : (s : ScenarioParts) (clocks : ℕ → ℕ → ℕ) (air : List Entry) (v told later : ℕ) → TellsOn s v told later
    → (t : ℕ) (d : Device) (p : Power) → InOrderBy s clocks air v t told d p → InOrderBy s clocks air v t later d p
power_kept s clocks air v told later on t d (PowerOff boots) is = is
power_kept s clocks air v told later on t d (PowerOn n) is = on_kept s clocks air v told later on n n.core.streams d d.power t is

pub lives_kept : (l : Life) (n : Node) (streams : Streams) → LivesAs l n → LivesAs l (with_streams n streams)
lives_kept l n streams is = record { on = is.on; frame = is.frame; tune = is.tune; plan = is.plan }

-- a host with the same life
pub host_kept : (s : ScenarioParts) (rank t told later : ℕ) → told ≤ later → (d : Device) (p : Power)
    → (h : HostsInOrder s rank t told d) → LivesBy h.life (t / s.profile.frame) p → HostsInOrder s rank t later (with_power d p)
host_kept s rank t told later more d p h lives = record {
  life = h.life;
  quiet = h.quiet;
  lives = lives;
  opened = λ o there. (let a = h.opened o there in omega (arith, a, more));
  closed = λ c there. (let a = h.closed c there in omega (arith, a, more));
  sent = h.sent;
  ordered = h.ordered;
}
