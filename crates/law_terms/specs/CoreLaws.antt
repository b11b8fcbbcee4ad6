-- What happens to a node's core is the same on the bus and in the node table.
use Rattle.std.specs.Prelude.{◌≡◌, ℕ, ◌<◌}
use Rattle.scenario_text.specs.ScenarioParts.{ScenarioParts}
use Rattle.bus_rules.specs.declared.act.Act.{Act}
use Rattle.scenario_text.specs.declared.script.ScriptLine.{ScriptLine}
use Rattle.bus_rules.specs.Cores.{Setup, frame_ended}
use Rattle.bus_rules.specs.Slots.{opened_slot, closed_slot, part_of}
use Rattle.bus_rules.specs.States.{State}
use Rattle.node_core.specs.Nodes.{Node}
use Rattle.node_core.specs.Windows.{Window}
use Rattle.node_core.specs.Rows.{window_opens, window_closes, frame_alarms, accepted_in}
use Rattle.air_log.specs.Devices.{Device, Power, state_of_power}
use Rattle.air_log.specs.Trails.{frame_start, device_after_script as scripted_on_air}
use Rattle.air_log.specs.Drops.{drop_by}
use Rattle.bus_terms.specs.ScriptedStates.{states_after_script, lost_by}

abbrev pub OpeningsAreTheSame : Type 0
OpeningsAreTheSame = (s : Setup) (n : Node) (j : ℕ)
    → (window_opens s n j).node.core ≡ (opened_slot s n.frame (part_of n.core.plan j) n.core).core

abbrev pub ClosingsAreTheSame : Type 0
ClosingsAreTheSame = (s : Setup) (n : Node) (j : ℕ) (w : Window)
    → (window_closes s n j w).node.core ≡ (closed_slot s n.frame w.part w.flood.initiated n.core (accepted_in w)).core

abbrev pub FrameEndsAreTheSame : Type 0
FrameEndsAreTheSame = (s : Setup) (n : Node) → (frame_alarms s n).node.core ≡ frame_ended s n.frame n.core

-- the script lines of a frame at node v
abbrev pub ScriptsAreTheSame : Type 0
ScriptsAreTheSame = (s : ScenarioParts) (v f : ℕ) (clock : ℕ → ℕ) (d : Device) (states : ℕ → State) → 0 < s.profile.frame
    → state_of_power d.power ≡ states v → state_of_power (scripted_on_air s v clock (frame_start s f) d).power ≡ states_after_script s f states v

abbrev pub LossesAreTheSame : Type 0
LossesAreTheSame = (l : ScriptLine) (a : Act) (p : Power) → drop_by l a p ≡ lost_by l a (state_of_power p)
