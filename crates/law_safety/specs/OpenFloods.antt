-- The flood of an open window.
use Rattle.std.specs.Prelude.{◌≡◌, ℕ, ◌≤◌, true, false, ◌&&◌, ◌||◌, is_some}
use Rattle.bus_rules.specs.Tuning.{hosts}
use Rattle.bus_rules.specs.Slots.{is_schedule_part}
use Rattle.lwb_member.specs.Places.{kind_for}
use Rattle.node_core.specs.Windows.{Window}
use Rattle.node_core.specs.Nodes.{Node}
use Rattle.scenario_text.specs.ScenarioParts.{ScenarioParts}
use Rattle.air_log.specs.Devices.{Device}

-- it is the slot's, and waits if and only if a transmission is ordered or runs, never both; a host begins the floods of its
-- schedules
pub record HasFlood (s : ScenarioParts) (n : Node) (d : Device) (j : ℕ) (w : Window) : Type 0 where
  pub kind : w.flood.kind ≡ kind_for w.part
  pub slot : w.flood.slot ≡ j
  pub limit : w.flood.limit ≡ s.sends
  pub few : w.flood.sent ≤ s.sends
  pub waits : w.flood.waiting ≡ (is_some d.ordered || is_some d.sending)
  pub one : (is_some d.ordered && is_some d.sending) ≡ false
  pub spent : w.flood.sent ≡ s.sends → w.flood.waiting ≡ false
  pub own : hosts n.core.tune ≡ true → is_schedule_part w.part ≡ true → w.flood.initiated ≡ true
