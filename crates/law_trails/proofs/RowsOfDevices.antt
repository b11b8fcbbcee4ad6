-- What a row leaves of a device, and what a boot does.
use Rattle.std.proofs.Common.{◌≡◌, ℕ, ◌+◌, Some, None, Option}
use Rattle.std.specs.Prelude.{max}
use Rattle.tick_clock.specs.Clocks.{due}
use Rattle.lwb_base.specs.declared.event.Event.{Event}
use Rattle.lwb_base.specs.declared.event.Event.TheVariants.{Boot}
use Rattle.radio_model.specs.declared.sending.Sending.{Sending}
use Rattle.bus_rules.specs.Cores.{Setup}
use Rattle.node_core.specs.Nodes.{Node, frame_alarm, rebooted}
use Rattle.node_core.specs.Rows.{Stepped, boots, row}
use Rattle.node_core.specs.Rows.{orders_by}
use Rattle.air_log.specs.Devices.{Device, PowerOn, moved}
use Rattle.air_log.specs.ScriptedDevices.{device_after_on}
use Rattle.law_trails.specs.Obeying.{channel_if_on, HasObeyed}
use Rattle.law_trails.specs.Walks.{device_after_row}
use Rattle.law_trails.proofs.ObeyedOrders.{has_obeyed}

pub row_obeyed : (clock : ℕ → ℕ) (s : Setup) (t : ℕ) (e : Event) (x : Option Sending) (d : Device) (n : Node) (r : Stepped)
    → HasObeyed clock t r.orders (moved t e x d n (Some r)) (device_after_row clock s t e x d n r)
row_obeyed clock s t e x d n r = has_obeyed clock s.id t r.orders (moved t e x d n (Some r))

pub row_power : (clock : ℕ → ℕ) (s : Setup) (t : ℕ) (e : Event) (x : Option Sending) (d : Device) (n : Node) (r : Stepped)
    → (device_after_row clock s t e x d n r).power ≡ PowerOn r.node
row_power clock s t e x d n r = (row_obeyed clock s t e x d n r).power

-- power comes on
pub record IsSwitchedOn (clock : ℕ → ℕ) (s : Setup) (t count : ℕ) (d e : Device) : Type 0 where
  pub power : e.power ≡ PowerOn (boots s (rebooted (count + 1)) (clock t)).node
  pub channel : channel_if_on e.listening ≡ Some 0
  pub alarm : e.alarm ≡ Some (max (due clock (frame_alarm s.profile (boots s (rebooted (count + 1)) (clock t)).node.frame)) t)
  pub ordered : e.ordered ≡ d.ordered
  pub sending : e.sending ≡ d.sending
  pub sent : e.made.sent ≡ d.made.sent

pub switched_on_is : (clock : ℕ → ℕ) (s : Setup) (t count : ℕ) (d : Device) → IsSwitchedOn clock s t count d (device_after_on clock s t count d)
switched_on_is clock s t count d =
    let n = rebooted (count + 1) in
    let r = row s n (clock t) Boot in
    let is = has_obeyed clock s.id t (orders_by r) (moved t Boot None (record d { power = PowerOn n }) n r) in
    record { power = is.power; channel = is.channel; alarm = is.alarm; ordered = is.ordered; sending = is.sending; sent = is.sent }
