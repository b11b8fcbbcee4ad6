-- What orders do at a device, order by order.
use Rattle.std.specs.Prelude.{◌≡◌, ℕ, List, Some, None, max, fold}
use Rattle.std.specs.declared.option.Option.{Option}
use Rattle.lwb_base.specs.declared.order.Order.{Order}
use Rattle.lwb_base.specs.declared.order.Order.TheVariants.{Listen, Off, SendAt, Alarm}
use Rattle.tick_clock.specs.Clocks.{due}
use Rattle.air_log.specs.Devices.{Device, Listening, OrderedPacket}

-- the rank to whose channel a radio is tuned, if it is on
abbrev pub channel_if_on : Option Listening → Option ℕ
channel_if_on None = None
channel_if_on (Some l) = Some l.rank

abbrev pub channel_by : Option ℕ → Order → Option ℕ
channel_by channel (Listen rank) = Some rank
channel_by channel Off = None
channel_by channel (SendAt local packet) = channel
channel_by channel (Alarm local) = channel

abbrev pub alarm_by : (ℕ → ℕ) → ℕ → Option ℕ → Order → Option ℕ
alarm_by clock t alarm (Listen rank) = alarm
alarm_by clock t alarm Off = alarm
alarm_by clock t alarm (SendAt local packet) = alarm
alarm_by clock t alarm (Alarm local) = Some (max (due clock local) t)

abbrev pub ordered_by : (ℕ → ℕ) → ℕ → Option OrderedPacket → Order → Option OrderedPacket
ordered_by clock t ordered (Listen rank) = ordered
ordered_by clock t ordered Off = ordered
ordered_by clock t ordered (SendAt local packet) = Some (record { tick = max (due clock local) t; packet = packet })
ordered_by clock t ordered (Alarm local) = ordered

-- e is d with these orders carried out at tick t: its radio, its alarm and what is ordered are as they say, and nothing
-- else changes but the tunings that ended
pub record HasObeyed (clock : ℕ → ℕ) (t : ℕ) (os : List Order) (d e : Device) : Type 0 where
  pub channel : channel_if_on e.listening ≡ fold channel_by (channel_if_on d.listening) os
  pub alarm : e.alarm ≡ fold (alarm_by clock t) d.alarm os
  pub ordered : e.ordered ≡ fold (ordered_by clock t) d.ordered os
  pub power : e.power ≡ d.power
  pub sending : e.sending ≡ d.sending
  pub sent : e.made.sent ≡ d.made.sent
  pub deliveries : e.made.deliveries ≡ d.made.deliveries
  pub windows : e.made.windows ≡ d.made.windows
