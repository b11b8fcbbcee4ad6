-- What a device is notified of.
use Rattle.std.specs.Prelude.{ℕ, List, Bool, true, false, Some, None}
use Rattle.std.specs.declared.option.Option.{Option}
use Rattle.lwb_base.specs.declared.event.Event.{Event}
use Rattle.lwb_base.specs.declared.event.Event.TheVariants.{Boot, Alarm, Heard, Sent}
use Rattle.radio_model.specs.declared.sending.Sending.{Sending}

-- whether it is the end of the node's own transmission
abbrev pub is_sent : Event → Bool
is_sent Boot = false
is_sent Alarm = false
is_sent (Heard p) = false
is_sent Sent = true

abbrev pub packet_sent : Option Sending → Option (List ℕ)
packet_sent None = None
packet_sent (Some x) = Some x.packet
