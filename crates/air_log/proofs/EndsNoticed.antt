-- The packet that comes with an event is that of the transmission that ended.
use Rattle.std.proofs.Common.{◌≡◌, Option, Some, None, is_some, refl}
use Rattle.std.proofs.lemmas.Bool.{false≢true, true≢false}
use Rattle.lwb_base.specs.declared.event.Event.{Event}
use Rattle.lwb_base.specs.declared.event.Event.TheVariants.{Boot, Alarm, Heard, Sent}
use Rattle.radio_model.specs.declared.sending.Sending.{Sending}
use Rattle.air_log.specs.WindowSums.{sent_with}
use Rattle.air_log.specs.Notices.{is_sent, packet_sent}

pub packet_noticed : (e : Event) (ended : Option Sending) → is_some ended ≡ is_sent e → packet_sent ended ≡ sent_with e ended
packet_noticed Boot None is = refl
packet_noticed Boot (Some x) is = absurd (true≢false is)
packet_noticed Alarm None is = refl
packet_noticed Alarm (Some x) is = absurd (true≢false is)
packet_noticed (Heard p) None is = refl
packet_noticed (Heard p) (Some x) is = absurd (true≢false is)
packet_noticed Sent None is = absurd (false≢true is)
packet_noticed Sent (Some x) is = refl
