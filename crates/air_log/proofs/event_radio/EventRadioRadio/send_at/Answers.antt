use Rattle.std.proofs.Common.{refl}
use Rattle.lwb_base.specs.declared.order.Order.TheVariants.{SendAt}
use Rattle.air_log.proofs.event_radio.EventRadioRadio.send_at.Goals as goal

pub returns : goal.returns
returns c = c.keep.ensures (SendAt c.args.local c.args.packet.now) refl
