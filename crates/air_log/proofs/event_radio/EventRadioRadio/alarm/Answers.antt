use Rattle.std.proofs.Common.{refl}
use Rattle.lwb_base.specs.declared.order.Order.TheVariants.{Alarm}
use Rattle.air_log.proofs.event_radio.EventRadioRadio.alarm.Goals as goal

pub returns : goal.returns
returns c = c.keep.ensures (Alarm c.args.local) refl
