use Rattle.std.proofs.Common.{refl}
use Rattle.lwb_base.specs.declared.order.Order.TheVariants.{Off}
use Rattle.air_log.proofs.event_radio.EventRadioRadio.off.Goals as goal

pub returns : goal.returns
returns c = c.keep.ensures (Off) refl
