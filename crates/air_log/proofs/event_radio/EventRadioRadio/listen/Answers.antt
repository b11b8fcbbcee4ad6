use Rattle.std.proofs.Common.{refl}
use Rattle.lwb_base.specs.declared.order.Order.TheVariants.{Listen}
use Rattle.air_log.proofs.event_radio.EventRadioRadio.listen.Goals as goal

pub returns : goal.returns
returns c = c.keep.ensures (Listen c.args.rank) refl
