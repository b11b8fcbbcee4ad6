use Rattle.bus_terms.proofs.OrderedDeliveries.{deliveries_in_order}
use Rattle.scenario_text.proofs.SoundOver.{over_sound}
use Rattle.bus_terms.proofs.bus_laws.each_stream_is_delivered_in_order.Goals as goal

pub returns : goal.returns
returns c = λ s is. deliveries_in_order s (over_sound s is)
