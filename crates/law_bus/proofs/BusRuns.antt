-- A valid run is the bus's.
use Rattle.std.proofs.Common.{List, sym, subst}
use Rattle.bus_rules.specs.declared.delivery.Delivery.{Delivery}
use Rattle.bus_terms.specs.Bus.{Ordered}
use Rattle.bus_terms.proofs.OrderedDeliveries.{deliveries_in_order}
use Rattle.law_safety.proofs.SafeRuns.{lawful_logs_are_safe}
use Rattle.law_bus.proofs.BusCosts.{energies}
use Rattle.law_bus.specs.BusRuns.{LawfulRunsAreTheBus}
use Rattle.law_bus.proofs.BusLaws.{delivered, dropped}
use Rattle.law_bus.proofs.ReceivedInRuns.{received_in_slot}

pub bus_run : LawfulRunsAreTheBus
bus_run s clocks air lawful =
    let same = delivered s clocks air lawful in
    record {
      safe = lawful_logs_are_safe s clocks air (record { sound = lawful.sound; drift = lawful.drift }) lawful.lawful;
      delivered = same;
      lost = dropped s clocks air lawful;
      in_order = subst (λ (ds : List Delivery). Ordered ds) (sym same) (deliveries_in_order s lawful.sound);
      received = received_in_slot s clocks air lawful;
      costs = energies s clocks air lawful;
    }
