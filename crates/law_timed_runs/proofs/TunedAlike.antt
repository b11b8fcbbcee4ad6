-- Equal states have equal tunes and plans, and equal deliveries have the same packets.
use Rattle.std.proofs.Common.{◌≡◌, List, sym, ◌∙◌, subst}
use Rattle.std.specs.Prelude.{Contains}
use Rattle.bus_rules.specs.declared.delivery.Delivery.{Delivery}
use Rattle.law_terms.specs.RunLaws.{DeliveriesLaw, RunLaw}
use Rattle.law_times.specs.Queues.{delivery_to}
use Rattle.law_timed_runs.specs.TunedRuns.{PacketsGoAsTheBus, RunsGoAsTheBus, StatesAreTheBus}

pub tuned_alike : RunLaw → RunsGoAsTheBus
tuned_alike same s clocks air run f v known in_run t p =
    let is = same s clocks air run v f known in_run in (
      λ tuned. record { core = tuned.core; on = is ∙ tuned.on; tune = tuned.tune; plan = tuned.plan },
      λ tuned. record { core = tuned.core; on = sym is ∙ tuned.on; tune = tuned.tune; plan = tuned.plan },
    )

pub states_alike : RunLaw → StatesAreTheBus
states_alike same s clocks air run f v known in_run = same s clocks air run v f known in_run

pub packets_alike : DeliveriesLaw → PacketsGoAsTheBus
packets_alike same s clocks air run rank f among w =
    let is = same s clocks air run in (
      λ comes. record {
        slot = comes.slot;
        all = λ v there other reached.
            subst (λ (ds : List Delivery). Contains ds (delivery_to w rank f comes.slot v)) (sym is) (comes.all v there other reached);
      },
      λ comes. record {
        slot = comes.slot;
        all = λ v there other reached.
            subst (λ (ds : List Delivery). Contains ds (delivery_to w rank f comes.slot v)) is (comes.all v there other reached);
      },
    )
