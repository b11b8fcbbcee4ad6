use Rattle.std.proofs.Common.{◌<◌, ◌^◌, List, length, sym, ◌∙◌, subst}
use Rattle.bus_rules.specs.declared.delivery.Delivery.{Delivery}
use Rattle.plan_commands.proofs.run_fates.run_fates.Goals as goal

pub fates-requires : goal.fates-requires
fates-requires c = record { few = subst (λ (l : List Delivery). length l < 2 ^ 32) (sym c.deliveries.ensures) c.requires.few }

pub returns : goal.returns
returns c =
    λ d run hosted scripted.
    c.fates.ensures d record {
      hosted = c.hosts.ensures.value ∙ hosted;
      scripted = c.script.ensures.value ∙ scripted;
      put = c.puts.ensures ∙ run.put;
      transmitted = c.sent.ensures ∙ run.sent;
      delivered = c.deliveries.ensures ∙ run.delivered;
    }
