use Rattle.std.proofs.Common.{sym, ◌∙◌}
use Rattle.node_core.proofs.NamedHosts.{own_host}
use Rattle.node_core.proofs.window.is_foreign.Goals as goal

pub returns-else-is_another : goal.returns-else-is_another
returns-else-is_another c =
    c.if-is_another.false ∙ sym (own_host c.args.rank c.args.p.now c.named_host.result c.named_host.ensures.rank (c.is_another.ensures c.if-is_another.false))
