use Rattle.law_one_log.proofs.OneFloodLog.{one_flood_log}
use Rattle.law_one_log.proofs.one_flood.a_flood_has_one_log.Goals as goal

pub returns : goal.returns
returns c =
    let law = c.flood_logs_are_floods_by_steps.ensures in
    one_flood_log law.run law.sends law.hears
