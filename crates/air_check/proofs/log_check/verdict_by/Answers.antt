use Rattle.std.proofs.Common.{List, Bool, subst, sym}
use Rattle.scenario_clocks.specs.StatedClocks.{scenario_clock}
use Rattle.air_log.specs.Entries.{hearings_of}
use Rattle.air_check.specs.Flags.{AreFlags}
use Rattle.air_check.proofs.LawfulVerdicts.{is_lawful}
use Rattle.air_check.proofs.log_check.verdict_by.Goals as goal

pub returns-in-None : goal.returns-in-None
returns-in-None c =
    let s = c.args.s.now in
    let air = c.args.air.now in
    let sent = c.args.index.now.sent.items in
    let right = c.in_default.ensures in
    let flags = subst (λ (fs : List Bool). AreFlags sent (hearings_of air) fs) (sym c.deref.ensures.value) right.flags in
    is_lawful s (scenario_clock s) air c.requires.trails right.none (c.in-None.ensures.none air c.requires.holds flags)
