use Rattle.std.proofs.Common.{List, map, ap, ◌∙◌}
use Rattle.std.proofs.lemmas.List.{take_all}
use Rattle.air_log.specs.declared.entry.Entry.{Entry}
use Rattle.air_log.specs.Lawful.{hearings_by}
use Rattle.air_log.specs.Courses.{hearing_of}
use Rattle.air_log.proofs.HearingsInAir.{hearings_more}
use Rattle.air_log.proofs.hearings.hearings_by.Goals as goal

pub loop-entry-preserved : goal.loop-entry-preserved
loop-entry-preserved c =
    ap (map hearing_of) c.in_ok-push_some.ensures
    ∙ hearings_more c.args.entries.now c.args.node c.loop-entry.entry-index c.entry-item.result c.loop-entry.heard.items c.hearing_by-hearing.result
    c.loop-entry-test.true c.entry-item.is c.loop-entry.invariant c.hearing_by-hearing.ensures

pub returns : goal.returns
returns c =
    c.loop-entry.invariant ∙ ap (λ (l : List Entry). hearings_by l c.args.node) (take_all _ _ c.loop-entry-test.false)
