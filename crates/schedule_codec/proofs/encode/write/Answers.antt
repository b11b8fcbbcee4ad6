use Rattle.std.proofs.Common.{ap, length, ◌∙◌}
use Rattle.schedule_codec.specs.Reading.{schedule_of}
use Rattle.schedule_codec.proofs.Readings.{length-spelling, schedule_spelled}
use Rattle.schedule_codec.proofs.encode.write.Goals as goal

pub returns-clause-many : goal.returns-clause-many
returns-clause-many c = ap length c.spell.ensures.value ∙ length-spelling c.args.s.now c.args.slot 0

pub returns-clause-reads_back : goal.returns-clause-reads_back
returns-clause-reads_back c = ap (λ l. schedule_of l) c.spell.ensures.value ∙ schedule_spelled c.args.s.now c.args.slot 0 c.spell.ensures.in_range
