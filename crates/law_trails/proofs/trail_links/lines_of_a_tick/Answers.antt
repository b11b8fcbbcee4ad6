use Rattle.law_trails.proofs.LinesOfTick.{went_off, stays_on, off_or_none, is_told}
use Rattle.air_log.specs.Trails.{lines_at}
use Rattle.law_trails.proofs.trail_links.lines_of_a_tick.Goals as goal

pub returns : goal.returns
returns c = record { off = went_off; on = stays_on; either = λ s v t. off_or_none (lines_at s v t); told = is_told }
