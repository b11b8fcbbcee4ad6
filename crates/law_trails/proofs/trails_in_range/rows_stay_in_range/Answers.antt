use Rattle.law_trails.proofs.RowsInRange.{row_is}
use Rattle.law_trails.proofs.RelayedMessages.{spoken_rules, proper_rules}
use Rattle.law_trails.proofs.trails_in_range.rows_stay_in_range.Goals as goal

pub returns : goal.returns
returns c = record {
  spoken = λ s set. row_is s set _ _ (spoken_rules s);
  proper = λ s set. row_is s set _ _ (proper_rules s);
}
