use Rattle.law_windows.proofs.WorkedWindows.{joins, joins_closing, joins_flood}
use Rattle.law_windows.proofs.worked_windows.a_scanner_joins.Goals as goal

pub returns : goal.returns
returns c = record { opening = joins; closing = joins_closing; flood = joins_flood }
