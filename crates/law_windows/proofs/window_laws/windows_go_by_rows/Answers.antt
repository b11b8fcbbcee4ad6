use Rattle.law_windows.proofs.WindowFacts.{open_by_rows, close_by_rows}
use Rattle.law_windows.proofs.window_laws.windows_go_by_rows.Goals as goal

pub returns : goal.returns
returns c = record { opening = open_by_rows; closing = close_by_rows }
