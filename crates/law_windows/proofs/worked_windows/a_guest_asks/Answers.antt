use Rattle.law_windows.proofs.WorkedWindows.{asks, asks_closing, asks_flood}
use Rattle.law_windows.proofs.worked_windows.a_guest_asks.Goals as goal

pub returns : goal.returns
returns c = record { opening = asks; closing = asks_closing; flood = asks_flood }
