use Rattle.law_windows.proofs.FirstWindows.{frames_begin_so}
use Rattle.law_windows.proofs.ScannerWalk.{scanners_join_first}
use Rattle.law_windows.proofs.WindowFacts.{rounds_chained}
use Rattle.law_windows.proofs.window_laws.windows_of_a_round_follow_one_another.Goals as goal

pub returns : goal.returns
returns c = record { first = frames_begin_so; next = rounds_chained; joining = scanners_join_first }
