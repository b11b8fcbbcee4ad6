-- Where the invariant holds at the end of a run, its log is safe; and it holds.
use Rattle.std.proofs.Common.{arith}
use Rattle.air_log.specs.Trails.{run_end}
use Rattle.law_trails.proofs.HeedfulLogs.{lawful_is_heedful}
use Rattle.law_safety.specs.Invariant.{HoldsThroughout, HeedfulLogsAreSafe, LawfulLogsAreSafe}
use Rattle.law_safety.proofs.InvariantHolds.{holds_throughout}
use Rattle.law_safety.specs.Endings.{LogsInOrderAreSafe}
use Rattle.law_safety.proofs.SafeFrames.{within_one_frame}
use Rattle.law_safety.proofs.SafeSteps.{no_overlap}
use Rattle.law_safety.proofs.SafePackets.{same_but_for_counter}
use Rattle.law_safety.proofs.SafeInitiators.{one_initiator}
use Rattle.law_safety.proofs.SafeSilence.{silence}

pub safe_at_the_end : LogsInOrderAreSafe
safe_at_the_end s clocks air whole = record {
  within_one_frame = within_one_frame s clocks air whole;
  no_overlap = no_overlap s clocks air whole;
  same_but_for_counter = same_but_for_counter s clocks air whole;
  one_initiator = one_initiator s clocks air whole;
  silence = silence s clocks air whole;
}

pub heedful_is_safe : HoldsThroughout → HeedfulLogsAreSafe
heedful_is_safe holds s clocks air run =
    safe_at_the_end s clocks air (record { run = run; ends = holds s clocks air run (run_end s) (omega arith) })

pub lawful_is_safe : HoldsThroughout → LawfulLogsAreSafe
lawful_is_safe holds s clocks air driven lawful =
    heedful_is_safe holds s clocks air (record { driven = driven; heedful = lawful_is_heedful s clocks air lawful })

pub heedful_logs_are_safe : HeedfulLogsAreSafe
heedful_logs_are_safe = heedful_is_safe holds_throughout

pub lawful_logs_are_safe : LawfulLogsAreSafe
lawful_logs_are_safe = lawful_is_safe holds_throughout
