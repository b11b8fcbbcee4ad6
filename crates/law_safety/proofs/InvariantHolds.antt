-- Each step of a tick keeps what it has to keep, so the invariant holds before each tick of a run, and at its end.
use Rattle.std.proofs.Common.{ℕ, List, arith}
use Rattle.scenario_text.specs.ScenarioParts.{ScenarioParts}
use Rattle.air_log.specs.declared.entry.Entry.{Entry}
use Rattle.air_log.specs.Lawful.{Lawful}
use Rattle.air_log.specs.Trails.{run_end}
use Rattle.law_trails.proofs.HeedfulLogs.{lawful_is_heedful}
use Rattle.law_safety.specs.Endings.{EndsInOrder}
use Rattle.law_safety.specs.Invariant.{HoldsThroughout, IsDrivenWell, IsObedientRun}
use Rattle.law_safety.specs.Rows.{AllRows}
use Rattle.law_safety.proofs.RowBoot.{boot_row}
use Rattle.law_safety.proofs.RowsOfScript.{off_row, stream_row}
use Rattle.law_safety.proofs.RowJoining.{joining_row}
use Rattle.law_safety.proofs.RowHearing.{hearing_row}
use Rattle.law_safety.proofs.RowsOfSent.{late_sent_row, sent_elsewhere_row, sent_row}
use Rattle.law_safety.proofs.RowFrameAlarm.{alarm_elsewhere_row, frame_alarm_row}
use Rattle.law_safety.proofs.RowOpening.{opening_row}
use Rattle.law_safety.proofs.RowClosing.{closing_row}
use Rattle.law_safety.proofs.RowsOfStart.{beginning_row, missed_start_row}
use Rattle.law_safety.proofs.RowsOnwards.{onwards_row, passing_row}
use Rattle.law_safety.proofs.Induction.{rows_suffice}

pub all_rows : AllRows
all_rows = record {
  boot = boot_row;
  off = off_row;
  streaming = stream_row;
  joining = joining_row;
  hearing = hearing_row;
  sent = sent_row;
  late_sent = late_sent_row;
  sent_elsewhere = sent_elsewhere_row;
  frame_alarm = frame_alarm_row;
  opening = opening_row;
  closing = closing_row;
  alarm_elsewhere = alarm_elsewhere_row;
  beginning = beginning_row;
  missed_start = missed_start_row;
  onwards = onwards_row;
  passing = passing_row;
}

pub holds_throughout : HoldsThroughout
holds_throughout = rows_suffice all_rows

pub ends_in_order : (s : ScenarioParts) (clocks : ℕ → ℕ → ℕ) (air : List Entry) → IsObedientRun s clocks air → EndsInOrder s clocks air
ends_in_order s clocks air run = record { run = run; ends = holds_throughout s clocks air run (run_end s) (omega arith) }

pub whole_run : (s : ScenarioParts) (clocks : ℕ → ℕ → ℕ) (air : List Entry) → IsDrivenWell s clocks → Lawful s clocks air → EndsInOrder s clocks air
whole_run s clocks air driven lawful =
    ends_in_order s clocks air (record { driven = driven; heedful = lawful_is_heedful s clocks air lawful })
