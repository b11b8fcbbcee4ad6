use Rattle.law_trails.proofs.RowsLeave.{boot_leaves, joining_leaves, hearing_leaves, sent_leaves, frame_alarm_leaves, opening_leaves, closing_leaves}
use Rattle.law_trails.proofs.walks.rows_leave_devices_so.Goals as goal

pub returns : goal.returns
returns c = record {
  boot = boot_leaves;
  joining = joining_leaves;
  hearing = hearing_leaves;
  sent = sent_leaves;
  frame_alarm = frame_alarm_leaves;
  opening = opening_leaves;
  closing = closing_leaves;
}
