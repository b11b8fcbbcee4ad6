use Rattle.law_trails.proofs.UnsafeSpeech.{unheard_breaks, not_the_owner_breaks, not_due_breaks, not_opened_breaks, asked_in_data_slot_breaks, gone_off_breaks}
use Rattle.law_trails.proofs.safe_logs.guests_break_silence.Goals as goal

pub returns : goal.returns
returns c = record {
  unheard = unheard_breaks;
  not_the_owner = not_the_owner_breaks;
  not_due = not_due_breaks;
  not_opened = not_opened_breaks;
  asked_in_data_slot = asked_in_data_slot_breaks;
  gone_off = gone_off_breaks;
}
