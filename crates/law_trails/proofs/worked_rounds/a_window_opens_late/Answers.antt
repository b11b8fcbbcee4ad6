use Rattle.law_trails.proofs.LateOpening.{first_alarm, second_alarm}
use Rattle.law_trails.proofs.worked_rounds.a_window_opens_late.Goals as goal

pub returns : goal.returns
returns c = record { closes = first_alarm; opens = second_alarm }
