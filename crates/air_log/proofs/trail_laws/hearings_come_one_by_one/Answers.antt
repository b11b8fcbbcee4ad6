use Rattle.air_log.proofs.HearingMore.{earlier_stays, heard_now}
use Rattle.air_log.proofs.trail_laws.hearings_come_one_by_one.Goals as goal

pub returns : goal.returns
returns c = record { before = earlier_stays; now = heard_now }
