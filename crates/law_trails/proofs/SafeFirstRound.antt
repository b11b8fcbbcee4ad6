-- The log of the worked first round is safe. It has schedules only, so silence asks nothing of it.
use Rattle.std.proofs.Common.{refl}
use Rattle.schedule_codec.specs.Packing.{digits, packed_number}
use Rattle.schedule_codec.specs.Reading.{schedule_of, asks_in}
use Rattle.air_log.specs.Safe.{Safe}
use Rattle.air_log.specs.TwoNodeLog.{true_time}
use Rattle.air_log.specs.FirstRound.{first_round, first_round_log}
use Rattle.law_trails.proofs.SafeTests.{in_frame_by, apart_by, alike_by, one_by, silent_by}

pub safe : Safe first_round true_time first_round_log
unfolding digits packed_number schedule_of asks_in
safe = record {
  within_one_frame = in_frame_by first_round first_round_log refl;
  no_overlap = apart_by first_round first_round_log refl;
  same_but_for_counter = alike_by first_round first_round_log refl;
  one_initiator = one_by first_round first_round_log refl refl;
  silence = silent_by first_round first_round_log true_time refl;
}
