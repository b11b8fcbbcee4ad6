-- Who receives what in the worked rounds of one packet.
use Rattle.std.proofs.Common.{List, ◌++◌, refl}
use Rattle.radio_model.specs.OnAir.{Tuning}
use Rattle.air_log.specs.Lawful.{FollowsHearing}
use Rattle.law_trails.specs.OnePacket.{one_packet, one_packet_log, sent_in_rounds, heard_in_rounds, tuned_by_host, tuned_by_member}
use Rattle.law_trails.proofs.TurnedLogs.{IsTurned, hears_all, all_differ}

abbrev pub tuned_in_rounds : List Tuning
tuned_in_rounds = tuned_by_host ++ tuned_by_member

turned : IsTurned one_packet sent_in_rounds heard_in_rounds tuned_in_rounds
turned = record { turn = refl; good = refl; covered = refl; long = refl }

pub follows_hearing : FollowsHearing one_packet one_packet_log
follows_hearing = record {
  heard = hears_all one_packet sent_in_rounds heard_in_rounds tuned_in_rounds turned;
  once = all_differ heard_in_rounds refl;
}
