-- Windows of node 2 in the worked rounds of one packet, written down manually: that of slot 0 in frame 5, which a received
-- opening opens while it scans, and that of slot 1, in which it asks for its stream.
use Rattle.std.specs.Prelude.{[], ◌∷◌, true, false, Some, None}
use Rattle.lwb_packets.specs.declared.kind.Kind.TheVariants.{Schedule, Request}
use Rattle.bus_rules.specs.declared.part.Part.TheVariants.{Opening, Contention}
use Rattle.air_log.specs.FirstRound.{opening_with}
use Rattle.air_log.specs.WindowLogs.{WindowLog, HeardAt, SentAt}
use Rattle.law_trails.specs.OnePacket.{opening_0, opening_1, opening_2, opening_3, request_0, request_1, request_2, request_with}
use Rattle.law_trails.specs.OnePacketMemberNodes.{awaits_5_1, awaits_5_2, floods_5_0, floods_5_1, scanning}
use Rattle.law_trails.specs.OnePacketNodes.{flood}

abbrev pub joined_window : WindowLog
joined_window = record {
  frame = 5;
  rank = 0;
  slot = 0;
  by_alarm = false;
  opened = 1344073984;
  before = scanning 5;
  after = floods_5_0 0 true;
  happenings =
      HeardAt opening_0.end (opening_with 0) ∷ SentAt opening_1.end (opening_with 1)
      ∷ HeardAt opening_2.end (opening_with 2) ∷ SentAt opening_3.end (opening_with 3)
      ∷ [];
  last = record { part = Opening; last = 2; flood = flood Schedule 0 2 false false (Some (opening_with 0)); reference = Some 1343946238 };
  closed = Some (record { tick = 1346069160; after = awaits_5_1 });
}

abbrev pub asking_window : WindowLog
asking_window = record {
  frame = 5;
  rank = 0;
  slot = 1;
  by_alarm = true;
  opened = 1346085160;
  before = awaits_5_1;
  after = floods_5_1 0 true;
  happenings =
      SentAt request_0.end (request_with 0) ∷ HeardAt request_1.end (request_with 1) ∷ SentAt request_2.end (request_with 2) ∷ [];
  last = record { part = Contention 1; last = 2; flood = flood Request 1 2 false true (Some (request_with 0)); reference = None };
  closed = Some (record { tick = 1348181202; after = awaits_5_2 });
}
