-- In the worked rounds of one packet both nodes open slot 0 of frame 9.
use Rattle.std.proofs.Common.{List, [], Some, None, refl, ap, arith}
use Rattle.air_log.specs.Devices.{Device}
use Rattle.air_log.specs.Trails.{before_tick}
use Rattle.air_log.specs.WindowLogs.{WindowLog}
use Rattle.law_trails.specs.DueDevices.{IsDeviceWithWindows}
use Rattle.law_trails.specs.OnePacket.{one_packet, drifting, heard_by_host, heard_by_member, one_packet_log}
use Rattle.law_trails.specs.OnePacketHostNodes.{awaits_9_0 as host_awaits}
use Rattle.law_trails.specs.OnePacketNodes.{device, made_by_host}
use Rattle.law_trails.specs.OnePacketMember.{member_32}
use Rattle.law_trails.specs.OnePacketMemberNodes.{awaits_9_0 as member_awaits}
use Rattle.law_trails.proofs.OnePacketTrails.{host_at, member_at}
use Rattle.law_safety.specs.AgreeingNodes.{OpensAt}

host_before : IsDeviceWithWindows (before_tick one_packet 1 (drifting 1) heard_by_host 2367952641)
    (λ (w : List WindowLog). device host_awaits None (Some 2367952641) None None (made_by_host 6 7 [] w))
host_before = host_at 32 (omega arith)

member_before : IsDeviceWithWindows (before_tick one_packet 2 (drifting 2) heard_by_member 2367993428) member_32
member_before = member_at 32 (omega arith)

pub host_opens : OpensAt one_packet drifting one_packet_log 1 2367952641 0 9 0 2367952641
host_opens = record {
  known = refl;
  in_run = omega arith;
  node = host_awaits;
  on = ap (λ (d : Device). d.power) host_before.is;
  of_rank = refl;
  of_frame = refl;
  awaits = refl;
  alarm = ap (λ (d : Device). d.alarm) host_before.is;
}

pub member_opens : OpensAt one_packet drifting one_packet_log 2 2367993428 0 9 0 2367993428
member_opens = record {
  known = refl;
  in_run = omega arith;
  node = member_awaits;
  on = ap (λ (d : Device). d.power) member_before.is;
  of_rank = refl;
  of_frame = refl;
  awaits = refl;
  alarm = ap (λ (d : Device). d.alarm) member_before.is;
}
