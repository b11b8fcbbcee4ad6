-- The trails of the worked rounds of one packet: the device before each due tick by its place, and what they have made.
use Rattle.std.proofs.Common.{◌≡◌, ℕ, ◌<◌, get_or, refl, ap, arith}
use Rattle.air_log.specs.Devices.{Device, silenced}
use Rattle.air_log.specs.Trails.{before_tick, trail}
use Rattle.law_trails.specs.DueDevices.{DueDevice, IsDeviceWithWindows}
use Rattle.law_trails.specs.OnePacket.{one_packet, drifting, heard_by_host, heard_by_member, sent_by_host, sent_by_member, tuned_by_host, tuned_by_member}
use Rattle.law_trails.specs.OnePacketHost.{host_dues, host_62}
use Rattle.law_trails.specs.OnePacketMember.{member_dues, member_62}
use Rattle.law_trails.proofs.DuePlaces.{ShowsDue, at_place}
use Rattle.law_trails.proofs.HostSteps.{host_stands}
use Rattle.law_trails.proofs.MemberSteps.{member_stands}

abbrev host_end : DueDevice
host_end = record { tick = 3072000000; device = host_62 }

abbrev member_end : DueDevice
member_end = record { tick = 3072000000; device = member_62 }

-- `host_at 7` says that before tick 1344037120 the host is as its row 7 says, and so on
abbrev pub host_due : ℕ → DueDevice
host_due i = get_or host_dues i host_end

pub host_at : (i : ℕ) → i < 63 → ShowsDue one_packet 1 (drifting 1) heard_by_host (host_due i)
host_at i within = at_place one_packet 1 (drifting 1) heard_by_host 0 host_dues refl host_stands i host_end within

abbrev pub member_due : ℕ → DueDevice
member_due i = get_or member_dues i member_end

pub member_at : (i : ℕ) → i < 63 → ShowsDue one_packet 2 (drifting 2) heard_by_member (member_due i)
member_at i within = at_place one_packet 2 (drifting 2) heard_by_member 0 member_dues refl member_stands i member_end within

-- at the end of the run
host_at_last : IsDeviceWithWindows (before_tick one_packet 1 (drifting 1) heard_by_host 3072000000) host_62
host_at_last = host_at 62 (omega arith)

member_at_last : IsDeviceWithWindows (before_tick one_packet 2 (drifting 2) heard_by_member 3072000000) member_62
member_at_last = member_at 62 (omega arith)

pub host_sent : (trail one_packet 1 (drifting 1) heard_by_host).made.sent ≡ sent_by_host
host_sent = ap (λ (d : Device). (silenced 1 3072000000 d).made.sent) host_at_last.is

pub host_tuned : (trail one_packet 1 (drifting 1) heard_by_host).made.tuned ≡ tuned_by_host
host_tuned = ap (λ (d : Device). (silenced 1 3072000000 d).made.tuned) host_at_last.is

pub member_sent : (trail one_packet 2 (drifting 2) heard_by_member).made.sent ≡ sent_by_member
member_sent = ap (λ (d : Device). (silenced 2 3072000000 d).made.sent) member_at_last.is

pub member_tuned : (trail one_packet 2 (drifting 2) heard_by_member).made.tuned ≡ tuned_by_member
member_tuned = ap (λ (d : Device). (silenced 2 3072000000 d).made.tuned) member_at_last.is
