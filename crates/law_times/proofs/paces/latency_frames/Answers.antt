use Rattle.std.proofs.Common.{rules, ◌≡◌, ◌+◌, ◌-◌, ◌*◌, ◌/◌, subst}
use Rattle.law_times.proofs.Words.{SlotsComeWithin, latency_bound, AgreedPacketsComeWithin, PacketsComeWithin}
use Rattle.law_times.proofs.AgreedPackets.{agreed_come}
use Rattle.law_times.proofs.LatentPackets.{packets_come}
use Rattle.law_times.proofs.LatentSlots.{slots_come}
use Rattle.law_times.proofs.paces.latency_frames.Goals as goal

pub returns-clause-slots : goal.returns-clause-slots
returns-clause-slots c =
    let is : latency_bound c.args.queue c.args.interval c.args.seconds ≡ (c.from.result * c.from-2.result + c.from-3.result - 1) / c.from-4.result + 2 =
    search rules in
    subst (SlotsComeWithin c.args.queue c.args.interval c.args.seconds) is (slots_come c.args.queue c.args.interval c.args.seconds)

pub returns-clause-packets : goal.returns-clause-packets
returns-clause-packets c =
    let is : latency_bound c.args.queue c.args.interval c.args.seconds ≡ (c.from.result * c.from-2.result + c.from-3.result - 1) / c.from-4.result + 2 =
    search rules in
    subst (PacketsComeWithin c.args.queue c.args.interval c.args.seconds) is (packets_come c.args.queue c.args.interval c.args.seconds)

pub returns-clause-agreed : goal.returns-clause-agreed
returns-clause-agreed c =
    let is : latency_bound c.args.queue c.args.interval c.args.seconds ≡ (c.from.result * c.from-2.result + c.from-3.result - 1) / c.from-4.result + 2 =
    search rules in
    subst (AgreedPacketsComeWithin c.args.queue c.args.interval c.args.seconds) is (agreed_come c.args.queue c.args.interval c.args.seconds)
