-- The trail of node 2 in the worked rounds of one packet, from each due tick to the next.
use Rattle.std.proofs.Common.{ℕ, List, take, drop, refl, sym, subst}
use Rattle.lwb_base.specs.Messages.{least_passing}
use Rattle.schedule_codec.specs.Packing.{digits, packed_number}
use Rattle.schedule_codec.specs.Reading.{schedule_of, asks_in}
use Rattle.bus_rules.specs.Streams.{schedule_heard}
use Rattle.bus_rules.specs.Granting.{plan_round, turns}
use Rattle.bus_rules.specs.HostPlans.{host_plan}
use Rattle.law_trails.specs.DueDevices.{DueDevice, StandsAs}
use Rattle.law_trails.specs.OnePacket.{one_packet, drifting, heard_by_member}
use Rattle.law_trails.specs.OnePacketMember.{member_dues, member_0}
use Rattle.law_trails.proofs.DriftingClocks.{slow, slow_due, slow_dues, member_clock}
use Rattle.law_trails.proofs.TrailSteps.{Leads, joined, stands}

abbrev Steps : List DueDevice → Type 0
Steps xs = Leads slow slow_due one_packet 2 heard_by_member xs

scans : Steps (take 7 (drop 0 member_dues))
unfolding least_passing digits packed_number schedule_of asks_in schedule_heard host_plan plan_round turns
scans = λ w. (refl, refl, (refl, refl, (refl, refl, (refl, refl, (refl, refl, (refl, refl, tt))))))

joins : Steps (take 8 (drop 6 member_dues))
unfolding least_passing digits packed_number schedule_of asks_in schedule_heard host_plan plan_round turns
joins = λ w. (refl, refl, (refl, refl, (refl, refl, (refl, refl, (refl, refl, (refl, refl, (refl, refl, tt)))))))

asks : Steps (take 8 (drop 13 member_dues))
unfolding least_passing digits packed_number schedule_of asks_in schedule_heard host_plan plan_round turns
asks = λ w. (refl, refl, (refl, refl, (refl, refl, (refl, refl, (refl, refl, (refl, refl, (refl, refl, tt)))))))

is_granted : Steps (take 9 (drop 20 member_dues))
unfolding least_passing digits packed_number schedule_of asks_in schedule_heard host_plan plan_round turns
is_granted = λ w. (refl, refl, (refl, refl, (refl, refl, (refl, refl, (refl, refl, (refl, refl, (refl, refl, (refl, refl, tt))))))))

waits : Steps (take 5 (drop 28 member_dues))
unfolding least_passing digits packed_number schedule_of asks_in schedule_heard host_plan plan_round turns
waits = λ w. (refl, refl, (refl, refl, (refl, refl, (refl, refl, tt))))

opens_late : Steps (take 6 (drop 32 member_dues))
unfolding least_passing digits packed_number schedule_of asks_in schedule_heard host_plan plan_round turns
opens_late = λ w. (refl, refl, (refl, refl, (refl, refl, (refl, refl, (refl, refl, tt)))))

says : Steps (take 7 (drop 37 member_dues))
unfolding least_passing digits packed_number schedule_of asks_in schedule_heard host_plan plan_round turns
says = λ w. (refl, refl, (refl, refl, (refl, refl, (refl, refl, (refl, refl, (refl, refl, tt))))))

is_quiet : Steps (take 9 (drop 43 member_dues))
unfolding least_passing digits packed_number schedule_of asks_in schedule_heard host_plan plan_round turns
is_quiet = λ w. (refl, refl, (refl, refl, (refl, refl, (refl, refl, (refl, refl, (refl, refl, (refl, refl, (refl, refl, tt))))))))

closes : Steps (take 9 (drop 51 member_dues))
unfolding least_passing digits packed_number schedule_of asks_in schedule_heard host_plan plan_round turns
closes = λ w. (refl, refl, (refl, refl, (refl, refl, (refl, refl, (refl, refl, (refl, refl, (refl, refl, (refl, refl, tt))))))))

rests : Steps (take 4 (drop 59 member_dues))
unfolding least_passing digits packed_number schedule_of asks_in schedule_heard host_plan plan_round turns
rests = λ w. (refl, refl, (refl, refl, (refl, refl, tt)))

-- each part begins with the due tick with which the one before it ends
all_steps : Steps member_dues
all_steps =
    let join = joined slow slow_due one_packet 2 heard_by_member in
    let closes_on = join 8 (drop 51 member_dues) closes rests in
    let is_quiet_on = join 8 (drop 43 member_dues) is_quiet closes_on in
    let says_on = join 6 (drop 37 member_dues) says is_quiet_on in
    let opens_late_on = join 5 (drop 32 member_dues) opens_late says_on in
    let waiting_on = join 4 (drop 28 member_dues) waits opens_late_on in
    let is_granted_on = join 8 (drop 20 member_dues) is_granted waiting_on in
    let asks_on = join 7 (drop 13 member_dues) asks is_granted_on in
    let joins_on = join 7 (drop 6 member_dues) joins asks_on in
    join 6 member_dues scans joins_on

pub member_stands : StandsAs one_packet 2 (drifting 2) heard_by_member 0 member_dues
member_stands = subst (λ (clock : ℕ → ℕ). StandsAs one_packet 2 clock heard_by_member 0 member_dues) (sym member_clock)
    (stands slow slow_due one_packet 2 heard_by_member slow_dues (record { tick = 0; device = member_0 }) (drop 1 member_dues) refl refl refl all_steps)
