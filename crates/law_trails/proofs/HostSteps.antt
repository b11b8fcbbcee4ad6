-- The trail of the host in the worked rounds of one packet, from each due tick to the next.
use Rattle.std.proofs.Common.{ℕ, List, take, drop, refl, sym, subst}
use Rattle.lwb_base.specs.Messages.{least_passing}
use Rattle.schedule_codec.specs.Packing.{digits, packed_number}
use Rattle.schedule_codec.specs.Reading.{schedule_of, asks_in}
use Rattle.bus_rules.specs.Streams.{schedule_heard}
use Rattle.bus_rules.specs.Granting.{plan_round, turns}
use Rattle.bus_rules.specs.HostPlans.{host_plan}
use Rattle.law_trails.specs.DueDevices.{DueDevice, StandsAs}
use Rattle.law_trails.specs.OnePacket.{one_packet, drifting, heard_by_host}
use Rattle.law_trails.specs.OnePacketHost.{host_dues, host_0}
use Rattle.law_trails.proofs.DriftingClocks.{fast, fast_due, fast_dues, host_clock}
use Rattle.law_trails.proofs.TrailSteps.{Leads, joined, stands}

abbrev Steps : List DueDevice → Type 0
Steps xs = Leads fast fast_due one_packet 1 heard_by_host xs

scans : Steps (take 7 (drop 0 host_dues))
unfolding least_passing digits packed_number schedule_of asks_in schedule_heard host_plan plan_round turns
scans = λ w. (refl, refl, (refl, refl, (refl, refl, (refl, refl, (refl, refl, (refl, refl, tt))))))

opens : Steps (take 8 (drop 6 host_dues))
unfolding least_passing digits packed_number schedule_of asks_in schedule_heard host_plan plan_round turns
opens = λ w. (refl, refl, (refl, refl, (refl, refl, (refl, refl, (refl, refl, (refl, refl, (refl, refl, tt)))))))

is_asked : Steps (take 9 (drop 13 host_dues))
unfolding least_passing digits packed_number schedule_of asks_in schedule_heard host_plan plan_round turns
is_asked = λ w. (refl, refl, (refl, refl, (refl, refl, (refl, refl, (refl, refl, (refl, refl, (refl, refl, (refl, refl, tt))))))))

grants : Steps (take 8 (drop 21 host_dues))
unfolding least_passing digits packed_number schedule_of asks_in schedule_heard host_plan plan_round turns
grants = λ w. (refl, refl, (refl, refl, (refl, refl, (refl, refl, (refl, refl, (refl, refl, (refl, refl, tt)))))))

waits : Steps (take 5 (drop 28 host_dues))
unfolding least_passing digits packed_number schedule_of asks_in schedule_heard host_plan plan_round turns
waits = λ w. (refl, refl, (refl, refl, (refl, refl, (refl, refl, tt))))

reopens : Steps (take 5 (drop 32 host_dues))
unfolding least_passing digits packed_number schedule_of asks_in schedule_heard host_plan plan_round turns
reopens = λ w. (refl, refl, (refl, refl, (refl, refl, (refl, refl, tt))))

hears_data : Steps (take 9 (drop 36 host_dues))
unfolding least_passing digits packed_number schedule_of asks_in schedule_heard host_plan plan_round turns
hears_data = λ w. (refl, refl, (refl, refl, (refl, refl, (refl, refl, (refl, refl, (refl, refl, (refl, refl, (refl, refl, tt))))))))

hears_nothing : Steps (take 9 (drop 44 host_dues))
unfolding least_passing digits packed_number schedule_of asks_in schedule_heard host_plan plan_round turns
hears_nothing = λ w. (refl, refl, (refl, refl, (refl, refl, (refl, refl, (refl, refl, (refl, refl, (refl, refl, (refl, refl, tt))))))))

closes : Steps (take 8 (drop 52 host_dues))
unfolding least_passing digits packed_number schedule_of asks_in schedule_heard host_plan plan_round turns
closes = λ w. (refl, refl, (refl, refl, (refl, refl, (refl, refl, (refl, refl, (refl, refl, (refl, refl, tt)))))))

rests : Steps (take 4 (drop 59 host_dues))
unfolding least_passing digits packed_number schedule_of asks_in schedule_heard host_plan plan_round turns
rests = λ w. (refl, refl, (refl, refl, (refl, refl, tt)))

-- each part begins with the due tick with which the one before it ends
all_steps : Steps host_dues
all_steps =
    let join = joined fast fast_due one_packet 1 heard_by_host in
    let closes_on = join 7 (drop 52 host_dues) closes rests in
    let hears_nothing_on = join 8 (drop 44 host_dues) hears_nothing closes_on in
    let hears_data_on = join 8 (drop 36 host_dues) hears_data hears_nothing_on in
    let reopens_on = join 4 (drop 32 host_dues) reopens hears_data_on in
    let waiting_on = join 4 (drop 28 host_dues) waits reopens_on in
    let grants_on = join 7 (drop 21 host_dues) grants waiting_on in
    let is_asked_on = join 8 (drop 13 host_dues) is_asked grants_on in
    let opens_on = join 7 (drop 6 host_dues) opens is_asked_on in
    join 6 host_dues scans opens_on

pub host_stands : StandsAs one_packet 1 (drifting 1) heard_by_host 0 host_dues
host_stands = subst (λ (clock : ℕ → ℕ). StandsAs one_packet 1 clock heard_by_host 0 host_dues) (sym host_clock)
    (stands fast fast_due one_packet 1 heard_by_host fast_dues (record { tick = 0; device = host_0 }) (drop 1 host_dues) refl refl refl all_steps)
