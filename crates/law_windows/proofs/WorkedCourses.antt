-- The courses of node 2 in the worked rounds of one packet, by computation.
use Rattle.std.proofs.Common.{ℕ, zero, suc, ◌<◌, ◌≤◌, List, [], ◌∷◌, length, get_or, refl, ap, arith}
use Rattle.lwb_base.specs.Messages.{least_passing}
use Rattle.schedule_codec.specs.Packing.{digits, packed_number}
use Rattle.schedule_codec.specs.Reading.{schedule_of, asks_in}
use Rattle.bus_rules.specs.Streams.{schedule_heard}
use Rattle.scenario_text.specs.ScenarioParts.{ScenarioParts}
use Rattle.air_log.specs.Devices.{Device, state_of_power}
use Rattle.scenario_text.specs.Setups.{setup_of}
use Rattle.air_log.specs.Trails.{Reception, before_tick, one_alarm, device_after_script}
use Rattle.air_log.specs.WindowLogs.{WindowLog}
use Rattle.law_trails.specs.DueDevices.{DueDevice, IsDeviceWithWindows, StandsAs}
use Rattle.law_trails.specs.OnePacket.{drifting, heard_by_member, one_packet}
use Rattle.law_trails.specs.OnePacketMember.{member_29, member_30, member_31, member_32, member_36, member_dues, member_late}
use Rattle.law_trails.proofs.DriftingClocks.{member_clock}
use Rattle.law_trails.proofs.MemberSteps.{member_stands}
use Rattle.law_windows.specs.WorkedCourses.{AwaitsInFrame9, ClosesSlot0, EndsFrame5, OpensSlot0, OpensSlot1, RestsInFrame7, StandsInFrame7And9}

-- from the tick after the one before on
abbrev from_of : ℕ → List DueDevice → ℕ → ℕ
from_of a [] i = a
from_of a (x ∷ xs) zero = a
from_of a (x ∷ xs) (suc i) = from_of (suc x.tick) xs i

stands_within : (s : ScenarioParts) (v : ℕ) (clock : ℕ → ℕ) (hs : List Reception) (a : ℕ) (xs : List DueDevice) → StandsAs s v clock hs a xs
    → (i : ℕ) (d : DueDevice) → i < length xs → (t : ℕ) → from_of a xs i ≤ t → t ≤ (get_or xs i d).tick
    → IsDeviceWithWindows (before_tick s v clock hs t) (get_or xs i d).device
stands_within s v clock hs a [] stands i d within t from until = absurd (omega (arith, within))
stands_within s v clock hs a (x ∷ xs) stands zero d within t from until = stands.0 t from until
stands_within s v clock hs a (x ∷ xs) stands (suc i) d within t from until =
    stands_within s v clock hs (suc x.tick) xs stands.1 i d (omega (arith, within)) t from until

-- the device of node 2 before the first tick of a frame
abbrev Before : ℕ → (List WindowLog → Device) → Type 0
Before t device = IsDeviceWithWindows (before_tick one_packet 2 (drifting 2) heard_by_member t) device

abbrev none : DueDevice
none = record { tick = 0; device = member_29 }

before_6 : Before 1536000000 member_29
before_6 = stands_within one_packet 2 (drifting 2) heard_by_member 0 member_dues member_stands 29 none (omega arith) 1536000000 (omega arith) (omega arith)

before_7 : Before 1792000000 member_30
before_7 = stands_within one_packet 2 (drifting 2) heard_by_member 0 member_dues member_stands 30 none (omega arith) 1792000000 (omega arith) (omega arith)

before_8 : Before 2048000000 member_31
before_8 = stands_within one_packet 2 (drifting 2) heard_by_member 0 member_dues member_stands 31 none (omega arith) 2048000000 (omega arith) (omega arith)

before_9 : Before 2304000000 member_32
before_9 = stands_within one_packet 2 (drifting 2) heard_by_member 0 member_dues member_stands 32 none (omega arith) 2304000000 (omega arith) (omega arith)

pub ends_5 : EndsFrame5
ends_5 = ap (λ (d : Device). state_of_power d.power) before_6.is

pub rests_7 : RestsInFrame7
rests_7 = (
  ap (λ (d : Device). (device_after_script one_packet 2 (drifting 2) 1792000000 d).power) before_7.is,
  ap (λ (d : Device). state_of_power d.power) before_8.is,
)

pub awaits_9 : AwaitsInFrame9
awaits_9 = ap (λ (d : Device). (device_after_script one_packet 2 (drifting 2) 2304000000 d).power) before_9.is

pub stands : StandsInFrame7And9
stands = (record { place = refl; fresh = refl }, record { place = refl; fresh = refl })

-- windows by the clock in numbers
abbrev windows_by : (ℕ → ℕ) → ℕ → Device → List WindowLog
windows_by clock t d = (one_alarm clock (setup_of one_packet 2) t d).made.windows

pub opens_0 : OpensSlot0
unfolding least_passing digits packed_number schedule_of asks_in schedule_heard
opens_0 ws = ap (λ (clock : ℕ → ℕ). windows_by clock 2367993428 (member_32 ws)) member_clock

pub closes_0 : ClosesSlot0
unfolding least_passing digits packed_number schedule_of asks_in schedule_heard
closes_0 x ws = ap (λ (clock : ℕ → ℕ). windows_by clock 2370089470 (member_36 (x ∷ ws))) member_clock

pub opens_1 : OpensSlot1
unfolding least_passing digits packed_number schedule_of asks_in schedule_heard
opens_1 ws = ap (λ (clock : ℕ → ℕ). windows_by clock 2370089470 (member_late ws)) member_clock
