-- Schedules that are the same but for the counter have one gap.
use Rattle.std.proofs.Common.{◌≡◌, ℕ, ◌≤◌, List, Some, ◌∙◌}
use Rattle.lwb_packets.specs.Body.{body}
use Rattle.glossy_relay.specs.Relaying.{counter_of}
use Rattle.bus_rules.specs.Slots.{ScheduleOf}
use Rattle.lwb_member.specs.Said.{message_of}
use Rattle.law_trails.proofs.OtherCounters.{bodies_same}
use Rattle.law_trails.proofs.SaidPackets.{says, schedule_read}
use Rattle.bus_time.specs.Gaps.{IsGapOf}
use Rattle.bus_time.proofs.FoundWords.{schedule_said}

pub same_gap : (p q : List ℕ) (gap : ℕ) → counter_of p ≤ 11 → body p ≡ body q → IsGapOf q gap → IsGapOf p gap
same_gap p q gap few same is =
    let y = is.0 in
    let said : message_of q ≡ Some (ScheduleOf y) = schedule_said q y is.1 in
    let also : counter_of q ≤ 11 = (says q (ScheduleOf y) said).counter in
    (y, schedule_read p y (bodies_same p q few also same ∙ said), is.2)
