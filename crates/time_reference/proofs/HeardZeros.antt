-- The zero that is taken from a schedule, against the clock's reading at its initiator's start.
use Rattle.std.proofs.Common.{◌≡◌, ℕ, zero, suc, ◌+◌, ◌*◌, ◌-◌, ◌^◌, ◌<◌, ◌≤◌, arith}
use Rattle.lwb_base.specs.Profile.{Numbers, IsProfile, airtime, step}
use Rattle.tick_clock.specs.Clocks.{Near, IsClock}
use Rattle.time_reference.specs.Budgets.{Budget, Fits, span}
use Rattle.time_reference.specs.Drift.{drift}
use Rattle.time_reference.specs.Floods.{Relayed}
use Rattle.time_reference.specs.Reference.{IsHeardWhole, heard_zero, slot_time, times_of}
use Rattle.time_reference.proofs.Steps.{reference_error, of_61, of_74}
use Rattle.time_reference.specs.Zeros.{Ref, start_tick}
use Rattle.time_reference.proofs.BudgetRoom.{packets_last}
use Rattle.time_reference.proofs.Points.{heard_now, no_clamp}
use Rattle.time_reference.proofs.ProfileSizes.{sizes}

pub relays_near : (p : Numbers) (n origin k s : ℕ) → Relayed p n origin k s → Near s (origin + k * step p n) k
relays_near p n origin zero s is = omega (arith, is)
relays_near p n origin (suc k) s relayed = let near = relays_near p n origin k relayed.0 relayed.1 in omega (arith, near, relayed.2)

pub zero_errs : (p : Numbers) (own : ℕ → ℕ) (n k s origin start j bound : ℕ) → IsClock own → 1 ≤ step p n → k ≤ 11
    → Near s (origin + k * step p n) k → s + airtime p n ≤ 2 ^ 48
    → own (s + airtime p n) ≡ start + airtime p n → drift (span p n + 11) + 12 ≤ bound → p.listen + j * p.slot + bound ≤ own origin
    → (start ≡ heard_zero p start k n j + (k * step p n + p.listen + j * p.slot)) × Near (heard_zero p start k n j + j * p.slot + p.listen) (own origin) bound
zero_errs p own n k s origin start j bound clock some few near early told small late =
    let error = reference_error p own n k s origin clock some few near early in
    let room : k * step p n + p.listen + j * p.slot ≤ start = omega arith in
    let z : ℕ = start - (k * step p n + p.listen + j * p.slot) in
    let is : start ≡ z + (k * step p n + p.listen + j * p.slot) = omega arith in
    (is, omega arith)

-- what a reference tells of its own slot
pub slot_errs : (p : Numbers) (own : ℕ → ℕ) (origin start c n j bound : ℕ) → IsProfile p → start < 2 ^ 46 → IsHeardWhole p own origin start c n j
    → bound ≤ 55 → drift (span p n + 11) + 12 ≤ bound
    → Near (slot_time (times_of p (heard_zero p start c n j)) j + p.listen) (own origin) bound
slot_errs p own origin start c n j bound made small heard few errs =
    let size = sizes p made in
    let near = relays_near p n origin c heard.begin heard.relayed in
    let zero = zero_errs p own n c heard.begin origin start j bound heard.clock (omega arith) heard.few near heard.early heard.told errs
    (omega (arith, heard.late)) in
    omega (arith, zero)

pub errs_48 : (p : Numbers) (own : ℕ → ℕ) (origin start c n j : ℕ) → IsProfile p → start < 2 ^ 46 → IsHeardWhole p own origin start c n j → n ≤ 61
    → Near (slot_time (times_of p (heard_zero p start c n j)) j + p.listen) (own origin) 48
errs_48 p own origin start c n j made small heard short =
    let size = sizes p made in
    slot_errs p own origin start c n j 48 made small heard (omega arith) (of_61 p n size.byte size.turn short)

pub errs_55 : (p : Numbers) (own : ℕ → ℕ) (origin start c n j : ℕ) → IsProfile p → start < 2 ^ 46 → IsHeardWhole p own origin start c n j → n ≤ 74
    → Near (slot_time (times_of p (heard_zero p start c n j)) j + p.listen) (own origin) 55
errs_55 p own origin start c n j made small heard short =
    let size = sizes p made in
    slot_errs p own origin start c n j 55 made small heard (omega arith) (of_74 p n size.byte size.turn short)

pub gives_zero : (p : Numbers) (b : Budget) → Fits p b → (H L : ℕ → ℕ) (c j n k s start : ℕ) → IsClock H → IsClock L → 1 ≤ c → c ≤ 4095 → j ≤ b.last → k ≤ 11
    → Near s (start_tick p H c j + k * step p n) k → s + airtime p n ≤ 2 ^ 48 → L (s + airtime p n) ≡ start + airtime p n → drift (span p n + 11) + 12 ≤ 55
    → (start ≡ heard_zero p start k n j + (k * step p n + p.listen + j * p.slot)) × Ref p b H L (heard_zero p start k n j) c c j
gives_zero p b fits H L c j n k s start host clock begun within slot few near early told small =
    let some = packets_last p b fits n in
    let late = no_clamp p b fits H L c j host clock begun within slot in
    let zero = zero_errs p L n k s (start_tick p H c j) start j 55 clock (omega arith) few near early told small late in
    let y : ℕ = heard_zero p start k n j + j * p.slot + p.listen in
    (zero.0, heard_now p b fits H L (heard_zero p start k n j) c j y begun within slot zero.1 (omega arith))
