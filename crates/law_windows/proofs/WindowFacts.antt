-- The laws of all windows, by the walk.
use Rattle.std.proofs.Common.{◌≡◌, ℕ, ◌<◌, ◌≤◌, List, true, Option, Contains, IfSome, subst, arith}
use Rattle.scenario_text.specs.ScenarioParts.{ScenarioParts}
use Rattle.scenario_text.specs.FloodParts.{knows}
use Rattle.radio_model.specs.declared.sending.Sending.{Sending}
use Rattle.radio_model.specs.Hearing.{frame_of_sending, slot_of_sending}
use Rattle.air_log.specs.declared.entry.Entry.{Entry}
use Rattle.air_log.specs.Entries.{sendings_of}
use Rattle.air_log.specs.Trails.{run_end}
use Rattle.air_log.specs.WindowLogs.{WindowLog, Closing}
use Rattle.lwb_base.proofs.Elements.{not_in_none}
use Rattle.law_trails.specs.TrailLinks.{device_in}
use Rattle.law_safety.specs.Invariant.{IsObedientRun}
use Rattle.law_safety.proofs.InvariantHolds.{all_rows}
use Rattle.law_windows.specs.WindowLaws.{DeliveriesAreOfWindows, WindowsCloseByRows, WindowsCloseInTime, WindowsOpenByRows, WindowsOpenInTime}
use Rattle.law_windows.specs.WindowLaws.{WindowsStandByPower}
use Rattle.law_windows.specs.WindowLaws.{WindowsAreApart, OneWindowASlot, SlotsKeepApart, WindowsCoverTheirSlot, FloodsAreHistory, HistoryIsOnAir}
use Rattle.law_windows.specs.WindowLaws.{NodesSendAsCalled, HearingsHappen, RoundsAreChained, RadiosAreOnInWindows}
use Rattle.law_windows.proofs.OpenedByRows.{IsOfRows, rows_steps}
use Rattle.law_windows.proofs.TimedWindows.{IsTimed, times_steps}
use Rattle.scenario_text.specs.Setups.{setup_of}
use Rattle.law_windows.specs.OpenWindows.{HasClosedBy}
use Rattle.law_windows.specs.WindowFloods.{WindowHasFlood}
use Rattle.law_windows.specs.WindowTimes.{ClosesInTime}
use Rattle.law_windows.proofs.WindowFloods.{flood_steps}
use Rattle.law_windows.proofs.WindowHistory.{IsHistory, history_steps}
use Rattle.law_windows.specs.WindowCalls.{SendsAsCalled}
use Rattle.law_windows.proofs.CallsInWindows.{calls_steps}
use Rattle.law_windows.proofs.SendingWalk.{sendings_before}
use Rattle.law_windows.specs.WindowHistory.{HearsAll}
use Rattle.law_windows.proofs.HeardThroughout.{heard_steps}
use Rattle.law_windows.proofs.ChainWalk.{chained_before}
use Rattle.law_windows.proofs.WindowRadios.{tuned_in_windows}
use Rattle.law_windows.proofs.OneWindow.{one_window}
use Rattle.law_windows.proofs.SlotTimes.{ends_before, ends_in_slot_of, lies_in_window}
use Rattle.law_windows.proofs.WindowWalk.{windows_before}

pub open_by_rows : WindowsOpenByRows
open_by_rows s clocks air run v known t within w there =
    ((windows_before s clocks air v (λ now taken w. IsOfRows s clocks v w) all_rows run known
    (λ u at. rows_steps s clocks v air u) t within).each w there).opens

pub close_by_rows : WindowsCloseByRows
close_by_rows s clocks air run v known t within w there =
    ((windows_before s clocks air v (λ now taken w. IsOfRows s clocks v w) all_rows run known
    (λ u at. rows_steps s clocks v air u) t within).each w there).closes

pub open_in_time : WindowsOpenInTime
open_in_time s clocks air run v known t within w there =
    ((windows_before s clocks air v (λ now taken w. IsTimed s clocks air v w) all_rows run known
    (λ u at. times_steps s clocks air v u at) t within).each w there).opens

pub close_in_time : WindowsCloseInTime
close_in_time s clocks air run v known t within w there =
    ((windows_before s clocks air v (λ now taken w. IsTimed s clocks air v w) all_rows run known
    (λ u at. times_steps s clocks air v u at) t within).each w there).closes

pub stand_by_power : WindowsStandByPower
stand_by_power s clocks air run v known t within =
    (windows_before s clocks air v (λ now taken w. IsOfRows s clocks v w) all_rows run known (λ u at. rows_steps s clocks v air u) t within).stand

pub windows_apart : WindowsAreApart
windows_apart s clocks air run v known t within =
    (windows_before s clocks air v (λ now taken w. IsOfRows s clocks v w) all_rows run known (λ u at. rows_steps s clocks v air u) t within).apart

pub deliveries_of_windows : DeliveriesAreOfWindows
deliveries_of_windows s clocks air run v known t within =
    (windows_before s clocks air v (λ now taken w. IsOfRows s clocks v w) all_rows run known (λ u at. rows_steps s clocks v air u) t within).delivered

-- a window closes after it has opened
pub closes_later : (s : ScenarioParts) (clocks : ℕ → ℕ → ℕ) (air : List Entry) (run : IsObedientRun s clocks air) (v : ℕ)
    → knows s.nodes v ≡ true → (t : ℕ) → t ≤ run_end s → (w : WindowLog) → Contains (device_in s clocks air v t).made.windows w → HasClosedBy w.opened w → ⊥
closes_later s clocks air run v known t within w there by =
    let timed = open_in_time s clocks air run v known t within w there in
    let closes = subst (λ (o : Option Closing). IfSome o (ClosesInTime s clocks air v w)) by.is (close_in_time s clocks air run v known t within w there) in
    let early = timed.early in
    let before = by.by in
    omega (arith, closes, early, before)

pub slots_apart : SlotsKeepApart
slots_apart s clocks air run v known t within w there =
    ends_in_slot_of all_rows s clocks air run v known w (open_by_rows s clocks air run v known t within w there)
    (open_in_time s clocks air run v known t within w there)

pub slot_covered : WindowsCoverTheirSlot
slot_covered s clocks air run v known t within w there =
    lies_in_window all_rows s clocks air run v known w (open_by_rows s clocks air run v known t within w there)
    (open_in_time s clocks air run v known t within w there)

-- a transmission of an earlier slot of the round has ended before the window opens
pub ends_before_opening : (s : ScenarioParts) (clocks : ℕ → ℕ → ℕ) (air : List Entry) (run : IsObedientRun s clocks air) (v : ℕ)
    → knows s.nodes v ≡ true → (t : ℕ) → t ≤ run_end s → (w : WindowLog) → Contains (device_in s clocks air v t).made.windows w
    → (x : Sending) → Contains (sendings_of air) x → x.rank ≡ w.rank → frame_of_sending s.profile x ≡ w.frame → slot_of_sending x < w.slot → x.end < w.opened
ends_before_opening s clocks air run v known t within w there x sent channel frame earlier =
    let timed = open_in_time s clocks air run v known t within w there in
    ends_before all_rows s clocks air run v known w (open_by_rows s clocks air run v known t within w there) timed x sent channel frame
    w.by_alarm timed.by earlier

pub floods_of_windows : FloodsAreHistory
floods_of_windows s clocks air run v known t within w there =
    (windows_before s clocks air v (λ now taken w. WindowHasFlood (setup_of s v) w) all_rows run known
    (λ u at. flood_steps s clocks air v u at) t within).each w there

pub history_on_air : HistoryIsOnAir
history_on_air s clocks air run v known t within w there =
    ((windows_before s clocks air v (λ now taken w. IsHistory s clocks air v now w) all_rows run known
    (λ u at. history_steps s clocks air v u at) t within).each w there).happened

pub sends_as_called : NodesSendAsCalled
sends_as_called s clocks air run v known t within =
    sendings_before s clocks air v (SendsAsCalled s clocks v) all_rows run known (record {
      called = λ x there. absurd (not_in_none x there);
      answered = λ w tick packet there call. absurd (not_in_none w there);
      ordered_for = tt;
      ended = λ x there. absurd (not_in_none x there);
    }) (λ u at. calls_steps s clocks air v u at) t within

pub one_a_slot : OneWindowASlot
one_a_slot s clocks air run v known t within x y first second same =
    one_window all_rows s clocks air run v known _ (windows_apart s clocks air run v known t within)
    (λ w there. open_by_rows s clocks air run v known t within w there)
    (λ w there. open_in_time s clocks air run v known t within w there)
    (λ w there. close_in_time s clocks air run v known t within w there)
    x y first second same

pub hearings_happen : HearingsHappen
hearings_happen s clocks air run v known t within w there =
    (windows_before s clocks air v (λ now taken w. HearsAll air v taken w) all_rows run known (λ u at. heard_steps s clocks air v u at) t within).each w there

pub rounds_chained : RoundsAreChained
rounds_chained s clocks air run v known t within = chained_before s clocks air v all_rows run known t within

pub radios_on : RadiosAreOnInWindows
radios_on = tuned_in_windows all_rows
