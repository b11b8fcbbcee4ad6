-- Laws of all windows of all nodes of a run.
use Rattle.std.specs.Prelude.{◌≡◌, ℕ, ◌/◌, ◌≤◌, List, true, Contains}
use Rattle.std.specs.Option.{IfSome}
use Rattle.scenario_text.specs.ScenarioParts.{ScenarioParts}
use Rattle.scenario_text.specs.FloodParts.{knows}
use Rattle.air_log.specs.declared.entry.Entry.{Entry}
use Rattle.air_log.specs.WindowLogs.{WindowLog}
use Rattle.air_log.specs.Devices.{Device}
use Rattle.air_log.specs.Lawful.{Lawful, trail_in}
use Rattle.scenario_text.specs.Setups.{setup_of}
use Rattle.air_log.specs.Trails.{run_end, frame_start}
use Rattle.law_trails.specs.TrailLinks.{device_in}
use Rattle.law_safety.specs.Invariant.{IsDrivenWell, IsObedientRun}
use Rattle.law_windows.specs.WindowRows.{IsOpened, ClosesAs}
use Rattle.law_windows.specs.WindowTimes.{IsInTime, ClosesInTime}
use Rattle.law_windows.specs.WindowDeliveries.{delivered_in}
use Rattle.law_windows.specs.OpenWindows.{CloseBeforeNext, AreClosed, SameWindowSlot, StandBy}
use Rattle.law_windows.specs.WindowEvents.{WindowHasEvents}
use Rattle.law_windows.specs.ScannedSchedules.{JoinsFirst}
use Rattle.law_windows.specs.WindowStarts.{ComesFirst}
use Rattle.law_windows.specs.WindowParts.{TakesPart}
use Rattle.law_windows.specs.WindowFloods.{WindowHasFlood}
use Rattle.law_windows.specs.WindowHistory.{HasHappened, HearsAll}
use Rattle.law_windows.specs.WindowChains.{AreChained}
use Rattle.law_windows.specs.WindowRadios.{IsTunedThen}
use Rattle.law_windows.specs.WindowCalls.{SendsAsCalled}
use Rattle.law_windows.specs.SlotParts.{IsForPart, IsOfItsSlot}
use Rattle.law_windows.specs.SlotTimes.{EndsInSlot, LiesInWindow}

-- a law of each device of a run, before each tick
abbrev pub OfAllDevices : (ScenarioParts → (ℕ → ℕ → ℕ) → List Entry → ℕ → ℕ → Device → Type 0) → Type 0
OfAllDevices Is = (s : ScenarioParts) (clocks : ℕ → ℕ → ℕ) (air : List Entry) → IsObedientRun s clocks air
    → (v : ℕ) → knows s.nodes v ≡ true → (t : ℕ) → t ≤ run_end s → Is s clocks air v t (device_in s clocks air v t)

-- a law of each window, as it is before a tick
abbrev pub OfAllWindows : (ScenarioParts → (ℕ → ℕ → ℕ) → List Entry → ℕ → WindowLog → Type 0) → Type 0
OfAllWindows Is = OfAllDevices (λ s clocks air v t d. (w : WindowLog) → Contains d.made.windows w → Is s clocks air v w)

-- each opens and closes by a row of the node table
abbrev pub WindowsOpenByRows : Type 0
WindowsOpenByRows = OfAllWindows (λ s clocks air v w. IsOpened s clocks v w)

abbrev pub WindowsCloseByRows : Type 0
WindowsCloseByRows = OfAllWindows (λ s clocks air v w. IfSome w.closed (ClosesAs s clocks v w))

-- and in time
abbrev pub WindowsOpenInTime : Type 0
WindowsOpenInTime = OfAllWindows (λ s clocks air v w. IsInTime s clocks air v w)

abbrev pub WindowsCloseInTime : Type 0
WindowsCloseInTime = OfAllWindows (λ s clocks air v w. IfSome w.closed (ClosesInTime s clocks air v w))

-- a node is in the last of its windows, or all have closed
abbrev pub WindowsStandByPower : Type 0
WindowsStandByPower = OfAllDevices (λ s clocks air v t d. StandBy d.made.windows d.power)

-- each has closed before the next opened
abbrev pub WindowsAreApart : Type 0
WindowsAreApart = OfAllDevices (λ s clocks air v t d. CloseBeforeNext d.made.windows)

-- and before the next frame starts
abbrev pub WindowsCloseInTheirFrames : Type 0
WindowsCloseInTheirFrames = OfAllDevices (λ s clocks air v t d. frame_start s (t / s.profile.frame) ≡ t → AreClosed d.made.windows)

-- and none has the slot of another
abbrev pub OneWindowASlot : Type 0
OneWindowASlot = OfAllDevices (λ s clocks air v t d. (x y : WindowLog) → Contains d.made.windows x → Contains d.made.windows y
    → SameWindowSlot x y → x ≡ y)

-- its deliveries are those of its windows that have closed
abbrev pub DeliveriesAreOfWindows : Type 0
DeliveriesAreOfWindows = OfAllDevices (λ s clocks air v t d. d.made.deliveries ≡ delivered_in (setup_of s v) d.made.windows)

-- what ends on the channel and in the frame of a window while it is open is of its slot
abbrev pub SlotsKeepApart : Type 0
SlotsKeepApart = OfAllWindows (λ s clocks air v w. EndsInSlot s clocks air v w)

-- what is sent in the slot of a window lies in it
abbrev pub WindowsCoverTheirSlot : Type 0
WindowsCoverTheirSlot = OfAllWindows (λ s clocks air v w. LiesInWindow s clocks air v w)

-- the flood of each is what happened in it
abbrev pub FloodsAreHistory : Type 0
FloodsAreHistory = OfAllWindows (λ s clocks air v w. WindowHasFlood (setup_of s v) w)

-- and that is on the air
abbrev pub HistoryIsOnAir : Type 0
HistoryIsOnAir = OfAllWindows (λ s clocks air v w. HasHappened s air v w)

-- a node sends what its windows call for, and nothing else
abbrev pub NodesSendAsCalled : Type 0
NodesSendAsCalled = OfAllDevices (λ s clocks air v t d. SendsAsCalled s clocks v d.made.windows d.ordered d.sending d.made.sent)

-- what its node receives while a window is open has happened in it
abbrev pub HearingsHappen : Type 0
HearingsHappen = OfAllDevices (λ s clocks air v t d. (w : WindowLog) → Contains d.made.windows w → HearsAll air v t w)

-- the windows of a round follow one another
abbrev pub RoundsAreChained : Type 0
RoundsAreChained = OfAllDevices (λ s clocks air v t d. AreChained d.made.windows d.power)

-- how long radios are on in them
abbrev pub RadiosAreOnInWindows : Type 0
RadiosAreOnInWindows = OfAllDevices (λ s clocks air v t d. (w : WindowLog) → Contains d.made.windows w → IsTunedThen s air v t w)

-- the first windows of a frame open at their node as the frame has found it
abbrev pub FramesBeginSo : Type 0
FramesBeginSo = OfAllWindows (λ s clocks air v w. ComesFirst s clocks air v w)

-- a scanning node joins by the first schedule of its rank that it receives in a frame
abbrev pub ScannersJoinFirst : Type 0
ScannersJoinFirst = OfAllWindows (λ s clocks air v w. JoinsFirst s air v w)

-- the part that a window goes by is that of its slot
abbrev pub WindowsAreForTheirPart : Type 0
WindowsAreForTheirPart = OfAllWindows (λ s clocks air v w. IsForPart s air w)

-- and their floods are of it
abbrev pub FloodsAreOfTheirSlot : Type 0
FloodsAreOfTheirSlot = OfAllWindows (λ s clocks air v w. IsOfItsSlot s w)

-- so at all nodes windows of one slot go by one part
abbrev pub OnePartASlot : Type 0
OnePartASlot = (s : ScenarioParts) (clocks : ℕ → ℕ → ℕ) (air : List Entry) → IsObedientRun s clocks air
    → (v u : ℕ) → knows s.nodes v ≡ true → knows s.nodes u ≡ true
    → (w x : WindowLog) → Contains (trail_in s clocks air v).made.windows w → Contains (trail_in s clocks air u).made.windows x
    → SameWindowSlot w x → w.last.part ≡ x.last.part

-- a law of each window of a valid log
abbrev pub OfLawfulWindows : (ScenarioParts → (ℕ → ℕ → ℕ) → List Entry → ℕ → WindowLog → Type 0) → Type 0
OfLawfulWindows Is = (s : ScenarioParts) (clocks : ℕ → ℕ → ℕ) (air : List Entry) → IsDrivenWell s clocks → Lawful s clocks air
    → (v : ℕ) → knows s.nodes v ≡ true → (w : WindowLog) → Contains (trail_in s clocks air v).made.windows w
    → Is s clocks air v w

-- its events are what its node receives and sends in its slot
abbrev pub WindowsHaveEvents : Type 0
WindowsHaveEvents = OfLawfulWindows (λ s clocks air v w. WindowHasEvents s air v w)

-- and by these its node takes part in the flood of the slot
abbrev pub NodesTakePart : Type 0
NodesTakePart = OfLawfulWindows (λ s clocks air v w. TakesPart s clocks air v w)
