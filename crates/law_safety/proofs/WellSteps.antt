-- The device of a node of a run is in its ranges at each step that a row is about.
use Rattle.std.proofs.Common.{ℕ, zero, suc, ◌<◌, List, [], ◌∷◌, ◌++◌, fold, ◌==◌, None, sym, subst, arith}
use Rattle.std.specs.List.{AllByRecursion}
use Rattle.std.proofs.lemmas.Bool.{eqb-true}
use Rattle.std.proofs.lemmas.List.Elements.{recursion_from_All}
use Rattle.lwb_base.specs.declared.event.Event.TheVariants.{Heard, Alarm}
use Rattle.scenario_text.specs.ScenarioParts.{ScenarioParts}
use Rattle.air_log.specs.declared.entry.Entry.{Entry}
use Rattle.air_log.specs.AlarmRuns.{after_alarms}
use Rattle.air_log.specs.Devices.{Device}
use Rattle.air_log.specs.Lawful.{heard_by}
use Rattle.scenario_text.specs.Setups.{setup_of}
use Rattle.air_log.specs.Trails.{Reception, ending_at, device_after_reception, device_after_script, before_alarms, before_tick}
use Rattle.law_trails.specs.CoreRanges.{IsSetup}
use Rattle.law_trails.specs.SpokenRanges.{IsFitting, IsProper}
use Rattle.law_trails.specs.DeviceRanges.{IsRanged, IsWellAndProper, HoldsThrough}
use Rattle.law_trails.specs.Phases.{Phase, Lines, Hearings, End, Alarms, Start, Over, IsNextHearing, IsNextAlarm, device_at}
use Rattle.law_trails.proofs.DevicesInRange.{kept_all, event_is}
use Rattle.law_trails.proofs.LogsInRange.{all_heard, all_through}
use Rattle.law_trails.proofs.RelayedMessages.{proper_rules}
use Rattle.law_trails.proofs.TrailsInRange.{set}
use Rattle.law_safety.specs.KnownInRows.{WellAtHearings, WellAtAlarms, WellInPhases}
use Rattle.law_safety.specs.Rows.{AtTick}
use Rattle.law_safety.proofs.RunFacts.{known_id}

-- of the first of two lists
of_first : {X : Type 0} (P : X → Type 0) (xs ys : List X) → AllByRecursion P (xs ++ ys) → AllByRecursion P xs
of_first P [] ys all = tt
of_first P (x ∷ xs) ys all = (all.0, of_first P xs ys all.1)

module _ (s : ScenarioParts) (clocks : ℕ → ℕ → ℕ) (air : List Entry) (v t : ℕ) (at : AtTick s clocks air v t) where
  abbrev hs : List Reception
  hs = heard_by air v

  abbrev ranged : Device → Type 0
  ranged d = IsRanged (IsProper s.profile) (setup_of s v) d

  is_set : IsSetup (setup_of s v)
  is_set = let id = known_id s at.run.driven.sound v at.known in set s at.run.driven.sound v id.0 id.1

  through : HoldsThrough (IsWellAndProper s v) s v (clocks v) hs t
  through =
      let id = known_id s at.run.driven.sound v at.known in
      all_through s at.run.driven.sound clocks air at.run.heedful.trails (λ u x there. (at.run.heedful.heard u x there).sent) v t id.0 id.1

  later : HoldsThrough (IsWellAndProper s v) s v (clocks v) hs (suc t)
  later =
      let id = known_id s at.run.driven.sound v at.known in
      all_through s at.run.driven.sound clocks air at.run.heedful.trails (λ u x there. (at.run.heedful.heard u x there).sent) v (suc t) id.0 id.1

  in_phase : (phase : Phase) → ranged (device_at s v (clocks v) hs t phase)
  unfolding before_tick
  in_phase Lines = through.before
  in_phase Hearings = through.told
  in_phase End = through.hearing
  in_phase Alarms = through.end
  in_phase Start = through.alarms
  in_phase Over = later.before

  -- what is received fits
  abbrev IsShort : Reception → Type 0
  IsShort h = IsFitting s.profile h.packet

  ending : AllByRecursion IsShort (ending_at t hs)
  ending =
      kept_all (λ (h : Reception). h.end < suc t → IsShort h) IsShort (λ (h : Reception). h.end == t) hs
      (λ h fits now. fits (omega (arith, eqb-true h.end t now)))
      (recursion_from_All (λ (h : Reception). h.end < suc t → IsShort h) hs
      (all_heard s at.run.driven.sound clocks air at.run.heedful.trails (λ u x there. (at.run.heedful.heard u x there).sent) v (suc t)))

  hearings : (taken : List Reception) (d : Device) → AllByRecursion IsShort taken → ranged d
      → ranged (fold (device_after_reception (clocks v) (setup_of s v) t) d taken)
  hearings [] d short is = is
  hearings (h ∷ taken) d short is =
      hearings taken (device_after_reception (clocks v) (setup_of s v) t d h) short.1
      (event_is (setup_of s v) is_set (IsProper s.profile) (IsFitting s.profile) (proper_rules (setup_of s v)) (clocks v) t (Heard h.packet) None d short.0 is)

  at_hearing : (h : Reception) (d : Device) → IsNextHearing s v (clocks v) hs t h d → ranged d
  at_hearing h d next =
      subst ranged (sym next.is)
      (hearings next.taken (device_after_script s v (clocks v) t (before_tick s v (clocks v) hs t))
      (of_first IsShort next.taken (h ∷ next.rest) (subst (AllByRecursion IsShort) next.hearings ending)) through.told)

  alarms : (gone : ℕ) (d : Device) → ranged d → ranged (after_alarms (clocks v) (setup_of s v) t gone d)
  alarms zero d is = is
  alarms (suc gone) d is =
      let e = after_alarms (clocks v) (setup_of s v) t gone d in
      let before = alarms gone d is in
      event_is (setup_of s v) is_set (IsProper s.profile) (IsFitting s.profile) (proper_rules (setup_of s v)) (clocks v) t Alarm None
      (record e { alarm = None }) tt
      (record { power = before.power; ordered = before.ordered; sending = before.sending; sent = before.sent })

  at_alarm : (d : Device) → IsNextAlarm s v (clocks v) hs t d → ranged d
  at_alarm d next = subst ranged (sym next.is) (alarms next.gone (before_alarms s v (clocks v) hs t (before_tick s v (clocks v) hs t)) through.end)

pub well_at_hearings : WellAtHearings
well_at_hearings s clocks air v t at h d next = at_hearing s clocks air v t at h d next

pub well_at_alarms : WellAtAlarms
well_at_alarms s clocks air v t at d next = at_alarm s clocks air v t at d next

pub well_in_phases : WellInPhases
well_in_phases s clocks air v t at phase = in_phase s clocks air v t at phase
