-- What a device was tuned to before a tick, at each moment of the tick.
use Rattle.std.proofs.Common.{ℕ, List, inl, inr, ◌==◌, ◌&&◌, filter, sym, subst}
use Rattle.event_calendar.specs.declared.class.Class.{Class}
use Rattle.event_calendar.specs.declared.class.Class.TheVariants.{SendingEnd, Alarm as AlarmOf, SendingStart}
use Rattle.scenario_text.specs.ScenarioParts.{ScenarioParts}
use Rattle.air_log.specs.Devices.{Device}
use Rattle.scenario_text.specs.Setups.{setup_of}
use Rattle.air_log.specs.Trails.{Reception, frame_start, before_tick, before_start}
use Rattle.air_log.proofs.KeptByEvents.{IsKept, in_hearings, in_end, in_tick}
use Rattle.air_log.proofs.TunedBefore.{HasTunedBy, As, kept, stays_same, lines_as, begun_stays, tick_by}
use Rattle.world_engine.specs.Moments.{TickMoment, Before, InLines, At, device_at_point, after_point, IsAtMoment}

module _ (s : ScenarioParts) (v : ℕ) (clock : ℕ → ℕ) (hs : List Reception) (t : ℕ) where
  first : Device
  first = before_tick s v clock hs t

  abbrev Now : Device → Type 0
  Now = As clock (setup_of s v) t first.made.tuned first.listening

  all_kept : IsKept Now clock (setup_of s v) t
  all_kept = kept clock (setup_of s v) t first.made.tuned first.listening

  at_first : Now (before_tick s v clock hs t)
  unfolding first
  at_first = stays_same t first.made.tuned first.listening (tick_by s v clock hs t)

  point_by : (class : Class) → HasTunedBy t (device_at_point s v clock hs t class)
  point_by SendingEnd = (in_hearings Now s v clock hs t (before_tick s v clock hs t) all_kept at_first).by
  point_by AlarmOf = (in_end Now clock (setup_of s v) t _ all_kept (in_hearings Now s v clock hs t (before_tick s v clock hs t) all_kept at_first)).by
  point_by SendingStart = (in_tick Now s v clock hs t (before_tick s v clock hs t) all_kept at_first).by

  after_point_by : (class : Class) → HasTunedBy t (after_point s v clock hs t class)
  unfolding before_tick
  after_point_by SendingEnd = point_by AlarmOf
  after_point_by AlarmOf = point_by SendingStart
  after_point_by SendingStart = (begun_stays (setup_of s v) t (before_start s v clock hs t (before_tick s v clock hs t)) (point_by SendingStart)).by

  pub moment_by : (m : TickMoment) (d : Device) → IsAtMoment s clock hs v t m d → HasTunedBy t d
  moment_by Before d is = subst (HasTunedBy t) (sym is) (tick_by s v clock hs t)
  moment_by (InLines told) d is =
      subst (HasTunedBy t) (sym is)
      (lines_as clock (setup_of s v) t first.made.tuned first.listening (before_tick s v clock hs t)
      (filter (λ l. (l.node == v) && (frame_start s l.frame == t)) told) at_first).by
  moment_by (At class) d is = elim is [
    | inl here ↦ subst (HasTunedBy t) (sym here) (point_by class)
    | inr after ↦ subst (HasTunedBy t) (sym after) (after_point_by class)
  ]
