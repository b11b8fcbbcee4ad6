-- At each point of a tick what is set at a node is of this tick or of a later one.
use Rattle.std.proofs.Common.{ℕ, suc, ◌<◌, ◌≤◌, List, Some, None, Option, IfSome, inl, inr, sym, subst, arith}
use Rattle.tick_clock.specs.Clocks.{IsClock}
use Rattle.event_calendar.specs.declared.class.Class.{Class}
use Rattle.event_calendar.specs.declared.class.Class.TheVariants.{SendingEnd, Alarm, SendingStart}
use Rattle.radio_model.specs.declared.sending.Sending.{Sending}
use Rattle.scenario_text.specs.ScenarioParts.{ScenarioParts}
use Rattle.scenario_text.specs.ScenarioFacts.{IsSoundScenario}
use Rattle.air_log.specs.Devices.{Device, OrderedPacket}
use Rattle.scenario_text.specs.Setups.{setup_of}
use Rattle.air_log.specs.Trails.{Reception, run_end, device_after_script, device_after_receptions, device_after_end, alarmed, before_tick}
use Rattle.air_log.specs.Ahead.{IsAhead}
use Rattle.air_log.proofs.KeptByEvents.{in_hearings, in_end, in_alarms}
use Rattle.air_log.proofs.NextDue.{is_ahead, Ahead, kept_ahead}
use Rattle.world_engine.specs.Moments.{At, IsAtMoment}

as_record : (t : ℕ) (d : Device) → Ahead t d → IsAhead t d
as_record t d ahead = record { alarm = ahead.0; ordered = ahead.1; sending = ahead.2 }

earlier_alarm : (t : ℕ) (a : Option ℕ) → IfSome a (λ tick. suc t ≤ tick) → IfSome a (λ tick. t ≤ tick)
earlier_alarm t None ahead = tt
earlier_alarm t (Some tick) ahead = omega (arith, ahead)

earlier_start : (t : ℕ) (o : Option OrderedPacket) → IfSome o (λ y. suc t ≤ y.tick) → IfSome o (λ y. t ≤ y.tick)
earlier_start t None ahead = tt
earlier_start t (Some o) ahead = omega (arith, ahead)

earlier_end : (t : ℕ) (x : Option Sending) → IfSome x (λ y. suc t ≤ y.end) → IfSome x (λ y. t ≤ y.end)
earlier_end t None ahead = tt
earlier_end t (Some x) ahead = omega (arith, ahead)

pub earlier : (t : ℕ) (d : Device) → IsAhead (suc t) d → IsAhead t d
earlier t d ahead = record {
  alarm = earlier_alarm t d.alarm ahead.alarm;
  ordered = earlier_start t d.ordered ahead.ordered;
  sending = earlier_end t d.sending ahead.sending;
}

module _ (s : ScenarioParts) (v : ℕ) (clock : ℕ → ℕ) (hs : List Reception) (t : ℕ) (sound : IsSoundScenario s) (drifts : IsClock clock)
    (within : t < run_end s) where
  abbrev before : Device
  before = before_tick s v clock hs t

  abbrev heard_all : Device
  heard_all = device_after_receptions clock (setup_of s v) t hs (device_after_script s v clock t before)

  before_ahead : Ahead t before
  before_ahead = let is = is_ahead s v clock hs sound drifts t (omega (arith, within)) in (is.alarm, is.ordered, is.sending)

  heard_ahead : Ahead t heard_all
  heard_ahead = in_hearings (Ahead t) s v clock hs t before (kept_ahead clock (setup_of s v) t) before_ahead

  ended_ahead : Ahead t (device_after_end clock (setup_of s v) t heard_all)
  ended_ahead = in_end (Ahead t) clock (setup_of s v) t heard_all (kept_ahead clock (setup_of s v) t) heard_ahead

  alarmed_ahead : Ahead t (alarmed clock (setup_of s v) t (device_after_end clock (setup_of s v) t heard_all))
  alarmed_ahead = in_alarms (Ahead t) clock (setup_of s v) t (device_after_end clock (setup_of s v) t heard_all) (kept_ahead clock (setup_of s v) t) ended_ahead

  pub ahead_at : (c : Class) (d : Device) → IsAtMoment s clock hs v t (At c) d → IsAhead t d
  ahead_at SendingEnd d (inl at) = subst (IsAhead t) (sym at) (as_record t _ heard_ahead)
  ahead_at SendingEnd d (inr at) = subst (IsAhead t) (sym at) (as_record t _ ended_ahead)
  ahead_at Alarm d (inl at) = subst (IsAhead t) (sym at) (as_record t _ ended_ahead)
  ahead_at Alarm d (inr at) = subst (IsAhead t) (sym at) (as_record t _ alarmed_ahead)
  ahead_at SendingStart d (inl at) = subst (IsAhead t) (sym at) (as_record t _ alarmed_ahead)
  ahead_at SendingStart d (inr at) =
      let next = before_tick s v clock hs (suc t) in
      subst (IsAhead t) (sym at) (earlier t next (is_ahead s v clock hs sound drifts (suc t) (omega (arith, within))))
