-- Trails are computed from one tick at which something is due to the next. The search for the first tick at which a clock
-- reads a number cannot be computed, so a function that gives the same is put in its place.
use Rattle.std.proofs.Common.{◌≡◌, ℕ, zero, suc, ◌+◌, ◌/◌, ◌<◌, ◌≤◌, IfSome, max, List, [], ◌∷◌, Bool, true, false, not, ◌==◌, ◌&&◌, ◌||◌, nat_lt, nat_le}
use Rattle.std.proofs.Common.{if◌then◌else◌, fold, Option, Some, None, ◌⊎◌, inl, inr, refl, ◌∙◌, ap, subst, arith, ltb-true}
use Rattle.std.proofs.lemmas.Bool.{and_parts, leb-true, eq-eqb}
use Rattle.std.specs.List.{list_all}
use Rattle.std.proofs.Math.Path.{fun_ext}
use Rattle.tick_clock.proofs.DueTicks.{due_at_most, least_found}
use Rattle.lwb_base.specs.declared.event.Event.{Event}
use Rattle.lwb_base.specs.declared.event.Event.TheVariants.{Boot, Alarm, Heard, Sent}
use Rattle.lwb_base.specs.declared.order.Order.{Order}
use Rattle.lwb_base.specs.declared.order.Order.TheVariants.{Listen, Off, SendAt, Alarm as AlarmAt}
use Rattle.tick_clock.specs.Clocks.{due}
use Rattle.radio_model.specs.declared.sending.Sending.{Sending}
use Rattle.scenario_text.specs.ScenarioParts.{ScenarioParts}
use Rattle.bus_rules.specs.declared.act.Act.{Act}
use Rattle.bus_rules.specs.declared.act.Act.TheVariants.{On, Off as SwitchOff}
use Rattle.scenario_text.specs.declared.script.ScriptLine.{ScriptLine}
use Rattle.bus_rules.specs.States.{core_after_act}
use Rattle.bus_rules.specs.Cores.{Setup}
use Rattle.node_core.specs.Nodes.{Node, rebooted}
use Rattle.node_core.specs.Rows.{row}
use Rattle.node_core.specs.Rows.{orders_by}
use Rattle.air_log.specs.Devices.{Device, Power, PowerOff, PowerOn, OrderedPacket, at_rest, silenced, listens_to, device_after_tuning, moved}
use Rattle.air_log.specs.ScriptedDevices.{device_after_off, with_new_core}
use Rattle.scenario_text.specs.Setups.{setup_of}
use Rattle.air_log.specs.Trails.{Reception, frame_start, lines_at, ending_at, alarm_is_due, alarms, alarm_limit, device_after_start, tick}
use Rattle.air_log.specs.Trails.{before_tick}
use Rattle.air_log.specs.Ahead.{NextDue}
use Rattle.lwb_base.proofs.Elements.{all_passes}
use Rattle.lwb_base.proofs.Truths.{implied}
use Rattle.air_log.proofs.NextDue.{until_next}

-- D is in the place of the search
module _ (D : ℕ → ℕ) (clock : ℕ → ℕ) where
  abbrev obeyed : ℕ → ℕ → Device → Order → Device
  obeyed node t d (Listen rank) = if listens_to rank d.listening then d else device_after_tuning rank t (silenced node t d)
  obeyed node t d Off = silenced node t d
  obeyed node t d (SendAt local packet) = record d { ordered = Some (record { tick = max (D local) t; packet = packet }) }
  obeyed node t d (AlarmAt local) = record d { alarm = Some (max (D local) t) }

  abbrev stepped : Setup → ℕ → Event → Option Sending → Device → Node → Device
  stepped s t e ended d n = let r = row s n (clock t) e in fold (obeyed s.id t) (moved t e ended d n r) (orders_by r)

  abbrev event_by : Setup → ℕ → Event → Option Sending → Device → Power → Device
  event_by s t e ended d (PowerOff boots) = d
  event_by s t e ended d (PowerOn n) = stepped s t e ended d n

  abbrev event : Setup → ℕ → Event → Option Sending → Device → Device
  event s t e ended d = event_by s t e ended d d.power

  abbrev after_act : Setup → ℕ → Device → Act → Power → Device
  after_act s t d On (PowerOff boots) = event s t Boot None (record d { power = PowerOn (rebooted (boots + 1)) })
  after_act s t d On (PowerOn n) = d
  after_act s t d SwitchOff (PowerOff boots) = d
  after_act s t d SwitchOff (PowerOn n) = device_after_off s.id t n d
  after_act s t d other (PowerOff boots) = d
  after_act s t d other (PowerOn n) = with_new_core d n (core_after_act other n.core)

  abbrev after_line : Setup → ℕ → Device → ScriptLine → Device
  after_line s t d l = after_act s t d l.act d.power

  abbrev hears : Setup → ℕ → Device → Reception → Device
  hears s t d h = event s t (Heard h.packet) None d

  abbrev ended_by : Setup → ℕ → Device → Option Sending → Device
  ended_by s t d None = d
  ended_by s t d (Some x) = if x.end == t then event s t Sent (Some x) (record d { sending = None }) else d

  abbrev ended : Setup → ℕ → Device → Device
  ended s t d = ended_by s t d d.sending

  abbrev one_alarm : Setup → ℕ → Device → Device
  one_alarm s t d = event s t Alarm None (record d { alarm = None })

  abbrev all_alarms : Setup → ℕ → Bool → ℕ → Device → Device
  all_alarms s t false more d = d
  all_alarms s t true zero d = d
  all_alarms s t true (suc more) d = let after = one_alarm s t d in all_alarms s t (alarm_is_due t after.alarm) more after

  abbrev before_alarms : ScenarioParts → ℕ → List Reception → ℕ → Device → Device
  before_alarms s v hs t d = let x = setup_of s v in ended x t (fold (hears x t) (fold (after_line x t) d (lines_at s v t)) (ending_at t hs))

  abbrev in_tick : ScenarioParts → ℕ → List Reception → ℕ → Device → Device
  in_tick s v hs t d =
      let x = setup_of s v in
      let e = before_alarms s v hs t d in
      device_after_start x t (all_alarms x t (alarm_is_due t e.alarm) (alarm_limit clock t) e)

  -- nothing is due from tick a on before tick b
  abbrev alarm_from : ℕ → Option ℕ → Bool
  alarm_from b None = true
  alarm_from b (Some w) = nat_le b w

  abbrev start_from : ℕ → Option OrderedPacket → Bool
  start_from b None = true
  start_from b (Some o) = nat_le b o.tick

  abbrev end_from : ℕ → Option Sending → Bool
  end_from b None = true
  end_from b (Some x) = nat_le b x.end

  abbrev outside : ℕ → ℕ → ℕ → Bool
  outside a b t = nat_lt t a || nat_le b t

  abbrev is_next : ScenarioParts → ℕ → List Reception → ℕ → ℕ → Device → Bool
  is_next s v hs a b d =
      nat_le a b && alarm_from b d.alarm && start_from b d.ordered && end_from b d.sending
      && list_all (λ (h : Reception). outside a b h.end) hs
      && list_all (λ (l : ScriptLine). not (l.node == v) || outside a b (frame_start s l.frame)) s.script

  -- through these ticks and on to the tick `last`
  abbrev pub goes_through : ScenarioParts → ℕ → List Reception → ℕ → ℕ → List ℕ → Device → Bool
  goes_through s v hs last a [] d = is_next s v hs a last d
  goes_through s v hs last a (b ∷ bs) d = is_next s v hs a b d && goes_through s v hs last (suc b) bs (in_tick s v hs b d)

  abbrev pub after_ticks : ScenarioParts → ℕ → List Reception → List ℕ → Device → Device
  after_ticks s v hs [] d = d
  after_ticks s v hs (b ∷ bs) d = after_ticks s v hs bs (in_tick s v hs b d)

-- the same with the search itself
module _ (clock : ℕ → ℕ) where
  same_alarms : (s : Setup) (t : ℕ) (b : Bool) (more : ℕ) (d : Device) → alarms clock s t b more d ≡ all_alarms (due clock) clock s t b more d
  unfolding alarms
  same_alarms s t false more d = refl
  same_alarms s t true zero d = refl
  same_alarms s t true (suc more) d = let e = one_alarm (due clock) clock s t d in same_alarms s t (alarm_is_due t e.alarm) more e

  same_tick : (s : ScenarioParts) (v : ℕ) (hs : List Reception) (t : ℕ) (d : Device) → tick s v clock hs t d ≡ in_tick (due clock) clock s v hs t d
  same_tick s v hs t d =
      let x = setup_of s v in
      let e = before_alarms (due clock) clock s v hs t d in
      ap (device_after_start x t) (same_alarms x t (alarm_is_due t e.alarm) (alarm_limit clock t) e)

  one_tick : (s : ScenarioParts) (v : ℕ) (hs : List Reception) (t : ℕ) (d : Device) → before_tick s v clock hs t ≡ d
      → before_tick s v clock hs (suc t) ≡ in_tick (due clock) clock s v hs t d
  unfolding before_tick
  one_tick s v hs t d is = ap (tick s v clock hs t) is ∙ same_tick s v hs t d

from_outside : (D clock : ℕ → ℕ) (a b t : ℕ) → outside D clock a b t ≡ true → (t < a) ⊎ (b ≤ t)
from_outside D clock a b t is = by_test (nat_lt t a) refl is
  where
    by_test : (c : Bool) → nat_lt t a ≡ c → (c || nat_le b t) ≡ true → (t < a) ⊎ (b ≤ t)
    by_test true less is = inl (ltb-true t a less)
    by_test false less is = inr (leb-true b t is)

from_test : (D clock : ℕ → ℕ) (s : ScenarioParts) (v : ℕ) (hs : List Reception) (a b : ℕ) (d : Device) → is_next D clock s v hs a b d ≡ true
    → (a ≤ b) × NextDue s v hs a b d
from_test D clock s v hs a b d is =
    let lines = and_parts _ _ is in
    let hearings = and_parts _ _ lines.0 in
    let ends = and_parts _ _ hearings.0 in
    let starts = and_parts _ _ ends.0 in
    let set = and_parts _ _ starts.0 in (
      leb-true a b set.0,
      record {
        set = record { alarm = alarm_set d.alarm set.1; ordered = start_set d.ordered starts.1; sending = end_set d.sending ends.1 };
        hearings = λ h there. from_outside D clock a b h.end (all_passes _ hs hearings.1 h there);
        lines =
            λ l there node. from_outside D clock a b (frame_start s l.frame)
            (implied (l.node == v) _ (all_passes _ s.script lines.1 l there) (eq-eqb l.node v node));
      },
    )
  where
    alarm_set : (o : Option ℕ) → alarm_from D clock b o ≡ true → IfSome o (λ w. b ≤ w)
    alarm_set None is = tt
    alarm_set (Some w) is = leb-true b w is

    start_set : (o : Option OrderedPacket) → start_from D clock b o ≡ true → IfSome o (λ x. b ≤ x.tick)
    start_set None is = tt
    start_set (Some o) is = leb-true b o.tick is

    end_set : (o : Option Sending) → end_from D clock b o ≡ true → IfSome o (λ x. b ≤ x.end)
    end_set None is = tt
    end_set (Some x) is = leb-true b x.end is

-- what is computed is the trail
through : (clock : ℕ → ℕ) (s : ScenarioParts) (v : ℕ) (hs : List Reception) (last a : ℕ) (bs : List ℕ) (d : Device) → before_tick s v clock hs a ≡ d
    → goes_through (due clock) clock s v hs last a bs d ≡ true
    → before_tick s v clock hs last ≡ after_ticks (due clock) clock s v hs bs d
through clock s v hs last a [] d is goes =
    let next = from_test (due clock) clock s v hs a last d goes in
    until_next s v clock hs a last next.0 (rw is next.1) ∙ is
through clock s v hs last a (b ∷ bs) d is goes =
    let both = and_parts _ _ goes in
    let next = from_test (due clock) clock s v hs a b d both.0 in
    let here : before_tick s v clock hs b ≡ d = until_next s v clock hs a b next.0 (rw is next.1) ∙ is in
    through clock s v hs last (suc b) bs (in_tick (due clock) clock s v hs b d) (one_tick clock s v hs b d here) both.1

pub computed : (clock D : ℕ → ℕ) → ((x : ℕ) → due clock x ≡ D x) → (s : ScenarioParts) (v : ℕ) (hs : List Reception) (last : ℕ) (bs : List ℕ)
    → goes_through D clock s v hs last 0 bs at_rest ≡ true
    → before_tick s v clock hs last ≡ after_ticks D clock s v hs bs at_rest
unfolding before_tick
computed clock D same s v hs last bs =
    subst (λ (E : ℕ → ℕ). goes_through E clock s v hs last 0 bs at_rest ≡ true → before_tick s v clock hs last ≡ after_ticks E clock s v hs bs at_rest)
    (fun_ext same)
    (through clock s v hs last 0 bs at_rest (at_first s v clock hs))
  where
    at_first : (s : ScenarioParts) (v : ℕ) (clock : ℕ → ℕ) (hs : List Reception) → before_tick s v clock hs 0 ≡ at_rest
    at_first s v clock hs = refl

-- a clock that keeps true time
pub true_due : (x : ℕ) → due (λ t. t) x ≡ x
unfolding due
true_due x =
    let n = x + x / 40000 + 3 in
    let early : due (λ t. t) x ≤ x = due_at_most (λ t. t) x x (omega arith) in
    let found = leb-true x (due (λ t. t) x) (least_found n (λ t. nat_le x t) (omega (arith, early))) in
    omega (arith, early, found)
