-- How many windows open by their alarm: few for each frame number that a node counts, and for each of its boots.
use Rattle.std.proofs.Common.{◌≡◌, true≢false, ℕ, zero, suc, ◌+◌, ◌*◌, ◌^◌, ◌<◌, ◌≤◌, List, [], ◌∷◌, Bool, true, false, ◌==◌}
use Rattle.std.proofs.Common.{nat_lt, fold, Option, Some, None, refl, sym, ◌∙◌, ap, subst, arith, ltb-true, mul-le-mul_right}
use Rattle.std.proofs.lemmas.Bool.{cond_both}
use Rattle.lwb_base.specs.declared.limits.TheConstants.{MOST_FRAMES}
use Rattle.lwb_base.specs.declared.event.Event.TheVariants.{Boot, Alarm, Heard, Sent}
use Rattle.tick_clock.specs.Clocks.{IsClock}
use Rattle.tick_clock.proofs.Readings.{rounded, never_back}
use Rattle.radio_model.specs.declared.sending.Sending.{Sending}
use Rattle.scenario_text.specs.ScenarioParts.{ScenarioParts}
use Rattle.scenario_text.specs.ScenarioFacts.{IsSoundScenario}
use Rattle.bus_rules.specs.declared.act.Act.{Act}
use Rattle.scenario_text.specs.declared.script.ScriptLine.{ScriptLine}
use Rattle.bus_rules.specs.Cores.{Setup}
use Rattle.node_core.specs.Nodes.{Node, rebooted}
use Rattle.node_core.specs.Rows.{row, boots}
use Rattle.node_core.specs.Rows.{node_after}
use Rattle.node_core.specs.declared.stage.Stage.{Stage}
use Rattle.node_core.specs.declared.stage.Stage.TheVariants.{Idle, Scanning, AwaitFrame, AwaitSlot, InWindow}
use Rattle.air_log.specs.Devices.{Device, Power, PowerOff, PowerOn, Listening, OrderedPacket, stepped, event_by}
use Rattle.air_log.specs.ScriptedDevices.{device_after_act, device_after_line}
use Rattle.scenario_text.specs.Setups.{setup_of}
use Rattle.air_log.specs.Trails.{Reception, run_end, lines_at, device_after_script, ending_at, device_after_reception, device_after_receptions}
use Rattle.air_log.specs.Trails.{device_ended_by, device_after_end, alarm_is_due, alarms, alarm_limit, alarmed, begun_by, starts, before_tick, trail}
use Rattle.air_log.proofs.DeviceActs.{each_act}
use Rattle.air_log.proofs.AlarmRows.{IsRoomy, roomy, InRange, IsGoing, alarm_goes}
use Rattle.air_log.proofs.AlarmLoop.{Sound, SoundBy, step_sound, heard_sound, sent_sound, act_sound, fires, begun_sound, later, early_in_run}
use Rattle.air_log.proofs.OpenedByAlarm.{by_alarm, place_spent, FewBy, Few, one_at_most, row_few, heard_few, sent_few, alarm_few}

module _ (s : Setup) (L : ℕ → ℕ) (t : ℕ) where
  -- what holds of a device through a tick
  pub record Goes_few (d : Device) : Type 0 where
    pub sound : Sound s L t d
    pub few : Few d

  module _ (room : IsRoomy s.profile) where
    heard_both : (p : List ℕ) (d : Device) (power : Power) → d.power ≡ power → SoundBy s L t power d.alarm → FewBy power (by_alarm d.made.windows)
        → Goes_few (event_by L s t (Heard p) None d power)
    heard_both p d (PowerOff boots) at sound few = record { sound = rw at sound; few = rw at few }
    heard_both p d (PowerOn n) at sound few = record { sound = heard_sound s L t room p d (PowerOn n) sound at; few = heard_few s L t p d n few }

    sent_both : (x : Option Sending) (d : Device) (power : Power) → d.power ≡ power → SoundBy s L t power d.alarm → FewBy power (by_alarm d.made.windows)
        → Goes_few (event_by L s t Sent x d power)
    sent_both x d (PowerOff boots) at sound few = record { sound = rw at sound; few = rw at few }
    sent_both x d (PowerOn n) at sound few = record { sound = sent_sound s L t room x d (PowerOn n) sound at; few = sent_few s L t x d n few }

    hearings_both : (hs : List Reception) (d : Device) → Goes_few d → Goes_few (fold (device_after_reception L s t) d hs)
    hearings_both [] d both = both
    hearings_both (h ∷ hs) d both = hearings_both hs (device_after_reception L s t d h) (heard_both h.packet d d.power refl both.sound both.few)

    end_both : (d : Device) (x : Option Sending) → Goes_few d → Goes_few (device_ended_by L s t d x)
    end_both d None both = both
    end_both d (Some x) both =
        let y : Device = record d { sending = None } in
        cond_both (x.end == t) (event_by L s t Sent (Some x) y y.power) d Goes_few (λ is. sent_both (Some x) y d.power refl both.sound both.few) (λ is. both)

    starts_few : (packet : List ℕ) (d : Device) (l : Option Listening) (x : Option Sending) → Few d → Few (starts s t packet d l x)
    starts_few packet d None x few = few
    starts_few packet d (Some l) (Some x) few = few
    starts_few packet d (Some l) None few = few

    begun_few : (d : Device) (o : Option OrderedPacket) → Few d → Few (begun_by s t d o)
    begun_few d None few = few
    begun_few d (Some o) few =
        cond_both (o.tick == t) (starts s t o.packet d d.listening d.sending) d Few (λ is. starts_few o.packet d d.listening d.sending few) (λ is. few)

    module _ (clock : IsClock L) (early : t ≤ 2 ^ 45) (in_run : (n : Node) → IsGoing s L t n → n.frame < 2 ^ 13) where
      alarm_both : (d : Device) (power : Power) → d.power ≡ power → alarm_is_due t d.alarm ≡ true → SoundBy s L t power d.alarm
          → FewBy power (by_alarm d.made.windows) → Goes_few (event_by L s t Alarm None (record d { alarm = None }) power)
      alarm_both d (PowerOff boots) at due sound few = absurd (true≢false (sym due ∙ ap (alarm_is_due t) sound))
      alarm_both d (PowerOn n) at due sound few =
          let x : Device = record d { alarm = None } in
          let goes = (alarm_goes s L t room clock early n n.stage refl sound.0 (fires s L t room clock early n.stage n.frame d.alarm due sound.1)).0 in
          let frame = in_run n sound.0 in
          record { sound = step_sound s L t Alarm None x n goes; few = alarm_few s L t x n sound.0.stage (omega (arith, frame)) few }

      alarms_both : (more : ℕ) (b : Bool) (d : Device) → alarm_is_due t d.alarm ≡ b → Goes_few d → Goes_few (alarms L s t b more d)
      unfolding alarms
      alarms_both more false d due both = both
      alarms_both zero true d due both = both
      alarms_both (suc more) true d due both =
          let e = event_by L s t Alarm None (record d { alarm = None }) d.power in
          alarms_both more (alarm_is_due t e.alarm) e refl (alarm_both d d.power refl due both.sound both.few)

      -- power comes on with a boot more, and goes off
      booted : (b : ℕ) (d : Device) → by_alarm d.made.windows ≤ b * 2 ^ 20
          → Few (stepped L s t Boot None (record d { power = PowerOn (rebooted (b + 1)) }) (rebooted (b + 1)))
      booted b d few =
          let n = rebooted (b + 1) in
          let m = node_after n (row s n (L t) Boot) in
          row_few s L t Boot None (record d { power = PowerOn n }) n (omega (arith, one_at_most t Boot None n m n.stage m.stage d.made.windows))
          (omega (arith, few))

      in_frame : (stage : Stage) → InRange stage → place_spent stage ≤ 127
      in_frame Idle range = omega arith
      in_frame Scanning range = omega arith
      in_frame AwaitFrame range = omega arith
      in_frame (AwaitSlot j) range = omega (arith, range)
      in_frame (InWindow j w) range = omega (arith, range.0)

      pub off_few : (n : Node) (k : ℕ) → IsGoing s L t n → FewBy (PowerOn n) k → k ≤ n.core.boot * 2 ^ 20
      off_few n k going few = omega (arith, few, in_run n going, in_frame n.stage going.stage)

      act_few : (d : Device) (a : Act) → Goes_few d → Few (device_after_act L s t d a d.power)
      act_few d a both = each_act L s t d Few a d.power both.few
          (λ b at. booted b d (few_by at))
          (λ n at. off_few n (by_alarm d.made.windows) (subst (λ (p : Power). SoundBy s L t p d.alarm) at both.sound).0 (few_by at))
          (λ n at. few_by at)
        where
          few_by : {p : Power} → d.power ≡ p → FewBy p (by_alarm d.made.windows)
          few_by at = subst (λ (p : Power). FewBy p (by_alarm d.made.windows)) at both.few

      lines_both : (ls : List ScriptLine) (d : Device) → Goes_few d → Goes_few (fold (device_after_line L s t) d ls)
      lines_both [] d both = both
      lines_both (l ∷ ls) d both =
          lines_both ls (device_after_line L s t d l)
          (record { sound = act_sound s L t room d l.act both.sound; few = act_few d l.act both })

-- a whole run
module _ (s : ScenarioParts) (v : ℕ) (L : ℕ → ℕ) (hs : List Reception) (sound : IsSoundScenario s) (clock : IsClock L) where
  room : IsRoomy s.profile
  room = roomy s.profile sound.profile

  -- no node counts more frames than a clock reads in a run, but for two
  in_run : (t : ℕ) → t ≤ run_end s → (n : Node) → IsGoing (setup_of s v) L t n → n.frame < 2 ^ 13
  in_run t within n going = by (nat_lt n.frame (2 ^ 13)) refl
    where
      by : (b : Bool) → nat_lt n.frame (2 ^ 13) ≡ b → n.frame < 2 ^ 13
      by true is = ltb-true n.frame (2 ^ 13) is
      by false is =
          let much : 2 ^ 13 ≤ n.frame = Rattle.std.proofs.lemmas.Bool.ltb-false n.frame (2 ^ 13) is in
          let times : 2 ^ 13 * s.profile.frame ≤ n.frame * s.profile.frame = mul-le-mul_right s.profile.frame much in
          let early = early_in_run s t sound within in
          let read = rounded L 0 t t clock (omega arith) (omega (arith, early)) in
          let few : s.frames * s.profile.frame ≤ MOST_FRAMES * s.profile.frame = mul-le-mul_right s.profile.frame sound.few_frames in
          absurd (omega (arith, times, read, few, within, going.frame, room.long, clock.begins))

  at_tick : (t : ℕ) → t ≤ run_end s → Goes_few (setup_of s v) L t (before_tick s v L hs t)
  unfolding before_tick
  at_tick zero within = record { sound = refl; few = omega arith }
  at_tick (suc t) within =
      let x = setup_of s v in
      let less : t ≤ run_end s = omega (arith, within) in
      let early = early_in_run s t sound less in
      let d = before_tick s v L hs t in
      let one = lines_both x L t room clock early (in_run t less) (lines_at s v t) d (at_tick t less) in
      let d1 = device_after_script s v L t d in
      let two = hearings_both x L t room (ending_at t hs) d1 one in
      let d2 = device_after_receptions L x t hs d1 in
      let three = end_both x L t room d2 d2.sending two in
      let d3 = device_after_end L x t d2 in
      let four = alarms_both x L t room clock early (in_run t less) (alarm_limit L t) (alarm_is_due t d3.alarm) d3 refl three in
      let d4 = alarmed L x t d3 in
      let on = never_back L t (suc t) clock (omega arith) (omega (arith, early)) in
      record {
        sound = later x L t (begun_by x t d4 d4.ordered) on (begun_sound x L t d4 d4.ordered four.sound);
        few = begun_few x L t room d4 d4.ordered four.few;
      }

  -- the boots of a node that is on or off
  abbrev pub boots_of : Power → ℕ
  boots_of (PowerOff boots) = boots
  boots_of (PowerOn n) = n.core.boot

  pub few_windows : by_alarm (trail s v L hs).made.windows ≤ boots_of (before_tick s v L hs (run_end s)).power * 2 ^ 20
  few_windows = let both = at_tick (run_end s) (omega arith) in by (before_tick s v L hs (run_end s)).power both.sound both.few
    where
      by : (power : Power) → SoundBy (setup_of s v) L (run_end s) power (before_tick s v L hs (run_end s)).alarm
          → FewBy power (by_alarm (before_tick s v L hs (run_end s)).made.windows)
          → by_alarm (before_tick s v L hs (run_end s)).made.windows ≤ boots_of power * 2 ^ 20
      by (PowerOff boots) going few = few
      by (PowerOn n) going few =
          off_few (setup_of s v) L (run_end s) room clock (early_in_run s (run_end s) sound (omega arith)) (in_run (run_end s) (omega arith)) n
          (by_alarm (before_tick s v L hs (run_end s)).made.windows) going.0 few
