-- The alarms of a tick come to an end.
use Rattle.std.proofs.Common.{◌≡◌, ℕ, zero, suc, ◌+◌, ◌*◌, ◌/◌, ◌^◌, ◌≤◌, List, [], ◌∷◌, Bool, true, false, ◌==◌, fold, Option, Some, None, refl, sym, ◌∙◌}
use Rattle.std.proofs.Common.{ap, subst, arith, mul-le-mul_left, mul-le-mul_right, suc-mul, div-mul-le_self, eqb-true, true≢false, inl, inr, ◌⊎◌}
use Rattle.std.proofs.lemmas.Bool.{cond_both}
use Rattle.lwb_base.specs.declared.limits.TheConstants.{MOST_FRAMES}
use Rattle.lwb_base.specs.declared.event.Event.{Event}
use Rattle.lwb_base.specs.declared.event.Event.TheVariants.{Boot, Alarm, Heard, Sent}
use Rattle.lwb_base.specs.declared.order.Order.{Order}
use Rattle.lwb_base.specs.declared.order.Order.TheVariants.{Listen, Off, SendAt, Alarm as AlarmAt}
use Rattle.tick_clock.specs.Clocks.{IsClock}
use Rattle.tick_clock.proofs.Readings.{never_back}
use Rattle.scenario_text.specs.ScenarioFacts.{IsSoundScenario}
use Rattle.radio_model.specs.OnAir.{Tuning}
use Rattle.radio_model.specs.declared.sending.Sending.{Sending}
use Rattle.scenario_text.specs.ScenarioParts.{ScenarioParts}
use Rattle.bus_rules.specs.declared.act.Act.{Act}
use Rattle.scenario_text.specs.declared.script.ScriptLine.{ScriptLine}
use Rattle.bus_rules.specs.Streams.{Streams, streams_after_act}
use Rattle.bus_rules.specs.Cores.{Setup}
use Rattle.node_core.specs.Nodes.{Node, rebooted}
use Rattle.node_core.specs.Rows.{row, at_alarm}
use Rattle.node_core.specs.Nodes.{with_streams}
use Rattle.node_core.specs.Rows.{node_after, orders_by}
use Rattle.node_core.specs.declared.stage.Stage.{Stage}
use Rattle.node_core.specs.declared.stage.Stage.TheVariants.{Idle, Scanning, AwaitFrame, AwaitSlot, InWindow}
use Rattle.air_log.specs.Devices.{Device, Power, PowerOff, PowerOn, Listening, OrderedPacket, obeyed, moved, stepped, event, event_by, silenced, tunes}
use Rattle.air_log.specs.Devices.{listens_to}
use Rattle.air_log.specs.ScriptedDevices.{device_after_act, device_after_line}
use Rattle.scenario_text.specs.Setups.{setup_of}
use Rattle.air_log.specs.Trails.{Reception, run_end, lines_at, device_after_script, ending_at, device_after_reception, device_after_receptions}
use Rattle.air_log.specs.Trails.{device_ended_by, device_after_end, alarm_is_due, alarms, alarm_limit, alarmed, before_start, begun_by, starts, before_tick}
use Rattle.air_log.proofs.DeviceActs.{each_act}
use Rattle.air_log.proofs.AlarmRows.{IsRoomy, roomy, Waits, Goes, GoesBy, alarm_by, alarm_after, progress, most}
use Rattle.air_log.proofs.AlarmRows.{in_reach, boot_goes, heard_goes, sent_goes, alarm_goes, Rises}

-- orders change the alarm alone, of what is looked at here
abbrev Has : Power → Option ℕ → Device → Type 0
Has p a d = (d.power ≡ p) × (d.alarm ≡ a)

module _ (s : Setup) (L : ℕ → ℕ) (t : ℕ) where
  on_has : (p : Power) (a : Option ℕ) (rank : ℕ) (d : Device) (es : List Tuning) → Has p a d → Has p a (tunes rank t d es)
  on_has p a rank d [] has = has
  on_has p a rank d (e ∷ es) has = cond_both _ _ _ (Has p a) (λ is. has) (λ is. has)

  order_has : (p : Power) (a : Option ℕ) (d : Device) (o : Order) → Has p a d → Has p (alarm_by s L t a o) (obeyed L s.id t d o)
  order_has p a d (Listen rank) has =
      let x = silenced s.id t d in
      cond_both (listens_to rank d.listening) d (tunes rank t x x.made.tuned) (Has p a) (λ is. has) (λ is. on_has p a rank x x.made.tuned has)
  order_has p a d Off has = has
  order_has p a d (SendAt local packet) has = has
  order_has p a d (AlarmAt local) has = (has.0, refl)

  orders_have : (p : Power) (os : List Order) (a : Option ℕ) (d : Device) → Has p a d → Has p (alarm_after s L t a os) (fold (obeyed L s.id t) d os)
  orders_have p [] a d has = has
  orders_have p (o ∷ os) a d has = orders_have p os (alarm_by s L t a o) (obeyed L s.id t d o) (order_has p a d o has)

  -- where power is off, no alarm is set
  abbrev pub SoundBy : Power → Option ℕ → Type 0
  SoundBy (PowerOff boots) a = a ≡ None
  SoundBy (PowerOn n) a = Goes s L t n a

  abbrev pub Sound : Device → Type 0
  Sound d = SoundBy d.power d.alarm

  sound_if : (p : Power) (a : Option ℕ) (d : Device) → Has p a d → SoundBy p a → Sound d
  sound_if p a d has sound = rw (has.0, has.1) sound

  step_has : (e : Event) (x : Option Sending) (d : Device) (n : Node)
      → Has (PowerOn (node_after n (row s n (L t) e))) (alarm_after s L t d.alarm (orders_by (row s n (L t) e))) (stepped L s t e x d n)
  step_has e x d n =
      let r = row s n (L t) e in
      orders_have (PowerOn (node_after n r)) (orders_by r) d.alarm (moved t e x d n r) (refl, refl)

  pub step_sound : (e : Event) (x : Option Sending) (d : Device) (n : Node) → GoesBy s L t n d.alarm (row s n (L t) e) → Sound (stepped L s t e x d n)
  step_sound e x d n goes = sound_if _ _ (stepped L s t e x d n) (step_has e x d n) goes

  module _ (room : IsRoomy s.profile) where
    pub heard_sound : (p : List ℕ) (d : Device) (power : Power) → SoundBy power d.alarm → d.power ≡ power → Sound (event_by L s t (Heard p) None d power)
    heard_sound p d (PowerOff boots) sound at = rw at sound
    heard_sound p d (PowerOn n) sound at = step_sound (Heard p) None d n (heard_goes s L t room n d.alarm p n.stage refl sound)

    pub sent_sound : (x : Option Sending) (d : Device) (power : Power) → SoundBy power d.alarm → d.power ≡ power → Sound (event_by L s t Sent x d power)
    sent_sound x d (PowerOff boots) sound at = rw at sound
    sent_sound x d (PowerOn n) sound at = step_sound Sent x d n (sent_goes s L t room n d.alarm n.stage refl sound)

    with_streams_goes : (n : Node) (a : Option ℕ) (streams : Streams) → Goes s L t n a → Goes s L t (with_streams n streams) a
    with_streams_goes n a streams goes = (record { small = goes.0.small; frame = goes.0.frame; stage = goes.0.stage }, goes.1)

    pub act_sound : (d : Device) (a : Act) → Sound d → Sound (device_after_act L s t d a d.power)
    act_sound d a sound = each_act L s t d Sound a d.power sound
        (λ boots at. let n = rebooted (boots + 1) in step_sound Boot None (record d { power = PowerOn n }) n (boot_goes s L t room n d.alarm))
        (λ n at. refl) (λ n at. with_streams_goes n d.alarm (streams_after_act a n.core.streams) (subst (λ (p : Power). SoundBy p d.alarm) at sound))

    lines_sound : (ls : List ScriptLine) (d : Device) → Sound d → Sound (fold (device_after_line L s t) d ls)
    lines_sound [] d sound = sound
    lines_sound (l ∷ ls) d sound = lines_sound ls (device_after_line L s t d l) (act_sound d l.act sound)

    hearings_sound : (hs : List Reception) (d : Device) → Sound d → Sound (fold (device_after_reception L s t) d hs)
    hearings_sound [] d sound = sound
    hearings_sound (h ∷ hs) d sound = hearings_sound hs (device_after_reception L s t d h) (heard_sound h.packet d d.power sound refl)

    end_sound : (d : Device) (x : Option Sending) → Sound d → Sound (device_ended_by L s t d x)
    end_sound d None sound = sound
    end_sound d (Some x) sound =
        let y : Device = record d { sending = None } in
        cond_both (x.end == t) (event L s t Sent (Some x) y) d Sound (λ is. sent_sound (Some x) y d.power sound refl) (λ is. sound)

    -- alarms
    abbrev Left : Power → ℕ → Type 0
    Left (PowerOff boots) more = Unit {0}
    Left (PowerOn n) more = most s L t room ≤ progress n + more

    module _ (clock : IsClock L) (early : t ≤ 2 ^ 45) where
      -- an alarm that is due now was the one that is set
      pub fires : (stage : Stage) (f : ℕ) (a : Option ℕ) → alarm_is_due t a ≡ true → Waits s L t f stage a → Waits s L t f stage (Some t)
      fires Idle f a due waits = tt
      fires Scanning f None due waits = absurd (true≢false (sym due))
      fires Scanning f (Some w) due waits = omega (arith, waits, eqb-true w t due)
      fires AwaitFrame f None due waits = absurd (true≢false (sym due))
      fires AwaitFrame f (Some w) due waits = omega (arith, waits, eqb-true w t due)
      fires (AwaitSlot j) f a due waits = tt
      fires (InWindow j w) f a due waits = tt

      abbrev Ends : Device → Type 0
      Ends d = Sound d × (alarm_is_due t d.alarm ≡ false)

      -- what is left after one alarm more: either it goes on further, or no alarm is set
      abbrev Next : ℕ → Device → Type 0
      Next more d = Sound d × ((Left d.power more) ⊎ (d.alarm ≡ None))

      next_if : (more : ℕ) (n : Node) (stage : Stage) (d : Device) → n.stage ≡ stage
          → Has (PowerOn (node_after n (at_alarm s n stage))) (alarm_after s L t None (orders_by (at_alarm s n stage))) d
          → Rises s L t room clock early n stage (at_alarm s n stage) → most s L t room ≤ progress n + suc more → (Left d.power more) ⊎ (d.alarm ≡ None)
      next_if more n Idle d at has rises left = inr has.1
      next_if more n Scanning d at has rises left = inl (rw has.0 (omega (arith, rises, left)))
      next_if more n AwaitFrame d at has rises left = inl (rw has.0 (omega (arith, rises, left)))
      next_if more n (AwaitSlot j) d at has rises left = inl (rw has.0 (omega (arith, rises, left)))
      next_if more n (InWindow j w) d at has rises left = inl (rw has.0 (omega (arith, rises, left)))

      one_alarm : (more : ℕ) (d : Device) (n : Node) → alarm_is_due t d.alarm ≡ true → Goes s L t n d.alarm → most s L t room ≤ progress n + suc more
          → Next more (stepped L s t Alarm None (record d { alarm = None }) n)
      one_alarm more d n due goes left =
          let x : Device = record d { alarm = None } in
          let all = alarm_goes s L t room clock early n n.stage refl goes.0 (fires n.stage n.frame d.alarm due goes.1) in
          (step_sound Alarm None x n all.0, next_if more n n.stage (stepped L s t Alarm None x n) refl (step_has Alarm None x n) all.1 left)

      none_due : (more : ℕ) (b : Bool) (d : Device) → d.alarm ≡ None → alarm_is_due t d.alarm ≡ b → Sound d → Ends (alarms L s t b more d)
      unfolding alarms
      none_due more false d none due sound = (sound, due)
      none_due more true d none due sound = absurd (true≢false (sym due ∙ ap (alarm_is_due t) none))

      at_last : (d : Device) (power : Power) → alarm_is_due t d.alarm ≡ true → SoundBy power d.alarm → Left power zero → ⊥
      at_last d (PowerOff boots) due sound left = true≢false (sym due ∙ ap (alarm_is_due t) sound)
      at_last d (PowerOn n) due sound left = omega (arith, left, in_reach s L t room n sound.0)

      goes_on : (more : ℕ) (d : Device) (power : Power) → alarm_is_due t d.alarm ≡ true → SoundBy power d.alarm → Left power (suc more)
          → ((e : Device) → Sound e → Left e.power more → Ends (alarms L s t (alarm_is_due t e.alarm) more e))
          → Ends (alarms L s t (alarm_is_due t (event_by L s t Alarm None (record d { alarm = None }) power).alarm) more
          (event_by L s t Alarm None (record d { alarm = None }) power))
      goes_on more d (PowerOff boots) due sound left rest = absurd (true≢false (sym due ∙ ap (alarm_is_due t) sound))
      goes_on more d (PowerOn n) due sound left rest =
          let e = stepped L s t Alarm None (record d { alarm = None }) n in
          let next = one_alarm more d n due sound left in
          elim next.1 [ inl more_left ↦ rest e next.0 more_left | inr none ↦ none_due more (alarm_is_due t e.alarm) e none refl next.0 ]

      loop : (more : ℕ) (b : Bool) (d : Device) → alarm_is_due t d.alarm ≡ b → Sound d → Left d.power more → Ends (alarms L s t b more d)
      unfolding alarms
      loop more false d due sound left = (sound, due)
      loop zero true d due sound left = absurd (at_last d d.power due sound left)
      loop (suc more) true d due sound left = goes_on more d d.power due sound left (λ e here there. loop more (alarm_is_due t e.alarm) e refl here there)

      -- as many alarms as the trail allows are enough
      enough : (q r F : ℕ) → 2 ^ 23 ≤ F → q * F ≤ r + F → 128 * (q + 1) ≤ r + 300
      enough zero r F long fits = omega arith
      enough (suc k) r F long fits =
          let times : k * 2 ^ 23 ≤ k * F = mul-le-mul_left k long in
          omega (arith, times, fits, suc-mul k F)

      allowed : (power : Power) → Left power (alarm_limit L t)
      allowed (PowerOff boots) = tt
      allowed (PowerOn n) =
          omega (
            arith,
            enough ((L t + s.profile.frame) / s.profile.frame) (L t) s.profile.frame room.long (div-mul-le_self (L t + s.profile.frame) s.profile.frame),
          )

      alarms_end : (d : Device) → Sound d → Ends (alarmed L s t d)
      alarms_end d sound = loop (alarm_limit L t) (alarm_is_due t d.alarm) d refl sound (allowed d.power)

pub later : (s : Setup) (L : ℕ → ℕ) (t : ℕ) (d : Device) → L t ≤ L (suc t) → Sound s L t d → Sound s L (suc t) d
later s L t d on sound = by_power d.power sound
  where
    waits_on : (f : ℕ) (stage : Stage) → Waits s L t f stage d.alarm → Waits s L (suc t) f stage d.alarm
    waits_on f Idle waits = waits
    waits_on f Scanning waits = waits
    waits_on f AwaitFrame waits = waits
    waits_on f (AwaitSlot j) waits = waits
    waits_on f (InWindow j w) waits = waits

    by_power : (power : Power) → SoundBy s L t power d.alarm → SoundBy s L (suc t) power d.alarm
    by_power (PowerOff boots) sound = sound
    by_power (PowerOn n) sound =
        (record { small = sound.0.small; frame = omega (arith, sound.0.frame, on); stage = sound.0.stage }, waits_on n.frame n.stage sound.1)

-- the start of a transmission
pub begun_sound : (s : Setup) (L : ℕ → ℕ) (t : ℕ) (d : Device) (o : Option OrderedPacket) → Sound s L t d → Sound s L t (begun_by s t d o)
begun_sound s L t d None sound = sound
begun_sound s L t d (Some o) sound =
    cond_both (o.tick == t) (starts s t o.packet d d.listening d.sending) d (Sound s L t) (λ is. starts_sound d.listening d.sending) (λ is. sound)
  where
    starts_sound : (l : Option Listening) (y : Option Sending) → Sound s L t (starts s t o.packet d l y)
    starts_sound None y = sound
    starts_sound (Some l) None = sound
    starts_sound (Some l) (Some y) = sound

-- a tick
module _ (s : ScenarioParts) (v : ℕ) (L : ℕ → ℕ) (hs : List Reception) (room : IsRoomy s.profile) (clock : IsClock L) where
  in_tick : (t : ℕ) (d : Device) (early : t ≤ 2 ^ 45) → Sound (setup_of s v) L t d → Ends (setup_of s v) L t room clock early (before_start s v L hs t d)
  in_tick t d early sound =
      let x = setup_of s v in
      let one = lines_sound x L t room (lines_at s v t) d sound in
      let d1 = device_after_script s v L t d in
      let two = hearings_sound x L t room (ending_at t hs) d1 one in
      let d2 = device_after_receptions L x t hs d1 in
      alarms_end x L t room clock early (device_after_end L x t d2) (end_sound x L t room d2 d2.sending two)

  at_tick : (t : ℕ) → t ≤ 2 ^ 45 → Sound (setup_of s v) L t (before_tick s v L hs t)
  unfolding before_tick
  at_tick zero early = refl
  at_tick (suc t) early =
      let d = before_tick s v L hs t in
      let x = before_start s v L hs t d in
      let within = in_tick t d (omega (arith, early)) (at_tick t (omega (arith, early))) in
      later (setup_of s v) L t (begun_by (setup_of s v) t x x.ordered) (never_back L t (suc t) clock (omega arith) (omega (arith, early)))
      (begun_sound (setup_of s v) L t x x.ordered within.0)

  pub none_left : (t : ℕ) → t ≤ 2 ^ 45 → alarm_is_due t (before_start s v L hs t (before_tick s v L hs t)).alarm ≡ false
  none_left t early = (in_tick t (before_tick s v L hs t) early (at_tick t early)).1

-- every tick of a run comes early enough
pub early_in_run : (s : ScenarioParts) (t : ℕ) → IsSoundScenario s → t ≤ run_end s → t ≤ 2 ^ 45
early_in_run s t sound within =
    let room = roomy s.profile sound.profile in
    let few : s.frames * s.profile.frame ≤ MOST_FRAMES * s.profile.frame = mul-le-mul_right s.profile.frame sound.few_frames in
    omega (arith, within, few, room.short)

pub no_alarm_left : (s : ScenarioParts) (v : ℕ) (L : ℕ → ℕ) (hs : List Reception) (t : ℕ) → IsSoundScenario s → IsClock L → t ≤ run_end s
    → alarm_is_due t (before_start s v L hs t (before_tick s v L hs t)).alarm ≡ false
no_alarm_left s v L hs t sound clock within = none_left s v L hs (roomy s.profile sound.profile) clock t (early_in_run s t sound within)
