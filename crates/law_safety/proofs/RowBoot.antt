-- The row boot: power comes on at the first tick of a frame, and the node scans from the true frame on.
use Rattle.std.proofs.Common.{◌≡◌, ℕ, ◌+◌, ◌/◌, ◌≤◌, inl, List, length, Some, None, Option, Contains, refl, sym, ◌∙◌, ap, subst, arith, true≢false}
use Rattle.std.specs.Prelude.{max}
use Rattle.lwb_base.specs.declared.event.Event.TheVariants.{Boot}
use Rattle.tick_clock.specs.Clocks.{IsClock, due}
use Rattle.time_reference.specs.Budgets.{budget_of}
use Rattle.time_reference.proofs.Run.{alarm_after_start}
use Rattle.node_core.specs.Nodes.{Node, rebooted, frame_alarm}
use Rattle.node_core.specs.Rows.{boots, row}
use Rattle.node_core.specs.Rows.{orders_by}
use Rattle.scenario_text.specs.ScenarioParts.{ScenarioParts}
use Rattle.scenario_text.specs.declared.script.ScriptLine.{ScriptLine}
use Rattle.radio_model.specs.declared.sending.Sending.{Sending}
use Rattle.radio_model.specs.Hearing.{frame_of_sending}
use Rattle.air_log.specs.declared.entry.Entry.{Entry}
use Rattle.air_log.specs.Devices.{Device, Power, PowerOff, PowerOn, OrderedPacket, moved}
use Rattle.air_log.specs.ScriptedDevices.{device_after_on}
use Rattle.air_log.specs.Lawful.{heard_by}
use Rattle.scenario_text.specs.Setups.{setup_of}
use Rattle.air_log.specs.Trails.{frame_start}
use Rattle.law_trails.specs.Lives.{Life, ComesOn, after_step}
use Rattle.law_trails.specs.Phases.{Lines, IsNextLineOf}
use Rattle.law_trails.proofs.LifeSteps.{step_quiet}
use Rattle.law_trails.proofs.ObeyedOrders.{has_obeyed}
use Rattle.law_trails.proofs.RowsOfDevices.{switched_on_is}
use Rattle.law_trails.proofs.UnstoppedTimes.{alarm_sum, boots_in_frame}
use Rattle.law_safety.specs.StillDevices.{IsOff}
use Rattle.law_safety.specs.CountedFrames.{frame_alarm_at}
use Rattle.law_safety.specs.BegunFloods.{HasBegun, BeganOnce}
use Rattle.law_safety.specs.NodesInOrder.{InOrderBy, IsOn}
use Rattle.law_safety.specs.QuietHosts.{LivesAs, LivesBy, IsOrderedBy, HostsInOrder}
use Rattle.law_safety.specs.Rows.{IsFine, AtTick, BootRow}
use Rattle.law_safety.proofs.RunFacts.{run_fits, frame_in_run, frame_below}
use Rattle.law_safety.proofs.FrameStarts.{line_starts}
use Rattle.law_safety.proofs.TunedRadios.{listens_is}

-- the transmissions of a device stay as they are where its power comes on
pub on_sent : (clock : ℕ → ℕ) (s : ScenarioParts) (v t count : ℕ) (d : Device) → (device_after_on clock (setup_of s v) t count d).made.sent ≡ d.made.sent
on_sent clock s v t count d =
    let n = rebooted (count + 1) in
    let r = row (setup_of s v) n (clock t) Boot in
    (has_obeyed clock v t (orders_by r) (moved t Boot None (record d { power = PowerOn n }) n r)).sent

module _ (s : ScenarioParts) (clocks : ℕ → ℕ → ℕ) (air : List Entry) (v t : ℕ) (tick : AtTick s clocks air v t)
    (d : Device) (l : ScriptLine) (count : ℕ) (fine : IsFine s clocks air v t Lines d)
    (next : IsNextLineOf s v (clocks v) (heard_by air v) t l d) (off : d.power ≡ PowerOff count) where
  abbrev clock : ℕ → ℕ
  clock = clocks v

  abbrev e : Device
  e = device_after_on clock (setup_of s v) t count d

  abbrev n : Node
  n = (boots (setup_of s v) (rebooted (count + 1)) (clock t)).node

  abbrev now : ℕ
  now = t / s.profile.frame

  drifts : IsClock clock
  drifts = tick.run.driven.drift v tick.known

  start : frame_start s now ≡ t
  start = line_starts s tick.run.driven.sound t l next.now

  early : now ≤ 4095
  early = frame_in_run s tick.run.driven.sound t tick.in_run

  was_off : IsOff d × BeganOnce s d
  was_off = subst (λ (p : Power). InOrderBy s clocks air v t t d p) off fine.node.by_power

  -- it counts the true frame
  counts : n.frame ≡ now
  counts =
      subst (λ (k : ℕ). (boots (setup_of s v) (rebooted (count + 1)) (clock k)).node.frame ≡ now) start
      (boots_in_frame s.profile (budget_of s.profile) (run_fits s tick.run.driven.sound) clock drifts now early)

  -- its alarm is that of this frame, and ahead
  alarm_is : (f : ℕ) → f ≡ now → max (due clock (frame_alarm s.profile f)) t ≡ frame_alarm_at s clocks v f
  alarm_is f counted =
      let fits = run_fits s tick.run.driven.sound in
      let sum : due clock (frame_alarm s.profile f) ≡ frame_alarm_at s clocks v f =
      ap (due clock) (alarm_sum s.profile (budget_of s.profile) fits f (omega (arith, counted, early))) in
      let same : frame_alarm_at s clocks v f ≡ frame_alarm_at s clocks v now = ap (frame_alarm_at s clocks v) counted in
      let after = (alarm_after_start s.profile (budget_of s.profile) fits clock drifts now (omega (arith, early))).0 in
      omega (arith, sum, same, after, start)

  in_order : IsOn s clocks air v t t e n
  in_order =
      let is = switched_on_is clock (setup_of s v) t count d in
      let some = tick.run.driven.sound.some_hosts in
      let same = on_sent clock s v t count d in
      let was : (f : ℕ) (x : Sending) → HasBegun s f e x → HasBegun s f d x =
      λ f x begun. record { sent = subst (λ (xs : List Sending). Contains xs x) same begun.sent; first = begun.first; frame = begun.frame } in
      record {
        frame = record { at = inl counts; began = tt };
        alarm = record { alarm = frame_alarm_at s clocks v n.frame; set = is.alarm ∙ ap (λ (k : ℕ). Some k) (alarm_is n.frame counts); at = refl };
        tune = record { rank = omega (arith, some); at = refl };
        radio = record {
          at = (
            listens_is 0 e.listening is.channel,
            record { ordered = is.ordered ∙ was_off.0.still.ordered; sending = is.sending ∙ was_off.0.still.sending },
          );
        };
        begun = record {
          at = λ x begun.
              (let old = was n.frame x begun in
              let before = fine.before x old.sent in
              let below = frame_below s tick.run.driven.sound now x.start (omega (arith, before, start)) in
              let of : frame_of_sending s.profile x ≡ now = old.frame ∙ counts in
              absurd (omega (arith, below, of)));
          once = λ f x y a b. was_off.1 f x y (was f x a) (was f y b);
        };
        plan = record { at = tt };
        window = tt;
      }

  comes_on : (rank : ℕ) → HostsInOrder s rank t t d → HostsInOrder s rank t t e
  comes_on rank h =
      let is = switched_on_is clock (setup_of s v) t count d in
      let lives : LivesBy h.life now (PowerOff count) = subst (λ (p : Power). LivesBy h.life now p) off h.lives in
      let same = on_sent clock s v t count d in
      let life : Life = after_step rank (length s.hosts) h.life (ComesOn n.frame) in
      let lives_on : LivesAs life n = record { on = refl; frame = refl; tune = refl; plan = λ hosts. absurd (true≢false (sym hosts)) } in
      record {
        life = life;
        quiet = step_quiet rank (length s.hosts) h.life h.quiet (ComesOn n.frame) (lives.0, subst (λ (k : ℕ). h.life.frame ≤ k) (sym counts) lives.1);
        lives = subst (λ (p : Power). LivesBy life now p) (sym is.power) lives_on;
        opened = h.opened;
        closed = h.closed;
        sent = λ x y there first says. h.sent x y (subst (λ (xs : List Sending). Contains xs x) same there) first says;
        ordered = subst (λ (o : Option OrderedPacket). IsOrderedBy life now o) (sym (is.ordered ∙ was_off.0.still.ordered)) tt;
      }

  boots_up : IsFine s clocks air v t Lines e
  boots_up =
      let same = on_sent clock s v t count d in
      let power = (switched_on_is clock (setup_of s v) t count d).power in
      record {
        node = record { by_power = subst (λ (p : Power). InOrderBy s clocks air v t t e p) (sym power) in_order };
        host = λ rank of. comes_on rank (fine.host rank of);
        sent = λ x there. fine.sent x (subst (λ (xs : List Sending). Contains xs x) same there);
        before = λ x there. fine.before x (subst (λ (xs : List Sending). Contains xs x) same there);
      }

pub boot_row : BootRow
boot_row s clocks air v t at d l count here next act off = boots_up s clocks air v t at d l count here.holds next off
