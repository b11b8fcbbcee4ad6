-- The rows of the script: a node that is given something of its streams, or goes off.
use Rattle.std.proofs.Common.{◌≡◌, ℕ, ◌/◌, ◌≤◌, List, length, refl, subst, arith}
use Rattle.bus_rules.specs.Streams.{Streams, streams_after_act}
use Rattle.node_core.specs.Nodes.{Node}
use Rattle.node_core.specs.Nodes.{with_streams}
use Rattle.scenario_text.specs.ScenarioParts.{ScenarioParts}
use Rattle.scenario_text.specs.declared.script.ScriptLine.{ScriptLine}
use Rattle.air_log.specs.declared.entry.Entry.{Entry}
use Rattle.air_log.specs.Devices.{Device, Power, PowerOn}
use Rattle.air_log.specs.ScriptedDevices.{device_after_off}
use Rattle.air_log.specs.Lawful.{heard_by}
use Rattle.law_trails.specs.Lives.{GoesOff, after_step}
use Rattle.law_trails.specs.Phases.{Lines, IsNextLineOf}
use Rattle.law_trails.proofs.LifeSteps.{step_quiet}
use Rattle.law_safety.specs.BegunFloods.{BeganOnce}
use Rattle.law_safety.specs.QuietHosts.{LivesAs, LivesBy}
use Rattle.law_safety.specs.Rows.{IsFine, AtTick, OffRow, StreamRow}
use Rattle.law_safety.proofs.RunFacts.{frame_in_run}
use Rattle.law_safety.proofs.KeptPlans.{nothing_told, on_kept}
use Rattle.law_safety.proofs.KeptDevices.{on_of, lives_kept, host_kept}
use Rattle.law_safety.proofs.FrameStarts.{frame_before, line_starts, rests_still, rests_at_start, counts_at_start}

module _ (s : ScenarioParts) (clocks : ℕ → ℕ → ℕ) (air : List Entry) (v t : ℕ) where
  -- streams are given something
  pub streams_told : (d : Device) (n : Node) (streams : Streams) → IsFine s clocks air v t Lines d → d.power ≡ PowerOn n
      → IsFine s clocks air v t Lines (record d { power = PowerOn (with_streams n streams) })
  streams_told d n streams fine on =
      let m : Node = with_streams n streams in
      let is = on_of s clocks air v t t d n fine.node on in
      record {
        node = record { by_power = on_kept s clocks air v t t (nothing_told s v t) n streams d (PowerOn m) t is };
        host = λ rank of.
            (let h = fine.host rank of in
            let lives : LivesAs h.life n = subst (λ (p : Power). LivesBy h.life (t / s.profile.frame) p) on h.lives in
            host_kept s rank t t t (omega arith) d (PowerOn m) h (lives_kept h.life n streams lives));
        sent = fine.sent;
        before = fine.before;
      }

  -- what a node that goes off has begun, it began once
  pub once_off : (d : Device) (n : Node) → IsFine s clocks air v t Lines d → d.power ≡ PowerOn n
      → BeganOnce s (device_after_off v t n d)
  once_off d n fine on f x y a b same =
      (on_of s clocks air v t t d n fine.node on).begun.once f x y
      (record { sent = a.sent; first = a.first; frame = a.frame }) (record { sent = b.sent; first = b.first; frame = b.frame }) same

  module _ (tick : AtTick s clocks air v t) (d : Device) (l : ScriptLine) (n : Node) (fine : IsFine s clocks air v t Lines d)
      (next : IsNextLineOf s v (clocks v) (heard_by air v) t l d) (on : d.power ≡ PowerOn n) where
    goes_off : IsFine s clocks air v t Lines (device_after_off v t n d)
    goes_off =
        let sound = tick.run.driven.sound in
        let clock = tick.run.driven.drift v tick.known in
        let is = on_of s clocks air v t t d n fine.node on in
        let start = line_starts s sound t l next.now in
        let early : t / s.profile.frame ≤ 4095 = frame_in_run s sound t tick.in_run in
        let counts = counts_at_start s clocks v t n start sound clock (omega (arith, early)) is.frame in
        let still = rests_still n d n.stage (rests_at_start s clocks v t n start is.frame) is.radio.at in
        record {
          node = record {
            by_power = (record { alarm = refl; radio = refl; still = record { ordered = refl; sending = still.sending } }, once_off d n fine on);
          };
          host = λ rank of.
              (let h = fine.host rank of in
              let lives : LivesAs h.life n = subst (λ (p : Power). LivesBy h.life (t / s.profile.frame) p) on h.lives in
              let frame = lives.frame in
              record {
                life = after_step rank (length s.hosts) h.life (GoesOff (t / s.profile.frame));
                quiet =
                    step_quiet rank (length s.hosts) h.life h.quiet (GoesOff (t / s.profile.frame)) (
                      lives.on,
                      omega (arith, frame, counts),
                      record {
                        openings = λ o there. frame_before s o.frame (t / s.profile.frame) (let a = h.opened o there in omega (arith, a, start));
                        closings = λ c there. frame_before s c.frame (t / s.profile.frame) (let a = h.closed c there in omega (arith, a, start));
                      },
                    );
                lives = (refl, omega arith);
                opened = h.opened;
                closed = h.closed;
                sent = h.sent;
                ordered = tt;
              });
          sent = fine.sent;
          before = fine.before;
        }

pub stream_row : StreamRow
stream_row s clocks air v t at d l n here next act on = streams_told s clocks air v t d n (streams_after_act l.act n.core.streams) here.holds on

pub off_row : OffRow
off_row s clocks air v t at d l n here next act on = goes_off s clocks air v t at d l n here.holds next on
