-- The node that the closing of a window leaves: it awaits the next slot of its round, or the end of the frame. And the life
-- of a host, with it.
use Rattle.std.proofs.Common.{◌≡◌, ℕ, suc, ◌+◌, ◌/◌, ◌<◌, ◌≤◌, inl, inr, List, Bool, true, false, if◌then◌else◌, Some, None, Contains, length, max, refl, sym}
use Rattle.std.proofs.Common.{◌∙◌, ap, subst, arith, true≢false}
use Rattle.tick_clock.specs.Clocks.{due}
use Rattle.time_reference.specs.Zeros.{opening_offset, closing_offset}
use Rattle.bus_rules.specs.declared.tune.Tune.TheVariants.{Hold}
use Rattle.bus_rules.specs.Plans.{last_slot}
use Rattle.bus_rules.specs.Tuning.{rank_of, hosts}
use Rattle.bus_rules.specs.Cores.{Core}
use Rattle.node_core.specs.declared.stage.Stage.TheVariants.{AwaitFrame, AwaitSlot}
use Rattle.node_core.specs.Windows.{Window}
use Rattle.node_core.specs.Nodes.{Node, frame_alarm, opens_at}
use Rattle.node_core.specs.Rows.{zero_next}
use Rattle.scenario_text.specs.ScenarioParts.{ScenarioParts}
use Rattle.radio_model.specs.declared.sending.Sending.{Sending}
use Rattle.radio_model.specs.Hearing.{slot_of_sending}
use Rattle.air_log.specs.declared.entry.Entry.{Entry}
use Rattle.air_log.specs.Devices.{Device, PowerOn}
use Rattle.law_trails.specs.Lives.{Life, Holds, after_step}
use Rattle.law_trails.proofs.LifeSteps.{step_quiet}
use Rattle.law_safety.specs.StillDevices.{IsStill}
use Rattle.law_safety.specs.RoundZeros.{GoodFor}
use Rattle.law_safety.specs.CountedFrames.{frame_alarm_at}
use Rattle.law_safety.specs.SetAlarms.{rank_at, tick_by, HasAlarm}
use Rattle.law_safety.specs.TunedNodes.{IsRoundOf, Waits}
use Rattle.law_safety.specs.BegunFloods.{HasBegun}
use Rattle.law_safety.specs.KnownPlans.{InRound, PlanFor}
use Rattle.law_safety.specs.NodesInOrder.{IsOn}
use Rattle.law_safety.specs.QuietHosts.{LivesAs, LivesBy, IsOrderedBy, HostsInOrder}
use Rattle.law_safety.specs.Rows.{AtTick}
use Rattle.law_safety.proofs.ClosedWindows.{Closes, good_closing, good_next, opens_then, frame_alarm_then}

module _ (s : ScenarioParts) (clocks : ℕ → ℕ → ℕ) (air : List Entry) (v t : ℕ) (at : AtTick s clocks air v t) (d : Device) (n : Node) (j : ℕ) (w : Window)
    (is : Closes s clocks air v t d n j w) where
  -- a device whose window is closed, and whose alarm is set for this local time
  pub record IsShut (e : Device) (local : ℕ) : Type 0 where
    pub still : IsStill e
    pub off : e.listening ≡ None
    pub sent : e.made.sent ≡ d.made.sent
    pub alarm : e.alarm ≡ Some (max (due (clocks v) local) t)

  module _ (e : Device) (local : ℕ) (shut : IsShut e local) where
    begun_before : (g : ℕ) (x : Sending) → HasBegun s g e x → HasBegun s g d x
    begun_before g x b = record { sent = subst (λ (xs : List Sending). Contains xs x) shut.sent b.sent; first = b.first; frame = b.frame }

    once_then : (g : ℕ) (x y : Sending) → HasBegun s g e x → HasBegun s g e y → slot_of_sending x ≡ slot_of_sending y → x ≡ y
    once_then g x y bx by same = is.once g x y (begun_before g x bx) (begun_before g y by) same

    -- it awaits the next slot
    module _ (core : Core) (z : ℕ) (rank : rank_of core.tune ≡ rank_at n) where
      abbrev pub awaiting : Node
      awaiting = record { core = core; frame = n.frame; zero = z; stage = AwaitSlot (j + 1) }

      pub record GoesOn : Type 0 where
        pub good : GoodFor s clocks (rank_at n) v z n.frame (closing_offset s.profile j)
        pub slot : j + 1 ≤ last_slot core.plan
        pub round : IsRoundOf s clocks v awaiting (j + 1) false core.tune
        pub plan : InRound s clocks air v (suc t) awaiting (j + 1) core.plan

      alarm_then : GoesOn → local ≡ opens_at s.profile z (j + 1) → HasAlarm s clocks v awaiting e
      alarm_then on when =
          let short = on.plan.fits.short in
          let slot = on.slot in
          let set : e.alarm ≡ Some (max (due (clocks v) (opens_at s.profile z (j + 1))) t) =
          shut.alarm ∙ ap (λ (a : ℕ). Some (max (due (clocks v) a) t)) when in
          elim (opens_then s clocks air v t at d n j w is z on.good (omega (arith, slot, short))) [
            | inl opens ↦ record {
              alarm = tick_by s clocks v awaiting (opening_offset s.profile (j + 1));
              set = set ∙ ap (λ (a : ℕ). Some a) opens;
              at = inl refl;
            }
            | inr late ↦ record {
              alarm = t;
              set = set ∙ ap (λ (a : ℕ). Some a) late.0;
              at = inr (record {
                before = j;
                next = omega arith;
                zero = n.zero;
                good = subst (λ (r : ℕ). GoodFor s clocks r v n.zero n.frame (closing_offset s.profile j)) (sym rank)
                    (good_closing s clocks air v t at d n j w is);
                at = is.alarm;
                late = late.1;
              });
            }
          ]

      pub on_slot : GoesOn → local ≡ opens_at s.profile z (j + 1) → IsOn s clocks air v t (suc t) e awaiting
      on_slot on when = record {
        frame = record { at = inl is.frame; began = inr is.began };
        alarm = alarm_then on when;
        tune = record {
          rank = subst (λ (r : ℕ). r < length s.hosts) (sym rank) is.tune.rank;
          at = record {
            slot = on.slot;
            good = subst (λ (r : ℕ). GoodFor s clocks r v z n.frame (opening_offset s.profile (j + 1))) (sym rank)
                (good_next s clocks air v t at d n j w is z on.good);
            round = on.round;
          };
        };
        radio = record { at = (shut.off, shut.still) };
        begun = record {
          at = λ x begun. (let below = is.begun.below x (begun_before n.frame x begun) in omega (arith, below));
          once = once_then;
        };
        plan = record { at = on.plan };
        window = tt;
      }

    -- or the end of the frame
    module _ (core : Core) (z : ℕ) (rank : rank_of core.tune ≡ rank_at n) where
      abbrev pub resting : Node
      resting = record { core = core; frame = n.frame; zero = z; stage = AwaitFrame }

      pub on_rest : Waits s clocks v resting core.tune → PlanFor s clocks air v (suc t) resting core.tune → local ≡ frame_alarm s.profile n.frame
          → IsOn s clocks air v t (suc t) e resting
      on_rest waits plan when = record {
        frame = record { at = inl is.frame; began = tt };
        alarm = record {
          alarm = frame_alarm_at s clocks v n.frame;
          set = shut.alarm ∙ ap (λ (a : ℕ). Some (max (due (clocks v) a) t)) when ∙ ap (λ (a : ℕ). Some a) (frame_alarm_then s clocks air v t at d n j w is);
          at = refl;
        };
        tune = record { rank = subst (λ (r : ℕ). r < length s.hosts) (sym rank) is.tune.rank; at = waits };
        radio = record { at = (shut.off, shut.still) };
        begun = record { at = tt; once = once_then };
        plan = record { at = plan };
        window = tt;
      }

    -- the life of a host goes on with its tune and plan, or comes to hold a rank
    module _ (rank : ℕ) (old : HostsInOrder s rank t (suc t) d) (lives : LivesAs old.life n) (m : Node)
        (power : e.power ≡ PowerOn m) (frame : m.frame ≡ n.frame) where
      abbrev now : ℕ
      now = t / s.profile.frame

      none_ordered : (life : Life) → IsOrderedBy life now e.ordered
      none_ordered life = subst (IsOrderedBy life now) (sym shut.still.ordered) tt

      was_sent : (x : Sending) → Contains e.made.sent x → Contains d.made.sent x
      was_sent x there = subst (λ (xs : List Sending). Contains xs x) shut.sent there

      pub host_stays : m.core.tune ≡ n.core.tune → (hosts n.core.tune ≡ true → m.core.plan ≡ n.core.plan) → HostsInOrder s rank t (suc t) e
      host_stays tune plan =
          let goes_on : LivesAs old.life m = record {
            on = lives.on;
            frame = lives.frame ∙ sym frame;
            tune = lives.tune ∙ sym tune;
            plan = λ host. (let hosted = sym (ap hosts tune) ∙ host in lives.plan hosted ∙ sym (plan hosted));
          } in
          record {
            life = old.life;
            quiet = old.quiet;
            lives = subst (LivesBy old.life now) (sym power) goes_on;
            opened = old.opened;
            closed = old.closed;
            sent = λ x y there. old.sent x y (was_sent x there);
            ordered = none_ordered old.life;
          }

      pub host_holds : (r due_frame : ℕ) → m.core.tune ≡ Hold r due_frame → hosts n.core.tune ≡ false → HostsInOrder s rank t (suc t) e
      host_holds r due_frame tune guest =
          let life : Life = after_step rank (length s.hosts) old.life (Holds r due_frame) in
          let no_host : hosts old.life.tune ≡ false = ap hosts lives.tune ∙ guest in
          let goes_on : LivesAs life m = record {
            on = lives.on;
            frame = lives.frame ∙ sym frame;
            tune = sym tune;
            plan = λ host. absurd (true≢false (sym host ∙ ap hosts tune));
          } in
          record {
            life = life;
            quiet = step_quiet rank (length s.hosts) old.life old.quiet (Holds r due_frame) (lives.on, no_host);
            lives = subst (LivesBy life now) (sym power) goes_on;
            opened = old.opened;
            closed = old.closed;
            sent = λ x y there. old.sent x y (was_sent x there);
            ordered = none_ordered life;
          }

  -- the node with this core and zero, with or without more slots to come, and the local time of its next alarm
  abbrev pub shut_node : Core → ℕ → Bool → Node
  shut_node core z more = record {
    core = core;
    frame = n.frame;
    zero = if more then z else zero_next s.profile z core.tune;
    stage = if more then AwaitSlot (j + 1) else AwaitFrame;
  }

  abbrev pub next_time : ℕ → Bool → ℕ
  next_time z more = if more then opens_at s.profile z (j + 1) else frame_alarm s.profile n.frame

  -- it is in order at a device that is shut, and so is the life of a host
  pub record InOrderThen (e : Device) (core : Core) (z : ℕ) (more : Bool) : Type 0 where
    pub node : IsOn s clocks air v t (suc t) e (shut_node core z more)
    pub host : (rank : ℕ) (old : HostsInOrder s rank t (suc t) d) → LivesAs old.life n → HostsInOrder s rank t (suc t) e

  abbrev pub Leads : Device → Core → ℕ → Bool → Type 0
  Leads e core z more = IsShut e (next_time z more) → e.power ≡ PowerOn (shut_node core z more) → InOrderThen e core z more
