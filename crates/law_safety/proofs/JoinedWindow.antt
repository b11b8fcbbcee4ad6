-- The window that opens where a node that scans receives a schedule of its rank.
use Rattle.std.proofs.Common.{◌≡◌, ℕ, suc, ◌+◌, ◌/◌, ◌<◌, ◌≤◌, List, Bool, true, false, not, ◌&&◌, ◌||◌, ◌==◌, nat_lt, Some, None}
use Rattle.std.proofs.Common.{Option, is_some, IfSome, Contains, lt-ltb, eq-eqb, inl, refl, sym, ap, subst, arith}
use Rattle.std.specs.Prelude.{⊤, slice_index, max}
use Rattle.std.proofs.lemmas.Bool.{false≢true}
use Rattle.lwb_base.specs.Messages.{Schedule}
use Rattle.schedule_codec.specs.Reading.{is_schedule}
use Rattle.lwb_packets.specs.declared.kind.Kind as Kind
use Rattle.tick_clock.specs.Clocks.{IsClock, due}
use Rattle.time_reference.specs.Budgets.{budget_of}
use Rattle.time_reference.specs.Zeros.{closing_offset}
use Rattle.glossy_relay.specs.FloodState.{FloodState, listening}
use Rattle.glossy_relay.specs.Relaying.{fits}
use Rattle.bus_rules.specs.declared.delivery.Delivery.{Delivery}
use Rattle.bus_rules.specs.declared.tune.Tune.{Tune}
use Rattle.bus_rules.specs.declared.tune.Tune.TheVariants.{Scan, Hold, Host}
use Rattle.bus_rules.specs.Tuning.{hosts}
use Rattle.bus_rules.specs.Slots.{ScheduleOf}
use Rattle.lwb_member.specs.Said.{message_of}
use Rattle.node_core.specs.declared.stage.Stage.TheVariants.{Scanning, InWindow}
use Rattle.node_core.specs.Windows.{Window}
use Rattle.node_core.specs.Nodes.{Node, zero_from, closes_at}
use Rattle.node_core.specs.Rows.{part_by, last_by}
use Rattle.node_core.proofs.WindowKinds.{schedule_kind}
use Rattle.scenario_text.specs.ScenarioParts.{ScenarioParts}
use Rattle.radio_model.specs.declared.sending.Sending.{Sending}
use Rattle.air_log.specs.declared.entry.Entry.{Entry}
use Rattle.air_log.specs.Devices.{Device, PowerOn, OrderedPacket, listens_to}
use Rattle.air_log.specs.Lawful.{heard_by}
use Rattle.air_log.specs.WindowLogs.{WindowLog}
use Rattle.air_log.specs.Trails.{Reception, frame_start}
use Rattle.law_trails.specs.Lives.{Life}
use Rattle.law_trails.specs.Phases.{Hearings}
use Rattle.law_trails.proofs.HeardReferences.{good_now}
use Rattle.law_trails.proofs.SaidPackets.{says as packet_says}
use Rattle.law_trails.proofs.UnstoppedTimes.{slots_are_sums}
use Rattle.law_safety.specs.RoundZeros.{RefFor, GoodFor}
use Rattle.law_safety.specs.SetAlarms.{rank_at, HasAlarm}
use Rattle.law_safety.specs.StillDevices.{IsStill}
use Rattle.law_safety.specs.TunedNodes.{Either, HasTune, IsTunedAt, Scans, IsMember, by_hearing, is_last_window}
use Rattle.law_safety.specs.RadiosOn.{HasRadio, RadioFor}
use Rattle.law_safety.specs.OrderedSendings.{HasOrder, HasSending}
use Rattle.law_safety.specs.BegunFloods.{BeginsOnce, BegunAt, HasBegun}
use Rattle.law_safety.specs.KnownPlans.{HasPlan, HasRound}
use Rattle.law_safety.specs.AcceptedPackets.{HasAccepted}
use Rattle.law_safety.specs.NodesInOrder.{IsOn, InOpenWindow, InOrderBy}
use Rattle.law_safety.specs.QuietHosts.{HostsInOrder, LivesAs, LivesBy, IsOrderedBy}
use Rattle.law_safety.specs.KnownInRows.{IsHeardNow}
use Rattle.law_safety.specs.Rows.{IsFine, AtTick}
use Rattle.law_safety.proofs.RunFacts.{run_fits}
use Rattle.law_safety.proofs.FloodTimes.{host_drifts, slot_in_round}
use Rattle.law_safety.proofs.HeardRelays.{IsOfSlot, heard_in, ends_before, own_drifts}
use Rattle.law_safety.proofs.HeardSchedules.{reference}
use Rattle.law_safety.proofs.HeardPlaces.{listened, frame_now, began_now}

-- who scans joins by reception, and hosts nothing
module _ (s : ScenarioParts) (clocks : ℕ → ℕ → ℕ) (v : ℕ) (n : Node) where
  joins_so : (tune : Tune) → Scans s clocks v n tune → by_hearing n tune ≡ true
  joins_so (Scan r waited) fresh = ap not fresh
  joins_so (Hold r next) is = absurd is
  joins_so (Host r next) is = absurd is

  no_host : (tune : Tune) → Scans s clocks v n tune → hosts tune ≡ true → ⊥
  no_host (Scan r waited) fresh is = false≢true is
  no_host (Hold r next) fresh is = fresh
  no_host (Host r next) fresh is = fresh

all_true : (a b c : Bool) → a ≡ true → b ≡ true → c ≡ true → (a && true && b && c && true) ≡ true
all_true a b c is so also = rw (is, so, also) refl

module _ (s : ScenarioParts) (clocks : ℕ → ℕ → ℕ) (air : List Entry) (v t : ℕ) (at : AtTick s clocks air v t) (h : Reception) (d : Device)
    (now : IsHeardNow s clocks air v t h d)
    (n : Node) (y : Schedule) (there : Contains (heard_by air v) h) (ended : h.end ≡ t) (says : message_of h.packet ≡ Some (ScheduleOf y))
    (of_rank : y.plan.rank ≡ rank_at n)
    (fine : IsFine s clocks air v t Hearings d) (on : d.power ≡ PowerOn n) (stage : n.stage ≡ Scanning) where
  known : IsOn s clocks air v t (suc t) d n
  known = subst (InOrderBy s clocks air v t (suc t) d) on fine.node.by_power

  frame : n.frame ≡ t / s.profile.frame
  frame = frame_now s clocks air v t h d now n known

  began : frame_start s n.frame < t
  began = began_now s clocks air v t h d now n known

  pub radio : (listens_to (rank_at n) d.listening ≡ true) × IsStill d
  radio = subst (RadioFor n d) stage known.radio.at

  rank : now.sending.rank ≡ rank_at n
  rank = listened d.listening (rank_at n) now.sending.rank now.channel radio.0

  scans : Scans s clocks v n n.core.tune
  scans = subst (IsTunedAt s clocks v n) stage known.tune.at

  some_sends : nat_lt 0 s.sends ≡ true
  some_sends = let some = at.run.driven.sound.some_sends in lt-ltb 0 s.sends (omega (arith, some))

  -- ---- the flood takes it

  abbrev slot : ℕ
  slot = slice_index h.packet 1

  abbrev empty : FloodState
  empty = listening Kind.TheVariants.Schedule slot s.sends

  pub fitting : fits empty h.packet ≡ true
  fitting = all_true (nat_lt 0 s.sends) (is_schedule h.packet) (slot == slot) some_sends (packet_says h.packet (ScheduleOf y) says).spelled
      (eq-eqb slot slot refl)

  abbrev zero_now : ℕ
  zero_now = zero_from s.profile (clocks v t) h.packet

  ref : RefFor s clocks (rank_at n) v zero_now n.frame n.frame slot
  ref =
      subst (λ (r : ℕ). RefFor s clocks r v zero_now n.frame n.frame slot) rank
      (subst (λ (f : ℕ). RefFor s clocks now.sending.rank v zero_now f f slot) (sym frame) (reference s clocks air v t at h d now y there ended says))

  good : GoodFor s clocks (rank_at n) v zero_now n.frame (closing_offset s.profile slot)
  good = good_now s.profile (budget_of s.profile) (run_fits s at.run.driven.sound) (clocks (slice_index s.hosts (rank_at n)))
      (clocks v) zero_now n.frame slot ref

  -- ---- the window, whose flood waits where a relay is ordered

  module _ (waits : Bool) (ordered : Option OrderedPacket) (deliveries : List Delivery) (windows : List WindowLog) where
    abbrev pub open_window : Window
    open_window = record {
      part = part_by y;
      last = last_by y slot;
      flood = record { kind = Kind.TheVariants.Schedule; slot = slot; limit = s.sends; sent = 0; waiting = waits; initiated = false; first = Some h.packet };
      reference = Some zero_now;
    }

    abbrev pub joined : Node
    joined = record n { zero = zero_now; stage = InWindow slot open_window }

    abbrev due_alarm : ℕ
    due_alarm = max (due (clocks v) (closes_at s.profile zero_now slot)) t

    abbrev joined_device : Device
    joined_device = record d {
      power = PowerOn joined;
      alarm = Some due_alarm;
      ordered = ordered;
      made = record (d.made) { deliveries = deliveries; windows = windows };
    }

    pub of_slot : IsOfSlot s clocks air v t at h d now joined slot
    of_slot = record { frame = frame; rank = rank; slot = ap (λ (q : List ℕ). slice_index q 1) (sym now.packet); good = good }

    alarm_set : HasAlarm s clocks v joined joined_device
    alarm_set =
        let x = now.sending in
        let in_round : slot ≤ (budget_of s.profile).last =
        subst (λ (i : ℕ). i ≤ (budget_of s.profile).last) of_slot.slot (slot_in_round s clocks air at.run x now.of_flood) in
        let host = subst (λ (r : ℕ). IsClock (clocks (slice_index s.hosts r))) rank (host_drifts s clocks air at.run x now.of_flood) in
        let sums = slots_are_sums s.profile (budget_of s.profile) (run_fits s at.run.driven.sound) (clocks (slice_index s.hosts (rank_at n)))
        (clocks v) zero_now n.frame
        (closing_offset s.profile slot) slot host (own_drifts s clocks air v t at h d now) good in_round in
        let same = ap (due (clocks v)) sums.closes in
        let before = ends_before s clocks air v t at h d now joined slot of_slot in
        let is : due_alarm ≡ due (clocks v) (zero_now + closing_offset s.profile slot) = omega (arith, same, before) in
        record { alarm = due_alarm; set = refl; at = is }

    joining : by_hearing n n.core.tune ≡ true
    joining = joins_so s clocks v n n.core.tune scans

    tune_set : HasTune s clocks v joined
    tune_set = record {
      rank = known.tune.rank;
      at = subst (λ (b : Bool). Either b (RefFor s clocks (rank_at n) v zero_now n.frame n.frame slot)
          (IsMember s clocks v joined slot (last_by y slot) (is_last_window slot open_window))) (sym joining) ref;
    }

    radio_set : HasRadio joined joined_device
    radio_set = record { at = subst (λ (b : Bool). Either b (listens_to (rank_at n) d.listening ≡ true) (d.listening ≡ None)) (sym some_sends) radio.0 }

    plan_set : HasPlan s clocks air v (suc t) joined
    plan_set = record { at = subst (λ (b : Bool). Either b ⊤ (HasRound s clocks air v (suc t) joined slot open_window)) (sym joining) tt }

    has_begun : (f : ℕ) (x : Sending) → HasBegun s f joined_device x → HasBegun s f d x
    has_begun f x is = record { sent = is.sent; first = is.first; frame = is.frame }

    begun_so : BeginsOnce s joined joined_device
    begun_so =
        let none : (x : Sending) → HasBegun s n.frame d x → ⊥ = subst (BegunAt s n d) stage known.begun.at in
        record {
          at = record {
            below = λ x begun. absurd (none x (has_begun n.frame x begun));
            packet = λ x begun here. absurd (none x (has_begun n.frame x begun));
            made = λ initiated. absurd (false≢true initiated);
          };
          once = λ f x z one other here. known.begun.once f x z (has_begun f x one) (has_begun f z other) here;
        }

    accepted_so : HasAccepted s clocks air v (suc t) joined slot open_window
    accepted_so = record {
      each = record {
        heard = now.sending;
        in_slot = heard_in s clocks air v t at h d now joined slot of_slot;
        is = now.packet;
        reference = λ part. ap (λ (e : ℕ). Some (zero_from s.profile (clocks v e) h.packet)) (sym now.end);
      };
      joined = λ so. record { schedule = y; packet = h.packet; accepted = refl; says = says; rank = of_rank; reference = refl; last = refl; part = refl };
    }

    module _ (now_waits : waits ≡ (is_some ordered || is_some d.sending)) (one : (is_some ordered && is_some d.sending) ≡ false)
        (order : IfSome ordered (HasOrder s clocks air v (suc t) joined slot open_window))
        (by_life : (l : Life) (f : ℕ) → IsOrderedBy l f d.ordered → IsOrderedBy l f ordered) where
      window_so : InOpenWindow s clocks air v (suc t) joined joined_device slot open_window
      window_so = record {
        flood = record {
          kind = schedule_kind y;
          slot = refl;
          limit = refl;
          few = omega arith;
          waits = now_waits;
          one = one;
          spent = λ all. (let some = at.run.driven.sound.some_sends in absurd (omega (arith, all, some)));
          own = λ hosting part. absurd (no_host s clocks v n n.core.tune scans hosting);
        };
        order = order;
        sending = subst (λ (o : Option Sending). IfSome o (HasSending s clocks air v joined slot)) (sym radio.1.sending) tt;
        accepted = accepted_so;
      }

      lives_so : (l : Life) → LivesAs l n → LivesAs l joined
      lives_so l is = record { on = is.on; frame = is.frame; tune = is.tune; plan = is.plan }

      pub joined_fine : IsFine s clocks air v t Hearings joined_device
      joined_fine = record {
        node = record {
          by_power = record {
            frame = record { at = inl frame; began = began };
            alarm = alarm_set;
            tune = tune_set;
            radio = radio_set;
            begun = begun_so;
            plan = plan_set;
            window = window_so;
          };
        };
        host = λ rank is. (let old : HostsInOrder s rank t (suc t) d = fine.host rank is in record {
          life = old.life;
          quiet = old.quiet;
          lives = lives_so old.life (subst (LivesBy old.life (t / s.profile.frame)) on old.lives);
          opened = old.opened;
          closed = old.closed;
          sent = old.sent;
          ordered = by_life old.life (t / s.profile.frame) old.ordered;
        });
        sent = fine.sent;
        before = fine.before;
      }
