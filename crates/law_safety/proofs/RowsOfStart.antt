-- The start of the ordered transmission: it begins its flood as it may, or follows what its node received.
use Rattle.std.proofs.Common.{◌≡◌, ℕ, suc, ◌+◌, ◌/◌, ◌<◌, ◌≤◌, ◌⊎◌, inl, inr, List, [], ◌∷◌, ◌++◌, length, Bool, if◌then◌else◌, Some, None, Option, Contains}
use Rattle.std.proofs.Common.{refl, sym, ◌∙◌, ap, subst, arith}
use Rattle.std.specs.Option.{IfSome}
use Rattle.std.specs.Prelude.{slice_index}
use Rattle.std.proofs.lemmas.Bool.{eq-eqb, eqb-true}
use Rattle.std.proofs.lemmas.List.{length-set}
use Rattle.std.proofs.lemmas.List.Elements.{Contains-append_left, Contains-append_right, Contains-push_cases}
use Rattle.lwb_base.specs.Profile.{airtime}
use Rattle.time_reference.specs.Zeros.{closing_offset}
use Rattle.glossy_relay.proofs.CountedPackets.{counter_set}
use Rattle.bus_rules.specs.Tuning.{hosts}
use Rattle.lwb_member.specs.Said.{message_of}
use Rattle.radio_model.specs.declared.sending.Sending.{Sending}
use Rattle.radio_model.specs.Hearing.{frame_of_sending, slot_of_sending, counter_of_sending}
use Rattle.scenario_text.specs.ScenarioParts.{ScenarioParts}
use Rattle.node_core.specs.declared.stage.Stage.{Stage}
use Rattle.node_core.specs.Windows.{Window}
use Rattle.node_core.specs.Nodes.{Node}
use Rattle.air_log.specs.declared.entry.Entry.{Entry}
use Rattle.air_log.specs.Entries.{sendings_of}
use Rattle.air_log.specs.Devices.{Device, Power, Listening, OrderedPacket, listens_to}
use Rattle.air_log.specs.Lawful.{heard_by}
use Rattle.air_log.specs.Safe.{sender_hosts, is_hosting}
use Rattle.scenario_text.specs.Setups.{setup_of}
use Rattle.air_log.specs.Trails.{sending_from, starts, begun_by, device_after_start, before_tick, tune_of}
use Rattle.law_trails.specs.Phases.{Start, Over, device_at}
use Rattle.law_trails.specs.TrailLinks.{device_in}
use Rattle.law_trails.specs.Walks.{with_start}
use Rattle.law_trails.specs.DeviceRanges.{IsWellAndProper}
use Rattle.law_trails.specs.SpokenRanges.{IsProper}
use Rattle.lwb_base.proofs.Elements.{contains_head}
use Rattle.law_trails.proofs.SentInTrails.{sent_below}
use Rattle.law_safety.specs.SetAlarms.{rank_at, tick_by}
use Rattle.law_safety.specs.RadiosOn.{RadioFor}
use Rattle.law_safety.specs.OrderedSendings.{IsFirst, IsRelay}
use Rattle.law_safety.specs.BegunFloods.{BegunAt, BegunInWindow, HasBegun, IsFirstOrdered}
use Rattle.law_safety.specs.FloodSendings.{IsOfFlood}
use Rattle.law_safety.specs.NodesInOrder.{IsOn, InOrderBy, WindowAt}
use Rattle.law_safety.specs.QuietHosts.{HostsInOrder, IsOrderedBy, LifeHasSchedule}
use Rattle.law_safety.specs.Rows.{IsFine, AtTick, BeginningRow, MissedStartRow}
use Rattle.law_safety.proofs.WellSteps.{well_in_phases}
use Rattle.law_safety.proofs.OpenWindows.{IsAbout, not_missed, where_ordered}
use Rattle.law_safety.proofs.StartedSendings.{begins_flood, follows_flood}

module _ (s : ScenarioParts) (clocks : ℕ → ℕ → ℕ) (air : List Entry) (v t : ℕ) where
  module _ (d : Device) (o : OrderedPacket) (fine : IsFine s clocks air v t Start d) (ordered : d.ordered ≡ Some o) (here : IsAbout s clocks air v t d o) where
    abbrev n : Node
    n = here.node

    abbrev j : ℕ
    j = here.slot

    abbrev w : Window
    w = here.window

    module _ (at : AtTick s clocks air v t) (enters : d ≡ device_at s v (clocks v) (heard_by air v) t Start) (now : o.tick ≡ t)
        (l : Listening) (tuned : d.listening ≡ Some l) (free : d.sending ≡ None) where
      abbrev x : Sending
      x = sending_from (setup_of s v) t o.packet l

      abbrev e : Device
      e = with_start d x

      rank_is : l.rank ≡ rank_at n
      rank_is = eqb-true l.rank (rank_at n) (ap (listens_to (rank_at n)) (sym tuned) ∙ here.listens)

      -- ---- it is in the log

      begun_sent : (device_after_start (setup_of s v) t d).made.sent ≡ d.made.sent ++ x ∷ []
      begun_sent =
          let su = setup_of s v in
          ap (λ (p : Option OrderedPacket). (begun_by su t d p).made.sent) ordered
          ∙ ap (λ (b : Bool). (if b then starts su t o.packet d d.listening d.sending else d).made.sent) (eq-eqb o.tick t now)
          ∙ ap (λ (p : Option Listening). (starts su t o.packet d p d.sending).made.sent) tuned
          ∙ ap (λ (p : Option Sending). (starts su t o.packet d (Some l) p).made.sent) free

      sent_then : Contains (device_in s clocks air v (suc t)).made.sent x
      unfolding before_tick
      sent_then =
          subst (λ (y : Device). Contains (device_after_start (setup_of s v) t y).made.sent x) enters
          (subst (λ (xs : List Sending). Contains xs x) (sym begun_sent) (Contains-append_right d.made.sent (x ∷ []) x (contains_head x [])))

      in_log : Contains (sendings_of air) x
      in_log =
          let in_run = at.in_run in
          ((sent_below s clocks air at.run.heedful.trails v at.known (suc t) (omega (arith, in_run)) x).1 sent_then).there

      hosts_now : sender_hosts s clocks air x ≡ hosts n.core.tune
      hosts_now =
          ap (λ (y : Device). is_hosting (tune_of y.power)) (sym enters)
          ∙ ap (λ (p : Power). is_hosting (tune_of p)) here.on

      -- ---- it begins a flood, or follows what was received

      proper : IsProper s.profile o.packet
      proper =
          let well : IsWellAndProper s v d = subst (λ (y : Device). IsWellAndProper s v y) (sym enters) (well_in_phases s clocks air v t at Start) in
          subst (λ (p : Option OrderedPacket). IfSome p (λ q. IsProper s.profile q.packet)) ordered well.ordered

      of_flood : IsOfFlood s clocks air x
      of_flood = elim here.order.why [
        | inl first ↦ begins_flood s clocks air v t at n j o now l.rank rank_is here.is.tune.rank here.frame w here.order.slot first in_log hosts_now proper
        | inr relay ↦ follows_flood s clocks air v t at n j o now l.rank rank_is here.is.tune.rank here.frame relay
      ]

      -- ---- the floods that the node has begun

      of_old : (f : ℕ) (y : Sending) → HasBegun s f e y → HasBegun s f d y ⊎ (x ≡ y)
      of_old f y b =
          elim (Contains-push_cases d.made.sent x y b.sent) [
            | inl before ↦ inl (record { sent = before; first = b.first; frame = b.frame })
            | inr this ↦ inr this
          ]

      still_begun : (f : ℕ) (y : Sending) → HasBegun s f d y → HasBegun s f e y
      still_begun f y b = record { sent = Contains-append_left d.made.sent (x ∷ []) y b.sent; first = b.first; frame = b.frame }

      begun_in : BegunInWindow s n d j w
      begun_in = subst (λ (p : Stage). BegunAt s n d p) here.stage here.is.begun.at

      -- where it begins a flood, it is the first packet of the window's
      first_of : counter_of_sending x ≡ 0 → IsFirst s clocks air v n j w o
      first_of zero = elim here.order.why [
        | inl first ↦ first
        | inr relay ↦ absurd (relayed relay zero)
      ]
        where
          relayed : IsRelay s clocks air v (suc t) n j o → counter_of_sending x ≡ 0 → ⊥
          relayed relay zero =
              let y = relay.heard in
              let long : 7 ≤ length o.packet = proper.spoken.least in
              let size : length o.packet ≡ length y.packet = ap (λ (q : List ℕ). length q) relay.packet ∙ length-set y.packet 2 (counter_of_sending y + 1) in
              let counted : counter_of_sending x ≡ counter_of_sending y + 1 =
              ap (λ (q : List ℕ). slice_index q 2) relay.packet ∙ counter_set y.packet (counter_of_sending y + 1) (omega (arith, long, size)) in
              omega (arith, zero, counted)

      is_first : counter_of_sending x ≡ 0 → IsFirstOrdered d.ordered
      is_first zero = subst (λ (p : Option OrderedPacket). IsFirstOrdered p) (sym ordered) zero

      begun_then : BegunInWindow s n e j w
      begun_then = record {
        below = λ y b. elim (of_old n.frame y b) [
          | inl old ↦ begun_in.below y old
          | inr this ↦ (let slot : slot_of_sending x ≡ j = here.order.slot in let same = ap slot_of_sending this in omega (arith, slot, same))
        ];
        packet = λ y b same. elim (of_old n.frame y b) [
          | inl old ↦ (let p = begun_in.packet y old same in (p.0, p.1, λ none. none))
          | inr this ↦ (
              let first = first_of (ap counter_of_sending this ∙ b.first) in
              (first.initiated, first.packet ∙ ap (λ (z : Sending). Some z.packet) this, λ none. none))
        ];
        made = λ initiated. elim (begun_in.made initiated) [
          | inl first ↦ inr (record {
            sending = x;
            begun = record {
              sent = Contains-append_right d.made.sent (x ∷ []) x (contains_head x []);
              first = subst (λ (p : Option OrderedPacket). IsFirstOrdered p) ordered first;
              frame = here.frame;
            };
            slot = here.order.slot;
          })
          | inr before ↦ inr (record { sending = before.sending; begun = still_begun n.frame before.sending before.begun; slot = before.slot })
        ];
      }

      -- an earlier one of this slot forbids that another is ordered
      again : (f : ℕ) (y : Sending) → HasBegun s f d y → frame_of_sending s.profile x ≡ f → counter_of_sending x ≡ 0 → slot_of_sending x ≡ slot_of_sending y → ⊥
      again f y b frame zero same =
          let now_begun : HasBegun s n.frame d y = record { sent = b.sent; first = b.first; frame = b.frame ∙ sym frame ∙ here.frame } in
          let slot : slot_of_sending x ≡ j = here.order.slot in
          (begun_in.packet y now_begun (sym same ∙ slot)).2 (is_first zero)

      once_then : (f : ℕ) (y z : Sending) → HasBegun s f e y → HasBegun s f e z → slot_of_sending y ≡ slot_of_sending z → y ≡ z
      once_then f y z by bz same = elim (of_old f y by) [
        | inl old ↦ elim (of_old f z bz) [
          | inl older ↦ here.is.begun.once f y z old older same
          | inr this ↦ absurd
              (again f y old (ap (frame_of_sending s.profile) this ∙ bz.frame) (ap counter_of_sending this ∙ bz.first) (ap slot_of_sending this ∙ sym same))
        ]
        | inr at_once ↦ elim (of_old f z bz) [
          | inl older ↦ absurd
              (again f z older (ap (frame_of_sending s.profile) at_once ∙ by.frame) (ap counter_of_sending at_once ∙ by.first)
              (ap slot_of_sending at_once ∙ same))
          | inr this ↦ sym at_once ∙ this
        ]
      ]

      -- ---- the device after it

      on_then : IsOn s clocks air v t (suc t) e n
      on_then =
          let old = here.open_window in
          let flood = old.flood in
          record {
            frame = here.is.frame;
            alarm = record { alarm = here.is.alarm.alarm; set = here.is.alarm.set; at = here.is.alarm.at };
            tune = here.is.tune;
            radio = record { at = subst (λ (p : Stage). RadioFor n e p) (sym here.stage) (subst (λ (p : Stage). RadioFor n d p) here.stage here.is.radio.at) };
            begun = record { at = subst (λ (p : Stage). BegunAt s n e p) (sym here.stage) begun_then; once = once_then };
            plan = here.is.plan;
            window = subst (λ (p : Stage). WindowAt s clocks air v (suc t) n e p) (sym here.stage) (record {
              flood = record {
                kind = flood.kind;
                slot = flood.slot;
                limit = flood.limit;
                few = flood.few;
                waits = here.waits;
                one = refl;
                spent = flood.spent;
                own = flood.own;
              };
              order = tt;
              sending = record {
                rank = rank_is;
                slot = here.order.slot;
                over = subst (λ (k : ℕ). k + airtime s.profile (length o.packet) < tick_by s clocks v n (closing_offset s.profile j)) now here.order.over;
              };
              accepted = old.accepted;
            });
          }

      host_then : (rank : ℕ) → HostsInOrder s rank t (suc t) d → HostsInOrder s rank t (suc t) e
      host_then rank h = record {
        life = h.life;
        quiet = h.quiet;
        lives = h.lives;
        opened = h.opened;
        closed = h.closed;
        sent = λ y z there first says. elim (Contains-push_cases d.made.sent x y there) [
          | inl before ↦ h.sent y z before first says
          | inr this ↦ subst (λ (u : Sending). LifeHasSchedule h.life (frame_of_sending s.profile u) z) this
              (subst (λ (p : Option OrderedPacket). IsOrderedBy h.life (t / s.profile.frame) p) ordered h.ordered
              (ap counter_of_sending this ∙ first) z (ap (λ (u : Sending). message_of u.packet) this ∙ says))
        ];
        ordered = tt;
      }

      fine_then : IsFine s clocks air v t Over e
      fine_then = record {
        node = record { by_power = subst (λ (p : Power). InOrderBy s clocks air v t (suc t) e p) (sym here.on) on_then };
        host = λ rank named. host_then rank (fine.host rank named);
        sent = λ y there. elim (Contains-push_cases d.made.sent x y there) [
          | inl before ↦ fine.sent y before
          | inr this ↦ subst (λ (z : Sending). IsOfFlood s clocks air z) this of_flood
        ];
        before = λ y there. elim (Contains-push_cases d.made.sent x y there) [
          | inl before ↦ (let earlier = fine.before y before in omega (arith, earlier))
          | inr this ↦ (let start = ap (λ (z : Sending). z.start) this in omega (arith, start))
        ];
      }

pub beginning_row : BeginningRow
beginning_row s clocks air v t at d o l here enters ordered now tuned free =
    fine_then s clocks air v t d o here.holds ordered (where_ordered s clocks air v t d o ordered here.holds) at enters now l tuned free

-- what is ordered starts
pub missed_start_row : MissedStartRow
missed_start_row s clocks air v t at d o here enters ordered now cannot = not_missed s clocks air v t d o ordered here.holds cannot
