-- The end of the own transmission: the flood of its window counts it, and there is none elsewhere.
use Rattle.std.proofs.Common.{◌≡◌, ℕ, suc, ◌/◌, ◌<◌, inl, inr, List, Bool, true, false, ◌&&◌, ◌||◌, Some, None, Option, is_some, Contains, refl, sym, ◌∙◌, ap}
use Rattle.std.proofs.Common.{subst, arith, true≢false}
use Rattle.std.specs.Option.{IfSome}
use Rattle.std.specs.Prelude.{⊤}
use Rattle.std.proofs.lemmas.Bool.{or_right, cases_lt, lt-ltb}
use Rattle.std.proofs.lemmas.Option.{none-some}
use Rattle.lwb_base.specs.declared.event.Event.TheVariants.{Sent}
use Rattle.glossy_relay.specs.Relaying.{after_sent, accepted_of}
use Rattle.radio_model.specs.declared.sending.Sending.{Sending}
use Rattle.scenario_text.specs.ScenarioParts.{ScenarioParts}
use Rattle.node_core.specs.declared.stage.Stage.{Stage}
use Rattle.node_core.specs.declared.stage.Stage.TheVariants.{Idle, Scanning, AwaitFrame, AwaitSlot, InWindow}
use Rattle.node_core.specs.Windows.{Window}
use Rattle.node_core.specs.Nodes.{Node}
use Rattle.node_core.specs.Rows.{sends}
use Rattle.air_log.specs.declared.entry.Entry.{Entry}
use Rattle.air_log.specs.Devices.{Device, Power, PowerOff, PowerOn, OrderedPacket, listens_to}
use Rattle.scenario_text.specs.Setups.{setup_of}
use Rattle.law_trails.specs.Lives.{Life}
use Rattle.law_trails.specs.Phases.{End, Alarms}
use Rattle.law_trails.specs.Walks.{device_after_row, NoWindow, HasNoWindow}
use Rattle.law_safety.specs.CountedFrames.{IsResting, BeganBy}
use Rattle.law_safety.specs.SetAlarms.{rank_at, HasAlarm, AlarmFor}
use Rattle.law_safety.specs.TunedNodes.{Either, HasTune, IsTunedAt, IsMember, is_joining, is_last_window}
use Rattle.law_safety.specs.RoundZeros.{RefFor}
use Rattle.law_safety.specs.RadiosOn.{RadioFor}
use Rattle.law_safety.specs.OpenFloods.{HasFlood}
use Rattle.law_safety.specs.OrderedSendings.{HasOrder, HasSending}
use Rattle.law_safety.specs.BegunFloods.{BegunAt, BegunInWindow, HasBegun, IsFirstOrdered}
use Rattle.law_safety.specs.KnownPlans.{HasPlan, PlanAt, HasRound}
use Rattle.law_safety.specs.AcceptedPackets.{HasAccepted, IsAccepted}
use Rattle.law_safety.specs.NodesInOrder.{IsOn, InOrderBy, InOpenWindow, WindowAt}
use Rattle.law_safety.specs.QuietHosts.{LivesBy, LivesAs, IsOrderedBy}
use Rattle.law_safety.specs.Rows.{IsFine, SentRow, LateSentRow, SentElsewhereRow}
use Rattle.law_safety.proofs.RestagedNodes.{either, if_some, member_there, heard_there, round_there}
use Rattle.law_safety.proofs.EndedSendings.{HasEnded, has_ended}

not_both : {A : Type 0} (o : Option A) (b : Bool) → b ≡ true → (is_some o && b) ≡ false → o ≡ None
not_both None b is one = refl
not_both (Some a) b is one = absurd (true≢false (sym is ∙ one))

runs : {A : Type 0} (o : Option A) (a : A) → o ≡ Some a → is_some o ≡ true
runs {A = A} o a is = ap (λ (p : Option A). is_some p) is

module _ (s : ScenarioParts) (clocks : ℕ → ℕ → ℕ) (air : List Entry) (v t : ℕ) where
  module _ (d : Device) (x : Sending) (n : Node) (j : ℕ) (w : Window) (sending : d.sending ≡ Some x) (stage : n.stage ≡ InWindow j w)
      (is : IsOn s clocks air v t (suc t) d n) where
    abbrev u : Window
    u = record w { flood = after_sent w.flood }

    abbrev m : Node
    m = record n { stage = InWindow j u }

    open_window : InOpenWindow s clocks air v (suc t) n d j w
    open_window = subst (λ (p : Stage). WindowAt s clocks air v (suc t) n d p) stage is.window

    no_order : d.ordered ≡ None
    no_order = not_both d.ordered (is_some d.sending) (runs d.sending x sending) open_window.flood.one

    waits : w.flood.waiting ≡ true
    waits = open_window.flood.waits ∙ or_right (is_some d.ordered) (is_some d.sending) (runs d.sending x sending)

    below : w.flood.sent < s.sends
    below = elim (cases_lt w.flood.sent s.sends) [
      | inl less ↦ less
      | inr at ↦ absurd (true≢false (sym waits ∙ open_window.flood.spent (let few = open_window.flood.few in omega (arith, at, few))))
    ]

    below_limit : w.flood.sent < w.flood.limit
    below_limit = let is_limit = open_window.flood.limit in let less = below in omega (arith, is_limit, less)

    listens : listens_to (rank_at n) d.listening ≡ true
    listens =
        let at : RadioFor n d (InWindow j w) = subst (λ (p : Stage). RadioFor n d p) stage is.radio.at in
        subst (λ (b : Bool). Either b (listens_to (rank_at n) d.listening ≡ true) (d.listening ≡ None)) (lt-ltb w.flood.sent w.flood.limit below_limit) at

    module _ (e : Device) (ends : HasEnded n j w d e) where
      begun_before : (f : ℕ) (y : Sending) → HasBegun s f e y → HasBegun s f d y
      begun_before f y b = record { sent = subst (λ (xs : List Sending). Contains xs y) ends.sent b.sent; first = b.first; frame = b.frame }

      begun_still : (f : ℕ) (y : Sending) → HasBegun s f d y → HasBegun s f e y
      begun_still f y b = record { sent = subst (λ (xs : List Sending). Contains xs y) (sym ends.sent) b.sent; first = b.first; frame = b.frame }

      none_ordered : e.ordered ≡ None
      none_ordered = ends.ordered ∙ no_order

      begun_kept : BegunInWindow s n d j w → BegunInWindow s m e j u
      begun_kept b = record {
        below = λ y begun. b.below y (begun_before n.frame y begun);
        packet = λ y begun same. (let p = b.packet y (begun_before n.frame y begun) same
            in (p.0, p.1, λ first. subst (λ (o : Option OrderedPacket). IsFirstOrdered o) none_ordered first));
        made = λ initiated. elim (b.made initiated) [
          | inl first ↦ inl (subst (λ (o : Option OrderedPacket). IsFirstOrdered o) (sym ends.ordered) first)
          | inr y ↦ inr (record { sending = y.sending; begun = begun_still n.frame y.sending y.begun; slot = y.slot })
        ];
      }

      has_round : HasRound s clocks air v (suc t) n j w → HasRound s clocks air v (suc t) m j u
      has_round r = record {
        plan = r.plan;
        round = round_there s clocks air v (suc t) n (InWindow j u) j r.plan r.round;
        last = r.last;
        part = r.part;
        own = r.own;
        next = r.next;
        opens = r.opens;
      }

      has_flood : HasFlood s m e j u
      has_flood =
          let f = open_window.flood in
          record {
            kind = f.kind;
            slot = f.slot;
            limit = f.limit;
            few = (let less = below in omega (arith, less));
            waits = sym (ap (λ (o : Option OrderedPacket). is_some o || is_some e.sending) none_ordered ∙ ap (λ (o : Option Sending). is_some o) ends.sending);
            one = ap (λ (o : Option OrderedPacket). is_some o && is_some e.sending) none_ordered;
            spent = λ all. refl;
            own = f.own;
          }

      accepted_kept : HasAccepted s clocks air v (suc t) n j w → HasAccepted s clocks air v (suc t) m j u
      accepted_kept a = record {
        each = if_some (accepted_of w.flood) (λ p. IsAccepted s clocks air v (suc t) n j w p.0)
            (λ p. IsAccepted s clocks air v (suc t) m j u p.0)
            (λ p b. record {
              heard = b.heard;
              in_slot = heard_there s clocks air v (suc t) n (InWindow j u) j b.heard b.in_slot;
              is = b.is;
              reference = b.reference;
            })
            a.each;
        joined = λ joining. (let b = a.joined joining in
            record {
              schedule = b.schedule;
              packet = b.packet;
              accepted = b.accepted;
              says = b.says;
              rank = b.rank;
              reference = b.reference;
              last = b.last;
              part = b.part;
            });
      }

      in_window : InOpenWindow s clocks air v (suc t) m e j u
      in_window = record {
        flood = has_flood;
        order = subst (λ (o : Option OrderedPacket). IfSome o (HasOrder s clocks air v (suc t) m j u)) (sym none_ordered) tt;
        sending = subst (λ (o : Option Sending). IfSome o (HasSending s clocks air v m j)) (sym ends.sending) tt;
        accepted = accepted_kept open_window.accepted;
      }

      alarm_kept : HasAlarm s clocks v n d → HasAlarm s clocks v m e
      alarm_kept a = record { alarm = a.alarm; set = ends.alarm ∙ a.set; at = subst (λ (p : Stage). AlarmFor s clocks v n a.alarm p) stage a.at }

      tune_kept : HasTune s clocks v n → HasTune s clocks v m
      tune_kept h = record {
        rank = h.rank;
        at = either (is_joining n) (RefFor s clocks (rank_at n) v n.zero n.frame n.frame j) (IsMember s clocks v n j w.last (is_last_window j w))
            (RefFor s clocks (rank_at n) v n.zero n.frame n.frame j) (IsMember s clocks v m j w.last (is_last_window j w))
            (λ r. r) (member_there s clocks air v (suc t) n (InWindow j u) j w.last (is_last_window j w))
            (subst (λ (p : Stage). IsTunedAt s clocks v n p) stage h.at);
      }

      plan_kept : HasPlan s clocks air v (suc t) n → HasPlan s clocks air v (suc t) m
      plan_kept h = record {
        at = either (is_joining n) ⊤ (HasRound s clocks air v (suc t) n j w) ⊤ (HasRound s clocks air v (suc t) m j u)
            (λ k. k) has_round (subst (λ (p : Stage). PlanAt s clocks air v (suc t) n p) stage h.at);
      }

      on_kept : IsOn s clocks air v t (suc t) e m
      on_kept = record {
        frame = record {
          at = elim is.frame.at [
            | inl same ↦ inl same
            | inr over ↦ absurd (subst (λ (p : Stage). IsResting p) stage over.rests)
          ];
          began = subst (λ (p : Stage). BeganBy s t n p) stage is.frame.began;
        };
        alarm = alarm_kept is.alarm;
        tune = tune_kept is.tune;
        radio = record { at = ends.radio listens };
        begun = record {
          at = begun_kept (subst (λ (p : Stage). BegunAt s n d p) stage is.begun.at);
          once = λ f y z by bz same. is.begun.once f y z (begun_before f y by) (begun_before f z bz) same;
        };
        plan = plan_kept is.plan;
        window = in_window;
      }

      lives_on : (l : Life) (frame : ℕ) → LivesBy l frame d.power → d.power ≡ PowerOn n → LivesBy l frame e.power
      lives_on l frame lives on =
          let b : LivesAs l n = subst (λ (p : Power). LivesBy l frame p) on lives in
          subst (λ (p : Power). LivesBy l frame p) (sym ends.power) (record { on = b.on; frame = b.frame; tune = b.tune; plan = b.plan })

  fine_after : (d : Device) (x : Sending) (n : Node) (j : ℕ) (w : Window) → IsFine s clocks air v t End d
      → d.sending ≡ Some x → d.power ≡ PowerOn n → n.stage ≡ InWindow j w
      → IsFine s clocks air v t Alarms (device_after_row (clocks v) (setup_of s v) t Sent (Some x) (record d { sending = None }) n (sends n j w))
  fine_after d x n j w fine sending on stage =
      let e = device_after_row (clocks v) (setup_of s v) t Sent (Some x) (record d { sending = None }) n (sends n j w) in
      let is : IsOn s clocks air v t (suc t) d n = subst (λ (p : Power). InOrderBy s clocks air v t (suc t) d p) on fine.node.by_power in
      let ends = has_ended s v (clocks v) t x n j w d (below_limit d x n j w sending stage is) in
      let before : (y : Sending) → Contains e.made.sent y → Contains d.made.sent y = λ y there. subst (λ (xs : List Sending). Contains xs y) ends.sent there in
      record {
        node = record { by_power = subst (λ (p : Power). InOrderBy s clocks air v t (suc t) e p) (sym ends.power) (on_kept d x n j w sending stage is e ends) };
        host = λ rank named. (let h = fine.host rank named in record {
          life = h.life;
          quiet = h.quiet;
          lives = lives_on d x n j w sending stage is e ends h.life (t / s.profile.frame) h.lives on;
          opened = h.opened;
          closed = h.closed;
          sent = λ y z there. h.sent y z (before y there);
          ordered = subst (λ (o : Option OrderedPacket). IsOrderedBy h.life (t / s.profile.frame) o) (sym ends.ordered) h.ordered;
        });
        sent = λ y there. fine.sent y (before y there);
        before = λ y there. fine.before y (before y there);
      }

  -- where no window is open nothing is being sent
  none_elsewhere : (d : Device) (n : Node) (p : Stage) → NoWindow p → RadioFor n d p → d.sending ≡ None
  none_elsewhere d n Idle none is = absurd is
  none_elsewhere d n Scanning none is = is.1.sending
  none_elsewhere d n AwaitFrame none is = is.1.sending
  none_elsewhere d n (AwaitSlot j) none is = is.1.sending
  none_elsewhere d n (InWindow j w) none is = absurd none

  none_by : (d : Device) (p : Power) → HasNoWindow p → InOrderBy s clocks air v t (suc t) d p → d.sending ≡ None
  none_by d (PowerOff boots) none is = is.0.still.sending
  none_by d (PowerOn n) none is = none_elsewhere d n n.stage none is.radio.at

pub sent_row : SentRow
sent_row s clocks air v t at d x n j w here enters sending end on stage waiting = fine_after s clocks air v t d x n j w here.holds sending on stage

-- the flood of an open window waits for what is being sent in it
pub late_sent_row : LateSentRow
late_sent_row s clocks air v t at d x n j w here enters sending end on stage idle =
    let is : IsOn s clocks air v t (suc t) d n = subst (λ (p : Power). InOrderBy s clocks air v t (suc t) d p) on here.holds.node.by_power in
    absurd (true≢false (sym (waits s clocks air v t d x n j w sending stage is) ∙ idle))

pub sent_elsewhere_row : SentElsewhereRow
sent_elsewhere_row s clocks air v t at d x here enters sending end none =
    absurd (none-some x (sym (none_by s clocks air v t d d.power none here.holds.node.by_power) ∙ sending))
