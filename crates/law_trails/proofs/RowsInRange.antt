-- Each row of the node table keeps a node in its ranges, and orders only packets of which Q holds.
use Rattle.std.proofs.Common.{◌≡◌, ℕ, ◌+◌, ◌≤◌, List, [], ◌∷◌, ◌++◌, length, Bool, true, false, ◌==◌, nat_lt, if◌then◌else◌, Some, None, Option, IfSome, refl}
use Rattle.std.proofs.Common.{sym, ◌∙◌, ap, subst, arith, eq-eqb}
use Rattle.std.proofs.lemmas.Bool.{cond_both, and_from, ltb-true}
use Rattle.lwb_base.specs.Messages.{Schedule}
use Rattle.lwb_base.specs.declared.event.Event.{Event}
use Rattle.lwb_base.specs.declared.event.Event.TheVariants.{Boot, Alarm, Heard, Sent}
use Rattle.lwb_base.specs.declared.order.Order.{Order}
use Rattle.lwb_base.specs.declared.order.Order.TheVariants.{Off, Alarm as AlarmAt}
use Rattle.lwb_packets.specs.declared.kind.Kind.{Kind}
use Rattle.lwb_packets.specs.declared.kind.Kind.TheVariants as Kinds
use Rattle.glossy_relay.specs.FloodState.{FloodState, listening}
use Rattle.glossy_relay.specs.Relaying.{slot_of, reply_to}
use Rattle.glossy_relay.specs.declared.flood.Reply.{Reply}
use Rattle.glossy_relay.specs.declared.flood.Reply.TheVariants.{Relay, Keep, Ignore}
use Rattle.bus_rules.specs.declared.tune.Tune.{Tune}
use Rattle.bus_rules.specs.declared.tune.Tune.TheVariants.{Scan, Hold, Host}
use Rattle.bus_rules.specs.Plans.{last_slot}
use Rattle.bus_rules.specs.Tuning.{rank_of, hosts}
use Rattle.bus_rules.specs.Cores.{Core, Setup, frame_ended, begins_host}
use Rattle.bus_rules.specs.Slots.{Message, ScheduleOf, DataOf, RequestOf, part_of, opened_slot, closed_slot, hosts_now}
use Rattle.lwb_member.specs.Members.{IsBoot}
use Rattle.lwb_member.specs.Places.{kind_for}
use Rattle.lwb_member.specs.Said.{bytes_of, message_of}
use Rattle.node_core.specs.declared.stage.Stage.{Stage}
use Rattle.node_core.specs.declared.stage.Stage.TheVariants.{Idle, Scanning, AwaitFrame, AwaitSlot, InWindow}
use Rattle.node_core.specs.Windows.{Window}
use Rattle.node_core.specs.Nodes.{Node, stopped_frame}
use Rattle.node_core.specs.Rows.{row, boots, stage_for, flood_for, orders_for, zero_for, frame_alarms, initiating_orders}
use Rattle.node_core.specs.Rows.{window_opens, relaying, joins, scanner_hears}
use Rattle.node_core.specs.Rows.{is_foreign, reply_by, window_hears, sends, accepted_in, window_closes, at_alarm, at_heard, at_sent}
use Rattle.node_core.specs.Standing.{IsInOwnRound, KeepsFew}
use Rattle.node_core.proofs.KeptRequests.{boots_with_none, frame_keeps, keeps_none, none_between, opens_keeps}
use Rattle.law_trails.specs.CoreRanges.{IsSetup}
use Rattle.law_trails.specs.NodeRanges.{IsOpenInRange, IsInStage, IsNodeInRange}
use Rattle.law_trails.specs.RowRanges.{AreOrders, IsStepped, HoldsOfHeard}
use Rattle.law_trails.proofs.SaidInRange.{IsSayable, placed, says as says_in}
use Rattle.law_trails.proofs.CoresInRange.{booted_is, frame_is, opened_is, closed_is}
use Rattle.law_trails.proofs.WindowsInRange.{opens_is, joins_is, hears_is, ends_is, accepted_may, accepted_room, closed_keeps}
use Rattle.law_trails.proofs.ClosingsInRange.{goes_on_is}

-- orders one after another
both_orders : (Q : List ℕ → Type 0) (os more : List Order) → AreOrders Q os → AreOrders Q more → AreOrders Q (os ++ more)
both_orders Q [] more are rest = rest
both_orders Q (o ∷ os) more are rest = (are.0, both_orders Q os more are.1 rest)

-- Q holds of what a node says itself, and of relays of what is received, if H holds of that
pub record AreRules (s : Setup) (Q H : List ℕ → Type 0) : Type 0 where
  pub short : (q : List ℕ) → H q → length q ≤ s.profile.packet_max
  pub own : (k : Kind) (j : ℕ) (m : Message) → IsSayable s k j m → Q (bytes_of m j)
  pub relay : (f : FloodState) (h q : List ℕ) → reply_to f h ≡ Relay q → H h → Q q

module _ (s : Setup) (set : IsSetup s) (Q H : List ℕ → Type 0) (rules : AreRules s Q H) where
  pub boots_is : (n : Node) (now : ℕ) → IsBoot n.core.boot → IsStepped Q s (Some (boots s n now))
  boots_is n now is = (
    record { core = booted_is s set n.core.boot is; frame = omega arith; stage = refl; kept = boots_with_none s.profile n.core.boot Scanning },
    (tt, (tt, tt)),
  )

  -- frame alarm
  staged : (f : ℕ) (c : Core) (t : Tune) → c.tune ≡ t → IsInStage s f c (stage_for t f)
  staged f c (Scan r w) at = ap hosts at
  staged f c (Hold r due) at =
      cond_both (due == f) (AwaitSlot 0) AwaitFrame (IsInStage s f c)
      (λ now. (omega arith, λ host. (let never : true ≡ false = sym host ∙ ap hosts at in absurd (cc))))
      (λ later. tt)
  staged f c (Host r due) at =
      cond_both (due == f) (AwaitSlot 0) AwaitFrame (IsInStage s f c)
      (λ now. (omega arith, λ host. subst (λ (t : Tune). hosts_now f (record c { tune = t }) ≡ true) (sym at) (and_from _ _ (eq-eqb r r refl) now)))
      (λ later. tt)

  frame_orders : (t : Tune) (f z : ℕ) → AreOrders Q (orders_for s.profile t f z)
  frame_orders (Scan r w) f z = (tt, (tt, tt))
  frame_orders (Hold r due) f z = (tt, (tt, tt))
  frame_orders (Host r due) f z = (tt, (tt, tt))

  frame_row : (n : Node) → IsNodeInRange s n → n.core.kept ≡ [] → IsStepped Q s (Some (frame_alarms s n))
  frame_row n is none =
      let core = frame_ended s n.frame n.core in
      let f = stopped_frame (n.frame + 1) in (
        record {
          core = frame_is s set n.frame n.core is.core;
          frame = omega arith;
          stage = staged f core core.tune refl;
          kept = frame_keeps s n.frame n.core (stage_for core.tune f) none is.kept.named;
        },
        frame_orders core.tune f (zero_for s.profile core.tune (begins_host n.core.tune core.tune) n.zero),
      )

  -- window opens
  first_orders : (k : Kind) (z j : ℕ) (o : Option Message) → IfSome o (IsSayable s k j) → AreOrders Q (initiating_orders s.profile z j o)
  first_orders k z j None said = tt
  first_orders k z j (Some m) said = (rules.own k j m said, tt)

  opens_row : (n : Node) (j : ℕ) → IsNodeInRange s n → (j ≤ last_slot n.core.plan) × IsInOwnRound n.frame n.core
      → KeepsFew s.profile n.core (AwaitSlot j) → IsStepped Q s (Some (window_opens s n j))
  opens_row n j is at kept =
      let part = part_of n.core.plan j in
      let o = opened_slot s n.frame part n.core in
      let said = says_in s set n.frame j part n.core is.core (placed n.core.plan j is.core.plan at.0) in (
        record {
          core = opened_is s set n.frame part n.core is.core;
          frame = is.frame;
          stage = opens_is s set n.frame j n.core is.core at.0 at.1;
          kept = opens_keeps s n.frame j n.core kept at.1 (last_slot n.core.plan) (flood_for s part j o.message) None part refl;
        },
        (tt, both_orders Q (initiating_orders s.profile n.zero j o.message) (AlarmAt _ ∷ []) (first_orders (kind_for part) n.zero j o.message said) (tt, tt)),
      )

  -- window closes
  closes_row : (n : Node) (j : ℕ) (w : Window) → IsNodeInRange s n → IsOpenInRange s n.frame n.core j w → KeepsFew s.profile n.core (InWindow j w)
      → IsStepped Q s (Some (window_closes s n j w))
  closes_row n j w is open_ kept =
      let c = closed_slot s n.frame w.part w.flood.initiated n.core (accepted_in w) in (
        record {
          core = closed_is s set n.frame w.part w.flood.initiated n.core (accepted_in w) (accepted_may s set n.frame j n.core w open_)
              (accepted_room s set n.frame j n.core w open_ kept) is.core;
          frame = is.frame;
          stage = cond_both (nat_lt j w.last) (AwaitSlot (j + 1)) AwaitFrame (IsInStage s n.frame c.core)
              (λ more. goes_on_is s n.frame n.core j w open_ (ltb-true j w.last more)) (λ last. tt);
          kept = closed_keeps s set n.frame j n.core w open_ kept;
        },
        (tt, (tt, tt)),
      )

  alarm_row : (n : Node) (stage : Stage) → IsNodeInRange s n → IsInStage s n.frame n.core stage → KeepsFew s.profile n.core stage
      → IsStepped Q s (at_alarm s n stage)
  alarm_row n Idle is at kept = tt
  alarm_row n Scanning is at kept = frame_row n is (none_between s.profile n.core Scanning refl kept)
  alarm_row n AwaitFrame is at kept = frame_row n is (none_between s.profile n.core AwaitFrame refl kept)
  alarm_row n (AwaitSlot j) is at kept = opens_row n j is at kept
  alarm_row n (InWindow j w) is at kept = closes_row n j w is at kept

  -- receptions
  relay_orders : (now : ℕ) (r : Reply) → ((q : List ℕ) → r ≡ Relay q → Q q) → AreOrders Q (relaying s.profile now r)
  relay_orders now (Relay q) spoken = (spoken q refl, tt)
  relay_orders now Keep spoken = tt
  relay_orders now Ignore spoken = tt

  joins_row : (n : Node) (now : ℕ) (p : List ℕ) (x : Schedule) → IsNodeInRange s n → hosts n.core.tune ≡ false → H p
      → message_of p ≡ Some (ScheduleOf x) → (x.plan.rank == rank_of n.core.tune) ≡ true
      → IsStepped Q s (Some (joins s n now p x))
  joins_row n now p x is free few says ranked =
      let start = listening Kinds.Schedule (slot_of p) s.sends in (
        record {
          core = is.core;
          frame = is.frame;
          stage = joins_is s set n.frame n.core p x _ free (rules.short p few) says ranked;
          kept = keeps_none s.profile n.core _ (is.kept.none free) is.kept.named;
        },
        both_orders Q (relaying s.profile now (reply_to start p)) (AlarmAt _ ∷ [])
            (relay_orders now (reply_to start p) (λ q relays. rules.relay start p q relays few)) (tt, tt),
      )

  scanner_row : (n : Node) (now : ℕ) (p : List ℕ) (o : Option Message) → IsNodeInRange s n → hosts n.core.tune ≡ false → H p
      → message_of p ≡ o → IsStepped Q s (scanner_hears s n now p o)
  scanner_row n now p None is free few says = tt
  scanner_row n now p (Some (DataOf d)) is free few says = tt
  scanner_row n now p (Some (RequestOf a)) is free few says = tt
  scanner_row n now p (Some (ScheduleOf x)) is free few says =
      cond_both (x.plan.rank == rank_of n.core.tune) (Some (joins s n now p x)) None (IsStepped Q s)
      (λ ranked. joins_row n now p x is free few says ranked)
      (λ other. tt)

  ignored : (q : List ℕ) → Ignore ≡ Relay q → Q q
  ignored q is = absurd (cc)

  hears_row : (n : Node) (now j : ℕ) (w : Window) (p : List ℕ) → IsNodeInRange s n → IsOpenInRange s n.frame n.core j w
      → KeepsFew s.profile n.core (InWindow j w) → H p → IsStepped Q s (Some (window_hears s n now j w p))
  hears_row n now j w p is open_ kept few =
      let rank = rank_of n.core.tune in (
        record {
          core = is.core;
          frame = is.frame;
          stage = hears_is s set s.profile n.frame now j n.core w p (rules.short p few) open_;
          kept = record { few = kept.few; none = kept.none; named = kept.named };
        },
        relay_orders now (reply_by rank w p)
            (cond_both (is_foreign rank (message_of p)) Ignore (reply_to w.flood p) (λ (r : Reply). (q : List ℕ) → r ≡ Relay q → Q q)
            (λ foreign. ignored) (λ own q relays. rules.relay w.flood p q relays few)),
      )

  heard_row : (n : Node) (now : ℕ) (p : List ℕ) (stage : Stage) → IsNodeInRange s n → IsInStage s n.frame n.core stage
      → KeepsFew s.profile n.core stage → H p → IsStepped Q s (at_heard s n now p stage)
  heard_row n now p Idle is at kept few = tt
  heard_row n now p Scanning is at kept few = scanner_row n now p (message_of p) is at few refl
  heard_row n now p AwaitFrame is at kept few = tt
  heard_row n now p (AwaitSlot j) is at kept few = tt
  heard_row n now p (InWindow j w) is at kept few = hears_row n now j w p is at kept few

  -- the end of a transmission
  off_order : (b : Bool) → AreOrders Q (if b then Off ∷ [] else [])
  off_order true = (tt, tt)
  off_order false = tt

  sent_row : (n : Node) (stage : Stage) → IsNodeInRange s n → IsInStage s n.frame n.core stage → KeepsFew s.profile n.core stage
      → IsStepped Q s (at_sent n stage)
  sent_row n Idle is at kept = tt
  sent_row n Scanning is at kept = tt
  sent_row n AwaitFrame is at kept = tt
  sent_row n (AwaitSlot j) is at kept = tt
  sent_row n (InWindow j w) is at kept =
      cond_both w.flood.waiting (Some (sends n j w)) None (IsStepped Q s)
      (λ waits. (
        record {
          core = is.core;
          frame = is.frame;
          stage = ends_is s set n.frame j n.core w waits at;
          kept = record { few = kept.few; none = kept.none; named = kept.named };
        },
        off_order (w.flood.sent + 1 == w.flood.limit),
      ))
      (λ none. tt)

  pub row_is : (n : Node) (now : ℕ) (e : Event) → HoldsOfHeard H e → IsNodeInRange s n → IsStepped Q s (row s n now e)
  row_is n now Boot brought is = boots_is n now is.core.boot
  row_is n now Alarm brought is = alarm_row n n.stage is is.stage is.kept
  row_is n now (Heard p) brought is = heard_row n now p n.stage is is.stage is.kept brought
  row_is n now Sent brought is = sent_row n n.stage is is.stage is.kept
