-- No row gives more than four orders, and calls in turn.
use Rattle.std.proofs.Common.{◌≡◌, ℕ, ◌+◌, ◌≤◌, List, [], ◌∷◌, ◌++◌, length, Option, Some, None, refl, sym, ◌∙◌, ap, arith}
use Rattle.std.proofs.lemmas.Bool.{cond_both}
use Rattle.std.proofs.lemmas.List.{append-nil, append_assoc}
use Rattle.lwb_base.specs.Profile.{Numbers}
use Rattle.lwb_base.specs.declared.event.Event.{Event}
use Rattle.lwb_base.specs.declared.event.Event.TheVariants.{Boot, Alarm, Heard, Sent}
use Rattle.lwb_base.specs.Orders.{Told}
use Rattle.lwb_base.specs.declared.order.Order.{Order}
use Rattle.lwb_base.specs.declared.order.Order.TheVariants.{Listen, Off}
use Rattle.glossy_relay.specs.declared.flood.Reply.{Reply}
use Rattle.glossy_relay.specs.declared.flood.Reply.TheVariants.{Relay, Keep, Ignore}
use Rattle.bus_rules.specs.declared.delivery.Delivery.{Delivery}
use Rattle.bus_rules.specs.declared.tune.Tune.{Tune}
use Rattle.bus_rules.specs.declared.tune.Tune.TheVariants.{Scan, Hold, Host}
use Rattle.bus_rules.specs.Cores.{Setup, frame_ended, begins_host}
use Rattle.bus_rules.specs.Slots.{Message, ScheduleOf, DataOf, RequestOf, opened_slot, part_of}
use Rattle.bus_rules.specs.Tuning.{rank_of}
use Rattle.node_core.specs.declared.stage.Stage.{Stage}
use Rattle.node_core.specs.declared.stage.Stage.TheVariants.{Idle, Scanning, AwaitFrame, AwaitSlot, InWindow}
use Rattle.test_nodes.specs.declared.call.Call.{Call}
use Rattle.lwb_member.specs.Said.{message_of}
use Rattle.node_core.specs.Nodes.{Node, NodeState, stopped_frame}
use Rattle.node_core.specs.Rows.{Stepped, row, at_alarm, at_heard, at_sent, orders_for, initiating_orders}
use Rattle.node_core.specs.Rows.{relaying, scanner_hears, joins, sends, zero_for, reply_by}
use Rattle.node_core.specs.Rows.{orders_by}
use Rattle.test_nodes.specs.Calls.{after_call, after_calls, delivery_after, delivery_after_calls, orders_of, orders_of_all}
use Rattle.node_core.specs.Standing.{GoesThroughRow}

abbrev Few : Option Stepped → Type 0
Few r = length (orders_by r) ≤ 4

few_for : (p : Numbers) (tune : Tune) (f z : ℕ) → length (orders_for p tune f z) ≤ 4
few_for p (Scan r waited) f z = omega arith
few_for p (Hold r due) f z = omega arith
few_for p (Host r due) f z = omega arith

few_opens : (r a : Order) (p : Numbers) (z j : ℕ) (m : Option Message) → length (r ∷ initiating_orders p z j m ++ a ∷ []) ≤ 4
few_opens r a p z j None = omega arith
few_opens r a p z j (Some m) = omega arith

few_relays : (p : Numbers) (now : ℕ) (reply : Reply) → length (relaying p now reply) ≤ 4
few_relays p now (Relay q) = omega arith
few_relays p now Keep = omega arith
few_relays p now Ignore = omega arith

few_joins : (p : Numbers) (now : ℕ) (reply : Reply) (a : Order) → length (relaying p now reply ++ a ∷ []) ≤ 4
few_joins p now (Relay q) a = omega arith
few_joins p now Keep a = omega arith
few_joins p now Ignore a = omega arith

few_at_alarm : (s : Setup) (n : Node) (stage : Stage) → Few (at_alarm s n stage)
few_at_alarm s n Idle = omega arith
few_at_alarm s n Scanning =
    few_for s.profile (frame_ended s n.frame n.core).tune (stopped_frame (n.frame + 1))
    (zero_for s.profile (frame_ended s n.frame n.core).tune (begins_host n.core.tune (frame_ended s n.frame n.core).tune) n.zero)
few_at_alarm s n AwaitFrame =
    few_for s.profile (frame_ended s n.frame n.core).tune (stopped_frame (n.frame + 1))
    (zero_for s.profile (frame_ended s n.frame n.core).tune (begins_host n.core.tune (frame_ended s n.frame n.core).tune) n.zero)
few_at_alarm s n (AwaitSlot j) = few_opens (Listen (rank_of n.core.tune)) _ s.profile n.zero j (opened_slot s n.frame (part_of n.core.plan j) n.core).message
few_at_alarm s n (InWindow j w) = omega arith

few_scanned : (s : Setup) (n : Node) (now : ℕ) (p : List ℕ) (m : Option Message) → Few (scanner_hears s n now p m)
few_scanned s n now p None = omega arith
few_scanned s n now p (Some (DataOf d)) = omega arith
few_scanned s n now p (Some (RequestOf a)) = omega arith
few_scanned s n now p (Some (ScheduleOf x)) = cond_both _ (Some (joins s n now p x)) None Few (λ _. few_joins s.profile now _ _) (λ _. omega arith)

few_at_heard : (s : Setup) (n : Node) (now : ℕ) (p : List ℕ) (stage : Stage) → Few (at_heard s n now p stage)
few_at_heard s n now p Idle = omega arith
few_at_heard s n now p Scanning = few_scanned s n now p (message_of p)
few_at_heard s n now p AwaitFrame = omega arith
few_at_heard s n now p (AwaitSlot j) = omega arith
few_at_heard s n now p (InWindow j w) = few_relays s.profile now (reply_by (rank_of n.core.tune) w p)

few_at_sent : (n : Node) (stage : Stage) → Few (at_sent n stage)
few_at_sent n Idle = omega arith
few_at_sent n Scanning = omega arith
few_at_sent n AwaitFrame = omega arith
few_at_sent n (AwaitSlot j) = omega arith
few_at_sent n (InWindow j w) =
    cond_both w.flood.waiting (Some (sends n j w)) None Few
    (λ _. cond_both _ (Off ∷ []) [] (λ (l : List Order). length l ≤ 4) (λ _. omega arith) (λ _. omega arith))
    (λ _. omega arith)

few_orders : (s : Setup) (n : Node) (now : ℕ) (e : Event) → Few (row s n now e)
few_orders s n now Boot = omega arith
few_orders s n now Alarm = few_at_alarm s n n.stage
few_orders s n now (Heard p) = few_at_heard s n now p n.stage
few_orders s n now Sent = few_at_sent n n.stage

spent : (old new : NodeState) (before after : Told) (r : Option Stepped) → GoesThroughRow old new before after r
    → after.room + length (orders_by r) ≡ before.room
spent old new before after None is = is.1.spent
spent old new before after (Some r) is = is.1.spent

-- a step leaves the room but for four orders
pub room_left : (s : Setup) (n : Node) (now : ℕ) (e : Event) (old new : NodeState) (before after : Told) → GoesThroughRow old new before after (row s n now e)
    → before.room ≤ after.room + 4
room_left s n now e old new before after is =
    let few = few_orders s n now e in
    omega (arith, spent old new before after (row s n now e) is)

-- one call more
pub calls_push : (s : Setup) (n : Node) (calls : List Call) (call : Call) → after_calls s n (calls ++ call ∷ []) ≡ after_call s (after_calls s n calls) call
calls_push s n [] call = refl
calls_push s n (c ∷ calls) call = calls_push s (after_call s n c) calls call

pub deliveries_push : (s : Setup) (n : Node) (d : Option Delivery) (calls : List Call) (call : Call)
    → delivery_after_calls s n d (calls ++ call ∷ []) ≡ delivery_after s (after_calls s n calls) (delivery_after_calls s n d calls) call
deliveries_push s n d [] call = refl
deliveries_push s n d (c ∷ calls) call = deliveries_push s (after_call s n c) (delivery_after s n d c) calls call

pub orders_push : (s : Setup) (n : Node) (calls : List Call) (call : Call)
    → orders_of_all s n (calls ++ call ∷ []) ≡ orders_of_all s n calls ++ orders_of s (after_calls s n calls) call
orders_push s n [] call = append-nil (orders_of s n call)
orders_push s n (c ∷ calls) call =
    ap (λ (l : List Order). orders_of s n c ++ l) (orders_push s (after_call s n c) calls call)
    ∙ sym (append_assoc (orders_of s n c) (orders_of_all s (after_call s n c) calls) (orders_of s (after_calls s (after_call s n c) calls) call))
