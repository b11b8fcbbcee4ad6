-- A row delivers to its own node.
use Rattle.std.proofs.Common.{◌≡◌, ℕ, List, ◌==◌, Some, None, Option, IfSome, option_map, refl}
use Rattle.std.proofs.lemmas.Bool.{cond_both}
use Rattle.lwb_base.specs.declared.event.Event.{Event}
use Rattle.lwb_base.specs.declared.event.Event.TheVariants.{Boot, Alarm, Heard, Sent}
use Rattle.bus_rules.specs.declared.delivery.Delivery.{Delivery}
use Rattle.bus_rules.specs.Cores.{Setup}
use Rattle.bus_rules.specs.Slots.{Data, Message, ScheduleOf, DataOf, RequestOf, closed_slot}
use Rattle.bus_rules.specs.Tuning.{rank_of}
use Rattle.node_core.specs.Nodes.{Node}
use Rattle.node_core.specs.Rows.{Stepped, row, at_alarm, at_heard, at_sent, scanner_hears, joins, sends, accepted_in}
use Rattle.bus_rules.specs.Slots.{delivery_of}
use Rattle.node_core.specs.declared.stage.Stage.{Stage}
use Rattle.node_core.specs.declared.stage.Stage.TheVariants.{Idle, Scanning, AwaitFrame, AwaitSlot, InWindow}

abbrev pub IsTo : ℕ → Option Delivery → Type 0
IsTo v delivery = IfSome delivery (λ d. d.node ≡ v)

abbrev pub DeliversTo : ℕ → Option Stepped → Type 0
DeliversTo v None = Unit {0}
DeliversTo v (Some r) = IsTo v r.delivery

in_slot : (s : Setup) (frame rank j : ℕ) (said : Option Data) → IsTo s.id (option_map (delivery_of s.id frame rank j) said)
in_slot s frame rank j None = tt
in_slot s frame rank j (Some d) = refl

by_alarm : (s : Setup) (n : Node) (stage : Stage) → DeliversTo s.id (at_alarm s n stage)
by_alarm s n Idle = tt
by_alarm s n Scanning = tt
by_alarm s n AwaitFrame = tt
by_alarm s n (AwaitSlot j) = tt
by_alarm s n (InWindow j w) = in_slot s n.frame (rank_of n.core.tune) j (closed_slot s n.frame w.part w.flood.initiated n.core (accepted_in w)).delivered

by_schedule : (s : Setup) (n : Node) (now : ℕ) (p : List ℕ) (m : Option Message) → DeliversTo s.id (scanner_hears s n now p m)
by_schedule s n now p None = tt
by_schedule s n now p (Some (DataOf d)) = tt
by_schedule s n now p (Some (RequestOf a)) = tt
by_schedule s n now p (Some (ScheduleOf x)) =
    cond_both (x.plan.rank == rank_of n.core.tune) (Some (joins s n now p x)) None (DeliversTo s.id) (λ is. tt) (λ is. tt)

by_hearing : (s : Setup) (n : Node) (now : ℕ) (p : List ℕ) (stage : Stage) → DeliversTo s.id (at_heard s n now p stage)
by_hearing s n now p Idle = tt
by_hearing s n now p Scanning = by_schedule s n now p _
by_hearing s n now p AwaitFrame = tt
by_hearing s n now p (AwaitSlot j) = tt
by_hearing s n now p (InWindow j w) = tt

by_sending : (s : Setup) (n : Node) (stage : Stage) → DeliversTo s.id (at_sent n stage)
by_sending s n Idle = tt
by_sending s n Scanning = tt
by_sending s n AwaitFrame = tt
by_sending s n (AwaitSlot j) = tt
by_sending s n (InWindow j w) = cond_both w.flood.waiting (Some (sends n j w)) None (DeliversTo s.id) (λ is. tt) (λ is. tt)

pub delivers_to : (s : Setup) (n : Node) (now : ℕ) (e : Event) → DeliversTo s.id (row s n now e)
delivers_to s n now Boot = tt
delivers_to s n now Alarm = by_alarm s n n.stage
delivers_to s n now (Heard p) = by_hearing s n now p n.stage
delivers_to s n now Sent = by_sending s n n.stage
