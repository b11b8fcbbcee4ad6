-- No row changes the boot of a node.
use Rattle.std.proofs.Common.{◌≡◌, ℕ, List, Bool, true, ◌==◌, Some, None, Option, refl}
use Rattle.std.proofs.lemmas.Bool.{cond_both}
use Rattle.lwb_base.specs.declared.event.Event.{Event}
use Rattle.lwb_base.specs.declared.event.Event.TheVariants.{Boot, Alarm, Heard, Sent}
use Rattle.bus_rules.specs.declared.part.Part.{Part}
use Rattle.bus_rules.specs.declared.part.Part.TheVariants.{Opening, Data as DataSlot, Contention, Closing}
use Rattle.bus_rules.specs.Cores.{Core, Setup, as_host, opening_accepted, closing_accepted}
use Rattle.bus_rules.specs.Slots.{Message, ScheduleOf, DataOf, RequestOf, opened_slot, closed_slot, host_closes, silent, hosts_now, slot_heard, part_of}
use Rattle.bus_rules.specs.Tuning.{rank_of}
use Rattle.node_core.specs.Nodes.{Node}
use Rattle.node_core.specs.Rows.{Stepped, row, at_alarm, at_heard, at_sent, scanner_hears, joins, sends, accepted_in}
use Rattle.node_core.specs.declared.stage.Stage.{Stage}
use Rattle.node_core.specs.declared.stage.Stage.TheVariants.{Idle, Scanning, AwaitFrame, AwaitSlot, InWindow}

abbrev pub KeepsBoot : Node → Option Stepped → Type 0
KeepsBoot n None = Unit {0}
KeepsBoot n (Some r) = r.node.core.boot ≡ n.core.boot

at_host : (s : Setup) (rank : Option ℕ) (c : Core) → (as_host s.profile rank c).boot ≡ c.boot
at_host s None c = refl
at_host s (Some rank) c = refl

at_opening : (s : Setup) (f : ℕ) (part : Part) (c : Core) → (opened_slot s f part c).core.boot ≡ c.boot
at_opening s f Opening c = refl
at_opening s f (DataSlot owner) c = refl
at_opening s f (Contention i) c = refl
at_opening s f Closing c = cond_both (hosts_now f c) (host_closes s f c) (silent c) (λ o. o.core.boot ≡ c.boot) (λ is. refl) (λ is. refl)

in_slot : (f : ℕ) (part : Part) (heard : Bool) (c : Core) → (slot_heard f part heard c).boot ≡ c.boot
in_slot f Opening heard c = refl
in_slot f (DataSlot owner) heard c = refl
in_slot f (Contention i) heard c = refl
in_slot f Closing heard c = refl

at_closing : (s : Setup) (f : ℕ) (part : Part) (initiated : Bool) (c : Core) (m : Option Message) → (closed_slot s f part initiated c m).core.boot ≡ c.boot
at_closing s f part initiated c None = in_slot f part initiated c
at_closing s f part initiated c (Some (ScheduleOf x)) =
    cond_both (x.gap == 0) (opening_accepted s.id f x c) (closing_accepted s.id f x c) (λ (k : Core). k.boot ≡ c.boot) (λ is. refl) (λ is. refl)
at_closing s f part initiated c (Some (DataOf d)) = in_slot f part true c
at_closing s f part initiated c (Some (RequestOf a)) = refl

by_alarm : (s : Setup) (n : Node) (stage : Stage) → KeepsBoot n (at_alarm s n stage)
by_alarm s n Idle = tt
by_alarm s n Scanning = at_host s _ _
by_alarm s n AwaitFrame = at_host s _ _
by_alarm s n (AwaitSlot j) = at_opening s n.frame (part_of n.core.plan j) n.core
by_alarm s n (InWindow j w) = at_closing s n.frame w.part w.flood.initiated n.core (accepted_in w)

by_schedule : (s : Setup) (n : Node) (now : ℕ) (p : List ℕ) (m : Option Message) → KeepsBoot n (scanner_hears s n now p m)
by_schedule s n now p None = tt
by_schedule s n now p (Some (DataOf d)) = tt
by_schedule s n now p (Some (RequestOf a)) = tt
by_schedule s n now p (Some (ScheduleOf x)) =
    cond_both (x.plan.rank == rank_of n.core.tune) (Some (joins s n now p x)) None (KeepsBoot n) (λ is. refl) (λ is. tt)

by_hearing : (s : Setup) (n : Node) (now : ℕ) (p : List ℕ) (stage : Stage) → KeepsBoot n (at_heard s n now p stage)
by_hearing s n now p Idle = tt
by_hearing s n now p Scanning = by_schedule s n now p _
by_hearing s n now p AwaitFrame = tt
by_hearing s n now p (AwaitSlot j) = tt
by_hearing s n now p (InWindow j w) = refl

by_sending : (n : Node) (stage : Stage) → KeepsBoot n (at_sent n stage)
by_sending n Idle = tt
by_sending n Scanning = tt
by_sending n AwaitFrame = tt
by_sending n (AwaitSlot j) = tt
by_sending n (InWindow j w) = cond_both w.flood.waiting (Some (sends n j w)) None (KeepsBoot n) (λ is. refl) (λ is. tt)

pub boot_kept : (s : Setup) (n : Node) (now : ℕ) (e : Event) → KeepsBoot n (row s n now e)
boot_kept s n now Boot = refl
boot_kept s n now Alarm = by_alarm s n n.stage
boot_kept s n now (Heard p) = by_hearing s n now p n.stage
boot_kept s n now Sent = by_sending n n.stage
