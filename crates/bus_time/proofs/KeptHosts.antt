-- A host stays a host through the rows of the node table.
use Rattle.std.proofs.Common.{◌≡◌, ℕ, List, Bool, true, false, Some, None, Option, refl, sym, ◌∙◌, ap, subst, true≢false}
use Rattle.std.proofs.lemmas.Bool.{cond_both}
use Rattle.std.specs.Option.{IfSome}
use Rattle.lwb_base.specs.Messages.{Schedule}
use Rattle.lwb_packets.specs.declared.kind.Kind as Kind
use Rattle.glossy_relay.specs.Relaying.{accepted_of, is_spelling}
use Rattle.lwb_member.specs.Places.{kind_for}
use Rattle.lwb_member.specs.Said.{message_of}
use Rattle.node_core.specs.declared.stage.Stage.TheVariants.{InWindow}
use Rattle.node_core.specs.Windows.{Window}
use Rattle.node_core.specs.Nodes.{Node}
use Rattle.node_core.specs.Rows.{accepted_in}
use Rattle.scenario_text.specs.ScenarioParts.{ScenarioParts}
use Rattle.law_trails.specs.NodeRanges.{IsNodeInRange, IsInStage, IsOpenInRange, IsCarried}
use Rattle.law_trails.specs.PacketKinds.{kind_of_message}
use Rattle.law_trails.proofs.SaidPackets.{kind_says}
use Rattle.law_safety.specs.TunedNodes.{Either, Scans, by_hearing}
use Rattle.law_safety.proofs.ReadPackets.{packet_of, listener}
use Rattle.bus_rules.specs.declared.part.Part.{Part}
use Rattle.bus_rules.specs.declared.part.Part.TheVariants.{Opening, Data as DataSlot, Contention, Closing}
use Rattle.bus_rules.specs.declared.tune.Tune.{Tune}
use Rattle.bus_rules.specs.declared.tune.Tune.TheVariants.{Scan, Hold, Host}
use Rattle.bus_rules.specs.Tuning.{hosts, next_tune}
use Rattle.bus_rules.specs.Cores.{Core, Setup, as_host, begins_host, frame_ended, is_fresh}
use Rattle.bus_rules.specs.Slots.{Message, ScheduleOf, DataOf, RequestOf, Opened, opened_slot, closed_slot, hosts_now, host_closes, silent, slot_heard}
use Rattle.bus_rules.specs.Slots.{is_schedule_part}

-- what was received leaves the tune
heard_tune : (f : ℕ) (part : Part) (heard : Bool) (c : Core) → (slot_heard f part heard c).tune ≡ c.tune
heard_tune f Opening heard c = refl
heard_tune f (DataSlot owner) heard c = refl
heard_tune f (Contention i) heard c = refl
heard_tune f Closing heard c = refl

-- at the end of a frame
ended_by : (s : Setup) (f : ℕ) (c : Core) (tune : Tune) (joined : Bool) → hosts tune ≡ true
    → (let next = next_tune tune f joined s.own s.ranks in
    hosts (as_host s.profile (begins_host tune next) (record c { tune = next; own_slot = None })).tune ≡ true)
ended_by s f c (Scan r waited) joined host = absurd (true≢false (sym host))
ended_by s f c (Hold r due) joined host = absurd (true≢false (sym host))
ended_by s f c (Host r due) joined host = refl

pub ended_hosts : (s : Setup) (f : ℕ) (c : Core) → hosts c.tune ≡ true → hosts (frame_ended s f c).tune ≡ true
ended_hosts s f c host = ended_by s f c c.tune (is_fresh c) host

-- where a window opens
pub opened_hosts : (s : Setup) (f : ℕ) (part : Part) (c : Core) → hosts c.tune ≡ true → hosts (opened_slot s f part c).core.tune ≡ true
opened_hosts s f Opening c host = host
opened_hosts s f (DataSlot owner) c host = host
opened_hosts s f (Contention i) c host = host
opened_hosts s f Closing c host =
    cond_both (hosts_now f c) (host_closes s f c) (silent c) (λ (o : Opened). hosts o.core.tune ≡ true) (λ now. refl) (λ later. host)

-- and where it closes, unless it accepted a schedule
pub closed_hosts : (s : Setup) (f : ℕ) (part : Part) (initiated : Bool) (c : Core) (m : Option Message) → ((y : Schedule) → m ≡ Some (ScheduleOf y) → ⊥)
    → hosts c.tune ≡ true → hosts (closed_slot s f part initiated c m).core.tune ≡ true
closed_hosts s f part initiated c None none host = ap hosts (heard_tune f part initiated c) ∙ host
closed_hosts s f part initiated c (Some (DataOf d)) none host = ap hosts (heard_tune f part true c) ∙ host
closed_hosts s f part initiated c (Some (RequestOf a)) none host = host
closed_hosts s f part initiated c (Some (ScheduleOf y)) none host = absurd (none y refl)

-- ---- a host accepts no schedule

no_schedule : (part : Part) (kind : Kind.Kind) (q : List ℕ) (y : Schedule) → is_spelling kind q ≡ true → message_of q ≡ Some (ScheduleOf y)
    → kind ≡ Kind.TheVariants.Schedule
no_schedule part kind q y spelled says =
    let k = kind_says kind q spelled in
    let also : message_of q ≡ Some k.message = k.says in
    let same : k.message ≡ ScheduleOf y = cc in
    sym k.of_kind ∙ ap kind_of_message same

of_schedules : (part : Part) → kind_for part ≡ Kind.TheVariants.Schedule → is_schedule_part part ≡ true
of_schedules Opening is = refl
of_schedules (DataSlot owner) is = absurd cc
of_schedules (Contention i) is = absurd cc
of_schedules Closing is = refl

pub accepts_none : (s : Setup) (n : Node) (j : ℕ) (w : Window) → IsNodeInRange s n → n.stage ≡ InWindow j w
    → (is_schedule_part w.part ≡ true → w.flood.initiated ≡ true) → (y : Schedule) → accepted_in w ≡ Some (ScheduleOf y) → ⊥
accepts_none s n j w ranged stage own y accepted =
    let taken = packet_of (accepted_of w.flood) (ScheduleOf y) accepted in
    let listens = listener w.flood.initiated w.flood.first taken.0 taken.1 in
    let open_so : IsOpenInRange s n.frame n.core j w = subst (IsInStage s n.frame n.core) stage ranged.stage in
    let carried : IsCarried s (kind_for w.part) j taken.0.0 =
    subst (λ (o : Option (List ℕ)). IfSome o (IsCarried s (kind_for w.part) j)) listens.1 open_so.flood.first in
    let of_kind = no_schedule w.part (kind_for w.part) taken.0.0 y carried.spelled taken.2 in
    true≢false (sym (own (of_schedules w.part of_kind)) ∙ listens.0)

-- a host is no scanning node, and no window that it received opens at it
pub not_scanning : (s : ScenarioParts) (clocks : ℕ → ℕ → ℕ) (v : ℕ) (n : Node) (tune : Tune) → Scans s clocks v n tune → hosts tune ≡ true → ⊥
not_scanning s clocks v n (Scan r waited) scans host = true≢false (sym host)
not_scanning s clocks v n (Hold r due) scans host = absurd scans
not_scanning s clocks v n (Host r due) scans host = absurd scans

pub not_by_hearing : (n : Node) (tune : Tune) → hosts tune ≡ true → by_hearing n tune ≡ false
not_by_hearing n (Scan r waited) host = absurd (true≢false (sym host))
not_by_hearing n (Hold r due) host = refl
not_by_hearing n (Host r due) host = refl

pub otherwise : (b : Bool) (P Q : Type 0) → b ≡ false → Either b P Q → Q
otherwise true P Q isnt is = absurd (true≢false isnt)
otherwise false P Q isnt is = is
