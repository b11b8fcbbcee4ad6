-- Cores whose plan has few slots and whose table ascends stay so.
use Rattle.std.proofs.Common.{◌≡◌, ℕ, ◌≤◌, Bool, true, ◌==◌, List, Option, Some, None, refl, arith, option_and_then}
use Rattle.std.proofs.lemmas.Bool.{cond_both}
use Rattle.lwb_base.specs.Profile.{Numbers}
use Rattle.lwb_base.specs.Messages.{Schedule}
use Rattle.bus_rules.specs.declared.part.Part.{Part}
use Rattle.bus_rules.specs.declared.part.Part.TheVariants.{Opening, Data as DataSlot, Contention, Closing}
use Rattle.bus_rules.specs.Plans.{last_slot}
use Rattle.bus_rules.specs.Tables.{EntriesAscend}
use Rattle.bus_rules.specs.HostPlans.{host_plan}
use Rattle.bus_rules.specs.Tuning.{rank_of, next_tune}
use Rattle.bus_rules.specs.Cores.{Core, Setup, as_host, begins_host, booted, empty_plan, is_fresh}
use Rattle.bus_rules.specs.Cores.{frame_ended, opening_accepted, closing_accepted, schedule_accepted}
use Rattle.bus_rules.specs.Slots.{Opened, Message, ScheduleOf, DataOf, RequestOf, hosts_now, opened_slot, host_closes, silent, owner_heard, slot_heard}
use Rattle.bus_rules.specs.Slots.{closed_slot}
use Rattle.lwb_member.specs.Said.{message_of}
use Rattle.node_core.specs.Windows.{Window}
use Rattle.node_core.specs.Rows.{accepted_in}
use Rattle.glossy_relay.specs.Relaying.{accepted_of}
use Rattle.air_log.proofs.SmallPlans.{few_slots, host_plan_few, owner_keeps, read_few}

abbrev pub IsSmall : Core → Type 0
IsSmall c = (last_slot c.plan ≤ 45) × EntriesAscend c.table.entries

pub booted_small : (boot : ℕ) → IsSmall (booted boot)
booted_small boot = (omega arith, tt)

host_small : (p : Numbers) (o : Option ℕ) (c : Core) → p.contend ≤ 4 → IsSmall c → IsSmall (as_host p o c)
host_small p None c few small = small
host_small p (Some rank) c few small = (few_slots (empty_plan p rank c.boot) (omega arith) few, tt)

pub frame_small : (s : Setup) (f : ℕ) (c : Core) → s.profile.contend ≤ 4 → IsSmall c → IsSmall (frame_ended s f c)
frame_small s f c few small =
    let tune = next_tune c.tune f (is_fresh c) s.own s.ranks in
    host_small s.profile (begins_host c.tune tune) (record c { tune = tune; own_slot = None }) few small

closes_small : (s : Setup) (f : ℕ) (c : Core) → s.profile.contend ≤ 4 → IsSmall c → IsSmall (host_closes s f c).core
closes_small s f c few small =
    let rank = rank_of c.tune in
    let h = host_plan s.profile s.id c.boot rank f c.kept c.table c.streams in
    let made = host_plan_few s.profile s.id c.boot rank f c.kept c.table c.streams small.1 in
    (few_slots h.plan made.0.0 (omega (arith, made.1, few)), made.0.1)

pub opened_small : (s : Setup) (f : ℕ) (part : Part) (c : Core) → s.profile.contend ≤ 4 → IsSmall c → IsSmall (opened_slot s f part c).core
opened_small s f Opening c few small = small
opened_small s f (DataSlot owner) c few small = small
opened_small s f (Contention i) c few small = small
opened_small s f Closing c few small =
    cond_both (hosts_now f c) (host_closes s f c) (silent c) (λ (o : Opened). IsSmall o.core) (λ is. closes_small s f c few small) (λ is. small)

slot_small : (f : ℕ) (part : Part) (heard : Bool) (c : Core) → IsSmall c → IsSmall (slot_heard f part heard c)
slot_small f Opening heard c small = small
slot_small f (Contention i) heard c small = small
slot_small f Closing heard c small = small
slot_small f (DataSlot owner) heard c small = (
  small.0,
  cond_both (hosts_now f c) (owner_heard heard owner c.table) c.table (λ t. EntriesAscend t.entries) (λ is. owner_keeps owner heard c.table small.1)
      (λ is. small.1),
)

accepted_small : (node f : ℕ) (x : Schedule) (c : Core) → last_slot x.plan ≤ 45 → IsSmall c → IsSmall (schedule_accepted node f x c)
accepted_small node f x c few small =
    cond_both (x.gap == 0) (opening_accepted node f x c) (closing_accepted node f x c) IsSmall (λ is. (few, small.1)) (λ is. (few, small.1))

pub closed_small : (s : Setup) (f : ℕ) (part : Part) (initiated : Bool) (c : Core) (m : Option Message)
    → ((x : Schedule) → m ≡ Some (ScheduleOf x) → last_slot x.plan ≤ 45) → IsSmall c → IsSmall (closed_slot s f part initiated c m).core
closed_small s f part initiated c None few small = slot_small f part initiated c small
closed_small s f part initiated c (Some (ScheduleOf x)) few small = accepted_small s.id f x c (few x refl) small
closed_small s f part initiated c (Some (DataOf d)) few small = slot_small f part true c small
closed_small s f part initiated c (Some (RequestOf a)) few small = small

pub accepted_few : (w : Window) (x : Schedule) → accepted_in w ≡ Some (ScheduleOf x) → last_slot x.plan ≤ 45
accepted_few w x is = by_option (accepted_of w.flood) is
  where
    by_option : (o : Option (List ℕ × ℕ)) → option_and_then (λ a. message_of a.0) o ≡ Some (ScheduleOf x) → last_slot x.plan ≤ 45
    by_option None is = cc
    by_option (Some a) is = (read_few a.0 x is).0
