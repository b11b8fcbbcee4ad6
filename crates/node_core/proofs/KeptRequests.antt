-- A host keeps one request at most for each contention slot of its round so far, and other nodes keep none.
use Rattle.std.proofs.Common.{◌≡◌, ◌<◌, ◌≤◌, ◌⊎◌, ◌+◌, ◌-◌, ◌==◌, ℕ, List, [], ◌∷◌, ◌++◌, length, Bool, true, false, Option, Some, None, if◌then◌else◌}
use Rattle.std.proofs.Common.{inl, inr, is_some, nat_lt, nat_le, refl, sym, ◌∙◌, ap, subst, arith}
use Rattle.std.specs.Option.{IfSome}
use Rattle.std.proofs.lemmas.Bool.{false≢true, cond_both, cond-true, lt-ltb, leb-true, leb-false, ltb-true, eqb-true}
use Rattle.std.proofs.lemmas.List.{length_push}
use Rattle.lwb_base.specs.Profile.{Numbers}
use Rattle.lwb_base.specs.Messages.{Ask, Plan, Schedule}
use Rattle.glossy_relay.specs.FloodState.{FloodState}
use Rattle.glossy_relay.specs.Relaying.{is_spelling, accepted_of}
use Rattle.bus_rules.specs.declared.part.Part.{Part}
use Rattle.bus_rules.specs.declared.part.Part.TheVariants.{Opening, Data as DataSlot, Contention, Closing}
use Rattle.bus_rules.specs.declared.tune.Tune.{Tune}
use Rattle.bus_rules.specs.Plans.{last_slot, slots_named}
use Rattle.bus_rules.specs.Tuning.{hosts, rank_of, next_tune}
use Rattle.bus_rules.specs.Cores.{Core, Setup, booted, is_fresh, begins_host, as_host, frame_ended, opening_accepted, closing_accepted}
use Rattle.bus_rules.specs.Slots.{Message, Opened, ScheduleOf, DataOf, RequestOf, part_of, hosts_now, opened_slot, closed_slot, slot_heard, host_closes, silent}
use Rattle.bus_rules.specs.Slots.{is_schedule_part}
use Rattle.lwb_member.proofs.Beginning.{hosted_before}
use Rattle.lwb_member.specs.Members.{MayAccept}
use Rattle.bus_rules.proofs.Ranks.{hosts_by_rank, plan_contends}
use Rattle.lwb_member.specs.Places.{kind_for}
use Rattle.node_core.specs.Windows.{Window}
use Rattle.node_core.specs.WindowClosing.{waits_after}
use Rattle.node_core.specs.Rows.{accepted_in}
use Rattle.node_core.specs.declared.stage.Stage.{Stage}
use Rattle.node_core.specs.declared.stage.Stage.TheVariants.{Scanning, AwaitFrame, AwaitSlot, InWindow}
use Rattle.node_core.proofs.AcceptedKinds.{IsData, IsUnscheduled, accepted_by, says_data, says_request, of_first}
use Rattle.node_core.proofs.PassedWindows.{said_none}
use Rattle.node_core.specs.Standing.{IsInside, IsInOwnRound, IsStage, HostsIn, KeepsFew, contended}

none_kept : (l : List Ask) → length l ≤ 0 → l ≡ []
none_kept [] few = refl
none_kept (a ∷ l) few = absurd (omega (arith, few))

-- a node that keeps none, at any stage
pub keeps_none : (p : Numbers) (c : Core) (stage : Stage) → c.kept ≡ [] → (hosts c.tune ≡ true → c.plan.contend ≡ p.contend) → KeepsFew p c stage
keeps_none p c stage empty named = record { few = omega (arith, ap length empty); none = λ guest. empty; named = named }

-- boot
pub boots_with_none : (p : Numbers) (boot : ℕ) (stage : Stage) → KeepsFew p (booted boot) stage
boots_with_none p boot stage = keeps_none p (booted boot) stage refl (λ host. absurd (false≢true host))

-- while a node scans, and between rounds, it keeps none
pub none_between : (p : Numbers) (c : Core) (stage : Stage) → contended c.plan stage ≡ 0 → KeepsFew p c stage → c.kept ≡ []
none_between p c stage zero is = none_kept c.kept (omega (arith, zero, is.few))

pub scanner_keeps_none : (p : Numbers) (c : Core) (stage : Stage) → stage ≡ Scanning → KeepsFew p c stage → c.kept ≡ []
scanner_keeps_none p c stage at is = none_between p c Scanning refl (subst (KeepsFew p c) at is)

pub waiter_keeps_none : (p : Numbers) (c : Core) (stage : Stage) → stage ≡ AwaitFrame → KeepsFew p c stage → c.kept ≡ []
waiter_keeps_none p c stage at is = none_between p c AwaitFrame refl (subst (KeepsFew p c) at is)

-- the end of a frame
begun_with : (p : Numbers) (c : Core) (old new : Tune) (stage : Stage) → c.kept ≡ [] → (hosts old ≡ true → c.plan.contend ≡ p.contend)
    → (begins_host old new ≡ None → hosts new ≡ true → hosts old ≡ true)
    → KeepsFew p (as_host p (begins_host old new) (record c { tune = new; own_slot = None })) stage
begun_with p c old new stage empty named before = by_rank (begins_host old new) refl
  where
    by_rank : (o : Option ℕ) → begins_host old new ≡ o → KeepsFew p (as_host p o (record c { tune = new; own_slot = None })) stage
    by_rank None is = keeps_none p (record c { tune = new; own_slot = None }) stage empty (λ host. named (before is host))
    by_rank (Some rank) is = keeps_none p (as_host p (Some rank) (record c { tune = new; own_slot = None })) stage empty (λ host. refl)

pub frame_keeps : (s : Setup) (f : ℕ) (c : Core) (stage : Stage) → c.kept ≡ [] → (hosts c.tune ≡ true → c.plan.contend ≡ s.profile.contend)
    → KeepsFew s.profile (frame_ended s f c) stage
frame_keeps s f c stage empty named =
    begun_with s.profile c c.tune (next_tune c.tune f (is_fresh c) s.own s.ranks) stage empty named (hosted_before c.tune f (is_fresh c) s.own s.ranks)

-- where the slots of a plan are
abbrev IsAt : Plan → ℕ → Part → Type 0
IsAt p j Opening = j ≡ 0
IsAt p j (DataSlot owner) = j < last_slot p
IsAt p j (Contention i) = (length p.owners < j) × (j < last_slot p)
IsAt p j Closing = Unit {0}

part_at : (p : Plan) (j : ℕ) → IsAt p j (part_of p j)
part_at p j =
    cond_both (j == 0) Opening _ (IsAt p j) (λ first. eqb-true j 0 first)
    (λ _. cond_both (nat_le j (length p.owners)) (DataSlot _) _ (IsAt p j) (λ within. (let few = leb-true j (length p.owners) within in omega (arith, few)))
    (λ past. cond_both (nat_lt j (last_slot p)) (Contention _) Closing (IsAt p j)
    (λ early. (leb-false j (length p.owners) past, ltb-true j (last_slot p) early)) (λ end. tt)))

-- a window opens
module _ (s : Setup) (f j : ℕ) (c : Core) where
  inside_by : (part : Part) → IsAt c.plan j part → IsInside (opened_slot s f part c).core.plan j (last_slot c.plan) part
  inside_by Opening at = tt
  inside_by (DataSlot owner) at = at
  inside_by (Contention i) at = at
  inside_by Closing at = tt

  pub opens_inside : (part : Part) → part ≡ part_of c.plan j → IsInside (opened_slot s f part c).core.plan j (last_slot c.plan) part
  opens_inside part is = inside_by part (subst (IsAt c.plan j) (sym is) (part_at c.plan j))

  module _ (kept : KeepsFew s.profile c (AwaitSlot j)) (own : IsInOwnRound f c) (last : ℕ) (flood : FloodState) (reference : Option ℕ) where
    abbrev at_window : Part → Stage
    at_window part = InWindow j (record { part = part; last = last; flood = flood; reference = reference })

    guest_of : hosts_now f c ≡ false → hosts c.tune ≡ false
    guest_of not = by_test (hosts c.tune) refl
      where
        by_test : (b : Bool) → hosts c.tune ≡ b → b ≡ false
        by_test false is = refl
        by_test true is = absurd (false≢true (sym not ∙ own is))

    keeps_by : (part : Part) → IsAt c.plan j part → KeepsFew s.profile (opened_slot s f part c).core (at_window part)
    keeps_by Opening at = record { few = omega (arith, kept.few, at); none = kept.none; named = kept.named }
    keeps_by (DataSlot owner) at = record { few = kept.few; none = kept.none; named = kept.named }
    keeps_by (Contention i) at = record { few = kept.few; none = kept.none; named = kept.named }
    keeps_by Closing at = cond_both (hosts_now f c) (host_closes s f c) (silent c) (λ (o : Opened). KeepsFew s.profile o.core (at_window Closing))
        (λ now. keeps_none s.profile (host_closes s f c).core (at_window Closing) refl
        (λ host. plan_contends s.profile s.id c.boot (rank_of c.tune) f c.kept c.table c.streams))
        (λ not. keeps_none s.profile c (at_window Closing) (kept.none (guest_of not)) kept.named)

    pub opens_keeps : (part : Part) → part ≡ part_of c.plan j → KeepsFew s.profile (opened_slot s f part c).core (at_window part)
    opens_keeps part is = keeps_by part (subst (IsAt c.plan j) (sym is) (part_at c.plan j))

-- a window that accepts nothing
pub accepts_none : (w : Window) → is_some (accepted_of w.flood) ≡ false → accepted_in w ≡ None
accepts_none w none = said_none (accepted_of w.flood) none

-- a window closes
module _ (s : Setup) (f j : ℕ) (c : Core) (w : Window)
    (next : j < w.last → (j ≡ 0) ⊎ ((is_schedule_part w.part ≡ false) × (w.last ≡ last_slot c.plan)))
    (spelled : IfSome w.flood.first (λ q. is_spelling (kind_for w.part) q ≡ true))
    (within : IsInside c.plan j w.last w.part)
    (says_own : hosts c.tune ≡ true → is_schedule_part w.part ≡ true → w.flood.initiated ≡ true)
    (kept : KeepsFew s.profile c (InWindow j w)) where
  abbrev Carried : Part → Type 0
  Carried part = IfSome w.flood.first (λ q. is_spelling (kind_for part) q ≡ true)

  carried : (part : Part) → w.part ≡ part → Carried part
  carried part at = subst Carried at spelled

  -- where it hosts, it accepts nothing in the slots of schedules, data in data slots, and no schedule in contention slots
  abbrev Takes : Part → Message → Type 0
  Takes Opening m = ⊥
  Takes (DataSlot owner) m = IsData m
  Takes (Contention i) m = IsUnscheduled m
  Takes Closing m = ⊥

  begun : (b : Bool) (P : Message → Type 0) → b ≡ true → IfSome (accepted_by b w.flood.first) P
  begun true P is = tt
  begun false P is = absurd (false≢true is)

  takes : (part : Part) → w.part ≡ part → hosts c.tune ≡ true → IfSome (accepted_in w) (Takes part)
  takes Opening at host = begun w.flood.initiated (Takes Opening) (says_own host (ap is_schedule_part at))
  takes Closing at host = begun w.flood.initiated (Takes Closing) (says_own host (ap is_schedule_part at))
  takes (DataSlot owner) at host = of_first _ IsData says_data w.flood.initiated w.flood.first (carried (DataSlot owner) at)
  takes (Contention i) at host = of_first _ IsUnscheduled says_request w.flood.initiated w.flood.first (carried (Contention i) at)

  abbrev IsInside_of : Part → Type 0
  IsInside_of part = IsInside c.plan j w.last part

  abbrev bound : Part → ℕ
  bound part = if is_schedule_part part then 0 else j - (length c.plan.owners + 1)

  -- a request that a host accepts is in a contention slot
  abbrev IsAsked : Type 0
  IsAsked = (length c.plan.owners < j) × (j < w.last) × (length c.kept ≤ j - (length c.plan.owners + 1))

  asked : (a : Ask) → accepted_in w ≡ Some (RequestOf a) → hosts c.tune ≡ true → IsAsked
  asked a says host = by_part w.part refl
    where
      taken : (part : Part) → w.part ≡ part → Takes part (RequestOf a)
      taken part at = subst (λ (o : Option Message). IfSome o (Takes part)) says (takes part at host)

      by_part : (part : Part) → w.part ≡ part → IsAsked
      by_part Opening at = absurd (taken Opening at)
      by_part Closing at = absurd (taken Closing at)
      by_part (DataSlot owner) at = absurd (taken (DataSlot owner) at)
      by_part (Contention i) at =
          let inside = subst IsInside_of at within in
          (inside.0, inside.1, subst (λ (q : Part). length c.kept ≤ bound q) at kept.few)

  no_schedule : (x : Schedule) → accepted_in w ≡ Some (ScheduleOf x) → hosts c.tune ≡ true → false ≡ true
  no_schedule x says host = by_part w.part refl
    where
      taken : (part : Part) → w.part ≡ part → Takes part (ScheduleOf x)
      taken part at = subst (λ (o : Option Message). IfSome o (Takes part)) says (takes part at host)

      by_part : (part : Part) → w.part ≡ part → false ≡ true
      by_part Opening at = absurd (taken Opening at)
      by_part Closing at = absurd (taken Closing at)
      by_part (DataSlot owner) at = absurd (taken (DataSlot owner) at)
      by_part (Contention i) at = absurd (taken (Contention i) at)

  last_is : length c.plan.owners < j → j < w.last → w.last ≡ last_slot c.plan
  last_is late early = elim (next early) [
    | inl first ↦ absurd (omega (arith, first, late))
    | inr goes ↦ goes.1
  ]

  -- it may accept what its window has
  pub may_take : (m : Option Message) → m ≡ accepted_in w → MayAccept s f c m
  may_take None is = tt
  may_take (Some (DataOf d)) is = tt
  may_take (Some (ScheduleOf x)) is = by_test (hosts c.tune) refl
    where
      by_test : (b : Bool) → hosts c.tune ≡ b → b ≡ false
      by_test false host = refl
      by_test true host = absurd (false≢true (no_schedule x (sym is) host))
  may_take (Some (RequestOf a)) is = λ now.
      (let host = hosts_by_rank c.tune f now in
      let at = asked a (sym is) host in
      let end = last_is at.0 at.1 in
      let named : slots_named c.plan.contend ≡ slots_named s.profile.contend = ap slots_named (kept.named host) in
      omega (arith, at.0, at.1, at.2, end, named))

  -- and the node keeps few after it
  still : (stage : Stage) → stage ≡ waits_after j w.last → length c.kept ≤ contended c.plan stage
  still stage is = subst (λ (x : Stage). length c.kept ≤ contended c.plan x) (sym is)
      (cond_both (nat_lt j w.last) (AwaitSlot (j + 1)) AwaitFrame (λ (x : Stage). length c.kept ≤ contended c.plan x) (λ more. goes w.part refl)
      (λ last. ends w.part refl (λ early. (let not = sym last ∙ lt-ltb j w.last early in false≢true not))))
    where
      few : (part : Part) → w.part ≡ part → length c.kept ≤ bound part
      few part at = subst (λ (q : Part). length c.kept ≤ bound q) at kept.few

      inside : (part : Part) → w.part ≡ part → IsInside_of part
      inside part at = subst IsInside_of at within

      goes : (part : Part) → w.part ≡ part → length c.kept ≤ (j + 1) - (length c.plan.owners + 1)
      goes Opening at = (let none = few Opening at in omega (arith, none))
      goes Closing at = (let none = few Closing at in omega (arith, none))
      goes (DataSlot owner) at = (let some = few (DataSlot owner) at in omega (arith, some))
      goes (Contention i) at = (let some = few (Contention i) at in omega (arith, some))

      ends : (part : Part) → w.part ≡ part → (j < w.last → ⊥) → length c.kept ≤ 0
      ends Opening at over = few Opening at
      ends Closing at over = few Closing at
      ends (DataSlot owner) at over = absurd (over (inside (DataSlot owner) at))
      ends (Contention i) at over = absurd (over (inside (Contention i) at).1)

  heard_keeps : (stage : Stage) (part : Part) (b : Bool) → KeepsFew s.profile c stage → KeepsFew s.profile (slot_heard f part b c) stage
  heard_keeps stage Opening b is = is
  heard_keeps stage Closing b is = is
  heard_keeps stage (Contention i) b is = is
  heard_keeps stage (DataSlot owner) b is = record { few = is.few; none = is.none; named = is.named }

  same_keeps : (stage : Stage) → stage ≡ waits_after j w.last → KeepsFew s.profile c stage
  same_keeps stage at = record { few = still stage at; none = kept.none; named = kept.named }

  pub closes_keeps : (stage : Stage) (b : Bool) (m : Option Message) → stage ≡ waits_after j w.last → m ≡ accepted_in w
      → KeepsFew s.profile (closed_slot s f w.part b c m).core stage
  closes_keeps stage b None at is = heard_keeps stage w.part b (same_keeps stage at)
  closes_keeps stage b (Some (DataOf d)) at is = heard_keeps stage w.part true (same_keeps stage at)
  closes_keeps stage b (Some (ScheduleOf x)) at is =
      let guest = may_take (Some (ScheduleOf x)) is in
      cond_both (x.gap == 0) (opening_accepted s.id f x c) (closing_accepted s.id f x c) (λ (d : Core). KeepsFew s.profile d stage)
      (λ opens. keeps_none s.profile (opening_accepted s.id f x c) stage (kept.none guest) (λ host. absurd (false≢true (sym guest ∙ host))))
      (λ closes. keeps_none s.profile (closing_accepted s.id f x c) stage (kept.none guest) (λ host. absurd (false≢true host)))
  closes_keeps stage b (Some (RequestOf a)) at is =
      cond_both (hosts_now f c) (c.kept ++ a ∷ []) c.kept (λ (l : List Ask). KeepsFew s.profile (record c { kept = l }) stage)
      (λ now. more (hosts_by_rank c.tune f now))
      (λ other. same_keeps stage at)
    where
      more : hosts c.tune ≡ true → KeepsFew s.profile (record c { kept = c.kept ++ a ∷ [] }) stage
      more host =
          let slot = asked a (sym is) host in
          let long = length_push c.kept a in
          record {
            few = subst (λ (x : Stage). length (c.kept ++ a ∷ []) ≤ contended c.plan x)
                (sym (at ∙ cond-true (nat_lt j w.last) (AwaitSlot (j + 1)) AwaitFrame (lt-ltb j w.last slot.1))) (omega (arith, slot.0, slot.2, long));
            none = λ guest. absurd (false≢true (sym guest ∙ host));
            named = kept.named;
          }

-- where a node waits after a window
module _ (j last : ℕ) (stage : Stage) (at : stage ≡ waits_after j last) (c : Core) where
  pub stands_after : (j < last → j + 1 ≤ last_slot c.plan) → IsStage c stage
  stands_after next = subst (IsStage c) (sym at)
      (cond_both (nat_lt j last) (AwaitSlot (j + 1)) AwaitFrame (IsStage c) (λ more. next (ltb-true j last more)) (λ end. tt))

  pub hosts_after : (f : ℕ) → (j < last → IsInOwnRound f c) → HostsIn f c stage
  hosts_after f own = subst (HostsIn f c) (sym at)
      (cond_both (nat_lt j last) (AwaitSlot (j + 1)) AwaitFrame (HostsIn f c) (λ more. own (ltb-true j last more)) (λ end. tt))
