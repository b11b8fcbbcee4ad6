-- A window stays in its ranges: where it opens, where packets are received in it, where a transmission ends, and what it leaves where it closes.
use Rattle.std.proofs.Common.{◌≡◌, ℕ, ◌<◌, ◌≤◌, ◌⊎◌, List, length, Bool, true, false, not, ◌==◌, if◌then◌else◌, Some, None, Option, IfSome, option_map}
use Rattle.std.proofs.Common.{option_and_then, inl, inr, refl, sym, ◌∙◌, ap, subst, arith}
use Rattle.std.proofs.lemmas.Bool.{cond_both, and_from, eqb-true, le-leb}
use Rattle.lwb_base.specs.Profile.{Numbers}
use Rattle.lwb_base.specs.Messages.{Schedule, Ask}
use Rattle.lwb_packets.specs.DataPackets.{is_data}
use Rattle.lwb_packets.specs.Requests.{is_request}
use Rattle.lwb_packets.specs.declared.kind.Kind.{Kind}
use Rattle.lwb_packets.specs.declared.kind.Kind.TheVariants as Kinds
use Rattle.schedule_codec.specs.AckLists.{ask_in_range}
use Rattle.schedule_codec.specs.Reading.{schedule_of}
use Rattle.schedule_codec.proofs.Readings.{Parts, parts_of}
use Rattle.glossy_relay.specs.FloodState.{FloodState, listening}
use Rattle.glossy_relay.specs.Relaying.{is_spelling, slot_of, counter_of, fits, after_heard, after_sent}
use Rattle.glossy_relay.proofs.CountedPackets.{begun_here}
use Rattle.bus_rules.specs.declared.part.Part.{Part}
use Rattle.bus_rules.specs.declared.part.Part.TheVariants.{Opening, Data as DataSlot, Contention, Closing}
use Rattle.bus_rules.specs.Plans.{last_slot, opening}
use Rattle.bus_rules.specs.Tuning.{rank_of, hosts}
use Rattle.bus_rules.specs.Cores.{Core, Setup}
use Rattle.bus_rules.specs.Slots.{Opened, Message, ScheduleOf, DataOf, RequestOf, hosts_now, part_of, opened_slot}
use Rattle.bus_rules.specs.Slots.{host_closes, silent, is_schedule_part, closed_slot}
use Rattle.lwb_member.specs.Members.{MayAccept}
use Rattle.lwb_member.specs.Places.{IsPartOfSlot, kind_for}
use Rattle.lwb_member.specs.Said.{message_of, data_in, request_in, MaySay}
use Rattle.node_core.specs.Windows.{Window}
use Rattle.node_core.specs.WindowClosing.{waits_after}
use Rattle.node_core.specs.Rows.{flood_for, last_by, part_by, is_foreign, flood_by, hearing, accepted_in}
use Rattle.node_core.specs.Standing.{IsInOwnRound, IsInside, KeepsFew}
use Rattle.node_core.specs.declared.stage.Stage.TheVariants.{InWindow}
use Rattle.node_core.proofs.KeptRequests.{opens_inside, may_take, closes_keeps}
use Rattle.air_log.proofs.SmallPlans.{few_slots, read_few}
use Rattle.law_trails.specs.PlanRanges.{IsWholePlan}
use Rattle.law_trails.specs.CoreRanges.{IsSetup, IsCore}
use Rattle.law_trails.specs.NodeRanges.{IsCarried, IsFloodOfSlot, IsOpenInRange}
use Rattle.law_trails.proofs.SpokenInRange.{read_may}
use Rattle.law_trails.proofs.SaidInRange.{IsSayable, few_owners, placed, says as says_in}
use Rattle.law_trails.proofs.CoresInRange.{MayTake}
use Rattle.law_trails.proofs.FloodsInRange.{listening_is, initiating_is, heard_is, sent_is, heard_first}

-- a spelling of one kind says no message of another
pub schedule_said : (part : Part) (q : List ℕ) (x : Schedule) → is_spelling (kind_for part) q ≡ true → message_of q ≡ Some (ScheduleOf x)
    → is_schedule_part part ≡ true
schedule_said Opening q x spelled is = refl
schedule_said Closing q x spelled is = refl
schedule_said (DataSlot owner) q x spelled is = by_test (is_data q) spelled is
  where
    by_test : (b : Bool) → b ≡ true
        → (if b then Some (DataOf (data_in q)) else if is_request q then Some (RequestOf (request_in q)) else option_map ScheduleOf (schedule_of q))
        ≡ Some (ScheduleOf x) → false ≡ true
    by_test true sent says = absurd (cc)
    by_test false sent says = sent
schedule_said (Contention i) q x spelled is = by_tests (is_data q) (is_request q) spelled is
  where
    by_tests : (b c : Bool) → c ≡ true
        → (if b then Some (DataOf (data_in q)) else if c then Some (RequestOf (request_in q)) else option_map ScheduleOf (schedule_of q)) ≡ Some
        (ScheduleOf x) → false ≡ true
    by_tests true c request says = absurd (cc)
    by_tests false true request says = absurd (cc)
    by_tests false false request says = request

-- what was read of a schedule
whole_of : (x : Schedule) (j k : ℕ) → Parts x j k → IsWholePlan x.plan
whole_of x j k parts = record {
  rank = parts.rank;
  boot = parts.boot.1;
  contend = parts.contend;
  few = parts.few;
  acks = parts.acks;
  ordered = parts.ordered;
  owners = parts.owners;
}

same_rank : (a b : ℕ) → not (a == b) ≡ false → a ≡ b
same_rank a b is = by_test (a == b) refl is
  where
    by_test : (t : Bool) → (a == b) ≡ t → not t ≡ false → a ≡ b
    by_test true same own = eqb-true a b same
    by_test false same own = absurd (cc)

ask_of : (a : Ask) (j : ℕ) → MaySay j (RequestOf a) → ask_in_range a ≡ true
ask_of a j may =
    and_from _ _ (and_from _ _
    (and_from _ _ (and_from _ _ (le-leb 1 a.node may.1) (le-leb a.node 200 may.2))
    (and_from _ _ (le-leb 1 a.boot may.0.boot.0) (le-leb a.boot 200 may.0.boot.1))) (le-leb a.stream 3 may.0.stream))
    (le-leb a.interval 120 may.0.interval)

module _ (s : Setup) (set : IsSetup s) where
  -- a window opens at its alarm
  flood_is : (part : Part) (j : ℕ) (o : Option Message) → IfSome o (IsSayable s (kind_for part) j) → IsFloodOfSlot s (kind_for part) j (flood_for s part j o)
  flood_is part j None said = listening_is s (kind_for part) j
  flood_is part j (Some m) said = initiating_is s (kind_for part) j m set.sends.0 said

  own_first : (part : Part) (j : ℕ) (o : Option Message) (P : List ℕ → Type 0) → (flood_for s part j o).initiated ≡ false
      → IfSome (flood_for s part j o).first P
  own_first part j None P other = tt
  own_first part j (Some m) P other = absurd (cc)

  abbrev begun : Core → ℕ → ℕ → Part → Opened → Window
  begun c f j part o = record { part = part; last = last_slot c.plan; flood = flood_for s part j o.message; reference = None }

  next_is : (f j : ℕ) (part : Part) (c : Core) → IsPartOfSlot c.plan j part → j < last_slot c.plan
      → (j ≡ 0) ⊎ ((is_schedule_part part ≡ false) × (last_slot c.plan ≡ last_slot (opened_slot s f part c).core.plan))
  next_is f j Opening c at less = inl at
  next_is f j (DataSlot owner) c at less = inr (refl, refl)
  next_is f j (Contention i) c at less = inr (refl, refl)
  next_is f j Closing c at less = absurd (omega (arith, at, less))

  goes_is : (f j : ℕ) (part : Part) (c : Core) → IsPartOfSlot c.plan j part → IsInOwnRound f c → j < last_slot c.plan
      → IsInOwnRound f (opened_slot s f part c).core
  goes_is f j Opening c at own less = own
  goes_is f j (DataSlot owner) c at own less = own
  goes_is f j (Contention i) c at own less = own
  goes_is f j Closing c at own less = absurd (omega (arith, at, less))

  hosted_is : (f j : ℕ) (part : Part) (c : Core) → IsInOwnRound f c → hosts (opened_slot s f part c).core.tune ≡ true → is_schedule_part part ≡ true
      → (flood_for s part j (opened_slot s f part c).message).initiated ≡ true
  hosted_is f j Opening c own host is =
      subst (λ (b : Bool). (flood_for s Opening j (if b then Some (ScheduleOf (opening c.plan)) else None)).initiated ≡ true) (sym (own host)) refl
  hosted_is f j (DataSlot owner) c own host is = absurd (cc)
  hosted_is f j (Contention i) c own host is = absurd (cc)
  hosted_is f j Closing c own host is =
      cond_both (hosts_now f c) (host_closes s f c) (silent c) (λ (o : Opened). hosts o.core.tune ≡ true → (flood_for s Closing j o.message).initiated ≡ true)
      (λ now host. refl)
      (λ not host. (let none : true ≡ false = sym (own host) ∙ not in absurd (cc)))
      host

  pub opens_is : (f j : ℕ) (c : Core) → IsCore s c → j ≤ last_slot c.plan → IsInOwnRound f c
      → IsOpenInRange s f (opened_slot s f (part_of c.plan j) c).core j (begun c f j (part_of c.plan j) (opened_slot s f (part_of c.plan j) c))
  opens_is f j c is within own =
      let part = part_of c.plan j in
      let at = placed c.plan j is.plan within in
      let o = opened_slot s f part c in
      record {
        slot = within;
        last = few_slots c.plan (few_owners c.plan is.plan) is.plan.contend;
        next = next_is f j part c at;
        flood = flood_is part j o.message (says_in s set f j part c is at);
        own = λ other. own_first part j o.message (λ q. is_foreign (rank_of o.core.tune) (message_of q) ≡ false) other;
        inside = opens_inside s f j c part refl;
        goes_on = goes_is f j part c at own;
        hosted = hosted_is f j part c own;
      }

  -- a scanning node joins
  of_schedules : (x : Schedule) → Kinds.Schedule ≡ kind_for (part_by x)
  of_schedules x = cond_both (x.gap == 0) Opening Closing (λ (q : Part). Kinds.Schedule ≡ kind_for q) (λ opens. refl) (λ closes. refl)

  first_slot : (opens other : Bool) (j last : ℕ) → (if opens then (j == 0) else other) ≡ true → j < (if opens then last else j) → j ≡ 0
  first_slot true other j last fits less = eqb-true j 0 fits
  first_slot false other j last fits less = absurd (omega arith)

  within_last : (opens other : Bool) (j last : ℕ) → (if opens then (j == 0) else other) ≡ true → j ≤ (if opens then last else j)
  within_last true other j last fits = omega (arith, eqb-true j 0 fits)
  within_last false other j last fits = omega arith

  pub joins_is : (f : ℕ) (c : Core) (q : List ℕ) (x : Schedule) (z : ℕ) → hosts c.tune ≡ false → length q ≤ s.profile.packet_max
      → message_of q ≡ Some (ScheduleOf x) → (x.plan.rank == rank_of c.tune) ≡ true
      → IsOpenInRange s f c (slot_of q) (record {
        part = part_by x;
        last = last_by x (slot_of q);
        flood = after_heard (listening Kinds.Schedule (slot_of q) s.sends) q;
        reference = Some z;
      })
  joins_is f c q x z free few says ranked =
      let j = slot_of q in
      let start = listening Kinds.Schedule j s.sends in
      let parts = parts_of x j 0 (read_may q (ScheduleOf x) says) in
      let small = read_few q x says in
      let mine : is_foreign (rank_of c.tune) (message_of q) ≡ false = ap (is_foreign (rank_of c.tune)) says ∙ ap not ranked in
      let none : hosts c.tune ≡ true → ⊥ = λ host. (let never : true ≡ false = sym host ∙ free in cc) in
      record {
        slot = within_last (x.gap == 0) _ j (last_slot x.plan) parts.place;
        last = cond_both (x.gap == 0) (last_slot x.plan) j (λ (l : ℕ). l ≤ 45) (λ opens. small.0) (λ closes. small.1);
        next = λ less. inl (first_slot (x.gap == 0) _ j (last_slot x.plan) parts.place less);
        flood = subst (λ (k : Kind). IsFloodOfSlot s k j (after_heard start q)) (of_schedules x)
            (heard_is s Kinds.Schedule j start q few (listening_is s Kinds.Schedule j));
        own = λ other. heard_first (λ p. is_foreign (rank_of c.tune) (message_of p) ≡ false) start q mine tt;
        inside = cond_both (x.gap == 0) Opening Closing (IsInside c.plan j (last_by x j)) (λ opens. tt) (λ closes. tt);
        goes_on = λ less host. absurd (none host);
        hosted = λ host is. absurd (none host);
      }

  -- a packet is received
  pub hears_is : (p : Numbers) (f now j : ℕ) (c : Core) (w : Window) (q : List ℕ) → length q ≤ s.profile.packet_max → IsOpenInRange s f c j w
      → IsOpenInRange s f c j (hearing p (rank_of c.tune) now w q)
  hears_is p f now j c w q few is =
      let rank = rank_of c.tune in
      let Mine : List ℕ → Type 0 = λ x. is_foreign rank (message_of x) ≡ false in
      let same : (flood_by rank w q).initiated ≡ w.flood.initiated =
      cond_both (is_foreign rank (message_of q)) w.flood (after_heard w.flood q) (λ (g : FloodState). g.initiated ≡ w.flood.initiated)
      (λ foreign. refl)
      (λ own. begun_here w.flood q) in
      record {
        slot = is.slot;
        last = is.last;
        next = is.next;
        flood = cond_both (is_foreign rank (message_of q)) w.flood (after_heard w.flood q) (IsFloodOfSlot s (kind_for w.part) j) (λ foreign. is.flood)
            (λ own. heard_is s (kind_for w.part) j w.flood q few is.flood);
        own = λ other. cond_both (is_foreign rank (message_of q)) w.flood (after_heard w.flood q) (λ (g : FloodState). IfSome g.first Mine)
            (λ foreign. is.own (sym same ∙ other)) (λ mine. heard_first Mine w.flood q mine (is.own (sym same ∙ other)));
        inside = is.inside;
        goes_on = is.goes_on;
        hosted = λ host said. same ∙ is.hosted host said;
      }

  -- a transmission ends
  pub ends_is : (f j : ℕ) (c : Core) (w : Window) → w.flood.waiting ≡ true → IsOpenInRange s f c j w
      → IsOpenInRange s f c j (record w { flood = after_sent w.flood })
  ends_is f j c w waits is = record {
    slot = is.slot;
    last = is.last;
    next = is.next;
    flood = sent_is s (kind_for w.part) j w.flood waits is.flood;
    own = is.own;
    inside = is.inside;
    goes_on = is.goes_on;
    hosted = is.hosted;
  }

  -- what it accepted
  taken_by : (f j : ℕ) (c : Core) (w : Window) (q : List ℕ) (m : Message) → IsOpenInRange s f c j w → w.flood.initiated ≡ false
      → is_spelling (kind_for w.part) q ≡ true → is_foreign (rank_of c.tune) (message_of q) ≡ false → message_of q ≡ Some m → MayTake c m
  taken_by f j c w q (DataOf d) is other spelled own says = tt
  taken_by f j c w q (RequestOf a) is other spelled own says = ask_of a (slot_of q) (read_may q (RequestOf a) says)
  taken_by f j c w q (ScheduleOf x) is other spelled own says =
      let parts = parts_of x (slot_of q) 0 (read_may q (ScheduleOf x) says) in
      let rank = same_rank x.plan.rank (rank_of c.tune) (sym (ap (is_foreign (rank_of c.tune)) says) ∙ own) in
      (by_host (hosts c.tune) refl, whole_of x (slot_of q) 0 parts, parts.boot.0, rank)
    where
      by_host : (b : Bool) → hosts c.tune ≡ b → b ≡ false
      by_host false host = refl
      by_host true host = let begun : true ≡ false = sym (is.hosted host (schedule_said w.part q x spelled says)) ∙ other in begun

  abbrev accepted_by : Bool → Option (List ℕ) → Option Message
  accepted_by b first = option_and_then (λ a. message_of a.0) (if b then None else option_map {U = List ℕ × ℕ} (λ p. (p, counter_of p)) first)

  by_message : (f j : ℕ) (c : Core) (w : Window) (q : List ℕ) (o : Option Message) → IsOpenInRange s f c j w → w.flood.initiated ≡ false
      → is_spelling (kind_for w.part) q ≡ true → is_foreign (rank_of c.tune) (message_of q) ≡ false → message_of q ≡ o → IfSome o (MayTake c)
  by_message f j c w q None is other spelled own says = tt
  by_message f j c w q (Some m) is other spelled own says = taken_by f j c w q m is other spelled own says

  pub by_first : (f j : ℕ) (c : Core) (w : Window) (b : Bool) (first : Option (List ℕ)) → IsOpenInRange s f c j w → w.flood.initiated ≡ b
      → w.flood.first ≡ first → IfSome (accepted_by b first) (MayTake c)
  by_first f j c w true first is begun at = tt
  by_first f j c w false None is begun at = tt
  by_first f j c w false (Some q) is begun at =
      let carried : IsCarried s (kind_for w.part) j q = subst (λ (o : Option (List ℕ)). IfSome o (IsCarried s (kind_for w.part) j)) at is.flood.first in
      let own : is_foreign (rank_of c.tune) (message_of q) ≡ false =
      subst (λ (o : Option (List ℕ)). IfSome o (λ p. is_foreign (rank_of c.tune) (message_of p) ≡ false)) at (is.own begun) in
      by_message f j c w q (message_of q) is begun carried.spelled own refl

  pub accepted_may : (f j : ℕ) (c : Core) (w : Window) → IsOpenInRange s f c j w → IfSome (accepted_in w) (MayTake c)
  accepted_may f j c w is = by_first f j c w w.flood.initiated w.flood.first is refl refl

  -- and what it keeps
  spelled_of : (j : ℕ) (w : Window) (first : Option (List ℕ)) → IfSome first (IsCarried s (kind_for w.part) j)
      → IfSome first (λ q. is_spelling (kind_for w.part) q ≡ true)
  spelled_of j w None carried = tt
  spelled_of j w (Some q) carried = carried.spelled

  pub accepted_room : (f j : ℕ) (c : Core) (w : Window) → IsOpenInRange s f c j w → KeepsFew s.profile c (InWindow j w)
      → MayAccept s f c (accepted_in w)
  accepted_room f j c w is kept =
      may_take s f j c w is.next (spelled_of j w w.flood.first is.flood.first) is.inside is.hosted kept (accepted_in w) refl

  pub closed_keeps : (f j : ℕ) (c : Core) (w : Window) → IsOpenInRange s f c j w → KeepsFew s.profile c (InWindow j w)
      → KeepsFew s.profile (closed_slot s f w.part w.flood.initiated c (accepted_in w)).core (waits_after j w.last)
  closed_keeps f j c w is kept = closes_keeps s f j c w is.next (spelled_of j w w.flood.first is.flood.first) is.inside is.hosted kept
      (waits_after j w.last) w.flood.initiated (accepted_in w) refl refl
