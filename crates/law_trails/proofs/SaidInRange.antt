-- What a node says in a slot may be said there, and fits the packets of its profile.
use Rattle.std.proofs.Common.{◌≡◌, ℕ, ◌-◌, ◌≤◌, List, [], ◌∷◌, length, Bool, true, ◌==◌, nat_lt, nat_le, if◌then◌else◌, slice_index, slice_get, Some, None}
use Rattle.std.proofs.Common.{Option, IfSome, option_map, find, refl, sym, ◌∙◌, arith, eq-eqb}
use Rattle.std.specs.List.{AllByRecursion}
use Rattle.std.proofs.lemmas.Bool.{cond_both, and_parts, leb-true, ltb-true, ltb-false, eqb-true, eqb-false}
use Rattle.std.proofs.lemmas.List.Elements.{recursion_from_All}
use Rattle.lwb_base.specs.Messages.{Plan, Schedule, node_of, stream_of}
use Rattle.lwb_packets.specs.declared.kind.Kind.{Kind}
use Rattle.schedule_codec.proofs.Readings.{range_from}
use Rattle.bus_rules.specs.declared.part.Part.{Part}
use Rattle.bus_rules.specs.declared.part.Part.TheVariants.{Opening, Data as DataSlot, Contention, Closing}
use Rattle.bus_rules.specs.Plans.{last_slot, opening}
use Rattle.bus_rules.specs.Streams.{WaitingPacket, Streams, stream_at, first_waiting, request_is_due, due_stream, requested}
use Rattle.bus_rules.specs.Tuning.{rank_of}
use Rattle.bus_rules.specs.HostPlans.{host_plan}
use Rattle.bus_rules.specs.Cores.{Core, Setup}
use Rattle.bus_rules.specs.Slots.{Opened, Message, ScheduleOf, hosts_now, part_of, opened_slot, data_of, request_of, host_closes, silent, is_own}
use Rattle.bus_rules.specs.Slots.{message_length}
use Rattle.lwb_member.specs.Places.{IsPartOfSlot, kind_for}
use Rattle.lwb_member.specs.Said.{MaySay}
use Rattle.lwb_member.proofs.HostPlanned.{closing_fits}
use Rattle.air_log.proofs.SmallPlans.{few_slots}
use Rattle.law_trails.specs.StreamRanges.{IsWaiting}
use Rattle.law_trails.specs.PlanRanges.{IsWholePlan}
use Rattle.law_trails.specs.PacketKinds.{IsOfProfile}
use Rattle.law_trails.specs.CoreRanges.{IsSetup, IsCore}
use Rattle.law_trails.proofs.StreamsInRange.{stream_is}
use Rattle.law_trails.proofs.SpokenInRange.{kind_of, schedule_short, room}
use Rattle.law_trails.proofs.CoresInRange.{no_scan, host_plan_of}
use Rattle.bus_rules.proofs.Ranks.{host_now}

pub record IsSayable (s : Setup) (k : Kind) (j : ℕ) (m : Message) : Type 0 where
  pub may : MaySay j m
  pub short : message_length m ≤ s.profile.packet_max
  pub of_profile : IsOfProfile s.profile m
  pub kind : kind_of m ≡ k

pub few_owners : (p : Plan) → IsWholePlan p → length p.owners ≤ 40
few_owners p whole = leb-true (length p.owners) 40 (and_parts _ _ (and_parts _ _ whole.owners).0).0

-- where each slot is
pub placed : (p : Plan) (j : ℕ) → IsWholePlan p → j ≤ last_slot p → IsPartOfSlot p j (part_of p j)
placed p j whole within =
    let owners = few_owners p whole in
    let last = few_slots p owners whole.contend in
    let rest : Part = if nat_lt j (last_slot p) then Contention (j - length p.owners) else Closing in
    cond_both (j == 0) Opening (if nat_le j (length p.owners) then DataSlot (slice_index p.owners (j - 1)) else rest) (IsPartOfSlot p j) (λ is. eqb-true j 0 is)
    (λ some.
    let past = eqb-false j 0 some in
    cond_both (nat_le j (length p.owners)) (DataSlot (slice_index p.owners (j - 1))) rest (IsPartOfSlot p j)
    (λ own. let few = leb-true j (length p.owners) own in (omega arith, omega arith))
    (λ other. cond_both (nat_lt j (last_slot p)) (Contention (j - length p.owners)) Closing (IsPartOfSlot p j)
    (λ less. let before = ltb-true j (last_slot p) less in (omega arith, omega arith))
    (λ end. let from = ltb-false j (last_slot p) end in omega arith)))

first_of : {X : Type 0} (P : X → Type 0) (xs : List X) → AllByRecursion P xs → IfSome (slice_get xs 0) P
first_of P [] all = tt
first_of P (x ∷ xs) all = all.0

found : (P : ℕ → Type 0) (test : ℕ → Bool) (xs : List ℕ) → AllByRecursion P xs → IfSome (find test xs) P
found P test [] all = tt
found P test (x ∷ xs) all = cond_both (test x) (Some x) (find test xs) (λ (o : Option ℕ). IfSome o P) (λ this. all.0) (λ other. found P test xs all.1)

few_due : (s : Streams) → IfSome (due_stream s) (λ i. i ≤ 3)
few_due s = found (λ i. i ≤ 3) (request_is_due s) (0 ∷ 1 ∷ 2 ∷ 3 ∷ []) (omega arith, (omega arith, (omega arith, (omega arith, tt))))

module _ (s : Setup) (set : IsSetup s) where
  abbrev Says : Part → ℕ → Option Message → Type 0
  Says part j o = IfSome o (IsSayable s (kind_for part) j)

  -- a host's opening
  opening_says : (f j : ℕ) (c : Core) → IsCore s c → j ≡ 0 → hosts_now f c ≡ true → IsSayable s (kind_for Opening) j (ScheduleOf (opening c.plan))
  opening_says f j c is first now =
      let host = host_now f c now in
      let plan = is.plan in
      record {
        may = range_from (opening c.plan) j 0 (record {
          count = omega arith;
          place = eq-eqb j 0 first;
          rank = plan.rank;
          boot = ((is.known (no_scan c.tune host)).boot, plan.boot);
          gap = omega arith;
          contend = plan.contend;
          few = plan.few;
          acks = plan.acks;
          ordered = plan.ordered;
          owners = plan.owners;
        });
        short = schedule_short s.profile (opening c.plan) set.profile plan (is.hosted host).contend;
        of_profile = (is.hosted host).contend;
        kind = refl;
      }

  -- a packet that waits
  data_says : (j i : ℕ) (c : Core) (o : Option WaitingPacket) → IsCore s c → 1 ≤ j → j ≤ 40 → i ≤ 3 → (next : ℕ) → next ≤ 65535
      → IfSome o (IsWaiting s.profile next) → Says (DataSlot i) j (option_map (data_of s.id c i) o)
  data_says j i c None is low high few next most waits = tt
  data_says j i c (Some w) is low high few next most waits =
      let has = room s.profile set.profile in
      record {
        may = (
          record { slot = (low, high); counter = omega arith; boot = is.boot; stream = few; seq = omega (arith, waits.seq) },
          set.id.0,
          set.id.1,
          omega (arith, waits.payload, has.payload),
        );
        short = omega (arith, waits.payload, has.packet);
        of_profile = waits.payload;
        kind = refl;
      }

  -- a request
  request_says : (j : ℕ) (c : Core) (o : Option ℕ) (i : ℕ) → IsCore s c → 1 ≤ j → j ≤ 44 → IfSome o (λ n. n ≤ 3)
      → Says (Contention i) j (option_map (request_of s.id c) o)
  request_says j c None i is low high few = tt
  request_says j c (Some n) i is low high few =
      record {
        may = (
          record {
            slot = (low, high);
            counter = omega arith;
            boot = is.boot;
            stream = few;
            interval = (stream_is s.profile c.streams n is.streams).wish;
          },
          set.id.0,
          set.id.1,
        );
        short = (room s.profile set.profile).request;
        of_profile = tt;
        kind = refl;
      }

  -- a host's closing
  closing_says : (f j : ℕ) (c : Core) → IsCore s c → j ≡ last_slot c.plan → hosts_now f c ≡ true → Says Closing j (host_closes s f c).message
  closing_says f j c is last now =
      let host = host_now f c now in
      let made = host_plan s.profile s.id c.boot (rank_of c.tune) f c.kept c.table c.streams in
      let h = host_plan_of s set f c is in
      let x : Schedule = record { plan = made.plan; gap = made.gap } in
      record {
        may = range_from x j 0 (record {
          count = omega arith;
          place = closing_fits made.gap made.plan.contend j c.plan h.gap.0 h.plan.contend ((is.hosted host).contend ∙ sym h.contend)
              (few_owners c.plan is.plan) last;
          rank = h.plan.rank;
          boot = (omega (arith, h.boot, is.boot.0), h.plan.boot);
          gap = h.gap.1;
          contend = h.plan.contend;
          few = h.plan.few;
          acks = h.plan.acks;
          ordered = h.plan.ordered;
          owners = h.plan.owners;
        });
        short = schedule_short s.profile x set.profile h.plan h.contend;
        of_profile = h.contend;
        kind = refl;
      }

  pub says : (f j : ℕ) (part : Part) (c : Core) → IsCore s c → IsPartOfSlot c.plan j part → Says part j (opened_slot s f part c).message
  says f j Opening c is at = cond_both (hosts_now f c) (Some (ScheduleOf (opening c.plan))) None (Says Opening j) (λ now. opening_says f j c is at now)
      (λ not. tt)
  says f j (DataSlot owner) c is at =
      let i = stream_of owner in
      let x = stream_is s.profile c.streams i is.streams in
      let waits : IfSome (first_waiting c.streams i) (IsWaiting s.profile (stream_at c.streams i).next) =
      first_of (IsWaiting s.profile (stream_at c.streams i).next) (stream_at c.streams i).queue
      (recursion_from_All (IsWaiting s.profile (stream_at c.streams i).next) (stream_at c.streams i).queue x.queue) in
      cond_both (node_of owner == s.id) (option_map (data_of s.id c i) (first_waiting c.streams i)) None (Says (DataSlot owner) j)
      (λ own. data_says j i c (first_waiting c.streams i) is at.0 at.1 (omega arith) (stream_at c.streams i).next x.next waits)
      (λ other. tt)
  says f j (Contention i) c is at =
      let few : IfSome (requested c.streams) (λ n. n ≤ 3) =
      cond_both (c.streams.skips == 0) (due_stream c.streams) None (λ (o : Option ℕ). IfSome o (λ n. n ≤ 3)) (λ now. few_due c.streams) (λ later. tt) in
      cond_both (is_own c.own_slot i) (option_map (request_of s.id c) (requested c.streams)) None (Says (Contention i) j)
      (λ own. request_says j c (requested c.streams) i is at.0 at.1 few)
      (λ other. tt)
  says f j Closing c is at = cond_both (hosts_now f c) (host_closes s f c) (silent c) (λ (o : Opened). Says Closing j o.message)
      (λ now. closing_says f j c is at now) (λ not. tt)
