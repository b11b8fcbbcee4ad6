-- The plan that a host makes can be written, and what it leaves is in its ranges.
use Rattle.std.proofs.Common.{◌≡◌, ℕ, zero, suc, ◌+◌, ◌≤◌, List, [], ◌∷◌, ◌++◌, length, fold, replicate, true, ◌==◌, nat_le, if◌then◌else◌, Some, None}
use Rattle.std.proofs.Common.{Option, refl, arith}
use Rattle.std.specs.Prelude.{All}
use Rattle.std.specs.List.{list_all, sum_by}
use Rattle.std.specs.Option.{IfSome}
use Rattle.std.proofs.lemmas.Bool.{cond_both, and_from, and_parts, le-leb}
use Rattle.std.proofs.lemmas.List.Elements.{All-head, All-tail}
use Rattle.lwb_base.specs.Profile.{Numbers, IsProfile}
use Rattle.lwb_base.specs.Messages.{Ask, code}
use Rattle.lwb_packets.specs.Ranges.{between}
use Rattle.schedule_codec.specs.AckLists.{ask_in_range}
use Rattle.schedule_codec.specs.OwnerLists.{ascend}
use Rattle.schedule_codec.specs.Spelling.{most_acks}
use Rattle.bus_rules.specs.Plans.{slots_named}
use Rattle.bus_rules.specs.Streams.{Streams, with_agreed, request_is_due, due_of, stream_at}
use Rattle.bus_rules.specs.Tables.{TableEntry, Table, EntriesAreAbove, is_full, interval_of}
use Rattle.bus_rules.specs.Granting.{Grants, grant, owners_by, granted_by, grants_for, share_in, given, last_code, gap_of, owed_to, plan_round}
use Rattle.bus_rules.specs.HostPlans.{Answered, Served, with_ack, answer, answers_to, put_if, serve, served, host_plan}
use Rattle.bus_rules.proofs.Grants.{with_few}
use Rattle.stream_table.proofs.Changes.{grant_keeps}
use Rattle.host_scheduler.proofs.Shares.{Rises, owners_rise}
use Rattle.lwb_member.specs.Members.{IsBoot}
use Rattle.lwb_member.specs.Planning.{AreAnswers}
use Rattle.lwb_member.proofs.Answering.{with_are}
use Rattle.lwb_member.proofs.HostPlanned.{gap_in_range, acks_fit, contend_few}
use Rattle.air_log.proofs.SmallPlans.{host_plan_few}
use Rattle.law_trails.specs.StreamRanges.{AreStreams}
use Rattle.law_trails.specs.TableRanges.{IsEntry, IsTable}
use Rattle.law_trails.specs.PlanRanges.{IsHostPlan}
use Rattle.law_trails.proofs.StreamsInRange.{stream_is, agreed_are}
use Rattle.law_trails.proofs.TablesInRange.{mapped_is, request_is, interval_is}

record AreAnswered (x : Answered) (most : ℕ) : Type 0 where
  table : IsTable x.table
  acks : AreAnswers x.acks
  few : length x.acks ≤ most

answers_are : (frame : ℕ) (kept : List Ask) (x : Answered) (most : ℕ) → list_all ask_in_range kept ≡ true → AreAnswered x most
    → AreAnswered (fold (answer frame) x kept) (most + length kept)
answers_are frame [] x most ranges are = record { table = are.table; acks = are.acks; few = omega (arith, are.few) }
answers_are frame (a ∷ kept) x most ranges are =
    let both = and_parts (ask_in_range a) (list_all ask_in_range kept) ranges in
    let acks : List Ask = if is_full a x.table then x.acks else with_ack a x.acks in
    let next : AreAnswers acks = cond_both (is_full a x.table) x.acks (with_ack a x.acks) AreAnswers (λ full. are.acks)
    (λ room. with_are a x.acks both.0 are.acks) in
    let few : length acks ≤ most + 1 =
    cond_both (is_full a x.table) x.acks (with_ack a x.acks) (λ (l : List Ask). length l ≤ most + 1)
    (λ full. omega (arith, are.few))
    (λ room. omega (arith, are.few, with_few a x.acks)) in
    let rest = answers_are frame kept (answer frame x a) (most + 1) both.1 (record {
      table = request_is frame x.table a both.0 are.table;
      acks = next;
      few = few;
    }) in
    record { table = rest.table; acks = rest.acks; few = omega (arith, rest.few) }

-- own streams are served
record AreServed (p : Numbers) (x : Served) : Type 0 where
  table : IsTable x.table
  streams : AreStreams p x.streams

own_ask : (node boot i interval : ℕ) → 1 ≤ node → node ≤ 200 → IsBoot boot → i ≤ 3 → interval ≤ 120
    → ask_in_range (record { node = node; boot = boot; stream = i; interval = interval }) ≡ true
own_ask node boot i interval low high is few short =
    and_from _ _ (and_from _ _
    (and_from _ _ (and_from _ _ (le-leb 1 node low) (le-leb node 200 high)) (and_from _ _ (le-leb 1 boot is.0) (le-leb boot 200 is.1)))
    (le-leb i 3 few)) (le-leb interval 120 short)

module _ (p : Numbers) (node boot frame : ℕ) (low : 1 ≤ node) (high : node ≤ 200) (booted : IsBoot boot) where
  put_is : (i : ℕ) (o : Option ℕ) (t : Table) → i ≤ 3 → IfSome o (λ n. n ≤ 120) → IsTable t → IsTable (put_if frame node boot i o t)
  put_is i None t few short is = is
  put_is i (Some interval) t few short is = request_is frame t (record { node = node; boot = boot; stream = i; interval = interval })
      (own_ask node boot i interval low high booted few short) is

  serve_is : (x : Served) (i : ℕ) → i ≤ 3 → AreServed p x → AreServed p (serve frame node boot x i)
  serve_is x i few are =
      let streams = with_agreed i (interval_of x.table (code node i)) x.streams in
      let now : AreStreams p streams = agreed_are p x.streams i (interval_of x.table (code node i)) (interval_is x.table (code node i) are.table) are.streams in
      let wish : IfSome (due_of streams i) (λ n. n ≤ 120) =
      cond_both (request_is_due streams i) (Some (stream_at streams i).wish) None (λ (o : Option ℕ). IfSome o (λ n. n ≤ 120))
      (λ due. (stream_is p streams i now).wish) (λ none. tt) in
      record { table = put_is i (due_of streams i) x.table few wish are.table; streams = now }

  served_is : (t : Table) (s : Streams) → IsTable t → AreStreams p s → AreServed p (served frame node boot t s)
  served_is t s is are =
      let zero_ = serve_is (record { table = t; streams = s }) 0 (omega arith) (record { table = is; streams = are }) in
      let one = serve_is _ 1 (omega arith) zero_ in
      let two = serve_is _ 2 (omega arith) one in
      serve_is _ 3 (omega arith) two

-- slots are granted
each_between : (n c : ℕ) (rest : List ℕ) → between 4 803 c ≡ true → list_all (between 4 803) rest ≡ true
    → list_all (between 4 803) (replicate n c ++ rest) ≡ true
each_between zero c rest is all = all
each_between (suc n) c rest is all = and_from _ _ is (each_between n c rest is all)

owners_between : (share : TableEntry → ℕ) (es : List TableEntry) → All IsEntry es → list_all (between 4 803) (owners_by share es) ≡ true
owners_between share [] all = refl
owners_between share (e ∷ es) all =
    let this = All-head IsEntry e es all in
    each_between (share e) e.code (owners_by share es) (and_from _ _ (le-leb 4 e.code this.code.0) (le-leb e.code 803 this.code.1))
    (owners_between share es (All-tail IsEntry e es all))

above_none : (es : List TableEntry) → All IsEntry es → EntriesAreAbove 0 es
above_none [] all = tt
above_none (e ∷ es) all = let this = All-head IsEntry e es all in (omega (arith, this.code), above_none es (All-tail IsEntry e es all))

ascend_of : (low : ℕ) (cs : List ℕ) → Rises low cs → ascend cs ≡ true
ascend_of low [] up = refl
ascend_of low (c ∷ []) up = refl
ascend_of low (c ∷ d ∷ cs) up = and_from _ _ (le-leb c d up.1.0) (ascend_of c (d ∷ cs) up.1)

record AreGrants (g : Grants) : Type 0 where
  table : IsTable g.table
  between : list_all (between 4 803) g.owners ≡ true
  ascend : ascend g.owners ≡ true

granted_is : (share : TableEntry → ℕ) (gap place : ℕ) (t : Table) → IsTable t → AreGrants (granted_by share gap place t.entries)
granted_is share gap place t is = record {
  table = mapped_is (grant share) t place (grant_keeps share) (λ e x. record { code = x.code; boot = x.boot; interval = x.interval }) is;
  between = owners_between share t.entries is.each;
  ascend = ascend_of 0 (owners_by share t.entries) (owners_rise share 0 t.entries (above_none t.entries is.each) is.entries.ascends);
}

grants_are : (owes : TableEntry → ℕ) (gap : ℕ) (t : Table) → IsTable t → AreGrants (grants_for owes gap t)
grants_are owes gap t is =
    cond_both (nat_le (sum_by owes t.entries) 40) (granted_by owes gap t.place t.entries)
    (granted_by (share_in (given owes t)) gap (last_code (given owes t) + 1) t.entries) AreGrants
    (λ fit. granted_is owes gap t.place t is) (λ more. granted_is (share_in (given owes t)) gap (last_code (given owes t) + 1) t is)

round_is : (seconds frame : ℕ) (t : Table) → IsTable t → AreGrants (plan_round seconds frame t)
unfolding plan_round
round_is seconds frame t is = let gap = gap_of seconds frame t.entries in grants_are (owed_to seconds (frame + gap)) gap t is

-- the whole plan
few_acks : (contend : ℕ) → most_acks contend ≤ 4
few_acks contend = cond_both (contend == 0) 1 4 (λ (n : ℕ). n ≤ 4) (λ one. omega arith) (λ four. omega arith)

pub host_plan_is : (p : Numbers) (node boot rank frame : ℕ) (kept : List Ask) (t : Table) (s : Streams) → IsProfile p → 1 ≤ node → node ≤ 200
    → IsBoot boot → rank ≤ 3
    → length kept ≤ slots_named p.contend → list_all ask_in_range kept ≡ true → IsTable t → AreStreams p s
    → IsHostPlan p rank boot (host_plan p node boot rank frame kept t s)
unfolding host_plan
host_plan_is p node boot rank frame kept t s profile low high booted few_ranks few ranges is are =
    let first = answers_to frame kept t in
    let own = served frame node boot first.table s in
    let answers = answers_are frame kept (record { table = t; acks = [] }) 0 ranges (record {
      table = is;
      acks = record { ascend = refl; ranges = refl };
      few = omega arith;
    }) in
    let serves = served_is p node boot frame low high booted first.table s answers.table are in
    let grants = round_is p.seconds frame own.table serves.table in
    let small = host_plan_few p node boot rank frame kept t s is.entries.ascends in
    let contend = contend_few p profile in
    let most : slots_named p.contend ≤ most_acks p.contend = acks_fit p.contend contend in
    let acks : length first.acks ≤ most_acks p.contend = omega (arith, answers.few, few, most) in
    record {
      plan = record {
        rank = few_ranks;
        boot = booted.1;
        contend = contend;
        few = acks;
        acks = answers.acks.ranges;
        ordered = and_from _ _ (le-leb (length first.acks) 4 (omega (arith, acks, few_acks p.contend))) answers.acks.ascend;
        owners = and_from _ _ (and_from _ _ (le-leb _ 40 small.0.0) grants.between) grants.ascend;
      };
      rank = refl;
      boot = refl;
      contend = refl;
      gap = gap_in_range p.seconds frame own.table;
      table = grants.table;
      streams = serves.streams;
    }
