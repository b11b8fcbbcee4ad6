-- Plans have few slots and the codes of a table ascend, whatever a node receives.
use Rattle.std.proofs.Common.{◌≡◌, ℕ, ◌+◌, ◌≤◌, List, [], ◌∷◌, Bool, true, false, ◌==◌, nat_le, cond, if◌then◌else◌, length, length-append}
use Rattle.std.proofs.Common.{fold, sum_by, option_map, replicate, Option, Some, None, refl, sym, ◌∙◌, ap, subst, arith, eqb-true}
use Rattle.std.proofs.lemmas.Bool.{cond_both, and_parts, leb-true}
use Rattle.std.proofs.lemmas.List.{length-replicate, length-take}
use Rattle.std.proofs.lemmas.List.Sums.{sum_by-cons}
use Rattle.lwb_base.specs.Profile.{Numbers}
use Rattle.lwb_base.specs.Messages.{Ask, Plan, Schedule, code, code_of}
use Rattle.lwb_packets.specs.DataPackets.{is_data}
use Rattle.lwb_packets.specs.Requests.{is_request}
use Rattle.schedule_codec.specs.Spelling.{spells, slot_fits}
use Rattle.schedule_codec.specs.Reading.{said, schedule_of}
use Rattle.bus_rules.specs.Plans.{last_slot}
use Rattle.bus_rules.specs.Tables.{interval_of, TableEntry, Table, EntriesAreAbove, EntriesAscend, after_request, is_full, without, with_entry, new_entry}
use Rattle.bus_rules.specs.Tables.{entry_after_data, missed}
use Rattle.bus_rules.specs.Granting.{last_code, share_in, owners_by, grant, granted_by, grants_for, plan_round, owed_to, given, gap_of, in_turn, turns, Grants}
use Rattle.bus_rules.specs.HostPlans.{Answered, Served, answer, answers_to, serve, served, put_if, host_plan}
use Rattle.bus_rules.specs.Streams.{Streams, due_of, with_agreed}
use Rattle.bus_rules.specs.Slots.{owner_heard, ScheduleOf, DataOf, RequestOf}
use Rattle.lwb_packets.specs.Ranges.{between}
use Rattle.glossy_relay.specs.Relaying.{slot_of}
use Rattle.stream_table.proofs.Order.{ascends_map, ascends_filter_map, ascends_filter, ascends_with}
use Rattle.stream_table.proofs.Changes.{seen_keeps, missed_sifts, grant_keeps}
use Rattle.lwb_member.specs.Said.{data_in, request_in, message_of}

-- a code that is in one entry at most
none_at : (x : ℕ) (es : List TableEntry) → EntriesAreAbove x es → sum_by (λ (e : TableEntry). cond (x == e.code) 1 0) es ≡ 0
none_at x [] above = refl
none_at x (e ∷ es) above = omega (arith, sum_by-cons (λ (e : TableEntry). cond (x == e.code) 1 0) e es, none_at x es above.1, here (x == e.code) refl)
  where
    here : (b : Bool) → (x == e.code) ≡ b → ◌≡◌ {A = ℕ} (cond b 1 0) 0
    here true is = absurd (omega (arith, above.0, eqb-true x e.code is))
    here false is = refl

one_at : (x : ℕ) (es : List TableEntry) → EntriesAscend es → sum_by (λ (e : TableEntry). cond (x == e.code) 1 0) es ≤ 1
one_at x [] up = omega arith
one_at x (e ∷ es) up = omega (arith, sum_by-cons (λ (e : TableEntry). cond (x == e.code) 1 0) e es, by_test (one_at x es up.1) (x == e.code) refl)
  where
    by_test : sum_by (λ (e : TableEntry). cond (x == e.code) 1 0) es ≤ 1 → (b : Bool) → (x == e.code) ≡ b
        → cond b 1 0 + sum_by (λ (e : TableEntry). cond (x == e.code) 1 0) es ≤ 1
    by_test rest true is = omega (arith, none_at x es (subst (λ (c : ℕ). EntriesAreAbove c es) (sym (eqb-true x e.code is)) up.0))
    by_test rest false is = omega (arith, rest)

one_more : (x : ℕ) (cs : List ℕ) (es : List TableEntry) → sum_by (share_in (x ∷ cs)) es
    ≡ sum_by (λ (e : TableEntry). cond (x == e.code) 1 0) es + sum_by (share_in cs) es
one_more x cs [] = refl
one_more x cs (e ∷ es) =
    omega (
      arith,
      sum_by-cons (share_in (x ∷ cs)) e es,
      sum_by-cons (λ (e : TableEntry). cond (x == e.code) 1 0) e es,
      sum_by-cons (share_in cs) e es,
      sum_by-cons (λ (y : ℕ). cond (y == e.code) 1 0) x cs,
      one_more x cs es,
    )

no_shares : (es : List TableEntry) → sum_by (share_in []) es ≡ 0
no_shares [] = refl
no_shares (e ∷ es) = omega (arith, sum_by-cons (share_in []) e es, no_shares es)

-- no more slots are shared out than were given
shares : (cs : List ℕ) (es : List TableEntry) → EntriesAscend es → sum_by (share_in cs) es ≤ length cs
shares [] es up = omega (arith, no_shares es)
shares (x ∷ cs) es up = omega (arith, one_more x cs es, one_at x es up, shares cs es up)

owned : (share : TableEntry → ℕ) (es : List TableEntry) → length (owners_by share es) ≡ sum_by share es
owned share [] = refl
owned share (e ∷ es) =
    omega (arith, length-append (replicate (share e) e.code) (owners_by share es), length-replicate (share e) e.code, sum_by-cons share e es, owned share es)

-- what a host grants
abbrev AreFew : List ℕ → Table → Type 0
AreFew owners t = (length owners ≤ 40) × EntriesAscend t.entries

few_by : (share : TableEntry → ℕ) (gap place : ℕ) (es : List TableEntry) → EntriesAscend es → sum_by share es ≤ 40
    → AreFew (granted_by share gap place es).owners (granted_by share gap place es).table
few_by share gap place es up fits = (omega (arith, owned share es, fits), ascends_map (grant share) es (grant_keeps share) up)

given_few : (owes : TableEntry → ℕ) (t : Table) → length (given owes t) ≤ 40
given_few owes t = omega (arith, length-take 40 (turns owes (in_turn t.place t.entries) 40))

few_for : (owes : TableEntry → ℕ) (gap : ℕ) (t : Table) → EntriesAscend t.entries → AreFew (grants_for owes gap t).owners (grants_for owes gap t).table
few_for owes gap t up =
    cond_both (nat_le (sum_by owes t.entries) 40) (granted_by owes gap t.place t.entries)
    (granted_by (share_in (given owes t)) gap (last_code (given owes t) + 1) t.entries) (λ (g : Grants). AreFew g.owners g.table)
    (λ fits. few_by owes gap t.place t.entries up (leb-true (sum_by owes t.entries) 40 fits))
    (λ more. few_by (share_in (given owes t)) gap (last_code (given owes t) + 1) t.entries up
    (omega (arith, shares (given owes t) t.entries up, given_few owes t)))

few : (seconds frame : ℕ) (t : Table) → EntriesAscend t.entries → AreFew (plan_round seconds frame t).owners (plan_round seconds frame t).table
unfolding plan_round
few seconds frame t up = let gap = gap_of seconds frame t.entries in few_for (owed_to seconds (frame + gap)) gap t up

-- requests put to a table
after_one : (frame : ℕ) (t : Table) (a : Ask) → EntriesAscend t.entries → EntriesAscend (after_request frame t a).entries
after_one frame t a up =
    cond_both (is_full a t) t.entries _ EntriesAscend (λ is. up)
    (λ is. cond_both (a.interval == 0) (without (code_of a) t.entries) (with_entry (new_entry a frame) t.entries) EntriesAscend
    (λ none. ascends_filter _ t.entries up) (λ some. ascends_with (new_entry a frame) t.entries up))

after_answers : (frame : ℕ) (kept : List Ask) (x : Answered) → EntriesAscend x.table.entries → EntriesAscend (fold (answer frame) x kept).table.entries
after_answers frame [] x up = up
after_answers frame (a ∷ kept) x up = after_answers frame kept (answer frame x a) (after_one frame x.table a up)

after_put : (frame node boot i : ℕ) (o : Option ℕ) (t : Table) → EntriesAscend t.entries → EntriesAscend (put_if frame node boot i o t).entries
after_put frame node boot i None t up = up
after_put frame node boot i (Some interval) t up = after_one frame t (record { node = node; boot = boot; stream = i; interval = interval }) up

after_serving : (frame node boot : ℕ) (is : List ℕ) (x : Served) → EntriesAscend x.table.entries
    → EntriesAscend (fold (serve frame node boot) x is).table.entries
after_serving frame node boot [] x up = up
after_serving frame node boot (i ∷ is) x up =
    let asks = due_of (with_agreed i (interval_of x.table (code node i)) x.streams) i in
    after_serving frame node boot is (serve frame node boot x i) (after_put frame node boot i asks x.table up)

-- the plan that a host makes
pub host_plan_few : (p : Numbers) (node boot rank frame : ℕ) (kept : List Ask) (t : Table) (s : Streams) → EntriesAscend t.entries
    → AreFew (host_plan p node boot rank frame kept t s).plan.owners (host_plan p node boot rank frame kept t s).table
    × ((host_plan p node boot rank frame kept t s).plan.contend ≡ p.contend)
unfolding host_plan
host_plan_few p node boot rank frame kept t s up =
    let first = answers_to frame kept t in
    let own = served frame node boot first.table s in (
      few p.seconds frame own.table (after_serving frame node boot (0 ∷ 1 ∷ 2 ∷ 3 ∷ []) (record { table = first.table; streams = s })
          (after_answers frame kept (record { table = t; acks = [] }) up)),
      refl,
    )

pub owner_keeps : (owner : ℕ) (heard : Bool) (t : Table) → EntriesAscend t.entries → EntriesAscend (owner_heard heard owner t).entries
owner_keeps owner true t up = ascends_map (entry_after_data owner) t.entries (seen_keeps owner) up
owner_keeps owner false t up = ascends_filter_map (missed owner) t.entries (missed_sifts owner) up

-- the last slot of a round of few owners
pub few_slots : (p : Plan) → length p.owners ≤ 40 → p.contend ≤ 4 → last_slot p ≤ 45
few_slots p owners contend =
    cond_both (p.contend == 0) 1 p.contend (λ (c : ℕ). length p.owners + c + 1 ≤ 45) (λ is. omega (arith, owners)) (λ is. omega (arith, owners, contend))

-- a schedule that was read
in_slot : (gap contend slot : ℕ) → slot_fits gap contend slot ≡ true → slot ≤ 45
in_slot gap contend slot fits = by_gap (gap == 0) fits
  where
    by_gap : (b : Bool) → (if b then slot == 0 else between 2 (if contend == 0 then 42 else 45) slot) ≡ true → slot ≤ 45
    by_gap true is = omega (arith, eqb-true slot 0 is)
    by_gap false is =
        cond_both (contend == 0) 42 45 (λ (most : ℕ). between 2 most slot ≡ true → slot ≤ 45)
        (λ e least. omega (arith, leb-true slot 42 (and_parts _ _ least).1)) (λ e least. leb-true slot 45 (and_parts _ _ least).1) is

abbrev IsRead : List ℕ → Schedule → Type 0
IsRead p x = (last_slot x.plan ≤ 45) × (slot_of p ≤ 45)

spelled_few : (p : List ℕ) (x : Schedule) → spells p x ≡ true → IsRead p x
spelled_few p x is =
    let owners = and_parts _ _ (and_parts _ _ is).0 in
    let acks = and_parts _ _ owners.0 in
    let ranges = and_parts _ _ acks.0 in
    let few = and_parts _ _ ranges.0 in
    let contend = and_parts _ _ few.0 in
    let boot = and_parts _ _ contend.0 in
    let rank = and_parts _ _ boot.0 in
    let gap = and_parts _ _ rank.0 in
    let slot = and_parts _ _ gap.0 in (
      few_slots x.plan (leb-true (length x.plan.owners) 40 (and_parts _ _ (and_parts _ _ owners.1).0).0) (leb-true x.plan.contend 4 contend.1),
      in_slot x.gap x.plan.contend (slot_of p) slot.1,
    )

said_few : (p : List ℕ) (x : Schedule) → schedule_of p ≡ Some x → IsRead p x
unfolding schedule_of
said_few p x is = by_test (spells p (said p)) refl is
  where
    by_test : (b : Bool) → spells p (said p) ≡ b → (if b then Some (said p) else None) ≡ Some x → IsRead p x
    by_test true fits is = let same : said p ≡ x = cc in subst (λ (y : Schedule). IsRead p y) same (spelled_few p (said p) fits)
    by_test false fits is = cc

pub read_few : (p : List ℕ) (x : Schedule) → message_of p ≡ Some (ScheduleOf x) → IsRead p x
read_few p x is = by_data (is_data p) (is_request p) is
  where
    by_option : (o : Option Schedule) → schedule_of p ≡ o → option_map ScheduleOf o ≡ Some (ScheduleOf x) → IsRead p x
    by_option None at is = cc
    by_option (Some y) at is = let same : y ≡ x = cc in said_few p x (at ∙ ap (λ (z : Schedule). Some z) same)

    by_data : (b c : Bool) → (if b then Some (DataOf (data_in p)) else if c then Some (RequestOf (request_in p)) else option_map ScheduleOf (schedule_of p))
        ≡ Some (ScheduleOf x) → IsRead p x
    by_data true c is = cc
    by_data false true is = cc
    by_data false false is = by_option (schedule_of p) refl is
