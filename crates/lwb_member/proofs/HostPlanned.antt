-- The parts of a host's plan, one after another.
use Rattle.std.proofs.Common.{◌≡◌, ℕ, zero, suc, ◌+◌, ◌≤◌, ◌==◌, List, length, Bool, true, false, nat_le}
use Rattle.std.proofs.Common.{if◌then◌else◌, map, refl, sym, ◌∙◌, ap, subst, ⊎_elim, arith}
use Rattle.std.specs.List.{All, sum_by}
use Rattle.std.proofs.lemmas.Bool.{cond_both, le-leb, ne_eqb}
use Rattle.std.proofs.lemmas.List.Elements.{All-map}
use Rattle.lwb_base.specs.Profile.{Numbers, IsProfile}
use Rattle.lwb_base.specs.Messages.{Ask, Plan}
use Rattle.bus_rules.specs.Streams.{Streams}
use Rattle.bus_rules.specs.Tables.{TableEntry, Table}
use Rattle.bus_rules.specs.Granting.{gap_of, total, owed_to, grant, grants_for, granted_by, share_in, given, last_code, plan_round, Grants}
use Rattle.bus_rules.specs.HostPlans.{HostPlan, Served, answers_to, served, host_plan}
use Rattle.lwb_packets.specs.Ranges.{between}
use Rattle.schedule_codec.specs.Spelling.{slot_fits, most_acks}
use Rattle.bus_rules.specs.declared.tune.Tune.{Tune}
use Rattle.bus_rules.specs.declared.tune.Tune.TheVariants.{Scan, Hold, Host}
use Rattle.bus_rules.specs.Tuning.{hosts, rank_of, with_due}
use Rattle.bus_rules.specs.Plans.{last_slot}
use Rattle.bus_rules.specs.Cores.{Core, Setup}
use Rattle.bus_rules.specs.Slots.{planned, host_closes}
use Rattle.bus_rules.proofs.Grants.{gap_stays}
use Rattle.lwb_member.specs.Planning.{IsEarly}
use Rattle.lwb_member.proofs.Answering.{Early}

-- the fields of a plan, by the results of its parts
module _ (p : Numbers) (node boot rank frame : ℕ) (kept : List Ask) (t first own after : Table) (s streams : Streams) (acks : List Ask) (host contend gap : ℕ)
    (owners : List ℕ)
    (ranked : host ≡ rank) (named : contend ≡ p.contend)
    (answers : first ≡ (answers_to frame kept t).table) (acked : acks ≡ (answers_to frame kept t).acks)
    (served_table : own ≡ (served frame node boot first s).table) (served_streams : streams ≡ (served frame node boot first s).streams)
    (gapped : gap ≡ (plan_round p.seconds frame own).gap) (owned : owners ≡ (plan_round p.seconds frame own).owners)
    (granted : after ≡ (plan_round p.seconds frame own).table) where
  abbrev pub made : HostPlan
  made = record { gap = gap; plan = record { rank = host; boot = boot; contend = contend; acks = acks; owners = owners }; table = after; streams = streams }

  abbrev all_acks : List Ask
  all_acks = (answers_to frame kept t).acks

  abbrev all_served : Served
  all_served = served frame node boot (answers_to frame kept t).table s

  abbrev all_grants : Grants
  all_grants = plan_round p.seconds frame all_served.table

  own_is : own ≡ all_served.table
  own_is = served_table ∙ ap (λ (x : Table). (served frame node boot x s).table) answers

  streams_is : streams ≡ all_served.streams
  streams_is = served_streams ∙ ap (λ (x : Table). (served frame node boot x s).streams) answers

  gap_is : gap ≡ all_grants.gap
  gap_is = gapped ∙ ap (λ (x : Table). (plan_round p.seconds frame x).gap) own_is

  owners_are : owners ≡ all_grants.owners
  owners_are = owned ∙ ap (λ (x : Table). (plan_round p.seconds frame x).owners) own_is

  after_is : after ≡ all_grants.table
  after_is = granted ∙ ap (λ (x : Table). (plan_round p.seconds frame x).table) own_is

  abbrev plan_of : ℕ → List Ask → List ℕ → Table → Streams → HostPlan
  plan_of g l os x y = record { gap = g; plan = record { rank = rank; boot = boot; contend = p.contend; acks = l; owners = os }; table = x; streams = y }

  abbrev begun : ℕ → ℕ → HostPlan
  begun r n = record { gap = gap; plan = record { rank = r; boot = boot; contend = n; acks = acks; owners = owners }; table = after; streams = streams }

  pub is_plan : made ≡ host_plan p node boot rank frame kept t s
  unfolding host_plan
  is_plan =
      ap (λ (r : ℕ). begun r contend) ranked ∙ ap (begun rank) named ∙ ap (λ (g : ℕ). plan_of g acks owners after streams) gap_is
      ∙ ap (λ (l : List Ask). plan_of all_grants.gap l owners after streams) acked
      ∙ ap (λ (os : List ℕ). plan_of all_grants.gap all_acks os after streams) owners_are
      ∙ ap (λ (x : Table). plan_of all_grants.gap all_acks all_grants.owners x streams) after_is
      ∙ ap (λ (y : Streams). plan_of all_grants.gap all_acks all_grants.owners all_grants.table y) streams_is

-- the gap of a plan
one_of : (four three two : Bool)
    → (1 ≤ (if four then 4 else if three then 3 else if two then 2 else 1)) × ((if four then 4 else if three then 3 else if two then 2 else 1) ≤ 4)
one_of true three two = (omega arith, omega arith)
one_of false true two = (omega arith, omega arith)
one_of false false true = (omega arith, omega arith)
one_of false false false = (omega arith, omega arith)

abbrev fits_in : ℕ → ℕ → List TableEntry → Bool
fits_in seconds frame es = nat_le (total seconds frame es) 40

gap_bounds : (seconds frame : ℕ) (es : List TableEntry) → (1 ≤ gap_of seconds frame es) × (gap_of seconds frame es ≤ 4)
gap_bounds seconds frame es = one_of (fits_in seconds (frame + 4) es) (fits_in seconds (frame + 3) es) (fits_in seconds (frame + 2) es)

pub gap_in_range : (seconds frame : ℕ) (t : Table) → (1 ≤ (plan_round seconds frame t).gap) × ((plan_round seconds frame t).gap ≤ 4)
unfolding plan_round
gap_in_range seconds frame t =
    let gap = gap_of seconds frame t.entries in
    subst (λ (g : ℕ). (1 ≤ g) × (g ≤ 4)) (sym (gap_stays (owed_to seconds (frame + gap)) gap t)) (gap_bounds seconds frame t.entries)

shares_early : (frame : ℕ) (share : TableEntry → ℕ) (es : List TableEntry) → All (Early frame) es → All (Early frame) (map (grant share) es)
shares_early frame share es all = All-map (Early frame) (grant share) es all

grants_early : (frame : ℕ) (owes : TableEntry → ℕ) (gap : ℕ) (t : Table) → IsEarly frame t → IsEarly frame (grants_for owes gap t).table
grants_early frame owes gap t all =
    cond_both (nat_le (sum_by owes t.entries) 40) (granted_by owes gap t.place t.entries)
    (granted_by (share_in (given owes t)) gap (last_code (given owes t) + 1) t.entries) (λ (g : Grants). IsEarly frame g.table)
    (λ fit. shares_early frame owes t.entries all) (λ turns. shares_early frame (share_in (given owes t)) t.entries all)

pub plan_early : (seconds frame : ℕ) (t : Table) → IsEarly frame t → IsEarly frame (plan_round seconds frame t).table
unfolding plan_round
plan_early seconds frame t all =
    let gap = gap_of seconds frame t.entries in
    grants_early frame (owed_to seconds (frame + gap)) gap t all

-- the tune of a host that planned
pub host_due : (t : Tune) (due : ℕ) → hosts t ≡ true → with_due due t ≡ Host (rank_of t) due
host_due (Host r d) due host = refl
host_due (Hold r d) due host = cc
host_due (Scan r w) due host = cc

-- by the plan of the host
pub closes : (s : Setup) (f : ℕ) (c : Core) (h : HostPlan) → h ≡ host_plan s.profile s.id c.boot (rank_of c.tune) f c.kept c.table c.streams
    → planned (rank_of c.tune) f c h ≡ host_closes s f c
closes s f c h is = ap (planned (rank_of c.tune) f c) is

-- a closing schedule is in the last slot of a round
of_named : (owners contend slot : ℕ) (b : Bool) → owners ≤ 40 → contend ≤ 4 → slot ≡ owners + (if b then 1 else contend) + 1 → (1 ≤ (if b then 1 else contend))
    → between 2 (if b then 42 else 45) slot ≡ true
of_named owners contend slot true few named is some = rw (le-leb 2 slot (omega arith), le-leb slot 42 (omega arith)) refl
of_named owners contend slot false few named is some = rw (le-leb 2 slot (omega arith), le-leb slot 45 (omega arith)) refl

some_named : (contend : ℕ) → 1 ≤ (if contend == 0 then 1 else contend)
some_named zero = omega arith
some_named (suc n) = rw (ne_eqb (suc n) 0 (omega arith)) (omega arith)

pub closing_fits : (gap contend slot : ℕ) (p : Plan) → 1 ≤ gap → contend ≤ 4 → p.contend ≡ contend → length p.owners ≤ 40 → slot ≡ last_slot p
    → slot_fits gap contend slot ≡ true
closing_fits zero contend slot p some named same few is = absurd (omega arith)
closing_fits (suc g) contend slot p some named same few is =
    rw (ne_eqb (suc g) 0 (omega arith)) (of_named (length p.owners) contend slot (contend == 0) few named
    (is ∙ ap (λ (n : ℕ). length p.owners + (if n == 0 then 1 else n) + 1) same) (some_named contend))

-- a host keeps no more requests than it acknowledges
pub acks_fit : (contend : ℕ) → contend ≤ 4 → (if contend == 0 then 1 else contend) ≤ most_acks contend
acks_fit zero named = omega arith
acks_fit (suc n) named = rw (ne_eqb (suc n) 0 (omega arith)) named

pub contend_few : (p : Numbers) → IsProfile p → p.contend ≤ 4
contend_few p is_made = ⊎_elim (λ is. omega (arith, ap (λ (q : Numbers). q.contend) is)) (λ is. is.1) is_made
