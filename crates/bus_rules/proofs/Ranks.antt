-- By which rank a node goes, and what leaves it as it is.
use Rattle.std.proofs.Common.{◌≡◌, ◌==◌, ◌&&◌, ◌||◌, ℕ, List, Bool, true, false, Option, Some, None, refl, sym, ap, eqb-true, eq-eqb, true≢false}
use Rattle.std.proofs.lemmas.Bool.{and_parts}
use Rattle.lwb_base.specs.Messages.{Ask, Schedule}
use Rattle.lwb_base.specs.Profile.{Numbers}
use Rattle.bus_rules.specs.declared.part.Part.{Part}
use Rattle.bus_rules.specs.declared.part.Part.TheVariants.{Opening, Data as DataSlot, Contention, Closing}
use Rattle.bus_rules.specs.Cores.{Core, is_fresh, is_member}
use Rattle.bus_rules.specs.HostPlans.{host_plan}
use Rattle.bus_rules.specs.Slots.{ScheduleOf, hosts_now, slot_heard}
use Rattle.bus_rules.specs.Streams.{Streams}
use Rattle.bus_rules.specs.Tables.{Table}
use Rattle.bus_rules.specs.declared.tune.Tune.{Tune}
use Rattle.bus_rules.specs.declared.tune.Tune.TheVariants.{Scan, Hold, Host}
use Rattle.bus_rules.specs.Tuning.{is_rank, rank_of, hosts, hosts_in, holds_in, scans}

pub rank_is : (own : Option ℕ) (r : ℕ) → is_rank own r ≡ true → own ≡ Some r
rank_is None r is = absurd (true≢false (sym is))
rank_is (Some o) r is = ap (λ (k : ℕ). Some k) (eqb-true o r is)

pub heard_rank : (f : ℕ) (part : Part) (heard : Bool) (c : Core) → rank_of (slot_heard f part heard c).tune ≡ rank_of c.tune
heard_rank f Opening heard c = refl
heard_rank f (DataSlot owner) heard c = refl
heard_rank f (Contention i) heard c = refl
heard_rank f Closing heard c = refl

pub planned_rank : (n : Numbers) (node boot rank f : ℕ) (kept : List Ask) (t : Table) (x : Streams) → (host_plan n node boot rank f kept t x).plan.rank ≡ rank
unfolding host_plan
planned_rank n node boot rank f kept t x = refl

pub plan_contends : (n : Numbers) (node boot rank f : ℕ) (kept : List Ask) (t : Table) (x : Streams)
    → (host_plan n node boot rank f kept t x).plan.contend ≡ n.contend
unfolding host_plan
plan_contends n node boot rank f kept t x = refl

pub same_schedule : (x y : Schedule) → Some (ScheduleOf x) ≡ Some (ScheduleOf y) → x ≡ y
same_schedule x y is = cc

-- who hosts, is by or scans does so by its own rank
pub hosts_rank : (rank f : ℕ) (t : Tune) → hosts_in rank f t ≡ true → (rank_of t == rank) ≡ true
hosts_rank rank f (Host r due) is = (and_parts (r == rank) (due == f) is).0
hosts_rank rank f (Hold r due) is = absurd (true≢false (sym is))
hosts_rank rank f (Scan r waited) is = absurd (true≢false (sym is))

pub holds_rank : (rank f : ℕ) (t : Tune) → holds_in rank f t ≡ true → (rank_of t == rank) ≡ true
holds_rank rank f (Hold r due) is = (and_parts (r == rank) (due == f) is).0
holds_rank rank f (Host r due) is = absurd (true≢false (sym is))
holds_rank rank f (Scan r waited) is = absurd (true≢false (sym is))

-- who hosts now hosts
pub hosts_by_rank : (t : Tune) (f : ℕ) → hosts_in (rank_of t) f t ≡ true → hosts t ≡ true
hosts_by_rank (Scan r waited) f now = absurd (true≢false (sym now))
hosts_by_rank (Hold r due) f now = absurd (true≢false (sym now))
hosts_by_rank (Host r due) f now = refl

pub host_now : (f : ℕ) (c : Core) → hosts_now f c ≡ true → hosts c.tune ≡ true
host_now f c now = hosts_by_rank c.tune f now

-- and the round of which it is a member
pub member_hosts : (rank f : ℕ) (c : Core) → is_member rank f c ≡ true → hosts_now f c ≡ true → hosts_in rank f c.tune ≡ true
member_hosts rank f c member now = by_tune c.tune member now
  where
    or_none : (a : Bool) → (a || false) ≡ true → a ≡ true
    or_none true is = refl
    or_none false is = is

    by_tune : (t : Tune) → (hosts_in rank f t || holds_in rank f t || (scans rank t && is_fresh c)) ≡ true → hosts_in (rank_of t) f t ≡ true
        → hosts_in rank f t ≡ true
    by_tune (Host r due) member now = or_none (hosts_in rank f (Host r due)) (or_none (hosts_in rank f (Host r due) || false) member)
    by_tune (Hold r due) member now = absurd (true≢false (sym now))
    by_tune (Scan r waited) member now = absurd (true≢false (sym now))

pub not_scanner : (rank : ℕ) (t : Tune) → (rank_of t == rank) ≡ false → scans rank t ≡ false
not_scanner rank (Scan r waited) other = other
not_scanner rank (Hold r due) other = refl
not_scanner rank (Host r due) other = refl

pub hosts_own : (rank f : ℕ) (t : Tune) → hosts_in rank f t ≡ true → hosts_in (rank_of t) f t ≡ true
hosts_own rank f (Scan r waited) is = absurd (true≢false (sym is))
hosts_own rank f (Hold r due) is = absurd (true≢false (sym is))
hosts_own rank f (Host r due) is = rw (eq-eqb r r refl) (and_parts (r == rank) (due == f) is).1
