-- What a node keeps stays in its ranges through boots, ends of frames, openings and closings of windows.
use Rattle.std.proofs.Common.{◌≡◌, ℕ, ◌+◌, ◌%◌, ◌<◌, ◌≤◌, List, [], ◌∷◌, ◌++◌, Bool, true, false, ◌&&◌, ◌==◌, nat_lt, if◌then◌else◌, Some, None, Option}
use Rattle.std.proofs.Common.{IfSome, refl, sym, ◌∙◌, ap, subst, arith, mod-lt}
use Rattle.std.specs.List.{list_all}
use Rattle.std.proofs.lemmas.Bool.{cond_both, and_parts, and_from, eqb-false}
use Rattle.std.proofs.lemmas.List.{length_push}
use Rattle.std.proofs.lemmas.List.Folds.{list_all-append}
use Rattle.lwb_base.specs.Messages.{Ask, Schedule, node_of, stream_of}
use Rattle.schedule_codec.specs.AckLists.{ask_in_range}
use Rattle.bus_rules.specs.declared.part.Part.{Part}
use Rattle.bus_rules.specs.declared.part.Part.TheVariants.{Opening, Data as DataSlot, Contention, Closing}
use Rattle.bus_rules.specs.declared.tune.Tune.{Tune}
use Rattle.bus_rules.specs.declared.tune.Tune.TheVariants.{Scan, Hold, Host}
use Rattle.bus_rules.specs.Streams.{Streams, after_taking, after_contention}
use Rattle.bus_rules.specs.Tables.{Table}
use Rattle.bus_rules.specs.Tuning.{rank_of, hosts, is_scan, is_rank, HasWaited, next_tune}
use Rattle.bus_rules.specs.HostPlans.{host_plan}
use Rattle.bus_rules.specs.Cores.{Core, Setup, booted, is_fresh, begins_host, new_host, as_host, frame_ended, opening_accepted, closing_accepted}
use Rattle.bus_rules.specs.Cores.{schedule_accepted}
use Rattle.bus_rules.specs.Slots.{Opened, Message, ScheduleOf, DataOf, RequestOf, hosts_now, opened_slot, host_closes, silent, is_own, owner_heard, slot_heard}
use Rattle.bus_rules.specs.Slots.{closed_slot}
use Rattle.bus_rules.proofs.Ranks.{rank_is, host_now}
use Rattle.lwb_member.specs.Members.{IsBoot, MayAccept}
use Rattle.lwb_member.proofs.HostPlanned.{contend_few}
use Rattle.law_trails.specs.StreamRanges.{AreStreams}
use Rattle.law_trails.specs.TableRanges.{IsTable}
use Rattle.law_trails.specs.PlanRanges.{IsWholePlan, IsHostPlan}
use Rattle.law_trails.specs.CoreRanges.{IsSetup, IsPlanOf, IsHosting, IsCore}
use Rattle.law_trails.proofs.StreamsInRange.{cleared_are, taken_are, contention_are, unbound_are, heard_are}
use Rattle.law_trails.proofs.TablesInRange.{no_table_is, owner_is}
use Rattle.law_trails.proofs.PlansInRange.{host_plan_is}

-- a plan without owners
empty_is : (rank boot contend : ℕ) → rank ≤ 3 → boot ≤ 200 → contend ≤ 4
    → IsWholePlan (record { rank = rank; boot = boot; contend = contend; acks = []; owners = [] })
empty_is rank boot contend ranked booted few = record {
  rank = ranked;
  boot = booted;
  contend = few;
  few = omega arith;
  acks = refl;
  ordered = refl;
  owners = refl;
}

-- a host is no scanning node
pub no_scan : (t : Tune) → hosts t ≡ true → is_scan t ≡ false
no_scan (Scan r w) host = absurd (cc)
no_scan (Hold r due) host = refl
no_scan (Host r due) host = refl

-- what a node may take from the message that it accepted
abbrev pub MayTake : Core → Message → Type 0
MayTake c (ScheduleOf x) = (hosts c.tune ≡ false) × IsWholePlan x.plan × (1 ≤ x.plan.boot) × (x.plan.rank ≡ rank_of c.tune)
MayTake c (DataOf d) = Unit {0}
MayTake c (RequestOf a) = ask_in_range a ≡ true

-- the own rank
module _ (s : Setup) (set : IsSetup s) where
  contend_is : s.profile.contend ≤ 4
  contend_is = contend_few s.profile set.profile

  few_ranks : (r : ℕ) → r < s.ranks → r ≤ 3
  few_ranks r less = omega (arith, less, set.ranks)

  -- a boot
  pub booted_is : (boot : ℕ) → IsBoot boot → IsCore s (booted boot)
  booted_is boot is = record {
    boot = is;
    rank = omega (arith, set.ranks);
    waited = omega arith;
    plan = empty_is 0 0 0 (omega arith) (omega arith) (omega arith);
    known = λ other. absurd (cc);
    taken = λ fresh. absurd (cc);
    hosted = λ host. absurd (cc);
    streams = cleared_are s.profile;
    table = no_table_is;
    few = omega arith;
    kept = refl;
  }

  -- parts that change alone
  pub with_streams : (c : Core) (x : Streams) → IsCore s c → AreStreams s.profile x → IsCore s (record c { streams = x })
  with_streams c x is are =
      record {
        boot = is.boot;
        rank = is.rank;
        waited = is.waited;
        plan = is.plan;
        known = is.known;
        taken = is.taken;
        hosted = is.hosted;
        streams = are;
        table = is.table;
        few = is.few;
        kept = is.kept;
      }

  with_table : (c : Core) (t : Table) → IsCore s c → IsTable t → IsCore s (record c { table = t })
  with_table c t is now =
      record {
        boot = is.boot;
        rank = is.rank;
        waited = is.waited;
        plan = is.plan;
        known = is.known;
        taken = is.taken;
        hosted = is.hosted;
        streams = is.streams;
        table = now;
        few = is.few;
        kept = is.kept;
      }

  -- the end of a frame
  with_tune : (c : Core) (t : Tune) → IsCore s c → rank_of t < s.ranks → HasWaited t → (is_scan t ≡ false → IsPlanOf t c.plan)
      → (hosts t ≡ true → IsHosting s c.boot t c.plan) → IsCore s (record c { tune = t; own_slot = None })
  with_tune c t is rank waited known hosted =
      record {
        boot = is.boot;
        rank = rank;
        waited = waited;
        plan = is.plan;
        known = known;
        taken = λ fresh. absurd (cc);
        hosted = hosted;
        streams = is.streams;
        table = is.table;
        few = is.few;
        kept = is.kept;
      }

  scanning : (c : Core) (r w : ℕ) → IsCore s c → r < s.ranks → w < 12 → IsCore s (record c { tune = Scan r w; own_slot = None })
  scanning c r w is rank waited = with_tune c (Scan r w) is rank waited (λ other. absurd (cc)) (λ host. absurd (cc))

  hosting : (c : Core) (r due : ℕ) → IsCore s c → r < s.ranks → s.own ≡ Some r → IsCore s (new_host s.profile r (record c {
    tune = Host r due;
    own_slot = None;
  }))
  hosting c r due is rank own = record {
    boot = is.boot;
    rank = rank;
    waited = tt;
    plan = empty_is r c.boot s.profile.contend (few_ranks r rank) is.boot.1 contend_is;
    known = λ other. record { boot = is.boot.0; rank = refl };
    taken = λ fresh. absurd (cc);
    hosted = λ host. record { own = own; boot_is = refl; contend = refl };
    streams = unbound_are s.profile c.streams is.streams;
    table = no_table_is;
    few = is.few;
    kept = is.kept;
  }

  abbrev After : Core → Tune → Tune → Type 0
  After c old t = IsCore s (as_host s.profile (begins_host old t) (record c { tune = t; own_slot = None }))

  frame_by : (f : ℕ) (c : Core) (old : Tune) → c.tune ≡ old → IsCore s c → After c old (next_tune old f (is_fresh c) s.own s.ranks)
  frame_by f c (Host r due) at is =
      with_tune c (Host r due) is (subst (λ (t : Tune). rank_of t < s.ranks) at is.rank) tt
      (λ other. subst (λ (t : Tune). IsPlanOf t c.plan) at (is.known (ap is_scan at)))
      (λ host. subst (λ (t : Tune). IsHosting s c.boot t c.plan) at (is.hosted (ap hosts at)))
  frame_by f c (Hold r due) at is =
      let rank : r < s.ranks = subst (λ (t : Tune). rank_of t < s.ranks) at is.rank in
      cond_both (nat_lt f due) (Hold r due) (Scan r 0) (λ (t : Tune). IsCore s (record c { tune = t; own_slot = None }))
      (λ waits. with_tune c (Hold r due) is rank tt (λ other. subst (λ (t : Tune). IsPlanOf t c.plan) at (is.known (ap is_scan at))) (λ host. absurd (cc)))
      (λ missed. scanning c r 0 is rank (omega arith))
  frame_by f c (Scan r w) at is =
      let rank : r < s.ranks = subst (λ (t : Tune). rank_of t < s.ranks) at is.rank in
      let waited : w < 12 = subst HasWaited at is.waited in
      let rest : Tune = if w + 1 == 12 then Scan ((r + 1) % s.ranks) 0 else Scan r (w + 1) in
      let own : Tune = if is_rank s.own r && (w + 1 == 5) then Host r (f + 1) else rest in
      cond_both (is_fresh c) (Scan r 0) own (After c (Scan r w))
      (λ joined. scanning c r 0 is rank (omega arith))
      (λ alone. cond_both (is_rank s.own r && (w + 1 == 5)) (Host r (f + 1)) rest (After c (Scan r w))
      (λ begins. hosting c r (f + 1) is rank (rank_is s.own r (and_parts (is_rank s.own r) (w + 1 == 5) begins).0))
      (λ other. cond_both (w + 1 == 12) (Scan ((r + 1) % s.ranks) 0) (Scan r (w + 1)) (After c (Scan r w))
      (λ next. scanning c ((r + 1) % s.ranks) 0 is (mod-lt (r + 1) (omega (arith, set.ranks))) (omega arith))
      (λ stays. let less = eqb-false (w + 1) 12 stays in scanning c r (w + 1) is rank (omega arith))))

  pub frame_is : (f : ℕ) (c : Core) → IsCore s c → IsCore s (frame_ended s f c)
  frame_is f c is = frame_by f c c.tune refl is

  -- a window opens
  pub host_plan_of : (f : ℕ) (c : Core) → IsCore s c
      → IsHostPlan s.profile (rank_of c.tune) c.boot (host_plan s.profile s.id c.boot (rank_of c.tune) f c.kept c.table c.streams)
  host_plan_of f c is = host_plan_is s.profile s.id c.boot (rank_of c.tune) f c.kept c.table c.streams set.profile set.id.0 set.id.1 is.boot
      (few_ranks (rank_of c.tune) is.rank) is.few is.kept is.table is.streams

  planned_is : (f : ℕ) (c : Core) → IsCore s c → hosts c.tune ≡ true → IsCore s (host_closes s f c).core
  planned_is f c is host =
      let h = host_plan_of f c is in
      record {
        boot = is.boot;
        rank = is.rank;
        waited = tt;
        plan = h.plan;
        known = λ other. record { boot = omega (arith, h.boot, is.boot.0); rank = h.rank };
        taken = λ fresh. record { boot = omega (arith, h.boot, is.boot.0); rank = h.rank };
        hosted = λ still. record { own = (is.hosted host).own; boot_is = h.boot; contend = h.contend };
        streams = h.streams;
        table = h.table;
        few = omega arith;
        kept = refl;
      }

  pub opened_is : (f : ℕ) (part : Part) (c : Core) → IsCore s c → IsCore s (opened_slot s f part c).core
  opened_is f Opening c is = is
  opened_is f (DataSlot owner) c is =
      let i = stream_of owner in
      with_streams c (if node_of owner == s.id then after_taking i c.streams else c.streams) is
      (cond_both (node_of owner == s.id) (after_taking i c.streams) c.streams (AreStreams s.profile) (λ own. taken_are s.profile c.streams i is.streams)
      (λ other. is.streams))
  opened_is f (Contention i) c is =
      with_streams c (if is_own c.own_slot i then after_contention s.id c.streams else c.streams) is
      (cond_both (is_own c.own_slot i) (after_contention s.id c.streams) c.streams (AreStreams s.profile)
      (λ own. contention_are s.profile c.streams s.id is.streams) (λ other. is.streams))
  opened_is f Closing c is = cond_both (hosts_now f c) (host_closes s f c) (silent c) (λ (o : Opened). IsCore s o.core)
      (λ now. planned_is f c is (host_now f c now)) (λ not. is)

  -- and closes
  slot_is : (f : ℕ) (part : Part) (heard : Bool) (c : Core) → IsCore s c → IsCore s (slot_heard f part heard c)
  slot_is f Opening heard c is = is
  slot_is f (Contention i) heard c is = is
  slot_is f Closing heard c is = is
  slot_is f (DataSlot owner) heard c is =
      with_table c (if hosts_now f c then owner_heard heard owner c.table else c.table) is
      (cond_both (hosts_now f c) (owner_heard heard owner c.table) c.table IsTable (λ now. owner_is owner heard c.table is.table) (λ not. is.table))

  accepted_is : (f : ℕ) (x : Schedule) (c : Core) → MayTake c (ScheduleOf x) → IsCore s c → IsCore s (schedule_accepted s.id f x c)
  accepted_is f x c (free, whole, booted, ranked) is =
      let streams = heard_are s.profile s.id c.boot f x c.streams whole.acks is.streams in
      cond_both (x.gap == 0) (opening_accepted s.id f x c) (closing_accepted s.id f x c) (IsCore s)
      (λ opens. record {
        boot = is.boot;
        rank = is.rank;
        waited = is.waited;
        plan = whole;
        known = λ other. record { boot = booted; rank = ranked };
        taken = λ fresh. record { boot = booted; rank = ranked };
        hosted = λ host. (let none : true ≡ false = sym host ∙ free in absurd (cc));
        streams = streams;
        table = is.table;
        few = is.few;
        kept = is.kept;
      })
      (λ closes. record {
        boot = is.boot;
        rank = omega (arith, ranked, is.rank);
        waited = tt;
        plan = whole;
        known = λ other. record { boot = booted; rank = refl };
        taken = λ fresh. record { boot = booted; rank = refl };
        hosted = λ host. absurd (cc);
        streams = streams;
        table = is.table;
        few = is.few;
        kept = is.kept;
      })

  kept_is : (f : ℕ) (c : Core) (a : Ask) → ask_in_range a ≡ true → MayAccept s f c (Some (RequestOf a)) → IsCore s c
      → IsCore s (record c { kept = if hosts_now f c then c.kept ++ a ∷ [] else c.kept })
  kept_is f c a range room is =
      cond_both (hosts_now f c) (c.kept ++ a ∷ []) c.kept (λ (l : List Ask). IsCore s (record c { kept = l }))
      (λ now.
      let less = room now in
      let long = length_push c.kept a in
      record {
        boot = is.boot;
        rank = is.rank;
        waited = is.waited;
        plan = is.plan;
        known = is.known;
        taken = is.taken;
        hosted = is.hosted;
        streams = is.streams;
        table = is.table;
        few = omega (arith, less, long);
        kept = list_all-append ask_in_range c.kept (a ∷ [])
            ∙ and_from (list_all ask_in_range c.kept) (list_all ask_in_range (a ∷ [])) is.kept (and_from _ _ range refl);
      })
      (λ other. is)

  pub closed_is : (f : ℕ) (part : Part) (initiated : Bool) (c : Core) (m : Option Message) → IfSome m (MayTake c) → MayAccept s f c m → IsCore s c
      → IsCore s (closed_slot s f part initiated c m).core
  closed_is f part initiated c None may room is = slot_is f part initiated c is
  closed_is f part initiated c (Some (ScheduleOf x)) may room is = accepted_is f x c may is
  closed_is f part initiated c (Some (DataOf d)) may room is = slot_is f part true c is
  closed_is f part initiated c (Some (RequestOf a)) may room is = kept_is f c a may room is
