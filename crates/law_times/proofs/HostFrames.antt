-- From frame to frame a host's table is what its last closing slot left, until its next round comes.
use Rattle.std.proofs.Common.{◌≡◌, ◌<◌, ◌≤◌, ◌==◌, ℕ, suc, List, [], ◌∷◌, Bool, true, false, inl, inr, Option, Some, None, if◌then◌else◌, fold, nat_lt, refl}
use Rattle.std.proofs.Common.{sym, ◌∙◌, ap, subst, arith, ◌⊎◌, Contains}
use Rattle.law_times.proofs.Words.{cond-false, false≢true, not_in_none, Plan, ScenarioParts, IsSoundScenario, ScriptLine, Part, Opening, DataSlot, Contention}
use Rattle.law_times.proofs.Words.{Closing, Tune, Scan, Hold, Host, Core, Setup, as_host, begins_host, closing_accepted, frame_ended, is_fresh}
use Rattle.law_times.proofs.Words.{opening_accepted, own_rank, last_slot, DataOf, Message, RequestOf, ScheduleOf, closed_slot, host_closes, hosts_now}
use Rattle.law_times.proofs.Words.{opened_slot, owner_heard, silent, slot_heard, State, StateOff, StateOn, at_core, TableEntry, Table, hosts, hosts_in}
use Rattle.law_times.proofs.Words.{next_tune, rank_of, host_now, acts_keep, before_frame, state_at, IsHosted, before_slot, rank_in, rounds, setup_of, is_on_and}
use Rattle.law_times.proofs.Words.{lines_of, state_after_line, Hosting, has_planned, leads, IsRightfulState, rightful, rounds_keep, HasSlowStreams}
use Rattle.law_times.proofs.GrownTables.{Comes, IsGrown, IsOf, NewOr, asked_table, entries_at, plan_grows, tables_come}
use Rattle.law_times.proofs.HostedFrames.{is_hosted, rounds_are}
use Rattle.law_times.proofs.KeptMembers.{due_host, not_due}
use Rattle.law_times.proofs.PacedHosts.{Keeps, KeepsPace, asked_paced, paced_now}
use Rattle.law_times.proofs.PacedRuns.{at_slot}
use Rattle.law_times.proofs.PacedTables.{Paced}
use Rattle.law_times.proofs.QuietRounds.{NobodyHosts, hosts_round, nobody_else, quiet_rounds}
use Rattle.law_times.proofs.Settings.{Setting, setting}
use Rattle.law_times.proofs.TuneRanges.{HasStarted, Starts, started}

-- in a frame without a round of its own a node keeps its table, and who is no host becomes none in a round
abbrev pub KeepsTable : ℕ → State → State → Type 0
KeepsTable f y (StateOff boots) = Unit {0}
KeepsTable f y (StateOn c) =
    (is_on_and (λ d. hosts_now f d) y ≡ false → (hosts_now f c ≡ false) × (c.table.entries ≡ entries_at y))
    × (is_on_and (λ d. hosts d.tune) y ≡ false → hosts c.tune ≡ false)

module _ (q : Setup) (f : ℕ) (y : State) where
  opens : (part : Part) (c : Core) → KeepsTable f y (StateOn c) → KeepsTable f y (StateOn (opened_slot q f part c).core)
  opens Opening c keeps = keeps
  opens (DataSlot owner) c keeps = keeps
  opens (Contention i) c keeps = keeps
  opens Closing c keeps = by_test (hosts_now f c) refl
    where
      by_test : (b : Bool) → hosts_now f c ≡ b → KeepsTable f y (StateOn (if b then host_closes q f c else silent c).core)
      by_test false now = keeps
      by_test true now = (
        λ idle. absurd (false≢true (sym (keeps.0 idle).0 ∙ now)),
        λ guest. absurd (false≢true (sym (keeps.1 guest) ∙ host_now f c now)),
      )

  heard : (part : Part) (b : Bool) (c : Core) → KeepsTable f y (StateOn c) → KeepsTable f y (StateOn (slot_heard f part b c))
  heard Opening b c keeps = keeps
  heard (Contention i) b c keeps = keeps
  heard Closing b c keeps = keeps
  heard (DataSlot owner) b c keeps = (
    λ idle. (
      (keeps.0 idle).0,
      ap (λ (t : Table). t.entries) (cond-false (hosts_now f c) (owner_heard b owner c.table) c.table (keeps.0 idle).0) ∙ (keeps.0 idle).1,
    ),
    keeps.1,
  )

  closes : (part : Part) (b : Bool) (c : Core) (o : Option Message) → KeepsTable f y (StateOn c)
      → KeepsTable f y (StateOn (closed_slot q f part b c o).core)
  closes part b c None keeps = heard part b c keeps
  closes part b c (Some (DataOf d)) keeps = heard part true c keeps
  closes part b c (Some (RequestOf a)) keeps = keeps
  closes part b c (Some (ScheduleOf x)) keeps = by_gap (x.gap == 0)
    where
      by_gap : (t : Bool) → KeepsTable f y (StateOn (if t then opening_accepted q.id f x c else closing_accepted q.id f x c))
      by_gap true = keeps
      by_gap false = (λ idle. (refl, (keeps.0 idle).1), λ guest. refl)

first_keeps : (f : ℕ) (y : State) → KeepsTable f y y
first_keeps f (StateOff boots) = tt
first_keeps f (StateOn c) = (λ idle. (idle, refl), λ guest. guest)

pub in_rounds : (s : ScenarioParts) (f v : ℕ) → KeepsTable f (state_at s f v) (rounds s f (state_at s f) v)
in_rounds s f =
    rounds_keep s f (λ v x. KeepsTable f (state_at s f v) x) (λ m. Unit {0}) (λ v part c keeps. opens (setup_of s v) f (state_at s f v) part c keeps)
    (λ v part c m keeps said. tt) (λ v part b c o told keeps. closes (setup_of s v) f (state_at s f v) part b c o keeps) (state_at s f)
    (λ v. first_keeps f (state_at s f v))

-- a host with streams in its table had them after the rounds of the frame before
record Came (y : State) (c : Core) : Type 0 where
  pub core : Core
  pub on : y ≡ StateOn core
  pub tune : core.tune ≡ c.tune
  pub table : c.table.entries ≡ core.table.entries
  pub plan : c.plan ≡ core.plan

abbrev CameFrom : State → State → Type 0
CameFrom y (StateOff boots) = Unit {0}
CameFrom y (StateOn c) = hosts c.tune ≡ true → (c.table.entries ≡ []) ⊎ Came y c

lines_come : (y : State) (ls : List ScriptLine) (x : State) → CameFrom y x → CameFrom y (fold state_after_line x ls)
lines_come y [] x came = came
lines_come y (l ∷ ls) x came =
    lines_come y ls (state_after_line x l)
    (acts_keep (CameFrom y) (λ boots is host. absurd (false≢true host)) (λ c is. tt) (λ a c is host. elim (is host) [
      | inl none ↦ inl none
      | inr from ↦ inr (record { core = from.core; on = from.on; tune = from.tune; table = from.table; plan = from.plan })
    ]) l.act x came)

ended_came : (q : Setup) (f : ℕ) (y : State) → CameFrom y (at_core (frame_ended q f) y)
ended_came q f (StateOff boots) = tt
ended_came q f (StateOn c) = of_tune c.tune refl
  where
    turned : Tune → Core
    turned t = record c { tune = t; own_slot = None }

    by_scan : (r w : ℕ) (u : Tune) → CameFrom (StateOn c) (StateOn (as_host q.profile (begins_host (Scan r w) u) (turned u)))
    by_scan r w (Host n d) = λ host. inl refl
    by_scan r w (Hold n d) = λ host. absurd (false≢true host)
    by_scan r w (Scan n m) = λ host. absurd (false≢true host)

    by_due : (r d : ℕ) (b : Bool) → (let t : Tune = if b then Hold r d else Scan r 0 in
        CameFrom (StateOn c) (StateOn (as_host q.profile (begins_host (Hold r d) t) (turned t))))
    by_due r d true = λ host. absurd (false≢true host)
    by_due r d false = λ host. absurd (false≢true host)

    of_tune : (u : Tune) → c.tune ≡ u → CameFrom (StateOn c)
        (StateOn (as_host q.profile (begins_host u (next_tune u f (is_fresh c) q.own q.ranks)) (turned (next_tune u f (is_fresh c) q.own q.ranks))))
    of_tune (Host r d) is = λ host. inr (record { core = c; on = refl; tune = is; table = refl; plan = refl })
    of_tune (Hold r d) is = by_due r d (nat_lt f d)
    of_tune (Scan r w) is = by_scan r w (next_tune (Scan r w) f (is_fresh c) q.own q.ranks)

came : (s : ScenarioParts) (f v : ℕ) → CameFrom (rounds s f (state_at s f) v) (state_at s (suc f) v)
unfolding before_frame
came s f v =
    lines_come (rounds s f (state_at s f) v) (lines_of s (suc f) v) (before_frame s (suc f) v)
    (ended_came (setup_of s v) f (rounds s f (state_at s f) v))

-- before the first frame nobody hosts
no_first : (s : ScenarioParts) (v : ℕ) → CameFrom (StateOff 0) (state_at s 0 v)
unfolding before_frame
no_first s v = lines_come (StateOff 0) (lines_of s 0 v) (StateOff 0) tt

-- a host with a stream in its table at the start of a frame hosted in the frame before
pub record HostBefore (s : ScenarioParts) (f v : ℕ) (c : Core) : Type 0 where
  pub core : Core
  pub on : state_at s f v ≡ StateOn core
  pub rank : ℕ
  pub due : ℕ
  pub tune : core.tune ≡ Host rank due
  pub low : f ≤ due
  pub idle : f < due → (c.table.entries ≡ core.table.entries) × (c.plan ≡ core.plan)
  pub grown : due ≡ f → (e : TableEntry) → Contains c.table.entries e → IsGrown f core.table.entries c.plan.owners e

-- by the round that was due each entry is new, or has been granted at most the slots of the next round more
further : (f : ℕ) (xs ys : List TableEntry) (owners : List ℕ) (e : TableEntry) → ((x : TableEntry) → Contains ys x → IsOf xs x) → IsGrown f ys owners e
    → IsGrown f xs owners e
further f xs ys owners e from grown = by_age grown.was
  where
    by_age : NewOr f ys grown.before → IsGrown f xs owners e
    by_age (inl new) = record {
      before = grown.before;
      code = grown.code;
      interval = grown.interval;
      accepted = grown.accepted;
      granted = grown.granted;
      was = inl new;
    }
    by_age (inr there) =
        let is = from grown.before there in
        let granted = grown.granted in
        let same = is.same.granted in
        record {
          before = is.entry;
          code = is.same.code ∙ grown.code;
          interval = is.same.interval ∙ grown.interval;
          accepted = is.same.accepted ∙ grown.accepted;
          granted = omega (arith, granted, same);
          was = inr is.there;
        }

module _ (s : ScenarioParts) (scenario : IsSoundScenario s) (slow : HasSlowStreams s) (some : 0 < s.profile.seconds) (f v : ℕ) where
  abbrev start : State
  start = state_at s f v

  own_of : (d : Core) → start ≡ StateOn d → (r due : ℕ) → d.tune ≡ Host r due → own_rank v s.hosts ≡ Some r
  own_of d on r due tune =
      let is = subst (IsRightfulState (setup_of s v)) on (rightful s f v) in
      is.own (ap hosts tune) ∙ ap (λ (t : Tune). Some (rank_of t)) tune

  -- a host that is not due
  idles : (d c : Core) → start ≡ StateOn d → rounds s f (state_at s f) v ≡ StateOn c → (r due : ℕ) → d.tune ≡ Host r due → f < due
      → (c.table.entries ≡ d.table.entries) × (c.plan ≡ d.plan)
  idles d c on after r due tune later = ((keeps.0 not_now).1 ∙ ap entries_at on, same_plan)
    where
      keeps : KeepsTable f start (StateOn c)
      keeps = subst (KeepsTable f start) after (in_rounds s f v)

      not_now : is_on_and (λ d. hosts_now f d) start ≡ false
      not_now = ap (is_on_and (λ d. hosts_now f d)) on ∙ ap (λ (t : Tune). hosts_in (rank_of t) f t) tune ∙ not_due r f due later

      no_round : hosts_round r f start ≡ false
      no_round = ap (hosts_round r f) on ∙ ap (hosts_in r f) tune ∙ not_due r f due later

      at_rank : rank_in start ≡ r
      at_rank = ap rank_in on ∙ ap rank_of tune

      nobody : NobodyHosts s (rank_in start) f
      nobody = subst (λ (n : ℕ). NobodyHosts s n f) (sym at_rank) (nobody_else s r f v (own_of d on r due tune) no_round)

      plan_or : Option Setting → Plan
      plan_or None = d.plan
      plan_or (Some k) = k.plan

      same_plan : c.plan ≡ d.plan
      same_plan = ap plan_or (ap setting (sym after) ∙ quiet_rounds s f v nobody ∙ ap setting on)

  -- and one that is
  plans : (d c : Core) → start ≡ StateOn d → rounds s f (state_at s f) v ≡ StateOn c → (r : ℕ) → d.tune ≡ Host r f → (e : TableEntry)
      → Contains c.table.entries e → IsGrown f d.table.entries c.plan.owners e
  plans d c on after r tune e there =
      further f d.table.entries lead.core.table.entries c.plan.owners e from
      (subst (λ (l : List ℕ). IsGrown f lead.core.table.entries l e) (ap (λ (k : Core). k.plan.owners) (sym core))
      (plan_grows s.profile v lead.core.boot (rank_of lead.core.tune) f lead.core.kept lead.core.table lead.core.streams some asked e
      (subst (λ (k : Core). Contains k.table.entries e) core there)))
    where
      due : hosts_round r f start ≡ true
      due = ap (hosts_round r f) on ∙ ap (hosts_in r f) tune ∙ due_host r f

      found : (p : Plan) × IsHosted s r f p v
      found = is_hosted s scenario v r f due

      p : Plan
      p = found.0

      lead : Hosting r f p (before_slot s r f p (state_at s f) (last_slot p) v)
      lead = leads s r f p v found.1 (last_slot p) (omega arith)

      core : c ≡ (host_closes (setup_of s v) f lead.core).core
      core =
          (let is : StateOn c ≡ StateOn (host_closes (setup_of s v) f lead.core).core =
          sym after ∙ rounds_are s scenario v r f p (ap rank_in on ∙ ap rank_of tune) found.1.plan ∙ has_planned s r f p v found.1 lead in
          cc)

      keeps : KeepsPace s.profile.seconds lead.core
      keeps = subst (Keeps s.profile.seconds) lead.on (at_slot s slow some r f p (last_slot p) v)

      asked : Paced s.profile.seconds f (asked_table f v lead.core.boot lead.core.kept lead.core.table lead.core.streams).entries
      asked = asked_paced s.profile.seconds f v lead.core.boot lead.core.kept lead.core.table lead.core.streams keeps.kept keeps.wishes
          (paced_now s.profile.seconds r f lead.core.tune lead.core.table.entries lead.due keeps.table)

      from : (x : TableEntry) → Contains lead.core.table.entries x → IsOf d.table.entries x
      from = subst (λ (l : List TableEntry). (x : TableEntry) → Contains lead.core.table.entries x → IsOf l x) (ap entries_at on)
          (subst (Comes (entries_at start)) lead.on (tables_come s r f p (last_slot p) (omega arith) v))

  pub host_before : (c : Core) → state_at s (suc f) v ≡ StateOn c → hosts c.tune ≡ true → (e : TableEntry) → Contains c.table.entries e → HostBefore s f v c
  host_before c on host e there = elim (subst (CameFrom (rounds s f (state_at s f) v)) on (came s f v) host) [
    | inl none ↦ absurd (not_in_none e (subst (λ (l : List TableEntry). Contains l e) none there))
    | inr from ↦ by_start from start refl
  ]
    where
      guest : (from : Came (rounds s f (state_at s f) v) c) → is_on_and (λ d. hosts d.tune) start ≡ false → ⊥
      guest from is =
          let keeps = subst (KeepsTable f start) from.on (in_rounds s f v) in
          false≢true (sym (keeps.1 is) ∙ ap hosts from.tune ∙ host)

      by_tune : (from : Came (rounds s f (state_at s f) v) c) (d : Core) → start ≡ StateOn d → (t : Tune) → d.tune ≡ t → HostBefore s f v c
      by_tune from d at (Scan r w) tune = absurd (guest from (ap (is_on_and (λ d. hosts d.tune)) at ∙ ap hosts tune))
      by_tune from d at (Hold r n) tune = absurd (guest from (ap (is_on_and (λ d. hosts d.tune)) at ∙ ap hosts tune))
      by_tune from d at (Host r due) tune = record {
        core = d;
        on = at;
        rank = r;
        due = due;
        tune = tune;
        low = (subst (λ (t : Tune). Starts f (own_rank v s.hosts) t) tune (subst (HasStarted f (own_rank v s.hosts)) at (started s scenario f v)).0).0;
        idle = λ later. (let same = idles d from.core at from.on r due tune later in (from.table ∙ same.0, from.plan ∙ same.1));
        grown = λ now x among. subst (λ (q : Plan). IsGrown f d.table.entries q.owners x) (sym from.plan)
            (plans d from.core at from.on r (tune ∙ ap (λ (n : ℕ). Host r n) now) x (subst (λ (l : List TableEntry). Contains l x) from.table among));
      }

      by_start : (from : Came (rounds s f (state_at s f) v) c) (x : State) → start ≡ x → HostBefore s f v c
      by_start from (StateOff boots) at = absurd (guest from (ap (is_on_and (λ d. hosts d.tune)) at))
      by_start from (StateOn d) at = by_tune from d at d.tune refl

-- in frame 0 no host has a stream
pub none_at_first : (s : ScenarioParts) (v : ℕ) (c : Core) → state_at s 0 v ≡ StateOn c → hosts c.tune ≡ true → (e : TableEntry)
    → Contains c.table.entries e → ⊥
none_at_first s v c on host e there = elim (subst (CameFrom (StateOff 0)) on (no_first s v) host) [
  | inl none ↦ not_in_none e (subst (λ (l : List TableEntry). Contains l e) none there)
  | inr from ↦ never from.on
]
  where
    never : {d : Core} → StateOff 0 ≡ StateOn d → ⊥
    never is = cc
