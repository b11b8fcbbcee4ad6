-- A request that alone is said in a contention slot without losses is kept by the host within reach, and acknowledged.
use Rattle.std.proofs.Common.{◌≡◌, ◌≢◌, ◌<◌, ◌≤◌, ◌+◌, ◌-◌, ℕ, zero, suc, List, [], ◌∷◌, ◌++◌, false, Option, Some, None, length, add-one, refl, sym, ◌∙◌, ap}
use Rattle.std.proofs.Common.{subst, arith}
use Rattle.std.proofs.lemmas.List.{append_assoc}
use Rattle.std.proofs.lemmas.Option.{same_Some}
use Rattle.bus_terms.proofs.KeptByHosts.{request_from, own_same, slot_kept}
use Rattle.law_service.proofs.Words.{cond-true, Ask, Plan, code_of, ScenarioParts, IsSoundScenario, over_sound, Part, Core, last_slot, Message, ScheduleOf}
use Rattle.law_service.proofs.Words.{DataOf}
use Rattle.law_service.proofs.Words.{RequestOf, opened_slot, part_of, hosts_now, host_closes, State, StateOn, Table, is_full, answers_to, rank_of, hosts_own}
use Rattle.law_service.proofs.Words.{state_at, ids, Slot, accepted_at, before_slot, takes_part, setup_of, in_whole, ids_rise, slot_in, ReachesHost}
use Rattle.law_service.proofs.Words.{Acknowledges, LoneRequestsAreKept, LoneRequestsAreAcknowledged, contention_at, IsRequest, requests, kept_by, own_of}
use Rattle.law_service.proofs.Words.{Hosting, leads, has_planned, said_message}
use Rattle.law_service.proofs.AcknowledgedRequests.{NoneOf, none_more, plan_acks}
use Rattle.law_service.proofs.SoleVoices.{accepts_said}

-- the host with the request that it kept, and with those that it kept after
pub record Tracked (c : Core) (a : Ask) (x : State) : Type 0 where
  pub core : Core
  pub on : x ≡ StateOn core
  pub later : List Ask
  pub kept : core.kept ≡ c.kept ++ a ∷ later
  pub others : NoneOf (code_of a) later
  pub table : core.table ≡ c.table

pub same_core : (c d : Core) (x : State) → x ≡ StateOn c → x ≡ StateOn d → c ≡ d
same_core c d x first second = let is : StateOn c ≡ StateOn d = sym first ∙ second in cc

module _ (s : ScenarioParts) (scenario : IsSoundScenario s) (rank f : ℕ) (p : Plan) (host j u : ℕ) (a : Ask) (c : Core)
    (reaches : ReachesHost s rank f p host j u a c) where
  abbrev at : ℕ → ℕ → State
  at i = before_slot s rank f p (state_at s f) i

  late : length p.owners < j
  late = reaches.request.after_data

  early : j < last_slot p
  early = reaches.request.before_last

  heard : accepted_at (slot_in s rank f p j) host ≡ Some (RequestOf a)
  heard =
      let x : Slot = slot_in s rank f p j in
      let known = in_whole (λ v. takes_part rank x.part (at j v) (x.window v)) (ids s.nodes) u reaches.request.member in
      accepts_said s x f j refl (λ k u v. refl) refl scenario.some_sends (ids_rise s.nodes scenario.ascending) reaches.lossless u (RequestOf a) known
      reaches.request.member reaches.request.says reaches.request.alone reaches.step host reaches.within

  kept_here : (d : Core) × (at (suc j) host ≡ StateOn d) × (d.kept ≡ c.kept ++ a ∷ []) × (d.table ≡ c.table)
  kept_here =
      let lead = leads s rank f p host reaches.hosted j (let soon = early in omega (arith, soon)) in
      let d = slot_kept s rank f p host reaches.hosted j late early lead in
      let same : lead.core ≡ c = same_core lead.core c (at j host) lead.on reaches.on in
      let now = hosts_own rank f lead.core.tune lead.due in (
        d.0,
        d.1,
        d.2 ∙ ap (λ (h : Option Message). kept_by (setup_of s host) f lead.core h) heard
            ∙ cond-true (hosts_now f lead.core) (lead.core.kept ++ a ∷ []) lead.core.kept now
            ∙ ap (λ (e : Core). e.kept ++ a ∷ []) same,
        d.3 ∙ ap (λ (e : Core). e.table) same,
      )

  kept_now : Tracked c a (at (suc j) host)
  kept_now = (let d = kept_here in record { core = d.0; on = d.1; later = []; kept = d.2; others = tt; table = d.3 })

  pub asked : (d : Core) × (at j u ≡ StateOn d) × IsRequest u (j - length p.owners) d a
  asked =
      let said = said_message s rank f (part_of p j) u (at j u) (RequestOf a) reaches.request.says in
      let message = ap (λ (q : Part). (opened_slot (setup_of s u) f q said.0).message) (sym (contention_at p j late early)) ∙ said.3 in
      (said.0, said.1, requests (setup_of s u) f (j - length p.owners) said.0 a message)

  -- requests of later slots are of other streams: their nodes differ, since a node has one slot of its own
  other : (n : ℕ) → j + suc n < last_slot p → (b : Ask) → accepted_at (slot_in s rank f p (j + suc n)) host ≡ Some (RequestOf b) → code_of b ≢ code_of a
  other n soon b said same =
      let m = j + suc n in
      let from = request_from s rank f p m host (omega (arith, late)) soon (RequestOf b) said in
      let w = from.2.0 in
      let is : b ≡ from.0 = (let e = from.1 in cc) in
      let theirs = from.2.3 in
      let ours = asked.2 in
      let one : w ≡ u = (let e = ap code_of (sym is) in omega (arith, same, e, theirs.node, theirs.stream, ours.node, ours.stream)) in
      let own_then : own_of (at m u) ≡ Some (m - length p.owners) =
      ap (λ (v : ℕ). own_of (at m v)) (sym one) ∙ ap own_of from.2.2 ∙ theirs.own in
      let own_here : own_of (at j u) ≡ Some (j - length p.owners) = ap own_of asked.1 ∙ ours.own in
      let equal = same_Some (m - length p.owners) (j - length p.owners) (sym own_then ∙ own_same s rank f p j u (suc n) late soon ∙ own_here) in
      omega (arith, equal, late)

  next : (n : ℕ) → j + suc n < last_slot p → Tracked c a (at (j + suc n) host) → Tracked c a (at (suc (j + suc n)) host)
  next n soon t = by_heard (accepted_at (slot_in s rank f p m) host) refl
    where
      m : ℕ
      m = j + suc n

      lead : Hosting rank f p (at m host)
      lead = leads s rank f p host reaches.hosted m (omega (arith, soon))

      d : (d : Core) × (at (suc m) host ≡ StateOn d) × (d.kept ≡ kept_by (setup_of s host) f lead.core (accepted_at (slot_in s rank f p m) host))
          × (d.table ≡ lead.core.table)
      d = slot_kept s rank f p host reaches.hosted m (omega (arith, late)) soon lead

      same : lead.core ≡ t.core
      same = same_core lead.core t.core (at m host) lead.on t.on

      had : lead.core.kept ≡ c.kept ++ a ∷ t.later
      had = ap (λ (e : Core). e.kept) same ∙ t.kept

      keeps : d.0.kept ≡ lead.core.kept → Tracked c a (at (suc m) host)
      keeps is = record {
        core = d.0;
        on = d.1;
        later = t.later;
        kept = is ∙ had;
        others = t.others;
        table = d.3 ∙ ap (λ (e : Core). e.table) same ∙ t.table;
      }

      adds : (b : Ask) → code_of b ≢ code_of a → d.0.kept ≡ lead.core.kept ++ b ∷ [] → Tracked c a (at (suc m) host)
      adds b differs is = record {
        core = d.0;
        on = d.1;
        later = t.later ++ b ∷ [];
        kept = is ∙ ap (λ (l : List Ask). l ++ b ∷ []) had ∙ append_assoc c.kept (a ∷ t.later) (b ∷ []);
        others = none_more (code_of a) t.later b t.others differs;
        table = d.3 ∙ ap (λ (e : Core). e.table) same ∙ t.table;
      }

      by_heard : (o : Option Message) → accepted_at (slot_in s rank f p m) host ≡ o → Tracked c a (at (suc m) host)
      by_heard None is = keeps (d.2 ∙ ap (λ (h : Option Message). kept_by (setup_of s host) f lead.core h) is)
      by_heard (Some (ScheduleOf y)) is = keeps (d.2 ∙ ap (λ (h : Option Message). kept_by (setup_of s host) f lead.core h) is)
      by_heard (Some (DataOf y)) is = keeps (d.2 ∙ ap (λ (h : Option Message). kept_by (setup_of s host) f lead.core h) is)
      by_heard (Some (RequestOf b)) is =
          let kept = d.2 ∙ ap (λ (h : Option Message). kept_by (setup_of s host) f lead.core h) is in
          let now = hosts_own rank f lead.core.tune lead.due in
          adds b (other n soon b is) (kept ∙ cond-true (hosts_now f lead.core) (lead.core.kept ++ b ∷ []) lead.core.kept now)

  track : (n : ℕ) → j + suc n ≤ last_slot p → Tracked c a (at (j + suc n) host)
  track zero within = subst (λ (i : ℕ). Tracked c a (at i host)) (omega arith) kept_now
  track (suc n) within = subst (λ (i : ℕ). Tracked c a (at i host)) (omega arith) (next n (omega (arith, within)) (track n (omega (arith, within))))

  -- at the closing the host plans from what it has kept
  planned : Hosting rank f p (at (last_slot p) host) → Tracked c a (at (last_slot p) host) → is_full a (answers_to f c.kept c.table).table ≡ false
      → Acknowledges s rank f p host a
  planned lead t free =
      let same : lead.core ≡ t.core = same_core lead.core t.core (at (last_slot p) host) lead.on t.on in
      let table : lead.core.table ≡ c.table = ap (λ (e : Core). e.table) same ∙ t.table in
      let had : lead.core.kept ≡ c.kept ++ a ∷ t.later = ap (λ (e : Core). e.kept) same ∙ t.kept in
      let has_room : is_full a (answers_to f c.kept lead.core.table).table ≡ false = ap (λ (x : Table). is_full a (answers_to f c.kept x).table) table ∙ free in
      record {
        core = (host_closes (setup_of s host) f lead.core).core;
        on = has_planned s rank f p host reaches.hosted lead;
        acknowledged = plan_acks s.profile host lead.core.boot (rank_of lead.core.tune) f a c.kept t.later lead.core.kept lead.core.table lead.core.streams
            had t.others has_room;
      }

  pub at_closing : Tracked c a (at (last_slot p) host)
  at_closing =
      let n : ℕ = last_slot p - suc j in
      let ends : j + suc n ≡ last_slot p = (let soon = early in omega (arith, soon)) in
      subst (λ (i : ℕ). Tracked c a (at i host)) ends (track n (omega (arith, ends)))

  acknowledges : is_full a (answers_to f c.kept c.table).table ≡ false → Acknowledges s rank f p host a
  acknowledges free = planned (leads s rank f p host reaches.hosted (last_slot p) (omega arith)) at_closing free

pub kept : LoneRequestsAreKept
kept s accepted rank f p host j u a c reaches =
    let d = kept_here s (over_sound s accepted) rank f p host j u a c reaches in
    record {
      core = d.0;
      on = ap (λ (i : ℕ). before_slot s rank f p (state_at s f) i host) (add-one j) ∙ d.1;
      kept = d.2;
    }

pub acknowledged : LoneRequestsAreAcknowledged
acknowledged s accepted rank f p host j u a c reaches free = acknowledges s (over_sound s accepted) rank f p host j u a c reaches free
