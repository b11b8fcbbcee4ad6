-- An entry of a host's table stays, by its code, its interval and the frame in which it was accepted: through requests of other streams, through
-- what is granted, and through data slots of its own in which the host receives a packet.
use Rattle.std.proofs.Common.{◌≡◌, ◌≢◌, ◌+◌, ◌==◌, ◌++◌, ℕ, List, [], ◌∷◌, Bool, true, false, not, inl, inr, Option, Some, None, if◌then◌else◌, fold, map}
use Rattle.std.proofs.Common.{filter_map, nat_le, nat_lt, sum_by, refl, sym, ◌∙◌, ap, subst, ◌⊎◌, Contains}
use Rattle.lwb_base.proofs.Elements.{in_filtered}
use Rattle.std.proofs.lemmas.List.Elements.{Contains-append_cases}
use Rattle.law_times.proofs.Words.{cond_both, cond-false, eq-eqb, eqb-true, false≢true, ne_eqb, contains_cases, contains_head, contains_tail, in_filter}
use Rattle.law_times.proofs.Words.{map_contains, not_in_none, one_of, Ask, code, code_of, Numbers, Part, Opening, DataSlot, Contention, Closing, Core, Setup}
use Rattle.law_times.proofs.Words.{closing_accepted, opening_accepted, Grants, gap_of, given, grant, granted_by, last_code, owed_to, plan_round, share_in}
use Rattle.law_times.proofs.Words.{Answered, Served, answer, answers_to, host_plan, put_if, serve, DataOf, Message, RequestOf, ScheduleOf, closed_slot}
use Rattle.law_times.proofs.Words.{hosts_now, opened_slot, owner_heard, slot_heard, Streams, due_of, with_agreed, TableEntry, Table, after_request}
use Rattle.law_times.proofs.Words.{entry_after_data, has_code, interval_of, is_full, missed, new_entry, with_entry, without, is_closing, Schedule}
use Rattle.law_times.proofs.QueuedPackets.{is_slot_of}

-- an entry of another code is put beside it
with_keeps : (x : TableEntry) (es : List TableEntry) (e : TableEntry) → Contains es e → e.code ≢ x.code → Contains (with_entry x es) e
with_keeps x [] e there other = absurd (not_in_none e there)
with_keeps x (y ∷ es) e there other =
    by_code (x.code == y.code) refl (nat_lt x.code y.code) (contains_cases y es e there) (λ later. with_keeps x es e later other)
  where
    by_code : (a : Bool) → (x.code == y.code) ≡ a → (b : Bool) → (y ≡ e) ⊎ Contains es e → (Contains es e → Contains (with_entry x es) e)
        → Contains (if a then x ∷ es else if b then x ∷ y ∷ es else y ∷ with_entry x es) e
    by_code true is b (inl same) later = absurd (other (ap (λ (z : TableEntry). z.code) (sym same) ∙ sym (eqb-true x.code y.code is)))
    by_code true is b (inr there) later = contains_tail x es e there
    by_code false is true (inl same) later = contains_tail x (y ∷ es) e (subst (λ (z : TableEntry). Contains (y ∷ es) z) same (contains_head y es))
    by_code false is true (inr there) later = contains_tail x (y ∷ es) e (contains_tail y es e there)
    by_code false is false (inl same) later = subst (λ (z : TableEntry). Contains (y ∷ with_entry x es) z) same (contains_head y (with_entry x es))
    by_code false is false (inr there) later = contains_tail y (with_entry x es) e (later there)

module _ (c i a : ℕ) where
  -- these have the stream, with this interval, accepted in this frame
  pub record HasStream (es : List TableEntry) : Type 0 where
    pub entry : TableEntry
    pub there : Contains es entry
    pub code_is : entry.code ≡ c
    pub interval_is : entry.interval ≡ i
    pub accepted_is : entry.accepted ≡ a

  asked_keeps : (f : ℕ) (t : Table) (q : Ask) → code_of q ≢ c → HasStream t.entries → HasStream (after_request f t q).entries
  asked_keeps f t q other is = by_test (is_full q t) (q.interval == 0)
    where
      by_test : (full gone : Bool)
          → HasStream (if full then t.entries else if gone then without (code_of q) t.entries else with_entry (new_entry q f) t.entries)
      by_test true gone = is
      by_test false true = record {
        entry = is.entry;
        there = in_filtered (λ e. not (has_code (code_of q) e)) t.entries is.entry is.there
            (ap not (ne_eqb is.entry.code (code_of q) (λ same. other (sym same ∙ is.code_is))));
        code_is = is.code_is;
        interval_is = is.interval_is;
        accepted_is = is.accepted_is;
      }
      by_test false false = record {
        entry = is.entry;
        there = with_keeps (new_entry q f) t.entries is.entry is.there (λ same. other (sym same ∙ is.code_is));
        code_is = is.code_is;
        interval_is = is.interval_is;
        accepted_is = is.accepted_is;
      }

  answers_keep : (f : ℕ) (kept : List Ask) (x : Answered) → ((q : Ask) → Contains kept q → code_of q ≢ c) → HasStream x.table.entries
      → HasStream (fold (answer f) x kept).table.entries
  answers_keep f [] x other is = is
  answers_keep f (q ∷ more) x other is =
      answers_keep f more (answer f x q) (λ r there. other r (contains_tail q more r there)) (asked_keeps f x.table q (other q (contains_head q more)) is)

  serves_keep : (f node boot : ℕ) (ks : List ℕ) (x : Served) → ((k : ℕ) → Contains ks k → code node k ≢ c) → HasStream x.table.entries
      → HasStream (fold (serve f node boot) x ks).table.entries
  serves_keep f node boot [] x other is = is
  serves_keep f node boot (k ∷ ks) x other is =
      serves_keep f node boot ks (serve f node boot x k) (λ l there. other l (contains_tail k ks l there))
      (by_due (due_of (with_agreed k (interval_of x.table (code node k)) x.streams) k))
    where
      by_due : (o : Option ℕ) → HasStream (put_if f node boot k o x.table).entries
      by_due None = is
      by_due (Some n) = asked_keeps f x.table (record { node = node; boot = boot; stream = k; interval = n }) (other k (contains_head k ks)) is

  granted_keeps : (share : TableEntry → ℕ) (es : List TableEntry) → HasStream es → HasStream (map (grant share) es)
  granted_keeps share es is = record {
    entry = grant share is.entry;
    there = map_contains (grant share) es is.entry is.there;
    code_is = is.code_is;
    interval_is = is.interval_is;
    accepted_is = is.accepted_is;
  }

  planned_keeps : (seconds f : ℕ) (t : Table) → HasStream t.entries → HasStream (plan_round seconds f t).table.entries
  unfolding plan_round
  planned_keeps seconds f t is =
      let owes : TableEntry → ℕ = owed_to seconds (f + gap_of seconds f t.entries) in
      cond_both (nat_le (sum_by owes t.entries) 40) (granted_by owes (gap_of seconds f t.entries) t.place t.entries)
      (granted_by (share_in (given owes t)) (gap_of seconds f t.entries) (last_code (given owes t) + 1) t.entries)
      (λ (g : Grants). HasStream g.table.entries) (λ _. granted_keeps owes t.entries is) (λ _. granted_keeps (share_in (given owes t)) t.entries is)

  -- what a host plans, if nobody requests the stream
  pub plan_keeps : (n : Numbers) (node boot rank f : ℕ) (kept : List Ask) (t : Table) (x : Streams) → ((q : Ask) → Contains kept q → code_of q ≢ c)
      → ((k : ℕ) → Contains (0 ∷ 1 ∷ 2 ∷ 3 ∷ []) k → code node k ≢ c) → HasStream t.entries → HasStream (host_plan n node boot rank f kept t x).table.entries
  unfolding host_plan
  plan_keeps n node boot rank f kept t x others own is =
      planned_keeps n.seconds f _
      (serves_keep f node boot (0 ∷ 1 ∷ 2 ∷ 3 ∷ []) (record { table = (answers_to f kept t).table; streams = x }) own
      (answers_keep f kept (record { table = t; acks = [] }) others is))

  -- data slots
  heard_keeps : (o : ℕ) (es : List TableEntry) → HasStream es → HasStream (map (entry_after_data o) es)
  heard_keeps o es is = record {
    entry = entry_after_data o is.entry;
    there = map_contains (entry_after_data o) es is.entry is.there;
    code_is = is.code_is;
    interval_is = is.interval_is;
    accepted_is = is.accepted_is;
  }

  missed_keeps : (o : ℕ) (es : List TableEntry) → (o ≡ c → ⊥) → HasStream es → HasStream (filter_map (missed o) es)
  missed_keeps o es other is = record {
    entry = is.entry;
    there = in_filter (missed o) es is.entry is.entry is.there
        (cond-false (has_code o is.entry) (if nat_lt (is.entry.unheard + 1) 16 then Some (record is.entry { unheard = is.entry.unheard + 1 }) else None)
        (Some is.entry) (ne_eqb is.entry.code o (λ same. other (sym same ∙ is.code_is))));
    code_is = is.code_is;
    interval_is = is.interval_is;
    accepted_is = is.accepted_is;
  }

  abbrev HasIn : Core → Type 0
  HasIn d = HasStream d.table.entries

  slot_heard_keeps : (f : ℕ) (part : Part) (b : Bool) (d : Core) → (is_slot_of c part ≡ true → b ≡ false → ⊥) → HasIn d → HasIn (slot_heard f part b d)
  slot_heard_keeps f Opening b d heard is = is
  slot_heard_keeps f (Contention k) b d heard is = is
  slot_heard_keeps f Closing b d heard is = is
  slot_heard_keeps f (DataSlot owner) b d heard is = by_test (hosts_now f d) b heard
    where
      by_test : (now b : Bool) → ((owner == c) ≡ true → b ≡ false → ⊥) → HasStream (if now then owner_heard b owner d.table else d.table).entries
      by_test false b heard = is
      by_test true true heard = heard_keeps owner d.table.entries is
      by_test true false heard = missed_keeps owner d.table.entries (λ same. heard (subst (λ (n : ℕ). (owner == n) ≡ true) same (same_is owner)) refl) is
        where
          same_is : (n : ℕ) → (n == n) ≡ true
          same_is n = eq-eqb n n refl

  accepted_keeps : (q : Setup) (f : ℕ) (y : Schedule) (t : Bool) (d : Core) → HasIn d
      → HasIn (if t then opening_accepted q.id f y d else closing_accepted q.id f y d)
  accepted_keeps q f y true d is = is
  accepted_keeps q f y false d is = is

  -- one slot at the host, before the closing slot
  pub slot_keeps : (q : Setup) (f : ℕ) (part : Part) (d : Core) (heard : Option Message) (b : Bool) → is_closing part ≡ false
      → (is_slot_of c part ≡ true → heard ≡ None → ⊥) → HasIn d → HasIn (closed_slot q f part b (opened_slot q f part d).core heard).core
  slot_keeps q f Closing d heard b early own is = absurd (false≢true (sym early))
  slot_keeps q f Opening d None b early own is = is
  slot_keeps q f Opening d (Some (DataOf x)) b early own is = is
  slot_keeps q f Opening d (Some (RequestOf x)) b early own is = is
  slot_keeps q f Opening d (Some (ScheduleOf y)) b early own is = accepted_keeps q f y (y.gap == 0) d is
  slot_keeps q f (DataSlot owner) d None b early own is =
      slot_heard_keeps f (DataSlot owner) b (opened_slot q f (DataSlot owner) d).core (λ mine none. own mine refl) is
  slot_keeps q f (DataSlot owner) d (Some (DataOf x)) b early own is =
      slot_heard_keeps f (DataSlot owner) true (opened_slot q f (DataSlot owner) d).core (λ mine none. false≢true (sym none)) is
  slot_keeps q f (DataSlot owner) d (Some (RequestOf x)) b early own is = is
  slot_keeps q f (DataSlot owner) d (Some (ScheduleOf y)) b early own is = accepted_keeps q f y (y.gap == 0) (opened_slot q f (DataSlot owner) d).core is
  slot_keeps q f (Contention k) d None b early own is = is
  slot_keeps q f (Contention k) d (Some (DataOf x)) b early own is = is
  slot_keeps q f (Contention k) d (Some (RequestOf x)) b early own is = is
  slot_keeps q f (Contention k) d (Some (ScheduleOf y)) b early own is = accepted_keeps q f y (y.gap == 0) (opened_slot q f (Contention k) d).core is

heard_kept : (f : ℕ) (part : Part) (b : Bool) (c : Core) → (slot_heard f part b c).kept ≡ c.kept
heard_kept f Opening b c = refl
heard_kept f (DataSlot owner) b c = refl
heard_kept f (Contention k) b c = refl
heard_kept f Closing b c = refl

closed_kept : (q : Setup) (f : ℕ) (part : Part) (d o : Core) (heard : Option Message) (b : Bool) → o.kept ≡ d.kept → (r : Ask)
    → Contains (closed_slot q f part b o heard).core.kept r → Contains d.kept r ⊎ (heard ≡ Some (RequestOf r))
closed_kept q f part d o None b same r there = inl (subst (λ (l : List Ask). Contains l r) (heard_kept f part b o ∙ same) there)
closed_kept q f part d o (Some (DataOf x)) b same r there = inl (subst (λ (l : List Ask). Contains l r) (heard_kept f part true o ∙ same) there)
closed_kept q f part d o (Some (RequestOf x)) b same r there = by_host (hosts_now f o) there
  where
    by_host : (t : Bool) → Contains (if t then o.kept ++ x ∷ [] else o.kept) r → Contains d.kept r ⊎ (Some (RequestOf x) ≡ Some (RequestOf r))
    by_host false there = inl (subst (λ (l : List Ask). Contains l r) same there)
    by_host true there = elim (Contains-append_cases o.kept (x ∷ []) r there) [
      | inl before ↦ inl (subst (λ (l : List Ask). Contains l r) same before)
      | inr last ↦ inr (ap (λ (z : Ask). Some (RequestOf z)) (one_of x r last))
    ]
closed_kept q f part d o (Some (ScheduleOf y)) b same r there = inl (by_gap (y.gap == 0) there)
  where
    by_gap : (t : Bool) → Contains (if t then opening_accepted q.id f y o else closing_accepted q.id f y o).kept r → Contains d.kept r
    by_gap true there = subst (λ (l : List Ask). Contains l r) same there
    by_gap false there = subst (λ (l : List Ask). Contains l r) same there

-- the requests that a host keeps in a slot: those of before, and the one that it received
pub kept_in_slot : (q : Setup) (f : ℕ) (part : Part) (d : Core) (heard : Option Message) (b : Bool) → is_closing part ≡ false → (r : Ask)
    → Contains (closed_slot q f part b (opened_slot q f part d).core heard).core.kept r → Contains d.kept r ⊎ (heard ≡ Some (RequestOf r))
kept_in_slot q f Closing d heard b early r there = absurd (false≢true (sym early))
kept_in_slot q f Opening d heard b early r there = closed_kept q f Opening d d heard b refl r there
kept_in_slot q f (DataSlot owner) d heard b early r there = closed_kept q f (DataSlot owner) d (opened_slot q f (DataSlot owner) d).core heard b refl r there
kept_in_slot q f (Contention k) d heard b early r there = closed_kept q f (Contention k) d (opened_slot q f (Contention k) d).core heard b refl r there
