-- What a host grants for its next round, and the streams that a table keeps while others are put to it.
use Rattle.std.proofs.Common.{◌≡◌, ◌≢◌, ◌<◌, ◌≤◌, ◌+◌, ◌==◌, ℕ, List, [], ◌∷◌, ◌++◌, Bool, true, false, not, inl, inr, Option, Some, None, cond, nat_lt, nat_le}
use Rattle.std.proofs.Common.{fold, replicate, sum_by, sym, ◌∙◌, ap, subst, arith, Contains}
use Rattle.std.proofs.lemmas.List.Sums.{sum_by-cons}
use Rattle.bus_rules.proofs.Grants.{count_replicate, gap_stays}
use Rattle.law_service.proofs.Words.{cond_both, cond-true, cond-false, eqb-true, ne_eqb, le-leb, false≢true, fold-append, Ask, code_of, code, Grants, count_of}
use Rattle.law_service.proofs.Words.{owners_by, granted_by, given, share_in, last_code, grants_for, gap_of, owed_to, total, plan_round, Answered, answer}
use Rattle.law_service.proofs.Words.{answers_to, Served, serve, served, put_if, Streams, due_of, with_agreed, TableEntry, Table, has_code, is_full, new_entry}
use Rattle.law_service.proofs.Words.{without, with_entry, after_request, interval_of, not_in_none, contains_head, contains_tail, contains_cases}
use Rattle.law_service.proofs.AcknowledgedRequests.{NoneOf}

-- how often a code is among owners
count_cons : (c x : ℕ) (xs : List ℕ) → count_of c (x ∷ xs) ≡ cond (x == c) 1 0 + count_of c xs
count_cons c x xs = sum_by-cons (λ (y : ℕ). cond (y == c) 1 0) x xs

none_before : (n : ℕ) → n ≡ 0 + n
none_before n = omega arith

one_before : (whole one first rest both : ℕ) → whole ≡ one + both → both ≡ first + rest → (joined : ℕ) → joined ≡ one + first → whole ≡ joined + rest
one_before whole one first rest both p r joined q = omega (arith, p, q, r)

count_joined : (c : ℕ) (xs ys : List ℕ) → count_of c (xs ++ ys) ≡ count_of c xs + count_of c ys
count_joined c [] ys = none_before (count_of c ys)
count_joined c (x ∷ xs) ys =
    one_before (count_of c (x ∷ (xs ++ ys))) (cond (x == c) 1 0) (count_of c xs) (count_of c ys) (count_of c (xs ++ ys)) (count_cons c x (xs ++ ys))
    (count_joined c xs ys) (count_of c (x ∷ xs)) (count_cons c x xs)

in_first : (whole first rest n : ℕ) → whole ≡ first + rest → first ≡ n → n ≤ whole
in_first whole first rest n is same = omega (arith, is, same)

in_rest : (whole first rest n : ℕ) → whole ≡ first + rest → n ≤ rest → n ≤ whole
in_rest whole first rest n is more = omega (arith, is, more)

owed_counted : (owes : TableEntry → ℕ) (e : TableEntry) (es : List TableEntry) → Contains es e → owes e ≤ count_of e.code (owners_by owes es)
owed_counted owes e [] there = absurd (not_in_none e there)
owed_counted owes e (x ∷ es) there =
    let own : List ℕ = replicate (owes x) x.code in
    let others : List ℕ = owners_by owes es in
    let joined = count_joined e.code own others in
    let more = owed_counted owes e es in
    elim (contains_cases x es e there) [
      | inl is ↦
          in_first (count_of e.code (own ++ others)) (count_of e.code own) (count_of e.code others) (owes e) joined
          (ap (λ (y : TableEntry). count_of e.code (replicate (owes y) y.code)) is ∙ count_replicate e.code (owes e))
      | inr later ↦ in_rest (count_of e.code (own ++ others)) (count_of e.code own) (count_of e.code others) (owes e) joined (more later)
    ]

-- the gap is one to four frames
pub gap_range : (seconds f : ℕ) (es : List TableEntry) → (0 < gap_of seconds f es) × (gap_of seconds f es ≤ 4)
gap_range seconds f es =
    cond_both (nat_le (total seconds (f + 4) es) 40) 4 _ (λ (g : ℕ). (0 < g) × (g ≤ 4)) (λ _. omega arith)
    (λ _. cond_both (nat_le (total seconds (f + 3) es) 40) 3 _ (λ (g : ℕ). (0 < g) × (g ≤ 4)) (λ _. omega arith)
    (λ _. cond_both (nat_le (total seconds (f + 2) es) 40) 2 1 (λ (g : ℕ). (0 < g) × (g ≤ 4)) (λ _. omega arith) (λ _. omega arith)))

pub round_gap : (seconds f : ℕ) (t : Table) → (plan_round seconds f t).gap ≡ gap_of seconds f t.entries
unfolding plan_round
round_gap seconds f t = gap_stays (owed_to seconds (f + gap_of seconds f t.entries)) (gap_of seconds f t.entries) t

pub some_gap : (seconds f : ℕ) (t : Table) → 0 < (plan_round seconds f t).gap
some_gap seconds f t = (let is = round_gap seconds f t in let range = gap_range seconds f t.entries in omega (arith, is, range))

-- where all fits, each stream has its own
pub fitting_grants : (seconds f due : ℕ) (t : Table) → due ≡ f + (plan_round seconds f t).gap → total seconds due t.entries ≤ 40
    → (e : TableEntry) → Contains t.entries e → owed_to seconds due e ≤ count_of e.code (plan_round seconds f t).owners
unfolding plan_round
fitting_grants seconds f due t is fits e there =
    let gap = gap_of seconds f t.entries in
    let same : due ≡ f + gap = is ∙ ap (λ (g : ℕ). f + g) (gap_stays (owed_to seconds (f + gap)) gap t) in
    let fitting : total seconds (f + gap) t.entries ≤ 40 = subst (λ (d : ℕ). total seconds d t.entries ≤ 40) same fits in
    let owes : TableEntry → ℕ = owed_to seconds (f + gap) in
    let all : grants_for owes gap t ≡ granted_by owes gap t.place t.entries =
    cond-true (nat_le (sum_by owes t.entries) 40) (granted_by owes gap t.place t.entries)
    (granted_by (share_in (given owes t)) gap (last_code (given owes t) + 1) t.entries) (le-leb (sum_by owes t.entries) 40 fitting) in
    let counted = owed_counted owes e t.entries there in
    subst (λ (d : ℕ). owed_to seconds d e ≤ count_of e.code (grants_for owes gap t).owners) (sym same)
    (subst (λ (g : Grants). owes e ≤ count_of e.code g.owners) (sym all) counted)

-- a stream stays in the table while requests of others are put to it
stays_without : (c : ℕ) (e : TableEntry) (es : List TableEntry) → e.code ≢ c → Contains es e → Contains (without c es) e
stays_without c e [] other there = absurd (not_in_none e there)
stays_without c e (x ∷ es) other there =
    let more = stays_without c e es other in
    let cases = contains_cases x es e there in
    cond_both (not (has_code c x)) (x ∷ without c es) (without c es) (λ (l : List TableEntry). Contains l e)
    (λ _. elim cases [
      | inl is ↦ subst (λ (y : TableEntry). Contains (y ∷ without c es) e) (sym is) (contains_head e (without c es))
      | inr later ↦ contains_tail x (without c es) e (more later)
    ])
    (λ drops. elim cases [
      | inl is ↦ absurd (false_not (x.code == c) drops (ne_eqb x.code c (λ same. other (ap (λ (y : TableEntry). y.code) (sym is) ∙ same))))
      | inr later ↦ more later
    ])
  where
    false_not : (b : Bool) → not b ≡ false → b ≡ false → ⊥
    false_not true drops is = absurd (false≢true (sym is))
    false_not false drops is = absurd (false≢true (sym drops))

added : (x : TableEntry) (es : List TableEntry) → Contains (with_entry x es) x
added x [] = contains_head x []
added x (y ∷ es) =
    let more = added x es in
    cond_both (x.code == y.code) (x ∷ es) _ (λ (l : List TableEntry). Contains l x) (λ _. contains_head x es)
    (λ _. cond_both (nat_lt x.code y.code) (x ∷ y ∷ es) (y ∷ with_entry x es) (λ (l : List TableEntry). Contains l x) (λ _. contains_head x (y ∷ es))
    (λ _. contains_tail y (with_entry x es) x more))

stays_with : (e x : TableEntry) (es : List TableEntry) → e.code ≢ x.code → Contains es e → Contains (with_entry x es) e
stays_with e x [] other there = absurd (not_in_none e there)
stays_with e x (y ∷ es) other there =
    let more = stays_with e x es other in
    let cases = contains_cases y es e there in
    cond_both (x.code == y.code) (x ∷ es) _ (λ (l : List TableEntry). Contains l e)
    (λ same. contains_tail x es e (elim cases [
      | inl is ↦ absurd (other (ap (λ (z : TableEntry). z.code) (sym is) ∙ sym (eqb-true x.code y.code same)))
      | inr later ↦ later
    ]))
    (λ _. cond_both (nat_lt x.code y.code) (x ∷ y ∷ es) (y ∷ with_entry x es) (λ (l : List TableEntry). Contains l e)
    (λ _. contains_tail x (y ∷ es) e there)
    (λ _. elim cases [
      | inl is ↦ subst (λ (z : TableEntry). Contains (z ∷ with_entry x es) e) (sym is) (contains_head e (with_entry x es))
      | inr later ↦ contains_tail y (with_entry x es) e (more later)
    ]))

stays_in : (f : ℕ) (e : TableEntry) (t : Table) (b : Ask) → e.code ≢ code_of b → Contains t.entries e → Contains (after_request f t b).entries e
stays_in f e t b other there =
    cond_both (is_full b t) t.entries _ (λ (l : List TableEntry). Contains l e) (λ _. there)
    (λ _. cond_both (b.interval == 0) (without (code_of b) t.entries) (with_entry (new_entry b f) t.entries) (λ (l : List TableEntry). Contains l e)
    (λ _. stays_without (code_of b) e t.entries other there) (λ _. stays_with e (new_entry b f) t.entries other there))

put_in : (f : ℕ) (t : Table) (a : Ask) → is_full a t ≡ false → a.interval ≢ 0 → Contains (after_request f t a).entries (new_entry a f)
put_in f t a room wants =
    subst (λ (l : List TableEntry). Contains l (new_entry a f))
    (sym (cond-false (is_full a t) t.entries _ room
    ∙ cond-false (a.interval == 0) (without (code_of a) t.entries) (with_entry (new_entry a f) t.entries) (ne_eqb a.interval 0 wants)))
    (added (new_entry a f) t.entries)

stay_answered : (f : ℕ) (e : TableEntry) (later : List Ask) (x : Answered) → NoneOf e.code later → Contains x.table.entries e
    → Contains (fold (answer f) x later).table.entries e
stay_answered f e [] x none there = there
stay_answered f e (b ∷ bs) x none there =
    stay_answered f e bs (answer f x b) none.1 (stays_in f e x.table b (λ same. none.0 (sym same)) there)

answered_entry : (f : ℕ) (a : Ask) (earlier later : List Ask) (t : Table) → NoneOf (code_of a) later → is_full a (answers_to f earlier t).table ≡ false
    → a.interval ≢ 0 → Contains (answers_to f (earlier ++ a ∷ later) t).table.entries (new_entry a f)
answered_entry f a earlier later t none room wants =
    let start : Answered = record { table = t; acks = [] } in
    let x : Answered = answers_to f earlier t in
    subst (λ (y : Answered). Contains y.table.entries (new_entry a f)) (sym (fold-append (answer f) start earlier (a ∷ later)))
    (stay_answered f (new_entry a f) later (answer f x a) none (put_in f x.table a room wants))

-- the host's own requests are of other streams than another node's
put_own : (f host boot i : ℕ) (o : Option ℕ) (t : Table) (e : TableEntry) → e.code ≢ code host i → Contains t.entries e
    → Contains (put_if f host boot i o t).entries e
put_own f host boot i None t e other there = there
put_own f host boot i (Some n) t e other there = stays_in f e t (record { node = host; boot = boot; stream = i; interval = n }) other there

served_once : (f host boot i : ℕ) (x : Served) (e : TableEntry) → e.code ≢ code host i → Contains x.table.entries e
    → Contains (serve f host boot x i).table.entries e
served_once f host boot i x e other there =
    put_own f host boot i (due_of (with_agreed i (interval_of x.table (code host i)) x.streams) i) x.table e other there

pub served_entry : (f host boot : ℕ) (t : Table) (x : Streams) (e : TableEntry) → ((i : ℕ) → i ≤ 3 → e.code ≢ code host i) → Contains t.entries e
    → Contains (served f host boot t x).table.entries e
served_entry f host boot t x e other there =
    let s0 : Served = record { table = t; streams = x } in
    let s1 = serve f host boot s0 0 in
    let s2 = serve f host boot s1 1 in
    let s3 = serve f host boot s2 2 in
    served_once f host boot 3 s3 e (other 3 (omega arith))
    (served_once f host boot 2 s2 e (other 2 (omega arith))
    (served_once f host boot 1 s1 e (other 1 (omega arith)) (served_once f host boot 0 s0 e (other 0 (omega arith)) there)))

pub table_has : (f host boot : ℕ) (a : Ask) (earlier later kept : List Ask) (t : Table) (x : Streams) → kept ≡ earlier ++ a ∷ later
    → NoneOf (code_of a) later → is_full a (answers_to f earlier t).table ≡ false → a.interval ≢ 0 → ((i : ℕ) → i ≤ 3 → code_of a ≢ code host i)
    → Contains (served f host boot (answers_to f kept t).table x).table.entries (new_entry a f)
table_has f host boot a earlier later kept t x is none room wants other =
    served_entry f host boot (answers_to f kept t).table x (new_entry a f) other
    (subst (λ (l : List Ask). Contains (answers_to f l t).table.entries (new_entry a f)) (sym is) (answered_entry f a earlier later t none room wants))
