-- Tables of a host whose streams keep pace: what requests, data slots and grants leave of them.
use Rattle.std.proofs.Common.{◌≡◌, ◌≢◌, ◌<◌, ◌≤◌, ◌+◌, ◌-◌, ◌*◌, ◌/◌, ◌==◌, ◌&&◌, ℕ, suc, List, [], ◌∷◌, Bool, true, false, not, Option, Some, None, inl, inr}
use Rattle.std.proofs.Common.{if◌then◌else◌, filter, filter_map, is_none, length, map, nat_le, nat_lt, sum_by, refl, sym, ◌∙◌, ap, subst, arith, ◌⊎◌}
use Rattle.stream_table.proofs.Order.{ascends_map, ascends_with, none_above}
use Rattle.stream_table.proofs.Changes.{grant_keeps, heard_kept, missed_kept, removed_kept}
use Rattle.law_times.proofs.Words.{cons_option, div-eq_of_lt, div-lt_iff_lt-mul, div-mul-le_self, lt-div-mul-add, mul-le-mul_left, mul-suc, le-div, length-map}
use Rattle.law_times.proofs.Words.{cases_eq, cases_lt, cond_both, eq-eqb, le-ltb, cond-true, cond-false, eqb-false, false≢true, le-leb, leb-true, ltb-true}
use Rattle.law_times.proofs.Words.{ne_eqb, sum_by-cons, Grants, gap_of, given, grant, granted_by, grants_for, last_code, owed_to, plan_round, share_in, total}
use Rattle.law_times.proofs.Words.{AreEntries, EntriesAreAbove, EntriesAscend, TableEntry, Table, after_request, entry_after_data, entry_of, has_code, is_full}
use Rattle.law_times.proofs.Words.{missed, new_entry, with_entry, without, Ask, code_of, IsOnPace}

abbrev pub Each : (TableEntry → Type 0) → List TableEntry → Type 0
Each P [] = Unit {0}
Each P (e ∷ es) = P e × Each P es

each_map : (P Q : TableEntry → Type 0) (f : TableEntry → TableEntry) → ((e : TableEntry) → P e → Q (f e)) → (es : List TableEntry) → Each P es
    → Each Q (map f es)
each_map P Q f keeps [] all = tt
each_map P Q f keeps (e ∷ es) all = (keeps e all.0, each_map P Q f keeps es all.1)

each_filter : (P : TableEntry → Type 0) (test : TableEntry → Bool) (es : List TableEntry) → Each P es → Each P (filter test es)
each_filter P test [] all = tt
each_filter P test (e ∷ es) all =
    (let rest = each_filter P test es all.1 in
    cond_both (test e) (e ∷ filter test es) (filter test es) (λ (l : List TableEntry). Each P l) (λ _. (all.0, rest)) (λ _. rest))

each_with : (P : TableEntry → Type 0) (x : TableEntry) → P x → (es : List TableEntry) → Each P es → Each P (with_entry x es)
each_with P x is [] all = (is, tt)
each_with P x is (e ∷ es) all =
    (let rest = each_with P x is es all.1 in
    cond_both (x.code == e.code) (x ∷ es) _ (λ (l : List TableEntry). Each P l) (λ _. (is, all.1))
    (λ _. cond_both (nat_lt x.code e.code) (x ∷ e ∷ es) (e ∷ with_entry x es) (λ (l : List TableEntry). Each P l) (λ _. (is, all)) (λ _. (all.0, rest))))

each_missed : (P : TableEntry → Type 0) → ((e : TableEntry) (n : ℕ) → P e → P (record e { unheard = n })) → (c : ℕ) (es : List TableEntry) → Each P es
    → Each P (filter_map (missed c) es)
each_missed P keeps c [] all = tt
each_missed P keeps c (e ∷ es) all = by_test (has_code c e) (nat_lt (e.unheard + 1) 16) (each_missed P keeps c es all.1)
  where
    by_test : (a b : Bool) → Each P (filter_map (missed c) es)
        → Each P (cons_option (if a then (if b then Some (record e { unheard = e.unheard + 1 }) else None) else Some e) (filter_map (missed c) es))
    by_test true true rest = (keeps e (e.unheard + 1) all.0, rest)
    by_test true false rest = rest
    by_test false b rest = (all.0, rest)

above_less : (c d : ℕ) (l : List TableEntry) → d < c → EntriesAreAbove c l → EntriesAreAbove d l
above_less c d [] less above = tt
above_less c d (y ∷ ys) less above = (let more = above.0 in omega (arith, less, more), above_less c d ys less above.1)

-- an entry replaces one of its code
with_same : (x : TableEntry) (es : List TableEntry) → EntriesAscend es → is_none (entry_of es x.code) ≡ false → length (with_entry x es) ≡ length es
with_same x [] up there = absurd (false≢true (sym there))
with_same x (e ∷ es) up there = by_code (cases_eq e.code x.code) (with_same x es up.1)
  where
    by_code : (e.code ≡ x.code) ⊎ (e.code ≢ x.code) → (is_none (entry_of es x.code) ≡ false → length (with_entry x es) ≡ length es)
        → length (with_entry x (e ∷ es)) ≡ length (e ∷ es)
    by_code (inl same) rest = ap (λ (l : List TableEntry). length l) (cond-true (x.code == e.code) (x ∷ es) _ (eq-eqb x.code e.code (sym same)))
    by_code (inr other) rest =
        let later : is_none (entry_of es x.code) ≡ false =
        ap (λ (o : Option TableEntry). is_none o) (sym (cond-false (e.code == x.code) (Some e) (entry_of es x.code) (ne_eqb e.code x.code other))) ∙ there in
        let not_same = ne_eqb x.code e.code (λ same. other (sym same)) in
        let not_less : nat_lt x.code e.code ≡ false = by_order (cases_lt x.code e.code) later in
        let is = ap (λ (l : List TableEntry). length l) (cond-false (x.code == e.code) (x ∷ es) _ not_same
        ∙ cond-false (nat_lt x.code e.code) (x ∷ e ∷ es) (e ∷ with_entry x es) not_less) in
        let rest_is = rest later in
        omega (arith, is, rest_is)
      where
        by_order : (x.code < e.code) ⊎ (e.code ≤ x.code) → is_none (entry_of es x.code) ≡ false → nat_lt x.code e.code ≡ false
        by_order (inr more) later = le-ltb x.code e.code more
        by_order (inl less) later =
            let none : entry_of es x.code ≡ None = none_above x.code es (above_less e.code x.code es less up.0) in
            absurd (false≢true (sym (ap (λ (o : Option TableEntry). is_none o) (sym none) ∙ later)))

with_more : (x : TableEntry) (es : List TableEntry) → length (with_entry x es) ≤ length es + 1
with_more x [] = omega arith
with_more x (e ∷ es) =
    (let rest = with_more x es in
    cond_both (x.code == e.code) (x ∷ es) _ (λ (l : List TableEntry). length l ≤ length (e ∷ es) + 1) (λ _. omega arith)
    (λ _. cond_both (nat_lt x.code e.code) (x ∷ e ∷ es) (e ∷ with_entry x es) (λ (l : List TableEntry). length l ≤ length (e ∷ es) + 1) (λ _. omega arith)
    (λ _. omega (arith, rest))))

-- at most 32 entries, ascending, each on pace
pub record Paced (seconds due : ℕ) (es : List TableEntry) : Type 0 where
  pub entries : AreEntries es
  pub pace : Each (IsOnPace seconds due) es

-- quotients
pub more_due : (x y interval : ℕ) → 0 < interval → x ≤ y → x / interval ≤ y / interval
more_due x y interval some less = (let part = div-mul-le_self x interval in le-div (x / interval) y interval some (omega (arith, part, less)))

two_more : (q interval : ℕ) → (q + 2) * interval ≡ q * interval + interval + interval
two_more q interval = grind arith

-- how much comes due in one frame more
next_due : (seconds interval x : ℕ) → 0 < interval → seconds ≤ interval → (x + seconds) / interval ≤ x / interval + 1
next_due seconds interval x some slow =
    let below = lt-div-mul-add {a = x} {b = interval} some in
    let more = two_more (x / interval) interval in
    let less : x + seconds < (x / interval + 2) * interval = omega (arith, below, more, slow) in
    let quotient : (x + seconds) / interval < x / interval + 2 = (div-lt_iff_lt-mul {k = interval} {x = x + seconds} {y = x / interval + 2} some).1 less in
    omega (arith, quotient)

owed_more : (seconds due a : ℕ) → a ≤ due → seconds * (due + 1 - a) ≡ seconds * (due - a) + seconds
owed_more seconds due a low =
    (let next : due + 1 - a ≡ suc (due - a) = omega (arith, low) in ap (λ (n : ℕ). seconds * n) next ∙ mul-suc seconds (due - a))

one_owed : (seconds due : ℕ) (e : TableEntry) → 0 < seconds → IsOnPace seconds due e → owed_to seconds (due + 1) e ≤ 1
one_owed seconds due e some pace =
    let slow = pace.slow in
    let next = next_due seconds e.interval (seconds * (due - e.accepted)) (omega (arith, some, slow)) slow in
    let same : seconds * (due + 1 - e.accepted) / e.interval ≡ (seconds * (due - e.accepted) + seconds) / e.interval =
    ap (λ (n : ℕ). n / e.interval) (owed_more seconds due e.accepted pace.accepted) in
    let granted = pace.granted in
    omega (arith, next, same, granted)

few_owed : (seconds due : ℕ) (es : List TableEntry) → 0 < seconds → Each (IsOnPace seconds due) es → total seconds (due + 1) es ≤ length es
few_owed seconds due [] some all = omega arith
few_owed seconds due (e ∷ es) some all =
    let more = sum_by-cons (owed_to seconds (due + 1)) e es in
    let one = one_owed seconds due e some all.0 in
    let rest = few_owed seconds due es some all.1 in
    omega (arith, more, one, rest)

-- the table after the next round is planned
module _ (seconds f : ℕ) (some : 0 < seconds) (t : Table) (paced : Paced seconds f t.entries) where
  abbrev gap : ℕ
  gap = gap_of seconds f t.entries

  -- all that is owed by then fits
  pub fits : total seconds (f + gap) t.entries ≤ 40
  fits =
      cond_both (nat_le (total seconds (f + 4) t.entries) 40) 4 _ (λ (g : ℕ). total seconds (f + g) t.entries ≤ 40) (λ is. leb-true _ 40 is)
      (λ _. cond_both (nat_le (total seconds (f + 3) t.entries) 40) 3 _ (λ (g : ℕ). total seconds (f + g) t.entries ≤ 40) (λ is. leb-true _ 40 is)
      (λ _. cond_both (nat_le (total seconds (f + 2) t.entries) 40) 2 1 (λ (g : ℕ). total seconds (f + g) t.entries ≤ 40) (λ is. leb-true _ 40 is)
      (λ _. (let owed = few_owed seconds f t.entries some paced.pace in let few = paced.entries.few in omega (arith, owed, few)))))

  grants : (e : TableEntry) → IsOnPace seconds f e → IsOnPace seconds (f + gap) (grant (owed_to seconds (f + gap)) e)
  grants e pace = record {
    accepted = (let low = pace.accepted in omega (arith, low));
    slow = pace.slow;
    granted =
        (let was = pace.granted in
        let less : seconds * (f - e.accepted) ≤ seconds * (f + gap - e.accepted) = mul-le (omega arith) in
        let more = more_due (seconds * (f - e.accepted))
        (seconds * (f + gap - e.accepted)) e.interval (let slow = pace.slow in omega (arith, some, slow)) less in
        omega (arith, was, more));
  }
    where
      mul-le : {n m : ℕ} → n ≤ m → seconds * n ≤ seconds * m
      mul-le {n} {m} less = mul-le-mul_left seconds less

  pub planned : Paced seconds (f + gap) (plan_round seconds f t).table.entries
  unfolding plan_round
  planned =
      let owes = owed_to seconds (f + gap) in
      let all : grants_for owes gap t ≡ granted_by owes gap t.place t.entries =
      cond-true (nat_le (sum_by owes t.entries) 40) (granted_by owes gap t.place t.entries)
      (granted_by (share_in (given owes t)) gap (last_code (given owes t) + 1) t.entries) (le-leb (sum_by owes t.entries) 40 fits) in
      subst (λ (g : Grants). Paced seconds (f + gap) g.table.entries) (sym all) (record {
        entries = record {
          few = (let same = length-map t.entries (grant owes) in let few = paced.entries.few in omega
              (arith, same, few));
          ascends = ascends_map (grant owes) t.entries (grant_keeps owes) paced.entries.ascends;
        };
        pace = each_map (IsOnPace seconds f) (IsOnPace seconds (f + gap)) (grant owes) grants t.entries paced.pace;
      })

-- a request, in the frame in which the table is on pace
abbrev pub IsSlow : ℕ → ℕ → Type 0
IsSlow seconds interval = (interval ≡ 0) ⊎ (seconds ≤ interval)

new_pace : (seconds f : ℕ) (a : Ask) → seconds ≤ a.interval → 0 < a.interval → IsOnPace seconds f (new_entry a f)
new_pace seconds f a slow some = record {
  accepted = omega arith;
  slow = slow;
  granted =
      (let none : f - f ≡ 0 = omega arith in
      let zero_due : seconds * (f - f) ≡ 0 = ap (λ (n : ℕ). seconds * n) none ∙ (let z : seconds * 0 ≡ 0 = omega arith in z) in
      sym (ap (λ (n : ℕ). n / a.interval) zero_due ∙ div-eq_of_lt some));
}

pub after_asked : (seconds f : ℕ) (t : Table) (a : Ask) → IsSlow seconds a.interval → Paced seconds f t.entries → Paced seconds f (after_request f t a).entries
after_asked seconds f t a slow paced =
    cond_both (is_full a t) t.entries _ (Paced seconds f) (λ _. paced)
    (λ room. cond_both (a.interval == 0) (without (code_of a) t.entries) (with_entry (new_entry a f) t.entries) (Paced seconds f)
    (λ _. record {
      entries = removed_kept t.entries (without (code_of a) t.entries) (code_of a) paced.entries refl;
      pace = each_filter (IsOnPace seconds f) (λ e. not (has_code (code_of a) e)) t.entries paced.pace;
    })
    (λ wants. (let some : 0 < a.interval = (let other = eqb-false a.interval 0 wants in omega (arith, other)) in record {
      entries = record { few = few room wants; ascends = ascends_with (new_entry a f) t.entries paced.entries.ascends };
      pace = each_with (IsOnPace seconds f) (new_entry a f) (new_pace seconds f a (slow_enough slow some) some) t.entries paced.pace;
    })))
  where
    slow_enough : IsSlow seconds a.interval → 0 < a.interval → seconds ≤ a.interval
    slow_enough (inl none) some = absurd (omega (arith, none, some))
    slow_enough (inr is) some = is

    few : is_full a t ≡ false → (a.interval == 0) ≡ false → length (with_entry (new_entry a f) t.entries) ≤ 32
    few room wants = by_room (nat_lt (length t.entries) 32) refl (is_none (entry_of t.entries (code_of a))) refl
      where
        by_room : (less : Bool) → nat_lt (length t.entries) 32 ≡ less → (none : Bool) → is_none (entry_of t.entries (code_of a)) ≡ none
            → length (with_entry (new_entry a f) t.entries) ≤ 32
        by_room true less none is = (let below = ltb-true (length t.entries) 32 less in let more = with_more (new_entry a f) t.entries in omega
            (arith, below, more))
        by_room false less false is =
            (let same = with_same (new_entry a f) t.entries paced.entries.ascends is in let most = paced.entries.few in omega (arith, same, most))
        by_room false less true is =
            absurd (false≢true (sym room ∙ full (a.interval == 0) (nat_lt (length t.entries) 32) (is_none (entry_of t.entries (code_of a))) wants less is))
          where
            full : (b c d : Bool) → b ≡ false → c ≡ false → d ≡ true → (not b && not c && d) ≡ true
            full b c d first second third = rw (first, second, third) refl

-- what a data slot leaves
pub after_heard : (seconds d c : ℕ) (es : List TableEntry) → Paced seconds d es → Paced seconds d (map (entry_after_data c) es)
after_heard seconds d c es paced = record {
  entries = heard_kept es (map (entry_after_data c) es) c paced.entries refl;
  pace = each_map (IsOnPace seconds d) (IsOnPace seconds d) (entry_after_data c)
      (λ e is. record { accepted = is.accepted; slow = is.slow; granted = is.granted }) es paced.pace;
}

pub after_missed : (seconds d c : ℕ) (es : List TableEntry) → Paced seconds d es → Paced seconds d (filter_map (missed c) es)
after_missed seconds d c es paced = record {
  entries = missed_kept es (filter_map (missed c) es) c paced.entries refl;
  pace = each_missed (IsOnPace seconds d) (λ e n is. record { accepted = is.accepted; slow = is.slow; granted = is.granted }) c es paced.pace;
}

pub none_paced : (seconds d : ℕ) → Paced seconds d []
none_paced seconds d = record { entries = record { few = omega arith; ascends = tt }; pace = tt }
