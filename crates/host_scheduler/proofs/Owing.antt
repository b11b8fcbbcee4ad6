-- What is owed, and the line of the turns.
use Rattle.std.proofs.Common.{◌≡◌, ℕ, zero, suc, ◌+◌, ◌<◌, ◌≤◌, List, [], ◌∷◌, ◌++◌, Bool, true, false, ◌&&◌, nat_lt}
use Rattle.std.proofs.Common.{nat_le, cond, length, get_or, take, drop, map, filter, replicate, Option, Some, None}
use Rattle.std.proofs.Common.{option_map, refl, sym, ◌∙◌, ap, arith, add-one, length-append, append_assoc}
use Rattle.std.specs.List.{slice_get, sum_by}
use Rattle.std.specs.Option.{option_map_or}
use Rattle.std.proofs.lemmas.Bool.{ltb-true, lt-ltb, leb-true}
use Rattle.std.proofs.lemmas.List.{get_or_default, take_more, get_or-map, length-map, length-replicate}
use Rattle.std.proofs.lemmas.List.{take-append-drop, length-take, length-take-le, append-nil, map_more}
use Rattle.std.proofs.lemmas.List.Elements.{filter-append, filter_more}
use Rattle.std.proofs.lemmas.List.Sums.{sum_by-cons, sum_by_more, sum_by-take-le}
use Rattle.std.proofs.lemmas.Option.{slice_get-map, slice_get_within, get_or_from_slice_get}
use Rattle.lwb_base.proofs.Lists.{length_filtered}
use Rattle.bus_rules.specs.Tables.{TableEntry, Table, EntriesAscend, entry_of, code_in}
use Rattle.bus_rules.specs.Granting.{owed_to}
use Rattle.stream_table.specs.Entries.{owed_by}
use Rattle.stream_table.proofs.Order.{entry_at}
use Rattle.host_scheduler.specs.declared.debts.Debt.{Debt}
use Rattle.host_scheduler.specs.Debts.{debt_of, debts_of, code_of_debt, owed_in, codes_owed, all_owed, debts_from_place, is_owed_from, early, owed_beyond}
use Rattle.host_scheduler.specs.Debts.{beyond, turns_of}
use Rattle.host_scheduler.proofs.Sifted.{filter_filter, filter_stronger, both_fit, take_joined}

-- the owner at a place of the table, with what is owed to it
pub debt_more : (seconds frame : ℕ) (t : Table) (i owner : ℕ) (ds : List Debt) → EntriesAscend t.entries
    → Some owner ≡ slice_get (map code_in t.entries) i → ds ≡ take i (debts_of (owed_to seconds frame) t.entries)
    → ds ++ record { code = owner; owed = owed_by seconds frame t owner } ∷ [] ≡ take (i + 1) (debts_of (owed_to seconds frame) t.entries)
debt_more seconds frame t i owner ds up at is = of_entry (slice_get t.entries i) refl
  where
    owes : TableEntry → ℕ
    owes = owed_to seconds frame

    of_entry : (o : Option TableEntry) → slice_get t.entries i ≡ o → ds ++ record { code = owner; owed = owed_by seconds frame t owner }
        ∷ [] ≡ take (i + 1) (debts_of owes t.entries)
    of_entry None none = let not : Some owner ≡ None = at ∙ slice_get-map code_in t.entries i ∙ ap (option_map code_in) none in cc
    of_entry (Some e) some =
        let this : Some owner ≡ Some e.code = at ∙ slice_get-map code_in t.entries i ∙ ap (option_map code_in) some in
        let same : owner ≡ e.code = cc in
        let within = slice_get_within t.entries i e some in
        let read : get_or t.entries i e ≡ e = get_or_from_slice_get t.entries i e e some in
        let found : entry_of t.entries owner ≡ Some e = entry_at owner t.entries i e up some (sym same) in
        let debt : Debt = record { code = owner; owed = owed_by seconds frame t owner } in
        let value : debt ≡ debt_of owes e = ap (λ (o : Option TableEntry). record { code = owner; owed = option_map_or owes o 0 }) found
        ∙ ap (λ (c : ℕ). record { code = c; owed = owes e }) same in
        ap (λ (l : List Debt). l ++ debt ∷ []) is ∙ ap (λ (d : Debt). take i (debts_of owes t.entries) ++ d ∷ [])
        (value ∙ ap (debt_of owes) (sym read) ∙ sym (get_or-map (debt_of owes) t.entries i e debt within))
        ∙ sym (take_more (debts_of owes t.entries) i debt (omega (arith, within, length-map t.entries (debt_of owes))))

pub none_left : (es : List TableEntry) (i : ℕ) → None ≡ slice_get (map code_in es) i → length es ≤ i
none_left [] i none = omega arith
none_left (e ∷ es) zero none = cc
none_left (e ∷ es) (suc i) none = omega (arith, none_left es i none)

-- as many codes as are owed
pub length_owed : (ds : List Debt) → length (all_owed ds) ≡ sum_by owed_in ds
length_owed [] = refl
length_owed (d ∷ ds) = omega (arith, length-append (codes_owed d) (all_owed ds), length-replicate d.owed d.code, length_owed ds, sum_by-cons owed_in d ds)

all_joined : (xs ys : List Debt) → all_owed (xs ++ ys) ≡ all_owed xs ++ all_owed ys
all_joined [] ys = refl
all_joined (x ∷ xs) ys = ap (λ (l : List ℕ). codes_owed x ++ l) (all_joined xs ys) ∙ sym (append_assoc (codes_owed x) (all_owed xs) (all_owed ys))

pub all_more : (ds : List Debt) (i : ℕ) (d : Debt) → i < length ds → d ≡ get_or ds i d
    → all_owed (take (i + 1) ds) ≡ all_owed (take i ds) ++ replicate d.owed d.code
all_more ds i d within read =
    ap all_owed (take_more ds i d within) ∙ all_joined (take i ds) (get_or ds i d ∷ [])
    ∙ ap (λ (x : Debt). all_owed (take i ds) ++ (codes_owed x ++ [])) (sym read)
    ∙ ap (λ (l : List ℕ). all_owed (take i ds) ++ l) (append-nil (codes_owed d))

pub all_fits : (ds : List Debt) (i : ℕ) (d : Debt) (codes : List ℕ) → i < length ds → d ≡ get_or ds i d → sum_by owed_in ds ≤ 40
    → codes ≡ all_owed (take i ds) → length codes + d.owed ≤ 40
all_fits ds i d codes within read few is =
    let more = sum_by_more owed_in ds i d within in
    let most = sum_by-take-le owed_in ds (i + 1) in
    let long = length_owed (take i ds) in
    let this : owed_in (get_or ds i d) ≡ d.owed = ap owed_in (sym read) in
    omega (arith, ap length is)

-- the two parts of the line
apart : (place : ℕ) (d : Debt) → (is_owed_from place d && early place d) ≡ false
apart place d = by_tests (nat_le place d.code) (nat_lt d.code place) (nat_lt 0 d.owed) refl refl
  where
    by_tests : (a b s : Bool) → nat_le place d.code ≡ a → nat_lt d.code place ≡ b → ((a && s) && (b && s)) ≡ false
    by_tests true true s is less = absurd (omega (arith, leb-true place d.code is, ltb-true d.code place less))
    by_tests true false true is less = refl
    by_tests true false false is less = refl
    by_tests false b s is less = refl

pub line_fits : (place : ℕ) (ds : List Debt) → length (filter (is_owed_from place) ds) + length (filter (early place) ds) ≤ length ds
line_fits place ds = both_fit (is_owed_from place) (early place) ds (apart place)

pub line_is : (place : ℕ) (ds : List Debt) → filter (is_owed_from place) ds ++ filter (early place) ds ≡ beyond 0 (debts_from_place place ds)
line_is place ds =
    let first : Debt → Bool = λ d. nat_le place d.code in
    let second : Debt → Bool = λ d. nat_lt d.code place in
    sym (filter-append (owed_beyond 0) (filter first ds) (filter second ds)
    ∙ ap (λ (l : List Debt). l ++ filter (owed_beyond 0) (filter second ds)) (filter_filter first (owed_beyond 0) ds)
    ∙ ap (λ (l : List Debt). filter (is_owed_from place) ds ++ l) (filter_filter second (owed_beyond 0) ds))

places_apart : (place : ℕ) (d : Debt) → (nat_le place d.code && nat_lt d.code place) ≡ false
places_apart place d = by_tests (nat_le place d.code) (nat_lt d.code place) refl refl
  where
    by_tests : (a b : Bool) → nat_le place d.code ≡ a → nat_lt d.code place ≡ b → (a && b) ≡ false
    by_tests true true is less = absurd (omega (arith, leb-true place d.code is, ltb-true d.code place less))
    by_tests true false is less = refl
    by_tests false b is less = refl

-- one turn after another
pub next_turn : (line : List Debt) (k : ℕ) (given : List ℕ) → given ≡ take 40 (turns_of line k)
    → take 40 (given ++ map code_of_debt (beyond k line)) ≡ take 40 (turns_of line (k + 1))
unfolding turns_of
next_turn line k given is = rw add-one
    (ap (λ (l : List ℕ). take 40 (l ++ map code_of_debt (beyond k line))) is ∙ take_joined 40 (turns_of line k) (map code_of_debt (beyond k line)))

pub no_turn : (line : List Debt) → take 40 (turns_of line 0) ≡ []
unfolding turns_of
no_turn line = refl

pub next_line : (line : List Debt) (k : ℕ) → beyond (k + 1) (beyond k line) ≡ beyond (k + 1) line
next_line line k = filter_stronger (owed_beyond k) (owed_beyond (k + 1)) line (λ d is. lt-ltb k d.owed (omega (arith, ltb-true (k + 1) d.owed is)))

-- a slot more of a turn
pub slot_more : (before : List ℕ) (line : List Debt) (i : ℕ) (d : Debt) (old new : List ℕ) → i < length line → d ≡ get_or line i d
    → old ≡ take 40 (before ++ map code_of_debt (take i line)) → new ≡ take 40 (old ++ d.code ∷ [])
    → new ≡ take 40 (before ++ map code_of_debt (take (i + 1) line))
slot_more before line i d old new within read is now =
    now ∙ ap (λ (l : List ℕ). take 40 (l ++ d.code ∷ [])) is ∙ take_joined 40 (before ++ map code_of_debt (take i line)) (d.code ∷ [])
    ∙ ap (take 40) (append_assoc before (map code_of_debt (take i line)) (d.code ∷ [])
    ∙ ap (λ (l : List ℕ). before ++ l)
    (ap (λ (x : Debt). map code_of_debt (take i line) ++ code_of_debt x ∷ []) read ∙ sym (map_more code_of_debt line i d within)))

-- what is read at a place
abbrev pub nothing : Debt
nothing = record { code = 0; owed = 0 }

pub read_at : (ds : List Debt) (i : ℕ) → i < length ds → get_or ds i nothing ≡ get_or ds i (get_or ds i nothing)
read_at ds i within = get_or_default ds i nothing (get_or ds i nothing) within

pub length_taken : (xs : List ℕ) → length (take 40 xs) ≤ 40
length_taken xs = omega (arith, length-take 40 xs)

-- room for one more of the line
pub late_room : (place : ℕ) (ds : List Debt) (i : ℕ) (line : List Debt) → i < length ds → length ds ≤ 32
    → line ≡ [] ++ filter (is_owed_from place) (take i ds) → length line < 32
late_room place ds i line within few is =
    let cut : length (take i ds) ≡ i = length-take-le i ds (omega arith) in
    omega (arith, ap length is, length_filtered (is_owed_from place) (take i ds))

length_front : (p : Debt → Bool) (k : ℕ) (ds : List Debt) → length (filter p (take k ds)) ≤ length (filter p ds)
length_front p k ds =
    let whole : filter p ds ≡ filter p (take k ds) ++ filter p (drop k ds) = ap (filter p) (sym (take-append-drop k ds))
    ∙ filter-append p (take k ds) (drop k ds) in
    omega (arith, ap length whole, length-append (filter p (take k ds)) (filter p (drop k ds)))

pub line_room : (place : ℕ) (ds : List Debt) (i : ℕ) (line : List Debt) → i < length ds → length ds ≤ 32
    → line ≡ filter (is_owed_from place) ds ++ filter (early place) (take i ds) → early place (get_or ds i nothing) ≡ true → length line < 32
line_room place ds i line within few is stays =
    let d = get_or ds i nothing in
    let more : filter (early place) (take (i + 1) ds) ≡ filter (early place) (take i ds) ++ d ∷ [] =
    filter_more (early place) ds i nothing within ∙ ap (λ (b : Bool). filter (early place) (take i ds) ++ cond b (d ∷ []) []) stays in
    omega (
      arith,
      ap length is,
      length-append (filter (is_owed_from place) ds) (filter (early place) (take i ds)),
      ap length more,
      length-append (filter (early place) (take i ds)) (d ∷ []),
      length_front (early place) (i + 1) ds,
      line_fits place ds,
    )
