-- Lists of codes by how often each is in them.
use Rattle.std.proofs.Common.{◌≡◌, ◌≢◌, ℕ, zero, suc, ◌+◌, ◌<◌, ◌≤◌, List, [], ◌∷◌, ◌++◌, Bool, true, false, ◌==◌, cond, is_some}
use Rattle.std.proofs.Common.{get_or, map, replicate, Option, Some, None, IsSome, ⊎_elim, refl, sym, ◌∙◌, ap, subst, arith, eq-eqb}
use Rattle.std.specs.List.{All, slice_get}
use Rattle.std.specs.Option.{option_map_or}
use Rattle.std.specs.List.Sorted.{IsPermutation, IsNonDecreasing}
use Rattle.std.proofs.lemmas.Bool.{ne_eqb, eqb-true, cases_eq, cases_order}
use Rattle.std.proofs.lemmas.List.Elements.{All-head, All-tail}
use Rattle.std.proofs.lemmas.List.Sums.{sum_by-cons, sum_by-append}
use Rattle.std.proofs.lemmas.List.Sorted.{sum_by-IsPermutation}
use Rattle.std.proofs.lemmas.Option.{slice_get-get_or}
use Rattle.bus_rules.specs.Tables.{TableEntry, EntriesAreAbove, EntriesAscend, entry_of}
use Rattle.bus_rules.specs.Granting.{count_of, grant, share_in, owners_by}
use Rattle.bus_rules.proofs.Grants.{count_replicate}
use Rattle.stream_table.proofs.Order.{entry_at, none_above, apart_from}

abbrev one : ℕ → ℕ → ℕ
one c x = cond (x == c) 1 0

count-cons : (c x : ℕ) (xs : List ℕ) → count_of c (x ∷ xs) ≡ one c x + count_of c xs
count-cons c x xs = sum_by-cons (one c) x xs

count_here : (c x : ℕ) (xs : List ℕ) → x ≡ c → count_of c (x ∷ xs) ≡ 1 + count_of c xs
count_here c x xs is = let f : Bool → ℕ = λ b. cond b 1 0 + count_of c xs in count-cons c x xs ∙ ap f (eq-eqb x c is)

count_other : (c x : ℕ) (xs : List ℕ) → x ≢ c → count_of c (x ∷ xs) ≡ count_of c xs
count_other c x xs apart =
    let f : Bool → ℕ = λ b. cond b 1 0 + count_of c xs in
    count-cons c x xs ∙ ap f (ne_eqb x c apart) ∙ omega arith

count_replicate_other : (c x n : ℕ) → x ≢ c → count_of c (replicate n x) ≡ 0
count_replicate_other c x zero apart = refl
count_replicate_other c x (suc n) apart = omega (arith, count_other c x (replicate n x) apart, count_replicate_other c x n apart)

-- how often a code owns a slot
count_none : (share : TableEntry → ℕ) (c : ℕ) (es : List TableEntry) → entry_of es c ≡ None → count_of c (owners_by share es) ≡ 0
count_none share c [] none = refl
count_none share c (e ∷ es) none =
    let apart = apart_from c e es none in
    omega (
      arith,
      sum_by-append (one c) (replicate (share e) e.code) (owners_by share es),
      count_replicate_other c e.code (share e) apart.0,
      count_none share c es apart.1,
    )

pub count_owned : (share : TableEntry → ℕ) (c : ℕ) (es : List TableEntry) → EntriesAscend es → count_of c (owners_by share es)
    ≡ option_map_or share (entry_of es c) 0
count_owned share c [] up = refl
count_owned share c (e ∷ es) up = ⊎_elim here (λ apart. other apart (count_owned share c es up.1)) (cases_eq e.code c)
  where
    both : count_of c (owners_by share (e ∷ es)) ≡ count_of c (replicate (share e) e.code) + count_of c (owners_by share es)
    both = sum_by-append (one c) (replicate (share e) e.code) (owners_by share es)

    here : e.code ≡ c → count_of c (owners_by share (e ∷ es)) ≡ option_map_or share (entry_of (e ∷ es) c) 0
    here is =
        let none : entry_of es c ≡ None = subst (λ (d : ℕ). entry_of es d ≡ None) is (none_above e.code es up.0) in
        let mine : count_of c (replicate (share e) e.code) ≡ share e = ap (λ (d : ℕ). count_of c (replicate (share e) d)) is ∙ count_replicate c (share e) in
        let value : count_of c (owners_by share (e ∷ es)) ≡ share e = omega (arith, both, mine, count_none share c es none) in
        value ∙ sym (ap (λ (b : Bool). option_map_or share (cond b (Some e) (entry_of es c)) 0) (eq-eqb e.code c is))

    other : (e.code ≡ c → ⊥) → count_of c (owners_by share es) ≡ option_map_or share (entry_of es c) 0
        → count_of c (owners_by share (e ∷ es)) ≡ option_map_or share (entry_of (e ∷ es) c) 0
    other apart rest =
        let value : count_of c (owners_by share (e ∷ es)) ≡ count_of c (owners_by share es) =
        omega (arith, both, count_replicate_other c e.code (share e) apart) in
        value ∙ rest ∙ sym (ap (λ (b : Bool). option_map_or share (cond b (Some e) (entry_of es c)) 0) (ne_eqb e.code c apart))

-- each is at least the one before, and the first at least this
abbrev pub Rises : ℕ → List ℕ → Type 0
Rises low [] = Unit {0}
Rises low (x ∷ xs) = (low ≤ x) × Rises x xs

rises_from : (low from : ℕ) (xs : List ℕ) → low ≤ from → Rises from xs → Rises low xs
rises_from low from [] le up = tt
rises_from low from (x ∷ xs) le up = (omega (arith, up.0), up.1)

rises_replicate : (low c n : ℕ) (xs : List ℕ) → low ≤ c → Rises c xs → Rises low (replicate n c ++ xs)
rises_replicate low c zero xs le up = rises_from low c xs le up
rises_replicate low c (suc n) xs le up = (le, rises_replicate c c n xs (omega arith) up)

pub owners_rise : (share : TableEntry → ℕ) (low : ℕ) (es : List TableEntry) → EntriesAreAbove low es → EntriesAscend es → Rises low (owners_by share es)
owners_rise share low [] above up = tt
owners_rise share low (e ∷ es) above up = rises_replicate low e.code (share e) (owners_by share es) (omega (arith, above.0))
    (owners_rise share e.code es up.0 up.1)

absent : (c low : ℕ) (xs : List ℕ) → Rises low xs → c < low → count_of c xs ≡ 0
absent c low [] up less = refl
absent c low (x ∷ xs) up less =
    let apart : x ≢ c = omega (arith, up.0) in
    omega (arith, count_other c x xs apart, absent c x xs up.1 (omega (arith, up.0)))

-- lists that rise are one where each code is in them equally often
pub same_counts : (low high : ℕ) (xs ys : List ℕ) → Rises low xs → Rises high ys → ((c : ℕ) → count_of c xs ≡ count_of c ys) → xs ≡ ys
same_counts low high [] [] up down counts = refl
same_counts low high [] (y ∷ ys) up down counts = absurd (omega (arith, counts y, count_here y y ys refl))
same_counts low high (x ∷ xs) [] up down counts = absurd (omega (arith, counts x, count_here x x xs refl))
same_counts low high (x ∷ xs) (y ∷ ys) up down counts = by_order (same_counts x y xs ys up.1 down.1)
  where
    less : (a b : ℕ) (more bs : List ℕ) → a < b → Rises b bs → count_of a (a ∷ more) ≡ count_of a (b ∷ bs) → ⊥
    less a b more bs lt rise is =
        let apart : b ≢ a = omega arith in
        omega (arith, count_here a a more refl, count_other a b bs apart, absent a b bs rise lt)

    same : x ≡ y → (((c : ℕ) → count_of c xs ≡ count_of c ys) → xs ≡ ys) → x ∷ xs ≡ y ∷ ys
    same is rest =
        let tails : (c : ℕ) → count_of c xs ≡ count_of c ys = λ c. omega (arith, counts c, count-cons c x xs, count-cons c y ys, ap (one c) is) in
        cc (is, rest tails)

    by_order : (((c : ℕ) → count_of c xs ≡ count_of c ys) → xs ≡ ys) → x ∷ xs ≡ y ∷ ys
    by_order rest = ⊎_elim (λ is. same is rest)
        (λ order. absurd (⊎_elim (λ lt. less x y xs ys lt down.1 (counts x)) (λ lt. less y x ys xs lt up.1 (sym (counts y))) order))
        (cases_order x y)

rises_tail : (x : ℕ) (xs : List ℕ) → IsNonDecreasing (x ∷ xs) → Rises x xs
rises_tail x [] up = tt
rises_tail x (y ∷ ys) up = (up 0 1 0 (omega arith) (omega arith), rises_tail y ys (λ i j d le within. up (suc i) (suc j) d (omega arith) (omega arith)))

pub rises_of : (xs : List ℕ) → IsNonDecreasing xs → Rises 0 xs
rises_of [] up = tt
rises_of (x ∷ xs) up = (omega arith, rises_tail x xs up)

-- an entry that is found has the code
found_test : (x e : TableEntry) (c : ℕ) (rest : Option TableEntry) (b : Bool) → (x.code == c) ≡ b → (rest ≡ Some e → e.code ≡ c)
    → cond b (Some x) rest ≡ Some e → e.code ≡ c
found_test x e c rest true same later is = let this : x ≡ e = cc in sym (ap (λ (y : TableEntry). y.code) this) ∙ eqb-true x.code c same
found_test x e c rest false same later is = later is

found_code : (es : List TableEntry) (c : ℕ) (e : TableEntry) → entry_of es c ≡ Some e → e.code ≡ c
found_code [] c e is = cc
found_code (x ∷ es) c e is = found_test x e c (entry_of es c) (x.code == c) refl (found_code es c e) is

none_counted : (es : List TableEntry) (c : ℕ) (xs : List ℕ) → All (λ x. IsSome (entry_of es x)) xs → entry_of es c ≡ None → count_of c xs ≡ 0
none_counted es c [] all none = refl
none_counted es c (x ∷ xs) all none =
    let there : is_some (entry_of es x) ≡ true = All-head (λ y. IsSome (entry_of es y)) x xs all in
    let apart : x ≢ c = λ is. of_some (entry_of es x) there (ap (entry_of es) is ∙ none) in
    count_other c x xs apart ∙ none_counted es c xs (All-tail (λ y. IsSome (entry_of es y)) x xs all) none
  where
    of_some : (o : Option TableEntry) → is_some o ≡ true → o ≡ None → ⊥
    of_some None there is = cc
    of_some (Some e) there is = cc

counted : (es : List TableEntry) (slots : List ℕ) (c : ℕ) → All (λ x. IsSome (entry_of es x)) slots → (o : Option TableEntry) → entry_of es c ≡ o
    → option_map_or (share_in slots) o 0 ≡ count_of c slots
counted es slots c all None is = sym (none_counted es c slots all is)
counted es slots c all (Some e) is = ap (λ (d : ℕ). count_of d slots) (found_code es c e is)

-- the slots in the order of their codes
pub sorted_is : (es : List TableEntry) (slots sorted : List ℕ) → EntriesAscend es → All (λ x. IsSome (entry_of es x)) slots
    → IsPermutation slots sorted → IsNonDecreasing sorted → sorted ≡ owners_by (share_in slots) es
sorted_is es slots sorted up all moved ascends =
    same_counts 0 0 sorted (owners_by (share_in slots) es) (rises_of sorted ascends) (rise es up)
    (λ c. sum_by-IsPermutation (one c) slots sorted moved ∙ sym (count_owned (share_in slots) c es up ∙ counted es slots c all (entry_of es c) refl))
  where
    rise : (es : List TableEntry) → EntriesAscend es → Rises 0 (owners_by (share_in slots) es)
    rise [] up = tt
    rise (e ∷ es) up = rises_replicate 0 e.code (share_in slots e) (owners_by (share_in slots) es) (omega arith)
        (owners_rise (share_in slots) e.code es up.0 up.1)

pub same_shares : (slots sorted : List ℕ) (es : List TableEntry) → IsPermutation slots sorted → map (grant (share_in sorted)) es
    ≡ map (grant (share_in slots)) es
same_shares slots sorted [] moved = refl
same_shares slots sorted (e ∷ es) moved =
    let n : count_of e.code sorted ≡ count_of e.code slots = sum_by-IsPermutation (one e.code) slots sorted moved in
    let here : grant (share_in sorted) e ≡ grant (share_in slots) e = ap (λ (k : ℕ). record e { granted = e.granted + k }) n in
    cc (here, same_shares slots sorted es moved)

-- where each is granted all that it is owed
all_shares : (owes : TableEntry → ℕ) (es : List TableEntry) → EntriesAscend es → All (λ e. share_in (owners_by owes es) e ≡ owes e) es
all_shares owes es up k d within =
    let e = get_or es k d in
    let at : slice_get es k ≡ Some e = slice_get-get_or es k d within in
    count_owned owes e.code es up ∙ ap (λ (o : Option TableEntry). option_map_or owes o 0) (entry_at e.code es k e up at refl)

grants_same : (s t : TableEntry → ℕ) (es : List TableEntry) → All (λ e. s e ≡ t e) es → map (grant s) es ≡ map (grant t) es
grants_same s t [] all = refl
grants_same s t (e ∷ es) all =
    let here : grant s e ≡ grant t e = ap (λ (k : ℕ). record e { granted = e.granted + k }) (All-head (λ x. s x ≡ t x) e es all) in
    cc (here, grants_same s t es (All-tail (λ x. s x ≡ t x) e es all))

owners_same : (s t : TableEntry → ℕ) (es : List TableEntry) → All (λ e. s e ≡ t e) es → owners_by s es ≡ owners_by t es
owners_same s t [] all = refl
owners_same s t (e ∷ es) all =
    ap (λ (k : ℕ). replicate k e.code ++ owners_by s es) (All-head (λ x. s x ≡ t x) e es all)
    ∙ ap (λ (l : List ℕ). replicate (t e) e.code ++ l) (owners_same s t es (All-tail (λ x. s x ≡ t x) e es all))

pub all_granted : (owes : TableEntry → ℕ) (es : List TableEntry) → EntriesAscend es → map (grant (share_in (owners_by owes es))) es ≡ map (grant owes) es
all_granted owes es up = grants_same (share_in (owners_by owes es)) owes es (all_shares owes es up)

pub all_owned : (owes : TableEntry → ℕ) (es : List TableEntry) → EntriesAscend es → owners_by (share_in (owners_by owes es)) es ≡ owners_by owes es
all_owned owes es up = owners_same (share_in (owners_by owes es)) owes es (all_shares owes es up)
