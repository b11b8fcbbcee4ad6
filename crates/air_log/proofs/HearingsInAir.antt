-- What a node received, picked out of an air and put in order.
use Rattle.std.proofs.Common.{◌≡◌, ℕ, ◌+◌, ◌<◌, ◌≤◌, List, [], ◌∷◌, ◌++◌, take, map, filter, filter_map, length, get_or, Bool, true, false, cond, ◌&&◌, ◌||◌}
use Rattle.std.proofs.Common.{◌==◌, nat_lt, if◌then◌else◌, Option, Some, None, option_map, option_to_list, refl, sym, ◌∙◌, ap, arith, inl, inr, lt-ltb}
use Rattle.std.proofs.Common.{true≢false}
use Rattle.std.specs.List.Sorted.{IsSortedBy}
use Rattle.std.specs.Cmp.{IsStrictWeakOrder, nat_cmp_total, on_total, then_total}
use Rattle.std.specs.Ordering.{nat_cmp, ordering_then, is_lt}
use Rattle.std.proofs.lemmas.Bool.{cases_order}
use Rattle.std.proofs.lemmas.Bool.Decides.{nat_tests}
use Rattle.std.proofs.lemmas.List.{take_more, map-append}
use Rattle.std.proofs.lemmas.List.Sorted.{ranks_by, sorted_far}
use Rattle.std.proofs.lemmas.List.Elements.{filter-append, filter_map-append}
use Rattle.radio_model.specs.OnAir.{Hearing}
use Rattle.air_log.specs.declared.entry.Entry.{Entry}
use Rattle.air_log.specs.declared.entry.HeardEntry.{HeardEntry}
use Rattle.air_log.specs.Entries.{hearing_in}
use Rattle.air_log.specs.Lawful.{reception_comes_before, put_in, by_end, hearings_by, reception_of}
use Rattle.air_log.specs.Trails.{Reception}
use Rattle.lwb_base.specs.Sorting.{with_inserted, in_order}
use Rattle.air_log.specs.Courses.{IsSortedByKey, end_of_reception, hearing_of, reception_in, only_of, hearing_with}

-- one entry more
picked : (v : ℕ) (o : Option Hearing) → filter (λ h. h.node == v) (option_to_list o) ≡ option_to_list (only_of v o)
picked v None = refl
picked v (Some h) = by (h.node == v)
  where
    by : (b : Bool) → cond b (h ∷ []) [] ≡ option_to_list (if b then Some h else None)
    by true = refl
    by false = refl

one_of : (e : Entry) → filter_map hearing_in (e ∷ []) ≡ option_to_list (hearing_in e)
one_of e = of_option (hearing_in e)
  where
    of_option : (o : Option Hearing) → Rattle.std.specs.List.cons_option o [] ≡ option_to_list o
    of_option None = refl
    of_option (Some h) = refl

mapped : (o : Option HeardEntry) → map hearing_of (option_to_list o) ≡ option_to_list (option_map hearing_of o)
mapped None = refl
mapped (Some h) = refl

pub hearings_more : (air : List Entry) (v i : ℕ) (e : Entry) (items : List HeardEntry) (o : Option HeardEntry) → i < length air → e ≡ get_or air i e
    → map hearing_of items ≡ hearings_by (take i air) v → option_map hearing_of o ≡ hearing_with e v
    → map hearing_of (items ++ option_to_list o) ≡ hearings_by (take (i + 1) air) v
hearings_more air v i e items o below at so is =
    let more : take (i + 1) air ≡ take i air ++ e ∷ [] = take_more air i e below ∙ ap (λ (x : Entry). take i air ++ x ∷ []) (sym at) in
    map-append hearing_of items (option_to_list o)
    ∙ ap (λ (l : List Hearing). l ++ map hearing_of (option_to_list o)) so
    ∙ ap (λ (l : List Hearing). hearings_by (take i air) v ++ l)
    (mapped o ∙ ap option_to_list is ∙ sym (picked v (hearing_in e)) ∙ ap (filter (λ (h : Hearing). h.node == v)) (sym (one_of e)))
    ∙ sym (ap (λ (l : List Entry). hearings_by l v) more
    ∙ ap (filter (λ (h : Hearing). h.node == v)) (filter_map-append hearing_in (take i air) (e ∷ []))
    ∙ filter-append (λ (h : Hearing). h.node == v) (filter_map hearing_in (take i air)) (filter_map hearing_in (e ∷ [])))

-- the order by which they are sorted
abbrev pub place_of : HeardEntry → ℕ × ℕ
place_of h = (h.end, h.from)

abbrev pub before : HeardEntry → HeardEntry → Bool
before g h = is_lt (ordering_then (nat_cmp g.end h.end) (nat_cmp g.from h.from))

pub is_order : IsStrictWeakOrder before
is_order = ranks_by (then_total (on_total (λ (t : ℕ × ℕ). t.0) nat_cmp_total) (on_total (λ (t : ℕ × ℕ). t.1) nat_cmp_total)) place_of

same_test : (m n p q : ℕ) → (nat_lt m n || ((m == n) && nat_lt p q)) ≡ is_lt (ordering_then (nat_cmp m n) (nat_cmp p q))
same_test m n p q = grind (arith, nat_tests)

same_order : (g h : HeardEntry) → reception_comes_before (hearing_of g) (hearing_of h) ≡ before g h
same_order g h = same_test g.end h.end g.from h.from

put_same : (h : HeardEntry) (gs : List HeardEntry) → put_in (hearing_of h) (map hearing_of gs) ≡ map hearing_of (with_inserted before h gs)
put_same h [] = refl
put_same h (g ∷ gs) =
    ap (λ (l : List Hearing). if reception_comes_before (hearing_of g) (hearing_of h) then hearing_of g ∷ l else hearing_of h ∷ hearing_of g
    ∷ map hearing_of gs)
    (put_same h gs)
    ∙ ap (λ (b : Bool). if b then hearing_of g ∷ map hearing_of (with_inserted before h gs) else hearing_of h ∷ hearing_of g ∷ map hearing_of gs)
    (same_order g h)
    ∙ by (before g h)
  where
    by : (b : Bool) → (if b then hearing_of g ∷ map hearing_of (with_inserted before h gs) else hearing_of h ∷ hearing_of g ∷ map hearing_of gs)
        ≡ map hearing_of (if b then g ∷ with_inserted before h gs else h ∷ g ∷ gs)
    by true = refl
    by false = refl

pub sorted_same : (hs : List HeardEntry) → by_end (map hearing_of hs) ≡ map hearing_of (in_order before hs)
sorted_same [] = refl
sorted_same (h ∷ hs) = ap (put_in (hearing_of h)) (sorted_same hs) ∙ put_same h (in_order before hs)

not_before : (m n p q : ℕ) → is_lt (ordering_then (nat_cmp n m) (nat_cmp q p)) ≡ false → m ≤ n
not_before m n p q is = elim (cases_order m n) [
  | inl same ↦ omega (arith, same)
  | inr (inl less) ↦ omega (arith, less)
  | inr (inr more) ↦ absurd (true≢false (sym (ap (λ (b : Bool). b || ((n == m) && nat_lt q p)) (lt-ltb n m more)) ∙ same_test n m q p ∙ is))
]

pub sorted_ascends : (hs : List HeardEntry) → IsSortedBy before hs → IsSortedByKey end_of_reception hs
sorted_ascends hs sorted i j d less within =
    not_before (get_or hs i d).end (get_or hs j d).end (get_or hs i d).from (get_or hs j d).from
    (sorted_far before is_order hs sorted i j d (omega (arith, less)) within)

same_receptions : (hs : List HeardEntry) → map reception_in hs ≡ map reception_of (map hearing_of hs)
same_receptions [] = refl
same_receptions (h ∷ hs) = ap (λ (rs : List Reception). reception_in h ∷ rs) (same_receptions hs)

-- what is sorted is what the trail takes
pub received : (picks sorts : List HeardEntry) → sorts ≡ in_order before picks → map reception_in sorts ≡ map reception_of (by_end (map hearing_of picks))
received picks sorts sorted =
    same_receptions sorts
    ∙ ap (λ (hs : List HeardEntry). map reception_of (map hearing_of hs)) sorted
    ∙ ap (map reception_of) (sym (sorted_same picks))
