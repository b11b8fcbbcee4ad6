-- The transmissions that are stamped, and a stamp for each.
use Rattle.std.proofs.Common.{◌≡◌, ◌⊎◌, ℕ, ◌+◌, ◌<◌, inl, inr, List, [], ◌∷◌, ◌++◌, Bool, true, false}
use Rattle.std.proofs.Common.{if◌then◌else◌, filter, filter_map, map, take, length, get_or, Contains, Some, None, refl, sym, ◌∙◌, ap, subst}
use Rattle.std.specs.List.{AllZip, cons_option}
use Rattle.std.proofs.lemmas.List.{take_more}
use Rattle.std.proofs.lemmas.Bool.{cond_both}
use Rattle.lwb_base.specs.Profile.{Numbers}
use Rattle.radio_model.specs.declared.sending.Sending.{Sending}
use Rattle.air_log.specs.declared.entry.Entry.{Entry}
use Rattle.air_log.specs.declared.entry.Entry.TheVariants.{Sent, Heard, Tuned}
use Rattle.air_log.specs.Entries.{sendings_of}
use Rattle.lwb_base.specs.Sorting.{in_order, with_inserted}
use Rattle.lwb_base.proofs.Elements.{contains_head, contains_tail, contains_cases, filtered, not_in_none}
use Rattle.lwb_base.proofs.StableSorts.{map-in_order}
use Rattle.bus_time.specs.Reading.{beginning_in, beginning_of, starts_first}
use Rattle.bus_time.specs.Stamps.{begins_data, stamped, comes_first}
use Rattle.bus_time.specs.declared.beginning.Beginning.{Beginning}

-- what is read of each entry
by_test : (p : Numbers) (x : Sending) (b : Bool) (rest : List Beginning) (xs : List Sending) → rest ≡ map (beginning_of p) xs
    → cons_option (if b then Some (beginning_of p x) else None) rest ≡ map (beginning_of p) (if b then x ∷ xs else xs)
by_test p x true rest xs so_far = ap (λ (l : List Beginning). beginning_of p x ∷ l) so_far
by_test p x false rest xs so_far = so_far

read_all : (p : Numbers) (air : List Entry) → filter_map (beginning_in p) air ≡ map (beginning_of p) (filter begins_data (sendings_of air))
read_all p [] = refl
read_all p (Heard h ∷ air) = read_all p air
read_all p (Tuned t ∷ air) = read_all p air
read_all p (Sent x ∷ air) =
    by_test p x (begins_data x) (filter_map (beginning_in p) air) (filter begins_data (sendings_of air)) (read_all p air)

-- in their order
pub sorted_all : (p : Numbers) (air : List Entry) (bs sorted : List Beginning) → bs ≡ filter_map (beginning_in p) air → sorted ≡ in_order starts_first bs
    → sorted ≡ map (beginning_of p) (stamped p air)
sorted_all p air bs sorted read is =
    is ∙ ap (in_order starts_first) (read ∙ read_all p air) ∙ sym (map-in_order (beginning_of p) starts_first (filter begins_data (sendings_of air)))

-- an element that was put in its place
in_placed : {X : Type 0} (before : X → X → Bool) (y : X) (ys : List X) (x : X) → Contains (with_inserted before y ys) x → (y ≡ x) ⊎ Contains ys x
in_placed before y [] x there = contains_cases y [] x there
in_placed {X} before y (z ∷ zs) x there =
    cond_both (before z y) (z ∷ with_inserted before y zs) (y ∷ z ∷ zs) (λ (l : List X). Contains l x → (y ≡ x) ⊎ Contains (z ∷ zs) x)
    (λ earlier now. elim (contains_cases z (with_inserted before y zs) x now) [
      | inl first ↦ inr (subst (Contains (z ∷ zs)) first (contains_head z zs))
      | inr rest ↦ elim (in_placed before y zs x rest) [ inl is ↦ inl is | inr later ↦ inr (contains_tail z zs x later) ]
    ])
    (λ later now. contains_cases y (z ∷ zs) x now)
    there

pub in_order_of : {X : Type 0} (before : X → X → Bool) (xs : List X) (x : X) → Contains (in_order before xs) x → Contains xs x
in_order_of before [] x there = absurd (not_in_none x there)
in_order_of before (y ∷ ys) x there = elim (in_placed before y (in_order before ys) x there) [
  | inl is ↦ subst (Contains (y ∷ ys)) is (contains_head y ys)
  | inr rest ↦ contains_tail y ys x (in_order_of before ys x rest)
]

-- what is stamped begins data
pub stamped_begins : (p : Numbers) (air : List Entry) (x : Sending) → Contains (stamped p air) x → Contains (sendings_of air) x × (begins_data x ≡ true)
stamped_begins p air x there = filtered begins_data (sendings_of air) x (in_order_of (comes_first p) (filter begins_data (sendings_of air)) x there)

-- one more
zip_push : {X Y : Type 0} (R : X → Y → Type 0) (xs : List X) (ys : List Y) (x : X) (y : Y) → AllZip R xs ys → R x y → AllZip R (xs ++ x ∷ []) (ys ++ y ∷ [])
zip_push R [] [] x y all is = (is, tt)
zip_push R [] (b ∷ ys) x y all is = absurd all
zip_push R (a ∷ xs) [] x y all is = absurd all
zip_push R (a ∷ xs) (b ∷ ys) x y all is = (all.0, zip_push R xs ys x y all.1 is)

pub zip_more : {X Y : Type 0} (R : X → Y → Type 0) (xs : List X) (ys : List Y) (i : ℕ) (x : X) (y : Y) → i < length xs → x ≡ get_or xs i x
    → AllZip R (take i xs) ys → R x y → AllZip R (take (i + 1) xs) (ys ++ y ∷ [])
zip_more {X} {Y} R xs ys i x y less at so_far is =
    subst (λ (l : List X). AllZip R l (ys ++ y ∷ [])) (sym (take_more xs i x less ∙ ap (λ (z : X). take i xs ++ z ∷ []) (sym at)))
    (zip_push R (take i xs) ys x y so_far is)
