-- The bytes of owners, taken apart and put together.
use Rattle.std.proofs.Common.{◌≡◌, ℕ, suc, ◌+◌, ◌-◌, ◌*◌, ◌/◌, ◌%◌, ◌^◌, ◌<◌, ◌≤◌, List, [], ◌∷◌, true, length, take}
use Rattle.std.proofs.Common.{drop, get_or, Option, Some, None, refl, sym, ◌∙◌, ap, subst, arith}
use Rattle.std.proofs.lemmas.Bool.{and_parts, and_from, le-leb, ltb-true, lt-ltb}
use Rattle.std.proofs.Math.Nat.{pow-le-pow_right}
use Rattle.std.specs.Option.{SomeIff, IfSome}
use Rattle.arrayvec.specs.ArrayVec.{ArrayVec}
use Rattle.std.proofs.lemmas.List.{take_all, length-drop}
use Rattle.std.specs.List.{list_all}
use Rattle.lwb_packets.specs.Ranges.{between}
use Rattle.schedule_codec.specs.Packing.{fit, packed, Packs}
use Rattle.schedule_codec.specs.OwnerLists.{are_owners, differences, width_of, codes_bytes, owners_bytes}
use Rattle.schedule_codec.specs.Reading.{following, summed}
use Rattle.schedule_codec.proofs.Widths.{codes_of, length-differences, differences_fit, width_fits}
use Rattle.schedule_codec.proofs.Readings.{summed-differences, differences-summed, length-following, summed_ascends}

-- what bytes after the count say, if they are those of these owners
pub record CodesIn (count : ℕ) (bs cs : List ℕ) (c : ℕ) (ds : List ℕ) : Type 0 where
  pub whole : summed c ds ≡ cs
  pub all : list_all (between 4 803) (summed c ds) ≡ true
  pub long : 2 ≤ length bs
  pub start : 256 * get_or bs 0 0 + get_or bs 1 0 ≡ c * 16 + width_of ds
  pub narrow : width_of ds ≤ 10
  pub many : count ≡ length ds + 1
  pub few : count ≤ 40
  pub packs : Packs (width_of ds) (length ds) (drop 2 bs) ds

pub codes_in : (count : ℕ) (bs cs : List ℕ) → 0 < count → are_owners cs ≡ true → owners_bytes cs ≡ count ∷ bs
    → (c : ℕ) × (ds : List ℕ) × CodesIn count bs cs c ds
codes_in count bs [] some are is = let none = ap (λ (l : List ℕ). get_or l 0 0) is in absurd (omega arith)
codes_in count bs (c ∷ cs) some are is =
    let codes = codes_of c cs are in
    let ds : List ℕ = differences (c ∷ cs) in
    let fits = width_fits ds (differences_fit c cs codes.others) in
    let many : length (c ∷ cs) ≡ count = ap (λ (l : List ℕ). get_or l 0 0) is in
    let long = length-differences c cs in
    let few = codes.few in
    let whole : summed c ds ≡ c ∷ cs = summed-differences c cs codes.ascending in
    let tail : codes_bytes c ds ≡ bs = ap (λ (l : List ℕ). drop 1 l) is in
    let high : (c * 16 + width_of ds) / 256 ≡ get_or bs 0 0 = ap (λ (l : List ℕ). get_or l 0 0) tail in
    let low : (c * 16 + width_of ds) % 256 ≡ get_or bs 1 0 = ap (λ (l : List ℕ). get_or l 1 0) tail in
    let size = ap length tail in (
      c,
      ds,
      record {
        whole = whole;
        all = ap (λ (l : List ℕ). list_all (between 4 803) l) whole ∙ (and_parts _ _ (and_parts _ _ are).0).1;
        long = omega arith;
        start = omega arith;
        narrow = fits.1;
        many = omega arith;
        few = omega arith;
        packs = record { many = refl; fits = fits.0; bytes = ap (λ (l : List ℕ). drop 2 l) tail };
      },
    )

-- put together, they are the owners' bytes
pub codes_spelled : (count c : ℕ) (bs ds : List ℕ) → 2 ≤ length bs → get_or bs 1 0 < 256
    → 256 * get_or bs 0 0 + get_or bs 1 0 ≡ c * 16 + width_of ds → count ≡ length ds + 1 → packed (width_of ds) ds ≡ drop 2 bs
    → owners_bytes (summed c ds) ≡ count ∷ bs
codes_spelled count c [] ds long byte start many packs = absurd (omega arith)
codes_spelled count c (b ∷ []) ds long byte start many packs = absurd (omega arith)
codes_spelled count c (h ∷ l ∷ bs) ds long byte start many packs =
    let high : (c * 16 + width_of ds) / 256 ≡ h = omega arith in
    let low : (c * 16 + width_of ds) % 256 ≡ l = omega arith in
    let same = differences-summed c ds in
    let size : suc (length (following c ds)) ≡ count = omega (arith, length-following c ds) in
    ap (λ (es : List ℕ). suc (length (following c ds)) ∷ codes_bytes c es) same
    ∙ ap (λ (n : ℕ). n ∷ codes_bytes c ds) size
    ∙ ap (λ (n : ℕ). count ∷ n ∷ (c * 16 + width_of ds) % 256 ∷ packed (width_of ds) ds) high
    ∙ ap (λ (n : ℕ). count ∷ h ∷ n ∷ packed (width_of ds) ds) low
    ∙ ap (λ (rest : List ℕ). count ∷ h ∷ l ∷ rest) packs

pub summed_are_owners : (c : ℕ) (ds : List ℕ) → length ds ≤ 39 → list_all (between 4 803) (summed c ds) ≡ true → are_owners (summed c ds) ≡ true
summed_are_owners c ds few all = and_from _ _ (and_from _ _ (le-leb _ 40 (omega (arith, length-following c ds))) all) (summed_ascends c ds)

-- what a slice pattern leaves after two bytes
pub behind_two : (bs : List ℕ) → 2 ≤ length bs → take (length bs - 2) (drop 2 bs) ≡ drop 2 bs
behind_two bs long = take_all (length bs - 2) (drop 2 bs) (omega (arith, length-drop 2 bs))

-- the number in the first two bytes, as it is read
abbrev pub IsStart : ℕ → List ℕ → Type 0
IsStart start bs = start ≡ get_or bs 0 0 * 256 + (get_or bs 1 0 * 1 + 0)

pub unpackable : (count start : ℕ) (bs cs : List ℕ) (c : ℕ) (ds : List ℕ) → CodesIn count bs cs c ds → IsStart start bs
    → Packs (start % 16) (count - 1) (take (length bs - 2) (drop 2 bs)) ds
unpackable count start bs cs c ds codes is =
    let first = codes.start in
    let narrow = codes.narrow in
    let many = codes.many in
    let width : width_of ds ≡ start % 16 = omega arith in
    let size : length ds ≡ count - 1 = omega arith in
    record {
      many = size;
      fits = subst (λ w. fit w ds ≡ true) width codes.packs.fits;
      bytes = subst (λ w. packed w ds ≡ drop 2 bs) width codes.packs.bytes ∙ sym (behind_two bs codes.long);
    }

pub fit_wider : (w v : ℕ) (ds : List ℕ) → w ≤ v → fit w ds ≡ true → fit v ds ≡ true
fit_wider w v [] narrow fits = refl
fit_wider w v (d ∷ ds) narrow fits =
    let both = and_parts _ _ fits in
    let below = ltb-true d (2 ^ w) both.0 in
    let power : 2 ^ w ≤ 2 ^ v = pow-le-pow_right {n = 2} (omega arith) narrow in
    and_from _ _ (lt-ltb d (2 ^ v) (omega arith)) (fit_wider w v ds narrow both.1)

-- an answer that is there if and only if the fact holds
pub some_where : {X : Type 0} (o : Option X) (P : Type 0) (x : X) → SomeIff o P x → P → o ≡ Some x
some_where None P x none holds = absurd (none holds)
some_where (Some y) P x is holds = ap (λ z. Some z) is.1

pub if_some_where : {X : Type 0} (o : Option X) (P : Type 0) (x : X) (Q : X → Type 0) → SomeIff o P x → (P → Q x) → IfSome o Q
if_some_where None P x Q none then = tt
if_some_where (Some y) P x Q is then = subst Q (sym is.1) (then is.0)

-- the numbers that were read
items_of : Option (ArrayVec ℕ) → List ℕ
items_of None = []
items_of (Some v) = v.items

pub same_items : (v : ArrayVec ℕ) (ds : List ℕ) → Some v ≡ Some (record { items = ds }) → v.items ≡ ds
unfolding items_of
same_items v ds is = ap items_of is
