-- What is read off the bytes of a schedule is the schedule.
use Rattle.std.proofs.Common.{◌≡◌, ℕ, suc, ◌+◌, ◌-◌, ◌*◌, ◌/◌, ◌%◌, ◌^◌, ◌<◌, ◌≤◌, List, [], ◌∷◌, ◌++◌, Bool, true, false, ◌==◌, if◌then◌else◌}
use Rattle.std.proofs.Common.{length, length-append, drop, slice_index, flat_map, bytes_eq, Some, None, inl, inr, refl, sym, ◌∙◌, ap, subst, arith}
use Rattle.std.proofs.lemmas.Bool.{and_parts, and_from, leb-true, le-leb, eqb-true, eq-eqb, cond-true, cond-false, cases_eq, ne_eqb, false≢true}
use Rattle.std.proofs.lemmas.List.{drop_at, drop-drop}
use Rattle.std.specs.List.{list_all}
use Rattle.lwb_base.specs.Messages.{Ask, Plan, Schedule}
use Rattle.schedule_codec.specs.Packing.{fit, packed_number, digits, packed, bytes_for}
use Rattle.schedule_codec.specs.AckLists.{are_acks, ask_bytes, ask_in_range}
use Rattle.schedule_codec.specs.OwnerLists.{are_owners, ascend, differences, width_of, owners_bytes, owners_length}
use Rattle.schedule_codec.specs.Spelling.{schedule_spelling, schedule_in_range, spells, acks_bytes, single_ack, most_acks, length_of, slot_fits, IsWritable}
use Rattle.schedule_codec.specs.Reading.{following, summed, owners_in, ask_in, asks_in, said, schedule_of}
use Rattle.schedule_codec.proofs.Numbers.{unpacked, length-packed}
use Rattle.schedule_codec.proofs.Widths.{codes_of, differences_fit, width_fits, length-differences}

pub summed-differences : (c : ℕ) (cs : List ℕ) → ascend (c ∷ cs) ≡ true → summed c (differences (c ∷ cs)) ≡ c ∷ cs
summed-differences c [] ascending = refl
summed-differences c (d ∷ cs) ascending =
    let both = and_parts _ _ ascending in
    let above = leb-true c d both.0 in
    let next : c + (d - c) ≡ d = omega arith in
    ap (λ n. c ∷ summed n (differences (d ∷ cs))) next ∙ ap (λ l. c ∷ l) (summed-differences d cs both.1)

pub differences-summed : (c : ℕ) (ds : List ℕ) → differences (summed c ds) ≡ ds
differences-summed c [] = refl
differences-summed c (d ∷ ds) = let step : c + d - c ≡ d = omega arith in ap (λ n. n ∷ differences (summed (c + d) ds)) step
    ∙ ap (λ l. d ∷ l) (differences-summed (c + d) ds)

pub length-following : (c : ℕ) (ds : List ℕ) → length (following c ds) ≡ length ds
length-following c [] = refl
length-following c (d ∷ ds) = ap suc (length-following (c + d) ds)

pub summed_ascends : (c : ℕ) (ds : List ℕ) → ascend (summed c ds) ≡ true
summed_ascends c [] = refl
summed_ascends c (d ∷ ds) = and_from _ _ (le-leb c (c + d) (omega arith)) (summed_ascends (c + d) ds)

-- the first code and its width in one number, and the packed differences
codes_read : (first c w n : ℕ) (ds rest : List ℕ) → first ≡ c * 16 + w → w < 16 → n ≡ length ds → rest ≡ packed w ds → fit w ds ≡ true
    → summed (first / 16) (digits (first % 16) n (packed_number 8 rest / 2 ^ (8 * length rest - n * (first % 16)))) ≡ summed c ds
codes_read first c w n ds rest is low many packs fits =
    let code : first / 16 ≡ c = omega arith in
    let width : first % 16 ≡ w = omega arith in
    rw (code, width, many, packs) (ap (λ l. summed c l) (unpacked w ds fits))

pub owners_back : (cs : List ℕ) → are_owners cs ≡ true → owners_in (owners_bytes cs) ≡ cs
owners_back [] are = refl
owners_back (c ∷ cs) are =
    let codes = codes_of c cs are in
    let ds : List ℕ = differences (c ∷ cs) in
    let fits = width_fits ds (differences_fit c cs codes.others) in
    let w : ℕ = width_of ds in
    let first : 256 * ((c * 16 + w) / 256) + (c * 16 + w) % 256 ≡ c * 16 + w = omega arith in
    let many : suc (length cs) - 1 ≡ length ds = omega (arith, length-differences c cs) in
    let some : (suc (length cs) == 0) ≡ false = ne_eqb (suc (length cs)) 0 (λ none. omega arith) in
    cond-false (suc (length cs) == 0) _ _ some
    ∙ codes_read (256 * ((c * 16 + w) / 256) + (c * 16 + w) % 256) c w (suc (length cs) - 1) ds (packed w ds) first (omega arith) many refl fits.0
    ∙ summed-differences c cs codes.ascending

pub asks_back : (acks : List Ask) (rest : List ℕ) → asks_in (length acks) (flat_map ask_bytes acks ++ rest) ≡ acks
unfolding asks_in
asks_back [] rest = refl
asks_back (a ∷ acks) rest = ap (λ l. a ∷ l) (asks_back acks rest)

pub length-asks : (acks : List Ask) → length (flat_map ask_bytes acks) ≡ 4 * length acks
length-asks [] = refl
length-asks (a ∷ acks) = omega (arith, length-asks acks)

-- the acknowledgements of version 1
abbrev single_in : List ℕ → List Ask
single_in bs = if slice_index bs 0 == 0 then [] else ask_in bs ∷ []

single_back : (acks : List Ask) (rest : List ℕ) → length acks ≤ 1 → list_all ask_in_range acks ≡ true → single_in (single_ack acks ++ rest) ≡ acks
single_back [] rest few all = refl
single_back (a ∷ []) rest few all =
    let node = leb-true 1 a.node (and_parts _ _ (and_parts _ _ (and_parts _ _ (and_parts _ _ (and_parts _ _ all).0).0).0).0).0 in
    cond-false (a.node == 0) [] (a ∷ []) (ne_eqb a.node 0 (λ none. omega arith))
single_back (a ∷ b ∷ acks) rest few all = absurd (omega arith)

-- a schedule by its parts
abbrev schedule : ℕ → ℕ → ℕ → ℕ → List Ask → List ℕ → Schedule
schedule rank boot gap contend acks owners = record { gap = gap; plan = record { rank = rank; boot = boot; contend = contend; acks = acks; owners = owners } }

-- the parts that schedules in range have
pub record Parts (s : Schedule) (slot counter : ℕ) : Type 0 where
  pub count : counter ≤ 11
  pub place : slot_fits s.gap s.plan.contend slot ≡ true
  pub rank : s.plan.rank ≤ 3
  pub boot : (1 ≤ s.plan.boot) × (s.plan.boot ≤ 200)
  pub gap : s.gap ≤ 4
  pub contend : s.plan.contend ≤ 4
  pub few : length s.plan.acks ≤ most_acks s.plan.contend
  pub acks : list_all ask_in_range s.plan.acks ≡ true
  pub ordered : are_acks s.plan.acks ≡ true
  pub owners : are_owners s.plan.owners ≡ true

pub parts_of : (s : Schedule) (slot counter : ℕ) → schedule_in_range s slot counter ≡ true → Parts s slot counter
parts_of s slot counter is =
    let owners = and_parts _ _ is in
    let ordered = and_parts _ _ owners.0 in
    let all = and_parts _ _ ordered.0 in
    let few = and_parts _ _ all.0 in
    let contend = and_parts _ _ few.0 in
    let boot = and_parts _ _ contend.0 in
    let rank = and_parts _ _ boot.0 in
    let gap = and_parts _ _ rank.0 in
    let place = and_parts _ _ gap.0 in
    let within = and_parts _ _ boot.1 in
    record {
      count = leb-true counter 11 place.0;
      place = place.1;
      rank = leb-true _ 3 rank.1;
      boot = (leb-true 1 _ within.0, leb-true _ 200 within.1);
      gap = leb-true _ 4 gap.1;
      contend = leb-true _ 4 contend.1;
      few = leb-true _ _ few.1;
      acks = all.1;
      ordered = ordered.1;
      owners = owners.1;
    }

pub range_from : (s : Schedule) (slot counter : ℕ) → Parts s slot counter → schedule_in_range s slot counter ≡ true
range_from s slot counter p =
    let within = and_from _ _ (le-leb 1 _ p.boot.0) (le-leb _ 200 p.boot.1) in
    let head = and_from _ _ (and_from _ _ (le-leb counter 11 p.count) p.place) (le-leb _ 4 p.gap) in
    let host = and_from _ _ (and_from _ _ (and_from _ _ head (le-leb _ 3 p.rank)) within) (le-leb _ 4 p.contend) in
    and_from _ _ (and_from _ _ (and_from _ _ (and_from _ _ host (le-leb _ _ p.few)) p.acks) p.ordered) p.owners

single_drop : (acks : List Ask) (rest : List ℕ) → drop 4 (single_ack acks ++ rest) ≡ rest
single_drop [] rest = refl
single_drop (a ∷ acks) rest = refl

-- schedules with equal parts
same_parts : (boot : ℕ) (rank rank' gap gap' contend contend' : ℕ) (acks acks' : List Ask) (owners owners' : List ℕ) → rank ≡ rank'
    → gap ≡ gap' → contend ≡ contend' → acks ≡ acks' → owners ≡ owners'
    → schedule rank boot gap contend acks owners ≡ schedule rank' boot gap' contend' acks' owners'
same_parts boot rank rank' gap gap' contend contend' acks acks' owners owners' p q r t u =
    ap (λ n. schedule n boot gap contend acks owners) p ∙ ap (λ n. schedule rank' boot n contend acks owners) q
    ∙ ap (λ n. schedule rank' boot gap' n acks owners) r ∙ ap (λ l. schedule rank' boot gap' contend' l owners) t
    ∙ ap (λ l. schedule rank' boot gap' contend' acks' l) u

module _ (s : Schedule) (slot counter : ℕ) (is : schedule_in_range s slot counter ≡ true) where
  abbrev p : Plan
  p = s.plan

  abbrev mixed : ℕ
  mixed = p.rank * 16 + s.gap

  abbrev said_with : ℕ → List ℕ → Schedule
  said_with kind acks = said (kind ∷ slot ∷ counter ∷ mixed ∷ p.boot ∷ acks ++ owners_bytes p.owners)

  said_one : p.contend ≡ 0 → said_with 1 (single_ack p.acks) ≡ s
  said_one none =
      let parts = parts_of s slot counter is in
      let rest : List ℕ = owners_bytes p.owners in
      let tail : List ℕ = single_ack p.acks ++ rest in
      let most : most_acks p.contend ≡ 1 = cond-true (p.contend == 0) 1 4 (eq-eqb p.contend 0 none) in
      same_parts p.boot (mixed / 16) p.rank (mixed % 16) s.gap 0 p.contend (single_in tail) p.acks (owners_in (drop 4 tail)) p.owners
      (omega arith) (omega arith) (sym none) (single_back p.acks rest (omega arith) parts.acks)
      (ap (λ l. owners_in l) (single_drop p.acks rest) ∙ owners_back p.owners parts.owners)

  said_two : (p.contend ≡ 0 → ⊥) → said_with 4 (((p.contend - 1) * 16 + length p.acks) ∷ flat_map ask_bytes p.acks) ≡ s
  said_two some =
      let parts = parts_of s slot counter is in
      let rest : List ℕ = owners_bytes p.owners in
      let head : ℕ = (p.contend - 1) * 16 + length p.acks in
      let tail : List ℕ = flat_map ask_bytes p.acks ++ rest in
      let whole : List ℕ = 4 ∷ slot ∷ counter ∷ mixed ∷ p.boot ∷ head ∷ tail in
      let most : most_acks p.contend ≡ 4 = cond-false (p.contend == 0) 1 4 (ne_eqb p.contend 0 some) in
      let count : head % 16 ≡ length p.acks = omega arith in
      let behind : drop (6 + 4 * (head % 16)) whole ≡ rest =
      sym (drop-drop (4 * (head % 16)) 6 whole) ∙ ap (λ n. drop (4 * n) tail) count
      ∙ drop_at (flat_map ask_bytes p.acks) rest (4 * length p.acks) (length-asks p.acks) in
      same_parts p.boot (mixed / 16) p.rank (mixed % 16) s.gap (head / 16 + 1) p.contend (asks_in (head % 16) tail) p.acks
      (owners_in (drop (6 + 4 * (head % 16)) whole)) p.owners
      (omega arith) (omega arith) (omega arith) (ap (λ n. asks_in n tail) count ∙ asks_back p.acks rest)
      (ap (λ l. owners_in l) behind ∙ owners_back p.owners parts.owners)

  pub said_back : said (schedule_spelling s slot counter) ≡ s
  said_back =
      elim (cases_eq p.contend 0) [
        | inl none ↦
            ap (λ k. said_with k (acks_bytes p.contend p.acks)) (cond-true (p.contend == 0) 1 4 (eq-eqb p.contend 0 none))
            ∙ ap (λ (l : List ℕ). said_with 1 l) (cond-true (p.contend == 0) _ _ (eq-eqb p.contend 0 none))
            ∙ said_one none
        | inr some ↦
            ap (λ k. said_with k (acks_bytes p.contend p.acks)) (cond-false (p.contend == 0) 1 4 (ne_eqb p.contend 0 some))
            ∙ ap (λ (l : List ℕ). said_with 4 l) (cond-false (p.contend == 0) _ _ (ne_eqb p.contend 0 some))
            ∙ said_two some
      ]

pub same_bytes : (xs : List ℕ) → bytes_eq xs xs ≡ true
same_bytes [] = refl
same_bytes (x ∷ xs) = and_from _ _ (eq-eqb x x refl) (same_bytes xs)

pub bytes_same : (xs ys : List ℕ) → bytes_eq xs ys ≡ true → xs ≡ ys
bytes_same [] [] is = refl
bytes_same [] (y ∷ ys) is = absurd (false≢true is)
bytes_same (x ∷ xs) [] is = absurd (false≢true is)
bytes_same (x ∷ xs) (y ∷ ys) is =
    let both = and_parts _ _ is in
    ap (λ n. n ∷ xs) (eqb-true x y both.0) ∙ ap (λ l. y ∷ l) (bytes_same xs ys both.1)

-- a schedule that spells these bytes is the one that they are read as
pub read_as : (bs : List ℕ) (s : Schedule) → spells bs s ≡ true → schedule_of bs ≡ Some s
unfolding schedule_of
read_as bs s is =
    let slot : ℕ = slice_index bs 1 in
    let counter : ℕ = slice_index bs 2 in
    let both = and_parts _ _ is in
    let same : schedule_spelling s slot counter ≡ bs = bytes_same (schedule_spelling s slot counter) bs both.1 in
    let back : said bs ≡ s = ap (λ b. said b) (sym same) ∙ said_back s slot counter both.0 in
    ap (λ t. if spells bs t then Some t else None) back ∙ cond-true (spells bs s) (Some s) None is

-- and what they are read as spells them
pub spelled_by : (bs : List ℕ) (s : Schedule) → schedule_of bs ≡ Some s → spells bs s ≡ true
unfolding schedule_of
spelled_by bs s is = by_test (spells bs (said bs)) refl is
  where
    by_test : (b : Bool) → spells bs (said bs) ≡ b → (if b then Some (said bs) else None) ≡ Some s → spells bs s ≡ true
    by_test true test is = let same : said bs ≡ s = cc in subst (λ t. spells bs t ≡ true) same test
    by_test false test is = cc

pub spells_own : (s : Schedule) (slot counter : ℕ) → schedule_in_range s slot counter ≡ true → spells (schedule_spelling s slot counter) s ≡ true
spells_own s slot counter is = and_from _ _ is (same_bytes (schedule_spelling s slot counter))

length-owners : (cs : List ℕ) → length (owners_bytes cs) ≡ owners_length cs
length-owners [] = refl
length-owners (c ∷ cs) =
    let ds : List ℕ = differences (c ∷ cs) in
    let bits = ap (λ n. bytes_for (n * width_of ds)) (length-differences c cs) in
    omega (arith, length-packed (width_of ds) ds)

length-single : (acks : List Ask) → length (single_ack acks) ≡ 4
length-single [] = refl
length-single (a ∷ acks) = refl

pub length-spelling : (s : Schedule) (slot counter : ℕ) → length (schedule_spelling s slot counter) ≡ length_of s
length-spelling s slot counter =
    let acks = s.plan.acks in
    let rest = length-owners s.plan.owners in
    let whole = length-append (acks_bytes s.plan.contend acks) (owners_bytes s.plan.owners) in
    let first : 5 + length (acks_bytes s.plan.contend acks) ≡ (if s.plan.contend == 0 then 9 else 6 + 4 * length acks) =
    either (s.plan.contend == 0) (single_ack acks) (((s.plan.contend - 1) * 16 + length acks) ∷ flat_map ask_bytes acks) 9
    (6 + 4 * length acks) (omega (arith, length-single acks)) (omega (arith, length-asks acks)) in
    omega arith
  where
    either : (b : Bool) (xs ys : List ℕ) (m n : ℕ) → 5 + length xs ≡ m → 5 + length ys ≡ n
        → ◌≡◌ {A = ℕ} (5 + length (if b then xs else ys)) (if b then m else n)
    either true xs ys m n p q = p
    either false xs ys m n p q = q

-- what may be written is in range
pub writable_in_range : (s : Schedule) (slot : ℕ) → IsWritable s slot → s.plan.rank ≤ 3 → are_acks s.plan.acks ≡ true
    → are_owners s.plan.owners ≡ true → schedule_in_range s slot 0 ≡ true
writable_in_range s slot w rank acks owners =
    range_from s slot 0 (record {
      count = omega arith;
      place = w.place;
      rank = rank;
      boot = w.boot;
      gap = w.gap;
      contend = w.contend;
      few = w.few;
      acks = w.acks;
      ordered = acks;
      owners = owners;
    })

pub schedule_spelled : (s : Schedule) (slot counter : ℕ) → schedule_in_range s slot counter ≡ true → schedule_of (schedule_spelling s slot counter) ≡ Some s
schedule_spelled s slot counter is = read_as (schedule_spelling s slot counter) s (spells_own s slot counter is)
