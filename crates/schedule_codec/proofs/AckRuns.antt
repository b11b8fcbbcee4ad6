-- Acknowledgements that are read one after another.
use Rattle.std.proofs.Common.{◌≡◌, ℕ, ◌+◌, ◌-◌, ◌*◌, ◌<◌, ◌≤◌, List, [], ◌∷◌, ◌++◌, true, length, take, drop, get_or, slice_get, flat_map, Option}
use Rattle.std.proofs.Common.{Some, None, refl, sym, ◌∙◌, ap, subst, arith, append_assoc, length-append, take-append-drop, nat_le, nat_lt}
use Rattle.std.proofs.lemmas.Bool.{and_parts, and_from, leb-true, lt-ltb}
use Rattle.std.proofs.lemmas.List.{append-nil, nil_from_length, length-drop}
use Rattle.std.proofs.lemmas.List.Concat.{flat_map-append}
use Rattle.std.proofs.lemmas.List.Folds.{list_all-append}
use Rattle.std.specs.List.{list_all}
use Rattle.lwb_base.specs.Messages.{Ask}
use Rattle.schedule_codec.specs.AckLists.{are_acks, strictly_ascend, takes_ack, may_follow, ask_in_range, ask_bytes}
use Rattle.schedule_codec.proofs.Lists.{are_acks_push, last_of_rest}
use Rattle.schedule_codec.proofs.Readings.{length-asks}

abbrev pub flat : List Ask → List ℕ
flat acks = flat_map ask_bytes acks

-- the acknowledgements read so far, and the bytes after them
pub record Read (count : ℕ) (bytes : List ℕ) (acks : List Ask) (rest : List ℕ) (i : ℕ) : Type 0 where
  pub same : flat acks ++ rest ≡ bytes
  pub many : length acks ≡ i
  pub all : list_all ask_in_range acks ≡ true
  pub ordered : are_acks acks ≡ true
  pub left : length rest + 4 * i ≡ 4 * count

pub reads_none : (count : ℕ) (bytes : List ℕ) (acks : List Ask) → acks ≡ [] → length bytes ≡ 4 * count → Read count bytes acks bytes 0
reads_none count bytes acks none long =
    subst (λ (l : List Ask). Read count bytes l bytes 0) (sym none) (record { same = refl; many = refl; all = refl; ordered = refl; left = omega arith })

pub reads_more : (count : ℕ) (bytes : List ℕ) (acks new : List Ask) (rest : List ℕ) (i : ℕ) (a : Ask) → Read count bytes acks rest i
    → i < count → ask_in_range a ≡ true → ask_bytes a ≡ take 4 rest → takes_ack acks a ≡ true
    → new ≡ acks ++ a ∷ [] → Read count bytes new (drop 4 rest) (i + 1)
reads_more count bytes acks new rest i a read below range is takes list =
    let left = read.left in
    record {
      same = ap (λ l. flat l ++ drop 4 rest) list
          ∙ ap (λ l. l ++ drop 4 rest) (flat_map-append ask_bytes acks (a ∷ []))
          ∙ append_assoc (flat acks) (ask_bytes a) (drop 4 rest)
          ∙ ap (λ l. flat acks ++ (l ++ drop 4 rest)) is
          ∙ ap (λ l. flat acks ++ l) (take-append-drop 4 rest)
          ∙ read.same;
      many = ap length list ∙ omega (arith, length-append acks (a ∷ []), read.many);
      all = ap (λ l. list_all ask_in_range l) list ∙ list_all-append ask_in_range acks (a ∷ []) ∙ and_from _ _ read.all (and_from _ _ range refl);
      ordered = ap (λ l. are_acks l) list ∙ are_acks_push acks a read.ordered takes;
      left = omega (arith, length-drop 4 rest);
    }

pub reads_all : (count : ℕ) (bytes : List ℕ) (acks : List Ask) (rest : List ℕ) (i : ℕ) → Read count bytes acks rest i → count ≤ i → flat acks ≡ bytes
reads_all count bytes acks rest i read end =
    let left = read.left in
    sym (append-nil (flat acks)) ∙ ap (λ l. flat acks ++ l) (sym (nil_from_length rest (omega arith))) ∙ read.same

same_ask : (x y : Ask) → x.node ≡ y.node → x.boot ≡ y.boot → x.stream ≡ y.stream → x.interval ≡ y.interval → x ≡ y
same_ask x y node boot stream interval =
    let part : ℕ → ℕ → ℕ → ℕ → Ask = λ a b c d. record { node = a; boot = b; stream = c; interval = d } in
    ap (λ n. part n x.boot x.stream x.interval) node ∙ ap (λ n. part y.node n x.stream x.interval) boot
    ∙ ap (λ n. part y.node y.boot n x.interval) stream ∙ ap (λ n. part y.node y.boot y.stream n) interval

first_same : (x y : Ask) (xs ys : List ℕ) → ask_bytes x ++ xs ≡ ask_bytes y ++ ys → (x ≡ y) × (xs ≡ ys)
first_same x y xs ys is = (
  same_ask x y (ap (λ (l : List ℕ). get_or l 0 0) is) (ap (λ (l : List ℕ). get_or l 1 0) is) (ap (λ (l : List ℕ). get_or l 2 0) is)
      (ap (λ (l : List ℕ). get_or l 3 0) is),
  ap (λ (l : List ℕ). drop 4 l) is,
)

-- acknowledgements with the same bytes at their front: one more follows
pub one_more : (acks whole : List Ask) (rest : List ℕ) → flat acks ++ rest ≡ flat whole → length acks < length whole
    → (a : Ask) × (more : List Ask) × (whole ≡ acks ++ a ∷ more) × (rest ≡ ask_bytes a ++ flat more)
one_more [] [] rest is longer = absurd (omega arith)
one_more [] (a ∷ more) rest is longer = (a, more, refl, is)
one_more (x ∷ acks) [] rest is longer = absurd (omega arith)
one_more (x ∷ acks) (y ∷ whole) rest is longer =
    let same = first_same x y (flat acks ++ rest) (flat whole) is in
    let next = one_more acks whole rest same.1 (omega arith) in
    (next.0, next.1, ap (λ z. z ∷ whole) (sym same.0) ∙ ap (λ l. x ∷ l) next.2, next.3)

pub flat_same : (xs ys : List Ask) → flat xs ≡ flat ys → xs ≡ ys
flat_same [] [] is = refl
flat_same [] (y ∷ ys) is = absurd (omega (arith, ap length is))
flat_same (x ∷ xs) [] is = absurd (omega (arith, ap length is))
flat_same (x ∷ xs) (y ∷ ys) is =
    let same = first_same x y (flat xs) (flat ys) is in
    ap (λ z. z ∷ xs) same.0 ∙ ap (λ l. y ∷ l) (flat_same xs ys same.1)

follows_in : (acks more : List Ask) (a : Ask) → strictly_ascend (acks ++ a ∷ more) ≡ true → may_follow (slice_get acks (length acks - 1)) a ≡ true
follows_in [] more a ascend = refl
follows_in (b ∷ []) more a ascend = (and_parts _ _ ascend).0
follows_in (b ∷ d ∷ acks) more a ascend = ap (λ o. may_follow o a) (last_of_rest b d acks) ∙ follows_in (d ∷ acks) more a (and_parts _ _ ascend).1

-- the one that follows, if these bytes are those of a whole list
pub record Follows (acks : List Ask) (rest : List ℕ) (a : Ask) : Type 0 where
  pub range : ask_in_range a ≡ true
  pub bytes : ask_bytes a ≡ take 4 rest
  pub takes : takes_ack acks a ≡ true

follows_from : (acks whole more : List Ask) (rest : List ℕ) (a : Ask) → whole ≡ acks ++ a ∷ more → rest ≡ ask_bytes a ++ flat more
    → list_all ask_in_range whole ≡ true → are_acks whole ≡ true → Follows acks rest a
follows_from acks whole more rest a is behind all ordered =
    let joined : list_all ask_in_range (acks ++ a ∷ more) ≡ true = ap (λ l. list_all ask_in_range l) (sym is) ∙ all in
    let ranges = and_parts (list_all ask_in_range acks) (list_all ask_in_range (a ∷ more)) (sym (list_all-append ask_in_range acks (a ∷ more)) ∙ joined) in
    let ordering : are_acks (acks ++ a ∷ more) ≡ true = ap (λ l. are_acks l) (sym is) ∙ ordered in
    let order = and_parts (nat_le (length (acks ++ a ∷ more)) 4) (strictly_ascend (acks ++ a ∷ more)) ordering in
    let few : length (acks ++ a ∷ more) ≤ 4 = leb-true (length (acks ++ a ∷ more)) 4 order.0 in
    let room : length acks < 4 = omega (arith, length-append acks (a ∷ more)) in
    record {
      range = (and_parts (ask_in_range a) (list_all ask_in_range more) ranges.1).0;
      bytes = ap (λ (l : List ℕ). take 4 l) (sym behind);
      takes = and_from (nat_lt (length acks) 4) (may_follow (slice_get acks (length acks - 1)) a) (lt-ltb (length acks) 4 room)
          (follows_in acks more a order.1);
    }

pub next_in : (count : ℕ) (bytes : List ℕ) (acks whole : List Ask) (rest : List ℕ) (i : ℕ) → Read count bytes acks rest i → i < count
    → list_all ask_in_range whole ≡ true → are_acks whole ≡ true → flat whole ≡ bytes
    → (a : Ask) × Follows acks rest a
next_in count bytes acks whole rest i read below all ordered is =
    let left = read.left in
    let many = read.many in
    let total = ap length read.same in
    let joined = length-append (flat acks) rest in
    let size : 4 * length whole ≡ 4 * count = omega (arith, length-asks whole, ap length is, length-asks acks) in
    let longer : length acks < length whole = omega arith in
    let next = one_more acks whole rest (read.same ∙ sym is) longer in
    (next.0, follows_from acks whole next.1 rest next.0 next.2 next.3 all ordered)

value_or : Ask → Option Ask → Ask
value_or d None = d
value_or d (Some a) = a

pub same_some : (x y : Ask) → Some x ≡ Some y → x ≡ y
unfolding value_or
same_some x y is = ap (λ o. value_or x o) is
