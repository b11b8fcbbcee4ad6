-- Lines and words, as the code finds them.
use Rattle.std.proofs.Common.{◌≡◌, ℕ, ◌+◌, ◌<◌, Option, List, [], ◌∷◌, Bool, true, false, not, nat_lt, ◌==◌, Some, None, Result, Ok, Err}
use Rattle.std.proofs.Common.{◌++◌, length, take, drop, position, MatchResult, is_ok, refl, sym, ◌∙◌, ap, subst, arith, cond, All, append-nil}
use Rattle.std.proofs.Common.{append_assoc, inl, inr}
use Rattle.std.proofs.lemmas.Bool.{cases_lt, cases_order, eqb-true, le-ltb, lt-ltb, ltb-true, ltb-false, false_from_ne_true, cond-true, cond-false}
use Rattle.std.proofs.lemmas.Bool.{ne_eqb, not-true, true≢false}
use Rattle.std.proofs.lemmas.List.Splits.{slice_split_at, slice_split_first, slice_split_none, length-slice_split}
use Rattle.std.proofs.lemmas.List.Sums.{prefix_len_passes, split_at_first, fails_before_first, passes_at_first}
use Rattle.std.proofs.lemmas.Grind.{common_steps}
use Rattle.std.proofs.lemmas.Option.{cond_some}
use Rattle.std.proofs.lemmas.Str.{IsUtf8-from_is_utf8, is_utf8-from_IsUtf8}
use Rattle.std.specs.List.{slice_split, position_or_len, before_first, after_first}
use Rattle.std.specs.Str.{IsUtf8, is_utf8}
use Rattle.std.specs.Str.Lines.{lines, lines_of_parts, strip_carriage_return}
use Rattle.memchr.specs.Find.{IsFirstByte}
use Rattle.text_readers.specs.LineEnds.{EndLines, IsLineAndRest}

abbrev pub is_feed : ℕ → Bool
is_feed b = b == 10

-- the first place that a search finds is the one that `position` says
pub first_place : (p : ℕ → Bool) (bytes : List ℕ) (r : Option ℕ) → IsFirstByte p bytes r → r ≡ position p bytes
first_place p bytes None none = elim (cases_lt (position_or_len p bytes) (length bytes)) [
  | inl below ↦ absurd (none (position_or_len p bytes) (omega arith) below (passes_at_first p bytes 0 below))
  | inr past ↦ sym (cond-false (nat_lt (position_or_len p bytes) (length bytes)) (Some (position_or_len p bytes)) None (le-ltb _ _ past))
]
first_place p bytes (Some k) found =
    let first : ℕ = position_or_len p bytes in
    let is : first ≡ k = elim (cases_order first k) [
      | inl same ↦ same
      | inr apart ↦
          elim apart [
            | inl less ↦ absurd (found.0.before first (omega arith) less (passes_at_first p bytes 0 (omega (arith, less, found.0.high))))
            | inr more ↦ absurd (true≢false (sym found.1 ∙ fails_before_first p bytes k 0 more))
          ]
    ] in
    let below : nat_lt first (length bytes) ≡ true = lt-ltb first (length bytes) (omega (arith, is, found.0.high)) in
    ap Some (sym is) ∙ sym (cond-true (nat_lt first (length bytes)) (Some first) None below)

-- a part that others follow is a line
pub part_is_line : (part : List ℕ) (parts : List (List ℕ)) → 0 < length parts
    → lines_of_parts (part ∷ parts) ≡ strip_carriage_return part ∷ lines_of_parts parts
part_is_line part [] some = absurd (omega arith)
part_is_line part (next ∷ parts) some = refl

-- the first line ends at the first line feed
pub line_ends : (bytes : List ℕ) (end : ℕ) → Some end ≡ position is_feed bytes → lines bytes ≡ strip_carriage_return (take end bytes)
    ∷ lines (drop (end + 1) bytes)
line_ends bytes end is =
    let at = cond_some (nat_lt (position_or_len is_feed bytes) (length bytes)) (position_or_len is_feed bytes) end (sym is) in
    let cut = slice_split_first is_feed bytes 0 (ltb-true _ _ at.0) in
    let more : 0 < length (slice_split is_feed (after_first is_feed bytes)) = omega (arith, length-slice_split is_feed (after_first is_feed bytes)) in
    ap lines_of_parts cut ∙ part_is_line (before_first is_feed bytes) (slice_split is_feed (after_first is_feed bytes)) more
    ∙ ap (λ (n : ℕ). strip_carriage_return (take n bytes) ∷ lines (drop (n + 1) bytes)) at.1

-- what is before a line feed is a line, whatever follows it
at_feed : (front more : List ℕ) → All (λ b. is_feed b ≡ false) front → lines (front ++ 10 ∷ more) ≡ strip_carriage_return front ∷ lines more
at_feed front more none =
    ap lines_of_parts (slice_split_at is_feed front 10 more none refl)
    ∙ part_is_line front (slice_split is_feed more) (omega (arith, length-slice_split is_feed more))

-- a line feed ends a line
feed_ends : (front : List ℕ) → All (λ b. is_feed b ≡ false) front → EndLines (front ++ 10 ∷ [])
feed_ends front none more =
    ap lines (append_assoc front (10 ∷ []) more) ∙ at_feed front more none
    ∙ ap (λ (ls : List (List ℕ)). ls ++ lines more) (sym (at_feed front [] none))

-- the bytes are cut after the first line feed
pub cut_at_feed : (bytes : List ℕ) (end : ℕ) → Some end ≡ position is_feed bytes
    → IsLineAndRest bytes (strip_carriage_return (take end bytes)) (drop (end + 1) bytes)
cut_at_feed bytes end is =
    let at = cond_some (nat_lt (position_or_len is_feed bytes) (length bytes)) (position_or_len is_feed bytes) end (sym is) in
    let below : position_or_len is_feed bytes < length bytes = ltb-true _ _ at.0 in
    let none : All (λ b. is_feed b ≡ false) (before_first is_feed bytes) =
    λ k d less. (let earlier = fails_before_first is_feed bytes k d (grind (arith, common_steps)) in grind (arith, common_steps)) in
    let feed = eqb-true _ 10 (passes_at_first is_feed bytes 0 below) in
    let front : List ℕ = before_first is_feed bytes ++ 10 ∷ [] in
    let whole : bytes ≡ front ++ after_first is_feed bytes =
    split_at_first is_feed bytes 0 below ∙ ap (λ (b : ℕ). before_first is_feed bytes ++ b ∷ after_first is_feed bytes) feed
    ∙ sym (append_assoc (before_first is_feed bytes) (10 ∷ []) (after_first is_feed bytes)) in
    let cut : IsLineAndRest bytes (strip_carriage_return (before_first is_feed bytes)) (after_first is_feed bytes) = record {
      front = front;
      whole = whole;
      is = at_feed (before_first is_feed bytes) [] none;
      ends = inl (feed_ends (before_first is_feed bytes) none);
    } in
    subst (λ (n : ℕ). IsLineAndRest bytes (strip_carriage_return (take n bytes)) (drop (n + 1) bytes)) at.1 cut

none_is : (n : ℕ) (b : Bool) → None ≡ cond b (Some n) None → b ≡ false
none_is n true is = cc
none_is n false is = refl

-- no byte passes where none has a place
pub none_passes : (p : ℕ → Bool) (bytes : List ℕ) → None ≡ position p bytes → All (λ b. p b ≡ false) bytes
none_passes p bytes is k d below =
    let past = ltb-false _ _ (none_is (position_or_len p bytes) (nat_lt (position_or_len p bytes) (length bytes)) is) in
    not-true _ (prefix_len_passes (λ b. not (p b)) bytes k d (omega (arith, past, below)))

one_part : (bytes : List ℕ) → 0 < length bytes → lines_of_parts (bytes ∷ []) ≡ bytes ∷ []
one_part bytes some = cond-false (length bytes == 0) [] (bytes ∷ []) (ne_eqb (length bytes) 0 (λ none. omega arith))

-- without a line feed the whole is the one line
pub line_is_last : (bytes : List ℕ) → 0 < length bytes → None ≡ position is_feed bytes → lines bytes ≡ bytes ∷ []
line_is_last bytes some is =
    ap lines_of_parts (slice_split_none is_feed bytes (none_passes is_feed bytes is)) ∙ one_part bytes some

-- without a line feed nothing ends it
pub cut_at_end : (bytes : List ℕ) → 0 < length bytes → None ≡ position is_feed bytes → IsLineAndRest bytes bytes []
cut_at_end bytes some is = record {
  front = bytes;
  whole = sym (append-nil bytes);
  is = line_is_last bytes some is;
  ends = inr refl;
}

pub is_text : {S E : Type 0} (bytes : List ℕ) (P : S → Type 0) (Q : E → Type 0) (r : Result S E)
    → MatchResult r (λ s. P s × IsUtf8 bytes) (λ e. (IsUtf8 bytes → ⊥) × Q e) → is_ok r ≡ is_utf8 bytes
is_text bytes P Q (Ok s) holds = sym (is_utf8-from_IsUtf8 bytes holds.1)
is_text bytes P Q (Err e) holds = sym (false_from_ne_true (is_utf8 bytes) (λ is. holds.0 (IsUtf8-from_is_utf8 bytes is)))
