-- The lines of a text with a first word, where the text is made of lines.
use Rattle.std.proofs.Common.{◌≡◌, ℕ, zero, suc, ◌-◌, ◌<◌, ◌≤◌, List, [], ◌∷◌, ◌++◌, Bool, true, false, ◌==◌, if◌then◌else◌, length, take, map, flat_map}
use Rattle.std.proofs.Common.{All, Option, Some, None, codes, refl, sym, ◌∙◌, ap, arith}
use Rattle.std.proofs.lemmas.Bool.{cond-false, ne_eqb}
use Rattle.std.proofs.lemmas.List.{append_assoc}
use Rattle.std.proofs.lemmas.List.Elements.{All-from_recursion}
use Rattle.std.proofs.lemmas.List.Splits.{slice_split_at, length-slice_split}
use Rattle.std.specs.Prelude.{filter, nat_eq}
use Rattle.std.specs.List.{AllByRecursion, slice_split, slice_index, starts_with, join_with_byte}
use Rattle.std.specs.Str.Lines.{lines, lines_of_parts, strip_carriage_return}
use Rattle.lwb_base.proofs.Lists.{each_more}
use Rattle.text_readers.proofs.LineFeeds.{part_is_line, is_feed}
use Rattle.text_writers.specs.Lines.{line_text}
use Rattle.law_printed.specs.Printed.{lines_with}
use Rattle.law_printed.proofs.PlainBytes.{IsPlain}

no_feeds : (l : List ℕ) → IsPlain l → All (λ b. is_feed b ≡ false) l
no_feeds l plain =
    All-from_recursion (λ b. is_feed b ≡ false) l
    (each_more (λ b. 32 ≤ b) (λ b. is_feed b ≡ false) (λ b low. ne_eqb b 10 (λ e. omega (arith, e, low))) l plain)

not_return : (l : List ℕ) (i : ℕ) → IsPlain l → (slice_index l i == 13) ≡ false
not_return [] i plain = refl
not_return (b ∷ l) zero plain = let low = plain.0 in ne_eqb b 13 (λ e. omega (arith, e, low))
not_return (b ∷ l) (suc i) plain = not_return l i plain.1

kept_whole : (l : List ℕ) → IsPlain l → strip_carriage_return l ≡ l
kept_whole l plain = cond-false (slice_index l (length l - 1) == 13) (take (length l - 1) l) l (not_return l (length l - 1) plain)

first_line : (l more : List ℕ) → IsPlain l → lines ((l ++ 10 ∷ []) ++ more) ≡ l ∷ lines more
first_line l more plain =
    let some : 0 < length (slice_split is_feed more) = omega (arith, length-slice_split is_feed more) in
    ap lines (append_assoc l (10 ∷ []) more) ∙ ap lines_of_parts (slice_split_at is_feed l 10 more (no_feeds l plain) refl)
    ∙ part_is_line l (slice_split is_feed more) some ∙ ap (λ (x : List ℕ). x ∷ lines more) (kept_whole l plain)

-- whether a line begins with this word and a space
abbrev pub begins : List ℕ → List ℕ → Bool
begins word l = starts_with nat_eq l (word ++ 32 ∷ [])

-- a line before the text
abbrev ended : List (List ℕ) → List (List ℕ)
ended ls = map (λ l. l ++ 10 ∷ []) ls

kept_by : (word l : List ℕ) (ls : List (List ℕ)) (b : Bool) → begins word l ≡ b
    → ended (filter (begins word) (l ∷ ls)) ≡ (if b then (l ++ 10 ∷ []) ∷ ended (filter (begins word) ls) else ended (filter (begins word) ls))
kept_by word l ls true is = ap (λ (b : Bool). ended (if b then l ∷ filter (begins word) ls else filter (begins word) ls)) is
kept_by word l ls false is = ap (λ (b : Bool). ended (if b then l ∷ filter (begins word) ls else filter (begins word) ls)) is

one_line : (word l more : List ℕ) (b : Bool) → IsPlain l → begins word l ≡ b
    → lines_with word ((l ++ 10 ∷ []) ++ more) ≡ (if b then (l ++ 10 ∷ []) ∷ lines_with word more else lines_with word more)
one_line word l more b plain is =
    ap (λ (ls : List (List ℕ)). ended (filter (begins word) ls)) (first_line l more plain) ∙ kept_by word l (lines more) b is

-- a line of words, which begins with this word and a space or doesn't
pub record IsLine (word : List ℕ) (b : Bool) (ws : List (List ℕ)) : Type 0 where
  pub plain : IsPlain (join_with_byte 32 ws)
  pub begin : begins word (join_with_byte 32 ws) ≡ b

pub line_kept : (word more : List ℕ) (ws : List (List ℕ)) → IsLine word true ws
    → lines_with word (line_text ws ++ more) ≡ line_text ws ∷ lines_with word more
line_kept word more ws is = one_line word (join_with_byte 32 ws) more true is.plain is.begin

pub line_left : (word more : List ℕ) (ws : List (List ℕ)) → IsLine word false ws → lines_with word (line_text ws ++ more) ≡ lines_with word more
line_left word more ws is = one_line word (join_with_byte 32 ws) more false is.plain is.begin

-- a line for each element, all of which begin so, or none does
pub all_kept : {X : Type 0} (word more : List ℕ) (f : X → List (List ℕ)) → ((x : X) → IsLine word true (f x)) → (xs : List X)
    → lines_with word (flat_map (λ x. line_text (f x)) xs ++ more) ≡ map (λ x. line_text (f x)) xs ++ lines_with word more
all_kept word more f are [] = refl
all_kept word more f are (x ∷ xs) =
    ap (lines_with word) (append_assoc (line_text (f x)) (flat_map (λ y. line_text (f y)) xs) more)
    ∙ line_kept word (flat_map (λ y. line_text (f y)) xs ++ more) (f x) (are x)
    ∙ ap (λ (ls : List (List ℕ)). line_text (f x) ∷ ls) (all_kept word more f are xs)

pub all_left : {X : Type 0} (word more : List ℕ) (f : X → List (List ℕ)) → ((x : X) → IsLine word false (f x)) → (xs : List X)
    → lines_with word (flat_map (λ x. line_text (f x)) xs ++ more) ≡ lines_with word more
all_left word more f are [] = refl
all_left word more f are (x ∷ xs) =
    ap (lines_with word) (append_assoc (line_text (f x)) (flat_map (λ y. line_text (f y)) xs) more)
    ∙ line_left word (flat_map (λ y. line_text (f y)) xs ++ more) (f x) (are x) ∙ all_left word more f are xs
