-- Words, as the code cuts them off one by one.
use Rattle.std.proofs.Common.{◌≡◌, ℕ, ◌+◌, List, [], ◌∷◌, ◌++◌, Some, None, nat_lt, length, take, drop, position, filter, ◌∙◌, ap, sym}
use Rattle.std.proofs.lemmas.List.Elements.{filter-append}
use Rattle.std.proofs.lemmas.Bool.{ltb-true}
use Rattle.std.proofs.lemmas.List.Splits.{slice_split_first, slice_split_none}
use Rattle.std.proofs.lemmas.Option.{cond_some}
use Rattle.std.specs.List.{slice_split, position_or_len, before_first, after_first}
use Rattle.text_readers.specs.Words.{is_blank, words}
use Rattle.text_readers.proofs.LineFeeds.{none_passes}

-- a part between blanks is a word, or nothing
abbrev pub word_of_part : List ℕ → List (List ℕ)
word_of_part part = filter (λ w. nat_lt 0 (length w)) (part ∷ [])

-- the first blank ends the first part
pub part_ends : (line : List ℕ) (end : ℕ) → Some end ≡ position is_blank line
    → words line ≡ word_of_part (take end line) ++ words (drop (end + 1) line)
part_ends line end is =
    let at = cond_some (nat_lt (position_or_len is_blank line) (length line)) (position_or_len is_blank line) end (sym is) in
    ap (filter (λ w. nat_lt 0 (length w))) (slice_split_first is_blank line 0 (ltb-true _ _ at.0))
    ∙ filter-append (λ w. nat_lt 0 (length w)) (before_first is_blank line ∷ []) (slice_split is_blank (after_first is_blank line))
    ∙ ap (λ (n : ℕ). word_of_part (take n line) ++ words (drop (n + 1) line)) at.1

-- without a blank the whole is the last part
pub part_is_last : (line : List ℕ) → None ≡ position is_blank line → words line ≡ word_of_part line
part_is_last line is = ap (filter (λ w. nat_lt 0 (length w))) (slice_split_none is_blank line (none_passes is_blank line is))
