-- The lines and words of a rendered text are those that were rendered.
use Rattle.std.proofs.Common.{◌≡◌, ℕ, zero, suc, ◌-◌, ◌<◌, ◌≤◌, List, [], ◌∷◌, true, false, nat_lt, ◌==◌, All, length, take, map, refl, ◌∙◌, ap, arith}
use Rattle.std.proofs.lemmas.Bool.{cond-true, cond-false, lt-ltb, ne_eqb, or_from}
use Rattle.std.proofs.lemmas.List.{append_assoc}
use Rattle.std.proofs.lemmas.List.Elements.{All-from_recursion}
use Rattle.std.proofs.lemmas.List.Splits.{slice_split_at, slice_split_none, length-slice_split}
use Rattle.std.proofs.lemmas.Str.{IsUtf8-from_ascii, is_utf8-from_IsUtf8}
use Rattle.std.specs.List.{AllByRecursion, slice_split, slice_index, join_with_byte, filter}
use Rattle.std.specs.Str.{IsAscii, is_utf8}
use Rattle.std.specs.Str.Lines.{lines, lines_of_parts, strip_carriage_return}
use Rattle.lwb_base.proofs.Lists.{each_append}
use Rattle.text_readers.specs.Words.{words, is_blank}
use Rattle.text_writers.specs.Lines.{render}
use Rattle.scenario_text.proofs.RatesKept.{map_all}
use Rattle.text_readers.proofs.LineFeeds.{part_is_line, is_feed}

-- a byte of a word
abbrev pub IsGlyph : ℕ → Type 0
IsGlyph b = (33 ≤ b) × (b ≤ 126)

abbrev pub IsWord : List ℕ → Type 0
IsWord w = (0 < length w) × AllByRecursion IsGlyph w

-- a byte of a line
abbrev IsShown : ℕ → Type 0
IsShown b = (32 ≤ b) × (b ≤ 126)

glyphs_shown : (w : List ℕ) → AllByRecursion IsGlyph w → AllByRecursion IsShown w
glyphs_shown w all = map_all IsGlyph IsShown w (λ b is. (omega (arith, is.0), is.1)) all

no_blanks : (w : List ℕ) → AllByRecursion IsGlyph w → All (λ b. is_blank b ≡ false) w
no_blanks w all =
    All-from_recursion (λ b. is_blank b ≡ false) w
    (map_all IsGlyph (λ b. is_blank b ≡ false) w
    (λ b is. let low = is.0 in or_from _ _ (ne_eqb b 32 (λ e. omega (arith, e, low))) (ne_eqb b 9 (λ e. omega (arith, e, low)))) all)

no_feeds : (l : List ℕ) → AllByRecursion IsShown l → All (λ b. is_feed b ≡ false) l
no_feeds l all =
    All-from_recursion (λ b. is_feed b ≡ false) l
    (map_all IsShown (λ b. is_feed b ≡ false) l (λ b is. let low = is.0 in ne_eqb b 10 (λ e. omega (arith, e, low))) all)

-- the words of a line
some_word : (w : List ℕ) (ws : List (List ℕ)) → 0 < length w → filter (λ v. nat_lt 0 (length v)) (w ∷ ws) ≡ w ∷ filter (λ v. nat_lt 0 (length v)) ws
some_word w ws some = cond-true (nat_lt 0 (length w)) (w ∷ filter (λ v. nat_lt 0 (length v)) ws) (filter (λ v. nat_lt 0 (length v)) ws)
    (lt-ltb 0 (length w) some)

pub words_back : (ws : List (List ℕ)) → AllByRecursion IsWord ws → words (join_with_byte 32 ws) ≡ ws
words_back [] all = refl
words_back (w ∷ []) all = ap (filter (λ v. nat_lt 0 (length v))) (slice_split_none is_blank w (no_blanks w all.0.1)) ∙ some_word w [] all.0.0
words_back (w ∷ v ∷ ws) all =
    ap (filter (λ v. nat_lt 0 (length v))) (slice_split_at is_blank w 32 (join_with_byte 32 (v ∷ ws)) (no_blanks w all.0.1) refl)
    ∙ some_word w (slice_split is_blank (join_with_byte 32 (v ∷ ws))) all.0.0 ∙ ap (λ (l : List (List ℕ)). w ∷ l) (words_back (v ∷ ws) all.1)

line_shown : (ws : List (List ℕ)) → AllByRecursion IsWord ws → AllByRecursion IsShown (join_with_byte 32 ws)
line_shown [] all = tt
line_shown (w ∷ []) all = glyphs_shown w all.0.1
line_shown (w ∷ v ∷ ws) all = each_append IsShown w (32 ∷ join_with_byte 32 (v ∷ ws)) (glyphs_shown w all.0.1)
    ((omega arith, omega arith), line_shown (v ∷ ws) all.1)

-- the text of a line is UTF-8
shown_ascii : (l : List ℕ) → AllByRecursion IsShown l → IsAscii l
shown_ascii [] all i = omega arith
shown_ascii (b ∷ l) all zero = let high = all.0.1 in omega (arith, high)
shown_ascii (b ∷ l) all (suc i) = shown_ascii l all.1 i

pub line_is_text : (ws : List (List ℕ)) → AllByRecursion IsWord ws → is_utf8 (join_with_byte 32 ws) ≡ true
line_is_text ws all = is_utf8-from_IsUtf8 (join_with_byte 32 ws)
    (IsUtf8-from_ascii (join_with_byte 32 ws) (shown_ascii (join_with_byte 32 ws) (line_shown ws all)))

-- no carriage return is dropped
not_return : (l : List ℕ) (i : ℕ) → AllByRecursion IsShown l → (slice_index l i == 13) ≡ false
not_return [] i all = refl
not_return (b ∷ l) zero all = let low = all.0.0 in ne_eqb b 13 (λ e. omega (arith, e, low))
not_return (b ∷ l) (suc i) all = not_return l i all.1

kept_whole : (l : List ℕ) → AllByRecursion IsShown l → strip_carriage_return l ≡ l
kept_whole l all = cond-false (slice_index l (length l - 1) == 13) (take (length l - 1) l) l (not_return l (length l - 1) all)

-- the lines of a text
pub lines_back : (ls : List (List (List ℕ))) → AllByRecursion (λ ws. AllByRecursion IsWord ws) ls → lines (render ls) ≡ map (join_with_byte 32) ls
lines_back [] all = refl
lines_back (l ∷ ls) all =
    let line : List ℕ = join_with_byte 32 l in
    let others : List ℕ = render ls in
    let shown = line_shown l all.0 in
    let more : 0 < length (slice_split is_feed others) = omega (arith, length-slice_split is_feed others) in
    ap lines (append_assoc line (10 ∷ []) others)
    ∙ ap lines_of_parts (slice_split_at is_feed line 10 others (no_feeds line shown) refl)
    ∙ part_is_line line (slice_split is_feed others) more
    ∙ ap (λ (x : List ℕ). x ∷ lines others) (kept_whole line shown)
    ∙ ap (λ (x : List (List ℕ)). line ∷ x) (lines_back ls all.1)
