-- A text that is read line by line up to the first line whose only word is a given one.
use Rattle.std.proofs.Common.{◌≡◌, ℕ, ◌+◌, ◌-◌, ◌<◌, ◌≤◌, ◌⊎◌, inl, inr, List, [], ◌∷◌, ◌++◌, Bool, true, false, not, Some, None, length, take, drop}
use Rattle.std.proofs.Common.{refl, sym, ap, ◌∙◌, arith, cond}
use Rattle.std.proofs.Math.Seq.{take-append_seam, drop-append_seam}
use Rattle.std.proofs.lemmas.List.{append-nil, append_assoc, length-append}
use Rattle.std.proofs.lemmas.List.Sums.{take_while-cons}
use Rattle.std.specs.List.{take_while}
use Rattle.std.specs.Str.Lines.{lines}
use Rattle.text_readers.specs.LineEnds.{EndLines, IsLineAndRest}
use Rattle.text_readers.specs.Divisions.{is_alone, count_above, IsDivided}

module _ (word : List ℕ) where
  abbrev pub is_other : List ℕ → Bool
  is_other line = not (is_alone word line)

  -- what passes goes on by what follows
  passes_on : (xs ys : List (List ℕ)) → take_while is_other xs ≡ xs → take_while is_other (xs ++ ys) ≡ xs ++ take_while is_other ys
  passes_on [] ys all = refl
  passes_on (x ∷ xs) ys all = by (λ rest. passes_on xs ys rest) (is_other x) refl
    where
      by : (take_while is_other xs ≡ xs → take_while is_other (xs ++ ys) ≡ xs ++ take_while is_other ys) → (b : Bool) → is_other x ≡ b
          → take_while is_other (x ∷ (xs ++ ys)) ≡ x ∷ (xs ++ take_while is_other ys)
      by more true is =
          let first : take_while is_other (x ∷ xs) ≡ x ∷ take_while is_other xs =
          take_while-cons is_other x xs ∙ ap (λ (b : Bool). cond b (x ∷ take_while is_other xs) []) is in
          let same : x ∷ take_while is_other xs ≡ x ∷ xs = sym first ∙ all in
          let rest : take_while is_other xs ≡ xs = cc in
          take_while-cons is_other x (xs ++ ys) ∙ ap (λ (b : Bool). cond b (x ∷ take_while is_other (xs ++ ys)) []) is
          ∙ ap (λ (zs : List (List ℕ)). x ∷ zs) (more rest)
      by more false is =
          let none : take_while is_other (x ∷ xs) ≡ [] =
          take_while-cons is_other x xs ∙ ap (λ (b : Bool). cond b (x ∷ take_while is_other xs) []) is in
          let never : [] ≡ x ∷ xs = sym none ∙ all in cc

  one_other : (x : List ℕ) (ys : List (List ℕ)) → is_alone word x ≡ false → take_while is_other (x ∷ ys) ≡ x ∷ take_while is_other ys
  one_other x ys is = take_while-cons is_other x ys ∙ ap (λ (b : Bool). cond (not b) (x ∷ take_while is_other ys) []) is

  no_other : (x : List ℕ) (ys : List (List ℕ)) → is_alone word x ≡ true → take_while is_other (x ∷ ys) ≡ []
  no_other x ys is = take_while-cons is_other x ys ∙ ap (λ (b : Bool). cond (not b) (x ∷ take_while is_other ys) []) is

  -- `count` lines were read of the bytes, the word alone in none of them, and the rest is left
  pub record Passed (bytes rest : List ℕ) (count : ℕ) : Type 0 where
    pub front : List ℕ
    pub whole : bytes ≡ front ++ rest
    pub counted : count ≡ length (lines front)
    pub others : take_while is_other (lines front) ≡ lines front
    pub ends : EndLines front ⊎ (rest ≡ [])
    pub few : count ≤ length front

  not_empty : (front line : List ℕ) → lines front ≡ line ∷ [] → 0 < length front
  not_empty [] line is = cc
  not_empty (b ∷ front) line is = omega arith

  both_end : (front more : List ℕ) → EndLines front → EndLines more → EndLines (front ++ more)
  both_end front more one two rest =
      ap lines (append_assoc front more rest) ∙ one (more ++ rest) ∙ ap (λ (ls : List (List ℕ)). lines front ++ ls) (two rest)
      ∙ sym (append_assoc (lines front) (lines more) (lines rest)) ∙ ap (λ (ls : List (List ℕ)). ls ++ lines rest) (sym (one more))

  module _ (bytes rest : List ℕ) (count : ℕ) (passed : Passed bytes rest count) where
    front_ends : 0 < length rest → EndLines passed.front
    front_ends some = elim passed.ends [ inl ends ↦ ends | inr none ↦ absurd (omega (arith, some, ap length none)) ]

    -- all lines are those that were read and those of the rest
    all_lines : lines bytes ≡ lines passed.front ++ lines rest
    all_lines =
        ap lines passed.whole
        ∙ elim passed.ends [
          | inl ends ↦ ends rest
          | inr none ↦
              ap (λ (r : List ℕ). lines (passed.front ++ r)) none ∙ ap lines (append-nil passed.front) ∙ sym (append-nil (lines passed.front))
              ∙ ap (λ (r : List ℕ). lines passed.front ++ lines r) (sym none)
        ]

    passing : take_while is_other (lines bytes) ≡ lines passed.front ++ take_while is_other (lines rest)
    passing = ap (take_while is_other) all_lines ∙ passes_on (lines passed.front) (lines rest) passed.others

    -- one line more that isn't the word
    pub one_more : (line others : List ℕ) → 0 < length rest → IsLineAndRest rest line others → is_alone word line ≡ false → Passed bytes others (count + 1)
    one_more line others some cut is =
        let ends = front_ends some in
        let more : lines (passed.front ++ cut.front) ≡ lines passed.front ++ line ∷ [] =
        ends cut.front ∙ ap (λ (ls : List (List ℕ)). lines passed.front ++ ls) cut.is in
        let longer = length-append passed.front cut.front in
        let more_lines = ap length more ∙ length-append (lines passed.front) (line ∷ []) in
        let one = not_empty cut.front line cut.is in
        record {
          front = passed.front ++ cut.front;
          whole = passed.whole ∙ ap (λ (r : List ℕ). passed.front ++ r) cut.whole ∙ sym (append_assoc passed.front cut.front others);
          counted = omega (arith, more_lines, passed.counted);
          others =
              ap (take_while is_other) more ∙ passes_on (lines passed.front) (line ∷ []) passed.others
              ∙ ap (λ (ls : List (List ℕ)). lines passed.front ++ ls) (one_other line [] is) ∙ sym more;
          ends = elim cut.ends [ inl after ↦ inl (both_end passed.front cut.front ends after) | inr none ↦ inr none ];
          few = omega (arith, passed.few, longer, one);
        }

    gone : length bytes - length rest ≡ length passed.front
    gone = omega (arith, ap length passed.whole ∙ length-append passed.front rest)

    pub front_is : take (length bytes - length rest) bytes ≡ passed.front
    front_is =
        ap (λ (n : ℕ). take n bytes) gone ∙ ap (take (length passed.front)) passed.whole ∙ take-append_seam passed.front rest

    -- the next line is the word
    pub here : (line others : List ℕ) → lines rest ≡ line ∷ lines others → is_alone word line ≡ true
        → IsDivided word bytes (take (length bytes - length rest) bytes) count (Some others)
    here line others next is =
        let above : take_while is_other (lines bytes) ≡ lines passed.front =
        passing ∙ ap (λ (ls : List (List ℕ)). lines passed.front ++ take_while is_other ls) next
        ∙ ap (λ (ls : List (List ℕ)). lines passed.front ++ ls) (no_other line (lines others) is) ∙ append-nil (lines passed.front) in
        let number : count_above word (lines bytes) ≡ length (lines passed.front) = ap length above in
        record {
          lines_above =
              ap lines front_is ∙ sym (take-append_seam (lines passed.front) (lines rest))
              ∙ ap (λ (n : ℕ). take n (lines passed.front ++ lines rest)) (sym number) ∙ ap (take (count_above word (lines bytes))) (sym all_lines);
          counted = passed.counted ∙ sym number;
          lines_below = (
            line,
            ap (λ (n : ℕ). drop n (lines bytes)) number ∙ ap (drop (length (lines passed.front))) all_lines
                ∙ drop-append_seam (lines passed.front) (lines rest) ∙ next,
          );
        }

  -- no line is the word
  pub nowhere : (bytes : List ℕ) (count : ℕ) → Passed bytes [] count → IsDivided word bytes bytes count None
  nowhere bytes count passed =
      let all = all_lines bytes [] count passed ∙ append-nil (lines passed.front) in
      let above : take_while is_other (lines bytes) ≡ lines bytes = ap (take_while is_other) all ∙ passed.others ∙ sym all in
      let number : count_above word (lines bytes) ≡ length (lines bytes) = ap length above in
      record {
        lines_above = sym (take-all (lines bytes)) ∙ ap (λ (n : ℕ). take n (lines bytes)) (sym number);
        counted = passed.counted ∙ ap length (sym all) ∙ sym number;
        lines_below = ap (λ (n : ℕ). drop n (lines bytes)) number ∙ drop-all (lines bytes);
      }
    where
      take-all : (ls : List (List ℕ)) → take (length ls) ls ≡ ls
      take-all ls = ap (take (length ls)) (sym (append-nil ls)) ∙ take-append_seam ls []

      drop-all : (ls : List (List ℕ)) → drop (length ls) ls ≡ []
      drop-all ls = ap (drop (length ls)) (sym (append-nil ls)) ∙ drop-append_seam ls []
