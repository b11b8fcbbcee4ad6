-- The lines of a text, one after another.
use Rattle.std.proofs.Common.{◌≡◌, ℕ, ◌+◌, List, [], ◌∷◌, Ok, Err, Result, IfOk, if◌then◌else◌, refl, subst}
use Rattle.std.proofs.lemmas.Bool.{cond_both}
use Rattle.std.specs.Str.{is_utf8}
use Rattle.text_readers.specs.Faults.{draft_after_lines, in_line, ◌>>=◌}
use Rattle.text_readers.specs.Reading.{draft_after_line}
use Rattle.text_readers.specs.Words.{words, is_skipped}
use Rattle.text_readers.specs.declared.fault.FaultKind.{FaultKind}
use Rattle.text_readers.specs.declared.fault.FaultKind.TheVariants.{NotUtf8}

-- one line more
pub one_line_more : {D : Type 0} (after : D → List ℕ → Result D FaultKind) (n : ℕ) (d e : D) (line : List ℕ) (others : List (List ℕ)) → after d line ≡ Ok e
    → draft_after_lines after n d (line ∷ others) ≡ draft_after_lines after (n + 1) e others
one_line_more after n d e line others is = rw is refl

-- what the words of a line keep, the line keeps
pub line_keeps : {D : Type 0} (P : D → Type 0) (after : D → List (List ℕ) → Result D FaultKind) (d : D) (line : List ℕ)
    → P d → IfOk (after d (words line)) P → IfOk (draft_after_line after d line) P
unfolding draft_after_line
line_keeps P after d line holds kept =
    cond_both (is_skipped (words line)) (Ok d) (if is_utf8 line then after d (words line) else Err NotUtf8) (λ r. IfOk r P)
    (λ is. holds)
    (λ not. cond_both (is_utf8 line) (after d (words line)) (Err NotUtf8) (λ r. IfOk r P) (λ is. kept) (λ not. tt))

-- what each line keeps, a whole text keeps
module _ {D : Type 0} (P : D → Type 0) (after : D → List ℕ → Result D FaultKind)
    (keeps : (d : D) (line : List ℕ) → P d → IfOk (after d line) P) where
  pub lines_keep : (n : ℕ) (d e : D) (ls : List (List ℕ)) → P d → draft_after_lines after n d ls ≡ Ok e → P e
  lines_keep n d e [] holds is = subst (λ (r : Result D (ℕ × FaultKind)). IfOk r P) is holds
  lines_keep n d e (line ∷ ls) holds is =
      one (after d line) (keeps d line holds) (λ x kept is. lines_keep (n + 1) x e ls kept is) is
    where
      one : (r : Result D FaultKind) → IfOk r P → ((x : D) → P x → draft_after_lines after (n + 1) x ls ≡ Ok e → P e)
          → (in_line n r >>= (λ x. draft_after_lines after (n + 1) x ls)) ≡ Ok e → P e
      one (Ok x) kept others is = others x kept is
      one (Err k) kept others is = cc
