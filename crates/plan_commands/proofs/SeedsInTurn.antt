-- The texts of seeds, one after another, and what is written of them.
use Rattle.std.proofs.Common.{◌≡◌, ◌+◌, ◌-◌, ◌<◌, ◌++◌, ◌∷◌, ℕ, zero, suc, List, Option, length, take, flat_map, refl, sym, ◌∙◌, ap, subst, arith}
use Rattle.std.specs.List.{range_with_len}
use Rattle.std.specs.Io.KnownBytes.{Appends}
use Rattle.std.proofs.KnownBytes.{Appends-nil, Appends-trans}
use Rattle.std.proofs.Math.Seq.{take-append-add}
use Rattle.std.proofs.lemmas.List.{append-nil, append_assoc, length-append, take-append-le}
use Rattle.std.proofs.lemmas.List.Concat.{flat_map-append}
use Rattle.scenario_text.specs.ScenarioParts.{ScenarioParts}
use Rattle.drawn_links.specs.declared.ratio_line.RatioLine.{RatioLine}
use Rattle.command_line.specs.Streams.{PartWritten}
use Rattle.plan_commands.specs.SeedTexts.{seed_text, seeds_text}

range_joined : (a m n : ℕ) → range_with_len a (m + n) ≡ range_with_len a m ++ range_with_len (a + m) n
range_joined a zero n =
    let none : zero + n ≡ n = omega arith in
    let same : a ≡ a + zero = omega arith in
    ap (range_with_len a) none ∙ ap (λ (k : ℕ). range_with_len k n) same
range_joined a (suc m) n =
    let more : suc m + n ≡ suc (m + n) = omega arith in
    let same : a + 1 + m ≡ a + suc m = omega arith in
    ap (range_with_len a) more
    ∙ ap (λ (l : List ℕ). a ∷ l) (range_joined (a + 1) m n ∙ ap (λ (k : ℕ). range_with_len (a + 1) m ++ range_with_len k n) same)

module _ (s : ScenarioParts) (ratios : List RatioLine) (from : ℕ) where
  -- seeds can be dealt out
  pub seeds_joined : (m n : ℕ) → seeds_text s ratios from (m + n) ≡ seeds_text s ratios from m ++ seeds_text s ratios (from + m) n
  seeds_joined m n =
      ap (flat_map (seed_text s ratios)) (range_joined from m n) ∙ flat_map-append (seed_text s ratios) (range_with_len from m) (range_with_len (from + m) n)

  pub seeds_more : (i : ℕ) → seeds_text s ratios from (i + 1) ≡ seeds_text s ratios from i ++ seed_text s ratios (from + i)
  seeds_more i = seeds_joined i 1 ∙ ap (λ (l : List ℕ). seeds_text s ratios from i ++ l) (append-nil (seed_text s ratios (from + i)))

  abbrev pub seeds_after : ℕ → ℕ → List ℕ
  seeds_after i count = seeds_text s ratios (from + i + 1) (count - (i + 1))

  -- cut at one of them
  pub seeds_at : (i count : ℕ) → i < count
      → seeds_text s ratios from count ≡ seeds_text s ratios from i ++ (seed_text s ratios (from + i) ++ seeds_after i count)
  seeds_at i count below =
      let split : count ≡ i + suc (count - (i + 1)) = omega (arith, below) in
      ap (seeds_text s ratios from) split ∙ seeds_joined i (suc (count - (i + 1)))

-- a part of a piece after all of what is before it
pub part_after : (old mid new : Option (List ℕ)) (front piece rest whole : List ℕ) → whole ≡ front ++ (piece ++ rest) → Appends old mid front
    → PartWritten mid new (λ t. t ≡ piece) → PartWritten old new (λ t. t ≡ whole)
part_after old mid new front piece rest whole is wrote part =
    let gone = part.1 in
    let text = part.0 in
    let few : gone < length text = part.3 in
    let short : gone < length piece = subst (λ (l : List ℕ). gone < length l) part.2 few in
    let sizes = length-append front (piece ++ rest) in
    let more = length-append piece rest in
    let size = ap length is in
    let taken : front ++ take gone text ≡ take (length front + gone) whole =
    ap (λ (l : List ℕ). front ++ take gone l) part.2
    ∙ ap (λ (l : List ℕ). front ++ l) (sym (take-append-le gone piece rest (omega (arith, short))))
    ∙ sym (take-append-add front (piece ++ rest) gone)
    ∙ ap (take (length front + gone)) (sym is) in
    let all = Appends-trans old mid new front (take gone text) wrote part.4 in
    (whole, length front + gone, refl, omega (arith, short, sizes, more, size), subst (Appends old new) taken all)

-- nothing of a text that is not empty
pub no_part : (old : Option (List ℕ)) (text : List ℕ) → 0 < length text → PartWritten old old (λ t. t ≡ text)
no_part old text some = (text, 0, refl, some, Appends-nil old)

-- the text of a seed is not empty
pub some_text : (s : ScenarioParts) (ratios : List RatioLine) (seed : ℕ) → 0 < length (seed_text s ratios seed)
some_text s ratios seed = omega arith

pub four_parts : (a c l k : List ℕ) → ((a ++ c) ++ l) ++ k ≡ a ++ ((c ++ l) ++ k)
four_parts a c l k = ap (λ (x : List ℕ). x ++ k) (append_assoc a c l) ∙ append_assoc a (c ++ l) k
