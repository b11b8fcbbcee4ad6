-- A command line of a word and its numbers.
use Rattle.std.proofs.Common.{◌≡◌, ℕ, ◌<◌, ◌^◌, List, [], ◌∷◌, Option, Some, length, map, get_or, ◌↔◌, String, string_bytes, codes}
use Rattle.std.proofs.Common.{decimal, refl, sym, ◌∙◌, ap, arith}
use Rattle.std.specs.declared.alloc.Global.{Global}
use Rattle.std.proofs.lemmas.Fmt.{decimal_injective}
use Rattle.std.proofs.lemmas.List.{length-map}
use Rattle.plan_commands.specs.Commands.{Asks, IsSampled, IsSeeded, Spell}
use Rattle.plan_commands.specs.declared.command.Command.{Command}
use Rattle.plan_commands.specs.declared.command.Command.TheVariants.{Bounds, Draw, Fates, Log, Outcome, Run, Sample}

-- a command line of one word
pub one_word : (words : List (String Global)) (w : String Global) → length words ≡ 1 → w ≡ get_or words 0 w → map string_bytes words ≡ string_bytes w ∷ []
one_word [] w one at_w = absurd (omega arith)
one_word (p ∷ []) w one at_w = rw at_w refl
one_word (p ∷ q ∷ words) w one at_w = absurd (omega arith)

pub one_same : {w x : List ℕ} → w ≡ x → w ∷ [] ≡ x ∷ []
one_same p = rw p refl

-- and of two
pub two_words : (words : List (String Global)) (w a : String Global) → length words ≡ 2 → w ≡ get_or words 0 w → a ≡ get_or words 1 a
    → map string_bytes words ≡ string_bytes w ∷ string_bytes a ∷ []
two_words [] w a two at_w at_a = absurd (omega arith)
two_words (p ∷ []) w a two at_w at_a = absurd (omega arith)
two_words (p ∷ q ∷ []) w a two at_w at_a = rw (at_w, at_a) refl
two_words (p ∷ q ∷ x ∷ words) w a two at_w at_a = absurd (omega arith)

-- and of three
pub three_words : (words : List (String Global)) (w a b : String Global) → length words ≡ 3 → w ≡ get_or words 0 w → a ≡ get_or words 1 a → b ≡ get_or words 2 b
    → map string_bytes words ≡ string_bytes w ∷ string_bytes a ∷ string_bytes b ∷ []
three_words [] w a b three at_w at_a at_b = absurd (omega arith)
three_words (p ∷ []) w a b three at_w at_a at_b = absurd (omega arith)
three_words (p ∷ q ∷ []) w a b three at_w at_a at_b = absurd (omega arith)
three_words (p ∷ q ∷ r ∷ []) w a b three at_w at_a at_b = rw (at_w, at_a, at_b) refl
three_words (p ∷ q ∷ r ∷ x ∷ words) w a b three at_w at_a at_b = absurd (omega arith)

pub two_same : {w x a y : List ℕ} → w ≡ x → a ≡ y → w ∷ a ∷ [] ≡ x ∷ y ∷ []
two_same p q = rw (p, q) refl

pub three_same : {w x a y b z : List ℕ} → w ≡ x → a ≡ y → b ≡ z → w ∷ a ∷ b ∷ [] ≡ x ∷ y ∷ z ∷ []
three_same p q r = rw (p, q, r) refl

-- neither one word, two nor three
pub no_command : (words : List (String Global)) → (length words ≡ 1 → ⊥) → (length words ≡ 2 → ⊥) → (length words ≡ 3 → ⊥) → (c : Command)
    → Asks words c → ⊥
no_command words one two three (Draw n) asks = two (omega (arith, ap length asks.0, length-map words string_bytes))
no_command words one two three (Outcome n) asks = two (omega (arith, ap length asks.0, length-map words string_bytes))
no_command words one two three (Fates n) asks = two (omega (arith, ap length asks.0, length-map words string_bytes))
no_command words one two three (Run n) asks = two (omega (arith, ap length asks.0, length-map words string_bytes))
no_command words one two three (Log n) asks = two (omega (arith, ap length asks.0, length-map words string_bytes))
no_command words one two three (Sample f n) asks = three (omega (arith, ap length asks.0, length-map words string_bytes))
no_command words one two three Bounds asks = one (omega (arith, ap length asks, length-map words string_bytes))

-- a word and a seed ask for the command of the word with that seed
module _ (ws : List (List ℕ)) (word : List ℕ) (seed : ℕ) (found : Option Command) (spells : ws ≡ word ∷ decimal seed ∷ []) (few : seed < 10 ^ 13)
    (is : (c : Command) → (found ≡ Some c) ↔ IsSeeded word seed c) where
  spelled : (first : List ℕ) (n : ℕ) → word ≡ first → n ≡ seed → (ws ≡ first ∷ decimal n ∷ []) × (n < 10 ^ 13)
  spelled first n same number = (spells ∙ two_same same (ap decimal (sym number)), omega (arith, few, number))

  seeded : (first : List ℕ) (n : ℕ) → ws ≡ first ∷ decimal n ∷ [] → n < 10 ^ 13 → (word ≡ first) × (n ≡ seed)
  seeded first n words few_too =
      let same : decimal seed ≡ decimal n = sym (ap (λ (l : List (List ℕ)). get_or l 1 []) spells) ∙ ap (λ (l : List (List ℕ)). get_or l 1 []) words in (
        sym (ap (λ (l : List (List ℕ)). get_or l 0 []) spells) ∙ ap (λ (l : List (List ℕ)). get_or l 0 []) words,
        sym (decimal_injective seed n (omega arith) (omega arith) same),
      )

  to_spell : (c : Command) → IsSeeded word seed c → Spell ws c
  to_spell (Draw n) of = spelled (codes "draw") n of.0 of.1
  to_spell (Outcome n) of = spelled (codes "outcome") n of.0 of.1
  to_spell (Fates n) of = spelled (codes "fates") n of.0 of.1
  to_spell (Run n) of = spelled (codes "run") n of.0 of.1
  to_spell (Log n) of = spelled (codes "log") n of.0 of.1
  to_spell (Sample f n) of = absurd of
  to_spell Bounds of = absurd of

  from_spell : (c : Command) → Spell ws c → IsSeeded word seed c
  from_spell (Draw n) asks = seeded (codes "draw") n asks.0 asks.1
  from_spell (Outcome n) asks = seeded (codes "outcome") n asks.0 asks.1
  from_spell (Fates n) asks = seeded (codes "fates") n asks.0 asks.1
  from_spell (Run n) asks = seeded (codes "run") n asks.0 asks.1
  from_spell (Log n) asks = seeded (codes "log") n asks.0 asks.1
  from_spell (Sample f n) asks = absurd (omega (arith, ap length (sym spells ∙ asks.0)))
  from_spell Bounds asks = absurd (omega (arith, ap length (sym spells ∙ asks)))

  pub seeded_asked : (c : Command) → (found ≡ Some c) ↔ Spell ws c
  seeded_asked c = (λ got. to_spell c ((is c).0 got), λ asks. (is c).1 (from_spell c asks))

-- a word and two numbers ask for the command of the word with these
module _ (ws : List (List ℕ)) (word : List ℕ) (from count : ℕ) (found : Option Command) (spells : ws ≡ word ∷ decimal from ∷ decimal count ∷ [])
    (few : from < 10 ^ 13) (fewer : count < 10 ^ 13) (is : (c : Command) → (found ≡ Some c) ↔ IsSampled word from count c) where
  sampled_spell : (c : Command) → IsSampled word from count c → Spell ws c
  sampled_spell (Draw n) of = absurd of
  sampled_spell (Outcome n) of = absurd of
  sampled_spell (Fates n) of = absurd of
  sampled_spell (Run n) of = absurd of
  sampled_spell (Log n) of = absurd of
  sampled_spell Bounds of = absurd of
  sampled_spell (Sample f n) of = (
    spells ∙ three_same of.0 (ap decimal (sym of.2)) (ap decimal (sym of.3)),
    omega (arith, few, of.2),
    omega (arith, fewer, of.3),
    omega (arith, of.1, of.2, of.3),
  )

  spell_sampled : (c : Command) → Spell ws c → IsSampled word from count c
  spell_sampled (Draw n) asks = absurd (omega (arith, ap length (sym spells ∙ asks.0)))
  spell_sampled (Outcome n) asks = absurd (omega (arith, ap length (sym spells ∙ asks.0)))
  spell_sampled (Fates n) asks = absurd (omega (arith, ap length (sym spells ∙ asks.0)))
  spell_sampled (Run n) asks = absurd (omega (arith, ap length (sym spells ∙ asks.0)))
  spell_sampled (Log n) asks = absurd (omega (arith, ap length (sym spells ∙ asks.0)))
  spell_sampled Bounds asks = absurd (omega (arith, ap length (sym spells ∙ asks)))
  spell_sampled (Sample f n) asks =
      let same = sym spells ∙ asks.0 in
      let fits = asks.1 in
      let fits_too = asks.2 in
      let within = asks.3 in
      let first : f ≡ from = sym (decimal_injective from f (omega (arith, few)) (omega (arith, fits)) (ap (λ (l : List (List ℕ)). get_or l 1 []) same)) in
      let number : n ≡ count =
      sym (decimal_injective count n (omega (arith, fewer)) (omega (arith, fits_too)) (ap (λ (l : List (List ℕ)). get_or l 2 []) same)) in
      (ap (λ (l : List (List ℕ)). get_or l 0 []) same, omega (arith, within, first, number), first, number)

  pub sampled_asked : (c : Command) → (found ≡ Some c) ↔ Spell ws c
  sampled_asked c = (λ got. sampled_spell c ((is c).0 got), λ asks. (is c).1 (spell_sampled c asks))
