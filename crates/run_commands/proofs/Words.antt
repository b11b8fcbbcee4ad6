-- A command line of four words.
use Rattle.std.proofs.Common.{◌≡◌, ℕ, ◌<◌, ◌^◌, List, [], ◌∷◌, false, Option, Some, None, length, map, get_or, ◌↔◌, String, string_bytes, codes}
use Rattle.std.proofs.Common.{decimal, refl, sym, ◌∙◌, ap, subst, arith}
use Rattle.std.specs.Prelude.{SomeIff}
use Rattle.std.specs.declared.alloc.Global.{Global}
use Rattle.std.proofs.lemmas.Bool.{false≢true}
use Rattle.std.proofs.lemmas.Fmt.{decimal_injective}
use Rattle.scenario_maker.specs.Made.{IsSize}
use Rattle.run_commands.specs.Commands.{Spell, reads}
use Rattle.run_commands.specs.declared.command.Command.{Command}
use Rattle.run_commands.specs.declared.command.Command.TheVariants.{Flood, Run, Log, Bus, Demo, Check, Deadlines, Times, Return}

-- a command line of four words
pub four_words : (words : List (String Global)) (w a b d : String Global) → length words ≡ 4 → w ≡ get_or words 0 w → a ≡ get_or words 1 a
    → b ≡ get_or words 2 b → d ≡ get_or words 3 d
    → map string_bytes words ≡ string_bytes w ∷ string_bytes a ∷ string_bytes b ∷ string_bytes d ∷ []
four_words [] w a b d four at_w at_a at_b at_d = absurd (omega arith)
four_words (p ∷ []) w a b d four at_w at_a at_b at_d = absurd (omega arith)
four_words (p ∷ q ∷ []) w a b d four at_w at_a at_b at_d = absurd (omega arith)
four_words (p ∷ q ∷ r ∷ []) w a b d four at_w at_a at_b at_d = absurd (omega arith)
four_words (p ∷ q ∷ r ∷ s ∷ []) w a b d four at_w at_a at_b at_d = rw (at_w, at_a, at_b, at_d) refl
four_words (p ∷ q ∷ r ∷ s ∷ x ∷ words) w a b d four at_w at_a at_b at_d = absurd (omega arith)

pub four_same : {w x a y b z d v : List ℕ} → w ≡ x → a ≡ y → b ≡ z → d ≡ v → w ∷ a ∷ b ∷ d ∷ [] ≡ x ∷ y ∷ z ∷ v ∷ []
four_same p q r s = rw (p, q, r, s) refl

-- words of this form ask for just this made scenario
same_number : (i m n : ℕ) (ws : List (List ℕ)) → m < 10 ^ 13 → n < 10 ^ 13 → get_or ws i [] ≡ decimal m → get_or ws i [] ≡ decimal n → m ≡ n
same_number i m n ws few few' at at' = decimal_injective m n (omega arith) (omega arith) (sym at ∙ at')

there : (found : Option Command) (P : Type 0) (v c : Command) → SomeIff found P v → found ≡ Some c → P × (c ≡ v)
there None P v c is got = absurd (none_or_command c got)
  where
    none_or_command : (c : Command) → ◌≡◌ {A = Option Command} None (Some c) → ⊥
    none_or_command c same = cc
there (Some x) P v c is got = (is.0, one_command x c got ∙ is.1)
  where
    one_command : (x c : Command) → ◌≡◌ {A = Option Command} (Some x) (Some c) → c ≡ x
    one_command x c same = cc

found_by : (found : Option Command) (P : Type 0) (v : Command) → SomeIff found P v → P → found ≡ Some v
found_by None P v is holds = absurd (is holds)
found_by (Some x) P v is holds = ap (λ (c : Command). Some c) is.1

module _ (ws : List (List ℕ)) (seed nodes frames : ℕ) (found : Option Command)
    (spells : ws ≡ codes "demo" ∷ decimal seed ∷ decimal nodes ∷ decimal frames ∷ []) (few_s : seed < 10 ^ 13) (few_n : nodes < 10 ^ 13)
    (few_f : frames < 10 ^ 13) (is : SomeIff found (IsSize nodes frames) (Demo seed nodes frames)) where
  asked_for : (c : Command) → reads c ≡ false → Spell ws c → found ≡ Some c
  asked_for Flood reading asks = absurd (false≢true (sym reading))
  asked_for Run reading asks = absurd (false≢true (sym reading))
  asked_for Log reading asks = absurd (false≢true (sym reading))
  asked_for Bus reading asks = absurd (false≢true (sym reading))
  asked_for Check reading asks = absurd (false≢true (sym reading))
  asked_for Deadlines reading asks = absurd (false≢true (sym reading))
  asked_for Times reading asks = absurd (false≢true (sym reading))
  asked_for Return reading asks = absurd (false≢true (sym reading))
  asked_for (Demo s n f) reading (words, few, size) =
      let at_seed : seed ≡ s = same_number 1 seed s ws few_s few (ap (λ (l : List (List ℕ)). get_or l 1 []) spells)
      (ap (λ (l : List (List ℕ)). get_or l 1 []) words) in
      let at_nodes : nodes ≡ n = same_number 2 nodes n ws few_n (omega (arith, size)) (ap (λ (l : List (List ℕ)). get_or l 2 []) spells)
      (ap (λ (l : List (List ℕ)). get_or l 2 []) words) in
      let at_frames : frames ≡ f = same_number 3 frames f ws few_f (omega (arith, size)) (ap (λ (l : List (List ℕ)). get_or l 3 []) spells)
      (ap (λ (l : List (List ℕ)). get_or l 3 []) words) in
      rw (← at_seed, ← at_nodes, ← at_frames) (found_by found (IsSize nodes frames) (Demo seed nodes frames) is (rw (at_nodes, at_frames) size))

  pub demo_asked : (c : Command) → (found ≡ Some c) ↔ ((reads c ≡ false) × Spell ws c)
  demo_asked c = (
    (λ got. let at = there found (IsSize nodes frames) (Demo seed nodes frames) c is got in
        subst (λ (d : Command). (reads d ≡ false) × Spell ws d) (sym at.1) (refl, (spells, few_s, at.0))),
    λ both. asked_for c both.0 both.1,
  )
