-- One more word is noted.
use Rattle.std.proofs.Common.{◌≡◌, ℕ, inl, inr, [], List, ◌∷◌, ◌++◌, Contains, true, false, ◌&&◌}
use Rattle.std.proofs.Common.{◌==◌, Some, None, Option, Bool, refl, sym, ◌∙◌, ap, subst, arith, eqb-true, true≢false}
use Rattle.std.proofs.lemmas.Bool.{and_parts}
use Rattle.std.proofs.lemmas.Bool.Decides.{nat_tests}
use Rattle.std.proofs.lemmas.List.Elements.{Contains-append_left, Contains-push, Contains-push_cases}
use Rattle.bus_time.specs.Words.{Note, IsFirstWord, word_comes_before, same_round}
use Rattle.bus_time.specs.declared.words.Round.{Round}
use Rattle.bus_time.specs.declared.words.Word.{Word}

pub same_is : (a b : Round) → same_round a b ≡ true → a ≡ b
same_is a b same =
    let parts = and_parts (a.node == b.node) ((a.rank == b.rank) && (a.frame == b.frame)) same in
    let more = and_parts (a.rank == b.rank) (a.frame == b.frame) parts.1 in
    let node : a.node ≡ b.node = eqb-true a.node b.node parts.0 in
    let rank : a.rank ≡ b.rank = eqb-true a.rank b.rank more.0 in
    let frame : a.frame ≡ b.frame = eqb-true a.frame b.frame more.1 in
    ap {A = ℕ} {B = Round} (λ (n : ℕ). record { node = n; rank = a.rank; frame = a.frame }) node
    ∙ ap {A = ℕ} {B = Round} (λ (r : ℕ). record { node = b.node; rank = r; frame = a.frame }) rank
    ∙ ap {A = ℕ} {B = Round} (λ (f : ℕ). record { node = b.node; rank = b.rank; frame = f }) frame

same_self : (a : Round) → same_round a a ≡ true
same_self a = grind (arith, nat_tests)

-- the order of words
not_itself : (w : Word) → word_comes_before w w ≡ false
not_itself w = grind (arith, nat_tests)

before_none : (w first new : Word) → word_comes_before w first ≡ false → word_comes_before new first ≡ true → word_comes_before w new ≡ false
before_none w first new not_first is = grind (arith, nat_tests, not_first, is)

abbrev word_of : Note → Word
word_of n = n.1

abbrev round_of : Note → Round
round_of n = n.0

module _ (notes : List Note) (round : Round) (word : Word) where
  there_now : Contains (notes ++ (round, word) ∷ []) (round, word)
  there_now = Contains-push notes (round, word)

  still : (n : Note) → Contains notes n → Contains (notes ++ (round, word) ∷ []) n
  still n there = Contains-append_left notes ((round, word) ∷ []) n there

  -- of the same round
  pub kept : (first : Word) → IsFirstWord notes round (Some first) → word_comes_before word first ≡ false
      → IsFirstWord (notes ++ (round, word) ∷ []) round (Some first)
  kept first is later = (
    still (round, first) is.0,
    λ w there. elim (Contains-push_cases notes (round, word) (round, w) there) [
      | inl old ↦ is.1 w old
      | inr new ↦ subst (λ (u : Word). word_comes_before u first ≡ false) (ap word_of new) later
    ],
  )

  pub replaced : (first : Word) → IsFirstWord notes round (Some first) → word_comes_before word first ≡ true
      → IsFirstWord (notes ++ (round, word) ∷ []) round (Some word)
  replaced first is earlier = (
    there_now,
    λ w there. elim (Contains-push_cases notes (round, word) (round, w) there) [
      | inl old ↦ before_none w first word (is.1 w old) earlier
      | inr new ↦ subst (λ (u : Word). word_comes_before u word ≡ false) (ap word_of new) (not_itself word)
    ],
  )

  pub fresh : IsFirstWord notes round None → IsFirstWord (notes ++ (round, word) ∷ []) round (Some word)
  fresh none = (
    there_now,
    λ w there. elim (Contains-push_cases notes (round, word) (round, w) there) [
      | inl old ↦ absurd (none w old)
      | inr new ↦ subst (λ (u : Word). word_comes_before u word ≡ false) (ap word_of new) (not_itself word)
    ],
  )

  -- of another
  not_same : (other : Round) → same_round round other ≡ false → round ≡ other → ⊥
  not_same other apart same = true≢false (sym (same_self round) ∙ ap (same_round round) same ∙ apart)

  was_old : (other : Round) → same_round round other ≡ false → (w : Word) → Contains (notes ++ (round, word) ∷ []) (other, w) → Contains notes (other, w)
  was_old other apart w there = elim (Contains-push_cases notes (round, word) (other, w) there) [
    | inl old ↦ old
    | inr new ↦ absurd (not_same other apart (ap round_of new))
  ]

  pub untouched : (other : Round) → same_round round other ≡ false → (first : Option Word) → IsFirstWord notes other first
      → IsFirstWord (notes ++ (round, word) ∷ []) other first
  untouched other apart None none = λ w there. none w (was_old other apart w there)
  untouched other apart (Some first) is = (still (other, first) is.0, λ w there. is.1 w (was_old other apart w there))

  -- of each
  at_each : (o : Round → Option Word) (new : Option Word) → ((other : Round) → IsFirstWord notes other (o other))
      → IsFirstWord (notes ++ (round, word) ∷ []) round new
      → (n : Round → Option Word) → n round ≡ new → ((other : Round) → same_round round other ≡ false → n other ≡ o other)
      → (other : Round) → IsFirstWord (notes ++ (round, word) ∷ []) other (n other)
  at_each o new are here n is keeps other = by_test (same_round round other) refl
    where
      by_test : (b : Bool) → same_round round other ≡ b → IsFirstWord (notes ++ (round, word) ∷ []) other (n other)
      by_test true same =
          subst (λ (r : Round). IsFirstWord (notes ++ (round, word) ∷ []) r (n r)) (same_is round other same)
          (subst (IsFirstWord (notes ++ (round, word) ∷ []) round) (sym is) here)
      by_test false apart =
          subst (IsFirstWord (notes ++ (round, word) ∷ []) other) (sym (keeps other apart)) (untouched other apart (o other) (are other))

  pub put : (o : Round → Option Word) → ((other : Round) → IsFirstWord notes other (o other))
      → IsFirstWord (notes ++ (round, word) ∷ []) round (Some word)
      → (n : Round → Option Word) → n round ≡ Some word → ((other : Round) → same_round round other ≡ false → n other ≡ o other)
      → (other : Round) → IsFirstWord (notes ++ (round, word) ∷ []) other (n other)
  put o are here n is keeps other = at_each o (Some word) are here n is keeps other

  pub left : (o : Round → Option Word) (first : Word) → ((other : Round) → IsFirstWord notes other (o other)) → o round ≡ Some first
      → word_comes_before word first ≡ false → (other : Round) → IsFirstWord (notes ++ (round, word) ∷ []) other (o other)
  left o first are is later other =
      at_each o (Some first) are (kept first (subst (IsFirstWord notes round) is (are round)) later) o is (λ other apart. refl) other
