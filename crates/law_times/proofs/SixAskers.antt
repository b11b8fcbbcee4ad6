-- The six askers: in each round none of them or two of them request; and tries and skips of one, round by round.
use Rattle.std.proofs.Common.{◌≡◌, ◌≢◌, ◌≤◌, ◌+◌, ◌-◌, ◌==◌, ◌&&◌, ℕ, suc, List, [], ◌∷◌, Bool, true, false, inl, inr, count_by, refl, sym, ◌∙◌, ap, arith}
use Rattle.std.proofs.Common.{cond, ◌⊎◌, Contains, not, map, nat_le}
use Rattle.law_times.proofs.Words.{list_all, eq-eqb, eqb-true, false≢true, le-leb, or_cases, and_parts, sum_by-cons, has, Asker, asks_anew, asks_in}
use Rattle.law_times.proofs.Words.{requests_after, six_askers, the_seven, contains_head, contains_tail, contains_cases, not_in_none, all_passes, not-true}
use Rattle.law_times.proofs.Words.{leb-true, contains_at}
use Rattle.law_times.proofs.Backoffs.{Backoff, requests_by, turn, turned, asks}

-- of askers with different ids, of whom not one alone passes a test, none does or two do
abbrev pub are_apart : List Asker → Bool
are_apart [] = true
are_apart (x ∷ xs) = list_all (λ b. not (x.node == b.node)) xs && are_apart xs

pub record Two (test : Asker → Bool) (xs : List Asker) : Type 0 where
  pub first : Asker
  pub second : Asker
  pub there : Contains xs first × Contains xs second
  pub differ : first.node ≢ second.node
  pub both : (test first ≡ true) × (test second ≡ true)

module _ (test : Asker → Bool) where
  counted : (x : Asker) (xs : List Asker) → count_by test (x ∷ xs) ≡ cond {A = ℕ} (test x) 1 0 + count_by test xs
  counted x xs = sum_by-cons (λ (a : Asker). cond (test a) 1 0) x xs

  one_more : (x : Asker) (xs : List Asker) → test x ≡ true → count_by test (x ∷ xs) ≡ 1 + count_by test xs
  one_more x xs is = counted x xs ∙ ap (λ (b : Bool). cond {A = ℕ} b 1 0 + count_by test xs) is

  as_many : (x : Asker) (xs : List Asker) → test x ≡ false → count_by test (x ∷ xs) ≡ count_by test xs
  as_many x xs not =
      counted x xs ∙ ap (λ (b : Bool). cond {A = ℕ} b 1 0 + count_by test xs) not
      ∙ (let same : cond {A = ℕ} false 1 0 + count_by test xs ≡ count_by test xs = omega arith in same)

  found_one : (xs : List Asker) → count_by test xs ≢ 0 → (a : Asker) × Contains xs a × (test a ≡ true)
  found_one [] some = absurd (some refl)
  found_one (x ∷ xs) some = by_test (test x) refl (found_one xs)
    where
      by_test : (b : Bool) → test x ≡ b → (count_by test xs ≢ 0 → (a : Asker) × Contains xs a × (test a ≡ true))
          → (a : Asker) × Contains (x ∷ xs) a × (test a ≡ true)
      by_test true is more = (x, contains_head x xs, is)
      by_test false is more =
          let later = more (λ none. some (as_many x xs is ∙ none)) in
          (later.0, contains_tail x xs later.0 later.1, later.2)

  pub found_two : (xs : List Asker) → are_apart xs ≡ true → count_by test xs ≢ 1 → ((a : Asker) → Contains xs a → test a ≡ false) ⊎ Two test xs
  found_two [] apart other = inl (λ a there. absurd (not_in_none a there))
  found_two (x ∷ xs) apart other = by_test (test x) refl (found_two xs parts.1)
    where
      parts : (list_all (λ b. not (x.node == b.node)) xs ≡ true) × (are_apart xs ≡ true)
      parts = and_parts (list_all (λ b. not (x.node == b.node)) xs) (are_apart xs) apart

      differ : (b : Asker) → Contains xs b → x.node ≢ b.node
      differ b there same =
          false≢true (sym (not-true (x.node == b.node) (all_passes (λ b. not (x.node == b.node)) xs parts.0 b there)) ∙ eq-eqb x.node b.node same)

      by_test : (b : Bool) → test x ≡ b → (count_by test xs ≢ 1 → ((a : Asker) → Contains xs a → test a ≡ false) ⊎ Two test xs)
          → ((a : Asker) → Contains (x ∷ xs) a → test a ≡ false) ⊎ Two test (x ∷ xs)
      by_test true is more =
          let later = found_one xs (λ none. other (one_more x xs is ∙ ap (λ (n : ℕ). 1 + n) none)) in
          inr (record {
            first = x;
            second = later.0;
            there = (contains_head x xs, contains_tail x xs later.0 later.1);
            differ = differ later.0 later.1;
            both = (is, later.2);
          })
      by_test false is more =
          elim (more (λ one. other (as_many x xs is ∙ one))) [
            | inl none ↦ inl (λ a there. elim (contains_cases x xs a there) [ inl same ↦ ap test (sym same) ∙ is | inr later ↦ none a later ])
            | inr two ↦ inr (record {
              first = two.first;
              second = two.second;
              there = (contains_tail x xs two.first two.there.0, contains_tail x xs two.second two.there.1);
              differ = two.differ;
              both = two.both;
            })
          ]

pub six_apart : are_apart six_askers ≡ true
six_apart = refl

-- the asker of a node
pub asker_of : (xs : List Asker) (v : ℕ) → has (map (λ (a : Asker). a.node) xs) v ≡ true → (a : Asker) × Contains xs a × (a.node ≡ v)
asker_of [] v there = absurd (false≢true there)
asker_of (x ∷ xs) v there = elim (or_cases (x.node == v) (has (map (λ (a : Asker). a.node) xs) v) there) [
  | inl same ↦ (x, contains_head x xs, eqb-true x.node v same)
  | inr more ↦ (let later = asker_of xs v more in (later.0, contains_tail x xs later.0 later.1, later.2))
]

-- the facts of one of the six
pub record IsOneOfSix (a : Asker) : Type 0 where
  pub there : has the_seven a.node ≡ true
  pub guest : a.node ≢ 1
  pub early : a.first ≤ 7

pub one_of_six : (a : Asker) → Contains six_askers a → IsOneOfSix a
one_of_six a there =
    let is = all_passes (λ a. has the_seven a.node && not (a.node == 1) && nat_le a.first 7) six_askers refl a there in
    let two = and_parts _ (nat_le a.first 7) is in
    let one = and_parts (has the_seven a.node) (not (a.node == 1)) two.0 in
    record {
      there = one.0;
      guest = λ same. false≢true (sym (not-true (a.node == 1) one.1) ∙ eq-eqb a.node 1 same);
      early = leb-true a.first 7 two.1;
    }

abbrev pub first_asker : Asker
first_asker = record { node = 16; first = 0 }

pub first_there : Contains six_askers first_asker
first_there = contains_at six_askers 0 first_asker refl

-- tries and skips in a round
abbrev pub backoff : Asker → ℕ → Backoff
backoff a n = turned a.node (0, 0) (n - a.first)

pub next_backoff : (a : Asker) (n : ℕ) → a.first ≤ n → turn a.node (backoff a n) ≡ backoff a (suc n)
unfolding turned
next_backoff a n early = ap (turned a.node (0, 0)) (let more : suc (n - a.first) ≡ suc n - a.first = omega (arith, early) in more)

pub asks_by : (a : Asker) (n : ℕ) → a.first ≤ n → asks_in n a ≡ asks (backoff a n)
asks_by a n early =
    ap (λ (b : Bool). b && requests_after a.node asks_anew (n - a.first)) (le-leb a.first n early) ∙ requests_by a.node asks_anew refl (n - a.first)
