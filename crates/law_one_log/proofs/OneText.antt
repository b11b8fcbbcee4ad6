-- Entries of which no two have the same start, kind and node are in one order in the log text.
use Rattle.std.proofs.Common.{◌≡◌, ℕ, ◌<◌, Bool, true, inl, inr, List, [], ◌∷◌, filter, flat_map, Contains, AllPairs}
use Rattle.std.proofs.Common.{Ordering, Equal, refl, sym, ◌∙◌, ap, arith, true≢false}
use Rattle.std.specs.Prelude.{IsPermutation}
use Rattle.std.specs.Cmp.{IsStrictWeakOrder}
use Rattle.std.specs.List.Sorted.{ties}
use Rattle.std.specs.Ordering.{nat_cmp, ordering_then, is_lt}
use Rattle.std.proofs.lemmas.List.Kept.{AllPairs-filter}
use Rattle.std.proofs.lemmas.List.Sorted.{ranks_by, Contains-permutation, IsPermutation-sym}
use Rattle.lwb_base.proofs.Elements.{not_in_none, contains_head, contains_cases, in_filtered, filtered, weaker_pairs}
use Rattle.air_log.specs.declared.entry.Entry.{Entry}
use Rattle.air_log.specs.Entries.{node_of_entry}
use Rattle.air_log.specs.LogText.{start_of, kind_number, entry_is_before, entry_line}
use Rattle.lwb_base.proofs.Orders.{compares_less, by_three_total, compares_equal, one_number}
use Rattle.lwb_base.proofs.Truths.{both_not}
use Rattle.lwb_base.proofs.StableSorts.{same_in_order}
use Rattle.law_one_log.specs.OneLog.{SamePlace, EntriesApartLaw, OneTextLaw}
use Rattle.law_one_log.proofs.EntriesApart.{EntriesApart, HearingsApart, all_apart, apart_placed}
use Rattle.law_one_log.proofs.HeardApart.{hearings_apart}
use Rattle.law_one_log.proofs.OfTrails.{sent_differ, tuned_differ}
use Rattle.law_one_log.proofs.OneLog.{one_log}

pub entries_apart : EntriesApartLaw
entries_apart s clocks air run =
    weaker_pairs (EntriesApart HearingsApart) (λ d e. SamePlace d e → ⊥) air
    (all_apart HearingsApart air (sent_differ s clocks air run.sound run.lawful) (hearings_apart s clocks air run)
    (tuned_differ s clocks air run.sound run.lawful))
    (λ d e there also apart. apart_placed d e apart)

-- what the order goes by
abbrev place_of : Entry → ℕ × ℕ × ℕ
place_of e = (start_of e, kind_number e, node_of_entry e)

is_order : IsStrictWeakOrder entry_is_before
is_order = ranks_by by_three_total place_of

module _ (d e : Entry) where
  abbrev then_so : Ordering → Ordering → Ordering → Bool
  then_so a b c = is_lt (ordering_then (ordering_then a b) c)

  abbrev Before : Type 0
  Before = entry_is_before d e ≡ true

  by_start : start_of d < start_of e → Before
  by_start less =
      ap (λ (c : Ordering). then_so c (nat_cmp (kind_number d) (kind_number e)) (nat_cmp (node_of_entry d) (node_of_entry e)))
      (compares_less (start_of d) (start_of e) less)

  by_kind : start_of d ≡ start_of e → kind_number d < kind_number e → Before
  by_kind start less =
      ap (λ (c : Ordering). then_so c (nat_cmp (kind_number d) (kind_number e)) (nat_cmp (node_of_entry d) (node_of_entry e)))
      (compares_equal (start_of d) (start_of e) start)
      ∙ ap (λ (c : Ordering). then_so Equal c (nat_cmp (node_of_entry d) (node_of_entry e))) (compares_less (kind_number d) (kind_number e) less)

  by_node : start_of d ≡ start_of e → kind_number d ≡ kind_number e → node_of_entry d < node_of_entry e → Before
  by_node start kind less =
      ap (λ (c : Ordering). then_so c (nat_cmp (kind_number d) (kind_number e)) (nat_cmp (node_of_entry d) (node_of_entry e)))
      (compares_equal (start_of d) (start_of e) start)
      ∙ ap (λ (c : Ordering). then_so Equal c (nat_cmp (node_of_entry d) (node_of_entry e))) (compares_equal (kind_number d) (kind_number e) kind)
      ∙ ap (λ (c : Ordering). then_so Equal Equal c) (compares_less (node_of_entry d) (node_of_entry e) less)

tied_place : (d e : Entry) → ties entry_is_before d e ≡ true → SamePlace d e
tied_place d e tied =
    let so = both_not (entry_is_before d e) (entry_is_before e d) tied in
    let up : entry_is_before d e ≡ true → ⊥ = λ is. true≢false (sym is ∙ so.0) in
    let down : entry_is_before e d ≡ true → ⊥ = λ is. true≢false (sym is ∙ so.1) in
    let start = one_number (start_of d) (start_of e) (λ less. up (by_start d e less)) (λ less. down (by_start e d less)) in
    let kind = one_number (kind_number d) (kind_number e) (λ less. up (by_kind d e start less)) (λ less. down (by_kind e d (sym start) less)) in
    let node =
    one_number (node_of_entry d) (node_of_entry e) (λ less. up (by_node d e start kind less)) (λ less. down (by_node e d (sym start) (sym kind) less)) in
    record { start = start; kind = kind; node = node }

abbrev PlacesApart : Entry → Entry → Type 0
PlacesApart d e = SamePlace d e → ⊥

abbrev Never : Entry → Entry → Type 0
Never d e = ⊥

-- lists of at most one element
alone : (xs ys : List Entry) → AllPairs Never xs → AllPairs Never ys → ((e : Entry) → Contains xs e → Contains ys e)
    → ((e : Entry) → Contains ys e → Contains xs e) → xs ≡ ys
alone [] [] one also to from = refl
alone [] (y ∷ ys) one also to from = absurd (not_in_none y (from y (contains_head y ys)))
alone (x ∷ xs) [] one also to from = absurd (not_in_none x (to x (contains_head x xs)))
alone (x ∷ []) (y ∷ []) one also to from =
    elim (contains_cases y [] x (to x (contains_head x []))) [ inl is ↦ ap (λ (e : Entry). e ∷ []) (sym is) | inr none ↦ absurd (not_in_none x none) ]
alone (x ∷ z ∷ xs) (y ∷ ys) one also to from = absurd (one 0 1 x (omega arith) (omega arith))
alone (x ∷ []) (y ∷ z ∷ ys) one also to from = absurd (also 0 1 y (omega arith) (omega arith))

one_tied : (z : Entry) (air : List Entry) → AllPairs PlacesApart air → AllPairs Never (filter (ties entry_is_before z) air)
one_tied z air apart =
    weaker_pairs PlacesApart Never (filter tied air) (AllPairs-filter PlacesApart tied air apart)
    (λ d e there also differ.
    let first = tied_place z d (filtered tied air d there).1 in
    let second = tied_place z e (filtered tied air e also).1 in
    differ (record { start = sym first.start ∙ second.start; kind = sym first.kind ∙ second.kind; node = sym first.node ∙ second.node }))
  where
    tied : Entry → Bool
    tied = ties entry_is_before z

tied_too : (z : Entry) (a b : List Entry) → IsPermutation a b → (e : Entry) → Contains (filter (ties entry_is_before z) a) e
    → Contains (filter (ties entry_is_before z) b) e
tied_too z a b moved e there =
    let both = filtered (ties entry_is_before z) a e there in
    in_filtered (ties entry_is_before z) b e (Contains-permutation a b e moved both.0) both.1

pub one_text : OneTextLaw
one_text s clocks a b of_a of_b =
    let moved = one_log s clocks a b of_a of_b in
    ap (flat_map entry_line) (same_in_order entry_is_before is_order a b (λ z.
    alone (filter (ties entry_is_before z) a) (filter (ties entry_is_before z) b)
    (one_tied z a (entries_apart s clocks a of_a)) (one_tied z b (entries_apart s clocks b of_b))
    (tied_too z a b moved) (tied_too z b a (IsPermutation-sym a b moved))))
