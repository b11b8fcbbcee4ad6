-- What a node received, by end and sender: where no two are of one end and sender, the order is given by the elements.
use Rattle.std.proofs.Common.{◌≡◌, ◌<◌, ◌⊎◌, inl, inr, List, [], ◌∷◌, true, false, ◌==◌, ◌&&◌, nat_lt, Contains, AllPairs}
use Rattle.std.proofs.Common.{sym, ◌∙◌, subst, arith, ltb-true, eqb-true}
use Rattle.std.specs.Prelude.{IsPermutation}
use Rattle.std.proofs.lemmas.Bool.{cond_both, or_cases, and_parts, cases_order, false≢true, lt-ltb, eq-eqb, or_left, or_right, and_from}
use Rattle.std.proofs.lemmas.List.Sorted.{IsPermutation-refl, IsPermutation-sym, IsPermutation-cons, IsPermutation-trans, IsPermutation-middle}
use Rattle.std.proofs.lemmas.List.Sorted.{Contains-permutation}
use Rattle.radio_model.specs.OnAir.{Hearing}
use Rattle.air_log.proofs.StrictOrders.{same_order}
use Rattle.lwb_base.proofs.Elements.{not_in_none, contains_head, contains_tail, contains_cases, pairs_cons, pairs_tail, pairs_head}
use Rattle.air_log.specs.Lawful.{reception_comes_before, put_in, by_end}

-- g ends before h, or they end together and g is of an earlier sender
abbrev pub InTurn : Hearing → Hearing → Type 0
InTurn g h = (g.sending.end < h.sending.end) ⊎ ((g.sending.end ≡ h.sending.end) × (g.sending.node < h.sending.node))

-- not both of one end and of one sender
abbrev pub EndApart : Hearing → Hearing → Type 0
EndApart g h = g.sending.end ≡ h.sending.end → g.sending.node ≡ h.sending.node → ⊥

one_way : (g h : Hearing) → InTurn g h → InTurn h g → ⊥
one_way g h up down =
    elim up [
      | inl less ↦ elim down [ inl more ↦ omega (arith, less, more) | inr same ↦ omega (arith, less, same.0) ]
      | inr same ↦ elim down [ inl more ↦ omega (arith, same.0, more) | inr also ↦ omega (arith, same.1, also.1) ]
    ]

chain : (g h k : Hearing) → InTurn g h → InTurn h k → InTurn g k
chain g h k first then =
    elim first [
      | inl less ↦ elim then [ inl more ↦ inl (omega (arith, less, more)) | inr same ↦ inl (omega (arith, less, same.0)) ]
      | inr same ↦ elim then [
        | inl more ↦ inl (omega (arith, same.0, more))
        | inr also ↦ inr (same.0 ∙ also.0, omega (arith, same.1, also.1))
      ]
    ]

told : (g h : Hearing) → reception_comes_before g h ≡ true → InTurn g h
told g h is =
    elim (or_cases (nat_lt g.sending.end h.sending.end) _ is) [
      | inl less ↦ inl (ltb-true g.sending.end h.sending.end less)
      | inr both ↦ (let parts = and_parts (g.sending.end == h.sending.end) _ both in
          inr (eqb-true g.sending.end h.sending.end parts.0, ltb-true g.sending.node h.sending.node parts.1))
    ]

tells : (g h : Hearing) → InTurn g h → reception_comes_before g h ≡ true
tells g h is =
    let less = nat_lt g.sending.end h.sending.end in
    let same = (g.sending.end == h.sending.end) && nat_lt g.sending.node h.sending.node in
    elim is [
      | inl before ↦ or_left less same (lt-ltb g.sending.end h.sending.end before)
      | inr both ↦ or_right less same (and_from (g.sending.end == h.sending.end) _ (eq-eqb g.sending.end h.sending.end both.0)
          (lt-ltb g.sending.node h.sending.node both.1))
    ]

one_of : (g h : Hearing) → EndApart g h → InTurn g h ⊎ InTurn h g
one_of g h apart =
    elim (cases_order g.sending.end h.sending.end) [
      | inr (inl less) ↦ inl (inl less)
      | inr (inr more) ↦ inr (inl more)
      | inl same ↦ elim (cases_order g.sending.node h.sending.node) [
        | inl also ↦ absurd (apart same also)
        | inr (inl less) ↦ inl (inr (same, less))
        | inr (inr more) ↦ inr (inr (sym same, more))
      ]
    ]

other_way : (g h : Hearing) → reception_comes_before g h ≡ false → EndApart g h → InTurn h g
other_way g h not apart = elim (one_of g h apart) [ inl is ↦ absurd (false≢true (sym not ∙ tells g h is)) | inr is ↦ is ]

-- a reception put to its place
put_moves : (h : Hearing) (gs : List Hearing) → IsPermutation (h ∷ gs) (put_in h gs)
put_moves h [] = IsPermutation-refl (h ∷ [])
put_moves h (g ∷ gs) =
    cond_both (reception_comes_before g h) (g ∷ put_in h gs) (h ∷ g ∷ gs) (IsPermutation (h ∷ g ∷ gs))
    (λ is. IsPermutation-trans (h ∷ g ∷ gs) (g ∷ h ∷ gs) (g ∷ put_in h gs)
    (IsPermutation-sym (g ∷ h ∷ gs) (h ∷ g ∷ gs) (IsPermutation-middle (g ∷ []) h gs))
    (IsPermutation-cons g (h ∷ gs) (put_in h gs) (put_moves h gs)))
    (λ is. IsPermutation-refl (h ∷ g ∷ gs))

pub by_end_moves : (hs : List Hearing) → IsPermutation hs (by_end hs)
by_end_moves [] = IsPermutation-refl []
by_end_moves (h ∷ hs) =
    IsPermutation-trans (h ∷ hs) (h ∷ by_end hs) (put_in h (by_end hs)) (IsPermutation-cons h hs (by_end hs) (by_end_moves hs)) (put_moves h (by_end hs))

put_in_turn : (h : Hearing) (gs : List Hearing) → ((g : Hearing) → Contains gs g → EndApart g h) → AllPairs InTurn gs → AllPairs InTurn (put_in h gs)
put_in_turn h [] apart all = pairs_cons InTurn h [] (λ y there. absurd (not_in_none y there)) all
put_in_turn h (g ∷ gs) apart all =
    let rest = put_in_turn h gs (λ k there. apart k (contains_tail g gs k there)) (pairs_tail InTurn g gs all) in
    let later = pairs_head InTurn g gs all in
    cond_both (reception_comes_before g h) (g ∷ put_in h gs) (h ∷ g ∷ gs) (AllPairs InTurn)
    (λ is. pairs_cons InTurn g (put_in h gs)
    (λ k there. elim (contains_cases h gs k (Contains-permutation (put_in h gs) (h ∷ gs) k (IsPermutation-sym (h ∷ gs) (put_in h gs) (put_moves h gs)) there)) [
      | inl same ↦ subst (InTurn g) same (told g h is)
      | inr more ↦ later k more
    ]) rest)
    (λ is.
    let first = other_way g h is (apart g (contains_head g gs)) in
    pairs_cons InTurn h (g ∷ gs) (λ k there. elim (contains_cases g gs k there) [
      | inl same ↦ subst (InTurn h) same first
      | inr more ↦ chain h g k first (later k more)
    ]) all)

pub by_end_in_turn : (hs : List Hearing) → AllPairs EndApart hs → AllPairs InTurn (by_end hs)
by_end_in_turn [] apart = λ i j d less within. absurd (omega (arith, within))
by_end_in_turn (h ∷ hs) apart =
    put_in_turn h (by_end hs)
    (λ g there end node. pairs_head EndApart h hs apart g
    (Contains-permutation (by_end hs) hs g (IsPermutation-sym hs (by_end hs) (by_end_moves hs)) there) (sym end) (sym node))
    (by_end_in_turn hs (pairs_tail EndApart h hs apart))

-- two lists in turn with the same elements
pub same_in_turn : (gs hs : List Hearing) → AllPairs InTurn gs → AllPairs InTurn hs → ((k : Hearing) → Contains gs k → Contains hs k)
    → ((k : Hearing) → Contains hs k → Contains gs k) → gs ≡ hs
same_in_turn = same_order InTurn one_way
