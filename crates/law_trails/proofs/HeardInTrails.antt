-- What a trail takes as received are the Heard entries of its node.
use Rattle.std.proofs.Common.{◌≡◌, ℕ, ◌↔◌, inl, inr, List, [], ◌∷◌, Bool, ◌==◌, Contains, refl, sym, ap, subst}
use Rattle.std.proofs.lemmas.Bool.{cond_both, eq-eqb, eqb-true}
use Rattle.radio_model.specs.OnAir.{Hearing}
use Rattle.air_log.specs.declared.entry.Entry.{Entry}
use Rattle.air_log.specs.Entries.{hearings_of}
use Rattle.air_log.specs.Lawful.{reception_comes_before, put_in, by_end, reception_of, hearings_by, heard_by}
use Rattle.air_log.specs.Trails.{Reception}
use Rattle.lwb_base.proofs.Elements.{contains_head, contains_tail, contains_cases, map_contains, map_from, in_filtered, filtered}
use Rattle.law_trails.specs.TrailLinks.{IsReceptionOf}

-- the same elements
abbrev Same : List Hearing → List Hearing → Type 0
Same xs ys = (h : Hearing) → Contains xs h ↔ Contains ys h

turned : (g h : Hearing) (hs : List Hearing) (x : Hearing) → Contains (g ∷ h ∷ hs) x → Contains (h ∷ g ∷ hs) x
turned g h hs x there =
    elim (contains_cases g (h ∷ hs) x there) [
      | inl is ↦ contains_tail h (g ∷ hs) x (subst (Contains (g ∷ hs)) is (contains_head g hs))
      | inr later ↦ elim (contains_cases h hs x later) [
        | inl is ↦ subst (Contains (h ∷ g ∷ hs)) is (contains_head h (g ∷ hs))
        | inr last ↦ contains_tail h (g ∷ hs) x (contains_tail g hs x last)
      ]
    ]

behind : (g : Hearing) (xs ys : List Hearing) → Same xs ys → (x : Hearing) → Contains (g ∷ xs) x → Contains (g ∷ ys) x
behind g xs ys same x there =
    elim (contains_cases g xs x there) [
      | inl is ↦ subst (Contains (g ∷ ys)) is (contains_head g ys)
      | inr later ↦ contains_tail g ys x ((same x).0 later)
    ]

back : (xs ys : List Hearing) → Same xs ys → Same ys xs
back xs ys same h = ((same h).1, (same h).0)

put_same : (h : Hearing) (hs : List Hearing) → Same (put_in h hs) (h ∷ hs)
put_same h [] = λ x. (λ there. there, λ there. there)
put_same h (g ∷ gs) =
    let rest = put_same h gs in
    cond_both (reception_comes_before g h) (g ∷ put_in h gs) (h ∷ g ∷ gs) (λ (l : List Hearing). Same l (h ∷ g ∷ gs))
    (λ is. λ x. (
      λ there. turned g h gs x (behind g (put_in h gs) (h ∷ gs) rest x there),
      λ there. behind g (h ∷ gs) (put_in h gs) (back (put_in h gs) (h ∷ gs) rest) x (turned h g gs x there),
    ))
    (λ is. λ x. (λ there. there, λ there. there))

sorted_same : (hs : List Hearing) → Same (by_end hs) hs
sorted_same [] x = (λ there. there, λ there. there)
sorted_same (h ∷ hs) x =
    let rest = sorted_same hs in
    let put = put_same h (by_end hs) x in
    (λ there. behind h (by_end hs) hs rest x (put.0 there), λ there. put.1 (behind h hs (by_end hs) (back (by_end hs) hs rest) x there))

pub reception_is : (air : List Entry) (v : ℕ) (h : Reception) → Contains (heard_by air v) h ↔ IsReceptionOf air v h
reception_is air v h = (from, to)
  where
    mine : Hearing → Bool
    mine g = g.node == v

    from : Contains (heard_by air v) h → IsReceptionOf air v h
    from there =
        let g = map_from reception_of (by_end (hearings_by air v)) h there in
        let both = filtered mine (hearings_of air) g.0 ((sorted_same (hearings_by air v) g.0).0 g.1) in
        let node : g.0.node ≡ v = eqb-true g.0.node v both.1 in
        record {
          sending = g.0.sending;
          there = subst (λ (u : ℕ). Contains (hearings_of air) (record { node = u; sending = g.0.sending })) node both.0;
          packet = sym (ap (λ (r : Reception). r.packet) g.2);
          end = sym (ap (λ (r : Reception). r.end) g.2);
        }

    to : IsReceptionOf air v h → Contains (heard_by air v) h
    to is =
        let g : Hearing = record { node = v; sending = is.sending } in
        let own = in_filtered mine (hearings_of air) g is.there (eq-eqb v v refl) in
        let taken = map_contains reception_of (by_end (hearings_by air v)) g ((sorted_same (hearings_by air v) g).1 own) in
        subst (λ (q : List ℕ). Contains (heard_by air v) (record { packet = q; end = h.end })) (sym is.packet)
        (subst (λ (k : ℕ). Contains (heard_by air v) (record { packet = is.sending.packet; end = k })) (sym is.end) taken)
