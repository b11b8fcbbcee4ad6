-- Codes and how often they are in a list.
use Rattle.std.proofs.Common.{◌≡◌, ℕ, ◌+◌, ◌-◌, ◌^◌, ◌<◌, ◌≤◌, List, [], ◌∷◌, ◌++◌, Bool, true, false, ◌==◌, cond, is_some, length, get_or}
use Rattle.std.proofs.Common.{take, map, Option, Some, None, IsSome, option_map, ⊎_elim, refl, sym, ◌∙◌, ap, subst, arith, eq-eqb}
use Rattle.std.specs.List.{slice_get}
use Rattle.std.specs.Option.{IfSome}
use Rattle.std.specs.List.Sorted.{IsNonDecreasing}
use Rattle.std.proofs.lemmas.Bool.{ne_eqb, lt-ltb, le-leb, and_from, cases_eq}
use Rattle.std.proofs.lemmas.List.{take_more, length-take-le, get_or-take}
use Rattle.std.proofs.lemmas.List.Sums.{sum_by_push, count_by-le-length}
use Rattle.std.proofs.lemmas.Option.{get_or_from_slice_get, slice_get_within}
use Rattle.schedule_codec.specs.OwnerLists.{takes_owner, may_follow}
use Rattle.bus_rules.specs.Tables.{TableEntry, Table, entry_of}
use Rattle.bus_rules.specs.Granting.{count_of, grant, share_in}
use Rattle.stream_table.specs.Entries.{granted_once, grant_owner}
use Rattle.host_scheduler.specs.Debts.{granted_all}

-- one code more
once : (codes : List ℕ) (c : ℕ) (e : TableEntry) → granted_once c (grant (share_in codes) e) ≡ grant (share_in (codes ++ c ∷ [])) e
once codes c e = ⊎_elim same other (cases_eq e.code c)
  where
    count : count_of e.code (codes ++ c ∷ []) ≡ count_of e.code codes + cond (c == e.code) 1 0
    count = sum_by_push (λ (x : ℕ). cond (x == e.code) 1 0) codes c

    with : ℕ → TableEntry
    with n = record e { granted = n }

    same : e.code ≡ c → granted_once c (grant (share_in codes) e) ≡ grant (share_in (codes ++ c ∷ [])) e
    same is =
        let more : count_of e.code (codes ++ c ∷ []) ≡ count_of e.code codes + 1 = count
        ∙ ap (λ (b : Bool). count_of e.code codes + cond b 1 0) (eq-eqb c e.code (sym is)) in
        let sums : (e.granted + count_of e.code codes) + 1 ≡ e.granted + count_of e.code (codes ++ c ∷ []) = omega (arith, more) in
        ap (λ (b : Bool). with (cond b ((e.granted + count_of e.code codes) + 1) (e.granted + count_of e.code codes))) (eq-eqb e.code c is) ∙ ap with sums

    other : (e.code ≡ c → ⊥) → granted_once c (grant (share_in codes) e) ≡ grant (share_in (codes ++ c ∷ [])) e
    other apart =
        let stays : count_of e.code (codes ++ c ∷ []) ≡ count_of e.code codes + 0 = count
        ∙ ap (λ (b : Bool). count_of e.code codes + cond b 1 0) (ne_eqb c e.code (λ is. apart (sym is))) in
        let sums : e.granted + count_of e.code codes ≡ e.granted + count_of e.code (codes ++ c ∷ []) = omega (arith, stays) in
        ap (λ (b : Bool). with (cond b ((e.granted + count_of e.code codes) + 1) (e.granted + count_of e.code codes))) (ne_eqb e.code c apart) ∙ ap with sums

once_each : (codes : List ℕ) (c : ℕ) (es : List TableEntry) → map (granted_once c) (map (grant (share_in codes)) es)
    ≡ map (grant (share_in (codes ++ c ∷ []))) es
once_each codes c [] = refl
once_each codes c (e ∷ es) = cc (once codes c e, once_each codes c es)

pub granted_more : (codes : List ℕ) (i c : ℕ) (t now : Table) → i < length codes → c ≡ get_or codes i 0
    → now ≡ grant_owner c (granted_all (take i codes) t) → now ≡ granted_all (take (i + 1) codes) t
granted_more codes i c t now within read is =
    let next : take (i + 1) codes ≡ take i codes ++ c ∷ [] = take_more codes i 0 within ∙ ap (λ (x : ℕ). take i codes ++ x ∷ []) (sym read) in
    is ∙ ap (λ (es : List TableEntry). record t { entries = es }) (once_each (take i codes) c t.entries) ∙ ap (λ (cs : List ℕ). granted_all cs t) (sym next)

none_granted : (es : List TableEntry) → es ≡ map (grant (share_in [])) es
none_granted [] = refl
none_granted (e ∷ es) =
    let same : e ≡ grant (share_in []) e = ap (λ (n : ℕ). record e { granted = n }) (omega arith) in
    cc (same, none_granted es)

pub nothing_granted : (t : Table) → t ≡ granted_all [] t
nothing_granted t = ap (λ (es : List TableEntry). record t { entries = es }) (none_granted t.entries)

-- an entry after grants
entry_granted : (codes : List ℕ) (c : ℕ) (es : List TableEntry) → entry_of (map (grant (share_in codes)) es) c
    ≡ option_map (grant (share_in codes)) (entry_of es c)
entry_granted codes c [] = refl
entry_granted codes c (e ∷ es) = by_test (e.code == c) (entry_granted codes c es)
  where
    f : TableEntry → TableEntry
    f = grant (share_in codes)

    by_test : (b : Bool) → entry_of (map (grant (share_in codes)) es) c ≡ option_map (grant (share_in codes)) (entry_of es c)
        → cond b (Some (grant (share_in codes) e)) (entry_of (map (grant (share_in codes)) es) c)
        ≡ option_map (grant (share_in codes)) (cond b (Some e) (entry_of es c))
    by_test true rest = refl
    by_test false rest = rest

pub still_there : (codes : List ℕ) (c : ℕ) (es : List TableEntry) → IsSome (entry_of es c) → IsSome (entry_of (map (grant (share_in codes)) es) c)
still_there codes c es there = ap is_some (entry_granted codes c es) ∙ of_option (entry_of es c) there
  where
    of_option : (o : Option TableEntry) → is_some o ≡ true → is_some (option_map (grant (share_in codes)) o) ≡ true
    of_option None is = cc
    of_option (Some e) is = refl

pub still_few : (codes : List ℕ) (c : ℕ) (es : List TableEntry) → length codes ≤ 40 → IfSome (entry_of es c) (λ e. e.granted < 2 ^ 31)
    → IfSome (entry_of (map (grant (share_in codes)) es) c) (λ e. e.granted < 4294967295)
still_few codes c es long few =
    subst (λ (o : Option TableEntry). IfSome o (λ e. e.granted < 4294967295)) (sym (entry_granted codes c es)) (of_option (entry_of es c) few)
  where
    of_option : (o : Option TableEntry) → IfSome o (λ e. e.granted < 2 ^ 31) → IfSome (option_map (grant (share_in codes)) o) (λ e. e.granted < 4294967295)
    of_option None is = tt
    of_option (Some e) is = omega (arith, count_by-le-length (λ (x : ℕ). x == e.code) codes)

-- codes that do not descend can be added one after another
pub follows : (codes : List ℕ) (i c : ℕ) → IsNonDecreasing codes → length codes ≤ 40 → i < length codes → c ≡ get_or codes i 0
    → takes_owner (take i codes) c ≡ true
follows codes i c up long within read =
    let cut : length (take i codes) ≡ i = length-take-le i codes (omega arith) in
    and_from _ _ (lt-ltb (length (take i codes)) 40 (omega arith)) (of_last (slice_get (take i codes) (length (take i codes) - 1)) refl cut)
  where
    of_last : (o : Option ℕ) → slice_get (take i codes) (length (take i codes) - 1) ≡ o → length (take i codes) ≡ i → may_follow o c ≡ true
    of_last None is cut = refl
    of_last (Some last) is cut =
        let at = slice_get_within (take i codes) (length (take i codes) - 1) last is in
        let there = get_or_from_slice_get (take i codes) (length (take i codes) - 1) last 0 is in
        let same = get_or-take i codes (length (take i codes) - 1) 0 (omega arith) in
        let order = up (length (take i codes) - 1) i 0 (omega arith) within in
        le-leb last c (omega arith)
