-- A log that is read entry by entry.
use Rattle.std.proofs.Common.{◌≡◌, ℕ, zero, suc, ◌+◌, ◌<◌, ◌≤◌, List, [], ◌∷◌, ◌++◌, Bool, true, false, if◌then◌else◌, nat_le, ◌==◌, inl, inr, Option, Some}
use Rattle.std.proofs.Common.{None, option_map, is_some, filter_map, refl, sym, ◌∙◌, ap, subst, arith, length, take, get_or, set, replicate, count_by, All}
use Rattle.std.specs.Prelude.{Contains, ◌≢◌, slice_get, option_and_then}
use Rattle.std.proofs.lemmas.Bool.{leb-true, leb-false, eqb-true, eqb-false}
use Rattle.std.proofs.lemmas.List.{take_more, append-nil, get_or-set_same, get_or-set_other, length-append, length-set, map_more, length-replicate}
use Rattle.std.proofs.lemmas.List.Sums.{sum_by-le, count_by-le-length}
use Rattle.std.specs.List.{cons_option}
use Rattle.std.proofs.lemmas.List.Elements.{filter_map-append, Contains-push, Contains-push_cases, Contains-append_left}
use Rattle.std.proofs.lemmas.Option.{slice_get-get_or}
use Rattle.lwb_base.specs.declared.limits.TheConstants.{MOST_NODES}
use Rattle.air_log.specs.declared.entry.Entry.{Entry}
use Rattle.air_log.specs.declared.entry.Entry.TheVariants.{Sent, Heard, Tuned}
use Rattle.air_log.specs.Entries.{sendings_of, hearings_of, sending_in, hearing_in}
use Rattle.radio_model.specs.declared.sending.Sending.{Sending}
use Rattle.radio_model.specs.OnAir.{Hearing}
use Rattle.scenario_text.specs.FloodParts.{FloodParts}
use Rattle.scenario_text.specs.declared.lines.NodeLine.{NodeLine}
use Rattle.bus_terms.specs.Flooding.{Setting, moment, sendings, steps}
use Rattle.bus_terms.specs.FloodOfText.{ids}
use Rattle.lwb_base.proofs.Elements.{not_in_none}
use Rattle.lwb_base.proofs.Truths.{one_if}
use Rattle.lwb_flood.specs.FloodLog.{IsAcceptanceStep, accepting}
use Rattle.lwb_flood.specs.declared.flood_outcome.FirstHearing.{FirstHearing}
use Rattle.lwb_flood.specs.LogReading.{EndsFirst, IsFirstReception, AreFirst, kept_of, reception_of_entry, earlier_reception, with_earlier, step_of}

-- one entry more
entry_at : (air : List Entry) (i : ℕ) → i < length air → (e : Entry) × (slice_get air i ≡ Some e) × (take (i + 1) air ≡ take i air ++ e ∷ [])
entry_at air i within = of_list air i within
  where
    of_list : (xs : List Entry) (i : ℕ) → i < length xs → (e : Entry) × (slice_get xs i ≡ Some e) × (take (i + 1) xs ≡ take i xs ++ e ∷ [])
    of_list [] i within = absurd (omega arith)
    of_list (x ∷ xs) i within =
        let e = get_or (x ∷ xs) i x in
        (e, slice_get-get_or (x ∷ xs) i x within, take_more (x ∷ xs) i x within)

-- transmissions
counted_by : (e : Entry) → length (sendings_of (e ∷ [])) ≡ one_if (is_some (sending_in e))
counted_by (Sent s) = refl
counted_by (Heard h) = refl
counted_by (Tuned t) = refl

pub counted_more : (air : List Entry) (i n : ℕ) (b : Bool) → i < length air → n ≡ length (sendings_of (take i air))
    → b ≡ is_some (option_and_then sending_in (slice_get air i))
    → n + one_if b ≡ length (sendings_of (take (i + 1) air))
counted_more air i n b within count at =
    let e = entry_at air i within in
    let all : sendings_of (take (i + 1) air) ≡ sendings_of (take i air) ++ sendings_of (e.0 ∷ []) = ap sendings_of e.2
    ∙ filter_map-append sending_in (take i air) (e.0 ∷ []) in
    let long : length (sendings_of (take (i + 1) air)) ≡ length (sendings_of (take i air)) + length (sendings_of (e.0 ∷ [])) = ap length all
    ∙ length-append (sendings_of (take i air)) (sendings_of (e.0 ∷ [])) in
    let here : one_if b ≡ length (sendings_of (e.0 ∷ [])) = ap one_if (at ∙ ap (λ (o : Option Entry). is_some (option_and_then sending_in o)) e.1)
    ∙ sym (counted_by e.0) in
    omega (arith, long, here, count)

-- receptions of v
module _ (hs : List Hearing) (h : Hearing) (v : ℕ) where
  other_added : h.node ≢ v → (o : Option FirstHearing) → IsFirstReception hs v o → IsFirstReception (hs ++ h ∷ []) v o
  other_added other = by_cases
    where
      still : (x : Sending) → Contains (hs ++ h ∷ []) (record { node = v; sending = x }) → Contains hs (record { node = v; sending = x })
      still x there = elim (Contains-push_cases hs h (record { node = v; sending = x }) there) [
        | inl old ↦ old
        | inr is ↦ absurd (other (ap (λ (g : Hearing). g.node) is))
      ]

      by_cases : (o : Option FirstHearing) → IsFirstReception hs v o → IsFirstReception (hs ++ h ∷ []) v o
      by_cases None none = λ x there. none x (still x there)
      by_cases (Some g) is = record {
        sending = is.sending;
        there = Contains-append_left hs (h ∷ []) _ is.there;
        end = is.end;
        counter = is.counter;
        first = λ y there. is.first y (still y there);
      }

  own_added : h.node ≡ v → (o : Option FirstHearing) → IsFirstReception hs v o → EndsFirst (hs ++ h ∷ []) v (earlier_reception o (kept_of h).1)
  own_added own = by_cases
    where
      here : Contains (hs ++ h ∷ []) (record { node = v; sending = h.sending })
      here = subst (λ (w : ℕ). Contains (hs ++ h ∷ []) (record { node = w; sending = h.sending })) own (Contains-push hs h)

      newest : ((y : Sending) → Contains hs (record { node = v; sending = y }) → h.sending.end ≤ y.end) → EndsFirst (hs ++ h ∷ []) v (kept_of h).1
      newest before = record {
        sending = h.sending;
        there = here;
        end = refl;
        counter = refl;
        first = λ y there. elim (Contains-push_cases hs h (record { node = v; sending = y }) there) [
          | inl old ↦ before y old
          | inr is ↦ (let same : h.sending.end ≡ y.end = ap (λ (g : Hearing). g.sending.end) is in omega (arith, same))
        ];
      }

      by_test : (g : FirstHearing) → EndsFirst hs v g → (b : Bool) → nat_le g.end h.sending.end ≡ b
          → EndsFirst (hs ++ h ∷ []) v (if b then g else (kept_of h).1)
      by_test g is true at =
          let early : g.end ≤ h.sending.end = leb-true g.end h.sending.end at in
          let own_end = is.end in
          record {
            sending = is.sending;
            there = Contains-append_left hs (h ∷ []) _ is.there;
            end = is.end;
            counter = is.counter;
            first = λ y there. elim (Contains-push_cases hs h (record { node = v; sending = y }) there) [
              | inl old ↦ is.first y old
              | inr same ↦ (let ends : h.sending.end ≡ y.end = ap (λ (g : Hearing). g.sending.end) same in omega (arith, early, own_end, ends))
            ];
          }
      by_test g is false at =
          let late : h.sending.end < g.end = leb-false g.end h.sending.end at in
          let own_end = is.end in
          newest (λ y old. let first = is.first y old in omega (arith, late, own_end, first))

      by_cases : (o : Option FirstHearing) → IsFirstReception hs v o → EndsFirst (hs ++ h ∷ []) v (earlier_reception o (kept_of h).1)
      by_cases None none = newest (λ y old. absurd (none y old))
      by_cases (Some g) is = by_test g is (nat_le g.end h.sending.end) refl

-- a reception more
added : (hs : List Hearing) (firsts : List (Option FirstHearing)) (h : Hearing) → length firsts ≡ 201 → h.node ≤ 200
    → ((v : ℕ) → IsFirstReception hs v (get_or firsts v None)) → (v : ℕ)
    → IsFirstReception (hs ++ h ∷ []) v (get_or (with_earlier firsts (Some (kept_of h))) v None)
added hs firsts h long small are v = by_test (h.node == v) refl
  where
    kept : Option FirstHearing
    kept = Some (earlier_reception (get_or firsts h.node None) (kept_of h).1)

    by_test : (b : Bool) → (h.node == v) ≡ b → IsFirstReception (hs ++ h ∷ []) v (get_or (with_earlier firsts (Some (kept_of h))) v None)
    by_test true at =
        let own : h.node ≡ v = eqb-true h.node v at in
        let here : get_or (set firsts h.node kept) v None ≡ kept = ap (λ (w : ℕ). get_or (set firsts h.node kept) w None) (sym own)
        ∙ get_or-set_same firsts h.node kept None (omega (arith, long, small)) in
        let is = own_added hs h v own (get_or firsts v None) (are v) in
        subst (λ (o : Option FirstHearing). IsFirstReception (hs ++ h ∷ []) v o)
        (ap (λ (w : ℕ). Some (earlier_reception (get_or firsts w None) (kept_of h).1)) (sym own) ∙ sym here) is
    by_test false at =
        let other : h.node ≢ v = eqb-false h.node v at in
        let here : get_or (set firsts h.node kept) v None ≡ get_or firsts v None = get_or-set_other firsts h.node v kept None (λ same. other (sym same)) in
        subst (λ (o : Option FirstHearing). IsFirstReception (hs ++ h ∷ []) v o) (sym here) (other_added hs h v other (get_or firsts v None) (are v))

-- an entry more
entry_added : (hs : List Hearing) (firsts : List (Option FirstHearing)) (o : Option Hearing) → length firsts ≡ 201
    → ((h : ℕ × FirstHearing) → option_map kept_of o ≡ Some h → h.0 ≤ 200)
    → ((v : ℕ) → IsFirstReception hs v (get_or firsts v None)) → (v : ℕ)
    → IsFirstReception (hs ++ cons_option o []) v (get_or (with_earlier firsts (option_map kept_of o)) v None)
entry_added hs firsts None long small are v = subst (λ (l : List Hearing). IsFirstReception l v (get_or firsts v None)) (sym (append-nil hs)) (are v)
entry_added hs firsts (Some h) long small are v = added hs firsts h long (small (kept_of h) refl) are v

long_still : (firsts : List (Option FirstHearing)) (o : Option (ℕ × FirstHearing)) → length (with_earlier firsts o) ≡ length firsts
long_still firsts None = refl
long_still firsts (Some h) = length-set firsts h.0 (Some (earlier_reception (get_or firsts h.0 None) h.1))

pub firsts_more : (air : List Entry) (i : ℕ) (firsts : List (Option FirstHearing)) (o : Option (ℕ × FirstHearing)) → i < length air
    → AreFirst (take i air) firsts
    → o ≡ option_and_then reception_of_entry (slice_get air i) → ((h : ℕ × FirstHearing) → o ≡ Some h → h.0 ≤ 200)
    → AreFirst (take (i + 1) air) (with_earlier firsts o)
firsts_more air i firsts o within are at small =
    let e = entry_at air i within in
    let hs = hearings_of (take i air) in
    let is : o ≡ reception_of_entry e.0 = at ∙ ap (λ (x : Option Entry). option_and_then reception_of_entry x) e.1 in
    let all : hearings_of (take (i + 1) air) ≡ hs ++ hearings_of (e.0 ∷ []) = ap hearings_of e.2 ∙ filter_map-append hearing_in (take i air) (e.0 ∷ []) in
    let each : (v : ℕ) → IsFirstReception (hs ++ hearings_of (e.0 ∷ [])) v (get_or (with_earlier firsts (reception_of_entry e.0)) v None) =
    entry_added hs firsts (hearing_in e.0) are.ids (λ h here. small h (is ∙ here)) are.each in
    record {
      ids = long_still firsts o ∙ are.ids;
      each = λ v. subst (λ (l : List Hearing). IsFirstReception l v (get_or (with_earlier firsts o) v None)) (sym all)
          (subst (λ (p : Option (ℕ × FirstHearing)). IsFirstReception (hs ++ hearings_of (e.0 ∷ [])) v (get_or (with_earlier firsts p) v None)) (sym is)
          (each v));
    }

nothing_kept : (n v : ℕ) → (let none : Option FirstHearing = None in get_or (replicate n none) v none ≡ none)
nothing_kept zero v = refl
nothing_kept (suc n) zero = refl
nothing_kept (suc n) (suc v) = nothing_kept n v

pub none_first : AreFirst [] (replicate 201 None)
none_first = record {
  ids = length-replicate 201 none;
  each = λ v. subst (λ (o : Option FirstHearing). IsFirstReception [] v o) (sym (nothing_kept 201 v)) (λ x there. not_in_none _ there);
}
  where
    none : Option FirstHearing
    none = None

-- the nodes that accept, with one node more
pub accepting_more : (step : ℕ → Option ℕ) (nodes : List NodeLine) (i : ℕ) (line : NodeLine) (items : List (ℕ × ℕ)) → i < length nodes
    → line ≡ get_or nodes i line
    → items ≡ accepting step (ids (take i nodes)) → items ++ cons_option
    (option_map {U = ℕ × ℕ} (λ k. (line.node, k)) (step line.node)) [] ≡ accepting step (ids (take (i + 1) nodes))
accepting_more step nodes i line items below at is =
    let node : NodeLine → ℕ = λ n. n.node in
    let h : ℕ → Option (ℕ × ℕ) = λ v. option_map {U = ℕ × ℕ} (λ k. (v, k)) (step v) in
    let more : ids (take (i + 1) nodes) ≡ ids (take i nodes) ++ line.node ∷ [] = map_more node nodes i line below
    ∙ ap (λ (n : NodeLine). ids (take i nodes) ++ n.node ∷ []) (sym at) in
    ap (λ (l : List (ℕ × ℕ)). l ++ cons_option (h line.node) []) is
    ∙ sym (ap (λ (l : List ℕ). filter_map h l) more ∙ filter_map-append h (ids (take i nodes)) (line.node ∷ []))

-- what is kept of the whole log is what is asked
pub step_is : (f : FloodParts) (air : List Entry) (firsts : List (Option FirstHearing)) → AreFirst air firsts → (v : ℕ)
    → IsAcceptanceStep f air v (step_of f.start firsts v)
step_is f air firsts are v = by_test (v == f.start) refl (get_or firsts v None) (are.each v)
  where
    by_test : (b : Bool) → (v == f.start) ≡ b → (o : Option FirstHearing) → IsFirstReception (hearings_of air) v o
        → IsAcceptanceStep f air v (if b then None else option_map (λ g. g.counter) o)
    by_test true at o is = inl (eqb-true v f.start at)
    by_test false at None is = inr is
    by_test false at (Some g) is = (eqb-false v f.start at, record { sending = is.sending; there = is.there; counter = is.counter; first = is.first })

-- a flood has few transmissions
pub few_sendings : (s : Setting) → length s.everyone ≤ MOST_NODES → sendings s ≤ 768
few_sendings s few =
    let each : All (λ v. count_by (λ k. is_some ((moment s k).sends v)) steps ≤ 12) s.everyone = λ k d less. count_by-le-length
    (λ i. is_some ((moment s i).sends (get_or s.everyone k d))) steps in
    let all = sum_by-le (λ v. count_by (λ k. is_some ((moment s k).sends v)) steps) 12 s.everyone each in
    omega (arith, all)
