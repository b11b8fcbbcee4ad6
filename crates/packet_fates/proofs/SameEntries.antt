-- Entries in the order of their keys are determined by their look-ups.
use Rattle.std.proofs.Common.{◌≡◌, ◌≢◌, List, [], ◌∷◌, true, Option, Some, None, is_some, unwrap_or, refl, sym, ◌∙◌, ap, ⊎_elim}
use Rattle.std.proofs.lemmas.Bool.{cases_Bool, false≢true}
use Rattle.std.proofs.lemmas.Map.{lookup-none}
use Rattle.std.proofs.lemmas.Map.Entries.{lookup_head, lookup_tail, none_below_head, none_past_head}
use Rattle.std.proofs.lemmas.Map.Keys.{IsDistinct-from_sorted, sorted_tail}
use Rattle.std.proofs.lemmas.Map.Lookups.{CmpEqualImpliesEq}
use Rattle.std.specs.BTreeMap.{is_at}
use Rattle.std.specs.Cmp.{IsTotalOrder, eq_by_cmp_equiv, tied_itself}
use Rattle.std.specs.List.Sorted.{IsStrictlySortedBy}
use Rattle.std.specs.Map.{keys_of, lookup}
use Rattle.std.specs.Ordering.{eq_by_cmp, is_eq, ordering_reverse}
use Rattle.std.specs.declared.cmp.Ordering.{Ordering}
use Rattle.std.specs.declared.cmp.Ordering.TheVariants.{Less, Equal, Greater}

not_none : {X : Type 0} (v : X) → Some v ≢ None
not_none v is = false≢true (sym (ap is_some is))

module _ {K X : Type 0} {R : K → K → Ordering} (o : IsTotalOrder R) (exact : CmpEqualImpliesEq R) where
  abbrev at_key : K → List (K × X) → Option X
  at_key q es = lookup (is_at (R q)) es

  at_first : (e : K × X) (es : List (K × X)) → at_key e.0 (e ∷ es) ≡ Some e.1
  at_first e es = lookup_head (is_at (R e.0)) e es (ap is_eq (tied_itself o e.0))

  past_first : (q : K) (e : K × X) (es : List (K × X)) → IsStrictlySortedBy R (keys_of (e ∷ es)) → eq_by_cmp R q e.0 ≡ true → at_key q es ≡ None
  past_first q e es sorted same =
      lookup-none (is_at (R q)) es (none_past_head (eq_by_cmp_equiv o) q e es (IsDistinct-from_sorted R (keys_of (e ∷ es)) sorted) same)

  module _ (d e : K × X) (ds es : List (K × X)) (d_sorted : IsStrictlySortedBy R (keys_of (d ∷ ds))) (e_sorted : IsStrictlySortedBy R (keys_of (e ∷ es)))
      (alike : (q : K) → at_key q (d ∷ ds) ≡ at_key q (e ∷ es)) where
    keys_tie : (r : Ordering) → R d.0 e.0 ≡ r → R d.0 e.0 ≡ Equal
    keys_tie Less is = absurd (not_none d.1 (sym (at_first d ds) ∙ alike d.0 ∙ lookup-none (is_at (R d.0)) (e ∷ es) (none_below_head o d.0 e es e_sorted is)))
    keys_tie Equal is = is
    keys_tie Greater is =
        absurd (not_none e.1 (sym (at_first e es) ∙ sym (alike e.0)
        ∙ lookup-none (is_at (R e.0)) (d ∷ ds) (none_below_head o e.0 d ds d_sorted (o.antisymm e.0 d.0 ∙ ap ordering_reverse is))))

    same_key : d.0 ≡ e.0
    same_key = exact d.0 e.0 (keys_tie (R d.0 e.0) refl)

    same_first : d ≡ e
    same_first =
        let value = ap (λ (v : Option X). unwrap_or v d.1) (sym (at_first d ds) ∙ alike d.0
        ∙ lookup_head (is_at (R d.0)) e es (ap is_eq (keys_tie (R d.0 e.0) refl))) in
        λ i. (same_key i, value i)

    alike_after : (q : K) → at_key q ds ≡ at_key q es
    alike_after q =
        let keys = ap (λ (k : K). eq_by_cmp R q k) same_key in
        ⊎_elim
        (λ here. past_first q d ds d_sorted here ∙ sym (past_first q e es e_sorted (sym keys ∙ here)))
        (λ there. sym (lookup_tail (is_at (R q)) d ds there) ∙ alike q ∙ lookup_tail (is_at (R q)) e es (sym keys ∙ there))
        (cases_Bool (eq_by_cmp R q d.0))

  pub same_entries : (ds es : List (K × X)) → IsStrictlySortedBy R (keys_of ds) → IsStrictlySortedBy R (keys_of es) → ((q : K) → at_key q ds ≡ at_key q es)
      → ds ≡ es
  same_entries [] [] d_sorted e_sorted alike = refl
  same_entries [] (e ∷ es) d_sorted e_sorted alike = absurd (not_none e.1 (sym (alike e.0 ∙ at_first e es)))
  same_entries (d ∷ ds) [] d_sorted e_sorted alike = absurd (not_none d.1 (sym (at_first d ds) ∙ alike d.0))
  same_entries (d ∷ ds) (e ∷ es) d_sorted e_sorted alike =
      let first = same_first d e ds es d_sorted e_sorted alike in
      let rest = same_entries ds es (sorted_tail R d.0 (keys_of ds) d_sorted) (sorted_tail R e.0 (keys_of es) e_sorted)
      (alike_after d e ds es d_sorted e_sorted alike) in
      λ i. first i ∷ rest i
