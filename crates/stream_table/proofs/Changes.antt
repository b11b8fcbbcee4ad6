-- The entries after one of them changed, or went, or came.
use Rattle.std.proofs.Common.{◌≡◌, ◌≢◌, ℕ, ◌+◌, ◌<◌, List, Bool, true, false, nat_lt, not, cond, is_some, get_or}
use Rattle.std.proofs.Common.{set, map, filter_map, Option, Some, None, refl, sym, ◌∙◌, ap, subst, arith, eq-eqb}
use Rattle.std.specs.List.{remove}
use Rattle.std.specs.Option.{IfSome, option_map_or}
use Rattle.std.proofs.lemmas.Bool.{ne_eqb, lt-ltb, le-ltb, ltb-true, ltb-false}
use Rattle.std.proofs.lemmas.List.{length-map}
use Rattle.std.proofs.lemmas.Option.{get_or_from_slice_get}
use Rattle.lwb_base.proofs.Lists.{length_filtered, length_sifted}
use Rattle.bus_rules.specs.Granting.{grant}
use Rattle.bus_rules.specs.Tables.{TableEntry, code_in, has_code, AreEntries, entry_of, without, entry_after_data, missed}
use Rattle.stream_table.specs.CodeOrder.{IsAtPlace, IsGap}
use Rattle.stream_table.specs.Entries.{granted_once, misses_last}
use Rattle.stream_table.proofs.Order.{Keeps, Sifts, ascends_map, ascends_filter_map, ascends_filter}
use Rattle.stream_table.proofs.Edits.{map_none, map_at, sift_none, sift_set, sift_remove, without_none, without_at}

-- what is read at the place is the entry
pub read_is : (es : List TableEntry) (c n : ℕ) (at : IsAtPlace code_in es c n) (x : TableEntry) → x ≡ get_or es n x → x ≡ at.item
read_is es c n at x read = read ∙ get_or_from_slice_get es n at.item x at.at

pub found : (es : List TableEntry) (c n : ℕ) (at : IsAtPlace code_in es c n) → AreEntries es → entry_of es c ≡ Some at.item
found es c n at are = at.found

seen_others : (c : ℕ) (e : TableEntry) → e.code ≢ c → entry_after_data c e ≡ e
seen_others c e other = rw (ne_eqb e.code c other) refl

granted_others : (c : ℕ) (e : TableEntry) → e.code ≢ c → granted_once c e ≡ e
granted_others c e other = rw (ne_eqb e.code c other) refl

missed_others : (c : ℕ) (e : TableEntry) → e.code ≢ c → missed c e ≡ Some e
missed_others c e other = rw (ne_eqb e.code c other) refl

-- a change of the entry alone
changed : (f : ℕ → TableEntry → TableEntry) (es : List TableEntry) (c n : ℕ) (at : IsAtPlace code_in es c n) (x new : TableEntry) (out : List TableEntry)
    → ((e : TableEntry) → e.code ≢ c → f c e ≡ e) → AreEntries es
    → x ≡ get_or es n x → new ≡ f x.code x → out ≡ set es n new → out ≡ map (f c) es
changed f es c n at x new out others are read now is =
    let same = read_is es c n at x read in
    let here : x.code ≡ c = ap (λ (e : TableEntry). e.code) same ∙ at.is in
    let value : new ≡ f c at.item = now ∙ ap (λ (d : ℕ). f d x) here ∙ ap (f c) same in
    is ∙ ap (set es n) value ∙ sym (map_at (f c) c others es n at.item are.ascends at.at at.is)

kept_map : (f : TableEntry → TableEntry) (es out : List TableEntry) → Keeps f → AreEntries es → out ≡ map f es → AreEntries out
kept_map f es out keeps are is =
    let up = ascends_map f es keeps are.ascends in
    let few = length-map es f in
    subst AreEntries (sym is) (record { few = omega (arith, are.few); ascends = up })

pub seen_keeps : (c : ℕ) → Keeps (entry_after_data c)
seen_keeps c = record { code = λ e. refl }

pub grant_keeps : (share : TableEntry → ℕ) → Keeps (grant share)
grant_keeps share = record { code = λ e. refl }

granted_keeps : (c : ℕ) → Keeps (granted_once c)
granted_keeps c = record { code = λ e. refl }

pub heard_is : (es : List TableEntry) (c n : ℕ) (at : IsAtPlace code_in es c n) (x new : TableEntry) (out : List TableEntry) → AreEntries es → x ≡ get_or es n x
    → new ≡ entry_after_data x.code x → out ≡ set es n new → out ≡ map (entry_after_data c) es
heard_is es c n at x new out are read now is = changed entry_after_data es c n at x new out (seen_others c) are read now is

pub heard_kept : (es out : List TableEntry) (c : ℕ) → AreEntries es → out ≡ map (entry_after_data c) es → AreEntries out
heard_kept es out c are is = kept_map (entry_after_data c) es out (seen_keeps c) are is

pub heard_none : (es : List TableEntry) (c n : ℕ) → IsGap code_in es c n → es ≡ map (entry_after_data c) es
heard_none es c n gap = sym (map_none (entry_after_data c) c (seen_others c) es gap.missing)

pub granted_is : (es : List TableEntry) (c n : ℕ) (at : IsAtPlace code_in es c n) (x new : TableEntry) (out : List TableEntry) → AreEntries es
    → x ≡ get_or es n x → new ≡ granted_once x.code x → out ≡ set es n new → out ≡ map (granted_once c) es
granted_is es c n at x new out are read now is = changed granted_once es c n at x new out (granted_others c) are read now is

pub granted_kept : (es out : List TableEntry) (c : ℕ) → AreEntries es → out ≡ map (granted_once c) es → AreEntries out
granted_kept es out c are is = kept_map (granted_once c) es out (granted_keeps c) are is

pub granted_none : (es : List TableEntry) (c n : ℕ) → IsGap code_in es c n → es ≡ map (granted_once c) es
granted_none es c n gap = sym (map_none (granted_once c) c (granted_others c) es gap.missing)

pub granted_less : (es : List TableEntry) (c n : ℕ) (at : IsAtPlace code_in es c n) (x : TableEntry) (m : ℕ) → AreEntries es → x ≡ get_or es n x
    → IfSome (entry_of es c) (λ e. e.granted < m) → x.granted < m
granted_less es c n at x m are read bound =
    let here : at.item.granted < m = subst (λ (o : Option TableEntry). IfSome o (λ e. e.granted < m)) (found es c n at are) bound in
    subst (λ (e : TableEntry). e.granted < m) (sym (read_is es c n at x read)) here

-- a miss
module _ (es : List TableEntry) (c n : ℕ) (at : IsAtPlace code_in es c n) (x : TableEntry) (are : AreEntries es) (read : x ≡ get_or es n x) where
  outcome : missed x.code x ≡ missed c at.item
  outcome =
      let same = read_is es c n at x read in
      let here : x.code ≡ c = ap (λ (e : TableEntry). e.code) same ∙ at.is in
      ap (λ (d : ℕ). missed d x) here ∙ ap (missed c) same

  pub missed_is : (new : TableEntry) (out : List TableEntry) → Some new ≡ missed x.code x → out ≡ set es n new → out ≡ filter_map (missed c) es
  missed_is new out now is = is ∙ sym (sift_set (missed c) c (missed_others c) es n at.item new are.ascends at.at at.is (sym (now ∙ outcome)))

  pub gone_is : (out : List TableEntry) → None ≡ missed x.code x → out ≡ remove es n → out ≡ filter_map (missed c) es
  gone_is out now is = is ∙ sym (sift_remove (missed c) c (missed_others c) es n at.item are.ascends at.at at.is (sym (now ∙ outcome)))

  last : misses_last es c ≡ nat_lt 14 at.item.unheard
  last = ap (λ (o : Option TableEntry). option_map_or (λ (e : TableEntry). nat_lt 14 e.unheard) o false) (found es c n at are)

  pub stays : (new : TableEntry) → Some new ≡ missed x.code x → false ≡ misses_last es c
  stays new now = sym (last ∙ by_test (nat_lt (at.item.unheard + 1) 16) refl)
    where
      opened : Some new ≡ cond (nat_lt (at.item.unheard + 1) 16) (Some (record at.item { unheard = at.item.unheard + 1 })) None
      opened = now ∙ outcome ∙ rw (eq-eqb at.item.code c at.is) refl

      by_test : (b : Bool) → nat_lt (at.item.unheard + 1) 16 ≡ b → nat_lt 14 at.item.unheard ≡ false
      by_test true is = let below = ltb-true (at.item.unheard + 1) 16 is in le-ltb 14 at.item.unheard (omega arith)
      by_test false is = let none : Some new ≡ None = opened ∙ rw is refl in cc

  pub goes_now : None ≡ missed x.code x → true ≡ misses_last es c
  goes_now now = sym (last ∙ by_test (nat_lt (at.item.unheard + 1) 16) refl)
    where
      opened : None ≡ cond (nat_lt (at.item.unheard + 1) 16) (Some (record at.item { unheard = at.item.unheard + 1 })) None
      opened = now ∙ outcome ∙ rw (eq-eqb at.item.code c at.is) refl

      by_test : (b : Bool) → nat_lt (at.item.unheard + 1) 16 ≡ b → nat_lt 14 at.item.unheard ≡ true
      by_test true is = let some : None ≡ Some (record at.item { unheard = at.item.unheard + 1 }) = opened ∙ rw is refl in cc
      by_test false is = let from = ltb-false (at.item.unheard + 1) 16 is in lt-ltb 14 at.item.unheard (omega arith)

missed_cases : (c : ℕ) (e : TableEntry) (same few : Bool)
    → IfSome (cond same (cond few (Some (record e { unheard = e.unheard + 1 })) None) (Some e)) (λ x. x.code ≡ e.code)
missed_cases c e true true = refl
missed_cases c e true false = tt
missed_cases c e false few = refl

pub missed_sifts : (c : ℕ) → Sifts (missed c)
missed_sifts c = record { code = λ e. missed_cases c e (has_code c e) (nat_lt (e.unheard + 1) 16) }

pub missed_kept : (es out : List TableEntry) (c : ℕ) → AreEntries es → out ≡ filter_map (missed c) es → AreEntries out
missed_kept es out c are is = subst AreEntries (sym is) (record {
  few = omega (arith, are.few, length_sifted (missed c) es);
  ascends = ascends_filter_map (missed c) es (missed_sifts c) are.ascends;
})

pub missed_none : (es : List TableEntry) (c n : ℕ) → IsGap code_in es c n → es ≡ filter_map (missed c) es
missed_none es c n gap = sym (sift_none (missed c) c (missed_others c) es gap.missing)

-- a removal
pub removed_is : (es out : List TableEntry) (c n : ℕ) (at : IsAtPlace code_in es c n) → AreEntries es → out ≡ remove es n → out ≡ without c es
removed_is es out c n at are is = is ∙ sym (without_at c es n at.item are.ascends at.at at.is)

pub removed_none : (es : List TableEntry) (c n : ℕ) → IsGap code_in es c n → es ≡ without c es
removed_none es c n gap = sym (without_none c es gap.missing)

pub removed_kept : (es out : List TableEntry) (c : ℕ) → AreEntries es → out ≡ without c es → AreEntries out
removed_kept es out c are is =
    let p : TableEntry → Bool = λ e. not (has_code c e) in
    subst AreEntries (sym is) (record { few = omega (arith, are.few, length_filtered p es); ascends = ascends_filter p es are.ascends })

pub is_there : (es : List TableEntry) (c n : ℕ) → IsAtPlace code_in es c n → AreEntries es → true ≡ is_some (entry_of es c)
is_there es c n at are = sym (ap is_some (found es c n at are))

-- what is read off the entry is what the table has of its owner
pub value_at : (f : TableEntry → ℕ) (es : List TableEntry) (c n : ℕ) (at : IsAtPlace code_in es c n) (x : TableEntry) → AreEntries es → x ≡ get_or es n x
    → f x ≡ option_map_or f (entry_of es c) 0
value_at f es c n at x are read =
    ap f (read_is es c n at x read) ∙ sym (ap (λ (o : Option TableEntry). option_map_or f o 0) (found es c n at are))
