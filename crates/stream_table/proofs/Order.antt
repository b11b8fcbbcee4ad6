-- Entries whose codes ascend.
use Rattle.std.proofs.Common.{◌≡◌, ◌≢◌, ℕ, zero, suc, ◌<◌, List, [], ◌∷◌, Bool, true, false, ◌==◌, cond, map}
use Rattle.std.proofs.Common.{filter, filter_map, Option, Some, None, refl, sym, subst, arith}
use Rattle.std.specs.List.{slice_get, cons_option}
use Rattle.std.specs.Option.{IfSome}
use Rattle.std.proofs.lemmas.Bool.{ne_eqb, eqb-false}
use Rattle.stream_table.specs.CodeOrder.{placed}
use Rattle.stream_table.proofs.CodeOrder.{item_at, ascends_placed}
use Rattle.bus_rules.specs.Tables.{TableEntry, EntriesAreAbove, EntriesAscend, code_in, entry_of, with_entry}
use Rattle.stream_table.proofs.InOrder.{in_order, out_order, placed_is}

-- an entry in a list above c
pub above_get : (c : ℕ) (es : List TableEntry) (n : ℕ) (x : TableEntry) → EntriesAreAbove c es → slice_get es n ≡ Some x → c < x.code
above_get c [] n x above at = cc
above_get c (e ∷ es) zero x above at = let same : e ≡ x = cc in subst (λ (y : TableEntry). c < y.code) same above.0
above_get c (e ∷ es) (suc n) x above at = above_get c es n x above.1 at

-- nothing above c has the code c
pub none_above : (c : ℕ) (es : List TableEntry) → EntriesAreAbove c es → entry_of es c ≡ None
none_above c [] above = refl
none_above c (e ∷ es) above = let other : e.code ≢ c = omega (arith, above.0) in rw (ne_eqb e.code c other) (none_above c es above.1)

-- where an entry of this code is
pub entry_at : (c : ℕ) (es : List TableEntry) (n : ℕ) (x : TableEntry) → EntriesAscend es → slice_get es n ≡ Some x → x.code ≡ c → entry_of es c ≡ Some x
entry_at c es n x up at is = item_at code_in c es n x (in_order es up) at is

-- an entry that is there
pub apart_from : (c : ℕ) (e : TableEntry) (es : List TableEntry) → entry_of (e ∷ es) c ≡ None → (e.code ≢ c) × (entry_of es c ≡ None)
apart_from c e es none = by_test (e.code == c) refl none
  where
    by_test : (b : Bool) → (e.code == c) ≡ b → cond b (Some e) (entry_of es c) ≡ None → (e.code ≢ c) × (entry_of es c ≡ None)
    by_test true is none = cc
    by_test false is none = (eqb-false e.code c is, none)

-- codes that stay
pub record Keeps (f : TableEntry → TableEntry) : Type 0 where
  pub code : (e : TableEntry) → (f e).code ≡ e.code

pub above_map : (f : TableEntry → TableEntry) (c : ℕ) (es : List TableEntry) → Keeps f → EntriesAreAbove c es → EntriesAreAbove c (map f es)
above_map f c [] keeps above = tt
above_map f c (e ∷ es) keeps above = (omega (arith, keeps.code e, above.0), above_map f c es keeps above.1)

pub ascends_map : (f : TableEntry → TableEntry) (es : List TableEntry) → Keeps f → EntriesAscend es → EntriesAscend (map f es)
ascends_map f [] keeps up = tt
ascends_map f (e ∷ es) keeps up =
    (above_map f (f e).code es keeps (subst (λ (c : ℕ). EntriesAreAbove c es) (sym (keeps.code e)) up.0), ascends_map f es keeps up.1)

-- a filter that may change an entry, and keeps its code
pub record Sifts (g : TableEntry → Option TableEntry) : Type 0 where
  pub code : (e : TableEntry) → IfSome (g e) (λ x. x.code ≡ e.code)

above_option : (c : ℕ) (e : TableEntry) (o : Option TableEntry) (es : List TableEntry) → IfSome o (λ x. x.code ≡ e.code) → c < e.code → EntriesAreAbove c es
    → EntriesAreAbove c (cons_option o es)
above_option c e None es is less rest = rest
above_option c e (Some x) es is less rest = (omega (arith, is), rest)

pub above_filter_map : (g : TableEntry → Option TableEntry) (c : ℕ) (es : List TableEntry) → Sifts g → EntriesAreAbove c es
    → EntriesAreAbove c (filter_map g es)
above_filter_map g c [] sifts above = tt
above_filter_map g c (e ∷ es) sifts above = above_option c e (g e) (filter_map g es) (sifts.code e) above.0 (above_filter_map g c es sifts above.1)

ascends_option : (e : TableEntry) (o : Option TableEntry) (es : List TableEntry) → IfSome o (λ x. x.code ≡ e.code) → EntriesAreAbove e.code es
    → EntriesAscend es
    → EntriesAscend (cons_option o es)
ascends_option e None es is above up = up
ascends_option e (Some x) es is above up = (subst (λ (c : ℕ). EntriesAreAbove c es) (sym is) above, up)

pub ascends_filter_map : (g : TableEntry → Option TableEntry) (es : List TableEntry) → Sifts g → EntriesAscend es → EntriesAscend (filter_map g es)
ascends_filter_map g [] sifts up = tt
ascends_filter_map g (e ∷ es) sifts up = ascends_option e (g e) (filter_map g es) (sifts.code e) (above_filter_map g e.code es sifts up.0)
    (ascends_filter_map g es sifts up.1)

above_cond : (c : ℕ) (e : TableEntry) (b : Bool) (es : List TableEntry) → c < e.code → EntriesAreAbove c es → EntriesAreAbove c (cond b (e ∷ es) es)
above_cond c e true es less rest = (less, rest)
above_cond c e false es less rest = rest

pub above_filter : (p : TableEntry → Bool) (c : ℕ) (es : List TableEntry) → EntriesAreAbove c es → EntriesAreAbove c (filter p es)
above_filter p c [] above = tt
above_filter p c (e ∷ es) above = above_cond c e (p e) (filter p es) above.0 (above_filter p c es above.1)

ascends_cond : (e : TableEntry) (b : Bool) (es : List TableEntry) → EntriesAreAbove e.code es → EntriesAscend es → EntriesAscend (cond b (e ∷ es) es)
ascends_cond e true es above up = (above, up)
ascends_cond e false es above up = up

pub ascends_filter : (p : TableEntry → Bool) (es : List TableEntry) → EntriesAscend es → EntriesAscend (filter p es)
ascends_filter p [] up = tt
ascends_filter p (e ∷ es) up = ascends_cond e (p e) (filter p es) (above_filter p e.code es up.0) (ascends_filter p es up.1)

-- an entry in its place
pub ascends_with : (e : TableEntry) (es : List TableEntry) → EntriesAscend es → EntriesAscend (with_entry e es)
ascends_with e es up = subst EntriesAscend (placed_is e es) (out_order (placed code_in e es) (ascends_placed code_in e es (in_order es up)))
