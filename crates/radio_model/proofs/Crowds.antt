-- What rivals bring to the nodes of a set by masks: of none, of one, and of two lists of them.
use Rattle.std.proofs.Common.{arith, ◌≡◌, ◌≢◌, ℕ, List, [], ◌∷◌, ◌++◌, get_or, Bool, true, false, not, ◌&&◌, ◌||◌, ◌==◌, if◌then◌else◌, Option}
use Rattle.std.proofs.Common.{Some, None, option_to_list, filter_map, bit_or, eq-eqb, refl, sym, ◌∙◌, ap, subst}
use Rattle.std.proofs.lemmas.Bool.Decides.{nat_tests}
use Rattle.std.proofs.lemmas.Bool.{and_parts, eqb-true, false_from_ne_true}
use Rattle.std.proofs.lemmas.List.Folds.{list_any-append}
use Rattle.std.specs.List.{list_any, cons_option}
use Rattle.lwb_base.specs.Profile.{Numbers}
use Rattle.link_trace.specs.Masks.{IsMaskAmong}
use Rattle.link_trace.specs.Passes.{Lines}
use Rattle.link_trace.proofs.MaskBits.{none_among, joined_among, same_among}
use Rattle.radio_model.specs.Stations.{on_air, overlaps}
use Rattle.radio_model.specs.Meetings.{rival_to, rivals_in, passes_at, reaches, comes_from, spoils, differs, repeats, IsPlaceOf}
use Rattle.radio_model.specs.Meetings.{IsBrought, nothing_brought, both_brought, brought_by, IsCrowd, no_crowd}
use Rattle.radio_model.specs.declared.sending.Sending.{Sending}
use Rattle.radio_model.specs.declared.station.Station.{Station}
use Rattle.radio_model.specs.declared.brought.Brought.{Brought}
use Rattle.radio_model.specs.declared.rivals.Rival.{Rival}
use Rattle.lwb_base.proofs.Elements.{some_of, filter_from}

alone : (a : Bool) → a ≡ (a || false)
alone true = refl
alone false = refl

with_true : (a : Bool) → a ≡ ((a && true) || false)
with_true true = refl
with_true false = refl

with_false : (a : Bool) → false ≡ ((a && false) || false)
with_false true = refl
with_false false = refl

three : (a b c : Bool) → ((a && (b && c)) || false) ≡ (((a && b) && c) || false)
three a b c = grind (arith, nat_tests)

of_sender : (b : Bool) (s r : Rival) → (if b then Some s else None) ≡ Some r → r.node ≡ s.node
of_sender true s r is = let same : s ≡ r = cc in ap (λ (w : Rival). w.node) (sym same)
of_sender false s r is = cc

module _ (lines : Lines) (nodes : List ℕ) (among : ℕ) where
  pub nothing_comes : IsBrought lines nodes among [] nothing_brought
  nothing_comes = record { mixed = none_among nodes among; spoiled = none_among nodes among; same = none_among nodes among }

  pub nobody_comes : IsCrowd lines nodes among [] no_crowd
  nobody_comes = record { mixed = none_among nodes among; spoiled = none_among nodes among }

  -- rivals of which none has another packet or comes out of time
  pub harmless_come : (rs : List Rival) → ((v : ℕ) → list_any (differs lines v) rs ≡ false) → ((v : ℕ) → list_any (spoils lines v) rs ≡ false)
      → IsCrowd lines nodes among rs no_crowd
  harmless_come rs same in_time = record {
    mixed = same_among nodes (λ v. false) (λ v. list_any (differs lines v) rs) among 0 (λ v. sym (same v)) (none_among nodes among);
    spoiled = same_among nodes (λ v. false) (λ v. list_any (spoils lines v) rs) among 0 (λ v. sym (in_time v)) (none_among nodes among);
  }

  either_list : (test : ℕ → Rival → Bool) (rs ss : List Rival) (a b : ℕ) → IsMaskAmong (λ v. list_any (test v) rs) nodes among a
      → IsMaskAmong (λ v. list_any (test v) ss) nodes among b
      → IsMaskAmong (λ v. list_any (test v) (rs ++ ss)) nodes among (bit_or a b)
  either_list test rs ss a b a_is b_is =
      same_among nodes (λ v. list_any (test v) rs || list_any (test v) ss) (λ v. list_any (test v) (rs ++ ss)) among (bit_or a b)
      (λ v. sym (list_any-append (test v) rs ss)) (joined_among nodes (λ v. list_any (test v) rs) (λ v. list_any (test v) ss) among a b a_is b_is)

  pub both_come : (rs ss : List Rival) (a b : Brought) → IsBrought lines nodes among rs a → IsBrought lines nodes among ss b
      → IsBrought lines nodes among (rs ++ ss) (both_brought a b)
  both_come rs ss a b a_is b_is = record {
    mixed = either_list (differs lines) rs ss a.mixed b.mixed a_is.mixed b_is.mixed;
    spoiled = either_list (spoils lines) rs ss a.spoiled b.spoiled a_is.spoiled b_is.spoiled;
    same = either_list (repeats lines) rs ss a.same b.same a_is.same b_is.same;
  }

  where_so : (test : ℕ → Bool) (b : Bool) (reach : ℕ) → IsMaskAmong test nodes among reach
      → IsMaskAmong (λ v. (test v && b) || false) nodes among (if b then reach else 0)
  where_so test true reach is = same_among nodes test (λ v. (test v && true) || false) among reach (λ v. with_true (test v)) is
  where_so test false reach is = same_among nodes (λ v. false) (λ v. (test v && false) || false) among 0 (λ v. with_false (test v)) (none_among nodes among)

  pub one_comes : (r : Rival) (reach : ℕ) → IsMaskAmong (λ v. reaches lines v r) nodes among reach → IsBrought lines nodes among (r ∷ []) (brought_by r reach)
  one_comes r reach is = record {
    mixed = where_so (λ v. reaches lines v r) (not r.same) reach is;
    spoiled = same_among nodes (λ v. (reaches lines v r && (r.same && not r.in_time)) || false) (λ v. ((reaches lines v r && r.same) && not r.in_time) || false)
        among (if r.same && not r.in_time then reach else 0)
        (λ v. three (reaches lines v r) r.same (not r.in_time)) (where_so (λ v. reaches lines v r) (r.same && not r.in_time) reach is);
    same = where_so (λ v. reaches lines v r) r.same reach is;
  }

  -- a rival of this station, by the reach of its node
  pub rival_comes : (p : Numbers) (x y : Sending) (st : Station) (r : Rival) (reach : ℕ) → IsPlaceOf nodes st.place st.node → Some r ≡ rival_to p x st y
      → IsMaskAmong (λ v. passes_at lines r.key (get_or nodes st.place 0) v) nodes among reach
      → IsBrought lines nodes among (option_to_list (rival_to p x st y)) (brought_by r reach)
  rival_comes p x y st r reach placed is reach_is =
      let node : r.node ≡ st.node = of_sender ((y.rank == x.rank) && overlaps x y) _ r (sym is) in
      subst (λ (o : Option Rival). IsBrought lines nodes among (option_to_list o) (brought_by r reach)) is
      (one_comes r reach (subst (λ (n : ℕ). IsMaskAmong (λ v. passes_at lines r.key n v) nodes among reach) (placed.there ∙ sym node) reach_is))

same_any : {X Y : Type 0} (f : X → Option Y) (t u : Y → Bool) (xs : List X) → ((x : X) (y : Y) → f x ≡ Some y → t y ≡ u y)
    → list_any t (filter_map f xs) ≡ list_any u (filter_map f xs)
same_any f t u [] same = refl
same_any {X} {Y} f t u (x ∷ xs) same = step (f x) refl (same_any f t u xs same)
  where
    step : (o : Option Y) → f x ≡ o → list_any t (filter_map f xs) ≡ list_any u (filter_map f xs)
        → list_any t (cons_option o (filter_map f xs)) ≡ list_any u (cons_option o (filter_map f xs))
    step None is rest = rest
    step (Some y) is rest = ap (λ (b : Bool). b || list_any t (filter_map f xs)) (same x y is) ∙ ap (λ (b : Bool). u y || b) rest

with_so : (a b : Bool) → b ≡ true → a ≡ (a && b)
with_so a b is = grind (arith, nat_tests)

-- what comes from a node comes of the transmissions of its station
module _ (lines : Lines) (p : Numbers) (x : Sending) (st : Station) (v named : ℕ) where
  pub named_sends : st.node ≡ named → list_any (repeats lines v) (rivals_in p x st) ≡ list_any (comes_from lines v named) (rivals_in p x st)
  named_sends is =
      same_any (rival_to p x st) (repeats lines v) (comes_from lines v named) (on_air st) (λ y r so.
      with_so (repeats lines v r) (r.node == named) (eq-eqb r.node named (of_sender ((y.rank == x.rank) && overlaps x y) _ r so ∙ is)))

  pub other_sends : st.node ≢ named → list_any (comes_from lines v named) (rivals_in p x st) ≡ false
  other_sends other =
      false_from_ne_true (list_any (comes_from lines v named) (rivals_in p x st)) (λ some.
      let r = some_of (comes_from lines v named) (rivals_in p x st) some in
      let y = filter_from (rival_to p x st) (on_air st) r.0 r.1 in
      let parts = and_parts (repeats lines v r.0) (r.0.node == named) r.2 in
      other (sym (of_sender ((y.0.rank == x.rank) && overlaps x y.0) _ r.0 y.2) ∙ eqb-true r.0.node named parts.1))
