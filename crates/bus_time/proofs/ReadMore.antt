-- One more entry is read.
use Rattle.std.proofs.Common.{◌≡◌, ℕ, [], List, ◌∷◌, ◌++◌, ◌==◌, filter_map, Some, None, Option, refl, sym, ◌∙◌, ap, subst, eq-eqb}
use Rattle.std.proofs.lemmas.Bool.{cond-true, cond-false, ne_eqb}
use Rattle.std.proofs.lemmas.List.{append-nil}
use Rattle.std.proofs.lemmas.List.Elements.{filter_map-append}
use Rattle.lwb_base.specs.Profile.{Numbers}
use Rattle.lwb_base.specs.Messages.{Schedule}
use Rattle.radio_model.specs.OnAir.{Hearing}
use Rattle.air_log.specs.declared.entry.Entry.{Entry}
use Rattle.bus_time.specs.Reading.{IsRead, now_in, ahead_in, beginning_in, note_ahead, note_of}
use Rattle.bus_time.specs.Words.{Note, AreFirsts}
use Rattle.bus_time.specs.declared.words.Round.{Round}
use Rattle.bus_time.specs.declared.words.Word.{Word}
use Rattle.bus_time.specs.declared.words.Words.{Words}
use Rattle.bus_time.specs.declared.beginning.Beginning.{Beginning}

module _ {Y : Type 0} (g : Entry → Option Y) (air : List Entry) (e : Entry) where
  same : g e ≡ None → filter_map g (air ++ e ∷ []) ≡ filter_map g air
  same none = filter_map-append g air (e ∷ []) ∙ ap (λ (l : List Y). filter_map g air ++ l) nothing ∙ append-nil (filter_map g air)
    where
      nothing : filter_map g (e ∷ []) ≡ []
      nothing = rw (none) refl

  one_more : (y : Y) → g e ≡ Some y → filter_map g (air ++ e ∷ []) ≡ filter_map g air ++ y ∷ []
  one_more y some = filter_map-append g air (e ∷ []) ∙ ap (λ (l : List Y). filter_map g air ++ l) it
    where
      it : filter_map g (e ∷ []) ≡ y ∷ []
      it = rw (some) refl

module _ (p : Numbers) (air : List Entry) (e : Entry) (now ahead : Words) (bs : List Beginning) (is : IsRead p air now ahead bs) where
  module _ (no_now : now_in p e ≡ None) (no_ahead : ahead_in p e ≡ None) where
    pub none_read : beginning_in p e ≡ None → IsRead p (air ++ e ∷ []) now ahead bs
    none_read none = record {
      now_is = subst (λ (l : List Note). AreFirsts l now) (sym (same (now_in p) air e no_now)) is.now_is;
      ahead_is = subst (λ (l : List Note). AreFirsts l ahead) (sym (same (ahead_in p) air e no_ahead)) is.ahead_is;
      beginnings_are = is.beginnings_are ∙ sym (same (beginning_in p) air e none);
    }

    pub beginning_read : (b : Beginning) → beginning_in p e ≡ Some b → (all : List Beginning) → all ≡ bs ++ b ∷ [] → IsRead p (air ++ e ∷ []) now ahead all
    beginning_read b some all added = record {
      now_is = subst (λ (l : List Note). AreFirsts l now) (sym (same (now_in p) air e no_now)) is.now_is;
      ahead_is = subst (λ (l : List Note). AreFirsts l ahead) (sym (same (ahead_in p) air e no_ahead)) is.ahead_is;
      beginnings_are = added ∙ ap (λ (l : List Beginning). l ++ b ∷ []) is.beginnings_are ∙ sym (one_more (beginning_in p) air e b some);
    }

  module _ (n : Note) (some_now : now_in p e ≡ Some n) (none : beginning_in p e ≡ None) (new : Words)
      (noted : (notes : List Note) → AreFirsts notes now → AreFirsts (notes ++ n ∷ []) new) where
    pub now_read : ahead_in p e ≡ None → IsRead p (air ++ e ∷ []) new ahead bs
    now_read no_ahead = record {
      now_is = subst (λ (l : List Note). AreFirsts l new) (sym (one_more (now_in p) air e n some_now)) (noted (filter_map (now_in p) air) is.now_is);
      ahead_is = subst (λ (l : List Note). AreFirsts l ahead) (sym (same (ahead_in p) air e no_ahead)) is.ahead_is;
      beginnings_are = is.beginnings_are ∙ sym (same (beginning_in p) air e none);
    }

    pub both_read : (m : Note) → ahead_in p e ≡ Some m → (later : Words)
        → ((notes : List Note) → AreFirsts notes ahead → AreFirsts (notes ++ m ∷ []) later) → IsRead p (air ++ e ∷ []) new later bs
    both_read m some_ahead later also = record {
      now_is = subst (λ (l : List Note). AreFirsts l new) (sym (one_more (now_in p) air e n some_now)) (noted (filter_map (now_in p) air) is.now_is);
      ahead_is = subst (λ (l : List Note). AreFirsts l later) (sym (one_more (ahead_in p) air e m some_ahead))
          (also (filter_map (ahead_in p) air) is.ahead_is);
      beginnings_are = is.beginnings_are ∙ sym (same (beginning_in p) air e none);
    }

-- what a schedule notes
module _ (p : Numbers) (g : Hearing) (y : Schedule) where
  pub no_gap : ◌≡◌ {A = ℕ} y.gap 0 → note_ahead p g (Some y) ≡ None
  no_gap none = cond-true {A = Option Note} (y.gap == 0) None (Some (note_of p y.gap g)) (eq-eqb y.gap 0 none)

  pub some_gap : (◌≡◌ {A = ℕ} y.gap 0 → ⊥) → note_ahead p g (Some y) ≡ Some (note_of p y.gap g)
  some_gap some = cond-false {A = Option Note} (y.gap == 0) None (Some (note_of p y.gap g)) (ne_eqb y.gap 0 some)

-- the same note
pub noted : (old new : Words) (round r : Round) (word w : Word) → round ≡ r → word ≡ w
    → ((notes : List Note) → AreFirsts notes old → AreFirsts (notes ++ (round, word) ∷ []) new)
    → (notes : List Note) → AreFirsts notes old → AreFirsts (notes ++ (r, w) ∷ []) new
noted old new round r word w same_round same_word is notes are =
    subst (λ (k : Round). AreFirsts (notes ++ (k, w) ∷ []) new) same_round
    (subst (λ (u : Word). AreFirsts (notes ++ (round, u) ∷ []) new) same_word (is notes are))
