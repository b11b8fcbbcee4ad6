-- Entries of a log that are right, one more at a time.
use Rattle.std.proofs.Common.{◌≡◌, ◌≢◌, ℕ, ◌+◌, ◌<◌, inl, inr, List, [], ◌∷◌, ◌++◌, take, drop, length, get_or, Bool, true, false}
use Rattle.std.proofs.Common.{Option, Some, None, option_to_list, refl, sym, ◌∙◌, ap, subst, arith, Contains, AllPairs, append-nil}
use Rattle.std.proofs.Common.{length-take-le, take-append-drop}
use Rattle.std.proofs.lemmas.List.{drop_more}
use Rattle.std.proofs.lemmas.List.Quantifiers.{all_pairs_push}
use Rattle.std.proofs.lemmas.List.Elements.{Contains-push_cases, Contains-get_or, filter_map-append}
use Rattle.scenario_text.specs.ScenarioParts.{ScenarioParts}
use Rattle.radio_model.specs.OnAir.{Hearing, Sending}
use Rattle.lwb_base.proofs.Elements.{not_in_none}
use Rattle.lwb_base.proofs.Lists.{one_kept}
use Rattle.air_log.specs.declared.entry.Entry.{Entry}
use Rattle.air_log.specs.declared.entry.Entry.TheVariants.{Sent, Heard, Tuned}
use Rattle.air_log.specs.Entries.{hearing_in, hearings_of, heard_entry}
use Rattle.air_check.specs.Flags.{AreFlags, TakesIn, IsRightNext, IsWrong}
use Rattle.air_check.specs.Verdicts.{IsGiven, AreGiven, IsFirstWrong}

pub hearings_more : (above : List Entry) (e : Entry) → hearings_of (above ++ e ∷ []) ≡ hearings_of above ++ option_to_list (hearing_in e)
hearings_more above e = filter_map-append hearing_in above (e ∷ []) ∙ ap (λ (l : List Hearing). hearings_of above ++ l) (one_kept hearing_in e)

pub with_hearing : (above : List Entry) (e : Entry) (h : Hearing) → hearing_in e ≡ Some h → hearings_of (above ++ e ∷ []) ≡ hearings_of above ++ h ∷ []
with_hearing above e h is = hearings_more above e ∙ ap (λ (o : Option Hearing). hearings_of above ++ option_to_list o) is

pub without_hearing : (above : List Entry) (e : Entry) → hearing_in e ≡ None → hearings_of (above ++ e ∷ []) ≡ hearings_of above
without_hearing above e is =
    hearings_more above e ∙ ap (λ (o : Option Hearing). hearings_of above ++ option_to_list o) is ∙ append-nil (hearings_of above)

heard_is : (e : Entry) (h : Hearing) → hearing_in e ≡ Some h → e ≡ heard_entry h.node h.sending
heard_is (Sent x) h is = cc
heard_is (Tuned t) h is = cc
heard_is (Heard x) h is = subst (λ (g : Hearing). Heard x ≡ heard_entry g.node g.sending) (some_is is) refl
  where
    some_is : {X : Type 0} {a b : X} → Some a ≡ Some b → a ≡ b
    some_is same = cc

module _ (s : ScenarioParts) (air : List Entry) where
  pub none_wrong : AreGiven s air []
  none_wrong = record { given = λ v x there. absurd (not_in_none (record { node = v; sending = x }) there); once = λ i j d less below. absurd (omega arith) }

  same_given : (a b : List Entry) → hearings_of b ≡ hearings_of a → AreGiven s air a → AreGiven s air b
  same_given a b same given = record {
    given = λ v x there. given.given v x (subst (λ (hs : List Hearing). Contains hs (record { node = v; sending = x })) same there);
    once = subst (λ (hs : List Hearing). AllPairs (λ g h. g ≢ h) hs) (sym same) given.once;
  }

  one_right : (above : List Entry) (e : Entry) (h : Hearing) → hearing_in e ≡ Some h → IsGiven s air h.node h.sending → (Contains (hearings_of above) h → ⊥)
      → AreGiven s air above → AreGiven s air (above ++ e ∷ [])
  one_right above e h is right new given =
      let more = with_hearing above e h is in
      record {
        given = λ v x there. elim (Contains-push_cases (hearings_of above) h (record { node = v; sending = x })
            (subst (λ (hs : List Hearing). Contains hs (record { node = v; sending = x })) more there)) [
              | inl before ↦ given.given v x before
              | inr same ↦ subst (λ (g : Hearing). IsGiven s air g.node g.sending) same right
            ];
        once = subst (λ (hs : List Hearing). AllPairs (λ g k. g ≢ k) hs) (sym more)
            (all_pairs_push (λ (g k : Hearing). g ≢ k) (hearings_of above) h given.once
            (λ k d below same. new (subst (λ (g : Hearing). Contains (hearings_of above) g) same (Contains-get_or (hearings_of above) k d below))));
      }

  pub takes : (sent : List Sending) (above : List Entry) (e : Entry) (h : Hearing) (flags : List Bool) (result : Bool) → hearing_in e ≡ Some h
      → TakesIn s air sent (hearings_of above) h flags result → IsRightNext s air sent above e flags result
  takes sent above e h flags true is (are, right, new) =
      (subst (λ (hs : List Hearing). AreFlags sent hs flags) (sym (with_hearing above e h is)) are, one_right above e h is right new)
  takes sent above e h flags false is wrong = record { hearing = h; entry = heard_is e h is; wrong = wrong }

  pub passes_by : (sent : List Sending) (above : List Entry) (e : Entry) (flags : List Bool) → hearing_in e ≡ None → AreFlags sent (hearings_of above) flags
      → IsRightNext s air sent above e flags true
  passes_by sent above e flags is are =
      let same = without_hearing above e is in
      (subst (λ (hs : List Hearing). AreFlags sent hs flags) (sym same) are, same_given above (above ++ e ∷ []) same)

  pub wrong_at : (i : ℕ) (e : Entry) → i < length air → e ≡ get_or air i e → AreGiven s air (take i air) → IsWrong s air (take i air) e
      → IsFirstWrong s air (i + 1)
  wrong_at i e below at right wrong = record {
    above = take i air;
    hearing = wrong.hearing;
    below = drop (i + 1) air;
    splits = sym (take-append-drop i air) ∙ ap (λ (l : List Entry). take i air ++ l)
        (drop_more air i e below ∙ ap (λ (x : Entry). x ∷ drop (i + 1) air) (sym at ∙ wrong.entry));
    place = ap (λ (n : ℕ). n + 1) (sym (length-take-le i air (omega arith)));
    right = right;
    wrong = wrong.wrong;
  }
