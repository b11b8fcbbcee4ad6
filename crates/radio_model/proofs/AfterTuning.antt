-- What the medium holds after a node is tuned.
use Rattle.std.proofs.Common.{◌≡◌, ◌≢◌, ℕ, ◌≤◌, inl, inr, List, Option, Some, None, option_to_list, refl, sym, ◌∙◌, ap, subst, arith, Contains}
use Rattle.std.proofs.lemmas.Bool.{cond_both}
use Rattle.std.proofs.lemmas.List.Elements.{Contains-append_cases}
use Rattle.lwb_base.specs.Profile.{Numbers}
use Rattle.radio_model.specs.OnAir.{Sending, Tuning}
use Rattle.radio_model.specs.Hearing.{Scene}
use Rattle.radio_model.specs.Stations.{MediumState, IsMedium, station_of, on_air, is_tuned_to, station_after_tuning, tuning_in, tuning_out, medium_after_change}
use Rattle.radio_model.specs.Holding.{Holds, IsOrderly, IsOrder, InTurn, ended_tuning, tuned_of, after_tuning}
use Rattle.radio_model.specs.declared.station.Station.{Station}
use Rattle.radio_model.specs.declared.tuning.RadioTuning.{RadioTuning}
use Rattle.lwb_base.proofs.Elements.{in_option}
use Rattle.radio_model.proofs.Changes.{retuned_keeps}
use Rattle.radio_model.proofs.Tunings.{Tells, tells_later}
use Rattle.radio_model.proofs.Scenes.{Lit, with_tuning, lit_other, closed_is}
use Rattle.radio_model.proofs.Retuned.{told_after, order_later, tells_same}
use Rattle.radio_model.proofs.OneCall.{found_member, tells_by, right_by, past_lit, each_after, ascend_after, kept_on, kept_back}
use Rattle.radio_model.proofs.Marked.{retuned_on_air}

same_ended : (rank : Option ℕ) (t : ℕ) (st : Station) → (station_after_tuning rank t st).ended.items ≡ st.ended.items
same_ended None t st = refl
same_ended (Some r) t st =
    cond_both (is_tuned_to st.tuning.now r) st.tuning (tuning_in r t (tuning_out t st.tuning))
    (λ (x : RadioTuning). (record st { tuning = x }).ended.items ≡ st.ended.items) (λ _. refl) (λ _. refl)

-- the same transmissions at a later tick
pub orderly_later : (p : Numbers) (now t : ℕ) (s st : Station) → now ≤ t → IsOrderly p now s → st.node ≡ s.node → on_air st ≡ on_air s
    → st.ended.items ≡ s.ended.items → IsOrder t st.tuning.now st.tuning.last → IsOrderly p t st
orderly_later p now t s st later is node air ended order = record {
  own = λ y there. let o = is.own y (subst (λ (l : List Sending). Contains l y) air there) in
      record { node = o.node ∙ sym node; lasts = o.lasts; short = o.short; long = o.long };
  in_turn = subst (InTurn 0) (sym air) is.in_turn;
  over = λ y there. let by = is.over y (subst (λ (l : List Sending). Contains l y) ended there) in omega arith;
  tunings = order;
}

module _ (m : MediumState) (is : IsMedium m) (a : Scene) (h : Holds m a) (v : ℕ) (rank : Option ℕ) (t : ℕ) (later : m.now ≤ t) where
  abbrev change : Station → Station
  change = station_after_tuning rank t

  abbrev ending : Option Tuning
  ending = ended_tuning v rank t (tuned_of (station_of m v))

  abbrev now_told : Station → Type 0
  now_told s = Tells (Lit (with_tuning a ending) s.node) s.tuning.now s.tuning.last t × IsOrder t s.tuning.now s.tuning.last

  here : (st : Station) → Contains m.stations st → st.node ≡ v → now_told (change st)
  here st there node =
      let at : ending ≡ ended_tuning v rank t st.tuning.now =
      ap (λ (o : Option Station). ended_tuning v rank t (tuned_of o)) (ap (station_of m) (sym node) ∙ found_member m.stations st is.nodes.ascending there) in
      let old : Tells (Lit a v) st.tuning.now st.tuning.last m.now =
      subst (λ (n : ℕ). Tells (Lit a n) st.tuning.now st.tuning.last m.now) node (tells_by m a is.nodes.ascending st there m.now (h.tuned st there)) in
      let told = told_after a v m.now t later (λ c k. past_lit m a h v c k) rank st (h.orderly st there).tunings old in
      let kept : (change st).node ≡ v = (retuned_keeps rank t).node st ∙ node in (
        subst (λ (n : ℕ). Tells (Lit (with_tuning a ending) n) (change st).tuning.now (change st).tuning.last t) (sym kept)
            (subst (λ (e : Option Tuning). Tells (Lit (with_tuning a e) v) (change st).tuning.now (change st).tuning.last t) (sym at) told.tells),
        told.order,
      )

  elsewhere : (st : Station) → Contains m.stations st → st.node ≢ v → now_told st
  elsewhere st there other = (
    tells_same (Lit a st.node) (Lit (with_tuning a ending) st.node) st.tuning.now st.tuning.last t
        (λ c k. lit_other a ending v st.node c k (λ y same. (closed_is v rank t (tuned_of (station_of m v)) y same).node) other)
        (tells_later (Lit a st.node) st.tuning.now st.tuning.last m.now t later (tells_by m a is.nodes.ascending st there m.now (h.tuned st there))),
    order_later m.now t st.tuning.now st.tuning.last later (h.orderly st there).tunings,
  )

  told_each : (st : Station) → Contains (medium_after_change t v change m).stations st → now_told st
  told_each = each_after m is change (retuned_keeps rank t) v t now_told here elsewhere

  pub holds_after_tuning : Holds (medium_after_change t v change m) (after_tuning m v rank t a)
  holds_after_tuning = record {
    numbers = h.numbers;
    orderly = each_after m is change (retuned_keeps rank t) v t (IsOrderly m.numbers t)
        (λ st there node. orderly_later m.numbers m.now t st (change st) later (h.orderly st there) ((retuned_keeps rank t).node st) (retuned_on_air rank t st)
        (same_ended rank t st) (here st there node).1)
        (λ st there other. orderly_later m.numbers m.now t st st later (h.orderly st there) refl refl refl (elsewhere st there other).1);
    known =
        λ y there. elim (h.known y there) [
          | inl kept ↦ inl (kept_on m is change (retuned_keeps rank t) v t (retuned_on_air rank t) y kept)
          | inr old ↦ inr (omega arith)
        ];
    sent = λ y kept. h.sent y (kept_back m is change (retuned_keeps rank t) v t (retuned_on_air rank t) y kept);
    past = λ k there. elim (Contains-append_cases a.tunings (option_to_list ending) k there) [
      | inl ended ↦ let by = h.past k ended in omega arith
      | inr new ↦ omega (arith, (closed_is v rank t (tuned_of (station_of m v)) k (in_option ending k new)).end)
    ];
    tuned =
        λ st there. right_by (medium_after_change t v change m) (with_tuning a ending) (ascend_after m is change (retuned_keeps rank t) v t) st there t
        (told_each st there).0;
  }
