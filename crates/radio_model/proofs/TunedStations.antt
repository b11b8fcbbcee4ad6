-- What a call that tunes leaves of one station, and since when a station is tuned.
use Rattle.std.proofs.Common.{◌≡◌, ℕ, ◌≤◌, Option, Some, None, IfSome, refl, sym, ◌∙◌, ap, arith, eq-eqb}
use Rattle.std.proofs.lemmas.Bool.{cond_both, false≢true}
use Rattle.radio_model.specs.Holding.{IsOrder}
use Rattle.radio_model.specs.Stations.{station_after_tuning, tuning_in, tuning_out, is_tuned_to, last_at, since_with}
use Rattle.radio_model.specs.declared.tuning.Past.{Past}
use Rattle.radio_model.specs.declared.station.Station.{Station}
use Rattle.radio_model.specs.declared.tuning.RadioTuning.{RadioTuning}
use Rattle.radio_model.specs.declared.tuning.Tuned.{Tuned}

-- it sends what it sent
pub sends_still : (rank : Option ℕ) (t : ℕ) (st : Station) → (station_after_tuning rank t st).sending ≡ st.sending
sends_still None t st = refl
sends_still (Some r) t st =
    cond_both (is_tuned_to st.tuning.now r) st.tuning (tuning_in r t (tuning_out t st.tuning))
    (λ (x : RadioTuning). (record st { tuning = x }).sending ≡ st.sending) (λ _. refl) (λ _. refl)

abbrev since_then : ℕ → ℕ → Option Past → Option Tuned
since_then rank t last = Some (record { rank = rank; since = since_with last rank t })

-- one that was never tuned is tuned from then on
pub tuned_anew : (rank t : ℕ) (st : Station) → st.tuning.now ≡ None → st.tuning.last ≡ None
    → (station_after_tuning (Some rank) t st).tuning.now ≡ Some (record { rank = rank; since = t })
tuned_anew rank t st untuned never =
    cond_both (is_tuned_to st.tuning.now rank) st.tuning (tuning_in rank t (tuning_out t st.tuning))
    (λ (x : RadioTuning). x.now ≡ Some (record { rank = rank; since = t }))
    (λ is. absurd (false≢true (sym (ap (λ (o : Option Tuned). is_tuned_to o rank) untuned) ∙ is)))
    (λ _. ap (λ (o : Option Tuned). since_then rank t (last_at o st.tuning.last t)) untuned ∙ ap (since_then rank t) never)

-- one that is tuned to the channel already stays so
pub tuned_still : (rank since t : ℕ) (st : Station) → st.tuning.now ≡ Some (record { rank = rank; since = since })
    → (station_after_tuning (Some rank) t st).tuning.now ≡ st.tuning.now
tuned_still rank since t st is =
    cond_both (is_tuned_to st.tuning.now rank) st.tuning (tuning_in rank t (tuning_out t st.tuning)) (λ (x : RadioTuning). x.now ≡ st.tuning.now) (λ _. refl)
    (λ other. absurd (false≢true (sym other ∙ ap (λ (o : Option Tuned). is_tuned_to o rank) is ∙ eq-eqb rank rank refl)))

-- no tuning begins after now
pub since_by : (now k : ℕ) (tuned : Option Tuned) (last : Option Past) → now ≤ k → IsOrder now tuned last → IfSome tuned (λ o. o.since ≤ k)
since_by now k None last order is = tt
since_by now k (Some o) None order is = omega (arith, is)
since_by now k (Some o) (Some q) order is = omega (arith, is.0)
