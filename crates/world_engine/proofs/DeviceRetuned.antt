-- The medium after one device is tuned to a channel, or to nothing.
use Rattle.std.proofs.Common.{◌≡◌, ◌≢◌, ℕ, [], true, Option, Some, None, option_map, ◌==◌, refl, sym, ◌∙◌, ap, subst, arith, eq-eqb}
use Rattle.std.proofs.lemmas.Bool.{cond_both, cond-true}
use Rattle.std.proofs.lemmas.List.{append-nil}
use Rattle.std.proofs.lemmas.Option.{same_Some}
use Rattle.link_trace.specs.Masks.{AreNodes}
use Rattle.radio_model.specs.Hearing.{Scene}
use Rattle.radio_model.specs.Holding.{Agree, Holds, as_it_stands, after_tuning}
use Rattle.radio_model.specs.declared.station.Station.{Station}
use Rattle.radio_model.specs.declared.tuning.Tuned.{Tuned}
use Rattle.radio_model.specs.declared.tuning.Past.{Past}
use Rattle.radio_model.specs.declared.tuning.RadioTuning.{RadioTuning}
use Rattle.radio_model.specs.Stations.{MediumState, IsMedium, IsTime, station_of, nodes_of, station_changed_at, medium_after_change, station_after_tuning}
use Rattle.radio_model.specs.Stations.{tuning_at, tuning_in, tuning_out, tuning_after, over_at, over_after}
use Rattle.lwb_base.proofs.Elements.{map_from}
use Rattle.radio_model.proofs.OneStation.{same_nodes, changed_station, other_station}
use Rattle.radio_model.proofs.Changes.{retuned_keeps}
use Rattle.radio_model.proofs.Places.{still_medium}
use Rattle.radio_model.proofs.NothingBefore.{by_tuning}
use Rattle.radio_model.proofs.TunedStations.{sends_still}
use Rattle.world_engine.specs.FieldSteps.{MediumGoesOn}
use Rattle.world_engine.specs.Following.{Retunes, rank_of_tuned}
use Rattle.world_engine.proofs.GoesOn.{goes_on_nothing}

-- a radio that is tuned to its channel once more stays as it is, and none of its tunings is over by that
record StaysTuned (rank : Option ℕ) (t : ℕ) (x : RadioTuning) : Type 0 where
  same : tuning_after rank t x ≡ x
  none : over_after rank t x ≡ None

stays : (rank : Option ℕ) (t : ℕ) (now : Option Tuned) (last : Option Past) → option_map rank_of_tuned now ≡ rank
    → StaysTuned rank t (record { now = now; last = last })
stays None t None last is = record { same = refl; none = refl }
stays None t (Some o) last is = cc
stays (Some r) t None last is = cc
stays (Some r) t (Some o) last is =
    let x : RadioTuning = record { now = Some o; last = last } in
    let here : (o.rank == r) ≡ true = eq-eqb o.rank r (same_Some o.rank r is) in
    record {
      same = cond-true (o.rank == r) x (tuning_in r t (tuning_out t x)) here;
      none = cond-true (o.rank == r) None (over_at (Some o) last t) here;
    }

module _ (t v : ℕ) (rank : Option ℕ) (old new : MediumState) (is : new ≡ medium_after_change t v (station_after_tuning rank t) old) where
  sends_so : (st : Station) → (station_changed_at v (station_after_tuning rank t) st).sending ≡ st.sending
  sends_so st =
      cond_both (st.node == v) (station_after_tuning rank t st) st (λ (s : Station). s.sending ≡ st.sending) (λ here. sends_still rank t st) (λ other. refl)

  pub retuned_medium : IsMedium old → IsMedium new
  retuned_medium medium = subst IsMedium (sym is) (still_medium (station_after_tuning rank t) (retuned_keeps rank t) v t old medium)

  pub retuned_nodes : nodes_of new ≡ nodes_of old
  retuned_nodes = ap nodes_of is ∙ same_nodes old t v (station_after_tuning rank t) (retuned_keeps rank t).node

  pub retuned_numbers : new.numbers ≡ old.numbers
  retuned_numbers = ap (λ (m : MediumState). m.numbers) is

  pub retuned_others : (u : ℕ) → u ≢ v → station_of new u ≡ station_of old u
  retuned_others u other = ap (λ (m : MediumState). station_of m u) is ∙ other_station old t v (station_after_tuning rank t) (retuned_keeps rank t).node u other

  pub retuned_own : (st : Station) → station_of old v ≡ Some st → station_of new v ≡ Some (station_after_tuning rank t st)
  retuned_own st there = ap (λ (m : MediumState). station_of m v) is ∙ changed_station old t v (station_after_tuning rank t) (retuned_keeps rank t).node
      ∙ ap (option_map (station_after_tuning rank t)) there

  retuned_time : IsTime old t → IsTime (medium_after_change t v (station_after_tuning rank t) old) t
  retuned_time time = record {
    later = omega arith;
    small = time.small;
    running = λ st x there sends.
        let was = map_from (station_changed_at v (station_after_tuning rank t)) old.stations st there in
        time.running was.0 x was.1 (sym (sends_so was.0) ∙ ap (λ (s : Station). s.sending) was.2 ∙ sends);
  }

  pub retuned_goes_on : AreNodes (nodes_of old) → IsTime old t → ((a : Scene) → Holds old a → Holds new (after_tuning old v rank t a))
      → MediumGoesOn t old new []
  retuned_goes_on nodes time holds = record {
    scene = λ a held. (
      after_tuning old v rank t a,
      record {
        held = holds a held;
        lines = refl;
        sendings = sym (append-nil a.sendings);
        before = subst (λ (m : MediumState). Agree t (as_it_stands old t a) (as_it_stands m t (after_tuning old v rank t a))) (sym is)
            (by_tuning old nodes.ascending a held v rank t time.later);
      },
    );
    time = subst (λ (m : MediumState). IsTime m t) (sym is) (retuned_time time);
    nodes = retuned_nodes;
    numbers = retuned_numbers;
    still = retuned_medium;
  }

-- so a station gets to a channel, and stays at one
pub is_tuned : (t v : ℕ) (from to : Option ℕ) (over : Option Past) (old new : MediumState) → over ≡ over_after to t (tuning_at (station_of old v))
    → new ≡ medium_after_change t v (station_after_tuning to t) old → AreNodes (nodes_of old)
    → IsTime old t → ((a : Scene) → Holds old a → Holds new (after_tuning old v to t a)) → Retunes t v from to over old new
is_tuned t v from to over old new gone is nodes time holds = record {
  goes_on = retuned_goes_on t v to old new is nodes time holds;
  own = λ x there tuned. (retuned_own t v to old new is x there, gone ∙ ap (λ (o : Option Station). over_after to t (tuning_at o)) there);
  others = retuned_others t v to old new is;
}

pub stays_tuned : (t v : ℕ) (from to : Option ℕ) (m : MediumState) → IsTime m t → from ≡ to → Retunes t v from to None m m
stays_tuned t v from to m time same = record {
  goes_on = goes_on_nothing t m time;
  own = λ x there tuned.
      let at = stays to t x.tuning.now x.tuning.last (tuned ∙ same) in
      (there ∙ ap (λ (k : RadioTuning). let o : Option Station = Some (record x { tuning = k }) in o) (sym at.same), sym at.none);
  others = λ u other. refl;
}
