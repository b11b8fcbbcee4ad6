-- All nodes of a flood are tuned in, one after another.
use Rattle.std.proofs.Common.{◌≡◌, ◌==◌, ℕ, ◌+◌, ◌<◌, ◌≤◌, List, [], ◌∷◌, ◌++◌, map, take, length, get_or, Option, Some, None, inl, inr, refl, sym, ◌∙◌, ap}
use Rattle.std.proofs.Common.{subst, arith}
use Rattle.std.specs.Prelude.{Contains}
use Rattle.std.proofs.lemmas.Bool.{cond_both}
use Rattle.std.proofs.lemmas.List.{take_more, length-map}
use Rattle.lwb_base.specs.Profile.{one, Numbers}
use Rattle.link_trace.specs.Masks.{AreNodes}
use Rattle.scenario_text.specs.FloodParts.{FloodParts, IsSound}
use Rattle.scenario_text.specs.declared.lines.NodeLine.{NodeLine}
use Rattle.bus_terms.specs.FloodOfText.{ids}
use Rattle.radio_model.specs.declared.sending.Sending.{Sending}
use Rattle.radio_model.specs.declared.station.Station.{Station}
use Rattle.radio_model.specs.Stations.{MediumState, IsMedium, IsTime, nodes_of, medium_after_change, station_changed_at, station_after_tuning, first_state}
use Rattle.radio_model.specs.Stations.{stations_from, fresh}
use Rattle.radio_model.proofs.Places.{nodes_from, still_medium, first_is_medium}
use Rattle.radio_model.proofs.Changes.{retuned_keeps}
use Rattle.radio_model.proofs.OneStation.{same_nodes}
use Rattle.radio_model.proofs.TunedStations.{sends_still}
use Rattle.air_log.specs.FloodLaw.{OPENING}
use Rattle.lwb_base.proofs.Elements.{not_in_none, contains_cases, map_from, pairs_of_map}
use Rattle.lwb_flood.specs.FloodWorlds.{medium_at_opening, first_member, first_world, IsShape, node_of_member as member_node}

-- nobody sends yet
pub record IsOpening (vs : List ℕ) (m : MediumState) : Type 0 where
  pub nodes : nodes_of m ≡ vs
  pub early : m.now ≤ OPENING
  pub silent : (st : Station) → Contains m.stations st → st.sending ≡ None

fresh_silent : (k : ℕ) (vs : List ℕ) (st : Station) → Contains (stations_from k vs) st → st.sending ≡ None
fresh_silent k [] st there = absurd (not_in_none st there)
fresh_silent k (v ∷ vs) st there =
    elim (contains_cases (fresh v k) (stations_from (k + 1) vs) st there) [
      | inl is ↦ ap (λ (s : Station). s.sending) (sym is)
      | inr later ↦ fresh_silent (k + 1) vs st later
    ]

pub at_first : (p : Numbers) (vs : List ℕ) → IsOpening vs (first_state p vs)
at_first p vs = record { nodes = nodes_from 0 vs; early = omega arith; silent = fresh_silent 0 vs }

abbrev pub tuned_one : ℕ → MediumState → MediumState
tuned_one v m = medium_after_change OPENING v (station_after_tuning (Some 0) OPENING) m

pub one_more : (vs : List ℕ) (m : MediumState) (v : ℕ) → IsOpening vs m → IsOpening vs (tuned_one v m)
one_more vs m v is = record {
  nodes = same_nodes m OPENING v (station_after_tuning (Some 0) OPENING) (retuned_keeps (Some 0) OPENING).node ∙ is.nodes;
  early = omega arith;
  silent = λ st there.
      let was = map_from (station_changed_at v (station_after_tuning (Some 0) OPENING)) m.stations st there in
      subst (λ (s : Station). s.sending ≡ None) was.2
      (cond_both (was.0.node == v) (station_after_tuning (Some 0) OPENING was.0) was.0 (λ (s : Station). s.sending ≡ None)
      (λ _. sends_still (Some 0) OPENING was.0 ∙ is.silent was.0 was.1) (λ _. is.silent was.0 was.1));
}

pub opened_is : (us vs : List ℕ) (m : MediumState) → IsOpening vs m → IsOpening vs (medium_at_opening us m)
opened_is [] vs m is = is
opened_is (u ∷ us) vs m is = opened_is us vs (tuned_one u m) (one_more vs m u is)

opened_push : (us : List ℕ) (v : ℕ) (m : MediumState) → medium_at_opening (us ++ v ∷ []) m ≡ tuned_one v (medium_at_opening us m)
opened_push [] v m = refl
opened_push (u ∷ us) v m = opened_push us v (tuned_one u m)

pub opened_more : (vs : List ℕ) (i v : ℕ) (m : MediumState) → i < length vs → v ≡ get_or vs i v
    → medium_at_opening (take (i + 1) vs) m ≡ tuned_one v (medium_at_opening (take i vs) m)
opened_more vs i v m below at = ap (λ (l : List ℕ). medium_at_opening l m) (take_more vs i v below ∙ ap (λ (n : ℕ). take i vs ++ n ∷ []) (sym at))
    ∙ opened_push (take i vs) v m

pub in_time : (vs : List ℕ) (m : MediumState) → IsOpening vs m → IsTime m OPENING
in_time vs m is = record {
  later = is.early;
  small = omega arith;
  running = λ st x there sends. no_sending (sym (is.silent st there) ∙ sends);
}
  where
    no_sending : {x : Sending} → (let o : Option Sending = None in o ≡ Some x) → OPENING ≤ x.end
    no_sending is = cc

pub opened_medium : (us : List ℕ) (m : MediumState) → IsMedium m → IsMedium (medium_at_opening us m)
opened_medium [] m is = is
opened_medium (u ∷ us) m is =
    opened_medium us (tuned_one u m) (still_medium (station_after_tuning (Some 0) OPENING) (retuned_keeps (Some 0) OPENING) u OPENING m is)

first_nodes : (f : FloodParts) (ns : List NodeLine) → map member_node (map (first_member f) ns) ≡ ids ns
first_nodes f [] = refl
first_nodes f (n ∷ ns) = ap (λ (l : List ℕ). n.node ∷ l) (first_nodes f ns)

pub first_shape : (f : FloodParts) → AreNodes (ids f.nodes) → IsShape (first_world f)
first_shape f are =
    let first : MediumState = first_state one (ids f.nodes) in
    record {
      nodes = first_nodes f f.nodes ∙ sym (opened_is (ids f.nodes) (ids f.nodes) first (at_first one (ids f.nodes))).nodes;
      medium = opened_medium (ids f.nodes) first (first_is_medium one (ids f.nodes) (inl refl) are);
    }

pub sound_nodes : (f : FloodParts) → IsSound f → AreNodes (ids f.nodes)
sound_nodes f is =
    let long = length-map f.nodes (λ (n : NodeLine). n.node) in
    let two = is.two_nodes in
    let few = is.few_nodes in
    record {
      some = omega arith;
      few = omega arith;
      ascending = pairs_of_map (λ (n : NodeLine). n.node) (λ a b. a < b) f.nodes is.ascending;
    }
