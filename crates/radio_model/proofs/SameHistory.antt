-- What the medium holds does not depends on how the tunings are written down.
use Rattle.std.proofs.Common.{ℕ, inl, inr, filter_map, sym, ◌∙◌}
use Rattle.std.proofs.lemmas.List.Elements.{Contains-append_cases, Contains-append_left, Contains-append_right}
use Rattle.radio_model.specs.Hearing.{Scene, IsTuned}
use Rattle.radio_model.specs.Stations.{MediumState}
use Rattle.radio_model.specs.Holding.{Holds, SameHistory, as_it_stands, lasting_at}

stands_on : (m : MediumState) (t : ℕ) (a b : Scene) (v c k : ℕ) → (IsTuned a v c k → IsTuned b v c k) → IsTuned (as_it_stands m t a) v c k
    → IsTuned (as_it_stands m t b) v c k
stands_on m t a b v c k on is =
    let late = filter_map (lasting_at t) m.stations in
    elim (Contains-append_cases a.tunings late is.tuning is.there) [
      | inl ended ↦
          let w = on (record { tuning = is.tuning; there = ended; node = is.node; rank = is.rank; since = is.since; until = is.until }) in
          record {
            tuning = w.tuning;
            there = Contains-append_left b.tunings late w.tuning w.there;
            node = w.node;
            rank = w.rank;
            since = w.since;
            until = w.until;
          }
      | inr lasts ↦ record {
        tuning = is.tuning;
        there = Contains-append_right b.tunings late is.tuning lasts;
        node = is.node;
        rank = is.rank;
        since = is.since;
        until = is.until;
      }
    ]

pub holds_same : (m : MediumState) (a b : Scene) → SameHistory m.now a b → Holds m a → Holds m b
holds_same m a b s h = record {
  numbers = sym s.numbers ∙ h.numbers;
  orderly = h.orderly;
  known = λ y there. h.known y ((s.sendings y).1 there);
  sent = λ y kept. (s.sendings y).0 (h.sent y kept);
  past = s.past;
  tuned = λ st there c from t later early. (
    λ all. (h.tuned st there c from t later early).0 (λ k low high. stands_on m t b a st.node c k (s.tuned st.node c k).1 (all k low high)),
    λ so k low high. stands_on m t a b st.node c k (s.tuned st.node c k).0 ((h.tuned st there c from t later early).1 so k low high),
  );
}
