-- A new medium holds all of a scene in which nothing has happened.
use Rattle.std.proofs.Common.{◌≡◌, ℕ, ◌+◌, ◌<◌, ◌⊎◌, inl, inr, List, [], ◌∷◌, true, refl, subst, arith, Contains}
use Rattle.std.proofs.lemmas.Bool.{false≢true}
use Rattle.lwb_base.specs.Profile.{Numbers, IsProfile}
use Rattle.link_trace.specs.Masks.{AreNodes}
use Rattle.link_trace.specs.Passes.{Lines}
use Rattle.radio_model.specs.OnAir.{Sending}
use Rattle.radio_model.specs.Hearing.{IsTuned}
use Rattle.radio_model.proofs.Tunings.{Goes}
use Rattle.radio_model.specs.Stations.{MediumState, fresh, stations_from, first_state, on_air, covers}
use Rattle.radio_model.specs.Holding.{Holds, IsOrderly, as_it_stands, nothing_yet}
use Rattle.radio_model.specs.declared.station.Station.{Station}
use Rattle.lwb_base.proofs.Elements.{contains_cases, not_in_none}
use Rattle.radio_model.proofs.Places.{first_is_medium}
use Rattle.radio_model.proofs.Scenes.{stands}

is_fresh : (k : ℕ) (vs : List ℕ) (st : Station) → Contains (stations_from k vs) st → (v : ℕ) × (i : ℕ) × (fresh v i ≡ st)
is_fresh k [] st there = absurd (not_in_none st there)
is_fresh k (v ∷ vs) st there =
    elim (contains_cases (fresh v k) (stations_from (k + 1) vs) st there) [ inl is ↦ (v, k, is) | inr rest ↦ is_fresh (k + 1) vs st rest ]

module _ (p : Numbers) (nodes : List ℕ) (profile : IsProfile p) (are : AreNodes nodes) (lines : Lines) where
  abbrev m : MediumState
  m = first_state p nodes

  each_fresh : (P : Station → Type 0) → ((v i : ℕ) → P (fresh v i)) → (st : Station) → Contains m.stations st → P st
  each_fresh P of st there = let w = is_fresh 0 nodes st there in subst P w.2 (of w.0 w.1)

  silent : (st : Station) → Contains m.stations st → (y : Sending) → Contains (on_air st) y → ⊥
  silent = each_fresh (λ (st : Station). (y : Sending) → Contains (on_air st) y → ⊥) (λ v i y there. not_in_none y there)

  pub holds_at_first : Holds m (nothing_yet p lines)
  holds_at_first = record {
    numbers = refl;
    orderly =
        each_fresh (IsOrderly p 0)
        (λ v i. record { own = λ y there. absurd (not_in_none y there); in_turn = tt; over = λ y there. absurd (not_in_none y there); tunings = tt });
    known = λ y there. absurd (not_in_none y there);
    sent = λ y kept. absurd (silent kept.station kept.there y kept.kept);
    past = λ k there. absurd (not_in_none k there);
    tuned = λ st there c s t later early.
        let no_tuning : (k : ℕ) → k < t → IsTuned (as_it_stands m t (nothing_yet p lines)) st.node c k → ⊥ =
        λ k high is. none_lit st there c k
        ((stands m (nothing_yet p lines) st t c k (first_is_medium p nodes profile are).nodes.ascending there high).0 is) in
        (λ all. absurd (no_tuning s early (all s (omega arith) early)), λ so. absurd (none_covers st there c s t so));
  }
    where
      none_lit : (st : Station) → Contains m.stations st → (c k : ℕ) → IsTuned (nothing_yet p lines) st.node c k ⊎ Goes st.tuning.now c k → ⊥
      none_lit st there c k (inl is) = not_in_none is.tuning is.there
      none_lit st there c k (inr goes) = each_fresh (λ (s : Station). Goes s.tuning.now c k → ⊥) (λ v i g. g) st there goes

      none_covers : (st : Station) → Contains m.stations st → (c s t : ℕ) → covers st c s t ≡ true → ⊥
      none_covers st there c s t = each_fresh (λ (q : Station). covers q c s t ≡ true → ⊥) (λ v i so. false≢true so) st there
