-- The nodes that are reached by walks of few links, link by link.
use Rattle.std.proofs.Common.{◌≡◌, ℕ, ◌+◌, List, [], ◌∷◌, filter, Bool, true, false, ◌&&◌, ◌==◌, inl, inr, sym, ◌∙◌, ap}
use Rattle.std.proofs.lemmas.Bool.{eqb-true, false≢true, or_cases}
use Rattle.scenario_text.specs.ScenarioParts.{ScenarioParts}
use Rattle.bus_terms.specs.Flooding.{has}
use Rattle.law_service.specs.Reach.{is_linked}
use Rattle.link_trace.specs.Passes.{passes}
use Rattle.law_times.specs.Reaches.{IsLossless}
use Rattle.bus_bounds.specs.JoinRounds.{is_next}
use Rattle.bus_bounds.proofs.QuietFrames.{links_pass}
use Rattle.bus_bounds.proofs.WalksAlong.{at_start, kept_has, of_kept, step_more, within}

-- of the nodes that are up those that a walk of at most this many links leads to
pub record AreReached (s : ScenarioParts) (host : ℕ) (up nodes : List ℕ) (most : ℕ) : Type 0 where
  pub near : (v : ℕ) → has up v ≡ true → has nodes v ≡ within (is_linked s) host up most v
  pub among : (v : ℕ) → has nodes v ≡ true → has up v ≡ true

pub starts : (s : ScenarioParts) (host : ℕ) (up : List ℕ) → has up host ≡ true → AreReached s host up (host ∷ []) 0
starts s host up there = record {
  near = λ v known. at_start (is_linked s) host up v;
  among = λ v is. elim (or_cases (host == v) false is) [
    | inl same ↦ ap (has up) (sym (eqb-true host v same)) ∙ there
    | inr none ↦ absurd (false≢true none)
  ];
}

pub steps : (s : ScenarioParts) (host f : ℕ) (up nodes : List ℕ) (most : ℕ) → IsLossless s f → AreReached s host up nodes most
    → AreReached s host up (filter (is_next s.trace f nodes) up) (most + 1)
steps s host f up nodes most quiet are = record {
  near = λ v known. kept_has (is_next s.trace f nodes) up v ∙ ap (λ (b : Bool). b && is_next s.trace f nodes v) known
      ∙ step_more (is_linked s) host up nodes (passes s.trace f 0 0) most (links_pass s f quiet) are.near are.among v known;
  among = λ v is. (of_kept (is_next s.trace f nodes) up v is).0;
}
