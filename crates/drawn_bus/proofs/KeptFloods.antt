-- Over the losses that are kept the flood of each slot goes as over all that are drawn.
use Rattle.std.proofs.Common.{◌≡◌, ℕ, ◌<◌, ◌≤◌, List, ◌++◌, Bool, true, false, not, ◌&&◌, Some, filter, is_some, length, option_map}
use Rattle.std.proofs.Common.{find, refl, sym, ◌∙◌, ap}
use Rattle.std.specs.List.{list_any}
use Rattle.lwb_base.specs.Messages.{Plan}
use Rattle.link_trace.specs.declared.lines.CaptureLine.{CaptureLine}
use Rattle.link_trace.specs.declared.lines.LoseLine.{LoseLine}
use Rattle.link_trace.specs.Passes.{Lines, is_capture, is_loss, passes}
use Rattle.scenario_text.specs.ScenarioParts.{ScenarioParts}
use Rattle.bus_rules.specs.Plans.{last_slot}
use Rattle.bus_terms.specs.Bus.{state_at}
use Rattle.bus_terms.specs.Flooding.{Setting, has, hears, moment}
use Rattle.scenario_text.specs.OverLines.{over}
use Rattle.bus_terms.specs.Rounds.{before_slot, round_plan}
use Rattle.bus_terms.proofs.KeptRanks.{hosted}
use Rattle.drawn_bus.specs.DrawnScenarios.{AreSameOnBus}
use Rattle.drawn_bus.specs.KeptLosses.{AddsLosses, flood_in_round, flood_over, is_kept, receives_otherwise}
use Rattle.drawn_bus.proofs.BusesAlike.{same_bus}
use Rattle.drawn_bus.proofs.FloodsAlike.{hears_by_kept, hears_nothing, moments_alike, some_kept}
use Rattle.drawn_bus.proofs.KeptInRanks.{kept_by_rank}
use Rattle.drawn_bus.proofs.LinesWithLosses.{left_by_test, passes_fewer}
use Rattle.drawn_bus.proofs.RoundsAlike.{IsSameFlood}

-- the lines with these losses after their own
abbrev pub with_losses : Lines → List LoseLine → Lines
with_losses t more = record t { losses = t.losses ++ more }

module _ (s : ScenarioParts) (some_hosts : 1 ≤ length s.hosts) (more : List LoseLine) (t : Lines) where
  abbrev whole : Lines
  whole = with_losses s.trace more

  abbrev d : ScenarioParts
  d = over s whole

  abbrev kept : List LoseLine
  kept = filter (is_kept s d) more

  module _ (adds : AddsLosses s.trace t kept) where
    adds_all : AddsLosses s.trace whole more
    adds_all = record { links_stay = refl; cuts_stay = refl; captures_stay = refl; same_losses = λ test. refl }

    -- the flood of slot j of a round
    module _ (rank f : ℕ) (p : Plan) (j : ℕ) (below : rank < length s.hosts) (is : round_plan d rank f (state_at d f) ≡ Some p) (within : j ≤ last_slot p) where
      abbrev x : Setting
      x = flood_in_round d rank f p j

      abbrev lost : ℕ → ℕ → ℕ → Bool
      lost k u v = list_any (is_loss f j k u v) more

      abbrev before : ℕ → ℕ → ℕ → Bool
      before k u v = passes s.trace f j k u v

      kept_at : (k u v : ℕ) → has x.everyone v ≡ true
          → passes t f j k u v ≡ some_kept (before k u v) (lost k u v) (is_some ((moment x k).sends u)) (receives_otherwise x (flood_over s.trace f j x) k v)
      kept_at k u v there =
          passes_fewer s.trace t kept adds f j k u v
          ∙ ap (λ (b : Bool). before k u v && not b) (left_by_test (is_kept s d) f j k u v more)
          ∙ ap (λ (b : Bool). before k u v && not (lost k u v && (before k u v && b))) (kept_by_rank s d f j k u v rank p below is within there)

      hears_same : (k v : ℕ) → hears (flood_over t f j x) (moment x k) k v ≡ hears x (moment x k) k v
      hears_same k v = by_part (has x.everyone v) refl
        where
          by_part : (b : Bool) → has x.everyone v ≡ b → hears (flood_over t f j x) (moment x k) k v ≡ hears x (moment x k) k v
          by_part true there =
              hears_by_kept x before lost (λ k u v. passes whole f j k u v) (λ k u v. passes t f j k u v) (moment x k) k v
              (λ u. passes_fewer s.trace whole more adds_all f j k u v)
              (λ u. kept_at k u v there)
          by_part false outside = hears_nothing (flood_over t f j x) (moment x k) k v outside ∙ sym (hears_nothing x (moment x k) k v outside)

      abbrev with_captures : List CaptureLine → Setting
      with_captures lines = record x {
        passes = λ k u v. passes t f j k u v;
        captured = λ k v. option_map (λ (l : CaptureLine). l.from) (find (is_capture f j k v) lines);
      }

      same_flood : IsSameFlood s t whole rank f p j (before_slot d rank f p (state_at d f) j)
      same_flood k =
          ap (λ (lines : List CaptureLine). moment (with_captures lines) k) adds.captures_stay
          ∙ moments_alike x (λ k u v. passes t f j k u v) hears_same k

    pub kept_same_bus : AreSameOnBus (over s t) d
    kept_same_bus =
        same_bus s t whole (λ rank. rank < length s.hosts) (hosted d some_hosts) (λ rank below. below)
        (λ rank f below p is j within. same_flood rank f p j below is within)
