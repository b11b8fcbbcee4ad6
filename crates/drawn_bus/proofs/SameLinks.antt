-- Over lines by which the same links pass and the same senders are captured the bus is the same.
use Rattle.std.proofs.Common.{◌≡◌, ℕ, Bool, Option, ◌∙◌, ap}
use Rattle.std.proofs.Math.Path.{fun_ext}
use Rattle.lwb_base.specs.Messages.{Plan}
use Rattle.link_trace.specs.Passes.{Lines, captured, passes}
use Rattle.scenario_text.specs.ScenarioParts.{ScenarioParts}
use Rattle.bus_rules.specs.States.{State}
use Rattle.bus_terms.specs.Flooding.{Setting, moment}
use Rattle.scenario_text.specs.OverLines.{over}
use Rattle.bus_terms.specs.Rounds.{slot_of_round}
use Rattle.drawn_bus.specs.DrawnScenarios.{AreSameOnBus}
use Rattle.drawn_bus.proofs.BusesAlike.{same_bus}
use Rattle.drawn_bus.proofs.RoundsAlike.{IsSameFlood}

abbrev with_air : (ℕ → ℕ → ℕ → Bool) → (ℕ → ℕ → Option ℕ) → Setting → Setting
with_air passes captured x = record x { passes = passes; captured = captured }

module _ (s : ScenarioParts) (a b : Lines) (same : (f j k u v : ℕ) → passes a f j k u v ≡ passes b f j k u v)
    (alike : (f j k v : ℕ) → captured a f j k v ≡ captured b f j k v) where
  same_flood : (rank f : ℕ) (p : Plan) (j : ℕ) (states : ℕ → State) → IsSameFlood s a b rank f p j states
  same_flood rank f p j states k =
      let x = (slot_of_round (over s b) rank f p j states).flood in
      ap (λ (q : ℕ → ℕ → ℕ → Bool). moment (with_air q (λ k v. captured a f j k v) x) k) (fun_ext (λ k. fun_ext (λ u. fun_ext (same f j k u))))
      ∙ ap (λ (c : ℕ → ℕ → Option ℕ). moment (with_air (λ k u v. passes b f j k u v) c x) k) (fun_ext (λ k. fun_ext (alike f j k)))

  pub same_links : AreSameOnBus (over s a) (over s b)
  same_links =
      same_bus s a b (λ rank. Unit {0}) (λ f v. tt) (λ rank below. tt)
      (λ rank f of_rank p is j within. same_flood rank f p j _)
