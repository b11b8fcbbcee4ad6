-- The end of a run: the queue has what is at the nodes by their trails.
use Rattle.std.proofs.Common.{◌≡◌, ℕ, zero, suc, List, [], ◌∷◌, map, length, Some, refl, sym, ◌∙◌, ap, arith}
use Rattle.std.specs.Prelude.{slice_get}
use Rattle.scenario_text.specs.ScenarioParts.{ScenarioParts}
use Rattle.scenario_text.specs.declared.lines.NodeLine.{NodeLine}
use Rattle.event_calendar.specs.Orders.{Due}
use Rattle.air_log.specs.Trails.{run_end}
use Rattle.world_engine.specs.Fields.{FieldState, due_of_device}
use Rattle.world_engine.specs.FieldSteps.{IsClosed}
use Rattle.world_engine.specs.Moments.{Before}
use Rattle.world_engine.specs.Running.{IsRunning}
use Rattle.world_engine.specs.Runs.{standing, standing_at, orders_left}
use Rattle.world_engine.proofs.NodePlaces.{same_some}
use Rattle.world_engine.proofs.ShownPlaces.{due_stands}
use Rattle.world_engine.proofs.TrailsOver.{at_place}

-- a list that has at each place what a map gives
pub each_place : {X Y : Type 0} (f : X → Y) (xs : List X) (ys : List Y) → length ys ≡ length xs
    → ((p : ℕ) (x : X) → slice_get xs p ≡ Some x → slice_get ys p ≡ Some (f x)) → ys ≡ map f xs
each_place f [] [] long each = refl
each_place f [] (y ∷ ys) long each = absurd (omega arith)
each_place f (x ∷ xs) [] long each = absurd (omega arith)
each_place f (x ∷ xs) (y ∷ ys) long each =
    ap (λ (z : _). z ∷ ys) (same_some y (f x) (each zero x refl))
    ∙ ap (λ (l : List _). f x ∷ l) (each_place f xs ys (omega arith) (λ p z at. each (suc p) z at))

module _ (s : ScenarioParts) (clocks : ℕ → ℕ → ℕ) (w : FieldState) (due : List Due) (closed : FieldState)
    (running : IsRunning s clocks s.script (run_end s) Before w due) (over : IsClosed (run_end s) w due closed) where
  left_at : (p : ℕ) (n : NodeLine) → slice_get s.nodes p ≡ Some n → slice_get due p ≡ Some (standing_at s clocks closed.air n)
  left_at p n there =
      let end = at_place s clocks w due closed running over p n there in
      let stands = due_stands _ _ w due p _ end.shows in
      let same : standing_at s clocks closed.air n ≡ due_of_device end.shows.state = ap standing end.is ∙ sym stands in
      end.shows.known.set ∙ ap (λ (d : Due). Some d) (sym same)

  pub orders_over : due ≡ orders_left s clocks closed.air
  orders_over = each_place (standing_at s clocks closed.air) s.nodes due running.places.places left_at
