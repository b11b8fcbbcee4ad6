-- A host that is on again may close a round that it did not open: so its silence lasts until the next opening or closing.
use Rattle.std.proofs.Common.{◌≡◌, List, [], ◌∷◌, false, refl, arith}
use Rattle.bus_rules.specs.Cores.{no_plan}
use Rattle.lwb_base.proofs.Elements.{not_in_none}
use Rattle.law_trails.specs.Lives.{Step, ComesOn, GoesOff, Closes, Ends, newborn, after_steps, AllMayCome}

abbrev steps_of_return : List Step
steps_of_return =
    ComesOn 0 ∷ GoesOff 0 ∷ ComesOn 0 ∷ Ends false no_plan ∷ Ends false no_plan ∷ Ends false no_plan ∷ Ends false no_plan ∷ Ends false no_plan
    ∷ Closes 4 no_plan ∷ []

may_come : AllMayCome 0 1 newborn steps_of_return
unfolding AllMayCome
may_come = (
  (refl, omega arith),
  (
    (refl, omega arith, record { openings = λ o there. absurd (not_in_none o there); closings = λ c there. absurd (not_in_none c there) }),
    (
      (refl, omega arith),
      (
        (refl, λ is. cc is),
        (
          (refl, λ is. cc is),
          ((refl, λ is. cc is), ((refl, λ is. cc is), ((refl, λ is. cc is), ((refl, refl, omega arith, omega arith), tt)))),
        ),
      ),
    ),
  ),
)

closed_late : (after_steps 0 1 newborn steps_of_return).closings ≡ record { frame = 5; gap = 4; plan = no_plan } ∷ []
unfolding after_steps
closed_late = refl
