-- The premises of the laws on contenders are met where nodes 7 and 23 request in the fourth contention slot of the first round, both
-- neighbours of the host alone; nobody accepts either request, and both are tied again.
use Rattle.std.proofs.Common.{◌≡◌, ◌≢◌, ◌++◌, ◌==◌, ℕ, List, [], ◌∷◌, true, false, None, inl, inr, is_some, codes, refl, sym, ◌∙◌, ap, subst, arith, ◌⊎◌}
use Rattle.law_service.proofs.Words.{is_utf8, chars, encode, cases_eq, eqb-true, false≢true, ne_eqb, or_cases, Plan, least_passing, contended, network_line}
use Rattle.law_service.proofs.Words.{IsScenario, over_own_lines, scenario_after_words, scenario_line, ScenarioParts, put_line, script_line, step_line}
use Rattle.law_service.proofs.Words.{draft_after_line, Core}
use Rattle.law_service.proofs.Words.{empty_plan, plan_round, host_plan, StateOn, schedule_heard, before_frame, state_at, has, moment, node_before, slot_in}
use Rattle.law_service.proofs.Words.{accepted_at, before_slot, message_said, lines_of, AreContenders, AreTied, AreTiedAfter, Collide, HaveSameNeighbours}
use Rattle.law_service.proofs.Words.{is_linked}
use Rattle.law_service.proofs.ComputedCores.{core_of, on_core}
use Rattle.law_service.proofs.Collisions.{lost, stay_tied}
use Rattle.law_service.proofs.LosslessSlots.{lose_nothing}
use Rattle.law_service.proofs.OffNodes.{says_none}
use Rattle.law_service.proofs.WorkedContenders.{star}

abbrev s : ScenarioParts
s = star 4 12 7 23

said : IsScenario s
unfolding draft_after_line scenario_after_words scenario_line script_line step_line put_line network_line is_utf8 chars encode
said = (
  codes "profile 2\ncontend 4\nsends 2\nnode 1 0\nnode 7 0\nnode 23 0\nhost 0 1\npair 1 7\npair 1 23\nframes 12\n"
      ++ codes "on 0 1\non 0 7\non 0 23\nstream 0 7 0 5\nstream 0 23 0 5\nput 0 7 0 aa\nput 0 23 0 bb\n",
  refl,
)

abbrev p : Plan
p = empty_plan (contended 4) 0 1

no_lines : (v : ℕ) → 1 ≢ v → 7 ≢ v → 23 ≢ v → (f : ℕ) → lines_of s f v ≡ []
no_lines v first second third f = rw (ne_eqb 1 v first, ne_eqb 7 v second, ne_eqb 23 v third) refl

nobody_else : (v : ℕ) → is_some (message_said ((slot_in s 0 5 p 4).window v)) ≡ true → (v ≡ 7) ⊎ (v ≡ 23)
unfolding before_frame before_slot moment schedule_heard host_plan plan_round least_passing
nobody_else v some = elim (cases_eq 7 v) [
  | inl same ↦ inl (sym same)
  | inr second ↦ elim (cases_eq 23 v) [
    | inl same ↦ inr (sym same)
    | inr third ↦ elim (cases_eq 1 v) [
      | inl same ↦ absurd (false≢true (sym (quiet v same) ∙ some))
      | inr first ↦ absurd (false≢true (sym (says_none s v (no_lines v first second third) 0 5 p 4) ∙ some))
    ]
  ]
]
  where
    quiet : (v : ℕ) → 1 ≡ v → is_some (message_said ((slot_in s 0 5 p 4).window v)) ≡ false
    quiet v same = subst (λ (u : ℕ). is_some (message_said ((slot_in s 0 5 p 4).window u)) ≡ false) same refl

contenders : AreContenders s 0 5 p 4 7 23
unfolding before_frame before_slot moment schedule_heard host_plan plan_round least_passing
contenders = record {
  after_data = omega arith;
  before_last = omega arith;
  differ = λ same. absurd (omega (arith, same));
  members = (refl, refl);
  both = (refl, refl);
  others = nobody_else;
}

-- who takes part are the three nodes, and of these the host alone is a neighbour
three_nodes : (slot_in s 0 5 p 4).flood.everyone ≡ 1 ∷ 7 ∷ 23 ∷ []
unfolding before_frame before_slot moment schedule_heard host_plan plan_round least_passing
three_nodes = refl

neighbours : HaveSameNeighbours s (slot_in s 0 5 p 4) 7 23
neighbours w takes first second =
    elim (or_cases (1 == w) _ (ap (λ (l : List ℕ). has l w) (sym three_nodes) ∙ takes)) [
      | inl same ↦ subst (λ (u : ℕ). is_linked s 7 u ≡ is_linked s 23 u) (eqb-true 1 w same) refl
      | inr later ↦ elim (or_cases (7 == w) _ later) [
        | inl same ↦ absurd (first (sym (eqb-true 7 w same)))
        | inr last ↦ elim (or_cases (23 == w) false last) [
          | inl same ↦ absurd (second (sym (eqb-true 23 w same)))
          | inr none ↦ absurd (false≢true none)
        ]
      ]
    ]

collide : Collide s 0 5 p 4 7 23
collide = record {
  contenders = contenders;
  lossless = lose_nothing s 0 5 p (state_at s 5) 4 (record { losses = refl; cuts = refl });
  neighbours = neighbours;
  uncaptured = λ k w. refl;
}

neither_accepted : (w : ℕ) → accepted_at (slot_in s 0 5 p 4) w ≡ None
neither_accepted = lost s (over_own_lines s said) 0 5 p 4 7 23 collide

abbrev first_core : Core
first_core = core_of (node_before s 0 5 p 4 7)

abbrev second_core : Core
second_core = core_of (node_before s 0 5 p 4 23)

both_on : (node_before s 0 5 p 4 7 ≡ StateOn first_core) × (node_before s 0 5 p 4 23 ≡ StateOn second_core)
unfolding before_frame before_slot moment schedule_heard host_plan plan_round least_passing
both_on = (on_core (node_before s 0 5 p 4 7) refl, on_core (node_before s 0 5 p 4 23) refl)

tied : AreTied 7 23 first_core.streams second_core.streams
unfolding before_frame before_slot moment schedule_heard host_plan plan_round least_passing
tied = record { ids = refl; tries = refl; backoff = refl }

tied_again : AreTiedAfter s 0 5 p 4 7 23
tied_again = stay_tied s (over_own_lines s said) 0 5 p 4 7 23 collide first_core second_core both_on.0 both_on.1 tied
