-- The premises of the laws on requests, on the next round and on data are met in a line of three nodes: node 3 requests in the first round,
-- that of frame 5, and sends its packet in the next.
use Rattle.std.proofs.Common.{◌≡◌, ◌≢◌, ◌<◌, ◌≤◌, ℕ, zero, suc, [], ◌∷◌, true, false, Some, inl, inr, is_some, codes, refl, sym, ◌∙◌, subst, arith}
use Rattle.law_service.proofs.Words.{is_utf8, chars, encode, cases_eq, false≢true, leb-true, ne_eqb, Ask, least_passing, network_line, IsScenario}
use Rattle.law_service.proofs.Words.{over_own_lines}
use Rattle.law_service.proofs.Words.{scenario_after_words, scenario_line, put_line, script_line, step_line, draft_after_line, Core, count_of, plan_round}
use Rattle.law_service.proofs.Words.{answers_to, host_plan, WaitingPacket, schedule_heard, is_full, before_frame, state_at, walks, Accepts, moment, node_before}
use Rattle.law_service.proofs.Words.{slot_in, state_after_round, before_slot, delivery_in_slot, message_said, lines_of, HasData, FitsNextRound, PlansRound}
use Rattle.law_service.proofs.Words.{IsWithin, LosesNothing, is_linked, Acknowledges, KeepsRequest, ReachesHost}
use Rattle.law_service.proofs.ComputedCores.{core_of, on_core}
use Rattle.law_service.proofs.DeliveredData.{delivered_within}
use Rattle.law_service.proofs.FirstRounds.{new_granted}
use Rattle.law_service.proofs.LoneRequests.{acknowledged, kept}
use Rattle.law_service.proofs.LosslessSlots.{lose_nothing}
use Rattle.law_service.proofs.MetPremises.{asks, hosted, lossless, p, request, s}
use Rattle.law_service.proofs.OffNodes.{says_none}
use Rattle.law_service.proofs.WorkedReach.{received}

said : IsScenario s
unfolding draft_after_line scenario_after_words scenario_line script_line step_line put_line network_line is_utf8 chars encode
said = (
  codes "sends 1\nnode 1 0\nnode 2 0\nnode 3 0\nhost 0 1\npair 1 2\npair 2 3\nframes 12\non 0 1\non 0 2\non 0 3\nstream 0 3 0 4\nput 0 3 0 aa\n",
  refl,
)

abbrev ask : Ask
ask = record { node = 3; boot = 1; stream = 0; interval = 4 }

-- nobody but nodes 1, 2 and 3 has a line
no_lines : (v : ℕ) → 1 ≢ v → 2 ≢ v → 3 ≢ v → (f : ℕ) → lines_of s f v ≡ []
no_lines v first second third f = rw (ne_eqb 1 v first, ne_eqb 2 v second, ne_eqb 3 v third) refl

nobody_else : (v : ℕ) → is_some (message_said ((slot_in s 0 5 p 1).window v)) ≡ true → v ≡ 3
unfolding before_frame before_slot moment schedule_heard host_plan plan_round least_passing
nobody_else v some = elim (cases_eq 3 v) [
  | inl same ↦ sym same
  | inr third ↦ elim (cases_eq 2 v) [
    | inl same ↦ absurd (false≢true (sym (quiet_2 v same) ∙ some))
    | inr second ↦ elim (cases_eq 1 v) [
      | inl same ↦ absurd (false≢true (sym (quiet_1 v same) ∙ some))
      | inr first ↦ absurd (false≢true (sym (says_none s v (no_lines v first second third) 0 5 p 1) ∙ some))
    ]
  ]
]
  where
    quiet_1 : (v : ℕ) → 1 ≡ v → is_some (message_said ((slot_in s 0 5 p 1).window v)) ≡ false
    quiet_1 v same = subst (λ (u : ℕ). is_some (message_said ((slot_in s 0 5 p 1).window u)) ≡ false) same refl

    quiet_2 : (v : ℕ) → 2 ≡ v → is_some (message_said ((slot_in s 0 5 p 1).window v)) ≡ false
    quiet_2 v same = subst (λ (u : ℕ). is_some (message_said ((slot_in s 0 5 p 1).window u)) ≡ false) same refl

-- the host before the contention slot, and before the closing slot
abbrev first_core : Core
first_core = core_of (node_before s 0 5 p 1 1)

abbrev last_core : Core
last_core = core_of (node_before s 0 5 p 2 1)

abbrev next_core : Core
next_core = core_of (state_after_round s 0 5 p 1)

reaches : ReachesHost s 0 5 p 1 1 3 ask first_core
unfolding before_frame before_slot moment schedule_heard host_plan plan_round least_passing
reaches = record {
  hosted = hosted;
  request = record { after_data = omega arith; before_last = omega arith; member = refl; says = request; alone = nobody_else };
  lossless = lossless 1;
  step = 1;
  within = asks;
  on = on_core (node_before s 0 5 p 1 1) refl;
}

has_room : is_full ask (answers_to 5 first_core.kept first_core.table).table ≡ false
unfolding before_frame before_slot moment schedule_heard host_plan plan_round least_passing
has_room = refl

keeps : KeepsRequest s 0 5 p 1 1 ask first_core
keeps = kept s (over_own_lines s said) 0 5 p 1 1 3 ask first_core reaches

acknowledges : Acknowledges s 0 5 p 1 ask
acknowledges = acknowledged s (over_own_lines s said) 0 5 p 1 1 3 ask first_core reaches has_room

-- the next round comes four frames later, and what is owed by then are four slots: all of them are granted
plans : PlansRound s 0 5 p 1 last_core 9 next_core.plan
unfolding before_frame before_slot moment schedule_heard host_plan plan_round least_passing
plans = record {
  on = on_core (node_before s 0 5 p 2 1) refl;
  next = next_core;
  next_on = on_core (state_after_round s 0 5 p 1) refl;
  tune = refl;
  planned = refl;
}

fits : FitsNextRound s 5 1 last_core 9
unfolding before_frame before_slot moment schedule_heard host_plan plan_round least_passing
fits = leb-true _ 40 refl

four_slots : (4 ≤ count_of 12 next_core.plan.owners) × (count_of 12 next_core.plan.owners ≡ 4)
unfolding before_frame before_slot moment schedule_heard host_plan plan_round least_passing
four_slots = (
  new_granted s (over_own_lines s said) 0 5 p 1 1 3 ask first_core reaches has_room (λ same. absurd (omega (arith, same))) last_core 9 next_core.plan
      plans fits,
  refl,
)

-- the first of them, in frame 9
abbrev data_core : Core
data_core = core_of (before_slot s 0 9 next_core.plan (state_at s 9) 1 3)

abbrev packet : WaitingPacket
packet = record { seq = 0; payload = 0xaa ∷ [] }

has_data : HasData s 0 9 next_core.plan (state_at s 9) 1 12 data_core packet
unfolding before_frame before_slot moment schedule_heard host_plan plan_round least_passing
has_data = record { slot = refl; on = on_core (before_slot s 0 9 next_core.plan (state_at s 9) 1 3) refl; member = refl; waits = refl }

data_lossless : LosesNothing s (slot_in s 0 9 next_core.plan 1)
data_lossless = lose_nothing s 0 9 next_core.plan (state_at s 9) 1 (record { losses = refl; cuts = refl })

-- node 1 is two hops from it
host_listens : IsWithin s (slot_in s 0 9 next_core.plan 1) 3 2 1
unfolding before_frame before_slot moment schedule_heard host_plan plan_round least_passing walks
host_listens = record { there = refl; distance = record { reached = refl; nearest = nearest }; few = omega arith }
  where
    nearest : (i : ℕ) → i < 2 → walks (is_linked s) (slot_in s 0 9 next_core.plan 1).flood.everyone 3 i 1 ≡ false
    nearest zero less = refl
    nearest (suc zero) less = refl
    nearest (suc (suc i)) less = absurd (omega (arith, less))

delivers : (delivery_in_slot s 0 9 next_core.plan (state_at s 9) 1 1 ≡ Some (received 3 1)) × Accepts (slot_in s 0 9 next_core.plan 1).flood 1 3 1
unfolding before_frame before_slot moment schedule_heard host_plan plan_round least_passing
delivers = delivered_within s (over_own_lines s said) 0 9 next_core.plan (state_at s 9) 1 12 data_core packet has_data data_lossless 1 1 host_listens
