-- Before each slot of a round but the last, a host of it keeps fewer requests than the round has contention slots.
use Rattle.std.proofs.Common.{◌≡◌, ◌<◌, ◌≤◌, ◌==◌, ◌&&◌, ℕ, Bool, true, false, Option, Some, None, inl, inr, if◌then◌else◌, length, nat_le, nat_lt}
use Rattle.std.proofs.Common.{refl, sym, ◌∙◌, ap, subst, arith}
use Rattle.std.proofs.lemmas.Bool.{false≢true, cases_lt, cond-false, lt-leb, le-ltb, ne_eqb}
use Rattle.lwb_base.specs.Messages.{Plan}
use Rattle.scenario_text.specs.ScenarioParts.{ScenarioParts}
use Rattle.bus_rules.specs.declared.part.Part.{Part}
use Rattle.bus_rules.specs.declared.part.Part.TheVariants.{Opening, Data as DataSlot, Contention, Closing}
use Rattle.bus_rules.specs.declared.tune.Tune.{Tune}
use Rattle.bus_rules.specs.declared.tune.Tune.TheVariants.{Scan, Hold, Host}
use Rattle.bus_rules.specs.Cores.{Core, Setup, opening_accepted, closing_accepted}
use Rattle.bus_rules.specs.Plans.{last_slot, slots_named}
use Rattle.bus_rules.specs.Slots.{Message, ScheduleOf, DataOf, RequestOf, part_of, is_schedule_part, opened_slot}
use Rattle.bus_rules.specs.Slots.{closed_slot, slot_heard, hosts_now, host_closes}
use Rattle.bus_rules.specs.Slots.{silent}
use Rattle.bus_rules.specs.States.{State, StateOn}
use Rattle.bus_rules.specs.Tuning.{rank_of, hosts_in}
use Rattle.bus_terms.specs.Bus.{state_at}
use Rattle.bus_terms.specs.FloodOfText.{ids}
use Rattle.bus_terms.specs.Flooding.{has}
use Rattle.bus_terms.specs.Rounds.{before_slot, round_plan}
use Rattle.scenario_text.specs.Setups.{setup_of}
use Rattle.bus_terms.specs.ScriptedStates.{is_on_and}
use Rattle.bus_terms.proofs.KeptInRounds.{slots_keep}
use Rattle.bus_terms.proofs.HostedRounds.{Hosting, leads}
use Rattle.bus_terms.proofs.KeptByHosts.{room}

-- in no slot does a node begin to host the round
other_rank : (rank f due : ℕ) (t : Tune) → hosts_in (rank_of t) f t ≡ true → hosts_in rank f t ≡ false → hosts_in rank f (Host (rank_of t) due) ≡ false
other_rank rank f due (Scan r w) now not = absurd (false≢true now)
other_rank rank f due (Hold r d) now not = absurd (false≢true now)
other_rank rank f due (Host r d) now not = by_tests (r == rank) (d == f) (r == r) now not
  where
    by_tests : (a b e : Bool) → (e && b) ≡ true → (a && b) ≡ false → (a && (due == f)) ≡ false
    by_tests false b e now not = refl
    by_tests true true e now not = absurd (false≢true (sym not))
    by_tests true false true now not = absurd (false≢true now)
    by_tests true false false now not = absurd (false≢true now)

abbrev IsIdle : ℕ → ℕ → State → Type 0
IsIdle rank f x = is_on_and (λ c. hosts_in rank f c.tune) x ≡ false

opens : (q : Setup) (rank f : ℕ) (part : Part) (c : Core) → IsIdle rank f (StateOn c) → IsIdle rank f (StateOn (opened_slot q f part c).core)
opens q rank f Opening c is = is
opens q rank f (DataSlot owner) c is = is
opens q rank f (Contention i) c is = is
opens q rank f Closing c is = by_test (hosts_now f c) refl
  where
    by_test : (b : Bool) → hosts_now f c ≡ b → IsIdle rank f (StateOn (if b then host_closes q f c else silent c).core)
    by_test true now = other_rank rank f _ c.tune now is
    by_test false now = is

heard : (rank f : ℕ) (part : Part) (b : Bool) (c : Core) → IsIdle rank f (StateOn c) → IsIdle rank f (StateOn (slot_heard f part b c))
heard rank f Opening b c is = is
heard rank f (DataSlot owner) b c is = is
heard rank f (Contention i) b c is = is
heard rank f Closing b c is = is

closes : (q : Setup) (rank f : ℕ) (part : Part) (b : Bool) (c : Core) (o : Option Message) → IsIdle rank f (StateOn c)
    → IsIdle rank f (StateOn (closed_slot q f part b c o).core)
closes q rank f part b c None is = heard rank f part b c is
closes q rank f part b c (Some (ScheduleOf x)) is = by_test (x.gap == 0)
  where
    by_test : (t : Bool) → IsIdle rank f (StateOn (if t then opening_accepted q.id f x c else closing_accepted q.id f x c))
    by_test true = is
    by_test false = refl
closes q rank f part b c (Some (DataOf d)) is = heard rank f part true c is
closes q rank f part b c (Some (RequestOf a)) is = is

-- after the contention slots comes the last
late_closes : (p : Plan) (j : ℕ) → last_slot p ≤ j → part_of p j ≡ Closing
late_closes p j late =
    let long : length p.owners < j = omega (arith, late) in
    cond-false (j == 0) Opening _ (ne_eqb j 0 (λ is. absurd (omega (arith, is, long))))
    ∙ cond-false (nat_le j (length p.owners)) (DataSlot _) _ (lt-leb j (length p.owners) long)
    ∙ cond-false (nat_lt j (last_slot p)) (Contention _) Closing (le-ltb j (last_slot p) late)

module _ (s : ScenarioParts) (rank f : ℕ) (p : Plan) (led : round_plan s rank f (state_at s f) ≡ Some p) (j v : ℕ)
    (known : has (ids s.nodes) v ≡ true) (c : Core) (at : before_slot s rank f p (state_at s f) j v ≡ StateOn c)
    (plain : is_schedule_part (part_of p j) ≡ false) (due : hosts_in rank f c.tune ≡ true) where
  early : j < last_slot p
  early = elim (cases_lt j (last_slot p)) [
    | inl less ↦ less
    | inr late ↦ absurd (false≢true (sym plain ∙ ap is_schedule_part (late_closes p j late)))
  ]

  idle : IsIdle rank f (state_at s f v) → IsIdle rank f (StateOn c)
  idle is = subst (IsIdle rank f) at
      (slots_keep s f (λ w x. w ≡ v → IsIdle rank f x) (λ m. Unit {0})
      (λ w part d is same. opens (setup_of s w) rank f part d (is same))
      (λ w part d m is said. tt)
      (λ w part b d o told is same. closes (setup_of s w) rank f part b d o (is same)) rank p (state_at s f)
      (λ w same. subst (λ (u : ℕ). IsIdle rank f (state_at s f u)) (sym same) is) j v refl)

  pub room_before : length c.kept < slots_named s.profile.contend
  room_before = by_start (is_on_and (λ d. hosts_in rank f d.tune) (state_at s f v)) refl
    where
      of_lead : Hosting rank f p (before_slot s rank f p (state_at s f) j v) → (b : Bool) → is_on_and (λ d. hosts_in rank f d.tune) (state_at s f v) ≡ true
          → length c.kept < slots_named s.profile.contend
      of_lead lead b first =
          let few = room s rank f p v (record { known = known; due = first; plan = led }) j early lead in
          let same : StateOn c ≡ StateOn lead.core = sym at ∙ lead.on in
          subst (λ (d : Core). length d.kept < slots_named s.profile.contend) (let is : lead.core ≡ c = cc in is) few

      by_start : (b : Bool) → is_on_and (λ d. hosts_in rank f d.tune) (state_at s f v) ≡ b → length c.kept < slots_named s.profile.contend
      by_start true first =
          of_lead (leads s rank f p v (record { known = known; due = first; plan = led }) j (omega (arith, early))) true first
      by_start false first = absurd (false≢true (sym (idle first) ∙ due))
