-- The losses of floods are lines that a scenario may have.
use Rattle.std.proofs.Common.{◌≡◌, ℕ, ◌+◌, ◌<◌, ◌≤◌, ◌==◌, List, [], ◌∷◌, Bool, true, false, not, ◌&&◌, if◌then◌else◌, All, Option, Some, None, filter}
use Rattle.std.proofs.Common.{flat_map, is_some, length, map, inl, inr, refl, ap, subst, arith}
use Rattle.std.specs.List.{AllByRecursion, list_any}
use Rattle.std.specs.Option.{option_map_or}
use Rattle.std.proofs.lemmas.Bool.{and_parts, eqb-true, false≢true, or_cases}
use Rattle.std.proofs.lemmas.List.Elements.{All-from_recursion, recursion_from_All}
use Rattle.lwb_base.specs.Messages.{Plan, greatest_slot}
use Rattle.lwb_base.specs.Profile.{IsProfile, Numbers}
use Rattle.link_trace.specs.declared.lines.LinkLine.{LinkLine}
use Rattle.link_trace.specs.declared.lines.LoseLine.{LoseLine}
use Rattle.link_trace.specs.Passes.{Lines, cut_off, is_link, is_loss, passes}
use Rattle.scenario_text.specs.ScenarioFacts.{AreEnds, HasSoundLines, IsSoundScenario, IsStepOf}
use Rattle.scenario_text.specs.ScenarioParts.{ScenarioParts}
use Rattle.bus_rules.specs.Plans.{last_slot}
use Rattle.bus_terms.specs.Bus.{ranks_of, state_at}
use Rattle.bus_terms.specs.Flooding.{STEPS, Setting, moment}
use Rattle.bus_terms.specs.FloodOfText.{ids}
use Rattle.scenario_text.specs.OverLines.{over}
use Rattle.bus_terms.specs.Rounds.{round_plan, slots_of}
use Rattle.bus_terms.proofs.ListsInTurn.{each_of_pieces}
use Rattle.bus_terms.proofs.PlansOfRounds.{round_contends}
use Rattle.drawn_bus.specs.FloodLosses.{is_lost_in, line_at, losses_of_bus, losses_of_flood, losses_of_round}
use Rattle.drawn_bus.specs.KeptLosses.{flood_in_round, flood_over, receives_otherwise}
use Rattle.drawn_bus.proofs.FewOwners.{few_owners}
use Rattle.drawn_bus.proofs.LinesAmong.{each_chosen, each_in_range}

-- a link that passes is there
there_if_passes : (t : Lines) (f j k u v : ℕ) → passes t f j k u v ≡ true → list_any (is_link u v) t.links ≡ true
there_if_passes t f j k u v is =
    let from = and_parts (list_any (is_link u v) t.links && not (list_any (is_loss f j k u v) t.losses) && not (cut_off t.cuts f j k u)) _ is in
    let ends = and_parts (list_any (is_link u v) t.links && not (list_any (is_loss f j k u v) t.losses)) _ from.0 in
    (and_parts (list_any (is_link u v) t.links) _ ends.0).0

-- what holds of the ends of each link
ends_of : (P : ℕ → ℕ → Type 0) (links : List LinkLine) → AllByRecursion (λ l. P l.from l.to) links → (u v : ℕ) → list_any (is_link u v) links ≡ true → P u v
ends_of P [] each u v there = absurd (false≢true there)
ends_of P (l ∷ ls) each u v there =
    elim (or_cases (is_link u v l) _ there) [
      | inl here ↦
          (let ends = and_parts (l.from == u) (l.to == v) here in
          subst (P u) (eqb-true l.to v ends.1) (subst (λ (n : ℕ). P n l.to) (eqb-true l.from u ends.0) each.0))
      | inr later ↦ ends_of P ls each.1 u v later
    ]

-- a round of few owners with the contention slots of the profile
slots_fit : (n owners : ℕ) → n ≤ 4 → owners ≤ 40 → owners + (if n == 0 then 1 else n) + 1 ≤ greatest_slot n
slots_fit n owners few fits = by_test (n == 0)
  where
    by_test : (b : Bool) → owners + (if b then 1 else n) + 1 ≤ (if b then 40 + 2 else 40 + 5)
    by_test true = omega (arith, fits)
    by_test false = omega (arith, fits, few)

pub plan_fits : (p : Plan) (n : ℕ) → p.contend ≡ n → n ≤ 4 → length p.owners ≤ 40 → last_slot p ≤ greatest_slot n
plan_fits p n is few fits =
    subst (λ (c : ℕ). last_slot p ≤ greatest_slot c) is (slots_fit p.contend (length p.owners) (omega (arith, is, few)) fits)

few_named : (n : Numbers) → IsProfile n → n.contend ≤ 4
few_named n (inl is) = let none = ap (λ (m : Numbers). m.contend) is in omega (arith, none)
few_named n (inr is) = is.1

module _ (s : ScenarioParts) (t : Lines) (sound : IsSoundScenario s) (own : HasSoundLines s) where
  abbrev d : ScenarioParts
  d = over s t

  abbrev IsFit : LoseLine → Type 0
  IsFit l = IsStepOf s l.frame l.slot l.step × AreEnds s.nodes l.from l.to

  lost_fits : (f j k u v : ℕ) (x : Setting) → f < s.frames → j ≤ greatest_slot s.profile.contend → k < STEPS → is_lost_in s.trace f j x k u v ≡ true
      → IsFit (line_at f j k u v)
  lost_fits f j k u v x in_run in_frame in_flood lost =
      let sends = is_some ((moment x k).sends u) in
      let parts = and_parts (sends && (passes s.trace f j k u v && not (x.passes k u v))) (receives_otherwise x (flood_over s.trace f j x) k v) lost in
      let link = and_parts (passes s.trace f j k u v) (not (x.passes k u v)) (and_parts sends (passes s.trace f j k u v && not (x.passes k u v)) parts.0).1 in (
        record { in_run = in_run; in_frame = in_frame; in_slot = omega (arith, in_flood) },
        ends_of (AreEnds s.nodes) s.trace.links (recursion_from_All (λ l. AreEnds s.nodes l.from l.to) s.trace.links own.links) u v
            (there_if_passes s.trace f j k u v link.0),
      )

  pub flood_fits : (f j : ℕ) (x : Setting) → f < s.frames → j ≤ greatest_slot s.profile.contend
      → AllByRecursion IsFit (losses_of_flood s.trace f j (ids s.nodes) x)
  flood_fits f j x in_run in_frame =
      each_in_range IsFit (λ k. flat_map (λ u. map (line_at f j k u) (filter (is_lost_in s.trace f j x k u) (ids s.nodes))) (ids s.nodes)) STEPS 0
      (λ k in_flood. each_of_pieces IsFit (λ u. map (line_at f j k u) (filter (is_lost_in s.trace f j x k u) (ids s.nodes)))
      (λ u. each_chosen IsFit (line_at f j k u) (is_lost_in s.trace f j x k u) (ids s.nodes)
      (λ v lost. lost_fits f j k u v x in_run in_frame (omega (arith, in_flood)) lost)) (ids s.nodes))

  round_fits : (rank f : ℕ) → f < s.frames → AllByRecursion IsFit (losses_of_round s d rank f)
  round_fits rank f in_run = by_plan (round_plan d rank f (state_at d f)) refl
    where
      by_plan : (o : Option Plan) → round_plan d rank f (state_at d f) ≡ o
          → AllByRecursion IsFit
          (option_map_or (λ p. flat_map (λ j. losses_of_flood s.trace f j (ids s.nodes) (flood_in_round d rank f p j)) (slots_of p)) o [])
      by_plan None is = tt
      by_plan (Some p) is =
          let last = plan_fits p s.profile.contend (round_contends d rank f p is) (few_named s.profile sound.profile) (few_owners d rank f p is) in
          each_in_range IsFit (λ j. losses_of_flood s.trace f j (ids s.nodes) (flood_in_round d rank f p j)) (last_slot p + 1) 0
          (λ j slot. flood_fits f j (flood_in_round d rank f p j) in_run (omega (arith, slot, last)))

  pub bus_fits : All IsFit (losses_of_bus s d)
  bus_fits =
      All-from_recursion IsFit (losses_of_bus s d)
      (each_in_range IsFit (λ f. flat_map (λ rank. losses_of_round s d rank f) (ranks_of s)) s.frames 0
      (λ f in_run. each_of_pieces IsFit (λ rank. losses_of_round s d rank f) (λ rank. round_fits rank f (omega (arith, in_run))) (ranks_of s)))
