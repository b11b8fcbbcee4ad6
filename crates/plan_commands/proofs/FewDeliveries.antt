-- A run of the bus delivers fewer than 2^32 packets, each node at most one in each slot, and a script puts fewer.
use Rattle.std.proofs.Common.{◌≡◌, ◌==◌, ℕ, suc, ◌+◌, ◌*◌, ◌^◌, ◌<◌, ◌≤◌, List, [], ◌∷◌, Bool, true, false, if◌then◌else◌, Option, Some, None}
use Rattle.std.proofs.Common.{filter_map, flat_map, length, inl, inr, refl, ap, arith}
use Rattle.std.specs.List.{cons_option, enumerate_from}
use Rattle.std.specs.Option.{option_map_or}
use Rattle.std.proofs.Math.Nat.{suc-mul}
use Rattle.std.proofs.lemmas.List.{length-append, length-map}
use Rattle.std.proofs.lemmas.List.FromFn.{length-enumerate_from, length-range_with_len}
use Rattle.lwb_base.specs.declared.limits.TheConstants.{MOST_NODES}
use Rattle.lwb_base.specs.Messages.{Plan}
use Rattle.lwb_base.specs.Profile.{IsProfile, Numbers}
use Rattle.scenario_text.specs.ScenarioParts.{ScenarioParts}
use Rattle.scenario_text.specs.declared.lines.NodeLine.{NodeLine}
use Rattle.scenario_text.proofs.OrderedParts.{in_order_said}
use Rattle.scenario_text.proofs.SoundScenarios.{sound}
use Rattle.bus_rules.specs.Plans.{last_slot}
use Rattle.bus_terms.specs.Bus.{bus_deliveries, frames_of, ranks_of, state_at}
use Rattle.bus_terms.specs.Fates.{bus_fates, fate_at}
use Rattle.bus_terms.specs.FloodOfText.{ids}
use Rattle.scenario_text.specs.OverLines.{IsOverScenario, over}
use Rattle.bus_terms.specs.Rounds.{delivery_in_slot, round_deliveries, round_plan, slot_deliveries, slots_of}
use Rattle.bus_terms.proofs.PlansOfRounds.{round_contends}
use Rattle.drawn_bus.proofs.FewOwners.{few_owners}

few_in_pieces : {X A : Type 0} (most : ℕ) (f : X → List A) → ((x : X) → length (f x) ≤ most) → (xs : List X) → length (flat_map f xs) ≤ length xs * most
few_in_pieces most f few [] = omega arith
few_in_pieces most f few (x ∷ xs) =
    let rest = few_in_pieces most f few xs in
    let here = few x in
    let size = length-append (f x) (flat_map f xs) in
    let more = suc-mul (length xs) most in
    omega (arith, rest, here, size, more)

few_given : {X Y : Type 0} (g : X → Option Y) (xs : List X) → length (filter_map g xs) ≤ length xs
few_given g [] = omega arith
few_given {X} {Y} g (x ∷ xs) = by_given (g x) (few_given g xs)
  where
    by_given : (o : Option Y) → length (filter_map g xs) ≤ length xs → length (cons_option o (filter_map g xs)) ≤ suc (length xs)
    by_given None few = omega (arith, few)
    by_given (Some y) few = omega (arith, few)

few_slots : (n : Numbers) (p : Plan) → IsProfile n → p.contend ≡ n.contend → length p.owners ≤ 40 → last_slot p ≤ 45
few_slots n p named is few =
    let contends : p.contend ≤ 4 = elim named [
      | inl one ↦ (let none = ap (λ (m : Numbers). m.contend) one in omega (arith, none, is))
      | inr other ↦ (let most = other.1 in omega (arith, most, is))
    ] in
    omega (arith, few, by_test (p.contend == 0) p.contend contends)
  where
    by_test : (b : Bool) (m : ℕ) → m ≤ 4 → (if b then 1 else m) ≤ 4
    by_test true m most = omega arith
    by_test false m most = most

module _ (s : ScenarioParts) (said : IsOverScenario s) where
  in_slot : (rank f : ℕ) (p : Plan) (j : ℕ) → length (slot_deliveries s rank f p (state_at s f) j) ≤ MOST_NODES
  in_slot rank f p j =
      let nodes = (sound (over s said.0) said.1).few_nodes in
      let named = length-map s.nodes (λ (n : NodeLine). n.node) in
      let each = few_given (delivery_in_slot s rank f p (state_at s f) j) (ids s.nodes) in
      omega (arith, nodes, named, each)

  in_round : (f rank : ℕ) → length (round_deliveries s rank f (state_at s f)) ≤ 2944
  in_round f rank = by_plan (round_plan s rank f (state_at s f)) refl
    where
      by_plan : (o : Option Plan) → round_plan s rank f (state_at s f) ≡ o
          → length (option_map_or (λ p. flat_map (slot_deliveries s rank f p (state_at s f)) (slots_of p)) o []) ≤ 2944
      by_plan None is = omega arith
      by_plan (Some p) is =
          let profile = (sound (over s said.0) said.1).profile in
          let last = few_slots s.profile p profile (round_contends s rank f p is) (few_owners s rank f p is) in
          let slots = length-range_with_len 0 (last_slot p + 1) in
          let all = few_in_pieces 64 (slot_deliveries s rank f p (state_at s f)) (in_slot rank f p) (slots_of p) in
          omega (arith, last, slots, all)

  in_frame : (f : ℕ) → length (flat_map (λ rank. round_deliveries s rank f (state_at s f)) (ranks_of s)) ≤ 11776
  in_frame f =
      let hosts = (sound (over s said.0) said.1).few_hosts in
      let ranks = length-range_with_len 0 (length s.hosts) in
      let all = few_in_pieces 2944 (λ rank. round_deliveries s rank f (state_at s f)) (in_round f) (ranks_of s) in
      omega (arith, hosts, ranks, all)

  pub few_deliveries : length (bus_deliveries s) < 2 ^ 32
  few_deliveries =
      let most = (sound (over s said.0) said.1).few_frames in
      let frames = length-range_with_len 0 s.frames in
      let all = few_in_pieces 11776 (λ f. flat_map (λ rank. round_deliveries s rank f (state_at s f)) (ranks_of s)) in_frame (frames_of s) in
      omega (arith, most, frames, all)

  pub few_fates : length (bus_fates s) < 2 ^ 32
  few_fates =
      let lines = (in_order_said (over s said.0) said.1).few_lines in
      let places = length-enumerate_from 0 s.script in
      let each = few_given (fate_at s) (enumerate_from 0 s.script) in
      omega (arith, lines, places, each)
