-- The losses of all floods of the drawn bus are those that are kept.
use Rattle.std.proofs.Common.{◌≡◌, ℕ, zero, suc, ◌+◌, ◌<◌, ◌≤◌, List, [], Bool, true, false, not, ◌&&◌, ◌||◌, Option, Some, None, if◌then◌else◌}
use Rattle.std.proofs.Common.{filter, flat_map, is_some, length, map, nat_le, nat_lt, refl, sym, ◌∙◌, ap, arith}
use Rattle.std.specs.List.{AllByRecursion, list_any, range_with_len}
use Rattle.std.specs.Option.{option_map_or}
use Rattle.std.proofs.lemmas.List.Folds.{list_any-append}
use Rattle.std.proofs.lemmas.Bool.{and_from, and_parts, false≢true, le-leb, leb-true, ltb-true}
use Rattle.lwb_base.specs.Messages.{Plan}
use Rattle.link_trace.specs.declared.lines.LoseLine.{LoseLine}
use Rattle.link_trace.specs.Passes.{Lines, is_link, is_loss, passes}
use Rattle.scenario_text.specs.ScenarioParts.{ScenarioParts}
use Rattle.bus_rules.specs.Plans.{last_slot}
use Rattle.bus_rules.specs.Slots.{part_of}
use Rattle.bus_terms.specs.Bus.{frames_of, ranks_of, state_at}
use Rattle.bus_terms.specs.Flooding.{STEPS, Setting, has, hears, moment}
use Rattle.bus_terms.specs.FloodOfText.{ids}
use Rattle.scenario_text.specs.OverLines.{over}
use Rattle.bus_terms.specs.Rounds.{before_slot, message_said, round_plan, slot_at, slots_of, takes_part}
use Rattle.bus_terms.proofs.ListsInTurn.{each_of_pieces}
use Rattle.bus_terms.proofs.ReceivedByPaths.{in_whole}
use Rattle.drawn_links.specs.DrawnLosses.{SLOTS, drawn_losses, is_drawn}
use Rattle.drawn_links.specs.Drawings.{has_coins}
use Rattle.drawn_links.specs.declared.ratio_line.RatioLine.{RatioLine}
use Rattle.drawn_links.proofs.DrawnPasses.{among_drawn}
use Rattle.drawn_bus.specs.DrawnScenarios.{AreSameOnBus, drawn_scenario}
use Rattle.drawn_bus.specs.FloodLosses.{is_lost_in, line_at, losses_of_bus, losses_of_flood, losses_of_round}
use Rattle.drawn_bus.specs.KeptLosses.{AddsLosses, changes_reception, flood_in_round, flood_over, is_kept, kept_losses, receives_otherwise}
use Rattle.drawn_bus.proofs.FloodsAlike.{hears_nothing}
use Rattle.drawn_bus.proofs.KeptFloods.{kept_same_bus, with_losses}
use Rattle.drawn_bus.proofs.KeptInRanks.{changes_in, nothing_outside}
use Rattle.drawn_bus.proofs.LinesAmong.{HasLine, any_chosen, any_in_range, any_joined, each_chosen, each_holds, each_in_range, in_range_passes, is_itself}
use Rattle.drawn_bus.proofs.LinesAmong.{passes_among, same_tests}
use Rattle.drawn_bus.proofs.LinesWithLosses.{left_by_test, passes_fewer}

-- who sends takes part
module _ (x : Setting) (known : ℕ → Bool) (initiates : (v : ℕ) → has x.initiators v ≡ true → known v ≡ true)
    (listens : (v : ℕ) → has x.everyone v ≡ true → known v ≡ true) where
  sends_at_first : (v : ℕ) (b : Bool) → has x.initiators v ≡ b → is_some (if b then Some v else None) ≡ true → known v ≡ true
  sends_at_first v true is sends = initiates v is
  sends_at_first v false is sends = absurd (false≢true sends)

  relays : (k v : ℕ) (c b : Bool) → has x.everyone v ≡ b → is_some (if c then hears x (moment x k) k v else None) ≡ true → known v ≡ true
  relays k v false b is sends = absurd (false≢true sends)
  relays k v true true is sends = listens v is
  relays k v true false is sends = absurd (false≢true (sym (ap (λ (o : Option ℕ). is_some o) (hears_nothing x (moment x k) k v is)) ∙ sends))

  sender_known : (k v : ℕ) → is_some ((moment x k).sends v) ≡ true → known v ≡ true
  unfolding moment
  sender_known zero v sends = sends_at_first v (has x.initiators v) refl sends
  sender_known (suc k) v sends = relays k v (nat_lt (k + 1) STEPS) (has x.everyone v) refl sends

lost_if : (before now lost : Bool) → now ≡ (before && not lost) → before ≡ true → not now ≡ true → lost ≡ true
lost_if before now true is passes not_now = refl
lost_if before now false is passes not_now = absurd (false≢true (sym (ap not (is ∙ ap (λ (b : Bool). b && true) passes)) ∙ not_now))

not_if : (before now lost : Bool) → now ≡ (before && not lost) → lost ≡ true → not now ≡ true
not_if before now false is loses = absurd (false≢true loses)
not_if true now true is loses = ap not is
not_if false now true is loses = ap not is

module _ (s : ScenarioParts) (more : List LoseLine) where
  abbrev d : ScenarioParts
  d = over s (with_losses s.trace more)

  abbrev kept : List LoseLine
  kept = filter (is_kept s d) more

  -- which links pass in a flood
  link_in : (f j k u v : ℕ) → passes d.trace f j k u v ≡ (passes s.trace f j k u v && not (list_any (is_loss f j k u v) more))
  link_in = passes_fewer s.trace d.trace more (record { links_stay = refl; cuts_stay = refl; captures_stay = refl; same_losses = λ test. refl })

  -- what is lost in a flood is kept
  module _ (rank f : ℕ) (p : Plan) (j : ℕ) (below : rank < length s.hosts) (is : round_plan d rank f (state_at d f) ≡ Some p) (within : j ≤ last_slot p) where
    abbrev x : Setting
    x = flood_in_round d rank f p j

    abbrev sends : ℕ → ℕ → Bool
    sends k u = is_some ((moment x k).sends u)

    abbrev otherwise : ℕ → ℕ → Bool
    otherwise k v = receives_otherwise x (flood_over s.trace f j x) k v

    lost_is_kept : (k u v : ℕ) → is_lost_in s.trace f j x k u v ≡ true → HasLine kept (line_at f j k u v)
    lost_is_kept k u v lost =
        let parts = and_parts (sends k u && (passes s.trace f j k u v && not (x.passes k u v))) (otherwise k v) lost in
        let sent = and_parts (sends k u) (passes s.trace f j k u v && not (x.passes k u v)) parts.0 in
        let link = and_parts (passes s.trace f j k u v) (not (x.passes k u v)) sent.1 in
        let there = lost_if (passes s.trace f j k u v) (x.passes k u v) (list_any (is_loss f j k u v) more) (link_in f j k u v) link.0 link.1 in
        let changes : changes_reception s d (line_at f j k u v) rank ≡ true =
        ap (λ (o : Option Plan). option_map_or (changes_in s d f j k u v rank) o false) is
        ∙ and_from (nat_le j (last_slot p) && sends k u) (otherwise k v)
        (and_from (nat_le j (last_slot p)) (sends k u) (le-leb j (last_slot p) within) sent.0) parts.1 in
        left_by_test (is_kept s d) f j k u v more
        ∙ and_from (list_any (is_loss f j k u v) more) (is_kept s d (line_at f j k u v)) there
        (and_from (passes s.trace f j k u v) _ link.0
        (in_range_passes (changes_reception s d (line_at f j k u v)) (length s.hosts) rank below changes))

    flood_kept : AllByRecursion (HasLine kept) (losses_of_flood s.trace f j (ids s.nodes) x)
    flood_kept =
        each_of_pieces (HasLine kept) (λ k. flat_map (λ u. map (line_at f j k u) (filter (is_lost_in s.trace f j x k u) (ids s.nodes))) (ids s.nodes))
        (λ k. each_of_pieces (HasLine kept) (λ u. map (line_at f j k u) (filter (is_lost_in s.trace f j x k u) (ids s.nodes)))
        (λ u. each_chosen (HasLine kept) (line_at f j k u) (is_lost_in s.trace f j x k u) (ids s.nodes) (lost_is_kept k u)) (ids s.nodes))
        (range_with_len 0 STEPS)

    -- and what is kept by a change in the flood is lost in it
    everyone_known : (v : ℕ) → has x.everyone v ≡ true → has (ids s.nodes) v ≡ true
    everyone_known v =
        in_whole
        (λ u. takes_part rank (part_of p j) (before_slot d rank f p (state_at d f) j u) ((slot_at d rank f p (state_at d f) j).window u)) (ids s.nodes) v

    initiators_known : (v : ℕ) → has x.initiators v ≡ true → has (ids s.nodes) v ≡ true
    initiators_known v = in_whole (λ u. is_some (message_said ((slot_at d rank f p (state_at d f) j).window u))) (ids s.nodes) v

    changed_known : (k v : ℕ) → otherwise k v ≡ true → has (ids s.nodes) v ≡ true
    changed_known k v changed = by_part (has x.everyone v) refl
      where
        by_part : (b : Bool) → has x.everyone v ≡ b → has (ids s.nodes) v ≡ true
        by_part true there = everyone_known v there
        by_part false outside = absurd (false≢true (sym (nothing_outside s.trace f j x k v outside) ∙ changed))

    kept_is_lost : (k u v : ℕ) → k < STEPS → passes s.trace f j k u v ≡ true → list_any (is_loss f j k u v) more ≡ true → sends k u ≡ true
        → otherwise k v ≡ true
        → HasLine (losses_of_flood s.trace f j (ids s.nodes) x) (line_at f j k u v)
    kept_is_lost k u v in_flood link there sent changed =
        let named : LoseLine → Bool = is_loss f j k u v in
        let lost : is_lost_in s.trace f j x k u v ≡ true =
        and_from (sends k u && (passes s.trace f j k u v && not (x.passes k u v))) (otherwise k v)
        (and_from (sends k u) (passes s.trace f j k u v && not (x.passes k u v)) sent
        (and_from (passes s.trace f j k u v) (not (x.passes k u v)) link
        (not_if (passes s.trace f j k u v) (x.passes k u v) (list_any named more) (link_in f j k u v) there))) changed in
        any_in_range named (λ i. flat_map (λ w. map (line_at f j i w) (filter (is_lost_in s.trace f j x i w) (ids s.nodes))) (ids s.nodes)) STEPS k in_flood
        (any_joined named (λ w. map (line_at f j k w) (filter (is_lost_in s.trace f j x k w) (ids s.nodes))) (ids s.nodes) u
        (sender_known x (has (ids s.nodes)) initiators_known everyone_known k u sent)
        (any_chosen named (line_at f j k u) (is_lost_in s.trace f j x k u) (ids s.nodes) v (changed_known k v changed) lost (is_itself (line_at f j k u v))))

  -- so it is for rounds
  abbrev flood_losses : ℕ → ℕ → Plan → ℕ → List LoseLine
  flood_losses rank f p j = losses_of_flood s.trace f j (ids s.nodes) (flood_in_round d rank f p j)

  round_kept : (rank f : ℕ) → rank < length s.hosts → AllByRecursion (HasLine kept) (losses_of_round s d rank f)
  round_kept rank f below = by_plan (round_plan d rank f (state_at d f)) refl
    where
      by_plan : (o : Option Plan) → round_plan d rank f (state_at d f) ≡ o
          → AllByRecursion (HasLine kept) (option_map_or (λ p. flat_map (flood_losses rank f p) (slots_of p)) o [])
      by_plan None is = tt
      by_plan (Some p) is =
          each_in_range (HasLine kept) (flood_losses rank f p) (last_slot p + 1) 0 (λ j slot. flood_kept rank f p j below is (omega (arith, slot)))

  all_kept : (l : LoseLine) → HasLine (losses_of_bus s d) l → HasLine kept l
  all_kept =
      each_holds (HasLine kept) (losses_of_bus s d)
      (each_of_pieces (HasLine kept) (λ f. flat_map (λ rank. losses_of_round s d rank f) (ranks_of s))
      (λ f. each_in_range (HasLine kept) (λ rank. losses_of_round s d rank f) (length s.hosts) 0 (λ rank below. round_kept rank f (omega (arith, below))))
      (frames_of s))

  in_round : (rank f j k u v : ℕ) → k < STEPS → passes s.trace f j k u v ≡ true → list_any (is_loss f j k u v) more ≡ true
      → rank < length s.hosts → changes_reception s d (line_at f j k u v) rank ≡ true → HasLine (losses_of_round s d rank f) (line_at f j k u v)
  in_round rank f j k u v in_flood link there below changes = by_plan (round_plan d rank f (state_at d f)) refl changes
    where
      by_plan : (o : Option Plan) → round_plan d rank f (state_at d f) ≡ o → option_map_or (changes_in s d f j k u v rank) o false ≡ true
          → HasLine (option_map_or (λ p. flat_map (flood_losses rank f p) (slots_of p)) o []) (line_at f j k u v)
      by_plan None is none = absurd (false≢true none)
      by_plan (Some p) is changed =
          let y = flood_in_round d rank f p j in
          let parts = and_parts (nat_le j (last_slot p) && is_some ((moment y k).sends u)) (receives_otherwise y (flood_over s.trace f j y) k v) changed in
          let sent = and_parts (nat_le j (last_slot p)) (is_some ((moment y k).sends u)) parts.0 in
          let within = leb-true j (last_slot p) sent.0 in
          any_in_range (is_loss f j k u v) (flood_losses rank f p) (last_slot p + 1) j (omega (arith, within))
          (kept_is_lost rank f p j below is within k u v in_flood link there sent.1 parts.1)

  in_bus : (f j k u v : ℕ) → f < s.frames → k < STEPS → HasLine kept (line_at f j k u v) → HasLine (losses_of_bus s d) (line_at f j k u v)
  in_bus f j k u v in_run in_flood has_line =
      let both = and_parts (list_any (is_loss f j k u v) more) (is_kept s d (line_at f j k u v)) (sym (left_by_test (is_kept s d) f j k u v more) ∙ has_line) in
      let keeps = and_parts (passes s.trace f j k u v) (list_any (changes_reception s d (line_at f j k u v)) (ranks_of s)) both.1 in
      let w = passes_among (changes_reception s d (line_at f j k u v)) (length s.hosts) 0 keeps.1 in
      any_in_range (is_loss f j k u v) (λ g. flat_map (λ rank. losses_of_round s d rank g) (ranks_of s)) s.frames f in_run
      (any_in_range (is_loss f j k u v) (λ rank. losses_of_round s d rank f) (length s.hosts) w.0 (omega (arith, w.1))
      (in_round w.0 f j k u v in_flood keeps.0 both.0 (omega (arith, w.1)) w.2))

-- and those that are drawn are of the frames and steps of the run
pub collected : (s : ScenarioParts) (ratios : List RatioLine) (seed : ℕ) (test : LoseLine → Bool)
    → list_any test (losses_of_bus s (drawn_scenario s ratios seed)) ≡ list_any test (kept_losses s ratios seed)
collected s ratios seed =
    same_tests (losses_of_bus s (drawn_scenario s ratios seed)) (kept_losses s ratios seed) (all_kept s (drawn_losses s.trace.links ratios seed s.frames)) from
  where
    from : (l : LoseLine) → HasLine (kept_losses s ratios seed) l → HasLine (losses_of_bus s (drawn_scenario s ratios seed)) l
    from l there =
        let lines = drawn_losses s.trace.links ratios seed s.frames in
        let both = and_parts (list_any (is_loss l.frame l.slot l.step l.from l.to) lines) (is_kept s (drawn_scenario s ratios seed) l)
        (sym (left_by_test (is_kept s (drawn_scenario s ratios seed)) l.frame l.slot l.step l.from l.to lines) ∙ there) in
        let drawn = sym (among_drawn ratios seed l.frame l.slot l.step l.from l.to s.trace.links s.frames) ∙ both.0 in
        let coins = and_parts (has_coins s.frames l.frame l.slot l.step) (is_drawn ratios seed l.frame l.slot l.step l.from l.to)
        (and_parts (list_any (is_link l.from l.to) s.trace.links) _ drawn).1 in
        let frame = and_parts (nat_lt l.frame s.frames) (nat_lt l.slot SLOTS && nat_lt l.step STEPS) coins.0 in
        let step = and_parts (nat_lt l.slot SLOTS) (nat_lt l.step STEPS) frame.1 in
        in_bus s lines l.frame l.slot l.step l.from l.to (ltb-true l.frame s.frames frame.0) (ltb-true l.step STEPS step.1) there

-- so lines that have them have the kept ones
pub with_collected : (s : ScenarioParts) (ratios : List RatioLine) (seed : ℕ) (t : Lines)
    → AddsLosses s.trace t (losses_of_bus s (drawn_scenario s ratios seed)) → AddsLosses s.trace t (kept_losses s ratios seed)
with_collected s ratios seed t adds = record {
  links_stay = adds.links_stay;
  cuts_stay = adds.cuts_stay;
  captures_stay = adds.captures_stay;
  same_losses = λ test. adds.same_losses test ∙ list_any-append test s.trace.losses (losses_of_bus s (drawn_scenario s ratios seed))
      ∙ ap (λ (b : Bool). list_any test s.trace.losses || b) (collected s ratios seed test)
      ∙ sym (list_any-append test s.trace.losses (kept_losses s ratios seed));
}

-- which are enough
pub collected_enough : (s : ScenarioParts) (ratios : List RatioLine) (seed : ℕ) (t : Lines) → 1 ≤ length s.hosts
    → AddsLosses s.trace t (losses_of_bus s (drawn_scenario s ratios seed)) → AreSameOnBus (over s t) (drawn_scenario s ratios seed)
collected_enough s ratios seed t some_hosts adds =
    kept_same_bus s some_hosts (drawn_losses s.trace.links ratios seed s.frames) t (with_collected s ratios seed t adds)
