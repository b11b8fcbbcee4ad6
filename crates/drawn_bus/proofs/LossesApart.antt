-- The losses of floods are no two the same, and none is a line of the scenario already.
use Rattle.std.proofs.Common.{◌≡◌, ◌≢◌, ℕ, ◌+◌, ◌<◌, List, [], ◌∷◌, Bool, true, false, not, ◌&&◌, cond, Option, Some, None, All, AllPairs}
use Rattle.std.proofs.Common.{filter, flat_map, is_some, length, map, refl, sym, ◌∙◌, ap, arith}
use Rattle.std.specs.List.{AllByRecursion, list_any, range_with_len}
use Rattle.std.specs.Option.{option_map_or}
use Rattle.std.proofs.lemmas.Bool.{and_parts, false≢true}
use Rattle.std.proofs.lemmas.List.Elements.{All-from_recursion}
use Rattle.lwb_base.specs.Messages.{Plan}
use Rattle.link_trace.specs.declared.lines.LoseLine.{LoseLine}
use Rattle.link_trace.specs.Passes.{Lines, cut_off, is_link, is_loss, passes}
use Rattle.scenario_text.specs.FloodDrafts.{Climbs}
use Rattle.scenario_text.specs.ScenarioFacts.{IsSoundScenario}
use Rattle.scenario_text.specs.ScenarioParts.{ScenarioParts}
use Rattle.bus_rules.specs.Plans.{last_slot}
use Rattle.bus_terms.specs.Bus.{frames_of, ranks_of, state_at}
use Rattle.bus_terms.specs.Flooding.{STEPS, Setting, has, moment}
use Rattle.bus_terms.specs.FloodOfText.{ids}
use Rattle.scenario_text.specs.OverLines.{over}
use Rattle.bus_terms.specs.Rounds.{rank_in, round_plan, slots_of}
use Rattle.bus_terms.proofs.ListsInTurn.{each_of_pieces, in_turn_pairs, pairs_in_turn, pieces_in_turn, range_in_turn}
use Rattle.bus_terms.proofs.ReceivedInRounds.{ids_rise}
use Rattle.drawn_bus.specs.FloodLosses.{is_lost_in, line_at, losses_of_bus, losses_of_flood, losses_of_round}
use Rattle.drawn_bus.specs.KeptLosses.{flood_in_round, flood_over, receives_otherwise}
use Rattle.drawn_bus.proofs.KeptInRanks.{nothing_outside, of_rank}
use Rattle.drawn_bus.proofs.LinesAmong.{each_chosen}

-- what is made of the numbers that a test leaves, in their order
module _ {Y : Type 0} (S : ℕ → ℕ → Type 0) (R : Y → Y → Type 0) (g : ℕ → Y) (q : ℕ → Bool) (across : (i j : ℕ) → S i j → R (g i) (g j)) where
  chosen_before : (i : ℕ) (xs : List ℕ) → AllByRecursion (S i) xs → AllByRecursion (R (g i)) (map g (filter q xs))
  chosen_before i [] before = tt
  chosen_before i (x ∷ xs) before = by_test (q x) (chosen_before i xs before.1)
    where
      by_test : (b : Bool) → AllByRecursion (R (g i)) (map g (filter q xs)) → AllByRecursion (R (g i)) (map g (cond b (x ∷ filter q xs) (filter q xs)))
      by_test true rest = (across i x before.0, rest)
      by_test false rest = rest

  chosen_in_turn : (xs : List ℕ) → Climbs S xs → Climbs R (map g (filter q xs))
  chosen_in_turn [] is = tt
  chosen_in_turn (x ∷ xs) is = by_test (q x) (chosen_in_turn xs is.1)
    where
      by_test : (b : Bool) → Climbs R (map g (filter q xs)) → Climbs R (map g (cond b (x ∷ filter q xs) (filter q xs)))
      by_test true rest = (chosen_before x xs is.0, rest)
      by_test false rest = rest

abbrev Differ : LoseLine → LoseLine → Type 0
Differ a b = a ≢ b

abbrev Before : ℕ → ℕ → Type 0
Before i j = i < j

-- lines that a number tells apart
told_apart : (part : LoseLine → ℕ) (i j : ℕ) → i < j → (a b : LoseLine) → part a ≡ i → part b ≡ j → Differ a b
told_apart part i j less a b first second same = let one = ap part same in omega (arith, less, first, second, one)

module _ (s : ScenarioParts) (t : Lines) where
  abbrev d : ScenarioParts
  d = over s t

  -- the lines of a sender, of a step, of a flood
  abbrev of_sender : ℕ → ℕ → Setting → ℕ → ℕ → List LoseLine
  of_sender f j x k u = map (line_at f j k u) (filter (is_lost_in s.trace f j x k u) (ids s.nodes))

  abbrev of_step : ℕ → ℕ → Setting → ℕ → List LoseLine
  of_step f j x k = flat_map (of_sender f j x k) (ids s.nodes)

  -- what holds of each line that is lost in a flood
  each_lost : (P : LoseLine → Type 0) (f j : ℕ) (x : Setting) → ((k u v : ℕ) → is_lost_in s.trace f j x k u v ≡ true → P (line_at f j k u v))
      → AllByRecursion P (losses_of_flood s.trace f j (ids s.nodes) x)
  each_lost P f j x holds =
      each_of_pieces P (of_step f j x)
      (λ k. each_of_pieces P (of_sender f j x k) (λ u. each_chosen P (line_at f j k u) (is_lost_in s.trace f j x k u) (ids s.nodes) (holds k u)) (ids s.nodes))
      (range_with_len 0 STEPS)

  abbrev of_flood : ℕ → ℕ → Plan → ℕ → List LoseLine
  of_flood rank f p j = losses_of_flood s.trace f j (ids s.nodes) (flood_in_round d rank f p j)

  each_of_round : (P : LoseLine → Type 0) (rank f : ℕ)
      → ((p : Plan) (j k u v : ℕ) → is_lost_in s.trace f j (flood_in_round d rank f p j) k u v ≡ true → P (line_at f j k u v))
      → AllByRecursion P (losses_of_round s d rank f)
  each_of_round P rank f holds = by_plan (round_plan d rank f (state_at d f))
    where
      by_plan : (o : Option Plan) → AllByRecursion P (option_map_or (λ p. flat_map (of_flood rank f p) (slots_of p)) o [])
      by_plan None = tt
      by_plan (Some p) = each_of_pieces P (of_flood rank f p) (λ j. each_lost P f j (flood_in_round d rank f p j) (holds p j)) (slots_of p)

  -- none is a line of the scenario
  abbrev IsNew : LoseLine → Type 0
  IsNew l = list_any (is_loss l.frame l.slot l.step l.from l.to) s.trace.losses ≡ false

  not_lost : (b : Bool) → not b ≡ true → b ≡ false
  not_lost true is = absurd (false≢true is)
  not_lost false is = refl

  lost_is_new : (f j k u v : ℕ) (x : Setting) → is_lost_in s.trace f j x k u v ≡ true → IsNew (line_at f j k u v)
  lost_is_new f j k u v x lost =
      let sends = is_some ((moment x k).sends u) in
      let lines = list_any (is_link u v) s.trace.links in
      let own = not (list_any (is_loss f j k u v) s.trace.losses) in
      let parts = and_parts (sends && (passes s.trace f j k u v && not (x.passes k u v))) (receives_otherwise x (flood_over s.trace f j x) k v) lost in
      let link = and_parts (passes s.trace f j k u v) (not (x.passes k u v)) (and_parts sends (passes s.trace f j k u v && not (x.passes k u v)) parts.0).1 in
      let from = and_parts (lines && own && not (cut_off s.trace.cuts f j k u)) (not (cut_off s.trace.cuts f j k v)) link.0 in
      let ends = and_parts (lines && own) (not (cut_off s.trace.cuts f j k u)) from.0 in
      not_lost (list_any (is_loss f j k u v) s.trace.losses) (and_parts lines own ends.0).1

  pub all_new : All IsNew (losses_of_bus s d)
  all_new =
      All-from_recursion IsNew (losses_of_bus s d)
      (each_of_pieces IsNew (λ f. flat_map (λ rank. losses_of_round s d rank f) (ranks_of s))
      (λ f. each_of_pieces IsNew (λ rank. losses_of_round s d rank f)
      (λ rank. each_of_round IsNew rank f (λ p j k u v. lost_is_new f j k u v (flood_in_round d rank f p j))) (ranks_of s)) (frames_of s))

  -- who receives otherwise is of the rank of the round
  receiver_rank : (rank f : ℕ) (p : Plan) (j k u v : ℕ) → is_lost_in s.trace f j (flood_in_round d rank f p j) k u v ≡ true → rank_in (state_at d f v) ≡ rank
  receiver_rank rank f p j k u v lost = by_part (has (flood_in_round d rank f p j).everyone v) refl
    where
      by_part : (b : Bool) → has (flood_in_round d rank f p j).everyone v ≡ b → rank_in (state_at d f v) ≡ rank
      by_part true there = of_rank d rank f p (state_at d f) j v there
      by_part false outside =
          let y = flood_in_round d rank f p j in
          let parts = and_parts (is_some ((moment y k).sends u) && (passes s.trace f j k u v && not (y.passes k u v)))
          (receives_otherwise y (flood_over s.trace f j y) k v) lost in
          absurd (false≢true (sym (nothing_outside s.trace f j y k v outside) ∙ parts.1))

  -- no two are the same
  module _ (sound : IsSoundScenario s) where
    rise : Climbs Before (ids s.nodes)
    rise = pairs_in_turn Before (ids s.nodes) (ids_rise s.nodes sound.ascending)

    flood_apart : (f j : ℕ) (x : Setting) → Climbs Differ (losses_of_flood s.trace f j (ids s.nodes) x)
    flood_apart f j x =
        pieces_in_turn Before Differ (λ k l. l.step ≡ k) (of_step f j x)
        (λ k. each_of_pieces (λ l. l.step ≡ k) (of_sender f j x k)
        (λ u. each_chosen (λ l. l.step ≡ k) (line_at f j k u) (is_lost_in s.trace f j x k u) (ids s.nodes) (λ v lost. refl)) (ids s.nodes))
        (λ k. pieces_in_turn Before Differ (λ u l. l.from ≡ u) (of_sender f j x k)
        (λ u. each_chosen (λ l. l.from ≡ u) (line_at f j k u) (is_lost_in s.trace f j x k u) (ids s.nodes) (λ v lost. refl))
        (λ u. chosen_in_turn Before Differ (line_at f j k u) (is_lost_in s.trace f j x k u)
        (λ v w less. told_apart (λ l. l.to) v w less (line_at f j k u v) (line_at f j k u w) refl refl) (ids s.nodes) rise)
        (told_apart (λ l. l.from)) (ids s.nodes) rise)
        (told_apart (λ l. l.step)) (range_with_len 0 STEPS) (range_in_turn 0 STEPS)

    round_apart : (rank f : ℕ) → Climbs Differ (losses_of_round s d rank f)
    round_apart rank f = by_plan (round_plan d rank f (state_at d f))
      where
        by_plan : (o : Option Plan) → Climbs Differ (option_map_or (λ p. flat_map (of_flood rank f p) (slots_of p)) o [])
        by_plan None = tt
        by_plan (Some p) =
            pieces_in_turn Before Differ (λ j l. l.slot ≡ j) (of_flood rank f p)
            (λ j. each_lost (λ l. l.slot ≡ j) f j (flood_in_round d rank f p j) (λ k u v lost. refl))
            (λ j. flood_apart f j (flood_in_round d rank f p j)) (told_apart (λ l. l.slot)) (slots_of p) (range_in_turn 0 (last_slot p + 1))

    pub all_apart : AllPairs Differ (losses_of_bus s d)
    all_apart =
        in_turn_pairs Differ (losses_of_bus s d)
        (pieces_in_turn Before Differ (λ f l. l.frame ≡ f) (λ f. flat_map (λ rank. losses_of_round s d rank f) (ranks_of s))
        (λ f. each_of_pieces (λ l. l.frame ≡ f) (λ rank. losses_of_round s d rank f)
        (λ rank. each_of_round (λ l. l.frame ≡ f) rank f (λ p j k u v lost. refl)) (ranks_of s))
        (λ f. pieces_in_turn Before Differ (λ rank l. rank_in (state_at d f l.to) ≡ rank) (λ rank. losses_of_round s d rank f)
        (λ rank. each_of_round (λ l. rank_in (state_at d f l.to) ≡ rank) rank f (receiver_rank rank f))
        (λ rank. round_apart rank f) (told_apart (λ l. rank_in (state_at d f l.to))) (ranks_of s) (range_in_turn 0 (length s.hosts)))
        (told_apart (λ l. l.frame)) (frames_of s) (range_in_turn 0 s.frames))
