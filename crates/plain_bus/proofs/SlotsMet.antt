-- What is after the flood of a slot, as the code has it.
use Rattle.std.proofs.Common.{◌≡◌, ◌<◌, ◌+◌, ◌++◌, [], ◌∷◌, ℕ, is_some, List, true, length, map, take, drop, get_or, refl, sym}
use Rattle.std.proofs.Common.{◌∙◌, ap, subst, arith, append-nil}
use Rattle.std.specs.List.{AllPairs}
use Rattle.std.proofs.lemmas.List.{take_all, take_more, drop_all, length-map}
use Rattle.lwb_base.specs.Messages.{Plan}
use Rattle.scenario_text.specs.ScenarioParts.{ScenarioParts}
use Rattle.scenario_text.specs.declared.lines.NodeLine.{NodeLine}
use Rattle.bus_rules.specs.Slots.{part_of}
use Rattle.bus_rules.specs.States.{State}
use Rattle.bus_terms.specs.FloodOfText.{ids}
use Rattle.scenario_text.specs.OverLines.{IsOverScenario}
use Rattle.bus_terms.specs.Flooding.{Setting, moment, has, STEPS}
use Rattle.bus_terms.specs.Rounds.{message_said, slot_at, opened_at, before_slot}
use Rattle.bus_terms.proofs.ReceivedByPaths.{in_whole}
use Rattle.bus_terms.proofs.ReceivedInRounds.{ids_rise}
use Rattle.plain_bus.specs.Closings.{IsBehind}
use Rattle.plain_bus.specs.FloodMasks.{station_at}
use Rattle.plain_bus.specs.SlotFloods.{seen_window}
use Rattle.plain_bus.specs.declared.station.Station.{Station}
use Rattle.plain_bus.specs.declared.window.Window.{Window}
use Rattle.bus_terms.proofs.HeardOrigins.{first_origin}
use Rattle.plain_bus.proofs.ListsInPlace.{map_more}
use Rattle.plain_bus.proofs.MembersOfSlots.{map_of_map}
use Rattle.plain_bus.proofs.SlotsRun.{behind, window_seen}
use Rattle.plain_bus.proofs.SoundOver.{sound_over}

-- a slice of a vector that was changed and put back
pub put_back : {X : Type 0} (n : ℕ) (new old : List X) → length old ≡ n → length new ≡ length old → take n (new ++ drop (length new) old) ≡ new
put_back n new old size same =
    ap (λ (l : List _). take n (new ++ l)) (drop_all (length new) old (omega (arith, same)))
    ∙ ap (take n) (append-nil new) ∙ take_all n new (omega (arith, same, size))

-- the ids of a scenario ascend, over any lines
pub ids_ascend : (s : ScenarioParts) → IsOverScenario s → (is : List ℕ) → is ≡ ids s.nodes → AllPairs (λ a b. a < b) is
ids_ascend s said is same = subst (λ (l : List ℕ). AllPairs (λ a b. a < b) l) (sym same) (ids_rise s.nodes (sound_over s said).ascending)

pub ids_each : (s : ScenarioParts) → length (ids s.nodes) ≡ length s.nodes
ids_each s = length-map s.nodes (λ (n : NodeLine). n.node)

pub ids_more : (ls : List NodeLine) (i : ℕ) (l : NodeLine) → i < length ls → l ≡ get_or ls i l → ids (take (i + 1) ls) ≡ ids (take i ls) ++ l.node ∷ []
ids_more ls i l below at =
    ap ids (take_more ls i l below ∙ ap (λ (y : NodeLine). take i ls ++ y ∷ []) (sym at)) ∙ map_more (λ (n : NodeLine). n.node) (take i ls) l

module _ (s : ScenarioParts) (rank f : ℕ) (p : Plan) (start others : ℕ → State) (j : ℕ) where
  abbrev flood : Setting
  flood = (slot_at s rank f p start j).flood

  pub behind_slot : (ws : List Window) (xs : List Station) → ((v : ℕ) → has flood.initiators v ≡ true → has flood.everyone v ≡ true)
      → map seen_window ws ≡ map (window_seen s rank f p start others j) (ids s.nodes) → xs ≡ map (station_at (moment flood STEPS)) (ids s.nodes)
      → IsBehind (behind s rank f p start others j) (ids s.nodes) ws xs
  behind_slot ws xs inside windows are = record {
    windows = windows;
    ids = ap (map (λ (x : Station). x.node)) are ∙ sym (map_of_map (λ (x : Station). x.node) (station_at (moment flood STEPS)) (ids s.nodes))
        ∙ same_list (ids s.nodes);
    firsts = ap (map (λ (x : Station). x.heard)) are ∙ sym (map_of_map (λ (x : Station). x.heard) (station_at (moment flood STEPS)) (ids s.nodes));
    here = λ v o k is. in_whole (λ u. is_some (message_said (opened_at s rank f (part_of p j) u (before_slot s rank f p start j u)))) (ids s.nodes) o
        (first_origin flood v o k is);
  }
    where
      same_list : (l : List ℕ) → map (λ v. v) l ≡ l
      same_list [] = refl
      same_list (v ∷ l) = ap (λ (m : List ℕ). v ∷ m) (same_list l)
