-- What each line keeps true of a draft.
use Rattle.std.proofs.Common.{◌≡◌, ℕ, ◌<◌, ◌≤◌, ◌^◌, List, [], ◌∷◌, true, not, ◌&&◌, nat_lt, nat_le}
use Rattle.std.proofs.Common.{Option, Some, None, Ok, IfOk, IfSome, length, sym, subst, arith}
use Rattle.std.proofs.lemmas.Bool.{and_parts, leb-true, ltb-true, not-true}
use Rattle.std.proofs.lemmas.List.Elements.{All-from_recursion}
use Rattle.std.proofs.lemmas.Option.{IfSome_then, cond_some}
use Rattle.std.specs.Int.RustNames.{unsigned_abs}
use Rattle.std.specs.Option.{option_map_or}
use Rattle.lwb_base.proofs.Lists.{each_append}
use Rattle.scenario_text.specs.FloodParts.{IsSound, knows}
use Rattle.text_readers.specs.Words.{words}
use Rattle.scenario_text.specs.Network.{DraftedNetwork, Parts, network_fault, with_network_line, with_node, network_parts, rates_by_node, is_id, last_rate, ppm}
use Rattle.scenario_text.specs.FloodGrammar.{Flood, rule_fault, with_flood_line, after_spelled, flood_after_words, flood_line, flood_numbers, no_flood}
use Rattle.text_readers.specs.Faults.{draft_after_lines}
use Rattle.text_readers.specs.Reading.{draft_after_line}
use Rattle.scenario_text.specs.FloodDrafts.{Rises, IsRate, IsNetwork, IsFloodDraft}
use Rattle.text_readers.specs.declared.fault.FaultKind.TheVariants.{Range, UnknownNode, Order, Twice, TooMany}
use Rattle.scenario_text.specs.declared.flood_line.FloodLine.{FloodLine}
use Rattle.scenario_text.specs.declared.flood_line.FloodLine.TheVariants.{InNetwork, Lose, Start}
use Rattle.scenario_text.specs.declared.lines.NodeLine.{NodeLine}
use Rattle.scenario_text.specs.declared.lines.RateLine.{RateLine}
use Rattle.scenario_text.specs.declared.network_line.NetworkLine.{NetworkLine}
use Rattle.scenario_text.specs.declared.network_line.NetworkLine.TheVariants.{Sends, Node, Rate, Link, Pair}
use Rattle.text_readers.proofs.AllowedLines.{passed, unless_keeps, spelled_keeps}
use Rattle.text_readers.proofs.LinesRead.{line_keeps, lines_keep}
use Rattle.scenario_text.proofs.NodeIds.{with_node-all, with_node-rises, with_node-length, with_node-knows, pairs_rise}
use Rattle.scenario_text.proofs.RatesKept.{map_all, later_all, climbs_more, all_by_node, each_ascends, ppm_small}

pub network_keeps : (last : ℕ) (d : DraftedNetwork) (l : NetworkLine) → last < 2 ^ 47 → IsNetwork d → network_fault last d l ≡ None
    → IsNetwork (with_network_line d l)
network_keeps last d (Sends x) early sound none =
    let range = passed (nat_le 1 x && nat_le x 4) Range _ none in
    let ends = and_parts (nat_le 1 x) (nat_le x 4) range.0 in
    record {
      sends = (leb-true _ _ ends.0, leb-true _ _ ends.1);
      few_nodes = sound.few_nodes;
      rises = sound.rises;
      offsets = sound.offsets;
      follows = sound.follows;
      rates = sound.rates;
    }
network_keeps last d (Node i o) early sound none =
    let n : NodeLine = record { node = i; offset = o } in
    let range = passed (is_id i && nat_le o 256000) Range _ none in
    let fresh = passed (not (knows d.nodes i)) Twice _ range.1 in
    let room = passed (nat_lt (length d.nodes) 64) TooMany _ fresh.1 in
    let few = ltb-true _ _ room.0 in
    record {
      sends = sound.sends;
      few_nodes = omega (arith, few, with_node-length n d.nodes sound.rises);
      rises = with_node-rises n d.nodes (not-true _ fresh.0) sound.rises;
      offsets = with_node-all (λ m. m.offset ≤ 256000) n d.nodes sound.rises (leb-true _ _ (and_parts (is_id i) (nat_le o 256000) range.0).1) sound.offsets;
      follows = sound.follows;
      rates = map_all (IsRate d.nodes) (IsRate (with_node n d.nodes)) d.rates
          (λ r is. record { known = with_node-knows n r.node d.nodes sound.rises is.known; early = is.early; small = is.small }) sound.rates;
    }
network_keeps last d (Rate i t slow p) early sound none =
    let r : RateLine = record { node = i; from = t; ppm = ppm slow p } in
    let range = passed (is_id i && nat_le t last && nat_le p 20) Range _ none in
    let known = passed (knows d.nodes i) UnknownNode _ range.1 in
    let order = passed (option_map_or (λ r. nat_lt r.from t) (last_rate d.rates i) true) Order _ known.1 in
    let ends = and_parts (is_id i && nat_le t last) (nat_le p 20) range.0 in
    let tick = leb-true t last (and_parts (is_id i) (nat_le t last) ends.0).1 in
    record {
      sends = sound.sends;
      few_nodes = sound.few_nodes;
      rises = sound.rises;
      offsets = sound.offsets;
      follows = climbs_more (λ q s. q.node ≡ s.node → q.from < s.from) d.rates r sound.follows (later_all d.rates i t sound.follows order.0);
      rates = each_append (IsRate d.nodes) d.rates (r ∷ []) sound.rates
          (record { known = known.0; early = omega (arith, tick, early); small = ppm_small slow p (leb-true p 20 ends.1) }, tt);
    }
network_keeps last d (Link u v) early sound none =
    record { sends = sound.sends; few_nodes = sound.few_nodes; rises = sound.rises; offsets = sound.offsets; follows = sound.follows; rates = sound.rates }
network_keeps last d (Pair u v) early sound none =
    record { sends = sound.sends; few_nodes = sound.few_nodes; rises = sound.rises; offsets = sound.offsets; follows = sound.follows; rates = sound.rates }

-- a node that is known stays so
nodes_stay : (d : DraftedNetwork) (l : NetworkLine) (v : ℕ) → Rises d.nodes → knows d.nodes v ≡ true → knows (with_network_line d l).nodes v ≡ true
nodes_stay d (Sends x) v rises known = known
nodes_stay d (Node i o) v rises known = with_node-knows (record { node = i; offset = o }) v d.nodes rises known
nodes_stay d (Rate i t slow p) v rises known = known
nodes_stay d (Link a b) v rises known = known
nodes_stay d (Pair a b) v rises known = known

flood_keeps : (f : Flood) (l : FloodLine) → IsFloodDraft f → rule_fault f l ≡ None → IsFloodDraft (with_flood_line f l)
flood_keeps f (InNetwork l) sound none = record {
  network = network_keeps 1048576000000 f.network l (omega arith) sound.network none;
  start_known = IfSome_then f.start sound.start_known (λ i known. nodes_stay f.network l i sound.network.rises known);
}
flood_keeps f (Lose k u v) sound none =
    let n = sound.network in
    record {
      network = record { sends = n.sends; few_nodes = n.few_nodes; rises = n.rises; offsets = n.offsets; follows = n.follows; rates = n.rates };
      start_known = sound.start_known;
    }
flood_keeps f (Start i) sound none =
    let range = passed (is_id i) Range _ none in
    let known = passed (knows f.network.nodes i) UnknownNode _ range.1 in
    record { network = sound.network; start_known = known.0 }

words_keep : (f : Flood) (ws : List (List ℕ)) → IsFloodDraft f → IfOk (flood_after_words f ws) IsFloodDraft
unfolding flood_after_words
words_keep f ws sound =
    spelled_keeps IsFloodDraft (flood_line ws) (λ (l : FloodLine). flood_numbers l ws) (after_spelled f)
    (λ l is. unless_keeps IsFloodDraft (rule_fault f l) (with_flood_line f l) (λ none. flood_keeps f l sound none))

nothing_sound : IsFloodDraft no_flood
nothing_sound = record {
  network = record { sends = tt; few_nodes = omega arith; rises = tt; offsets = tt; follows = tt; rates = tt };
  start_known = tt;
}

-- after allowed lines
pub text_sound : (f : Flood) (ls : List (List ℕ)) → draft_after_lines (draft_after_line flood_after_words) 1 no_flood ls ≡ Ok f → IsFloodDraft f
text_sound f ls is =
    lines_keep IsFloodDraft (draft_after_line flood_after_words)
    (λ d line sound. line_keeps IsFloodDraft flood_after_words d line sound (words_keep d (words line) sound)) 1 no_flood f ls nothing_sound is

abbrev parts_at : DraftedNetwork → ℕ → Parts
parts_at d n = record { sends = n; nodes = d.nodes; rates = rates_by_node d.nodes d.rates; trace = d.trace }

-- the parts of a draft that misses nothing
pub parts_sound : (d : DraftedNetwork) (o : Option ℕ) (p : Parts) (s : ℕ) → IsNetwork d → IfSome o (λ n. (1 ≤ n) × (n ≤ 4)) → knows d.nodes s ≡ true
    → Some p ≡ network_parts d o
    → IsSound (record { sends = p.sends; nodes = p.nodes; rates = p.rates; trace = p.trace; start = s })
parts_sound d None p s sound few known is = cc
parts_sound d (Some n) p s sound few known is =
    let here = cond_some (nat_le 2 (length d.nodes)) (parts_at d n) p (sym is) in
    subst (λ (q : Parts). IsSound (record { sends = q.sends; nodes = q.nodes; rates = q.rates; trace = q.trace; start = s })) here.1
    (record {
      some_sends = few.0;
      few_sends = few.1;
      two_nodes = leb-true _ _ here.0;
      few_nodes = sound.few_nodes;
      ascending = pairs_rise d.nodes sound.rises;
      offsets = All-from_recursion (λ (m : NodeLine). m.offset ≤ 256000) d.nodes sound.offsets;
      start_known = known;
      rates_known = All-from_recursion (λ (r : RateLine). knows d.nodes r.node ≡ true) (rates_by_node d.nodes d.rates)
          (all_by_node (λ r. knows d.nodes r.node ≡ true) d.nodes d.rates
          (map_all (IsRate d.nodes) (λ r. knows d.nodes r.node ≡ true) d.rates (λ r is. is.known) sound.rates));
      rates_ascend = λ i. each_ascends d.nodes d.rates i sound.rises sound.follows;
      rates_early = All-from_recursion (λ (r : RateLine). r.from < 2 ^ 47) (rates_by_node d.nodes d.rates)
          (all_by_node (λ r. r.from < 2 ^ 47) d.nodes d.rates (map_all (IsRate d.nodes) (λ r. r.from < 2 ^ 47) d.rates (λ r is. is.early) sound.rates));
      rates_small = All-from_recursion (λ (r : RateLine). unsigned_abs r.ppm ≤ 20) (rates_by_node d.nodes d.rates)
          (all_by_node (λ r. unsigned_abs r.ppm ≤ 20) d.nodes d.rates
          (map_all (IsRate d.nodes) (λ r. unsigned_abs r.ppm ≤ 20) d.rates (λ r is. is.small) sound.rates));
    })

pub at_start : (P : ℕ → Type 0) (o : Option ℕ) (i : ℕ) → o ≡ Some i → IfSome o P → P i
at_start P o i is holds = subst (λ (q : Option ℕ). IfSome q P) is holds
