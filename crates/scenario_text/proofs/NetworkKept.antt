-- Each allowed line of the network keeps what is true of a draft.
use Rattle.std.proofs.Common.{◌≡◌, ◌^◌, ◌<◌, ◌≤◌, List, [], ◌∷◌, true, false, not, ◌&&◌, nat_le, None, ◌∙◌, arith}
use Rattle.std.proofs.lemmas.Bool.{and_from, and_parts, leb-true, ltb-true, not-true, false≢true}
use Rattle.std.proofs.lemmas.List.{length_push}
use Rattle.lwb_base.specs.Profile.{Numbers, IsProfile}
use Rattle.lwb_base.proofs.Lists.{each_append}
use Rattle.link_trace.specs.Passes.{Lines}
use Rattle.scenario_text.specs.FloodParts.{knows}
use Rattle.scenario_text.specs.Network.{ppm, is_id, with_node, with_link_to, has_link}
use Rattle.scenario_text.specs.ScenarioGrammar.{Scenario, last_tick, line_fault, with_scenario_line}
use Rattle.scenario_text.specs.declared.lines.NodeLine.{NodeLine}
use Rattle.scenario_text.specs.declared.lines.RateLine.{RateLine}
use Rattle.scenario_text.specs.declared.network_line.NetworkLine.{NetworkLine}
use Rattle.scenario_text.specs.declared.network_line.NetworkLine.TheVariants.{Sends, Node, Rate, Link, Pair}
use Rattle.scenario_text.specs.declared.scenario_line.ScenarioLine.TheVariants as line
use Rattle.scenario_text.proofs.FloodKeeps.{network_keeps}
use Rattle.scenario_text.proofs.LinksBack.{link_back}
use Rattle.scenario_text.proofs.NodeIds.{with_node-all, with_node-knows}
use Rattle.scenario_text.proofs.CanonicalGoes.{frame_bound}
use Rattle.scenario_text.proofs.DraftFacts.{IsTrace, IsFine, KnowsMore, hosts_more, script_more, trace_more}
use Rattle.scenario_text.proofs.LineRuns.{allowed}
use Rattle.scenario_text.proofs.TraceKept.{link_trace, ends_differ, ends_back}

-- a line that changes links alone
abbrev linked : Scenario → Lines → Scenario
linked d t = record d {
  network = record {
    sends = d.network.sends;
    nodes = d.network.nodes;
    rates = d.network.rates;
    trace = t;
    scripted = d.network.scripted;
    most = d.network.most;
  };
  first = false;
  after_two = false;
}

links_fine : (d : Scenario) (ls : List _) → IsFine d → IsTrace d.profile d.frames d.network.nodes (record d.network.trace { links = ls })
    → IsFine (linked d (record d.network.trace { links = ls }))
links_fine d ls fine is =
    let n = fine.network in
    record {
      network = record { sends = n.sends; few_nodes = n.few_nodes; rises = n.rises; offsets = n.offsets; follows = n.follows; rates = n.rates };
      first = λ is. absurd (false≢true is);
      second = λ is. absurd (false≢true is);
      profile = fine.profile;
      frames = fine.frames;
      ids = fine.ids;
      ticks = fine.ticks;
      hosts = fine.hosts;
      script = fine.script;
      trace = is;
      unframed = λ none. let u = fine.unframed none in record { script = u.script; losses = u.losses; cuts = u.cuts; captures = u.captures };
      power = fine.power;
      counted = fine.counted;
      few = fine.few;
      limit = fine.limit;
    }

early : (p : Numbers) → IsProfile p → last_tick p < 2 ^ 47
early p is = let bound = frame_bound p is in omega (arith, bound)

pub network_fine : (d : Scenario) (l : NetworkLine) → IsFine d → line_fault d (line.InNetwork l) ≡ None → IsFine (with_scenario_line d (line.InNetwork l))
network_fine d (Sends x) fine none = record {
  network = network_keeps (last_tick d.profile) d.network (Sends x) (early d.profile fine.profile) fine.network none;
  first = λ is. absurd (false≢true is);
  second = λ is. absurd (false≢true is);
  profile = fine.profile;
  frames = fine.frames;
  ids = fine.ids;
  ticks = fine.ticks;
  hosts = fine.hosts;
  script = fine.script;
  trace = fine.trace;
  unframed = fine.unframed;
  power = fine.power;
  counted = fine.counted;
  few = fine.few;
  limit = fine.limit;
}
network_fine d (Node i o) fine none =
    let n : NodeLine = record { node = i; offset = o } in
    let rises = fine.network.rises in
    let a = allowed d (line.InNetwork (Node i o)) none in
    let ns = d.network.nodes in
    let ms = with_node n d.network.nodes in
    let more : KnowsMore ns ms = λ v known. with_node-knows n v ns rises known in
    record {
      network = network_keeps (last_tick d.profile) d.network (Node i o) (early d.profile fine.profile) fine.network none;
      first = λ is. absurd (false≢true is);
      second = λ is. absurd (false≢true is);
      profile = fine.profile;
      frames = fine.frames;
      ids = with_node-all (λ m. is_id m.node ≡ true) n ns rises (and_parts (is_id i) (nat_le o 256000) a.range).0 fine.ids;
      ticks = fine.ticks;
      hosts = hosts_more ns ms d.hosts more fine.hosts;
      script = script_more d.profile d.frames ns ms d.script more fine.script;
      trace = trace_more d.profile d.frames ns ms d.network.trace more fine.trace;
      unframed = fine.unframed;
      power = fine.power;
      counted = fine.counted;
      few = fine.few;
      limit = fine.limit;
    }
network_fine d (Rate i t slow p) fine none =
    let a = allowed d (line.InNetwork (Rate i t slow p)) none in
    let r : RateLine = record { node = i; from = t; ppm = ppm slow p } in
    let range = and_parts (is_id i && nat_le t (last_tick d.profile)) (nat_le p 20) a.range in
    let limit = fine.limit in
    let few = ltb-true d.network.scripted d.network.most a.room in
    let counted = fine.counted in
    record {
      network = network_keeps (last_tick d.profile) d.network (Rate i t slow p) (early d.profile fine.profile) fine.network none;
      first = λ is. absurd (false≢true is);
      second = λ is. absurd (false≢true is);
      profile = fine.profile;
      frames = fine.frames;
      ids = fine.ids;
      ticks = each_append (λ r. r.from ≤ last_tick d.profile) d.network.rates (r ∷ []) fine.ticks
          (leb-true t (last_tick d.profile) (and_parts (is_id i) (nat_le t (last_tick d.profile)) range.0).1, tt);
      hosts = fine.hosts;
      script = fine.script;
      trace = fine.trace;
      unframed = fine.unframed;
      power = fine.power;
      counted = omega (arith, counted, length_push d.network.rates r);
      few = omega (arith, few, limit);
      limit = limit;
    }
network_fine d (Link u v) fine none =
    let a = allowed d (line.InNetwork (Link u v)) none in
    links_fine d _ fine (link_trace d.profile d.frames d.network.nodes d.network.trace u v fine.trace a.range a.known
    (not-true (has_link d.network.trace u v) a.fresh))
network_fine d (Pair u v) fine none =
    let a = allowed d (line.InNetwork (Pair u v)) none in
    let t = d.network.trace in
    let fresh = and_parts (not (has_link t u v)) (not (has_link t v u)) a.fresh in
    let known = and_parts (knows d.network.nodes u) (knows d.network.nodes v) a.known in
    let there = link_trace d.profile d.frames d.network.nodes t u v fine.trace a.range a.known (not-true (has_link t u v) fresh.0) in
    links_fine d _ fine
    (link_trace d.profile d.frames d.network.nodes (with_link_to u v t) v u there (ends_back u v a.range)
    (and_from (knows d.network.nodes v) (knows d.network.nodes u) known.1 known.0)
    (link_back u v t (ends_differ u v a.range) ∙ not-true (has_link t v u) fresh.1))
