-- A scenario whose trace has more losses: it is still said, with as many lines more.
use Rattle.std.proofs.Common.{◌≡◌, ◌+◌, ◌≤◌, List, length, refl, arith}
use Rattle.std.proofs.lemmas.List.Elements.{All-from_recursion, recursion_from_All}
use Rattle.std.specs.List.{fold}
use Rattle.std.specs.declared.cmp.Ordering.TheVariants.{Less}
use Rattle.link_trace.specs.Order.{by_loss}
use Rattle.link_trace.specs.declared.lines.LoseLine.{LoseLine}
use Rattle.scenario_text.specs.PartsInOrder.{IsInOrder, script_lines}
use Rattle.scenario_text.specs.ScenarioFacts.{AreEnds, IsStepOf}
use Rattle.scenario_text.specs.ScenarioParts.{ScenarioParts}
use Rattle.scenario_text.proofs.EachPair.{climbs_pairs, pairs_climb}
use Rattle.scenario_text.specs.OverLines.{over}
use Rattle.added_losses.specs.LossesAdded.{AreInRange, AreNewLosses, IsWithLosses, with_new_line}
use Rattle.lwb_base.specs.declared.limits.TheConstants.{MOST_SCRIPT_LINES}
use Rattle.added_losses.proofs.LossLines.{AreInOrder, all_more, count_more, few_more, still_ordered}

-- the scenario with these losses more
abbrev pub with_more : ScenarioParts → List LoseLine → ScenarioParts
with_more s more = over s (record s.trace { losses = fold with_new_line s.trace.losses more })

pub is_with_more : (s : ScenarioParts) (more : List LoseLine) → IsWithLosses s more (with_more s more)
is_with_more s more = record {
  parts = refl;
  trace = record { links_stay = refl; cuts_stay = refl; captures_stay = refl; same_losses = λ test. all_more test more s.trace.losses };
}

pub count_with_more : (s : ScenarioParts) (more : List LoseLine) → AreNewLosses s.trace more → script_lines (with_more s more) ≡ script_lines s + length more
count_with_more s more are =
    omega (arith, count_more more s.trace.losses (recursion_from_All _ more are.new) (pairs_climb _ more are.apart))

pub few_with_more : (s : ScenarioParts) (more : List LoseLine) → script_lines (with_more s more) ≤ script_lines s + length more
few_with_more s more = omega (arith, few_more more s.trace.losses)

abbrev InRange : ScenarioParts → LoseLine → Type 0
InRange s l = IsStepOf s l.frame l.slot l.step × AreEnds s.nodes l.from l.to

pub still_in_order : (s : ScenarioParts) (more : List LoseLine) → IsInOrder s → AreInRange s more
    → script_lines s + length more ≤ MOST_SCRIPT_LINES → IsInOrder (with_more s more)
still_in_order s more is in_range room =
    let all = fold with_new_line s.trace.losses more in
    let lines : AreInOrder (InRange s) all =
    still_ordered (InRange s) more s.trace.losses (recursion_from_All (InRange s) more in_range) (record {
      each = recursion_from_All (InRange s) s.trace.losses is.losses;
      climb = pairs_climb (λ a b. by_loss a b ≡ Less) s.trace.losses is.losses_ascend;
    }) in
    record {
      profile = is.profile;
      frames = is.frames;
      sends = is.sends;
      node_count = is.node_count;
      node_frames = is.node_frames;
      nodes = is.nodes;
      nodes_ascend = is.nodes_ascend;
      rates = λ k d within. let r = is.rates k d within in record { known = r.known; tick = r.tick; millionths = r.millionths };
      rates_ascend = is.rates_ascend;
      host_count = is.host_count;
      hosts = is.hosts;
      hosts_differ = is.hosts_differ;
      links = is.links;
      links_ascend = is.links_ascend;
      losses = λ k d within.
          let l = All-from_recursion (InRange s) all lines.each k d within in
          (record { in_run = l.0.in_run; in_frame = l.0.in_frame; in_slot = l.0.in_slot }, l.1);
      losses_ascend = climbs_pairs (λ a b. by_loss a b ≡ Less) all lines.climb;
      cuts = λ k d within.
          let l = is.cuts k d within in (record { in_run = l.0.in_run; in_frame = l.0.in_frame; in_slot = l.0.in_slot }, l.1);
      cuts_ascend = is.cuts_ascend;
      captures = λ k d within.
          let l = is.captures k d within in (record { in_run = l.0.in_run; in_frame = l.0.in_frame; in_slot = l.0.in_slot }, l.1);
      captures_ascend = is.captures_ascend;
      script = λ k d within. let l = is.script k d within in record { in_run = l.in_run; known = l.known; act = l.act };
      script_ascends = is.script_ascends;
      payload_bytes = is.payload_bytes;
      few_lines = omega (arith, few_more more s.trace.losses, room);
      few_boots = is.few_boots;
    }
