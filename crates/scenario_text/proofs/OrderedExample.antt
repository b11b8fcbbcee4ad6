-- Parts in range and in order: a scenario with a line of every kind.
use Rattle.std.proofs.Common.{◌≡◌, ℕ, ◌+◌, ◌<◌, ◌≤◌, List, [], ◌∷◌, Bool, true, false, ◌==◌, if◌then◌else◌, length, All, refl, arith, inr}
use Rattle.std.proofs.lemmas.Bool.{cond_both}
use Rattle.std.proofs.lemmas.List.Elements.{All-from_recursion}
use Rattle.std.specs.declared.cmp.Ordering.TheVariants.{Less}
use Rattle.link_trace.specs.Order.{by_link, by_loss, by_cut, by_capture}
use Rattle.scenario_text.specs.FloodParts.{knows}
use Rattle.scenario_text.specs.PartsInOrder.{IsNodeLine, IsRateLine, IsInOrder}
use Rattle.bus_rules.specs.States.{payload_of}
use Rattle.scenario_text.specs.ScenarioFacts.{AreEnds, IsStepOf, IsScriptLine, turned, turned_by}
use Rattle.scenario_text.specs.ScenarioParts.{ScenarioParts}
use Rattle.bus_rules.specs.declared.act.Act.{Act}
use Rattle.bus_rules.specs.declared.act.Act.TheVariants.{On, Off, Declare, Leave, Put}
use Rattle.scenario_text.specs.declared.script.ScriptLine.{ScriptLine}
use Rattle.scenario_text.proofs.EachPair.{climbs_pairs}
use Rattle.scenario_text.proofs.RatesInOrder.{IsBelow}
use Rattle.scenario_text.proofs.ScenarioExamples.{every_line_parts}

-- a node boots at most once a line
one_more : (a : Act) (s : Bool × ℕ) → (turned_by a s).1 ≤ s.1 + 1
one_more On s = cond_both s.0 s.1 (s.1 + 1) (λ (n : ℕ). n ≤ s.1 + 1) (λ is. omega arith) (λ not. omega arith)
one_more Off s = omega arith
one_more (Declare x y) s = omega arith
one_more (Leave x) s = omega arith
one_more (Put x b) s = omega arith

pub no_more_boots_than_lines : (v : ℕ) (s : Bool × ℕ) (ls : List ScriptLine) → (turned v s ls).1 ≤ s.1 + length ls
no_more_boots_than_lines v s [] = omega arith
no_more_boots_than_lines v s (l ∷ ls) =
    let t : Bool × ℕ = if l.node == v then turned_by l.act s else s in
    let here : t.1 ≤ s.1 + 1 = cond_both (l.node == v) (turned_by l.act s) s (λ (u : Bool × ℕ). u.1 ≤ s.1 + 1) (λ is. one_more l.act s) (λ not. omega arith) in
    omega (arith, here, no_more_boots_than_lines v t ls)

abbrev s : ScenarioParts
s = every_line_parts

ends : AreEnds s.nodes 1 2
ends = record { from_known = refl; to_known = refl; differ = λ same. omega (arith, same) }

back : AreEnds s.nodes 2 1
back = record { from_known = refl; to_known = refl; differ = λ same. omega (arith, same) }

every_line_in_order : IsInOrder every_line_parts
every_line_in_order = record {
  profile = inr (refl, omega arith);
  frames = (omega arith, omega arith);
  sends = (omega arith, omega arith);
  node_count = (omega arith, omega arith);
  node_frames = omega arith;
  nodes = All-from_recursion IsNodeLine s.nodes
      (record { id = (omega arith, omega arith); offset = omega arith }, (record { id = (omega arith, omega arith); offset = omega arith }, tt));
  nodes_ascend = climbs_pairs (λ a b. a.node < b.node) s.nodes ((omega arith, tt), (tt, tt));
  rates = All-from_recursion (IsRateLine s) s.rates (record { known = refl; tick = omega arith; millionths = omega arith }, tt);
  rates_ascend = climbs_pairs IsBelow s.rates (tt, tt);
  host_count = (omega arith, omega arith);
  hosts = All-from_recursion (λ h. knows s.nodes h ≡ true) s.hosts (refl, tt);
  hosts_differ = climbs_pairs (λ a b. a ≡ b → ⊥) s.hosts (tt, tt);
  links = All-from_recursion (λ l. AreEnds s.nodes l.from l.to) s.trace.links (ends, (back, tt));
  links_ascend = climbs_pairs (λ a b. by_link a b ≡ Less) s.trace.links ((refl, tt), (tt, tt));
  losses = All-from_recursion (λ l. IsStepOf s l.frame l.slot l.step × AreEnds s.nodes l.from l.to) s.trace.losses
      ((record { in_run = omega arith; in_frame = omega arith; in_slot = omega arith }, ends), tt);
  losses_ascend = climbs_pairs (λ a b. by_loss a b ≡ Less) s.trace.losses (tt, tt);
  cuts = All-from_recursion (λ l. IsStepOf s l.frame l.slot l.step × (knows s.nodes l.node ≡ true)) s.trace.cuts
      ((record { in_run = omega arith; in_frame = omega arith; in_slot = omega arith }, refl), tt);
  cuts_ascend = climbs_pairs (λ a b. by_cut a b ≡ Less) s.trace.cuts (tt, tt);
  captures = All-from_recursion (λ l. IsStepOf s l.frame l.slot l.step × AreEnds s.nodes l.at l.from) s.trace.captures
      ((record { in_run = omega arith; in_frame = omega arith; in_slot = omega arith }, ends), tt);
  captures_ascend = climbs_pairs (λ a b. by_capture a b ≡ Less) s.trace.captures (tt, tt);
  script = All-from_recursion (IsScriptLine s) s.script (
    record { in_run = omega arith; known = refl; act = tt },
    (
      record { in_run = omega arith; known = refl; act = (omega arith, omega arith, omega arith) },
      (
        record { in_run = omega arith; known = refl; act = (omega arith, omega arith) },
        (
          record { in_run = omega arith; known = refl; act = (omega arith, omega arith) },
          (record { in_run = omega arith; known = refl; act = omega arith }, (record { in_run = omega arith; known = refl; act = tt }, tt)),
        ),
      ),
    ),
  );
  script_ascends = climbs_pairs (λ a b. a.frame ≤ b.frame) s.script (
    (omega arith, (omega arith, (omega arith, (omega arith, (omega arith, tt))))),
    (
      (omega arith, (omega arith, (omega arith, (omega arith, tt)))),
      ((omega arith, (omega arith, (omega arith, tt))), ((omega arith, (omega arith, tt)), ((omega arith, tt), (tt, tt)))),
    ),
  );
  payload_bytes = All-from_recursion (λ l. All (λ b. b < 256) (payload_of l.act)) s.script (none, (none, (none, (one_byte, (none, (none, tt))))));
  few_lines = omega arith;
  few_boots = λ v. let few = no_more_boots_than_lines v (false, 0) s.script in omega (arith, few);
}
  where
    none : All (λ b. b < 256) []
    none = All-from_recursion (λ b. b < 256) [] tt

    one_byte : All (λ b. b < 256) (171 ∷ [])
    one_byte = All-from_recursion (λ b. b < 256) (171 ∷ []) (omega arith, tt)
