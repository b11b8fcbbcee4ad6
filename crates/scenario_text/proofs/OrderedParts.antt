-- Parts in range and in order keep the rules of the canonical text, and what some text says is in range and in order.
use Rattle.std.proofs.Common.{◌≡◌, refl, ℕ, ◌<◌, ◌≤◌, List, [], ◌∷◌, true, false, not, ◌&&◌, ◌==◌, nat_lt, nat_le, Some, length, All, subst}
use Rattle.std.proofs.lemmas.Bool.{and_from, not_from_false, lt-ltb, le-leb, ne_eqb}
use Rattle.std.proofs.lemmas.List.Elements.{All-from_recursion, recursion_from_All}
use Rattle.std.specs.List.{AllByRecursion}
use Rattle.std.specs.declared.cmp.Ordering.TheVariants.{Less}
use Rattle.lwb_base.specs.Profile.{Numbers}
use Rattle.link_trace.specs.Order.{by_link, by_loss, by_cut, by_capture}
use Rattle.link_trace.specs.declared.lines.LinkLine.{LinkLine}
use Rattle.link_trace.specs.declared.lines.LoseLine.{LoseLine}
use Rattle.link_trace.specs.declared.lines.CutLine.{CutLine}
use Rattle.link_trace.specs.declared.lines.CaptureLine.{CaptureLine}
use Rattle.scenario_text.specs.FloodParts.{knows}
use Rattle.scenario_text.specs.FloodDrafts.{Climbs}
use Rattle.scenario_text.specs.Network.{is_id, are_ends}
use Rattle.scenario_text.specs.Canonical.{IsSaid}
use Rattle.scenario_text.specs.PartsInOrder.{IsNodeLine, IsRateLine, IsInOrder}
use Rattle.bus_rules.specs.States.{payload_of, IsAct}
use Rattle.scenario_text.specs.ScenarioFacts.{AreEnds, HasSoundLines, IsStepOf, IsScriptLine, IsSoundScenario}
use Rattle.scenario_text.specs.ScriptGrammar.{act_in_range, is_short}
use Rattle.scenario_text.specs.ScenarioGrammar.{greatest_slot_of, is_step, IsScenario}
use Rattle.scenario_text.specs.ScenarioParts.{ScenarioParts}
use Rattle.bus_rules.specs.declared.act.Act.{Act}
use Rattle.bus_rules.specs.declared.act.Act.TheVariants.{On, Off, Declare, Leave, Put}
use Rattle.scenario_text.specs.declared.script.ScriptLine.{ScriptLine}
use Rattle.scenario_text.proofs.BootsCounted.{boots_from}
use Rattle.scenario_text.proofs.CanonicalFacts.{HasBytes, IsNode, IsRateOf, IsHost, Fits, FitsAct, written, said_act, said_link}
use Rattle.scenario_text.proofs.CanonicalFacts.{said_loss, said_cut, said_capture, judge, KeepsRules}
use Rattle.scenario_text.proofs.CanonicalSays.{canonical_says}
use Rattle.scenario_text.proofs.EachPair.{climbs_pairs, pairs_climb}
use Rattle.scenario_text.proofs.RatesInOrder.{IsBelow, below_follows, below_in_turn, turns_climb}
use Rattle.scenario_text.proofs.RatesKept.{map_all}
use Rattle.scenario_text.proofs.SaidParts.{known_id, said_is}
use Rattle.scenario_text.proofs.SoundScenarios.{all_of, id_range, rules_sound, rules_sound_lines}

all_are : {A : Type 0} (P Q : A → Type 0) (xs : List A) → ((x : A) → P x → Q x) → All P xs → AllByRecursion Q xs
all_are P Q xs f all = map_all P Q xs f (recursion_from_All P xs all)

id_from : (i : ℕ) → 1 ≤ i → i ≤ 200 → is_id i ≡ true
id_from i low high = and_from (nat_le 1 i) (nat_le i 200) (le-leb 1 i low) (le-leb i 200 high)

abbrev HaveIds : ScenarioParts → Type 0
HaveIds s = AllByRecursion (λ n. is_id n.node ≡ true) s.nodes

-- the tests of a line, of its facts
ends_from : (s : ScenarioParts) (u v : ℕ) → HaveIds s → AreEnds s.nodes u v → are_ends u v ≡ true
ends_from s u v ids ends =
    and_from (is_id u && is_id v) (not (u == v))
    (and_from (is_id u) (is_id v) (known_id s.nodes u ids ends.from_known) (known_id s.nodes v ids ends.to_known))
    (not_from_false (u == v) (ne_eqb u v ends.differ))

both_known : (s : ScenarioParts) (u v : ℕ) → AreEnds s.nodes u v → (knows s.nodes u && knows s.nodes v) ≡ true
both_known s u v ends = and_from (knows s.nodes u) (knows s.nodes v) ends.from_known ends.to_known

step_from : (s : ScenarioParts) (f j k : ℕ) → IsStepOf s f j k → is_step (judge s) f j k ≡ true
step_from s f j k step =
    and_from (nat_lt f s.frames && nat_le j (greatest_slot_of s.profile)) (nat_le k 11)
    (and_from (nat_lt f s.frames) (nat_le j (greatest_slot_of s.profile)) (lt-ltb f s.frames step.in_run) (le-leb j (greatest_slot_of s.profile) step.in_frame))
    (le-leb k 11 step.in_slot)

link_fits : (s : ScenarioParts) (l : LinkLine) → HaveIds s → AreEnds s.nodes l.from l.to → Fits (judge s) (said_link l)
link_fits s l ids ends = record { range = ends_from s l.from l.to ids ends; known = both_known s l.from l.to ends }

loss_fits : (s : ScenarioParts) (l : LoseLine) → HaveIds s → IsStepOf s l.frame l.slot l.step × AreEnds s.nodes l.from l.to → Fits (judge s) (said_loss l)
loss_fits s l ids is = record {
  range = and_from (is_step (judge s) l.frame l.slot l.step) (are_ends l.from l.to) (step_from s l.frame l.slot l.step is.0) (ends_from s l.from l.to ids is.1);
  known = both_known s l.from l.to is.1;
}

cut_fits : (s : ScenarioParts) (l : CutLine) → HaveIds s → IsStepOf s l.frame l.slot l.step × (knows s.nodes l.node ≡ true) → Fits (judge s) (said_cut l)
cut_fits s l ids is = record {
  range = and_from (is_step (judge s) l.frame l.slot l.step) (is_id l.node) (step_from s l.frame l.slot l.step is.0) (known_id s.nodes l.node ids is.1);
  known = is.1;
}

capture_fits : (s : ScenarioParts) (l : CaptureLine) → HaveIds s → IsStepOf s l.frame l.slot l.step × AreEnds s.nodes l.at l.from
    → Fits (judge s) (said_capture l)
capture_fits s l ids is = record {
  range = and_from (is_step (judge s) l.frame l.slot l.step) (are_ends l.at l.from) (step_from s l.frame l.slot l.step is.0) (ends_from s l.at l.from ids is.1);
  known = both_known s l.at l.from is.1;
}

-- a line of the script
told_from : (s : ScenarioParts) (f i : ℕ) → f < s.frames → is_id i ≡ true → (nat_lt f s.frames && is_id i) ≡ true
told_from s f i below id = and_from (nat_lt f s.frames) (is_id i) (lt-ltb f s.frames below) id

in_range_from : (p : Numbers) (a : Act) → IsAct p a → act_in_range p (written a) ≡ true
in_range_from p On act = refl
in_range_from p Off act = refl
in_range_from p (Declare x y) act =
    and_from (nat_le x 3 && nat_le 1 y) (nat_le y 120) (and_from (nat_le x 3) (nat_le 1 y) (le-leb x 3 act.0) (le-leb 1 y act.1)) (le-leb y 120 act.2)
in_range_from p (Leave x) act = le-leb x 3 act
in_range_from p (Put x b) act = and_from (nat_le x 3) (is_short p (Some b)) (le-leb x 3 act.0) (le-leb (length b) p.payload_max act.1)

act_fits : (s : ScenarioParts) (f i : ℕ) (a : Act) → f < s.frames → is_id i ≡ true → knows s.nodes i ≡ true → IsAct s.profile a
    → Fits (judge s) (said_act f i a)
act_fits s f i a below id known act = record {
  range = and_from (nat_lt f s.frames && is_id i) (act_in_range s.profile (written a)) (told_from s f i below id) (in_range_from s.profile a act);
  known = known;
}

bytes_from : (a : Act) → All (λ b. b < 256) (payload_of a) → HasBytes a
bytes_from On bytes = tt
bytes_from Off bytes = tt
bytes_from (Declare x y) bytes = tt
bytes_from (Leave x) bytes = tt
bytes_from (Put x b) bytes = recursion_from_All (λ b. b < 256) b bytes

script_fits : (s : ScenarioParts) (ls : List ScriptLine) → HaveIds s → AllByRecursion (IsScriptLine s) ls
    → AllByRecursion (λ l. All (λ b. b < 256) (payload_of l.act)) ls
    → AllByRecursion (FitsAct (judge s)) ls
script_fits s [] ids lines bytes = tt
script_fits s (l ∷ ls) ids lines bytes =
    let line = lines.0 in (
      record {
        fits = act_fits s l.frame l.node l.act line.in_run (known_id s.nodes l.node ids line.known) line.known line.act;
        bytes = bytes_from l.act bytes.0;
      },
      script_fits s ls ids lines.1 bytes.1,
    )

small_id : (s : ScenarioParts) (i : ℕ) → HaveIds s → knows s.nodes i ≡ true → i ≤ 200
small_id s i ids known = (id_range i (known_id s.nodes i ids known)).1

pub keeps_rules : (s : ScenarioParts) → IsInOrder s → KeepsRules s
keeps_rules s is =
    let ids : HaveIds s = all_are IsNodeLine (λ n. is_id n.node ≡ true) s.nodes (λ n node. id_from n.node node.id.0 node.id.1) is.nodes in
    let rises = pairs_climb (λ a b. a.node < b.node) s.nodes is.nodes_ascend in
    let below = pairs_climb IsBelow s.rates is.rates_ascend in
    let script = recursion_from_All (IsScriptLine s) s.script is.script in
    record {
      profile = is.profile;
      frames = is.frames;
      sends = is.sends;
      some_nodes = is.node_count.0;
      few_nodes = is.node_count.1;
      nodes = all_are IsNodeLine IsNode s.nodes (λ n node. record { id = id_from n.node node.id.0 node.id.1; offset = node.offset }) is.nodes;
      rises = rises;
      rates = all_are (IsRateLine s) (IsRateOf s.profile s.nodes) s.rates
          (λ r rate. record { id = known_id s.nodes r.node ids rate.known; known = rate.known; early = rate.tick; small = rate.millionths }) is.rates;
      follows = below_follows s.rates below;
      in_turn = below_in_turn s.nodes s.rates rises (all_are (IsRateLine s) (λ r. knows s.nodes r.node ≡ true) s.rates (λ r rate. rate.known) is.rates) below;
      some_hosts = is.host_count.0;
      few_hosts = is.host_count.1;
      hosts = all_are (λ h. knows s.nodes h ≡ true) (IsHost s.nodes) s.hosts (λ h known. record { id = known_id s.nodes h ids known; known = known }) is.hosts;
      distinct = pairs_climb (λ g h. (g == h) ≡ false) s.hosts (λ i j d before within. ne_eqb _ _ (is.hosts_differ i j d before within));
      links = all_are (λ l. AreEnds s.nodes l.from l.to) (λ l. Fits (judge s) (said_link l)) s.trace.links (λ l ends. link_fits s l ids ends) is.links;
      links_climb = pairs_climb (λ a b. by_link a b ≡ Less) s.trace.links is.links_ascend;
      script = script_fits s s.script ids script (recursion_from_All (λ l. All (λ b. b < 256) (payload_of l.act)) s.script is.payload_bytes);
      script_climbs = pairs_climb (λ a b. a.frame ≤ b.frame) s.script is.script_ascends;
      boots = boots_from s.script (map_all (IsScriptLine s) (λ l. l.node ≤ 200) s.script (λ l line. small_id s l.node ids line.known) script) is.few_boots;
      losses = all_are (λ l. IsStepOf s l.frame l.slot l.step × AreEnds s.nodes l.from l.to) (λ l. Fits (judge s) (said_loss l)) s.trace.losses
          (λ l line. loss_fits s l ids line) is.losses;
      losses_climb = pairs_climb (λ a b. by_loss a b ≡ Less) s.trace.losses is.losses_ascend;
      cuts = all_are (λ l. IsStepOf s l.frame l.slot l.step × (knows s.nodes l.node ≡ true)) (λ l. Fits (judge s) (said_cut l)) s.trace.cuts
          (λ l line. cut_fits s l ids line) is.cuts;
      cuts_climb = pairs_climb (λ a b. by_cut a b ≡ Less) s.trace.cuts is.cuts_ascend;
      captures = all_are (λ l. IsStepOf s l.frame l.slot l.step × AreEnds s.nodes l.at l.from) (λ l. Fits (judge s) (said_capture l)) s.trace.captures
          (λ l line. capture_fits s l ids line) is.captures;
      captures_climb = pairs_climb (λ a b. by_capture a b ≡ Less) s.trace.captures is.captures_ascend;
      scripted = is.few_lines;
      small = is.node_frames;
    }

pub said_in_order : (s : ScenarioParts) → IsInOrder s → IsSaid s
said_in_order s is = canonical_says s (keeps_rules s is)

-- the other direction
few_bytes : (a : Act) → HasBytes a → All (λ b. b < 256) (payload_of a)
few_bytes On has = All-from_recursion (λ b. b < 256) [] tt
few_bytes Off has = All-from_recursion (λ b. b < 256) [] tt
few_bytes (Declare x y) has = All-from_recursion (λ b. b < 256) [] tt
few_bytes (Leave x) has = All-from_recursion (λ b. b < 256) [] tt
few_bytes (Put x b) has = All-from_recursion (λ b. b < 256) b has

rules_in_order : (s : ScenarioParts) → KeepsRules s → IsInOrder s
rules_in_order s is =
    let sound : IsSoundScenario s = rules_sound s is in
    let lines : HasSoundLines s = rules_sound_lines s is in
    record {
      profile = is.profile;
      frames = is.frames;
      sends = is.sends;
      node_count = (is.some_nodes, is.few_nodes);
      node_frames = is.small;
      nodes = all_of IsNode IsNodeLine s.nodes (λ n node. record { id = id_range n.node node.id; offset = node.offset }) is.nodes;
      nodes_ascend = sound.ascending;
      rates = all_of (IsRateOf s.profile s.nodes) (IsRateLine s) s.rates
          (λ r rate. record { known = rate.known; tick = rate.early; millionths = rate.small }) is.rates;
      rates_ascend = climbs_pairs IsBelow s.rates (subst (Climbs IsBelow) is.in_turn (turns_climb s.nodes s.rates is.rises is.follows));
      host_count = (is.some_hosts, is.few_hosts);
      hosts = sound.hosts_known;
      hosts_differ = sound.hosts_differ;
      links = lines.links;
      links_ascend = lines.links_ascend;
      losses = lines.losses;
      losses_ascend = lines.losses_ascend;
      cuts = lines.cuts;
      cuts_ascend = lines.cuts_ascend;
      captures = lines.captures;
      captures_ascend = lines.captures_ascend;
      script = sound.script;
      script_ascends = sound.script_ascends;
      payload_bytes = all_of (FitsAct (judge s)) (λ l. All (λ b. b < 256) (payload_of l.act)) s.script (λ l at. few_bytes l.act at.bytes) is.script;
      few_lines = is.scripted;
      few_boots = sound.few_boots;
    }

pub in_order_said : (s : ScenarioParts) → IsScenario s → IsInOrder s
in_order_said s said = rules_in_order s (said_is s said)
