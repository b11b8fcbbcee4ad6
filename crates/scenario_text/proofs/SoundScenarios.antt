-- What is true of each scenario, by the rules that it keeps.
use Rattle.std.proofs.Common.{◌≡◌, ℕ, ◌^◌, ◌<◌, ◌≤◌, List, true, false, ◌&&◌, ◌==◌, nat_lt, nat_le, length, All, arith}
use Rattle.std.proofs.lemmas.Bool.{and_parts, leb-true, ltb-true, eqb-false}
use Rattle.std.proofs.lemmas.List.Elements.{All-from_recursion}
use Rattle.std.specs.Int.RustNames.{unsigned_abs}
use Rattle.std.specs.List.{AllByRecursion}
use Rattle.std.specs.declared.cmp.Ordering.TheVariants.{Less}
use Rattle.lwb_base.specs.Profile.{Numbers}
use Rattle.link_trace.specs.Order.{by_link, by_loss, by_cut, by_capture}
use Rattle.link_trace.specs.declared.lines.LoseLine.{LoseLine}
use Rattle.link_trace.specs.declared.lines.CutLine.{CutLine}
use Rattle.link_trace.specs.declared.lines.CaptureLine.{CaptureLine}
use Rattle.scenario_text.specs.FloodParts.{knows}
use Rattle.scenario_text.specs.Network.{is_id, are_ends}
use Rattle.scenario_text.specs.ScenarioFacts.{AreEnds, HasSoundLines, IsStepOf, IsScriptLine, IsSoundScenario}
use Rattle.bus_rules.specs.States.{IsAct}
use Rattle.scenario_text.specs.ScriptGrammar.{act_in_range}
use Rattle.scenario_text.specs.ScenarioGrammar.{last_tick, greatest_slot_of, is_step, IsScenario}
use Rattle.scenario_text.specs.ScenarioParts.{ScenarioParts}
use Rattle.bus_rules.specs.declared.act.Act.{Act}
use Rattle.bus_rules.specs.declared.act.Act.TheVariants.{On, Off, Declare, Leave, Put}
use Rattle.scenario_text.proofs.CanonicalFacts.{IsNode, IsRateOf, IsHost, Fits, FitsAct, written, said_act, said_link}
use Rattle.scenario_text.proofs.CanonicalFacts.{said_loss, said_cut, said_capture, judge, KeepsRules}
use Rattle.scenario_text.proofs.CanonicalGoes.{frame_bound}
use Rattle.scenario_text.proofs.TraceKept.{ends_differ}
use Rattle.scenario_text.proofs.RatesKept.{map_all, one_ascends}
use Rattle.scenario_text.proofs.EachPair.{climbs_pairs}
use Rattle.scenario_text.proofs.SaidParts.{known_id, said_is}
use Rattle.scenario_text.proofs.BootsCounted.{few_boots}

pub all_of : {A : Type 0} (P Q : A → Type 0) (xs : List A) → ((x : A) → P x → Q x) → AllByRecursion P xs → All Q xs
all_of P Q xs f all = All-from_recursion Q xs (map_all P Q xs f all)

pub id_range : (i : ℕ) → is_id i ≡ true → (1 ≤ i) × (i ≤ 200)
id_range i is = let p = and_parts (nat_le 1 i) (nat_le i 200) is in (leb-true 1 i p.0, leb-true i 200 p.1)

ends_are : (s : ScenarioParts) (u v : ℕ) → are_ends u v ≡ true → (knows s.nodes u && knows s.nodes v) ≡ true → AreEnds s.nodes u v
ends_are s u v ends known = let p = and_parts (knows s.nodes u) (knows s.nodes v) known in
    record { from_known = p.0; to_known = p.1; differ = ends_differ u v ends }

step_is : (s : ScenarioParts) (f j k : ℕ) → is_step (judge s) f j k ≡ true → IsStepOf s f j k
step_is s f j k is =
    let o = and_parts (nat_lt f s.frames && nat_le j (greatest_slot_of s.profile)) (nat_le k 11) is in
    let p = and_parts (nat_lt f s.frames) (nat_le j (greatest_slot_of s.profile)) o.0 in
    record { in_run = ltb-true f s.frames p.0; in_frame = leb-true j (greatest_slot_of s.profile) p.1; in_slot = leb-true k 11 o.1 }

loss_is : (s : ScenarioParts) (l : LoseLine) → Fits (judge s) (said_loss l) → IsStepOf s l.frame l.slot l.step × AreEnds s.nodes l.from l.to
loss_is s l fits =
    let p = and_parts (is_step (judge s) l.frame l.slot l.step) (are_ends l.from l.to) fits.range in
    (step_is s l.frame l.slot l.step p.0, ends_are s l.from l.to p.1 fits.known)

cut_is : (s : ScenarioParts) (l : CutLine) → Fits (judge s) (said_cut l) → IsStepOf s l.frame l.slot l.step × (knows s.nodes l.node ≡ true)
cut_is s l fits = (step_is s l.frame l.slot l.step (and_parts (is_step (judge s) l.frame l.slot l.step) (is_id l.node) fits.range).0, fits.known)

capture_is : (s : ScenarioParts) (l : CaptureLine) → Fits (judge s) (said_capture l) → IsStepOf s l.frame l.slot l.step × AreEnds s.nodes l.at l.from
capture_is s l fits =
    let p = and_parts (is_step (judge s) l.frame l.slot l.step) (are_ends l.at l.from) fits.range in
    (step_is s l.frame l.slot l.step p.0, ends_are s l.at l.from p.1 fits.known)

in_range_is : (p : Numbers) (a : Act) → act_in_range p (written a) ≡ true → IsAct p a
in_range_is p On range = tt
in_range_is p Off range = tt
in_range_is p (Declare x y) range =
    let o = and_parts (nat_le x 3 && nat_le 1 y) (nat_le y 120) range in
    let q = and_parts (nat_le x 3) (nat_le 1 y) o.0 in
    (leb-true x 3 q.0, leb-true 1 y q.1, leb-true y 120 o.1)
in_range_is p (Leave x) range = leb-true x 3 range
in_range_is p (Put x b) range =
    let o = and_parts (nat_le x 3) (nat_le (length b) p.payload_max) range in
    (leb-true x 3 o.0, leb-true (length b) p.payload_max o.1)

act_is : (s : ScenarioParts) (f i : ℕ) (a : Act) → Fits (judge s) (said_act f i a) → IsScriptLine s (record { frame = f; node = i; act = a })
act_is s f i a fits =
    let r = and_parts (nat_lt f s.frames && is_id i) (act_in_range s.profile (written a)) fits.range in
    record { in_run = ltb-true f s.frames (and_parts (nat_lt f s.frames) (is_id i) r.0).0; known = fits.known; act = in_range_is s.profile a r.1 }

small_node : (s : ScenarioParts) (i : ℕ) → KeepsRules s → knows s.nodes i ≡ true → i ≤ 200
small_node s i is known = (id_range i (known_id s.nodes i (map_all IsNode (λ n. is_id n.node ≡ true) s.nodes (λ n node. node.id) is.nodes) known)).1

pub rules_sound : (s : ScenarioParts) → KeepsRules s → IsSoundScenario s
rules_sound s is =
    let bound = frame_bound s.profile is.profile in
    record {
      profile = is.profile;
      some_frames = is.frames.0;
      few_frames = is.frames.1;
      some_sends = is.sends.0;
      few_sends = is.sends.1;
      two_nodes = is.some_nodes;
      few_nodes = is.few_nodes;
      node_frames = is.small;
      ids = all_of IsNode (λ n. (1 ≤ n.node) × (n.node ≤ 200)) s.nodes (λ n node. id_range n.node node.id) is.nodes;
      ascending = climbs_pairs (λ a b. a.node < b.node) s.nodes is.rises;
      offsets = all_of IsNode (λ n. n.offset ≤ 256000) s.nodes (λ n node. node.offset) is.nodes;
      rates_known = all_of (IsRateOf s.profile s.nodes) (λ r. knows s.nodes r.node ≡ true) s.rates (λ r rate. rate.known) is.rates;
      rates_ascend = λ i. one_ascends i s.rates is.follows;
      rates_in_run = all_of (IsRateOf s.profile s.nodes) (λ r. r.from ≤ last_tick s.profile) s.rates (λ r rate. rate.early) is.rates;
      rates_early = all_of (IsRateOf s.profile s.nodes) (λ r. r.from < 2 ^ 47) s.rates
          (λ r rate. let early = rate.early in omega (arith, early, bound)) is.rates;
      rates_small = all_of (IsRateOf s.profile s.nodes) (λ r. unsigned_abs r.ppm ≤ 20) s.rates (λ r rate. rate.small) is.rates;
      some_hosts = is.some_hosts;
      few_hosts = is.few_hosts;
      hosts_known = all_of (IsHost s.nodes) (λ h. knows s.nodes h ≡ true) s.hosts (λ h host. host.known) is.hosts;
      hosts_differ = λ i j d before within. eqb-false _ _ (climbs_pairs (λ g h. (g == h) ≡ false) s.hosts is.distinct i j d before within);
      script = all_of (FitsAct (judge s)) (IsScriptLine s) s.script (λ l at. act_is s l.frame l.node l.act at.fits) is.script;
      script_ascends = climbs_pairs (λ a b. a.frame ≤ b.frame) s.script is.script_climbs;
      few_boots = λ v. few_boots v s.script (map_all (FitsAct (judge s)) (λ l. l.node ≤ 200) s.script
          (λ l at. small_node s l.node is (act_is s l.frame l.node l.act at.fits).known) is.script) is.boots;
    }

pub rules_sound_lines : (s : ScenarioParts) → KeepsRules s → HasSoundLines s
rules_sound_lines s is = record {
  links = all_of (λ l. Fits (judge s) (said_link l)) (λ l. AreEnds s.nodes l.from l.to) s.trace.links
      (λ l fits. ends_are s l.from l.to fits.range fits.known) is.links;
  links_ascend = climbs_pairs (λ a b. by_link a b ≡ Less) s.trace.links is.links_climb;
  losses = all_of (λ l. Fits (judge s) (said_loss l)) (λ l. IsStepOf s l.frame l.slot l.step × AreEnds s.nodes l.from l.to)
      s.trace.losses (loss_is s) is.losses;
  losses_ascend = climbs_pairs (λ a b. by_loss a b ≡ Less) s.trace.losses is.losses_climb;
  cuts = all_of (λ l. Fits (judge s) (said_cut l)) (λ l. IsStepOf s l.frame l.slot l.step × (knows s.nodes l.node ≡ true)) s.trace.cuts (cut_is s) is.cuts;
  cuts_ascend = climbs_pairs (λ a b. by_cut a b ≡ Less) s.trace.cuts is.cuts_climb;
  captures = all_of (λ l. Fits (judge s) (said_capture l)) (λ l. IsStepOf s l.frame l.slot l.step × AreEnds s.nodes l.at l.from)
      s.trace.captures (capture_is s) is.captures;
  captures_ascend = climbs_pairs (λ a b. by_capture a b ≡ Less) s.trace.captures is.captures_climb;
}

pub sound : (s : ScenarioParts) → IsScenario s → IsSoundScenario s
sound s said = rules_sound s (said_is s said)

pub sound_lines : (s : ScenarioParts) → IsScenario s → HasSoundLines s
sound_lines s said = rules_sound_lines s (said_is s said)
