-- Each allowed line of the script keeps what is true of a draft.
use Rattle.std.proofs.Common.{◌≡◌, ℕ, ◌+◌, ◌≤◌, List, [], ◌∷◌, ◌++◌, true, false, nat_le, Option, Some, None, is_some, sym, ◌∙◌, ap, arith}
use Rattle.std.proofs.lemmas.Bool.{and_parts, ltb-true, false≢true}
use Rattle.std.proofs.lemmas.List.{length_push}
use Rattle.std.specs.List.{AllByRecursion}
use Rattle.std.specs.Option.{option_map_or}
use Rattle.lwb_base.specs.Profile.{Numbers}
use Rattle.lwb_base.proofs.Lists.{each_append}
use Rattle.scenario_text.specs.Network.{has_script_room}
use Rattle.scenario_text.specs.ScenarioGrammar.{Scenario, last_script_line, in_script_order}
use Rattle.scenario_text.specs.declared.lines.NodeLine.{NodeLine}
use Rattle.scenario_text.specs.declared.script.ScriptLine.{ScriptLine}
use Rattle.bus_rules.specs.declared.act.Act.{Act}
use Rattle.scenario_text.proofs.RatesKept.{climbs_more}
use Rattle.scenario_text.proofs.ScriptGoes.{power_more}
use Rattle.scenario_text.proofs.CanonicalFacts.{Power, no_power, after_act, can_boot, power_after, said_act, Fits, HasBytes, FitsAct, judged}
use Rattle.scenario_text.proofs.DraftFacts.{IsScript, IsFine, boots_more, none_later}

-- a script line
script_act : (p : Numbers) (f : Option ℕ) (ns : List NodeLine) (ls : List ScriptLine) (l : ScriptLine) → IsScript p f ns ls
    → FitsAct (judged p f ns) l → AllByRecursion (λ x. x.frame ≤ l.frame) ls
    → can_boot (power_after no_power ls) l.node l.act ≡ true → IsScript p f ns (ls ++ l ∷ [])
script_act p f ns ls l is fits before boot = record {
  fits = each_append (FitsAct (judged p f ns)) ls (l ∷ []) is.fits (fits, tt);
  climbs = climbs_more (λ a b. a.frame ≤ b.frame) ls l is.climbs before;
  boots = boots_more no_power ls l is.boots boot;
}

pub framed : (o : Option ℕ) → is_some o ≡ true → o ≡ None → ⊥
framed None some none = false≢true some
framed (Some n) some none = cc

abbrev pub power_of : Scenario → Power
power_of d = record { on = d.on; boots = d.boots }

abbrev pub next : Scenario → ℕ → ℕ → Act → Scenario
next d f i a = record d {
  network = record {
    sends = d.network.sends;
    nodes = d.network.nodes;
    rates = d.network.rates;
    trace = d.network.trace;
    scripted = d.network.scripted + 1;
    most = d.network.most;
  };
  first = false;
  after_two = false;
  script = d.script ++ record { frame = f; node = i; act = a } ∷ [];
  on = (after_act (power_of d) i a).on;
  boots = (after_act (power_of d) i a).boots;
}

pub act_fine : (d : Scenario) (f i : ℕ) (a : Act) → IsFine d → Fits (judged d.profile d.frames d.network.nodes) (said_act f i a) → HasBytes a
    → in_script_order d f ≡ true → has_script_room d.network ≡ true → can_boot (power_of d) i a ≡ true → IsFine (next d f i a)
act_fine d f i a fine fits bytes order room boot =
    let n = fine.network in
    let l : ScriptLine = record { frame = f; node = i; act = a } in
    let parts = and_parts (is_some d.frames) (option_map_or (λ x. nat_le x.frame f) (last_script_line d.script) true) order in
    let before = none_later f d.script fine.script.climbs parts.1 in
    let limit = fine.limit in
    let few = ltb-true d.network.scripted d.network.most room in
    let counted = fine.counted in
    record {
      network = record { sends = n.sends; few_nodes = n.few_nodes; rises = n.rises; offsets = n.offsets; follows = n.follows; rates = n.rates };
      first = λ is. absurd (false≢true is);
      second = λ is. absurd (false≢true is);
      profile = fine.profile;
      frames = fine.frames;
      ids = fine.ids;
      ticks = fine.ticks;
      hosts = fine.hosts;
      script = script_act d.profile d.frames d.network.nodes d.script l fine.script (record { fits = fits; bytes = bytes }) before
          (ap (λ (w : Power). can_boot w i a) (sym fine.power) ∙ boot);
      trace = fine.trace;
      unframed = λ none. absurd (framed d.frames parts.0 none);
      power = ap (λ (w : Power). after_act w i a) fine.power ∙ sym (power_more no_power d.script l);
      counted = omega (arith, counted, length_push d.script l);
      few = omega (arith, few, limit);
      limit = limit;
    }
