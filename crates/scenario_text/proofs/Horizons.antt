-- What a text says within some limits, and within others.
use Rattle.std.proofs.Common.{◌≡◌, ℕ, ◌+◌, ◌*◌, ◌≤◌, List, Bool, true, false, ◌==◌, nat_le, if◌then◌else◌, Some, None, Option, Ok, Err, Result, IfOk}
use Rattle.std.proofs.Common.{◌↔◌, length, refl, sym, ◌∙◌, ap, subst, arith}
use Rattle.std.proofs.Math.Nat.{le_trans}
use Rattle.std.proofs.lemmas.Bool.{cond-true, leb-true, le-leb}
use Rattle.std.specs.Str.Lines.{lines}
use Rattle.text_readers.specs.Faults.{in_line, ◌>>=◌}
use Rattle.text_readers.specs.declared.fault.FaultKind.{FaultKind}
use Rattle.text_readers.specs.declared.fault.FaultKind.TheVariants.{Missing, TooBig}
use Rattle.lwb_base.specs.declared.limits.TheConstants.{MOST_SCRIPT_LINES}
use Rattle.scenario_text.specs.Canonical.{canonical}
use Rattle.scenario_text.specs.Network.{Parts, network_parts}
use Rattle.scenario_text.specs.PartsInOrder.{script_lines}
use Rattle.scenario_text.specs.ScenarioGrammar.{Scenario, no_scenario, finished_parts, whole_within, if_small, run_limits, long_limits}
use Rattle.scenario_text.specs.ScenarioGrammar.{scenario_of_lines, scenario_of, long_scenario_of, IsScenario}
use Rattle.scenario_text.specs.ScenarioParts.{ScenarioParts}
use Rattle.scenario_text.specs.declared.limits.TheConstants.{RUN_NODE_FRAMES, BUS_NODE_FRAMES, BUS_SCRIPT_LINES}
use Rattle.scenario_text.specs.declared.limits.Limits.{Limits}
use Rattle.scenario_text.proofs.SaidParts.{fine_lines, finished_counted, says_again}
use Rattle.scenario_text.proofs.ScriptRoom.{after_all, few_script_lines, limited, said_there, whole_there}

-- it has few enough nodes and frames, and is said with each bound that it is within
abbrev SaidWithin : {E : Type 0} → (ℕ → Result ScenarioParts E) → ℕ → ScenarioParts → Type 0
SaidWithin said most s = (length s.nodes * s.frames ≤ most) × ((other : ℕ) → length s.nodes * s.frames ≤ other → said other ≡ Ok s)

small_within : (most : ℕ) (x s : ScenarioParts) → if_small most x ≡ Ok s → SaidWithin (λ n. if_small n x) most s
small_within most x s is = by_test (nat_le (length x.nodes * x.frames) most) refl is
  where
    by_test : (b : Bool) → nat_le (length x.nodes * x.frames) most ≡ b → ◌≡◌ {A = Result ScenarioParts FaultKind} (if b then Ok x else Err TooBig) (Ok s)
        → SaidWithin (λ n. if_small n x) most s
    by_test false test is = cc
    by_test true test is =
        let same : x ≡ s = subst (λ (r : Result ScenarioParts FaultKind). IfOk r (λ y. x ≡ y)) is refl in (
          subst (λ (y : ScenarioParts). length y.nodes * y.frames ≤ most) same (leb-true (length x.nodes * x.frames) most test),
          λ other below. (
              let within = subst (λ (y : ScenarioParts). length y.nodes * y.frames ≤ other) (sym same) below in
              cond-true (nat_le (length x.nodes * x.frames) other) (Ok x) (Err TooBig) (le-leb (length x.nodes * x.frames) other within) ∙ ap Ok same
              ),
        )

finished_within : (most : ℕ) (d : Scenario) (o : Option Parts) (f : Option ℕ) (s : ScenarioParts) → finished_parts most d o f ≡ Ok s
    → SaidWithin (λ n. finished_parts n d o f) most s
finished_within most d None f s is = cc
finished_within most d (Some p) None s is = cc
finished_within most d (Some p) (Some f) s is = by_hosts (length d.hosts == 0) is
  where
    x : ScenarioParts
    x = record {
      profile = d.profile;
      frames = f;
      sends = p.sends;
      nodes = p.nodes;
      rates = p.rates;
      hosts = d.hosts;
      trace = p.trace;
      script = d.script;
    }

    by_hosts : (b : Bool) → (if b then Err Missing else if_small most x) ≡ Ok s → SaidWithin (λ n. if b then Err Missing else if_small n x) most s
    by_hosts true is = cc
    by_hosts false is = small_within most x s is

at_end : (n : ℕ) (q : Result ScenarioParts FaultKind) (s : ScenarioParts) → in_line n q ≡ Ok s → q ≡ Ok s
at_end n (Err k) s is = cc
at_end n (Ok x) s is = ap Ok (subst (λ (r : Result ScenarioParts (ℕ × FaultKind)). IfOk r (λ y. x ≡ y)) is refl)

-- what some limits let through, others let through that it is within
module _ (a b : Limits) (ls : List (List ℕ)) (s : ScenarioParts) where
  abbrev ended : Limits → Scenario → Result ScenarioParts (ℕ × FaultKind)
  ended l d = in_line (length ls + 1) (whole_within l.node_frames d)

  -- it is what a draft says at its end, of which there is one with the other limit too, unless there are more script lines
  record IsSaid : Type 0 where
    d : Scenario
    small : length s.nodes * s.frames ≤ a.node_frames
    few : d.network.scripted ≤ a.script_lines
    whole : (n : ℕ) → length s.nodes * s.frames ≤ n → whole_within n d ≡ Ok s
    read : after_all 1 (no_scenario a.script_lines) ls ≡ Ok d

  said : scenario_of_lines a ls ≡ Ok s → IsSaid
  said is = by_lines (after_all 1 (no_scenario a.script_lines) ls) refl is
    where
      by_lines : (r : Result Scenario (ℕ × FaultKind)) → after_all 1 (no_scenario a.script_lines) ls ≡ r → (r >>= ended a) ≡ Ok s → IsSaid
      by_lines (Err k) read is = cc
      by_lines (Ok d) read is =
          let within = finished_within a.node_frames d (network_parts d.network d.network.sends) d.frames s
          (at_end (length ls + 1) (whole_within a.node_frames d) s is) in
          record { d = d; small = within.0; few = few_script_lines a.script_lines d ls read; whole = within.1; read = read }

  -- that draft, seen over the long horizon
  said_counted : (is : IsSaid) → length s.nodes * s.frames ≤ BUS_NODE_FRAMES → is.d.network.scripted ≤ BUS_SCRIPT_LINES
      → script_lines s ≡ is.d.network.scripted
  said_counted is small few =
      let there = said_there a.script_lines BUS_SCRIPT_LINES is.d ls is.read few in
      finished_counted (limited BUS_SCRIPT_LINES is.d) s (fine_lines (limited BUS_SCRIPT_LINES is.d) ls there)
      (whole_there BUS_NODE_FRAMES BUS_SCRIPT_LINES is.d ∙ is.whole BUS_NODE_FRAMES small)

  said_with : (is : IsSaid) → length s.nodes * s.frames ≤ b.node_frames → is.d.network.scripted ≤ b.script_lines → scenario_of_lines b ls ≡ Ok s
  said_with is small few =
      ap (λ (r : Result Scenario (ℕ × FaultKind)). r >>= ended b) (said_there a.script_lines b.script_lines is.d ls is.read few)
      ∙ ap (λ (r : Result ScenarioParts FaultKind). in_line (length ls + 1) r)
      (whole_there b.node_frames b.script_lines is.d ∙ is.whole b.node_frames small)

-- a text within these limits says the same over the long horizon, and is within them
module _ (l : Limits) (ls : List (List ℕ)) (s : ScenarioParts) (frames : l.node_frames ≤ BUS_NODE_FRAMES) (lines : l.script_lines ≤ BUS_SCRIPT_LINES)
    (is : scenario_of_lines l ls ≡ Ok s) where
  draft : IsSaid l long_limits ls s
  draft = said l long_limits ls s is

  pub said_long : scenario_of_lines long_limits ls ≡ Ok s
  said_long = said_with l long_limits ls s draft (le_trans draft.small frames) (le_trans draft.few lines)

  pub within_limits : (length s.nodes * s.frames ≤ l.node_frames) × (script_lines s ≤ l.script_lines)
  within_limits =
      let counted = said_counted l long_limits ls s draft (le_trans draft.small frames) (le_trans draft.few lines) in
      let few = draft.few in
      (draft.small, omega (arith, counted, few))

-- and what is said there is said within limits that it is within
pub said_within : (l : Limits) (ls : List (List ℕ)) (s : ScenarioParts) → scenario_of_lines long_limits ls ≡ Ok s
    → length s.nodes * s.frames ≤ l.node_frames → script_lines s ≤ l.script_lines → scenario_of_lines l ls ≡ Ok s
said_within l ls s is small few =
    let draft = said long_limits l ls s is in
    let counted = said_counted long_limits l ls s draft draft.small draft.few in
    said_with long_limits l ls s draft small (omega (arith, counted, few))

-- what is said to be run is said over the long horizon, and what is said there is said to be run if it is small enough
pub said_to_run : (bytes : List ℕ) (s : ScenarioParts) → (scenario_of bytes ≡ Ok s) ↔ ((long_scenario_of bytes ≡ Ok s)
    × (length s.nodes * s.frames ≤ RUN_NODE_FRAMES) × (script_lines s ≤ MOST_SCRIPT_LINES))
said_to_run bytes s = (
  λ is. (
      let within = within_limits run_limits (lines bytes) s (omega arith) (omega arith) is in
      (said_long run_limits (lines bytes) s (omega arith) (omega arith) is, within.0, within.1)
      ),
  λ all. said_within run_limits (lines bytes) s all.0 all.1 all.2,
)

-- what is read to be run is a scenario
pub run_is_scenario : (bytes : List ℕ) (s : ScenarioParts) → scenario_of bytes ≡ Ok s → IsScenario s
run_is_scenario bytes s is = (bytes, ((said_to_run bytes s).0 is).0)

pub says_again_to_run : (s : ScenarioParts) (text : List ℕ) → text ≡ canonical s → IsScenario s → length s.nodes * s.frames ≤ RUN_NODE_FRAMES
    → script_lines s ≤ MOST_SCRIPT_LINES → scenario_of text ≡ Ok s
says_again_to_run s text is said small few = (said_to_run text s).1 (says_again s text is said, small, few)
