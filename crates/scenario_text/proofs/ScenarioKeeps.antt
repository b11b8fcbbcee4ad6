-- What each line of a scenario keeps true of its draft.
use Rattle.std.proofs.Common.{◌≡◌, ◌≤◌, ℕ, ◌==◌, List, Some, None, Ok, IfOk, arith}
use Rattle.std.proofs.lemmas.Bool.{cond_both}
use Rattle.lwb_base.specs.Profile.{Numbers, one, contended}
use Rattle.link_trace.specs.Passes.{Lines}
use Rattle.scenario_text.specs.Network.{DraftedNetwork, with_script_line}
use Rattle.text_readers.specs.Words.{words}
use Rattle.scenario_text.specs.FloodDrafts.{IsNetwork}
use Rattle.scenario_text.specs.ScenarioDrafts.{IsScenarioDraft}
use Rattle.scenario_text.specs.ScenarioGrammar.{Scenario, line_fault, with_scenario_line, after_spelled, scenario_after_words}
use Rattle.scenario_text.specs.ScenarioGrammar.{no_scenario, scenario_line, scenario_numbers, last_tick}
use Rattle.text_readers.specs.Faults.{draft_after_lines}
use Rattle.text_readers.specs.Reading.{draft_after_line}
use Rattle.scenario_text.specs.declared.scenario_line.ScenarioLine.{ScenarioLine}
use Rattle.scenario_text.specs.declared.scenario_line.ScenarioLine.TheVariants.{InNetwork, Profile, Contend, Frames, Host, Script}
use Rattle.scenario_text.specs.declared.scenario_line.ScenarioLine.TheVariants.{Lose, Cut, Capture}
use Rattle.scenario_text.specs.declared.written_act.WrittenAct.TheVariants.{On, Off, Stream, Leave, Put}
use Rattle.scenario_text.proofs.FloodKeeps.{network_keeps}
use Rattle.text_readers.proofs.AllowedLines.{unless_keeps, spelled_keeps}
use Rattle.text_readers.proofs.LinesRead.{line_keeps, lines_keep}

-- with a script line more
kept : (d : DraftedNetwork) → IsNetwork d → {t : Lines} → IsNetwork (with_script_line d t)
kept d sound =
    record { sends = sound.sends; few_nodes = sound.few_nodes; rises = sound.rises; offsets = sound.offsets; follows = sound.follows; rates = sound.rates }

added_keeps : (d : Scenario) (l : ScenarioLine) → IsScenarioDraft d → line_fault d l ≡ None → IsScenarioDraft (with_scenario_line d l)
added_keeps d (InNetwork l) sound none =
    let frame = sound.frame in
    record { network = network_keeps (last_tick d.profile) d.network l (omega (arith, frame)) sound.network none; frame = frame }
added_keeps d (Profile p) sound none =
    record {
      network = sound.network;
      frame = cond_both (p == 2) (contended 0) one (λ (q : Numbers). q.frame ≤ 320000000) (λ is. omega arith)
          (λ not. omega arith);
    }
added_keeps d (Contend c) sound none = record { network = sound.network; frame = omega arith }
added_keeps d (Frames f) sound none = record { network = sound.network; frame = sound.frame }
added_keeps d (Host r i) sound none = record { network = sound.network; frame = sound.frame }
added_keeps d (Script f i On) sound none = record { network = kept d.network sound.network; frame = sound.frame }
added_keeps d (Script f i Off) sound none = record { network = kept d.network sound.network; frame = sound.frame }
added_keeps d (Script f i (Stream s n)) sound none = record { network = kept d.network sound.network; frame = sound.frame }
added_keeps d (Script f i (Leave s)) sound none = record { network = kept d.network sound.network; frame = sound.frame }
added_keeps d (Script f i (Put s (Some p))) sound none = record { network = kept d.network sound.network; frame = sound.frame }
added_keeps d (Script f i (Put s None)) sound none = record { network = sound.network; frame = sound.frame }
added_keeps d (Lose f j k u v) sound none = record { network = kept d.network sound.network; frame = sound.frame }
added_keeps d (Cut f j k i) sound none = record { network = kept d.network sound.network; frame = sound.frame }
added_keeps d (Capture f j k a b) sound none = record { network = kept d.network sound.network; frame = sound.frame }

words_keep : (d : Scenario) (ws : List (List ℕ)) → IsScenarioDraft d → IfOk (scenario_after_words d ws) IsScenarioDraft
unfolding scenario_after_words
words_keep d ws sound =
    spelled_keeps IsScenarioDraft (scenario_line ws) (λ (l : ScenarioLine). scenario_numbers l ws) (after_spelled d)
    (λ l is. unless_keeps IsScenarioDraft (line_fault d l) (with_scenario_line d l) (λ none. added_keeps d l sound none))

nothing_sound : (most : ℕ) → IsScenarioDraft (no_scenario most)
nothing_sound most = record {
  network = record { sends = tt; few_nodes = omega arith; rises = tt; offsets = tt; follows = tt; rates = tt };
  frame = omega arith;
}

-- after allowed lines
pub text_sound : (most : ℕ) (d : Scenario) (ls : List (List ℕ))
    → draft_after_lines (draft_after_line scenario_after_words) 1 (no_scenario most) ls ≡ Ok d → IsScenarioDraft d
text_sound most d ls is =
    lines_keep IsScenarioDraft (draft_after_line scenario_after_words)
    (λ e line sound. line_keeps IsScenarioDraft scenario_after_words e line sound (words_keep e (words line) sound))
    1 (no_scenario most) d ls (nothing_sound most) is
