-- What is printed of a scenario that may be run: by its lines, so that nothing else of the text has to be read.
use Rattle.std.specs.Prelude.{◌≡◌, ◌*◌, ◌≤◌, ℕ, List, [], ◌∷◌, ◌++◌, codes, filter, length, map, nat_eq}
use Rattle.std.specs.List.{starts_with}
use Rattle.std.specs.Str.Lines.{lines}
use Rattle.lwb_base.specs.Sorting.{in_order}
use Rattle.lwb_base.specs.declared.limits.TheConstants.{MOST_SCRIPT_LINES}
use Rattle.scenario_text.specs.PartsInOrder.{IsInOrder, script_lines}
use Rattle.scenario_text.specs.ScenarioParts.{ScenarioParts}
use Rattle.scenario_text.specs.declared.limits.TheConstants.{RUN_NODE_FRAMES}
use Rattle.bus_report.specs.ReportLines.{delivery_line}
use Rattle.bus_terms.specs.Bus.{bus_deliveries}
use Rattle.air_log.specs.declared.entry.Entry.{Entry}
use Rattle.air_log.specs.Entries.{sendings_of}
use Rattle.air_log.specs.LogText.{entry_is_before, sent_line}
use Rattle.air_log.specs.Safe.{WithinOneFrame, NoOverlap, SameButForCounter, OneInitiator}

-- the parts are those of a scenario, and few enough for a run with a log
pub record CanBeRun (s : ScenarioParts) : Type 0 where
  pub in_order : IsInOrder s
  pub few : length s.nodes * s.frames ≤ RUN_NODE_FRAMES
  pub few_lines : script_lines s ≤ MOST_SCRIPT_LINES

-- the lines of a text that begin with this word and a space, each with its line feed
abbrev pub lines_with : List ℕ → List ℕ → List (List ℕ)
lines_with word text = map (λ l. l ++ 10 ∷ []) (filter (λ l. starts_with nat_eq l (word ++ 32 ∷ [])) (lines text))

-- the lines `deliver` are the deliveries of the ideal single-hop bus, in its order
abbrev pub PrintsDeliveries : ScenarioParts → List ℕ → Type 0
PrintsDeliveries s text = lines_with (codes "deliver") text ≡ map delivery_line (bus_deliveries s)

-- the lines `sent` are the transmissions of this log, in the order of log texts; and in the log different frames, slots and steps never
-- overlap, relays of one data or schedule flood differ only by counter, and one node at most initiates in a slot in which data is said
pub record PrintsSafeLog (s : ScenarioParts) (text : List ℕ) : Type 0 where
  pub log : List Entry
  pub is : lines_with (codes "sent") text ≡ map sent_line (sendings_of (in_order entry_is_before log))
  pub within_one_frame : WithinOneFrame s log
  pub no_overlap : NoOverlap s log
  pub same_but_for_counter : SameButForCounter s log
  pub one_initiator : OneInitiator s log
