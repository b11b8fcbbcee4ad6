-- The text of a scenario: what its lines say, and the first line that is rejected.
use Rattle.std.specs.Prelude.{◌≡◌, ℕ, ◌+◌, ◌-◌, ◌*◌, List, [], ◌∷◌, ◌++◌, Bool, true, false, not, ◌&&◌, ◌||◌, ◌==◌, nat_lt}
use Rattle.std.specs.Prelude.{nat_le, if◌then◌else◌, Some, None, Option, is_none, is_some, Ok, Err, Result, length, drop, codes}
use Rattle.std.specs.Prelude.{replicate, slice_get, slice_set, slice_index, slice_index_or}
use Rattle.std.specs.List.{list_all, list_any}
use Rattle.std.specs.Option.{option_map_or}
use Rattle.std.specs.Str.Lines.{lines}
use Rattle.lwb_base.specs.Profile.{Numbers, one, contended}
use Rattle.lwb_base.specs.Messages.{greatest_slot}
use Rattle.lwb_base.specs.declared.limits.TheConstants.{LAST_RANK, LAST_STEP, MOST_BOOTS, MOST_FRAMES, MOST_SCRIPT_LINES, PLACES_BY_ID}
use Rattle.link_trace.specs.Passes.{Lines}
use Rattle.scenario_text.specs.FloodParts.{knows}
use Rattle.scenario_text.specs.ScenarioParts.{ScenarioParts}
use Rattle.text_readers.specs.Faults.{first_fault, unless_fault, spelled, in_line, ◌>>=◌, draft_after_lines}
use Rattle.text_readers.specs.Reading.{draft_after_line}
use Rattle.scenario_text.specs.ScriptGrammar.{first_word_is, script_line, act_numbers, act_in_range, act_of}
use Rattle.text_readers.specs.Words.{is_number, number_at, line_of_words}
use Rattle.scenario_text.specs.Network.{DraftedNetwork, Parts, network_parts, network_numbers, no_network, is_id, are_ends}
use Rattle.scenario_text.specs.Network.{has_loss, has_cut, has_capture, has_script_room, with_network_line, with_loss_at, with_cut_at}
use Rattle.scenario_text.specs.Network.{with_capture_at, with_script_line, numbers_in_range, knows_ids, rates_in_order, is_new, has_room}
use Rattle.text_readers.specs.declared.fault.FaultKind.{FaultKind}
use Rattle.text_readers.specs.declared.fault.FaultKind.TheVariants.{Range, UnknownNode, Order, Twice, TooMany, Missing, TooBig}
use Rattle.scenario_text.specs.declared.scenario_line.ScenarioLine.{ScenarioLine}
use Rattle.scenario_text.specs.declared.scenario_line.ScenarioLine.TheVariants.{InNetwork, Profile, Contend, Frames, Host, Script}
use Rattle.scenario_text.specs.declared.scenario_line.ScenarioLine.TheVariants.{Lose, Cut, Capture}
use Rattle.scenario_text.specs.declared.limits.Limits.{Limits}
use Rattle.scenario_text.specs.declared.limits.TheConstants.{RUN_NODE_FRAMES, BUS_NODE_FRAMES, BUS_SCRIPT_LINES}
use Rattle.scenario_text.specs.declared.script.ScriptLine.{ScriptLine}
use Rattle.bus_rules.specs.declared.act.Act.{Act}
use Rattle.bus_rules.specs.declared.act.Act.TheVariants as act

-- what the words say, if they are those of a line
unfoldable pub scenario_line : List (List ℕ) → Option ScenarioLine
scenario_line ws =
    if first_word_is ws (codes "profile") then line_of_words 2 ws (Profile (number_at ws 1))
    else if first_word_is ws (codes "contend") then line_of_words 2 ws (Contend (number_at ws 1))
    else if first_word_is ws (codes "frames") then line_of_words 2 ws (Frames (number_at ws 1))
    else if first_word_is ws (codes "host") then line_of_words 3 ws (Host (number_at ws 1) (number_at ws 2))
    else script_line ws

-- the numbers of the line are spelled right
abbrev pub scenario_numbers : ScenarioLine → List (List ℕ) → Bool
scenario_numbers (InNetwork l) ws = network_numbers l ws
scenario_numbers (Script f i a) ws = act_numbers a ws
scenario_numbers other ws = list_all is_number (drop 1 ws)

-- what the lines above say: whether there are none, whether the last of them is `profile 2`, the profile, the frames, the
-- hosts by rank, the script, and for each id whether the node is on and how often it booted
pub record Scenario : Type 0 where
  pub network : DraftedNetwork
  pub first : Bool
  pub after_two : Bool
  pub profile : Numbers
  pub frames : Option ℕ
  pub hosts : List ℕ
  pub script : List ScriptLine
  pub on : List Bool
  pub boots : List ℕ

-- no line, with the most script lines that there may be
abbrev pub no_scenario : ℕ → Scenario
no_scenario most = record {
  network = no_network most;
  first = true;
  after_two = false;
  profile = one;
  frames = None;
  hosts = [];
  script = [];
  on = replicate PLACES_BY_ID false;
  boots = replicate PLACES_BY_ID 0;
}

-- the end of the last frame that a scenario may have
abbrev pub last_tick : Numbers → ℕ
last_tick p = MOST_FRAMES * p.frame

abbrev pub greatest_slot_of : Numbers → ℕ
greatest_slot_of p = greatest_slot p.contend

-- a frame number, which is below the number of frames once that is known
abbrev pub is_frame : Option ℕ → ℕ → Bool
is_frame None f = nat_le f 4095
is_frame (Some n) f = nat_lt f n

-- a step of a slot of a frame
abbrev pub is_step : Scenario → ℕ → ℕ → ℕ → Bool
is_step d f j k = is_frame d.frames f && nat_le j (greatest_slot_of d.profile) && nat_le k LAST_STEP

-- the numbers of the line are in their ranges
abbrev pub line_in_range : Scenario → ScenarioLine → Bool
line_in_range d (InNetwork l) = numbers_in_range (last_tick d.profile) l
line_in_range d (Profile p) = nat_le 1 p && nat_le p 2
line_in_range d (Contend c) = nat_le 1 c && nat_le c 4
line_in_range d (Frames f) = nat_le 1 f && nat_le f MOST_FRAMES
line_in_range d (Host r i) = nat_le r LAST_RANK && is_id i
line_in_range d (Script f i a) = is_frame d.frames f && is_id i && act_in_range d.profile a
line_in_range d (Lose f j k u v) = is_step d f j k && are_ends u v
line_in_range d (Cut f j k i) = is_step d f j k && is_id i
line_in_range d (Capture f j k a b) = is_step d f j k && are_ends a b

-- the ids of the line have lines above
abbrev pub line_knows_ids : Scenario → ScenarioLine → Bool
line_knows_ids d (InNetwork l) = knows_ids d.network l
line_knows_ids d (Profile p) = true
line_knows_ids d (Contend c) = true
line_knows_ids d (Frames f) = true
line_knows_ids d (Host r i) = knows d.network.nodes i
line_knows_ids d (Script f i a) = knows d.network.nodes i
line_knows_ids d (Lose f j k u v) = knows d.network.nodes u && knows d.network.nodes v
line_knows_ids d (Cut f j k i) = knows d.network.nodes i
line_knows_ids d (Capture f j k a b) = knows d.network.nodes a && knows d.network.nodes b

abbrev pub last_script_line : List ScriptLine → Option ScriptLine
last_script_line ls = slice_get ls (length ls - 1)

-- frames are given, and no line of the script is of a later frame
abbrev pub in_script_order : Scenario → ℕ → Bool
in_script_order d f = is_some d.frames && option_map_or (λ l. nat_le l.frame f) (last_script_line d.script) true

-- the line may be here
abbrev pub line_in_order : Scenario → ScenarioLine → Bool
line_in_order d (InNetwork l) = rates_in_order d.network l
line_in_order d (Profile p) = d.first
line_in_order d (Contend c) = d.after_two
line_in_order d (Frames f) = true
line_in_order d (Host r i) = nat_le r (length d.hosts)
line_in_order d (Script f i a) = in_script_order d f
line_in_order d (Lose f j k u v) = is_some d.frames
line_in_order d (Cut f j k i) = is_some d.frames
line_in_order d (Capture f j k a b) = is_some d.frames

-- no line above says the same
abbrev pub line_is_new : Scenario → ScenarioLine → Bool
line_is_new d (InNetwork l) = is_new d.network l
line_is_new d (Profile p) = true
line_is_new d (Contend c) = true
line_is_new d (Frames f) = is_none d.frames
line_is_new d (Host r i) = (r == length d.hosts) && not (list_any (λ h. h == i) d.hosts)
line_is_new d (Script f i a) = true
line_is_new d (Lose f j k u v) = not (has_loss d.network.trace f j k u v)
line_is_new d (Cut f j k i) = not (has_cut d.network.trace f j k i)
line_is_new d (Capture f j k a b) = not (has_capture d.network.trace f j k a)

abbrev pub node_is_on : Scenario → ℕ → Bool
node_is_on d i = slice_index_or d.on i false

abbrev pub boots_of : Scenario → ℕ → ℕ
boots_of d i = slice_index d.boots i

-- a node that is off boots once more where that is not too often
abbrev pub may_take : Scenario → ℕ → Act → Bool
may_take d i act.On = node_is_on d i || nat_lt (boots_of d i) MOST_BOOTS
may_take d i other = true

-- there are not too many nodes, script lines or boots yet
abbrev pub line_has_room : Scenario → ScenarioLine → Bool
line_has_room d (InNetwork l) = has_room d.network l
line_has_room d (Profile p) = true
line_has_room d (Contend c) = true
line_has_room d (Frames f) = true
line_has_room d (Host r i) = true
line_has_room d (Script f i a) = has_script_room d.network && option_map_or (may_take d i) (act_of a) true
line_has_room d (Lose f j k u v) = has_script_room d.network
line_has_room d (Cut f j k i) = has_script_room d.network
line_has_room d (Capture f j k a b) = has_script_room d.network

-- the fault of a line that is spelled right
abbrev pub line_fault : Scenario → ScenarioLine → Option FaultKind
line_fault d l =
    first_fault
    ((line_in_range d l, Range) ∷ (line_knows_ids d l, UnknownNode) ∷ (line_in_order d l, Order) ∷ (line_is_new d l, Twice)
    ∷ (line_has_room d l, TooMany) ∷ [])

-- with a line more of the script
abbrev pub with_act : Scenario → ℕ → ℕ → Act → Scenario
with_act d f i a = record d { network = with_script_line d.network d.network.trace; script = d.script ++ record { frame = f; node = i; act = a } ∷ [] }

-- with a line more that changes the trace
abbrev pub with_trace : Scenario → Lines → Scenario
with_trace d t = record d { network = with_script_line d.network t }

-- the node is on: it boots, where it was off
abbrev pub with_boot : Scenario → ℕ → Scenario
with_boot d i = record d { on = slice_set d.on i true; boots = slice_set d.boots i (if node_is_on d i then boots_of d i else boots_of d i + 1) }

-- the node is on, off, or as it was
abbrev pub with_power : Scenario → ℕ → Act → Scenario
with_power d i act.On = with_boot d i
with_power d i act.Off = record d { on = slice_set d.on i false }
with_power d i other = d

-- with one more line of the script, if it says what the node has to do
abbrev pub with_act_if : Scenario → ℕ → ℕ → Option Act → Scenario
with_act_if d f i None = d
with_act_if d f i (Some a) = with_act (with_power d i a) f i a

-- what the lines say with an allowed line more
abbrev pub line_added : Scenario → ScenarioLine → Scenario
line_added d (InNetwork l) = record d { network = with_network_line d.network l }
line_added d (Profile p) = record d { profile = if p == 2 then contended 0 else one }
line_added d (Contend c) = record d { profile = contended c }
line_added d (Frames f) = record d { frames = Some f }
line_added d (Host r i) = record d { hosts = d.hosts ++ i ∷ [] }
line_added d (Script f i a) = with_act_if d f i (act_of a)
line_added d (Lose f j k u v) = with_trace d (with_loss_at f j k u v d.network.trace)
line_added d (Cut f j k i) = with_trace d (with_cut_at f j k i d.network.trace)
line_added d (Capture f j k a b) = with_trace d (with_capture_at f j k a b d.network.trace)

abbrev pub is_profile_two : ScenarioLine → Bool
is_profile_two (Profile p) = p == 2
is_profile_two other = false

-- and that it is above
abbrev pub with_scenario_line : Scenario → ScenarioLine → Scenario
with_scenario_line d l = record (line_added d l) { first = false; after_two = is_profile_two l }

-- after a line that is spelled right, or its fault
abbrev pub after_spelled : Scenario → ScenarioLine → Result Scenario FaultKind
after_spelled d l = unless_fault (line_fault d l) (with_scenario_line d l)

-- after a line of these words, or its fault
unfoldable pub scenario_after_words : Scenario → List (List ℕ) → Result Scenario FaultKind
scenario_after_words d ws = do
  l ← spelled (scenario_line ws) (λ l. scenario_numbers l ws)
  after_spelled d l

-- there are not too many nodes for the frames: nodes times frames is at most that
abbrev pub if_small : ℕ → ScenarioParts → Result ScenarioParts FaultKind
if_small most s = if nat_le (length s.nodes * s.frames) most then Ok s else Err TooBig

-- what a whole text says, which has frames, transmissions, two nodes at least, and a host
abbrev pub finished_parts : ℕ → Scenario → Option Parts → Option ℕ → Result ScenarioParts FaultKind
finished_parts most d (Some p) (Some f) =
    if length d.hosts == 0 then Err Missing
    else if_small most (record {
      profile = d.profile;
      frames = f;
      sends = p.sends;
      nodes = p.nodes;
      rates = p.rates;
      hosts = d.hosts;
      trace = p.trace;
      script = d.script;
    })
finished_parts most d None f = Err Missing
finished_parts most d (Some p) None = Err Missing

abbrev pub whole_within : ℕ → Scenario → Result ScenarioParts FaultKind
whole_within most d = finished_parts most d (network_parts d.network d.network.sends) d.frames

-- what the lines say, or their first fault and its line. What is missing is missing after the last line
abbrev pub scenario_of_lines : Limits → List (List ℕ) → Result ScenarioParts (ℕ × FaultKind)
scenario_of_lines limits ls = do
  d ← draft_after_lines (draft_after_line scenario_after_words) 1 (no_scenario limits.script_lines) ls
  in_line (length ls + 1) (whole_within limits.node_frames d)

abbrev pub scenario_within : Limits → List ℕ → Result ScenarioParts (ℕ × FaultKind)
scenario_within limits bytes = scenario_of_lines limits (lines bytes)

-- the limits of a text that is to be run, and those of the long horizon
abbrev pub run_limits : Limits
run_limits = record { node_frames = RUN_NODE_FRAMES; script_lines = MOST_SCRIPT_LINES }

abbrev pub long_limits : Limits
long_limits = record { node_frames = BUS_NODE_FRAMES; script_lines = BUS_SCRIPT_LINES }

-- what the bytes say that are to be run, and what they say over the long horizon
abbrev pub scenario_of : List ℕ → Result ScenarioParts (ℕ × FaultKind)
scenario_of bytes = scenario_within run_limits bytes

abbrev pub long_scenario_of : List ℕ → Result ScenarioParts (ℕ × FaultKind)
long_scenario_of bytes = scenario_within long_limits bytes

-- some text says it over the long horizon
abbrev pub IsScenario : ScenarioParts → Type 0
IsScenario s = (bytes : List ℕ) × (long_scenario_of bytes ≡ Ok s)
