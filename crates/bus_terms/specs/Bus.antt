-- The network as one shared bus, frame by frame: what is delivered, what is lost before it is queued, and what it costs.
use Rattle.std.specs.Prelude.{◌≡◌, ◌<◌, ℕ, zero, suc, List, length, take, fold, flat_map, filter_map, sum_by, count_by, AllPairs}
use Rattle.std.specs.List.{range_with_len, enumerate_from}
use Rattle.std.specs.declared.option.Option.{Option}
use Rattle.scenario_text.specs.ScenarioParts.{ScenarioParts}
use Rattle.scenario_text.specs.declared.script.ScriptLine.{ScriptLine}
use Rattle.bus_rules.specs.declared.delivery.Delivery.{Delivery}
use Rattle.bus_rules.specs.declared.delivery.DropLine.{DropLine}
use Rattle.bus_rules.specs.States.{State, StateOff}
use Rattle.bus_rules.specs.Tuning.{is_scan}
use Rattle.bus_terms.specs.Costs.{slot_sent, slot_window, over_round}
use Rattle.bus_terms.specs.Rounds.{Slot, rounds, rank_in, round_deliveries}
use Rattle.bus_terms.specs.ScriptedStates.{state_after_line, states_after_end, is_on_and, lost_by, states_after_script, told_above}

-- one frame: the script, the rounds of all ranks, the end
abbrev pub states_after_frame : ScenarioParts → ℕ → (ℕ → State) → ℕ → State
states_after_frame s f states = states_after_end s f (rounds s f (states_after_script s f states))

-- each node before the script lines of frame f. All are off at first
unfoldable pub before_frame : ScenarioParts → ℕ → ℕ → State
before_frame s zero = λ (v : ℕ). StateOff 0
before_frame s (suc f) = states_after_frame s f (before_frame s f)

-- and after them
abbrev pub state_at : ScenarioParts → ℕ → ℕ → State
state_at s f = states_after_script s f (before_frame s f)

abbrev pub frames_of : ScenarioParts → List ℕ
frames_of s = range_with_len 0 s.frames

abbrev pub ranks_of : ScenarioParts → List ℕ
ranks_of s = range_with_len 0 (length s.hosts)

-- by frame, rank, slot and node
abbrev pub bus_deliveries : ScenarioParts → List Delivery
bus_deliveries s = flat_map (λ f. flat_map (λ rank. round_deliveries s rank f (state_at s f)) (ranks_of s)) (frames_of s)

-- the node of a line just before it, where these lines are above it
abbrev pub state_before_line : ScenarioParts → List ScriptLine → ScriptLine → State
state_before_line s above l = fold state_after_line (before_frame s l.frame l.node) (told_above above l)

-- what line l at place i of the script loses: its packet, if its node rejects that as the lines above leave it
abbrev pub drop_at : ScenarioParts → ℕ × ScriptLine → Option DropLine
drop_at s (i, l) = lost_by l l.act (state_before_line s (take i s.script) l)

-- what all lines lose, in the order of the text
abbrev pub bus_drops : ScenarioParts → List DropLine
bus_drops s = filter_map (drop_at s) (enumerate_from 0 s.script)

-- how long a node sends and what its windows count, in ticks; and the number of frames in which it scans
pub record Cost : Type 0 where
  pub sent : ℕ
  pub windows : ℕ
  pub scanned : ℕ

-- a node takes part in the round of its own rank alone
abbrev pub over_frames : (Slot → ℕ) → ScenarioParts → ℕ → ℕ
over_frames cost s v = sum_by (λ f. over_round cost s (rank_in (state_at s f v)) f (state_at s f)) (frames_of s)

abbrev pub bus_cost : ScenarioParts → ℕ → Cost
bus_cost s v = record {
  sent = over_frames (λ x. slot_sent s.profile x v) s v;
  windows = over_frames (λ x. slot_window s.profile x v) s v;
  scanned = count_by (λ f. is_on_and (λ c. is_scan c.tune) (state_at s f v)) (frames_of s);
}

-- of two deliveries to one node from one stream of one boot the later one has the greater number
abbrev pub InOrder : Delivery → Delivery → Type 0
InOrder a b = a.node ≡ b.node → a.from ≡ b.from → a.boot ≡ b.boot → a.stream ≡ b.stream → a.seq < b.seq

-- each stream in order, and no packet twice
abbrev pub Ordered : List Delivery → Type 0
Ordered ds = AllPairs InOrder ds
