-- A scenario with more lose lines.
use Rattle.std.specs.Prelude.{◌≡◌, ◌≢◌, ℕ, ◌+◌, ◌*◌, List, [], ◌∷◌, Bool, false, nat_le, if◌then◌else◌, Option, Ok, length, All}
use Rattle.std.specs.List.{AllPairs, list_any}
use Rattle.text_readers.specs.Faults.{first_fault}
use Rattle.text_readers.specs.declared.fault.FaultKind.{FaultKind}
use Rattle.text_readers.specs.declared.fault.FaultKind.TheVariants.{TooBig, TooMany}
use Rattle.link_trace.specs.Order.{by_loss, with_line}
use Rattle.link_trace.specs.Passes.{Lines, is_loss}
use Rattle.link_trace.specs.declared.lines.LoseLine.{LoseLine}
use Rattle.scenario_text.specs.Canonical.{canonical}
use Rattle.scenario_text.specs.PartsInOrder.{script_lines}
use Rattle.scenario_text.specs.ScenarioFacts.{AreEnds, IsStepOf}
use Rattle.scenario_text.specs.ScenarioGrammar.{scenario_of}
use Rattle.scenario_text.specs.ScenarioParts.{ScenarioParts}
use Rattle.scenario_text.specs.declared.limits.TheConstants.{RUN_NODE_FRAMES}
use Rattle.scenario_text.specs.OverLines.{over}
use Rattle.drawn_bus.specs.KeptLosses.{AddsLosses}
use Rattle.lwb_base.specs.declared.limits.TheConstants.{MOST_SCRIPT_LINES}

-- lines that s may have: of a link of two nodes in a step of a slot of one of its frames
abbrev pub AreInRange : ScenarioParts → List LoseLine → Type 0
AreInRange s more = All (λ l. IsStepOf s l.frame l.slot l.step × AreEnds s.nodes l.from l.to) more

-- t is s but for its trace, which is that of s with these losses more
pub record IsWithLosses (s : ScenarioParts) (more : List LoseLine) (t : ScenarioParts) : Type 0 where
  pub parts : t ≡ over s t.trace
  pub trace : AddsLosses s.trace t.trace more

-- the bytes are the canonical text of s with these losses more, and say it as what is to be run
abbrev pub SaysWithLosses : ScenarioParts → List LoseLine → List ℕ → Type 0
SaysWithLosses s more bytes = (t : ScenarioParts) × IsWithLosses s more t × (bytes ≡ canonical t) × (scenario_of bytes ≡ Ok t)

-- why there is no such text. That it is too big is said first, since no other lines would mend it
abbrev pub text_fault : ScenarioParts → List LoseLine → Option FaultKind
text_fault s more =
    first_fault
    ((nat_le (length s.nodes * s.frames) RUN_NODE_FRAMES, TooBig) ∷ (nat_le (script_lines s + length more) MOST_SCRIPT_LINES, TooMany) ∷ [])

-- one of these lines is l
abbrev pub has_line : List LoseLine → LoseLine → Bool
has_line ls l = list_any (is_loss l.frame l.slot l.step l.from l.to) ls

-- no two of the lines are the same, and none is among the losses already
pub record AreNewLosses (t : Lines) (more : List LoseLine) : Type 0 where
  pub apart : AllPairs (λ a b. a ≢ b) more
  pub new : All (λ l. has_line t.losses l ≡ false) more

-- Internal: the losses with one more at its place in their order, unless it is there
abbrev pub with_new_line : List LoseLine → LoseLine → List LoseLine
with_new_line ls l = if has_line ls l then ls else with_line by_loss l ls
