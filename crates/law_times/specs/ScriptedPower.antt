-- Whether nodes are on, by the script alone.
use Rattle.std.specs.Prelude.{◌≡◌, ◌<◌, ℕ, zero, suc, Bool, true, false, ◌&&◌, ◌==◌, nat_lt, nat_le, fold}
use Rattle.std.specs.List.{list_any}
use Rattle.scenario_text.specs.ScenarioParts.{ScenarioParts}
use Rattle.scenario_text.specs.ScenarioFacts.{turned_by}
use Rattle.scenario_text.specs.declared.script.ScriptLine.{ScriptLine}
use Rattle.bus_rules.specs.declared.act.Act.{Act}
use Rattle.bus_rules.specs.declared.act.Act.TheVariants.{On, Off}
use Rattle.bus_terms.specs.ScriptedStates.{lines_of}

-- a script line more
abbrev pub power_after_line : Bool × ℕ → ScriptLine → Bool × ℕ
power_after_line t l = turned_by l.act t

-- whether v is on before the script lines of frame f, and how often it has booted by then
unfoldable pub power_before : ScenarioParts → ℕ → ℕ → Bool × ℕ
power_before s zero v = (false, 0)
power_before s (suc f) v = fold power_after_line (power_before s f v) (lines_of s f v)

-- and after them
abbrev pub power_in : ScenarioParts → ℕ → ℕ → Bool × ℕ
power_in s f v = power_before s (suc f) v

abbrev pub is_on_in : ScenarioParts → ℕ → ℕ → Bool
is_on_in s f v = (power_in s f v).0

abbrev pub turns_on : Act → Bool
turns_on On = true
turns_on other = false

abbrev pub turns_off : Act → Bool
turns_off Off = true
turns_off other = false

-- a line at v such as this, in a frame after b, up to frame e
abbrev pub has_line : (Act → Bool) → ScenarioParts → ℕ → ℕ → ℕ → Bool
has_line test s b e v = list_any (λ l. (l.node == v) && test l.act && nat_lt b l.frame && nat_le l.frame e) s.script

-- v boots in frame b, and is on after its script lines
pub record BootsIn (s : ScenarioParts) (b v : ℕ) : Type 0 where
  pub boots : (power_before s b v).1 < (power_in s b v).1
  pub on : is_on_in s b v ≡ true

-- no off line of v comes after frame b, up to frame e
abbrev pub StaysOn : ScenarioParts → ℕ → ℕ → ℕ → Type 0
StaysOn s b e v = has_line turns_off s b e v ≡ false

-- v is off in frame b, and no on line of v comes after it, up to frame e
pub record StaysOff (s : ScenarioParts) (b e v : ℕ) : Type 0 where
  pub off : is_on_in s b v ≡ false
  pub stays : has_line turns_on s b e v ≡ false
