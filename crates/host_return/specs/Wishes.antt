-- Internal: what the lines of a script make of the requested interval of a stream.
use Rattle.std.specs.Prelude.{ℕ, List, Bool, true, false, ◌&&◌, ◌==◌, nat_le, if◌then◌else◌, fold}
use Rattle.bus_rules.specs.declared.act.Act.{Act}
use Rattle.bus_rules.specs.declared.act.Act.TheVariants.{On, Off}
use Rattle.bus_rules.specs.States.{wish_after}
use Rattle.scenario_text.specs.declared.script.ScriptLine.{ScriptLine}

-- whether a node is on, and the interval that its stream i requests, 0 for none, after what it is given
abbrev pub told_by : ℕ → Act → Bool × ℕ → Bool × ℕ
told_by i On w = (true, w.1)
told_by i Off w = (false, 0)
told_by i other w = (w.0, if w.0 then wish_after i other w.1 else w.1)

-- after a line, where it is one of node v up to frame f
abbrev pub told_line : ℕ → ℕ → ℕ → Bool × ℕ → ScriptLine → Bool × ℕ
told_line f v i w l = if nat_le l.frame f && (l.node == v) then told_by i l.act w else w

-- after all of these
abbrev pub told : ℕ → ℕ → ℕ → List ScriptLine → Bool × ℕ
told f v i ls = fold (told_line f v i) (false, 0) ls
