-- What a script says of the power of nodes: its lines `on` and `off`.
use Rattle.std.specs.Prelude.{ℕ, ◌+◌, List, Bool, true, false, not, ◌&&◌, ◌||◌, ◌==◌, nat_lt, nat_le, Option, Some, None, find, reverse}
use Rattle.std.specs.List.{filter_map, list_any}
use Rattle.std.specs.Option.{option_map_or}
use Rattle.scenario_text.specs.declared.script.ScriptLine.{ScriptLine}
use Rattle.bus_rules.specs.declared.act.Act.{Act}
use Rattle.bus_rules.specs.declared.act.Act.TheVariants.{On, Off}
use Rattle.bus_bounds.specs.declared.power_line.PowerLine.{PowerLine}

-- the line as one for power, if its act is one
abbrev pub switched_by : ScriptLine → Act → Option PowerLine
switched_by l On = Some (record { frame = l.frame; node = l.node; on = true })
switched_by l Off = Some (record { frame = l.frame; node = l.node; on = false })
switched_by l other = None

abbrev pub power_line : ScriptLine → Option PowerLine
power_line l = switched_by l l.act

-- in the order of the script
abbrev pub power_lines : List ScriptLine → List PowerLine
power_lines script = filter_map power_line script

-- the last of them for v before frame f
abbrev pub last_line : List PowerLine → ℕ → ℕ → Option PowerLine
last_line ls v f = find (λ l. (l.node == v) && nat_lt l.frame f) (reverse ls)

-- v is on before the lines of frame f
abbrev pub is_on_before : List PowerLine → ℕ → ℕ → Bool
is_on_before ls v f = option_map_or (λ l. l.on) (last_line ls v f) false

-- v goes off by a line of frame b
abbrev pub goes_off_in : List PowerLine → ℕ → ℕ → Bool
goes_off_in ls v b = list_any (λ l. (l.node == v) && not l.on && (l.frame == b)) ls

-- v boots in frame b, and is on after its lines
abbrev pub boots_in : List PowerLine → ℕ → ℕ → Bool
boots_in ls v b = is_on_before ls v (b + 1) && (not (is_on_before ls v b) || goes_off_in ls v b)

-- the line is of a frame after b, up to frame e
abbrev pub is_within : ℕ → ℕ → PowerLine → Bool
is_within b e l = nat_lt b l.frame && nat_le l.frame e
