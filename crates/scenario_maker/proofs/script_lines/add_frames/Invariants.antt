use Rattle.std.proofs.Common.{◌≡◌, ◌++◌}
use Rattle.std.specs.List.{flat_map, range_with_len}
use Rattle.scenario_maker.specs.Made.{frame_lines}
use Rattle.scenario_maker.proofs.script_lines.add_frames.Given as goal

abbrev pub invariant-loop-frame : goal.invariant-loop-frame
invariant-loop-frame l = l.lines.items ≡ l.fn.lines.items ++ flat_map (frame_lines l.nodes l.frames) (range_with_len 0 l.frame)
