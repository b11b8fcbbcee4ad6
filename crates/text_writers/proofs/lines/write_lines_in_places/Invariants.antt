use Rattle.std.proofs.Common.{◌≡◌, ℕ, List, ◌++◌, flat_map, string_bytes, take}
use Rattle.std.specs.List.{enumerate_from}
use Rattle.text_writers.specs.Lines.{WritesPlaces}
use Rattle.text_writers.proofs.lines.write_lines_in_places.Given as goal

abbrev pub invariant-loop-place : goal.invariant-loop-place
invariant-loop-place g l =
    (line : ℕ × g.row.T.Denot → List ℕ) → WritesPlaces g.F.Fn l.write l.fn.items line
    → string_bytes l.text ≡ string_bytes l.fn.text ++ flat_map line (enumerate_from 0 (take l.place l.fn.items))
