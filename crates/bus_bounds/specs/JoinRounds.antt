-- What is known of a boot's first round before its nodes are looked at, one after the other.
use Rattle.std.specs.Prelude.{◌≡◌, ℕ, ◌+◌, List, [], ◌∷◌, Bool, true, ◌||◌, ◌==◌, if◌then◌else◌, Some}
use Rattle.std.specs.List.{list_any}
use Rattle.lwb_base.specs.declared.limits.TheConstants.{GREATEST_GAP}
use Rattle.link_trace.specs.Passes.{Lines, passes}
use Rattle.scenario_text.specs.ScenarioParts.{ScenarioParts}
use Rattle.bus_terms.specs.FloodOfText.{ids}
use Rattle.bus_terms.specs.Flooding.{has}
use Rattle.drawn_links.specs.declared.ratio_line.RatioLine.{RatioLine}
use Rattle.bus_bounds.specs.JoinFindings.{JOIN_FRAMES, nodes_up, power_verdict, round_verdict}
use Rattle.bus_bounds.specs.PowerLines.{power_lines}
use Rattle.bus_bounds.specs.declared.boot.Boot.{Boot}
use Rattle.bus_bounds.specs.declared.boot.FirstRound.{FirstRound}
use Rattle.bus_bounds.specs.declared.boot.FirstRound.TheVariants as round
use Rattle.bus_bounds.specs.declared.finding.Bound.{Bound}
use Rattle.bus_bounds.specs.declared.finding.Bound.TheVariants.{Joined, Scanning}
use Rattle.bus_bounds.specs.declared.finding.Finding.{Finding}
use Rattle.bus_bounds.specs.declared.finding.Reason.TheVariants.{Reach}
use Rattle.bus_bounds.specs.declared.finding.Verdict.{Verdict}
use Rattle.bus_bounds.specs.declared.finding.Verdict.TheVariants.{Broken, Holds, Open}
use Rattle.bus_bounds.specs.declared.power_line.PowerLine.{PowerLine}

-- v is one of these nodes, or the link from one of them to it passes in frame f, in the first step of its first slot
abbrev pub is_next : Lines → ℕ → List ℕ → ℕ → Bool
is_next t f nodes v = list_any (λ u. (u == v) || passes t f 0 0 u v) nodes

-- what is said of a node that is up, where the bound is counted up to this frame
abbrev pub verdict_by : FirstRound → ℕ → ℕ → ℕ → Verdict
verdict_by (round.Broken reason line) from frames v = Broken reason line
verdict_by (round.Reaches nodes) from frames v = if has nodes.items v then Holds from frames else Open Reach

-- that is what is found of each node that is up
abbrev pub IsRoundOf : ScenarioParts → List RatioLine → ℕ → ℕ → FirstRound → Type 0
IsRoundOf s ratios host b r =
    (frames v : ℕ) → has (nodes_up (power_lines s.script) (ids s.nodes) host b) v ≡ true
    → verdict_by r (b + JOIN_FRAMES) frames v ≡ round_verdict s ratios host b frames v

-- and of any node by its power
abbrev pub found_of : List PowerLine → ℕ → Boot → Bound → ℕ → ℕ → Finding
found_of ls run x bound frames v = record {
  bound = bound;
  node = v;
  frame = Some x.frame;
  verdict = power_verdict ls run x.host x.frame v (verdict_by x.round (x.frame + JOIN_FRAMES) frames v);
}

abbrev pub both_of : List PowerLine → ℕ → Boot → ℕ → List Finding
both_of ls run x v = found_of ls run x Joined JOIN_FRAMES v ∷ found_of ls run x Scanning GREATEST_GAP v ∷ []
