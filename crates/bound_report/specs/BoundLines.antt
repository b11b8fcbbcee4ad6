-- The lines of what is found of the bounds of a text.
use Rattle.std.specs.Prelude.{ℕ, List, [], ◌∷◌, ◌++◌, codes, decimal, flat_map, option_to_list}
use Rattle.std.specs.Str.Lines.{lines}
use Rattle.scenario_text.specs.ScenarioParts.{ScenarioParts}
use Rattle.drawn_links.specs.declared.ratio_line.RatioLine.{RatioLine}
use Rattle.bus_bounds.specs.BoundFindings.{findings_of}
use Rattle.bus_bounds.specs.JoinFindings.{join_findings}
use Rattle.bus_bounds.specs.declared.finding.Bound.{Bound}
use Rattle.bus_bounds.specs.declared.finding.Bound.TheVariants.{First, Failover, Joined, Scanning}
use Rattle.bus_bounds.specs.declared.finding.Finding.{Finding}
use Rattle.bus_bounds.specs.declared.finding.Reason.{Reason}
use Rattle.bus_bounds.specs.declared.finding.Reason.TheVariants.{Boots, Loss, Power, Ratio, Reach, Rounds}
use Rattle.bus_bounds.specs.declared.finding.Verdict.{Verdict}
use Rattle.bus_bounds.specs.declared.finding.Verdict.TheVariants.{Broken, Holds, Open}
use Rattle.bound_report.specs.LineNumbers.{line_saying}

abbrev pub bound_word : Bound → List ℕ
bound_word First = codes "first"
bound_word Failover = codes "failover"
bound_word Joined = codes "joined"
bound_word Scanning = codes "scanning"

abbrev pub reason_word : Reason → List ℕ
reason_word Power = codes "power"
reason_word Boots = codes "boots"
reason_word Rounds = codes "rounds"
reason_word Loss = codes "loss"
reason_word Ratio = codes "ratio"
reason_word Reach = codes "reach"

abbrev pub verdict_word : Verdict → List ℕ
verdict_word (Holds from frames) = codes "holds"
verdict_word (Broken reason line) = codes "open"
verdict_word (Open reason) = codes "open"

-- a word or numbers after a space
abbrev pub after_space : List ℕ → List ℕ
after_space word = 32 ∷ word

abbrev pub spaced : List ℕ → List ℕ
spaced numbers = flat_map (λ n. 32 ∷ decimal n) numbers

-- the bound, the node that it is on, and the frame that it is counted from, where there is one
abbrev pub whom : Finding → List ℕ
whom x = after_space (bound_word x.bound) ++ spaced (x.node ∷ option_to_list x.frame)

-- from which frame on it holds and after how many; or the premise that is not met, and the line of the text that breaks it
abbrev pub verdict_text : List ℕ → Verdict → List ℕ
verdict_text b (Holds from frames) = spaced (from ∷ frames ∷ [])
verdict_text b (Broken reason line) = after_space (reason_word reason) ++ spaced (option_to_list (line_saying line 1 (lines b)))
verdict_text b (Open reason) = after_space (reason_word reason)

abbrev pub finding_line : List ℕ → Finding → List ℕ
finding_line b x = verdict_word x.verdict ++ (whom x ++ (verdict_text b x.verdict ++ 10 ∷ []))

-- of a scenario with ratios that the bytes are a text of: of its hosts, and of the nodes that join
abbrev pub bounds_text : List ℕ → ScenarioParts → List RatioLine → List ℕ
bounds_text b s ratios = flat_map (finding_line b) (findings_of s ++ join_findings s ratios)
