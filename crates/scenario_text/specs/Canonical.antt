-- The canonical text of a scenario, as lines of words: the lines are in one order, each number and payload has one spelling,
-- one space is between words, and a line feed after each line.
use Rattle.std.specs.Prelude.{◌≡◌, ℕ, ◌+◌, List, [], ◌∷◌, ◌++◌, map, ◌==◌, if◌then◌else◌, codes, Ok}
use Rattle.std.specs.Fmt.{signed_decimal}
use Rattle.text_writers.specs.Lines.{numbered, render}
use Rattle.text_writers.specs.HexWords.{payload_word}
use Rattle.lwb_base.specs.Profile.{Numbers, is_one}
use Rattle.link_trace.specs.declared.lines.LinkLine.{LinkLine}
use Rattle.link_trace.specs.declared.lines.LoseLine.{LoseLine}
use Rattle.link_trace.specs.declared.lines.CutLine.{CutLine}
use Rattle.link_trace.specs.declared.lines.CaptureLine.{CaptureLine}
use Rattle.scenario_text.specs.ScenarioGrammar.{long_scenario_of}
use Rattle.scenario_text.specs.ScenarioParts.{ScenarioParts}
use Rattle.scenario_text.specs.declared.lines.NodeLine.{NodeLine}
use Rattle.scenario_text.specs.declared.lines.RateLine.{RateLine}
use Rattle.scenario_text.specs.declared.script.ScriptLine.{ScriptLine}
use Rattle.bus_rules.specs.declared.act.Act.{Act}
use Rattle.bus_rules.specs.declared.act.Act.TheVariants.{On, Off, Declare, Leave, Put}

-- the second profile may have contention slots
abbrev pub profile_number : Numbers → ℕ
profile_number p = if is_one p then 1 else 2

abbrev pub contend_lines : ℕ → List (List (List ℕ))
contend_lines c = if c == 0 then [] else numbered (codes "contend") (c ∷ []) ∷ []

abbrev pub node_words : NodeLine → List (List ℕ)
node_words n = numbered (codes "node") (n.node ∷ n.offset ∷ [])

abbrev pub rate_words : RateLine → List (List ℕ)
rate_words r = numbered (codes "rate") (r.node ∷ r.from ∷ []) ++ signed_decimal r.ppm ∷ []

-- the hosts from this rank on
abbrev pub host_lines : ℕ → List ℕ → List (List (List ℕ))
host_lines rank [] = []
host_lines rank (host ∷ hosts) = numbered (codes "host") (rank ∷ host ∷ []) ∷ host_lines (rank + 1) hosts

abbrev pub link_words : LinkLine → List (List ℕ)
link_words l = numbered (codes "link") (l.from ∷ l.to ∷ [])

abbrev pub act_words : ℕ → ℕ → Act → List (List ℕ)
act_words f i On = numbered (codes "on") (f ∷ i ∷ [])
act_words f i Off = numbered (codes "off") (f ∷ i ∷ [])
act_words f i (Declare s n) = numbered (codes "stream") (f ∷ i ∷ s ∷ n ∷ [])
act_words f i (Leave s) = numbered (codes "leave") (f ∷ i ∷ s ∷ [])
act_words f i (Put s p) = numbered (codes "put") (f ∷ i ∷ s ∷ []) ++ payload_word p ∷ []

abbrev pub script_words : ScriptLine → List (List ℕ)
script_words l = act_words l.frame l.node l.act

abbrev pub loss_words : LoseLine → List (List ℕ)
loss_words l = numbered (codes "lose") (l.frame ∷ l.slot ∷ l.step ∷ l.from ∷ l.to ∷ [])

abbrev pub cut_words : CutLine → List (List ℕ)
cut_words l = numbered (codes "cut") (l.frame ∷ l.slot ∷ l.step ∷ l.node ∷ [])

abbrev pub capture_words : CaptureLine → List (List ℕ)
capture_words l = numbered (codes "capture") (l.frame ∷ l.slot ∷ l.step ∷ l.at ∷ l.from ∷ [])

-- all lines, each as its words
unfoldable pub canonical_lines : ScenarioParts → List (List (List ℕ))
canonical_lines s =
    numbered (codes "profile") (profile_number s.profile ∷ []) ∷ contend_lines s.profile.contend
    ++ numbered (codes "frames") (s.frames ∷ []) ∷ numbered (codes "sends") (s.sends ∷ []) ∷ map node_words s.nodes ++ map rate_words s.rates
    ++ host_lines 0 s.hosts ++ map link_words s.trace.links ++ map script_words s.script
    ++ map loss_words s.trace.losses ++ map cut_words s.trace.cuts ++ map capture_words s.trace.captures

abbrev pub canonical : ScenarioParts → List ℕ
canonical s = render (canonical_lines s)

-- the canonical text has no fault over the long horizon, and says these parts: then they are in their orders
abbrev pub IsSaid : ScenarioParts → Type 0
IsSaid s = long_scenario_of (canonical s) ≡ Ok s
