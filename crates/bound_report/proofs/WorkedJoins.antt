-- Worked texts of nodes that join, in a chain of three: both bounds hold of one, and are open in one for each reason, by the line.
use Rattle.std.proofs.Common.{◌≡◌, ℕ, List, [], ◌∷◌, ◌++◌, true, Ok, refl, codes}
use Rattle.std.specs.Str.{bytes_eq}
unfoldable use Rattle.std.specs.Str.{chars, is_utf8}
unfoldable use Rattle.std.specs.Fmt.{digits}
unfoldable use lib.Utf8.{encode}
use Rattle.lwb_base.specs.Profile.{one}
use Rattle.link_trace.specs.declared.lines.CutLine.{CutLine}
use Rattle.link_trace.specs.declared.lines.LinkLine.{LinkLine}
use Rattle.link_trace.specs.declared.lines.LoseLine.{LoseLine}
use Rattle.scenario_text.specs.ScenarioParts.{ScenarioParts}
use Rattle.scenario_text.specs.declared.lines.NodeLine.{NodeLine}
use Rattle.scenario_text.specs.declared.script.ScriptLine.{ScriptLine}
use Rattle.bus_rules.specs.declared.act.Act.{Act}
use Rattle.bus_rules.specs.declared.act.Act.TheVariants.{On, Off}
unfoldable use Rattle.bus_terms.specs.Distances.{walks}
use Rattle.drawn_links.specs.declared.ratio_line.RatioLine.{RatioLine}
use Rattle.bound_report.specs.BoundLines.{bounds_text}

abbrev on : ℕ → ℕ → ScriptLine
on f v = record { frame = f; node = v; act = On }

abbrev node : ℕ → NodeLine
node v = record { node = v; offset = 0 }

abbrev link : ℕ → ℕ → LinkLine
link u v = record { from = u; to = v }

-- three nodes in a chain, the first of which hosts
abbrev chain : List LoseLine → List CutLine → List ScriptLine → ScenarioParts
chain losses cuts script = record {
  profile = one;
  frames = 40;
  sends = 1;
  nodes = node 1 ∷ node 2 ∷ node 3 ∷ [];
  rates = [];
  hosts = 1 ∷ [];
  trace = record { links = link 1 2 ∷ link 2 1 ∷ link 2 3 ∷ link 3 2 ∷ []; losses = losses; cuts = cuts; captures = [] };
  script = script;
}

abbrev ratio : ℕ → ℕ → ℕ → ℕ → RatioLine
ratio f u v r = record { frame = f; from = u; to = v; ratio = r }

abbrev up_in_time : List ScriptLine
up_in_time = on 0 1 ∷ on 2 2 ∷ on 5 3 ∷ []

abbrev above : List ℕ
above = codes "sends 1\nnode 1 0\nnode 2 0\nnode 3 0\nhost 0 1\npair 1 2\npair 2 3\nframes 40\n"

abbrev first_holds : List ℕ
first_holds = codes "holds first 1 0 5 5\nopen failover 1 power\n"

both_join : bytes_eq (bounds_text (above ++ codes "on 0 1\non 2 2\non 5 3\n") (chain [] [] up_in_time) [])
    (first_holds ++ codes "holds joined 2 0 6 6\nholds scanning 2 0 6 4\nholds joined 3 0 6 6\nholds scanning 3 0 6 4\n") ≡ true
unfolding digits walks
both_join = refl

abbrev by_line : List ℕ → List ℕ
by_line end = codes "open joined 2 0 " ++ end ++ codes "open scanning 2 0 " ++ end ++ codes "open joined 3 0 " ++ end ++ codes "open scanning 3 0 " ++ end

a_loss : bytes_eq (bounds_text (above ++ codes "lose 5 1 2 2 1\non 0 1\non 2 2\non 5 3\n")
    (chain (record { frame = 5; slot = 1; step = 2; from = 2; to = 1 } ∷ []) [] up_in_time) []) (first_holds ++ by_line (codes "loss 9\n")) ≡ true
unfolding digits walks
a_loss = refl

a_cut : bytes_eq (bounds_text (above ++ codes "cut 5 1 2 3\non 0 1\non 2 2\non 5 3\n")
    (chain [] (record { frame = 5; slot = 1; step = 2; node = 3 } ∷ []) up_in_time) []) (first_holds ++ by_line (codes "loss 9\n")) ≡ true
unfolding digits walks
a_cut = refl

-- a ratio that changes in the frame of the round
a_ratio : bytes_eq (bounds_text (above ++ codes "on 0 1\non 2 2\non 5 3\nratios\nratio 0 2 3 1000000\nratio 5 2 3 999999\n")
    (chain [] [] up_in_time) (ratio 0 2 3 1000000 ∷ ratio 5 2 3 999999 ∷ [])) (first_holds ++ by_line (codes "ratio 14\n")) ≡ true
unfolding digits walks
a_ratio = refl

-- ratios of other frames do no harm
other_ratios : bytes_eq (bounds_text (above ++ codes "on 0 1\non 2 2\non 5 3\n")
    (chain [] [] up_in_time) (ratio 0 2 3 999999 ∷ ratio 5 2 3 1000000 ∷ ratio 6 2 3 0 ∷ []))
    (first_holds ++ codes "holds joined 2 0 6 6\nholds scanning 2 0 6 4\nholds joined 3 0 6 6\nholds scanning 3 0 6 4\n") ≡ true
unfolding digits walks
other_ratios = refl

-- node 2 boots a frame too late, for which no line is named, and node 3 is out of reach without it
too_late : bytes_eq (bounds_text (above ++ codes "on 0 1\non 5 3\non 6 2\n") (chain [] [] (on 0 1 ∷ on 5 3 ∷ on 6 2 ∷ [])) [])
    (first_holds ++ codes "open joined 2 0 power\nopen scanning 2 0 power\nopen joined 3 0 reach\nopen scanning 3 0 reach\n") ≡ true
unfolding digits walks
too_late = refl

-- so it is where node 2 goes off after the round
goes_off : bytes_eq (bounds_text (above ++ codes "on 0 1\non 2 2\non 5 3\noff 6 2\n")
    (chain [] [] (on 0 1 ∷ on 2 2 ∷ on 5 3 ∷ record { frame = 6; node = 2; act = Off } ∷ [])) [])
    (first_holds ++ codes "open joined 2 0 power 12\nopen scanning 2 0 power 12\nopen joined 3 0 reach\nopen scanning 3 0 reach\n") ≡ true
unfolding digits walks
goes_off = refl

-- the host boots too late for the run
too_short : bytes_eq (bounds_text (codes "on 34 1\non 34 2\non 34 3\n") (chain [] [] (on 34 1 ∷ on 34 2 ∷ on 34 3 ∷ [])) [])
    (codes "holds first 1 34 39 5\nopen failover 1 power\nopen joined 2 34 rounds\nopen scanning 2 34 rounds\n"
    ++ codes "open joined 3 34 rounds\nopen scanning 3 34 rounds\n") ≡ true
unfolding digits walks
too_short = refl
