-- The canonical text says what it was made of.
use Rattle.std.proofs.Common.{◌≡◌, ℕ, zero, suc, ◌+◌, ◌*◌, ◌≤◌, List, [], ◌∷◌, ◌++◌, Bool, true, false, ◌==◌, nat_le, Option, Some}
use Rattle.std.proofs.Common.{None, Ok, map, length, codes, refl, sym, ◌∙◌, ap, subst, arith, inl, inr, Err, Result}
use Rattle.std.proofs.lemmas.Bool.{cond-true, cond-false, and_from, le-leb, ne_eqb}
use Rattle.lwb_base.specs.Profile.{Numbers, IsProfile, one, contended}
use Rattle.link_trace.specs.Passes.{Lines}
use Rattle.text_writers.specs.Lines.{numbered}
use Rattle.scenario_text.specs.Canonical.{canonical, canonical_lines, profile_number, contend_lines, node_words, rate_words}
use Rattle.scenario_text.specs.Canonical.{host_lines, link_words, script_words, loss_words, cut_words, capture_words}
use Rattle.scenario_text.specs.ScenarioGrammar.{Scenario, scenario_after_words, whole_within, finished_parts, if_small, long_scenario_of}
use Rattle.text_readers.specs.Reading.{draft_after_line}
use Rattle.scenario_text.specs.ScenarioParts.{ScenarioParts}
use Rattle.scenario_text.specs.declared.limits.TheConstants.{BUS_NODE_FRAMES}
use Rattle.scenario_text.specs.declared.lines.RateLine.{RateLine}
use Rattle.scenario_text.specs.declared.network_line.NetworkLine.TheVariants.{Sends}
use Rattle.scenario_text.specs.declared.scenario_line.ScenarioLine.TheVariants as line
use Rattle.scenario_text.specs.declared.script.ScriptLine.{ScriptLine}
use Rattle.scenario_text.proofs.LinesSaid.{says_profile, says_contend, says_frames, says_sends}
use Rattle.scenario_text.proofs.LineRuns.{Step, step, goes_words, goes_after, Goes, goes_append}
use Rattle.scenario_text.proofs.CanonicalFacts.{Power, no_power, power_after, mid, KeepsRules}
use Rattle.std.specs.Str.Lines.{lines}
use Rattle.lwb_base.specs.declared.limits.TheConstants.{MOST_FRAMES}
use Rattle.scenario_text.specs.Network.{Parts, network_parts, rates_by_node}
use Rattle.text_readers.specs.Faults.{draft_after_lines, in_line, ◌>>=◌}
use Rattle.text_readers.specs.declared.fault.FaultKind.{FaultKind}
use Rattle.text_readers.specs.declared.fault.FaultKind.TheVariants.{Missing, TooBig}
use Rattle.scenario_text.proofs.TextBack.{lines_back}
use Rattle.scenario_text.proofs.DraftFacts.{nothing, after_top}
use Rattle.scenario_text.proofs.CanonicalGoes.{with_nodes, with_rates, with_hosts, with_links, of_links, goes_nodes, goes_rates, goes_hosts, goes_links}
use Rattle.scenario_text.proofs.ScriptGoes.{with_script, with_losses, with_cuts, with_captures, goes_script, goes_losses, goes_cuts, goes_captures}

-- the first lines
abbrev top_lines : Numbers → List (List (List ℕ))
top_lines p = numbered (codes "profile") (profile_number p ∷ []) ∷ contend_lines p.contend

step_two : Step nothing (numbered (codes "profile") (2 ∷ [])) (after_top (contended 0) true)
step_two = step nothing (numbered (codes "profile") (2 ∷ [])) (line.Profile 2) (after_top (contended 0) true)
    (says_profile 2 (omega arith)) (record { range = refl; known = refl; order = refl; fresh = refl; room = refl }) refl

goes_contended : (c : ℕ) → c ≤ 4 → (b : Bool) × Goes nothing (top_lines (contended c)) (after_top (contended c) b)
goes_contended zero few = (true, (after_top (contended 0) true, (step_two, refl)))
goes_contended (suc c) few =
    let ws : List (List ℕ) = numbered (codes "contend") (suc c ∷ []) in
    let behind = after_top (contended (suc c)) false in
    let some : contend_lines (suc c) ≡ ws ∷ [] = cond-false (suc c == 0) [] (ws ∷ []) (ne_eqb (suc c) 0 (λ is. omega (arith, is))) in
    let range = and_from (nat_le 1 (suc c)) (nat_le (suc c) 4) (le-leb 1 (suc c) (omega arith)) (le-leb (suc c) 4 few) in
    let last = step (after_top (contended 0) true) ws (line.Contend (suc c)) behind (says_contend (suc c) (omega (arith, few)))
    (record { range = range; known = refl; order = refl; fresh = refl; room = refl }) refl in
    let goes : Goes nothing (numbered (codes "profile") (2 ∷ []) ∷ ws ∷ []) behind =
    (after_top (contended 0) true, (step_two, (behind, (last, refl)))) in
    (false, subst (λ (ls : List (List (List ℕ))). Goes nothing (numbered (codes "profile") (2 ∷ []) ∷ ls) behind) (sym some) goes)

goes_one : (b : Bool) × Goes nothing (top_lines one) (after_top one b)
goes_one =
    let first = step nothing (numbered (codes "profile") (1 ∷ [])) (line.Profile 1) (after_top one false) (says_profile 1 (omega arith))
    (record { range = refl; known = refl; order = refl; fresh = refl; room = refl }) refl in
    (false, (after_top one false, (first, refl)))

goes_top : (p : Numbers) → IsProfile p → (b : Bool) × Goes nothing (top_lines p) (after_top p b)
goes_top p (inl is) = subst (λ (q : Numbers). (b : Bool) × Goes nothing (top_lines q) (after_top q b)) (sym is) goes_one
goes_top p (inr is) = subst (λ (q : Numbers). (b : Bool) × Goes nothing (top_lines q) (after_top q b)) (sym is.0) (goes_contended p.contend is.1)

goes_first : (s : ScenarioParts) (b : Bool) → KeepsRules s
    → Goes (after_top s.profile b) (numbered (codes "frames") (s.frames ∷ []) ∷ numbered (codes "sends") (s.sends ∷ [])
    ∷ map node_words s.nodes) (with_nodes s s.nodes)
goes_first s b is =
    let framed : Scenario = record (after_top s.profile false) { frames = Some s.frames } in
    let frames = is.frames in
    let sends = is.sends in
    let few = frames.1 in
    let seldom = sends.1 in (
      framed,
      (
        step (after_top s.profile b) (numbered (codes "frames") (s.frames ∷ [])) (line.Frames s.frames) framed (says_frames s.frames (omega (arith, few)))
            (record {
              range = and_from (nat_le 1 s.frames) (nat_le s.frames MOST_FRAMES) (le-leb 1 s.frames frames.0) (le-leb s.frames MOST_FRAMES few);
              known = refl;
              order = refl;
              fresh = refl;
              room = refl;
            }) refl,
        (
          with_nodes s [],
          (
            step framed (numbered (codes "sends") (s.sends ∷ [])) (line.InNetwork (Sends s.sends)) (with_nodes s [])
                (says_sends s.sends (omega (arith, seldom)))
                (record {
                  range = and_from (nat_le 1 s.sends) (nat_le s.sends 4) (le-leb 1 s.sends sends.0) (le-leb s.sends 4 seldom);
                  known = refl;
                  order = refl;
                  fresh = refl;
                  room = refl;
                }) refl,
            goes_nodes s is,
          ),
        ),
      ),
    )

goes_from : (d e g : Scenario) (ls : List (List (List ℕ))) → d ≡ e → Goes e ls g → Goes d ls g
goes_from d e g ls is goes = subst (λ (x : Scenario). Goes x ls g) (sym is) goes

-- this many script lines
counted_as : (s : ScenarioParts) (t : Lines) (ls : List ScriptLine) (w : Power) (m n : ℕ) → m ≡ n
    → mid s s.nodes s.rates s.hosts t ls w m ≡ mid s s.nodes s.rates s.hosts t ls w n
counted_as s t ls w m n is = ap (mid s s.nodes s.rates s.hosts t ls w) is

goes_all : (s : ScenarioParts) → KeepsRules s → Goes nothing (canonical_lines s) (with_captures s s.trace.captures)
unfolding canonical_lines
goes_all s is =
    let top = goes_top s.profile is.profile in
    let w : Power = power_after no_power s.script in
    let r : ℕ = length s.rates in
    let c : ℕ = length s.script in
    let l : ℕ = length s.trace.losses in
    let u : ℕ = length s.trace.cuts in
    let first : List (List (List ℕ)) = numbered (codes "frames") (s.frames ∷ []) ∷ numbered (codes "sends") (s.sends ∷ []) ∷ map node_words s.nodes in
    let to_nodes : List (List (List ℕ)) = top_lines s.profile ++ first in
    let to_rates : List (List (List ℕ)) = to_nodes ++ map rate_words s.rates in
    let to_hosts : List (List (List ℕ)) = to_rates ++ host_lines 0 s.hosts in
    let to_links : List (List (List ℕ)) = to_hosts ++ map link_words s.trace.links in
    let to_script : List (List (List ℕ)) = to_links ++ map script_words s.script in
    let to_losses : List (List (List ℕ)) = to_script ++ map loss_words s.trace.losses in
    let to_cuts : List (List (List ℕ)) = to_losses ++ map cut_words s.trace.cuts in
    let nodes = goes_append nothing (after_top s.profile top.0) (with_nodes s s.nodes) (top_lines s.profile) first top.1 (goes_first s top.0 is) in
    let rates = goes_append nothing (with_nodes s s.nodes) (with_rates s s.rates) to_nodes (map rate_words s.rates) nodes (goes_rates s is) in
    let hosts = goes_append nothing (with_rates s s.rates) (with_hosts s s.hosts) to_rates (host_lines 0 s.hosts) rates
    (goes_hosts s is [] s.hosts 0 refl refl) in
    let links = goes_append nothing (with_hosts s s.hosts) (with_links s s.trace.links) to_hosts (map link_words s.trace.links) hosts (goes_links s is) in
    let script = goes_append nothing (with_links s s.trace.links) (with_script s s.script) to_links (map script_words s.script) links
    (goes_from (with_links s s.trace.links) (with_script s []) (with_script s s.script) (map script_words s.script)
    (counted_as s (of_links s.trace.links) [] no_power r (r + 0) (omega arith)) (goes_script s is)) in
    let losses = goes_append nothing (with_script s s.script) (with_losses s s.trace.losses) to_script (map loss_words s.trace.losses) script
    (goes_from (with_script s s.script) (with_losses s []) (with_losses s s.trace.losses) (map loss_words s.trace.losses)
    (counted_as s (of_links s.trace.links) s.script w (r + c) (r + c + 0) (omega arith)) (goes_losses s is)) in
    let cuts = goes_append nothing (with_losses s s.trace.losses) (with_cuts s s.trace.cuts) to_losses (map cut_words s.trace.cuts) losses
    (goes_from (with_losses s s.trace.losses) (with_cuts s []) (with_cuts s s.trace.cuts) (map cut_words s.trace.cuts)
    (counted_as s (record { links = s.trace.links; losses = s.trace.losses; cuts = []; captures = [] }) s.script w (r + c + l)
    (r + c + l + 0) (omega arith)) (goes_cuts s is)) in
    goes_append nothing (with_cuts s s.trace.cuts) (with_captures s s.trace.captures) to_cuts (map capture_words s.trace.captures) cuts
    (goes_from (with_cuts s s.trace.cuts) (with_captures s []) (with_captures s s.trace.captures) (map capture_words s.trace.captures)
    (counted_as s (record { links = s.trace.links; losses = s.trace.losses; cuts = s.trace.cuts; captures = [] }) s.script w (r + c + l + u)
    (r + c + l + u + 0) (omega arith)) (goes_captures s is))

ends : (s : ScenarioParts) → KeepsRules s → whole_within BUS_NODE_FRAMES (with_captures s s.trace.captures) ≡ Ok s
ends s is =
    let d : Scenario = with_captures s s.trace.captures in
    let p : Parts = record { sends = s.sends; nodes = s.nodes; rates = rates_by_node s.nodes s.rates; trace = s.trace } in
    let some = is.some_hosts in
    let parts : network_parts d.network (Some s.sends) ≡ Some p = cond-true (nat_le 2 (length s.nodes)) (Some p) None
    (le-leb 2 (length s.nodes) is.some_nodes) in
    let whole : ScenarioParts = record s { rates = rates_by_node s.nodes s.rates } in
    ap (λ (o : Option Parts). finished_parts BUS_NODE_FRAMES d o (Some s.frames)) parts
    ∙ cond-false (length s.hosts == 0) (Err Missing) (if_small BUS_NODE_FRAMES whole) (ne_eqb (length s.hosts) 0 (λ none. omega (arith, none, some)))
    ∙ cond-true (nat_le (length s.nodes * s.frames) BUS_NODE_FRAMES) (Ok whole) (Err TooBig) (le-leb (length s.nodes * s.frames) BUS_NODE_FRAMES is.small)
    ∙ ap (λ (rs : List RateLine). Ok (record s { rates = rs })) is.in_turn

pub canonical_says : (s : ScenarioParts) → KeepsRules s → long_scenario_of (canonical s) ≡ Ok s
canonical_says s is =
    let goes = goes_all s is in
    let text : List ℕ = canonical s in
    let d : Scenario = with_captures s s.trace.captures in
    let cut = lines_back (canonical_lines s) (goes_words nothing d (canonical_lines s) goes) in
    let read : draft_after_lines (draft_after_line scenario_after_words) 1 nothing (lines text) ≡ Ok d =
    ap (draft_after_lines (draft_after_line scenario_after_words) 1 nothing) cut ∙ goes_after 1 nothing d (canonical_lines s) goes in
    ap (λ (r : Result Scenario (ℕ × FaultKind)). r >>= (λ e. in_line (length (lines text) + 1) (whole_within BUS_NODE_FRAMES e))) read
    ∙ ap (λ (r : Result ScenarioParts FaultKind). in_line (length (lines text) + 1) r) (ends s is)
