use Rattle.std.proofs.Common.{◌≡◌, ℕ, List, [], ◌∷◌, Bool, true, false, not, Option, Some, flat_map, if◌then◌else◌, sym, ◌∙◌, ap}
use Rattle.std.specs.List.{list_any, range_with_len}
use Rattle.bus_bounds.specs.JoinFindings.{never_boots_for, of_node, others}
use Rattle.bus_bounds.specs.PowerLines.{boots_in, power_lines}
use Rattle.bus_bounds.specs.declared.finding.Bound.TheVariants.{Joined, Scanning}
use Rattle.bus_bounds.specs.declared.finding.Finding.{Finding}
use Rattle.bus_bounds.specs.declared.power_line.PowerLine.{PowerLine}
use Rattle.bus_bounds.proofs.JoinPieces.{after_boots, is_so, not_so, without_boots}
use Rattle.bus_bounds.proofs.joining.joins_of.Goals as goal

pub returns-then-never_boots : goal.returns-then-never_boots
returns-then-never_boots c =
    let s = c.args.scenario.now in
    let host = c.args.host in
    let p : ℕ → Bool = boots_in (power_lines s.script) host in
    let h : Option ℕ → List Finding = λ b. flat_map (of_node s c.args.ratios.now.lines host b) (others s host) in
    let told : not (list_any p (range_with_len 0 s.frames)) ≡ true =
    ap (λ (n : ℕ). not (list_any p (range_with_len 0 n))) (sym c.frames.ensures.value)
    ∙ ap (λ (ls : List PowerLine). not (list_any (boots_in ls host) (range_with_len 0 c.frames.result))) (sym c.requires.lines)
    ∙ sym c.never_boots.ensures ∙ c.if-never_boots.true in
    c.in_ok-open.ensures
    ∙ ap (λ (vs : List ℕ). flat_map (λ (v : ℕ). never_boots_for Joined v ∷ never_boots_for Scanning v ∷ []) vs) c.requires.nodes
    ∙ without_boots p h (range_with_len 0 s.frames) (not_so (list_any p (range_with_len 0 s.frames)) told)

pub returns : goal.returns
returns c =
    let s = c.args.scenario.now in
    let ratios = c.args.ratios.now.lines in
    let host = c.args.host in
    let p : ℕ → Bool = boots_in (power_lines s.script) host in
    let h : Option ℕ → List Finding = λ b. flat_map (of_node s ratios host b) (others s host) in
    let told : not (list_any p (range_with_len 0 s.frames)) ≡ false =
    ap (λ (n : ℕ). not (list_any p (range_with_len 0 n))) (sym c.frames.ensures.value)
    ∙ ap (λ (ls : List PowerLine). not (list_any (boots_in ls host) (range_with_len 0 c.frames.result))) (sym c.requires.lines)
    ∙ sym c.never_boots.ensures ∙ c.if-never_boots.false in
    c.in_ok-found.ensures
    ∙ ap (λ (ls : List PowerLine). flat_map (λ (b : ℕ). if boots_in ls host b then flat_map (of_node s ratios host (Some b)) c.args.nodes.now else [])
    (range_with_len 0 s.frames)) c.requires.lines
    ∙ ap (λ (vs : List ℕ). flat_map (λ (b : ℕ). if p b then flat_map (of_node s ratios host (Some b)) vs else []) (range_with_len 0 s.frames)) c.requires.nodes
    ∙ after_boots p h (range_with_len 0 s.frames) (is_so (list_any p (range_with_len 0 s.frames)) told)
