use Rattle.std.proofs.Common.{◌≡◌, ◌∙◌, ◌<◌, ◌++◌, ◌∷◌, [], ap, sym, arith, rules, length, get_or, List, Option, ℕ, option_map, Vec}
use Rattle.std.specs.declared.alloc.Global.{Global}
use Rattle.std.specs.List.{cons_option}
use Rattle.std.proofs.lemmas.List.{append-nil}
use Rattle.scenario_text.specs.declared.lines.NodeLine.{NodeLine}
use Rattle.lwb_flood.specs.LogReading.{step_of}
use Rattle.lwb_flood.proofs.LogReading.{accepting_more}
use Rattle.lwb_flood.proofs.flood_outcome.acceptances.Goals as goal
use Rattle.lwb_flood.proofs.flood_outcome.acceptances.Goals.{in-Some+in_ok-push, in_default}

pub loop-line-preserved : goal.loop-line-preserved
loop-line-preserved c =
    let nodes = c.args.f.now.nodes in
    let i = c.loop-line.line-index in
    let line = c.line-item.result in
    let below : i < length nodes = omega (arith, ap length c.nodes-line-items.ensures.value) in
    let at : line ≡ get_or nodes i line = c.line-item.is ∙ ap (λ (l : List NodeLine). get_or l i line) c.nodes-line-items.ensures.value in
    let step : ℕ → Option ℕ = step_of c.args.f.now.start c.args.firsts.now in
    let items = c.loop-line.accepts.items in
    let with_step : Option ℕ → List (ℕ × ℕ) = λ o. items ++ cons_option (option_map {U = ℕ × ℕ} (λ k. (line.node, k)) o) [] in
    let got : c.step_of.result ≡ step line.node = c.step_of.ensures ∙ ap (λ (s : ℕ). step_of s c.args.firsts.now line.node) c.start.ensures.value in
    let more = ap with_step got ∙ accepting_more step nodes i line items below at c.loop-line.invariant in
    elim c.match-step_of.branch [
      | in-Some+in_ok-push w ↦
          (let pushed : w.push.new.self.items ≡ items ++ (line.node, w.in-Some.step) ∷ [] = search rules in
          ap (λ (v : Vec (ℕ × ℕ) Global). v.items) w.accepts-is ∙ pushed ∙ ap with_step (sym w.in-Some.is) ∙ more)
      | in_default w ↦
          ap (λ (v : Vec (ℕ × ℕ) Global). v.items) w.accepts-is ∙ sym (append-nil items) ∙ ap with_step (sym w.in_default.is) ∙ more
    ]
