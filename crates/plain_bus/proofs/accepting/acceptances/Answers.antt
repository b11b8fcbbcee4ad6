use Rattle.std.proofs.Common.{◌≡◌, ◌∙◌, ◌++◌, ◌∷◌, [], ap, sym, rules, List, Option, ℕ, Vec, option_to_list, append-nil}
use Rattle.std.specs.declared.alloc.Global.{Global}
use Rattle.lwb_base.proofs.Lists.{filter_map_more}
use Rattle.plain_bus.specs.FloodMasks.{accepted_from}
use Rattle.plain_bus.proofs.accepting.acceptances.Goals as goal
use Rattle.plain_bus.proofs.accepting.acceptances.Goals.{in-Some+in_ok-push, in_default}

pub loop-station-preserved : goal.loop-station-preserved
loop-station-preserved c =
    let xs = c.args.stations.now in
    let i = c.loop-station.station-index in
    let x = c.station-item.result in
    let keep = accepted_from c.args.start in
    let items = c.loop-station.accepts.items in
    let more = filter_map_more {Y = ℕ × ℕ} keep xs i x c.loop-station-test.true c.station-item.is in
    let with_one : Option (ℕ × ℕ) → List (ℕ × ℕ) = λ o. items ++ option_to_list o in
    let whole = ap (λ (l : List (ℕ × ℕ)). l ++ option_to_list (keep x)) c.loop-station.invariant ∙ sym more in
    elim c.match-accepted.branch [
      | in-Some+in_ok-push w ↦
          (let pushed : w.push.new.self.items ≡ items ++ w.in-Some.acceptance ∷ [] = search rules in
          ap (λ (v : Vec (ℕ × ℕ) Global). v.items) w.accepts-is ∙ pushed ∙ ap with_one (sym w.in-Some.is ∙ c.accepted.ensures) ∙ whole)
      | in_default w ↦
          ap (λ (v : Vec (ℕ × ℕ) Global). v.items) w.accepts-is ∙ sym (append-nil items) ∙ ap with_one (sym w.in_default.is ∙ c.accepted.ensures) ∙ whole
    ]
