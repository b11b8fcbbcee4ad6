use Rattle.std.proofs.Common.{◌≡◌, ◌∙◌, ◌++◌, ◌∷◌, [], ap, sym, rules, List, Option, Vec, option_to_list, append-nil}
use Rattle.std.specs.declared.alloc.Global.{Global}
use Rattle.lwb_base.proofs.Lists.{filter_map_more}
use Rattle.bus_rules.specs.declared.delivery.DropLine.{DropLine}
use Rattle.bus_model.specs.DroppedPuts.{drop_of}
use Rattle.bus_model.proofs.drops.drops_of.Goals as goal
use Rattle.bus_model.proofs.drops.drops_of.Goals.{in-Some+in_ok-push, in_default}

pub loop-put-preserved : goal.loop-put-preserved
loop-put-preserved c =
    let x = c.put-item.result in
    let items = c.loop-put.drops.items in
    let more = filter_map_more drop_of c.args.puts.now c.loop-put.put-index x c.loop-put-test.true c.put-item.is in
    let with_one : Option DropLine → List DropLine = λ o. items ++ option_to_list o in
    let whole = ap (λ (l : List DropLine). l ++ option_to_list (drop_of x)) c.loop-put.invariant ∙ sym more in
    elim c.match-dropped.branch [
      | in-Some+in_ok-push w ↦
          (let pushed : w.push.new.self.items ≡ items ++ w.in-Some.drop ∷ [] = search rules in
          ap (λ (v : Vec DropLine Global). v.items) w.drops-is ∙ pushed ∙ ap with_one (sym w.in-Some.is ∙ c.dropped.ensures) ∙ whole)
      | in_default w ↦
          ap (λ (v : Vec DropLine Global). v.items) w.drops-is ∙ sym (append-nil items) ∙ ap with_one (sym w.in_default.is ∙ c.dropped.ensures) ∙ whole
    ]
