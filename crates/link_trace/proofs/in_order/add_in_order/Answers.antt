use Rattle.std.proofs.Common.{◌≡◌, ◌∙◌, subst, rules}
use Rattle.std.specs.List.{insert}
use Rattle.link_trace.specs.Order.{HasPlace}
use Rattle.link_trace.proofs.Inserted.{insert_is_with_line}
use Rattle.link_trace.proofs.in_order.add_in_order.Goals as goal

pub returns-in_ok-insert-in-Err-clause-added : goal.returns-in_ok-insert-in-Err-clause-added
returns-in_ok-insert-in-Err-clause-added g c =
    let line = c.args.line in
    let place = c.in-Err.place in
    let here : HasPlace g.L.Ord.cmp c.args.lines.now.items line place =
    subst (λ ls. HasPlace g.L.Ord.cmp ls line place) c.deref.ensures.value c.in-Err.ensures.place in
    let inserted : c.insert.new.self.items ≡ insert c.args.lines.now.items place line = search rules in
    λ done. inserted ∙ insert_is_with_line g.L.Ord.cmp g.met.L.Ord.total c.args.lines.now.items line place here
