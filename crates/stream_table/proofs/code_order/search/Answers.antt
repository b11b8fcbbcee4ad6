use Rattle.std.proofs.Common.{◌∙◌, sym, arith}
use Rattle.stream_table.proofs.CodeOrder.{found_there, none_of_below, other_there, none_there}
use Rattle.stream_table.proofs.code_order.search.Goals as goal
use Rattle.stream_table.proofs.code_order.search.Goals.{else-place-list-via-then-place-list+else-code, else-place-list-via-else-place-list}

pub returns-then-code-clause-found : goal.returns-then-code-clause-found
returns-then-code-clause-found g c =
    found_there g.T.Coded.code_of c.args.code c.args.list.now c.place_of-place.result c.index-list-place.result c.requires
    (omega (arith, c.if-place-list.true)) c.index-list-place.is (sym c.code.ensures ∙ c.if-code.true)

pub returns-else-place-list-clause-missing : goal.returns-else-place-list-clause-missing
returns-else-place-list-clause-missing g c =
    let code = g.T.Coded.code_of in
    let xs = c.args.list.now in
    let n = c.place_of-place.result in
    record {
      within = c.place_of-place.ensures.within;
      place = c.place_of-place.ensures.value;
      missing = elim c.else-place-list.branch [
        | else-place-list-via-then-place-list+else-code w ↦
            none_of_below code c.args.code xs c.requires (other_there code c.args.code xs _ n w.index-list-place.result c.place_of-place.ensures.value
            (omega (arith, w.if-place-list.true)) w.index-list-place.is (λ same. w.if-code.false (w.code.ensures ∙ same)))
        | else-place-list-via-else-place-list w ↦
            none_of_below code c.args.code xs c.requires
            (none_there code c.args.code xs _ n c.place_of-place.ensures.value (omega (arith, w.if-place-list.false)))
      ];
    }
