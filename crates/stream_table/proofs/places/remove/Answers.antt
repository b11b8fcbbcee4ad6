use Rattle.std.proofs.Common.{List, subst}
use Rattle.bus_rules.specs.Tables.{TableEntry, code_in}
use Rattle.stream_table.specs.CodeOrder.{IsAtPlace, IsGap}
use Rattle.stream_table.proofs.Changes.{removed_is, removed_kept, removed_none, is_there}
use Rattle.stream_table.proofs.places.remove.Goals as goal

pub returns-in-Ok-clause-answer : goal.returns-in-Ok-clause-answer
returns-in-Ok-clause-answer c =
    let es = c.args.entries.now.items in
    let at : IsAtPlace code_in es c.args.code c.in-Ok.place =
    subst (λ (l : List TableEntry). IsAtPlace code_in l c.args.code c.in-Ok.place) c.as_slice.ensures.value c.in-Ok.ensures.found in
    is_there es c.args.code c.in-Ok.place at c.requires

pub returns-in-Ok-clause-after : goal.returns-in-Ok-clause-after
returns-in-Ok-clause-after c =
    let es = c.args.entries.now.items in
    let at : IsAtPlace code_in es c.args.code c.in-Ok.place =
    subst (λ (l : List TableEntry). IsAtPlace code_in l c.args.code c.in-Ok.place) c.as_slice.ensures.value c.in-Ok.ensures.found in
    removed_is es _ c.args.code c.in-Ok.place at c.requires c.remove.ensures.items

pub returns-in-Ok-clause-kept : goal.returns-in-Ok-clause-kept
returns-in-Ok-clause-kept c =
    let es = c.args.entries.now.items in
    let at : IsAtPlace code_in es c.args.code c.in-Ok.place =
    subst (λ (l : List TableEntry). IsAtPlace code_in l c.args.code c.in-Ok.place) c.as_slice.ensures.value c.in-Ok.ensures.found in
    removed_kept es _ c.args.code c.requires (removed_is es _ c.args.code c.in-Ok.place at c.requires c.remove.ensures.items)

pub returns-in-Err-clause-after : goal.returns-in-Err-clause-after
returns-in-Err-clause-after c =
    let gap : IsGap code_in c.args.entries.now.items c.args.code c.in-Err.field-0 =
    subst (λ (l : List TableEntry). IsGap code_in l c.args.code c.in-Err.field-0) c.as_slice.ensures.value c.in-Err.ensures.missing in
    removed_none c.args.entries.now.items c.args.code c.in-Err.field-0 gap
