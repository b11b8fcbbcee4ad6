use Rattle.std.proofs.Common.{◌≡◌, ◌∙◌, List, get_or, ap, subst}
use Rattle.bus_rules.specs.Tables.{TableEntry, code_in}
use Rattle.stream_table.specs.CodeOrder.{IsAtPlace, IsGap}
use Rattle.stream_table.proofs.Changes.{heard_is, heard_kept, heard_none}
use Rattle.stream_table.proofs.places.hear.Goals as goal

pub returns-in-Ok-clause-after : goal.returns-in-Ok-clause-after
returns-in-Ok-clause-after c =
    let es = c.args.entries.now.items in
    let at : IsAtPlace code_in es c.args.code c.in-Ok.place =
    subst (λ (l : List TableEntry). IsAtPlace code_in l c.args.code c.in-Ok.place) c.as_slice.ensures.value c.in-Ok.ensures.found in
    let x = c.index-deref-place.result in
    let read : x ≡ get_or es c.in-Ok.place x = c.index-deref-place.is ∙ ap (λ (l : List TableEntry). get_or l c.in-Ok.place x) c.deref.ensures.0 in
    heard_is es c.args.code c.in-Ok.place at x _ _ c.requires read c.heard-entry.ensures c.set.ensures

pub returns-in-Ok-clause-kept : goal.returns-in-Ok-clause-kept
returns-in-Ok-clause-kept c =
    let es = c.args.entries.now.items in
    let at : IsAtPlace code_in es c.args.code c.in-Ok.place =
    subst (λ (l : List TableEntry). IsAtPlace code_in l c.args.code c.in-Ok.place) c.as_slice.ensures.value c.in-Ok.ensures.found in
    let x = c.index-deref-place.result in
    let read : x ≡ get_or es c.in-Ok.place x = c.index-deref-place.is ∙ ap (λ (l : List TableEntry). get_or l c.in-Ok.place x) c.deref.ensures.0 in
    heard_kept es _ c.args.code c.requires (heard_is es c.args.code c.in-Ok.place at x _ _ c.requires read c.heard-entry.ensures c.set.ensures)

pub returns-in-Err-clause-after : goal.returns-in-Err-clause-after
returns-in-Err-clause-after c =
    let gap : IsGap code_in c.args.entries.now.items c.args.code c.in-Err.field-0 =
    subst (λ (l : List TableEntry). IsGap code_in l c.args.code c.in-Err.field-0) c.as_slice.ensures.value c.in-Err.ensures.missing in
    heard_none c.args.entries.now.items c.args.code c.in-Err.field-0 gap
