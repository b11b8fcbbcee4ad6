use Rattle.std.proofs.Common.{◌≡◌, ◌∙◌, List, get_or, ap, subst}
use Rattle.bus_rules.specs.Tables.{TableEntry, code_in}
use Rattle.stream_table.specs.CodeOrder.{IsAtPlace, IsGap}
use Rattle.stream_table.proofs.Changes.{granted_is, granted_kept, granted_none, granted_less}
use Rattle.stream_table.proofs.places.grant.Goals as goal

pub grant-entry-requires : goal.grant-entry-requires
grant-entry-requires c =
    let es = c.args.entries.now.items in
    let at : IsAtPlace code_in es c.args.code c.in-Ok.place =
    subst (λ (l : List TableEntry). IsAtPlace code_in l c.args.code c.in-Ok.place) c.as_slice.ensures.value c.in-Ok.ensures.found in
    let x = c.index-deref-place.result in
    let read : x ≡ get_or es c.in-Ok.place x = c.index-deref-place.is ∙ ap (λ (l : List TableEntry). get_or l c.in-Ok.place x) c.deref.ensures.0 in
    granted_less es c.args.code c.in-Ok.place at x _ c.requires.entries read c.requires.granted

pub returns-in-Ok-clause-after : goal.returns-in-Ok-clause-after
returns-in-Ok-clause-after c =
    let es = c.args.entries.now.items in
    let at : IsAtPlace code_in es c.args.code c.in-Ok.place =
    subst (λ (l : List TableEntry). IsAtPlace code_in l c.args.code c.in-Ok.place) c.as_slice.ensures.value c.in-Ok.ensures.found in
    let x = c.index-deref-place.result in
    let read : x ≡ get_or es c.in-Ok.place x = c.index-deref-place.is ∙ ap (λ (l : List TableEntry). get_or l c.in-Ok.place x) c.deref.ensures.0 in
    granted_is es c.args.code c.in-Ok.place at x _ _ c.requires.entries read c.grant-entry.ensures c.set.ensures

pub returns-in-Ok-clause-kept : goal.returns-in-Ok-clause-kept
returns-in-Ok-clause-kept c =
    let es = c.args.entries.now.items in
    let at : IsAtPlace code_in es c.args.code c.in-Ok.place =
    subst (λ (l : List TableEntry). IsAtPlace code_in l c.args.code c.in-Ok.place) c.as_slice.ensures.value c.in-Ok.ensures.found in
    let x = c.index-deref-place.result in
    let read : x ≡ get_or es c.in-Ok.place x = c.index-deref-place.is ∙ ap (λ (l : List TableEntry). get_or l c.in-Ok.place x) c.deref.ensures.0 in
    granted_kept es _ c.args.code c.requires.entries
    (granted_is es c.args.code c.in-Ok.place at x _ _ c.requires.entries read c.grant-entry.ensures c.set.ensures)

pub returns-in-Err-clause-after : goal.returns-in-Err-clause-after
returns-in-Err-clause-after c =
    let gap : IsGap code_in c.args.entries.now.items c.args.code c.in-Err.field-0 =
    subst (λ (l : List TableEntry). IsGap code_in l c.args.code c.in-Err.field-0) c.as_slice.ensures.value c.in-Err.ensures.missing in
    granted_none c.args.entries.now.items c.args.code c.in-Err.field-0 gap
