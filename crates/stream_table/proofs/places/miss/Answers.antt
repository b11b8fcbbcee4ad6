use Rattle.std.proofs.Common.{◌≡◌, ◌∙◌, List, get_or, ap, subst}
use Rattle.bus_rules.specs.Tables.{TableEntry, code_in}
use Rattle.stream_table.specs.CodeOrder.{IsAtPlace, IsGap}
use Rattle.stream_table.proofs.Changes.{missed_is, gone_is, stays, goes_now, missed_kept, missed_none}
use Rattle.stream_table.proofs.places.miss.Goals as goal

pub returns-in-Some-clause-answer : goal.returns-in-Some-clause-answer
returns-in-Some-clause-answer c =
    let es = c.args.entries.now.items in
    let at : IsAtPlace code_in es c.args.code c.in-Ok.place =
    subst (λ (l : List TableEntry). IsAtPlace code_in l c.args.code c.in-Ok.place) c.as_slice.ensures.value c.in-Ok.ensures.found in
    let x = c.index-deref-place.result in
    let read : x ≡ get_or es c.in-Ok.place x = c.index-deref-place.is ∙ ap (λ (l : List TableEntry). get_or l c.in-Ok.place x) c.deref.ensures.0 in
    stays es c.args.code c.in-Ok.place at x c.requires read c.in-Some.entry c.in-Some.ensures

pub returns-in-Some-clause-after : goal.returns-in-Some-clause-after
returns-in-Some-clause-after c =
    let es = c.args.entries.now.items in
    let at : IsAtPlace code_in es c.args.code c.in-Ok.place =
    subst (λ (l : List TableEntry). IsAtPlace code_in l c.args.code c.in-Ok.place) c.as_slice.ensures.value c.in-Ok.ensures.found in
    let x = c.index-deref-place.result in
    let read : x ≡ get_or es c.in-Ok.place x = c.index-deref-place.is ∙ ap (λ (l : List TableEntry). get_or l c.in-Ok.place x) c.deref.ensures.0 in
    missed_is es c.args.code c.in-Ok.place at x c.requires read c.in-Some.entry _ c.in-Some.ensures c.set.ensures

pub returns-in-Some-clause-kept : goal.returns-in-Some-clause-kept
returns-in-Some-clause-kept c =
    let es = c.args.entries.now.items in
    let at : IsAtPlace code_in es c.args.code c.in-Ok.place =
    subst (λ (l : List TableEntry). IsAtPlace code_in l c.args.code c.in-Ok.place) c.as_slice.ensures.value c.in-Ok.ensures.found in
    let x = c.index-deref-place.result in
    let read : x ≡ get_or es c.in-Ok.place x = c.index-deref-place.is ∙ ap (λ (l : List TableEntry). get_or l c.in-Ok.place x) c.deref.ensures.0 in
    missed_kept es _ c.args.code c.requires (missed_is es c.args.code c.in-Ok.place at x c.requires read c.in-Some.entry _ c.in-Some.ensures c.set.ensures)

pub returns-in-None-clause-answer : goal.returns-in-None-clause-answer
returns-in-None-clause-answer c =
    let es = c.args.entries.now.items in
    let at : IsAtPlace code_in es c.args.code c.in-Ok.place =
    subst (λ (l : List TableEntry). IsAtPlace code_in l c.args.code c.in-Ok.place) c.as_slice.ensures.value c.in-Ok.ensures.found in
    let x = c.index-deref-place.result in
    let read : x ≡ get_or es c.in-Ok.place x = c.index-deref-place.is ∙ ap (λ (l : List TableEntry). get_or l c.in-Ok.place x) c.deref.ensures.0 in
    goes_now es c.args.code c.in-Ok.place at x c.requires read c.in-None.ensures

pub returns-in-None-clause-after : goal.returns-in-None-clause-after
returns-in-None-clause-after c =
    let es = c.args.entries.now.items in
    let at : IsAtPlace code_in es c.args.code c.in-Ok.place =
    subst (λ (l : List TableEntry). IsAtPlace code_in l c.args.code c.in-Ok.place) c.as_slice.ensures.value c.in-Ok.ensures.found in
    let x = c.index-deref-place.result in
    let read : x ≡ get_or es c.in-Ok.place x = c.index-deref-place.is ∙ ap (λ (l : List TableEntry). get_or l c.in-Ok.place x) c.deref.ensures.0 in
    gone_is es c.args.code c.in-Ok.place at x c.requires read _ c.in-None.ensures c.remove.ensures.items

pub returns-in-None-clause-kept : goal.returns-in-None-clause-kept
returns-in-None-clause-kept c =
    let es = c.args.entries.now.items in
    let at : IsAtPlace code_in es c.args.code c.in-Ok.place =
    subst (λ (l : List TableEntry). IsAtPlace code_in l c.args.code c.in-Ok.place) c.as_slice.ensures.value c.in-Ok.ensures.found in
    let x = c.index-deref-place.result in
    let read : x ≡ get_or es c.in-Ok.place x = c.index-deref-place.is ∙ ap (λ (l : List TableEntry). get_or l c.in-Ok.place x) c.deref.ensures.0 in
    missed_kept es _ c.args.code c.requires (gone_is es c.args.code c.in-Ok.place at x c.requires read _ c.in-None.ensures c.remove.ensures.items)

pub returns-in-Err-clause-after : goal.returns-in-Err-clause-after
returns-in-Err-clause-after c =
    let gap : IsGap code_in c.args.entries.now.items c.args.code c.in-Err.field-0 =
    subst (λ (l : List TableEntry). IsGap code_in l c.args.code c.in-Err.field-0) c.as_slice.ensures.value c.in-Err.ensures.missing in
    missed_none c.args.entries.now.items c.args.code c.in-Err.field-0 gap
