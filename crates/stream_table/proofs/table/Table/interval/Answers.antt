use Rattle.std.proofs.Common.{◌≡◌, ◌∙◌, ℕ, List, get_or, ap, subst}
use Rattle.std.specs.Option.{option_map_or}
use Rattle.bus_rules.specs.Tables.{TableEntry, code_in, Table, interval_in, entry_of}
use Rattle.stream_table.specs.CodeOrder.{IsAtPlace}
use Rattle.stream_table.proofs.Changes.{value_at}
use Rattle.stream_table.proofs.table.Table.interval.Goals as goal

pub returns-in-Ok-clause-value : goal.returns-in-Ok-clause-value
returns-in-Ok-clause-value c =
    let es = c.self.inside.entries.items in
    let owner = c.args.owner in
    let f : TableEntry → ℕ = interval_in in
    let here : IsAtPlace code_in es c.code.result c.in-Ok.place =
    subst (λ (l : List TableEntry). IsAtPlace code_in l c.code.result c.in-Ok.place) c.as_slice.ensures.value c.in-Ok.ensures.found in
    let at : IsAtPlace code_in es owner c.in-Ok.place = subst (λ (d : ℕ). IsAtPlace code_in es d c.in-Ok.place) c.code.ensures.value here in
    let x = c.index-deref-place.result in
    let read : x ≡ get_or es c.in-Ok.place x = c.index-deref-place.is ∙ ap (λ (l : List TableEntry). get_or l c.in-Ok.place x) c.deref.ensures.0 in
    c.interval.ensures.value ∙ value_at f es owner c.in-Ok.place at x c.self.invariant read
    ∙ ap (λ (t : Table). option_map_or f (entry_of t.entries owner) 0) c.self.view_is
