use Rattle.std.proofs.Common.{◌≡◌, ◌+◌, ◌<◌, ◌++◌, ◌∷◌, [], List, length, get_or, take, set, sym, ◌∙◌, ap, subst, arith}
use Rattle.std.proofs.lemmas.List.{take_more, take_all}
use Rattle.air_log.specs.declared.entry.Entry.{Entry}
use Rattle.air_log.specs.Entries.{node_of_entry}
use Rattle.air_check.specs.NodeLogs.{AreLogsOf, after_entry, empty_node_log}
use Rattle.air_check.proofs.NodeLogs.{added_entry}
use Rattle.air_check.proofs.node_logs.logs_by_id.Goals as goal

pub add_entry-requires : goal.add_entry-requires
add_entry-requires c = c.loop-entry.invariant.ids

pub loop-entry-preserved : goal.loop-entry-preserved
loop-entry-preserved c =
    let air = c.args.entries.now in
    let i = c.loop-entry.entry-index in
    let e = c.entry-item.result in
    let below : i < length air = omega arith in
    let more : take (i + 1) air ≡ take i air ++ e ∷ [] =
    take_more air i e below ∙ ap (λ (x : Entry). take i air ++ x ∷ []) (sym c.entry-item.is) in
    let added = added_entry (take i air) e c.loop-entry.logs.items c.loop-entry.invariant c.add_entry.ensures.range.0 c.add_entry.ensures.range.1 in
    let held : c.add_entry.new.logs.items
    ≡ set c.loop-entry.logs.items (node_of_entry e) (after_entry (get_or c.loop-entry.logs.items (node_of_entry e) empty_node_log) e) =
    c.in_ok-add_entry.ensures.added in
    rw (more, held) added

pub returns : goal.returns
returns c = subst (λ (l : List Entry). AreLogsOf l c.loop-entry.logs.items) (take_all _ _ c.loop-entry-test.false) c.loop-entry.invariant
