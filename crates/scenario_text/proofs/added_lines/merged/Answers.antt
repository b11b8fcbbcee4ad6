use Rattle.std.proofs.Common.{◌≡◌, ◌<◌, ◌++◌, All, List, rules, ◌∙◌, ap, subst}
use Rattle.std.proofs.lemmas.List.Elements.{All-append}
use Rattle.std.proofs.lemmas.List.Sorted.{answers_always, All-permutation, IsNonDecreasingBy-from_sort}
use Rattle.std.specs.List.Sorted.{IsPermutation, IsStableByKey}
use Rattle.std.specs.Ordering.{nat_cmp}
use Rattle.bus_rules.specs.States.{payload_of}
use Rattle.scenario_text.specs.declared.script.ScriptLine.{ScriptLine}
use Rattle.scenario_text.proofs.LinesAdded.{sorted_merged}
use Rattle.scenario_text.proofs.added_lines.merged.Goals as goal
use Rattle.scenario_text.specs.AddedLines.{frame_of_line}

pub returns-clause-merged : goal.returns-clause-merged
returns-clause-merged c =
    let both : c.copy_lines-2.new.all.items ≡ c.args.old.now ++ c.args.added.now =
    c.in_ok-copy_lines-2.ensures.lines ∙ ap (λ (ls : List ScriptLine). ls ++ c.args.added.now)
    (c.in_ok-copy_lines.ensures.lines ∙ ap (λ (ls : List ScriptLine). ls ++ c.args.old.now) c.new-all.ensures.items) in
    sorted_merged c.args.old.now c.args.added.now c.sort_by_key.new.self.items
    (IsNonDecreasingBy-from_sort frame_of_line c.sort_by_key.new.self.items
    (c.in_ok-sort_by_key.ensures.sorted frame_of_line (answers_always _ _ _ (λ f a r g h. search rules))))
    (subst (λ (xs : List ScriptLine). IsStableByKey frame_of_line nat_cmp xs c.sort_by_key.new.self.items) both
    (c.sort_by_key.ensures.stable frame_of_line (answers_always _ _ _ (λ f a r g h. search rules))))

pub returns-clause-bytes : goal.returns-clause-bytes
returns-clause-bytes c =
    let P : ScriptLine → Type 0 = λ l. All (λ b. b < 256) (payload_of l.act) in
    let both : c.copy_lines-2.new.all.items ≡ c.args.old.now ++ c.args.added.now =
    c.in_ok-copy_lines-2.ensures.lines ∙ ap (λ (ls : List ScriptLine). ls ++ c.args.added.now)
    (c.in_ok-copy_lines.ensures.lines ∙ ap (λ (ls : List ScriptLine). ls ++ c.args.old.now) c.new-all.ensures.items) in
    All-permutation P (c.args.old.now ++ c.args.added.now) c.sort_by_key.new.self.items
    (subst (λ (xs : List ScriptLine). IsPermutation xs c.sort_by_key.new.self.items) both c.sort_by_key.ensures.permutation)
    (All-append P c.args.old.now c.args.added.now c.in_ok-copy_lines.ensures.bytes c.in_ok-copy_lines-2.ensures.bytes)
