use Rattle.std.proofs.Common.{◌≡◌, ◌≤◌, ◌++◌, ℕ, false, length, List, IsPermutation, ap, subst, sym, arith, refl, rules}
use Rattle.lwb_base.specs.declared.limits.TheConstants.{MOST_SCRIPT_LINES}
use Rattle.scenario_text.specs.AddedLines.{IsMerged}
use Rattle.scenario_text.specs.PartsInOrder.{IsInOrder, script_lines}
use Rattle.scenario_text.specs.ScenarioFacts.{turned}
use Rattle.scenario_text.specs.ScenarioParts.{ScenarioParts}
use Rattle.scenario_text.specs.declared.script.ScriptLine.{ScriptLine}
use Rattle.scenario_text.proofs.LinesAdded.{one_with_script, still_in_order}
use Rattle.scenario_text.proofs.OrderedParts.{said_in_order, in_order_said}
use Rattle.scenario_text.proofs.added_lines.with_script.Goals as goal

pub returns-then-other_lines-len-gt-MOST_SCRIPT_LINES-clause-none : goal.returns-then-other_lines-len-gt-MOST_SCRIPT_LINES-clause-none
returns-then-other_lines-len-gt-MOST_SCRIPT_LINES-clause-none c =
    λ t is room.
    let s = c.args.s.now in
    let sc = c.in_ok-script.script.items in
    let merged : IsMerged s.script c.args.added.now sc =
    subst (λ (old : List ScriptLine). IsMerged old c.args.added.now sc) c.script.ensures.value c.in_ok-script.ensures.merged in
    let same : t ≡ record s { script = sc } = one_with_script s c.args.added.now sc t merged is in
    let lines : script_lines (record s { script = sc }) ≤ MOST_SCRIPT_LINES =
    subst (λ (u : ScenarioParts). script_lines u ≤ MOST_SCRIPT_LINES) same room.lines in
    let many = c.if-other_lines-len-gt-MOST_SCRIPT_LINES.true in
    let others = c.other_lines.ensures.count in
    let long : c.len.result ≡ length sc = search rules in
    omega (arith, lines, many, others, long)

pub returns-then-not-has_few_boots-clause-none : goal.returns-then-not-has_few_boots-clause-none
returns-then-not-has_few_boots-clause-none c =
    λ t is room.
    let s = c.args.s.now in
    let sc = c.in_ok-script.script.items in
    let merged : IsMerged s.script c.args.added.now sc =
    subst (λ (old : List ScriptLine). IsMerged old c.args.added.now sc) c.script.ensures.value c.in_ok-script.ensures.merged in
    let same : t ≡ record s { script = sc } = one_with_script s c.args.added.now sc t merged is in
    let few : (v : ℕ) → (turned v (false, 0) sc).1 ≤ 200 =
    subst (λ (u : ScenarioParts). (v : ℕ) → (turned v (false, 0) u.script).1 ≤ 200) same room.boots in
    c.if-not-has_few_boots.ensures.many refl
    (subst (λ (ls : List ScriptLine). (v : ℕ) → (turned v (false, 0) ls).1 ≤ 200) (sym c.deref.ensures.value) few)

pub with_own_script-requires : goal.with_own_script-requires
with_own_script-requires c =
    let s = c.args.s.now in
    let sc = c.in_ok-script.script.items in
    let is : IsInOrder s = in_order_said s c.script.ensures.said in
    let merged : IsMerged s.script c.args.added.now sc =
    subst (λ (old : List ScriptLine). IsMerged old c.args.added.now sc) c.script.ensures.value c.in_ok-script.ensures.merged in
    let shuffled : IsPermutation (s.script ++ c.args.added.now) sc =
    subst (λ (old : List ScriptLine). IsPermutation (old ++ c.args.added.now) sc) c.script.ensures.value c.in_ok-script.ensures.permutation in
    let few = c.if-other_lines-len-gt-MOST_SCRIPT_LINES.false in
    let room = c.other_lines.ensures.count in
    let lines : script_lines (record s { script = sc }) ≤ MOST_SCRIPT_LINES =
    omega (arith, few, room, c.len.ensures, c.deref.ensures.len, ap length c.deref.ensures.value) in
    let boots : (v : ℕ) → (turned v (false, 0) sc).1 ≤ 200 =
    subst (λ (ls : List ScriptLine). (v : ℕ) → (turned v (false, 0) ls).1 ≤ 200) c.deref.ensures.value (c.if-not-has_few_boots.ensures.few refl) in
    said_in_order (record s { script = sc })
    (still_in_order s c.args.added.now sc is shuffled c.requires.in_range merged.ascends c.in_ok-script.ensures.bytes
    (record { lines = lines; boots = boots }))
