use Rattle.std.proofs.Common.{◌≡◌, List, get_or, length, set, below_more, length-set, get_or-set_other, sym, ◌∙◌, ap, subst, arith, rules}
use Rattle.std.proofs.lemmas.Bool.{false≢true}
use Rattle.scenario_text.proofs.SoundScenarios.{sound}
use Rattle.scenario_clocks.specs.StatedClocks.{scenario_clock}
use Rattle.scenario_clocks.proofs.StatedDrift.{scenario_states}
use Rattle.air_log.specs.declared.entry.Entry.{Entry}
use Rattle.air_check.specs.NodeLogs.{AreLogsOf, NodeLogState, log_by, empty_node_log}
use Rattle.air_check.specs.Verdicts.{FollowsTrail}
use Rattle.air_check.proofs.IdsInOrder.{follows_at_zero, all_follow}
use Rattle.air_check.proofs.astray.first_astray.Goals as goal

pub stated_clocks-requires : goal.stated_clocks-requires
stated_clocks-requires c = rw (c.nodes.ensures.value, c.rates.ensures) (scenario_states c.args.s.now c.nodes.ensures.said)

pub loop-id-init : goal.loop-id-init
loop-id-init c =
    let are : AreLogsOf c.args.air.now c.in_ok-logs.logs.items =
    subst (λ (air : List Entry). AreLogsOf air c.in_ok-logs.logs.items) c.entries.ensures c.in_ok-logs.ensures in
    record {
      ids = are.ids;
      left = λ v from. are.each v;
      followed = follows_at_zero c.args.s.now (scenario_clock c.args.s.now) c.args.air.now (sound c.args.s.now c.nodes.ensures.said)
          c.in_ok-logs.logs.items are;
    }

pub loop-id-preserved : goal.loop-id-preserved
loop-id-preserved c =
    let s = c.args.s.now in
    let air = c.args.air.now in
    let l = c.loop-id in
    let v = c.unwrap-node.result in
    let same : v ≡ l.id = search rules in
    let taken : c.follows_own.new.logs.items ≡ set l.logs.items v empty_node_log = c.follows_own.ensures.taken in
    let logged : get_or l.logs.items v empty_node_log ≡ log_by air v = l.invariant.left v (omega (arith, same)) in
    let follows : FollowsTrail s (scenario_clock s) air l.id =
    subst (FollowsTrail s (scenario_clock s) air) same ((c.in_ok-follows_own.ensures.follows air logged).0 c.if-not-branch.false) in
    record {
      ids = omega (arith, ap length taken, length-set l.logs.items v empty_node_log, l.invariant.ids);
      left = λ w from.
          ap (λ (x : List NodeLogState). get_or x w empty_node_log) taken
          ∙ get_or-set_other l.logs.items v w empty_node_log empty_node_log (omega (arith, from, same)) ∙ l.invariant.left w (omega (arith, from));
      followed = below_more (FollowsTrail s (scenario_clock s) air) l.id l.invariant.followed follows;
    }

pub returns-then-not-branch-clause-astray : goal.returns-then-not-branch-clause-astray
returns-then-not-branch-clause-astray c =
    let s = c.args.s.now in
    let l = c.loop-id in
    let same : c.unwrap-node.result ≡ l.id = search rules in
    let logged : get_or l.logs.items c.unwrap-node.result empty_node_log ≡ log_by c.args.air.now c.unwrap-node.result =
    l.invariant.left c.unwrap-node.result (omega (arith, same)) in
    record {
      astray = λ follows. false≢true (sym c.if-not-branch.true ∙ (c.in_ok-follows_own.ensures.follows c.args.air.now logged).1 follows);
      least = λ u less. l.invariant.followed u (omega (arith, less, same));
    }

pub returns-clause-followed : goal.returns-clause-followed
returns-clause-followed c =
    let l = c.loop-id in
    all_follow c.args.s.now (scenario_clock c.args.s.now) c.args.air.now (sound c.args.s.now c.nodes.ensures.said) l.logs.items l.id
    (omega (arith, c.loop-id-test.false)) l.invariant.ids l.invariant.left (omega (arith, l.auto.id-end)) l.invariant.followed
