use Rattle.std.proofs.Common.{◌≡◌, ◌+◌, ◌∙◌, ◌++◌, List, length, take, map, sym, ap, arith}
use Rattle.host_scheduler.specs.declared.debts.Debt.{Debt}
use Rattle.host_scheduler.specs.Debts.{debts_from_place, beyond, turns_of, code_of_debt}
use Rattle.host_scheduler.proofs.Owing.{no_turn, next_turn, next_line, length_taken}
use Rattle.host_scheduler.proofs.turns.give.Goals as goal

pub loop-turn-init : goal.loop-turn-init
loop-turn-init c =
    record { given = c.new-given.ensures ∙ sym (no_turn (debts_from_place c.args.place c.args.debts.now)); line = c.line_from-line.ensures }

pub give_turn-line-requires-clause-given : goal.give_turn-line-requires-clause-given
give_turn-line-requires-clause-given c =
    omega (arith, ap length c.loop-turn.invariant.given, length_taken (turns_of (debts_from_place c.args.place c.args.debts.now) c.loop-turn.turn))

pub loop-turn-preserved : goal.loop-turn-preserved
loop-turn-preserved c =
    let line = debts_from_place c.args.place c.args.debts.now in
    let k = c.loop-turn.turn in
    let here : c.as_slice.result.now ≡ beyond k line = c.as_slice.ensures.value ∙ c.loop-turn.invariant.line in
    record {
      given = c.give_turn-line.ensures.given ∙ ap (λ (l : List Debt). take 40 (c.loop-turn.given.items ++ map code_of_debt l)) here
          ∙ next_turn line k c.loop-turn.given.items c.loop-turn.invariant.given;
      line = c.give_turn-line.ensures.rest ∙ ap (beyond (k + 1)) here ∙ next_line line k;
    }
