use Rattle.std.proofs.Common.{◌≡◌, ◌+◌, ◌∙◌, [], length, get_or, take, refl, sym, ap, arith}
use Rattle.std.proofs.lemmas.List.{take_all, append-nil, length-take-le}
use Rattle.lwb_base.proofs.Lists.{length_filtered}
use Rattle.host_scheduler.specs.Debts.{owed_beyond}
use Rattle.host_scheduler.proofs.Sifted.{sifted}
use Rattle.host_scheduler.proofs.Owing.{nothing, read_at, slot_more}
use Rattle.host_scheduler.proofs.turns.give_turn.Goals as goal

pub loop-debt-init : goal.loop-debt-init
loop-debt-init c =
    let old = c.args.given.now.items in
    record {
      given = sym (ap (take 40) (append-nil old) ∙ take_all 40 old c.requires.given);
      rest = c.new-rest.ensures;
    }

pub push_if-requires : goal.push_if-requires
push_if-requires c =
    let line = c.args.line.now in
    let i = c.loop-debt.debt-index in
    let within = c.loop-debt-test.true in
    let few = length_filtered (owed_beyond (c.args.turn + 1)) (take i line) in
    let cut : length (take i line) ≡ i = length-take-le i line (omega arith) in
    λ stays. omega (arith, ap length c.loop-debt.invariant.rest, c.requires.line)

pub loop-debt-preserved : goal.loop-debt-preserved
loop-debt-preserved c =
    let line = c.args.line.now in
    let i = c.loop-debt.debt-index in
    let d = get_or line i nothing in
    let read = read_at line i c.loop-debt-test.true in
    record {
      given = slot_more c.args.given.now.items line i d c.loop-debt.given.items c.push_slot.new.given.items c.loop-debt-test.true read
          c.loop-debt.invariant.given c.push_slot.ensures;
      rest = sifted (owed_beyond (c.args.turn + 1)) line i d c.loop-debt.rest.items c.push_if.new.line.items [] _ c.loop-debt-test.true read
          refl c.loop-debt.invariant.rest c.push_if.ensures;
    }
