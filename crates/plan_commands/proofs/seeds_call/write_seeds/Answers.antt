use Rattle.std.proofs.Common.{◌≡◌, ◌+◌, inl, inr, arith, subst, sym}
use Rattle.std.specs.Io.KnownBytes.{Appends}
use Rattle.std.proofs.KnownBytes.{Appends-trans}
use Rattle.plan_commands.specs.SeedTexts.{seed_text, seeds_text}
use Rattle.plan_commands.proofs.SeedsInTurn.{part_after, seeds_after, seeds_at, seeds_more}
use Rattle.plan_commands.proofs.seeds_call.write_seeds.Goals as goal

pub loop-i-preserved : goal.loop-i-preserved
loop-i-preserved g c =
    let x = c.args.network.now in
    let zero : c.write_seed-status.result ≡ 0 = omega (arith, c.if-status-ne0.false) in
    let before = c.loop-i.invariant.later in
    let after = c.write_seed-status.ensures.later in
    record {
      wrote = subst (Appends (g.K.Sink.held c.args.sink.now) (g.K.Sink.held c.write_seed-status.new.sink))
          (sym (seeds_more x.scenario x.ratios.lines x.from c.loop-i.i))
          (Appends-trans (g.K.Sink.held c.args.sink.now) (g.K.Sink.held c.loop-i.sink) (g.K.Sink.held c.write_seed-status.new.sink)
          (seeds_text x.scenario x.ratios.lines x.from c.loop-i.i) (seed_text x.scenario x.ratios.lines (x.from + c.loop-i.i))
          c.loop-i.invariant.wrote (c.write_seed-status.ensures.whole zero));
      later = omega (arith, before, after);
    }

pub returns-then-status-ne0-clause-part : goal.returns-then-status-ne0-clause-part
returns-then-status-ne0-clause-part g c =
    λ other.
    let x = c.args.network.now in
    part_after (g.K.Sink.held c.args.sink.now) (g.K.Sink.held c.loop-i.sink) (g.K.Sink.held c.write_seed-status.new.sink)
    (seeds_text x.scenario x.ratios.lines x.from c.loop-i.i) (seed_text x.scenario x.ratios.lines (x.from + c.loop-i.i))
    (seeds_after x.scenario x.ratios.lines x.from c.loop-i.i x.count) (seeds_text x.scenario x.ratios.lines x.from x.count)
    (seeds_at x.scenario x.ratios.lines x.from c.loop-i.i x.count c.loop-i-test.true) c.loop-i.invariant.wrote (c.write_seed-status.ensures.part other)

pub returns-then-status-ne0-clause-fault : goal.returns-then-status-ne0-clause-fault
returns-then-status-ne0-clause-fault g c =
    λ four.
    let before = c.loop-i.invariant.later in
    elim (c.write_seed-status.ensures.fault four) [ inl rose ↦ inl (omega (arith, before, rose)) | inr last ↦ inr last ]

pub returns-then-status-ne0-clause-later : goal.returns-then-status-ne0-clause-later
returns-then-status-ne0-clause-later g c =
    let before = c.loop-i.invariant.later in
    let after = c.write_seed-status.ensures.later in
    omega (arith, before, after)
