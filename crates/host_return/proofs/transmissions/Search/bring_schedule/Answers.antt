use Rattle.std.proofs.Common.{List, Contains, AllPairs, subst, sym, arith}
use Rattle.radio_model.specs.Hearing.{Before}
use Rattle.radio_model.specs.declared.sending.Sending.{Sending}
use Rattle.host_return.proofs.transmissions.Search.bring_schedule.Goals as goal

pub since-some-requires : goal.since-some-requires
since-some-requires c = subst (AllPairs Before) (sym c.sent.ensures) c.requires.searchable.sent.in_order

pub bring_one_of-requires-clause-since : goal.bring_one_of-requires-clause-since
bring_one_of-requires-clause-since c = λ y there. let from = c.since-some.ensures.from y there in omega (arith, from, c.frame_start.ensures)

pub bring_one_of-requires-clause-among : goal.bring_one_of-requires-clause-among
bring_one_of-requires-clause-among c = λ y there. subst (λ (ys : List Sending). Contains ys y) c.sent.ensures (c.since-some.ensures.among y there)

pub returns : goal.returns
returns c =
    λ air sent.
    let both = c.bring_one_of.ensures air sent in (
      λ so. let w = both.0 so in (w.0, w.2),
      λ w. both.1 (
        w.0,
        c.since-some.ensures.all w.0 (subst (λ (ys : List Sending). Contains ys w.0) (sym c.sent.ensures) (sent.into w.0 w.1.sent))
            (let from = w.1.starts.since in omega (arith, from, c.frame_start.ensures)),
        w.1,
      ),
    )
