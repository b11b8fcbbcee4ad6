use Rattle.std.proofs.Common.{◌+◌, ◌≤◌, ◌^◌, All, List, subst, sym}
use Rattle.radio_model.specs.OnAir.{Sending}
use Rattle.radio_model.specs.Reaches.{AreReaches}
use Rattle.radio_model.proofs.AreReached.{all_permuted}
use Rattle.radio_model.proofs.transmissions.Transmissions.of.Goals as goal

pub reaches_of-requires-clause-early : goal.reaches_of-requires-clause-early
reaches_of-requires-clause-early c =
    subst (All (λ (y : Sending). y.start ≤ 2 ^ 46)) (sym c.deref.ensures.value)
    (all_permuted (λ y. y.start ≤ 2 ^ 46) c.args.sent.items c.in_ok-sent.sent.items c.in_ok-sent.ensures.sent c.requires.early)

pub returns-clause-searchable : goal.returns-clause-searchable
returns-clause-searchable c =
    let xs = c.in_ok-sent.sent.items in
    record {
      in_order = c.in_ok-sent.ensures.in_order;
      early = all_permuted (λ y. y.start ≤ 2 ^ 46) c.args.sent.items xs c.in_ok-sent.ensures.sent c.requires.early;
      longest = subst (λ (ys : List Sending). All (λ (y : Sending). y.end ≤ y.start + c.longest.result) ys) c.deref-2.ensures.value c.longest.ensures;
      reaches = subst (λ (ys : List Sending). AreReaches c.args.profile.now c.args.trace.now.lines c.args.nodes.now ys c.in_ok-reaches.reaches.items)
          c.deref.ensures.value c.in_ok-reaches.ensures;
    }
