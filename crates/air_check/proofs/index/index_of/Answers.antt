use Rattle.std.proofs.Common.{ℕ, List, AllPairs, subst, sym, ◌∙◌}
use Rattle.std.specs.Prelude.{Contains}
use Rattle.link_trace.specs.Masks.{AreNodes}
use Rattle.radio_model.specs.Hearing.{Before}
use Rattle.radio_model.specs.OnAir.{Sending}
use Rattle.radio_model.specs.Reaches.{AreSearchable}
use Rattle.air_check.specs.ReceiverMasks.{AreReceivers}
use Rattle.air_check.proofs.ReceiverMasks.{ids_seal}
use Rattle.air_check.proofs.index.index_of.Goals as goal

pub receiver_masks-requires-clause-nodes : goal.receiver_masks-requires-clause-nodes
receiver_masks-requires-clause-nodes c =
    subst AreNodes (sym c.deref-2.ensures.value) (ids_seal c.args.s.now c.in_ok-nodes.nodes.items c.in_ok-nodes.ensures.said c.in_ok-nodes.ensures.ids)

pub receiver_masks-requires-clause-searchable : goal.receiver_masks-requires-clause-searchable
receiver_masks-requires-clause-searchable c =
    let s = c.args.s.now in
    subst (λ (ns : List ℕ). AreSearchable s.profile s.trace ns c.in_ok-sent.sent) (c.deref.ensures.value ∙ sym c.deref-2.ensures.value)
    c.in_ok-sent.ensures.searchable

pub returns-clause-holds : goal.returns-clause-holds
returns-clause-holds c =
    let back = c.into_sent.ensures in
    record {
      all_sent = λ y there. subst (λ (xs : List Sending). Contains xs y) (sym back) (c.in_ok-sent.ensures.sent.into y there);
      sent = λ y there. c.in_ok-sent.ensures.sent.back y (subst (λ (xs : List Sending). Contains xs y) back there);
      tuned = c.in_ok-tuned.ensures;
    }

pub returns-clause-searchable : goal.returns-clause-searchable
returns-clause-searchable c =
    let s = c.args.s.now in
    let masks = c.in_ok-receivers.receivers.items in
    record {
      said = c.in_ok-nodes.ensures.said;
      ids = c.in_ok-nodes.ensures.ids;
      in_order = subst (AllPairs Before) (sym c.into_sent.ensures) c.in_ok-sent.ensures.searchable.in_order;
      receivers = subst (λ (ns : List ℕ). AreReceivers s ns c.into_sent.result.items masks) c.deref-2.ensures.value
          (subst (λ (xs : List Sending). AreReceivers s c.deref-2.result.now xs masks) (sym c.into_sent.ensures) c.in_ok-receivers.ensures);
    }
