use Rattle.std.proofs.Common.{◌≡◌, ◌<◌, List, ◌++◌, ◌∷◌, [], length, get_or, sym, ◌∙◌, ap, subst, arith, rules}
use Rattle.std.specs.Prelude.{Contains}
use Rattle.std.proofs.lemmas.List.{length_push}
use Rattle.std.proofs.lemmas.List.Elements.{Contains-get_or}
use Rattle.lwb_base.specs.Profile.{Numbers}
use Rattle.link_trace.specs.Passes.{Lines}
use Rattle.radio_model.specs.OnAir.{Sending}
use Rattle.radio_model.specs.Reaches.{AreSearchable, IsReceivedBy}
use Rattle.radio_model.proofs.AreReached.{one_more}
use Rattle.air_check.proofs.receiver_masks.receiver_masks.Goals as goal

pub receivers-mask-requires-clause-sealed : goal.receivers-mask-requires-clause-sealed
receivers-mask-requires-clause-sealed c = c.requires.ids ∙ sym c.trace.ensures.sealed

pub receivers-mask-requires-clause-searchable : goal.receivers-mask-requires-clause-searchable
receivers-mask-requires-clause-searchable c =
    let s = c.args.s.now in
    let t = c.args.sent.now in
    subst (λ (l : Lines). AreSearchable c.profile-profile.result l c.args.nodes.now t) (sym c.trace.ensures.value)
    (subst (λ (p : Numbers). AreSearchable p s.trace c.args.nodes.now t) (sym c.profile-profile.ensures.value) c.requires.searchable)

pub receivers-mask-requires-clause-there : goal.receivers-mask-requires-clause-there
receivers-mask-requires-clause-there c =
    let sent = c.sent-x-items.result.now in
    let x = c.x-item.result in
    subst (λ (ys : List Sending). Contains ys x) c.sent-x-items.ensures
    (subst (Contains sent) (sym c.x-item.is) (Contains-get_or sent c.loop-x.x-index x c.loop-x-test.true))

pub loop-x-preserved : goal.loop-x-preserved
loop-x-preserved c =
    let s = c.args.s.now in
    let nodes = c.args.nodes.now in
    let sent = c.args.sent.now.sent in
    let x = c.x-item.result in
    let i = c.loop-x.x-index in
    let m = c.receivers-mask.result in
    let old = c.loop-x.masks.items in
    let below = subst (λ (ys : List Sending). i < length ys) c.sent-x-items.ensures c.loop-x-test.true in
    let at = subst (λ (ys : List Sending). x ≡ get_or ys i x) c.sent-x-items.ensures c.x-item.is in
    let pushed : c.push.new.self.items ≡ old ++ m ∷ [] = search rules in
    let size = ap length pushed in
    let longer = length_push old m in
    let here = subst (λ (l : Lines). IsReceivedBy s.profile l nodes sent x m) c.trace.ensures.value
    (subst (λ (p : Numbers). IsReceivedBy p c.trace.result.now.lines nodes sent x m) c.profile-profile.ensures.value c.receivers-mask.ensures) in
    record {
      one_each = omega (arith, size, longer, c.loop-x.invariant.one_each);
      each = one_more (IsReceivedBy s.profile s.trace nodes sent) sent i x old c.push.new.self.items m below at c.loop-x.invariant.one_each pushed
          c.loop-x.invariant.each here;
    }

pub returns : goal.returns
returns c =
    let size = ap length c.sent-x-items.ensures in
    record {
      one_each = omega (arith, size, c.loop-x.invariant.one_each, c.loop-x-test.false, c.loop-x.auto);
      each = λ k d below. c.loop-x.invariant.each k d 0 (omega (arith, size, below, c.loop-x-test.false));
    }
