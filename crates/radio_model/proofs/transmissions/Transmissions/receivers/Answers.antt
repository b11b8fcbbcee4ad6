use Rattle.std.proofs.Common.{◌≤◌, ◌-◌, List, length, take, drop, sym, ◌∙◌, ap, subst}
use Rattle.std.proofs.lemmas.List.{take_rest}
use Rattle.radio_model.specs.OnAir.{Sending}
use Rattle.radio_model.specs.Reaches.{HoldSame, SentParts}
use Rattle.radio_model.proofs.AreReached.{near_in_same, reaches_of_some}
use Rattle.radio_model.proofs.transmissions.Transmissions.receivers.Goals as goal

pub receivers-requires-clause-reaches : goal.receivers-requires-clause-reaches
receivers-requires-clause-reaches c =
    let t = c.args.self.now in
    let at = c.near_places-first.result in
    let sent = ap (λ (p : SentParts). p.sent) c.self.view_is in
    let reaches = ap (λ (p : SentParts). p.reaches) c.self.view_is in
    let within = subst (λ (xs : List Sending). at.0 ≤ length xs) (c.deref.ensures.value ∙ sent) c.near_places-first.ensures.first in
    let few = subst (λ (xs : List Sending). at.1 ≤ length xs - at.0) (c.deref.ensures.value ∙ sent) c.near_places-first.ensures.count in
    rw (take_rest, take_rest, c.deref-2.ensures.value ∙ sent, c.deref-3.ensures.value ∙ reaches)
    (reaches_of_some c.args.profile.now c.args.trace.now.lines c.args.nodes.now t.sent t.reaches at.0 at.1 within few c.requires.searchable.reaches)

pub returns : goal.returns
returns c =
    λ a v numbers lines same known tuned.
    let x = c.args.x.now in
    let at = c.near_places-first.result in
    let sent = c.deref.result.now in
    let held = ap (λ (p : SentParts). p.sent) c.self.view_is in
    let here = subst (HoldSame a.sendings) (sym (c.deref.ensures.value ∙ held)) same in
    c.receivers.ensures a v numbers lines
    (rw (take_rest, c.deref-2.ensures.value, sym c.deref.ensures.value)
    (near_in_same a.sendings sent (take at.1 (drop at.0 sent)) x here c.near_places-first.ensures.near))
    (same.back x c.requires.there) known tuned
