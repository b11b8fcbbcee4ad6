use Rattle.std.proofs.Common.{ℕ, not, ◌&&◌, ◌||◌, refl}
use Rattle.std.specs.List.{list_any}
use Rattle.link_trace.specs.Masks.{IsMask}
use Rattle.link_trace.specs.Passes.{captured}
use Rattle.link_trace.proofs.MaskBits.{left_out, same_tests}
use Rattle.radio_model.specs.Hearing.{frame_of_sending, slot_of_sending, counter_of_sending}
use Rattle.radio_model.specs.Receptions.{arrives, transmits, spoils, differs, is_captured, comes_through}
use Rattle.radio_model.proofs.Received.{gives, asks}
use Rattle.radio_model.proofs.ReceiverMasks.{none_lost, unless_lost, passes_test, among_test}
use Rattle.radio_model.proofs.receivers.receivers.Goals as goal

pub returns-in_default : goal.returns-in_default
returns-in_default c =
    λ a v numbers trace are sent there tuned.
    let nodes = c.args.nodes.now in
    let p = c.args.profile.now in
    let lines = c.args.trace.now.lines in
    let near = c.args.near.now in
    let x = c.args.x.now in
    let clean = λ (u : ℕ). arrives p lines u x && not (list_any (transmits u x) near) && not (list_any (spoils p lines u x) near) in
    let through = λ (u : ℕ). comes_through p lines u x near in
    let mixed = λ (u : ℕ). list_any (differs p lines u x) near in
    let chosen = λ (u : ℕ). is_captured p lines u x near (captured lines (frame_of_sending p x) (slot_of_sending x) (counter_of_sending x) u) in
    let nowhere = c.in_default.ensures.none lines nodes (λ u. arrives p lines u x) c.requires.nodes.few c.requires.reaches c.requires.reach.to in
    let is : IsMask through nodes 0 = none_lost nodes clean (λ u. not (mixed u) || chosen u) 0 refl nowhere in (
      λ among. gives p lines a numbers trace near x are v sent tuned (passes_test nodes through 0 v is among),
      λ hears. among_test nodes through 0 v is there (asks p lines a numbers trace near x are v hears),
    )

pub returns : goal.returns
returns c =
    λ a v numbers trace are sent there tuned.
    let nodes = c.args.nodes.now in
    let p = c.args.profile.now in
    let lines = c.args.trace.now.lines in
    let near = c.args.near.now in
    let x = c.args.x.now in
    let arriving = λ (u : ℕ). arrives p lines u x in
    let busy = λ (u : ℕ). list_any (transmits u x) near in
    let late = λ (u : ℕ). list_any (spoils p lines u x) near in
    let mixed = λ (u : ℕ). list_any (differs p lines u x) near in
    let chosen = λ (u : ℕ). is_captured p lines u x near (captured lines (frame_of_sending p x) (slot_of_sending x) (counter_of_sending x) u) in
    let through = λ (u : ℕ). comes_through p lines u x near in
    let does = c.in-Some.ensures.some lines nodes c.requires.reaches in
    let quiet = left_out nodes arriving busy c.args.reach.to _ c.except-quiet.result c.except-quiet.ensures c.requires.reach.to does.busy in
    let clean = left_out nodes (λ u. arriving u && not (busy u)) late c.except-quiet.result _ c.except-clean.result c.except-clean.ensures quiet does.late in
    let kept = left_out nodes (λ u. arriving u && not (busy u) && not (late u)) (λ u. mixed u && not (chosen u)) c.except-clean.result c.lost-lost.result
    c.except.result c.except.ensures clean (c.lost-lost.ensures mixed does.mixed) in
    let mask = c.except.result in
    let is : IsMask through nodes mask =
    same_tests nodes (λ u. (arriving u && not (busy u) && not (late u)) && not (mixed u && not (chosen u))) through mask
    (λ u. unless_lost (arriving u && not (busy u) && not (late u)) (mixed u) (chosen u)) kept in (
      λ among. gives p lines a numbers trace near x are v sent tuned (passes_test nodes through mask v is among),
      λ hears. among_test nodes through mask v is there (asks p lines a numbers trace near x are v hears),
    )
