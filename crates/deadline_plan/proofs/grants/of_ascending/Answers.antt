use Rattle.std.proofs.Common.{◌≡◌, ◌++◌, ◌∷◌, [], List, ap, sym, ◌∙◌, ℕ, take, true}
use Rattle.std.proofs.lemmas.Bool.{cond-true}
use Rattle.std.proofs.lemmas.List.{take_more}
use Rattle.schedule_codec.specs.OwnerLists.{takes_owner}
use Rattle.deadline_plan.proofs.OwnersAscend.{takes}
use Rattle.deadline_plan.proofs.grants.of_ascending.Goals as goal

pub loop-owner-preserved : goal.loop-owner-preserved
loop-owner-preserved c =
    let l = c.loop-owner in
    let xs = c.args.owners.now in
    let o = c.owner-item.result in
    let taken : takes_owner l.round o ≡ true = ap (λ (r : List ℕ). takes_owner r o) l.invariant ∙ takes xs l.owner-index o o c.requires.ascending
    c.requires.few c.loop-owner-test.true c.owner-item.is in
    c.add.ensures.list ∙ cond-true c.add.result (l.round ++ o ∷ []) l.round (c.add.ensures.answer ∙ taken) ∙ ap (λ (r : List ℕ). r ++ o ∷ []) l.invariant
    ∙ ap (λ (x : ℕ). take l.owner-index xs ++ x ∷ []) c.owner-item.is ∙ sym (take_more xs l.owner-index o c.loop-owner-test.true)
