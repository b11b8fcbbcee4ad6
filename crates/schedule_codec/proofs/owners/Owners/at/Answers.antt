use Rattle.std.proofs.Common.{ap, ◌∙◌, arith, slice_get}
use Rattle.schedule_codec.specs.OwnerLists.{are_owners}
use Rattle.schedule_codec.proofs.Lists.{owner_at}
use Rattle.schedule_codec.proofs.owners.Owners.at.Goals as goal

pub returns : goal.returns
returns c =
    let codes = c.as_slice-codes.result.now in
    let value = c.as_slice-codes.ensures.value in
    owner_at codes c.args.i c.from_code.result (ap (λ l. are_owners l) value ∙ c.self.invariant) (omega arith) c.from_code.ensures
    ∙ ap (λ l. slice_get l c.args.i) (value ∙ c.self.view_is)
