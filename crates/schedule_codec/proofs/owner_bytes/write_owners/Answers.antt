use Rattle.std.proofs.Common.{ap, ◌∙◌}
use Rattle.schedule_codec.specs.OwnerLists.{are_owners}
use Rattle.schedule_codec.proofs.Widths.{first_and_rest}
use Rattle.schedule_codec.proofs.owner_bytes.write_owners.Goals as goal

pub write_codes-requires : goal.write_codes-requires
write_codes-requires c = ap (λ l. are_owners l) (first_and_rest c.codes.result.now c.in-len1-up.len_at_least ∙ c.codes.ensures.value) ∙ c.codes.ensures.owners
