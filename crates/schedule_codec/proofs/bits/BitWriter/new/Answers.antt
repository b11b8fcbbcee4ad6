use Rattle.schedule_codec.specs.Packing.{packed_number}
use Rattle.schedule_codec.proofs.bits.BitWriter.new.Goals as goal
use Rattle.std.proofs.Common.{rules}

pub returns : goal.returns
unfolding packed_number
returns c = search rules
