use Rattle.law_terms.proofs.AlignedSlots.{open_core, close_core, frame_core}
use Rattle.law_terms.proofs.core_laws.rows_change_the_core_as_the_bus.Goals as goal

pub returns : goal.returns
returns c = record { opening = open_core; closing = close_core; frame = frame_core }
