use Rattle.law_trails.proofs.OtherCounters.{told_again, first_place, other_place}
use Rattle.law_trails.proofs.packet_laws.what_is_written_is_read_back.Goals as goal

pub returns : goal.returns
returns c = record { message = told_again; place = other_place; first = first_place }
