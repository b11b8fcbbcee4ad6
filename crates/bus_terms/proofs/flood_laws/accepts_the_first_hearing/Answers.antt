use Rattle.bus_terms.proofs.FirstHearings.{accepted_first, heard_in_time}
use Rattle.bus_terms.proofs.flood_laws.accepts_the_first_hearing.Goals as goal

pub returns : goal.returns
returns c = record { accepted = accepted_first; in_time = heard_in_time }
