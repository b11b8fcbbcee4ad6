use Rattle.law_windows.proofs.FramePlaces.{places as by_tune}
use Rattle.law_windows.proofs.Strangers.{strangers as unknown}
use Rattle.law_windows.proofs.course_laws.nodes_begin_frames_by_their_tune.Goals as goal

pub returns : goal.returns
returns c = record { places = by_tune; strangers = unknown }
