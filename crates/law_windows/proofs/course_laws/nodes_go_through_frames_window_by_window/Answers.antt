use Rattle.law_windows.proofs.Courses.{through_frames}
use Rattle.law_windows.proofs.course_laws.nodes_go_through_frames_window_by_window.Goals as goal

pub returns : goal.returns
returns c = through_frames
