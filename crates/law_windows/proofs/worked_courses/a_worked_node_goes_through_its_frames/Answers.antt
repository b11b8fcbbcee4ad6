use Rattle.law_windows.proofs.WorkedCourses.{awaits_9, closes_0, ends_5, opens_0, opens_1, rests_7, stands as by_tune}
use Rattle.law_windows.proofs.worked_courses.a_worked_node_goes_through_its_frames.Goals as goal

pub returns : goal.returns
returns c = record { ends = ends_5; rests = rests_7; awaits = awaits_9; stands = by_tune; opens = opens_0; closes = closes_0; follows = opens_1 }
