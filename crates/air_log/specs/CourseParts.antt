-- What contracts see of the parts of a course.
use Rattle.std.specs.Prelude.{map, reverse}
use Rattle.air_log.specs.declared.course.Course.TheInside.{Inside}
use Rattle.air_log.specs.Courses.{CourseState}
use Rattle.air_log.specs.DeviceStates.{tuning_of}

abbrev pub course_of : Inside → CourseState
course_of c = record {
  device = c.device;
  tuning = c.tuning;
  sent = c.sent.items;
  tuned = reverse (map tuning_of c.tuned.items);
  deliveries = c.deliveries.items;
}
