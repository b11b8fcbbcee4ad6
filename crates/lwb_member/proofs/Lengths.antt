-- The bytes of what is said, counted.
use Rattle.std.proofs.Common.{◌≡◌, ℕ, length, refl, arith}
use Rattle.schedule_codec.proofs.Readings.{length-spelling}
use Rattle.bus_rules.specs.Slots.{Message, ScheduleOf, DataOf, RequestOf, message_length}
use Rattle.lwb_member.specs.Said.{bytes_of}

pub said_long : (m : Message) (j : ℕ) → length (bytes_of m j) ≡ message_length m
said_long (ScheduleOf x) j = length-spelling x j 0
said_long (DataOf d) j = omega arith
said_long (RequestOf a) j = refl
