-- How long each node sent and was tuned in a log, as it is summed.
use Rattle.std.specs.Prelude.{◌≡◌, ◌≢◌, ℕ, ◌+◌, ◌%◌, ◌^◌, ◌<◌, List, length, slice_index_or, sum_by, ⊤}
use Rattle.lwb_base.specs.declared.limits.TheConstants.{PLACES_BY_ID}
use Rattle.air_log.specs.declared.entry.Entry.{Entry}
use Rattle.air_log.specs.declared.entry.Entry.TheVariants.{Sent, Heard, Tuned}
use Rattle.air_log.specs.Lawful.{sent_by, tuned_by}
use Rattle.air_log.specs.Energies.{sending_time, tuning_time}

-- by the number of the node
pub record TimesState : Type 0 where
  pub sent : List ℕ
  pub on : List ℕ

-- the sums of a log as 64 bits have them
pub record HasTimes (air : List Entry) (t : TimesState) : Type 0 where
  pub sent : (v : ℕ) → v < PLACES_BY_ID → slice_index_or t.sent v 0 ≡ sum_by sending_time (sent_by air v) % 2 ^ 64
  pub on : (v : ℕ) → v < PLACES_BY_ID → slice_index_or t.on v 0 ≡ sum_by tuning_time (tuned_by air v) % 2 ^ 64

-- one of the sums is raised
pub record IsRaised (v time : ℕ) (old new : List ℕ) : Type 0 where
  pub long : length new ≡ length old
  pub own : slice_index_or new v 0 ≡ (slice_index_or old v 0 + time) % 2 ^ 64
  pub others : (u : ℕ) → u ≢ v → slice_index_or new u 0 ≡ slice_index_or old u 0

-- a transmission ends at a tick that 64 bits have
abbrev pub EndsEarly : Entry → Type 0
EndsEarly (Sent x) = x.end < 2 ^ 64
EndsEarly (Heard h) = ⊤
EndsEarly (Tuned t) = ⊤
