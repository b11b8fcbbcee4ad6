-- What each id did by a log, at the place of that id.
use Rattle.std.specs.Prelude.{◌≡◌, ℕ, List, [], ◌∷◌, ◌++◌, length, get_or}
use Rattle.lwb_base.specs.declared.limits.TheConstants.{PLACES_BY_ID}
use Rattle.radio_model.specs.declared.sending.Sending.{Sending}
use Rattle.radio_model.specs.OnAir.{Hearing, Tuning}
use Rattle.air_log.specs.declared.entry.Entry.{Entry}
use Rattle.air_log.specs.declared.entry.Entry.TheVariants.{Sent, Heard, Tuned}
use Rattle.air_log.specs.Courses.{hearing_of}
use Rattle.air_log.specs.DeviceStates.{tuning_of}
use Rattle.air_log.specs.Lawful.{sent_by, hearings_by, tuned_by}

pub record NodeLogState : Type 0 where
  pub sent : List Sending
  pub heard : List Hearing
  pub tuned : List Tuning

abbrev pub empty_node_log : NodeLogState
empty_node_log = record { sent = []; heard = []; tuned = [] }

-- in the order of the log
abbrev pub log_by : List Entry → ℕ → NodeLogState
log_by air v = record { sent = sent_by air v; heard = hearings_by air v; tuned = tuned_by air v }

-- one entry more
abbrev pub after_entry : NodeLogState → Entry → NodeLogState
after_entry n (Sent x) = record n { sent = n.sent ++ x ∷ [] }
after_entry n (Heard h) = record n { heard = n.heard ++ hearing_of h ∷ [] }
after_entry n (Tuned t) = record n { tuned = n.tuned ++ tuning_of t ∷ [] }

-- ids are 1 to GREATEST_ID
pub record AreLogsOf (air : List Entry) (logs : List NodeLogState) : Type 0 where
  pub ids : length logs ≡ PLACES_BY_ID
  pub none : get_or logs 0 empty_node_log ≡ empty_node_log
  pub each : (v : ℕ) → get_or logs v empty_node_log ≡ log_by air v
