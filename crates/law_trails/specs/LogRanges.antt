-- Logs in which only what was sent is received.
use Rattle.std.specs.Prelude.{ℕ, List, Contains}
use Rattle.radio_model.specs.declared.sending.Sending.{Sending}
use Rattle.air_log.specs.declared.entry.Entry.{Entry}
use Rattle.air_log.specs.Entries.{sendings_of, HasHeardEntry}

abbrev pub HearsWhatIsSent : List Entry → Type 0
HearsWhatIsSent air = (v : ℕ) (x : Sending) → HasHeardEntry air v x → Contains (sendings_of air) x
