use Rattle.std.proofs.Common.{ℕ, ◌<◌, get_or, List}
use Rattle.radio_model.specs.OnAir.{Sending}
use Rattle.air_log.specs.declared.entry.Entry.{Entry}
use Rattle.air_log.specs.Entries.{hearings_of, HasHeardEntry}
use Rattle.air_check.specs.Flags.{AreFlags}
use Rattle.air_check.specs.Indexes.{IsIndex}
use Rattle.air_check.specs.Verdicts.{IsGiven}
use Rattle.air_check.proofs.missing.first_missing.Given as goal

abbrev pub invariant-loop-k : goal.invariant-loop-k
invariant-loop-k l =
    (air : List Entry) → IsIndex air l.index → AreFlags l.index.sent.items (hearings_of air) l.flags → (j w : ℕ) (d : Sending) → j < l.k
    → IsGiven l.s air w (get_or l.index.sent.items j d) → HasHeardEntry air w (get_or l.index.sent.items j d)
