use Rattle.std.proofs.Common.{List, Contains, take, get_or}
use Rattle.link_trace.specs.declared.lines.LinkLine.{LinkLine}
use Rattle.radio_model.specs.OnAir.{Sending}
use Rattle.air_log.specs.declared.entry.Entry.{Entry}
use Rattle.air_log.specs.Entries.{hearings_of, HasHeardEntry}
use Rattle.air_check.specs.Flags.{AreFlags}
use Rattle.air_check.specs.Indexes.{IsIndex}
use Rattle.air_check.specs.Verdicts.{IsGiven}
use Rattle.air_check.proofs.missing.first_of.Given as goal

abbrev pub invariant-loop-link : goal.invariant-loop-link
invariant-loop-link l =
    (air : List Entry) (d : Sending) → IsIndex air l.index → AreFlags l.index.sent.items (hearings_of air) l.flags
    → (n : LinkLine) → Contains (take l.link-index l.links) n → IsGiven l.s air n.to (get_or l.index.sent.items l.k d)
    → HasHeardEntry air n.to (get_or l.index.sent.items l.k d)
