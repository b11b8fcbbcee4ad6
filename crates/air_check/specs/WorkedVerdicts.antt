-- The log of a first round without its first reception: node 2 relays what it did not receive.
use Rattle.std.specs.Prelude.{List, ◌++◌, map, drop}
use Rattle.air_log.specs.declared.entry.Entry.{Entry}
use Rattle.air_log.specs.declared.entry.Entry.TheVariants.{Sent}
use Rattle.air_log.specs.FirstRound.{sent_in_round, heard_in_round, entry_of_hearing, tuned_entry, first_round_tuned_by_host, tuned_by_other}

abbrev pub first_reception_lost : List Entry
first_reception_lost =
    map Sent sent_in_round ++ map entry_of_hearing (drop 1 heard_in_round) ++ map tuned_entry (first_round_tuned_by_host ++ tuned_by_other)
