-- Small logs that are not safe, each for one reason. Their nodes are those of the worked first round.
use Rattle.std.specs.Prelude.{List, [], ◌∷◌, ◌++◌, map}
use Rattle.scenario_text.specs.ScenarioParts.{ScenarioParts}
use Rattle.bus_rules.specs.declared.act.Act.TheVariants.{Off}
use Rattle.radio_model.specs.declared.sending.Sending.{Sending}
use Rattle.air_log.specs.declared.entry.Entry.{Entry}
use Rattle.air_log.specs.declared.entry.Entry.TheVariants.{Sent}
use Rattle.air_log.specs.Entries.{heard_entry}
use Rattle.air_log.specs.FirstRound.{first_round, sent_at, opening_with, closing_with}
use Rattle.law_trails.specs.OnePacket.{grant_with, reopening_with}

abbrev pub log_of_sendings : List Sending → List Entry
log_of_sendings xs = map Sent xs

-- the opening of frame 5 by the host, and by node 2 as well; and one that ends as the next frame starts
abbrev pub opening_transmission : Sending
opening_transmission = sent_at 1 1344064000 1344100864 (opening_with 0)

abbrev pub opened_too : Sending
opened_too = sent_at 2 1344064000 1344100864 (opening_with 0)

abbrev pub opened_late : Sending
opened_late = sent_at 1 1535963136 1536000000 (opening_with 0)

-- a closing, and a relay, that begin while it is on the air; and a relay of another boot
abbrev pub closed_early : Sending
closed_early = sent_at 1 1344100000 1344136864 (closing_with 0)

abbrev pub relayed_early : Sending
relayed_early = sent_at 2 1344100000 1344136864 (opening_with 1)

abbrev pub relayed_otherwise : Sending
relayed_otherwise = sent_at 2 1344113152 1344150016 (1 ∷ 0 ∷ 1 ∷ 0 ∷ 2 ∷ 0 ∷ 0 ∷ 0 ∷ 0 ∷ 0 ∷ [])

-- two relays of one step that start 33 ticks apart
abbrev pub relayed : Sending
relayed = sent_at 1 1344113152 1344150016 (opening_with 1)

abbrev pub relayed_late : Sending
relayed_late = sent_at 2 1344113185 1344150049 (opening_with 1)

-- within one frame
abbrev pub ends_late : List Entry
ends_late = log_of_sendings (opened_late ∷ [])

-- no overlap
abbrev pub slots_meet : List Entry
slots_meet = log_of_sendings (opening_transmission ∷ closed_early ∷ [])

abbrev pub steps_meet : List Entry
steps_meet = log_of_sendings (opening_transmission ∷ relayed_early ∷ [])

-- same but for the counter
abbrev pub starts_apart : List Entry
starts_apart = log_of_sendings (relayed ∷ relayed_late ∷ [])

abbrev pub other_bytes : List Entry
other_bytes = log_of_sendings (opening_transmission ∷ relayed_otherwise ∷ [])

-- one initiator
abbrev pub two_begin : List Entry
two_begin = log_of_sendings (opening_transmission ∷ opened_too ∷ [])

abbrev pub not_the_host : List Entry
not_the_host = log_of_sendings (opened_too ∷ [])

-- silence: of node 2, which the script never switches on
abbrev pub no_power : ScenarioParts
no_power = record first_round { frames = 10; script = [] }

abbrev pub scenario_with_off_line : ScenarioParts
scenario_with_off_line = record no_power { script = record { frame = 9; node = 2; act = Off } ∷ [] }

-- data in slot 1 of frame 5, and data and a request in slot 1 of frame 9
abbrev pub data_said : Sending
data_said = sent_at 2 1346176000 1346208768 (2 ∷ 1 ∷ 0 ∷ 2 ∷ 1 ∷ 0 ∷ 0 ∷ 0 ∷ [])

abbrev pub later_data : Sending
later_data = sent_at 2 2370176000 2370208768 (2 ∷ 1 ∷ 0 ∷ 2 ∷ 1 ∷ 0 ∷ 0 ∷ 0 ∷ [])

abbrev pub asked : Sending
asked = sent_at 2 2370176000 2370206720 (3 ∷ 1 ∷ 0 ∷ 2 ∷ 1 ∷ 0 ∷ 4 ∷ [])

-- closings of that round which are for frame 9, without owners, and with slots of node 2
abbrev pub closing_transmission : Sending
closing_transmission = sent_at 1 1348288000 1348324864 (closing_with 0)

abbrev pub grant_transmission : Sending
grant_transmission = sent_at 1 1348288000 1348328960 (grant_with 0)

-- the opening of frame 9 by which these slots are its own
abbrev pub reopening_transmission : Sending
reopening_transmission = sent_at 1 2368064000 2368104960 (reopening_with 0)

-- it received no schedule
abbrev pub unheard : List Entry
unheard = log_of_sendings (data_said ∷ [])

-- it received an opening, by which slot 1 is not its own
abbrev pub not_the_owner : List Entry
not_the_owner = log_of_sendings (opening_transmission ∷ data_said ∷ []) ++ heard_entry 2 opening_transmission ∷ []

-- it received an opening of another frame
abbrev pub not_due : List Entry
not_due = log_of_sendings (opening_transmission ∷ asked ∷ []) ++ heard_entry 2 opening_transmission ∷ []

-- it received the closing for this frame, and no opening
abbrev pub not_opened : List Entry
not_opened = log_of_sendings (closing_transmission ∷ asked ∷ []) ++ heard_entry 2 closing_transmission ∷ []

-- it received the opening of this frame, by which slot 1 is a data slot
abbrev pub asked_in_data_slot : List Entry
asked_in_data_slot = log_of_sendings (reopening_transmission ∷ asked ∷ []) ++ heard_entry 2 reopening_transmission ∷ []

-- slot 1 is its own, but where the script switches it off since
abbrev pub gone_off : List Entry
gone_off = log_of_sendings (grant_transmission ∷ later_data ∷ []) ++ heard_entry 2 grant_transmission ∷ []
