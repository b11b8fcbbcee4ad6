-- Worked trails over clocks that drift apart: node 1 hosts for node 2, which has one packet to say. In frame 5 node 2 asks
-- for its stream and is granted four slots, and in frame 9 it says the packet in the first of them. The clock of node 1
-- gains 20 millionths, that of node 2 loses as much. In slot 0 of frame 9 the host does not receive the relay of its opening.
-- By that opening node 2 takes its next window to be open already when it closes the first, so both tunings are one.
use Rattle.std.specs.Prelude.{ℕ, List, [], ◌∷◌, ◌++◌, ◌==◌, if◌then◌else◌, map, pos, negsuc}
use Rattle.lwb_base.specs.Profile.{one}
use Rattle.tick_clock.specs.Rates.{segment_reading}
use Rattle.scenario_text.specs.ScenarioParts.{ScenarioParts}
use Rattle.bus_rules.specs.declared.act.Act.TheVariants.{On, Declare, Put}
use Rattle.radio_model.specs.declared.sending.Sending.{Sending}
use Rattle.radio_model.specs.OnAir.{Hearing, Tuning}
use Rattle.air_log.specs.declared.entry.Entry.{Entry}
use Rattle.air_log.specs.declared.entry.Entry.TheVariants.{Sent}
use Rattle.air_log.specs.Trails.{Reception}
use Rattle.air_log.specs.Lawful.{reception_of}
use Rattle.air_log.specs.FirstRound.{opening_with, sent_at, tuned_at, tuned_entry, entry_of_hearing}

abbrev pub one_packet : ScenarioParts
one_packet = record {
  profile = one;
  frames = 12;
  sends = 2;
  nodes = record { node = 1; offset = 0 } ∷ record { node = 2; offset = 0 } ∷ [];
  rates = record { node = 1; from = 0; ppm = pos 20 } ∷ record { node = 2; from = 0; ppm = negsuc 19 } ∷ [];
  hosts = 1 ∷ [];
  trace = record {
    links = record { from = 1; to = 2 } ∷ record { from = 2; to = 1 } ∷ [];
    losses = record { frame = 9; slot = 0; step = 1; from = 2; to = 1 } ∷ [];
    cuts = [];
    captures = [];
  };
  script =
      record { frame = 0; node = 1; act = On }
      ∷ record { frame = 0; node = 2; act = On }
      ∷ record { frame = 0; node = 2; act = Declare 0 4 }
      ∷ record { frame = 0; node = 2; act = Put 0 (170 ∷ []) }
      ∷ [];
}

-- the clocks that these lines state
abbrev pub drifting : ℕ → ℕ → ℕ
drifting v =
    if 1 == v then segment_reading 0 ((0, pos 20) ∷ [])
    else if 2 == v then segment_reading 0 ((0, negsuc 19) ∷ [])
    else λ t. t

-- the request of node 2, the closing that grants it with gap 4, the opening of that round, the packet, and its closing
abbrev pub request_with : ℕ → List ℕ
request_with counter = 3 ∷ 1 ∷ counter ∷ 2 ∷ 1 ∷ 0 ∷ 4 ∷ []

abbrev pub grant_with : ℕ → List ℕ
grant_with counter = 1 ∷ 2 ∷ counter ∷ 4 ∷ 1 ∷ 2 ∷ 1 ∷ 0 ∷ 4 ∷ 4 ∷ 0 ∷ 128 ∷ []

abbrev pub reopening_with : ℕ → List ℕ
reopening_with counter = 1 ∷ 0 ∷ counter ∷ 0 ∷ 1 ∷ 2 ∷ 1 ∷ 0 ∷ 4 ∷ 4 ∷ 0 ∷ 128 ∷ []

abbrev pub data_with : ℕ → List ℕ
data_with counter = 2 ∷ 1 ∷ counter ∷ 2 ∷ 1 ∷ 0 ∷ 0 ∷ 0 ∷ 170 ∷ []

abbrev pub data_closing_with : ℕ → List ℕ
data_closing_with counter = 1 ∷ 6 ∷ counter ∷ 4 ∷ 1 ∷ 0 ∷ 0 ∷ 0 ∷ 0 ∷ 4 ∷ 0 ∷ 128 ∷ []

-- each transmission, by what it says and its counter
abbrev pub opening_0 : Sending
opening_0 = sent_at 1 1344037120 1344073984 (opening_with 0)

abbrev pub opening_1 : Sending
opening_1 = sent_at 2 1344086272 1344123136 (opening_with 1)

abbrev pub opening_2 : Sending
opening_2 = sent_at 1 1344135424 1344172288 (opening_with 2)

abbrev pub opening_3 : Sending
opening_3 = sent_at 2 1344184576 1344221440 (opening_with 3)

abbrev pub request_0 : Sending
request_0 = sent_at 2 1346149161 1346179881 (request_with 0)

abbrev pub request_1 : Sending
request_1 = sent_at 1 1346192169 1346222889 (request_with 1)

abbrev pub request_2 : Sending
request_2 = sent_at 2 1346235177 1346265897 (request_with 2)

abbrev pub request_3 : Sending
request_3 = sent_at 1 1346278185 1346308905 (request_with 3)

abbrev pub grant_0 : Sending
grant_0 = sent_at 1 1348261035 1348301995 (grant_with 0)

abbrev pub grant_1 : Sending
grant_1 = sent_at 2 1348314283 1348355243 (grant_with 1)

abbrev pub grant_2 : Sending
grant_2 = sent_at 1 1348367531 1348408491 (grant_with 2)

abbrev pub grant_3 : Sending
grant_3 = sent_at 2 1348420779 1348461739 (grant_with 3)

abbrev pub reopening_0 : Sending
reopening_0 = sent_at 1 2368016640 2368057600 (reopening_with 0)

abbrev pub reopening_1 : Sending
reopening_1 = sent_at 2 2368069888 2368110848 (reopening_with 1)

abbrev pub data_0 : Sending
data_0 = sent_at 2 2370128681 2370163497 (data_with 0)

abbrev pub data_1 : Sending
data_1 = sent_at 1 2370175785 2370210601 (data_with 1)

abbrev pub data_2 : Sending
data_2 = sent_at 2 2370222889 2370257705 (data_with 2)

abbrev pub data_3 : Sending
data_3 = sent_at 1 2370269993 2370304809 (data_with 3)

abbrev pub closing_0 : Sending
closing_0 = sent_at 1 2380688387 2380729347 (data_closing_with 0)

abbrev pub closing_1 : Sending
closing_1 = sent_at 2 2380741635 2380782595 (data_closing_with 1)

abbrev pub closing_2 : Sending
closing_2 = sent_at 1 2380794883 2380835843 (data_closing_with 2)

abbrev pub closing_3 : Sending
closing_3 = sent_at 2 2380848131 2380889091 (data_closing_with 3)

-- as they begin
abbrev pub sent_in_rounds : List Sending
sent_in_rounds =
    opening_0 ∷ opening_1 ∷ opening_2 ∷ opening_3
    ∷ request_0 ∷ request_1 ∷ request_2 ∷ request_3
    ∷ grant_0 ∷ grant_1 ∷ grant_2 ∷ grant_3
    ∷ reopening_0 ∷ reopening_1 ∷ data_0 ∷ data_1
    ∷ data_2 ∷ data_3 ∷ closing_0 ∷ closing_1
    ∷ closing_2 ∷ closing_3
    ∷ []

abbrev pub sent_by_host : List Sending
sent_by_host =
    opening_0 ∷ opening_2 ∷ request_1 ∷ request_3 ∷ grant_0 ∷ grant_2
    ∷ reopening_0 ∷ data_1 ∷ data_3 ∷ closing_0 ∷ closing_2
    ∷ []

abbrev pub sent_by_member : List Sending
sent_by_member =
    opening_1 ∷ opening_3 ∷ request_0 ∷ request_2 ∷ grant_1 ∷ grant_3
    ∷ reopening_1 ∷ data_0 ∷ data_2 ∷ closing_1 ∷ closing_3
    ∷ []

abbrev pub reception_at : ℕ → Sending → Hearing
reception_at v x = record { node = v; sending = x }

-- as they end
abbrev pub heard_in_rounds : List Hearing
heard_in_rounds =
    reception_at 2 opening_0 ∷ reception_at 1 opening_1 ∷ reception_at 2 opening_2 ∷ reception_at 1 request_0
    ∷ reception_at 2 request_1 ∷ reception_at 1 request_2 ∷ reception_at 2 grant_0 ∷ reception_at 1 grant_1
    ∷ reception_at 2 grant_2 ∷ reception_at 2 reopening_0 ∷ reception_at 1 data_0 ∷ reception_at 2 data_1
    ∷ reception_at 1 data_2 ∷ reception_at 2 closing_0 ∷ reception_at 1 closing_1 ∷ reception_at 2 closing_2
    ∷ []

-- what each node receives
abbrev pub heard_by_host : List Reception
heard_by_host =
    map reception_of (reception_at 1 opening_1 ∷ reception_at 1 request_0 ∷ reception_at 1 request_2 ∷ reception_at 1 grant_1 ∷ reception_at 1 data_0
    ∷ reception_at 1 data_2 ∷ reception_at 1 closing_1 ∷ [])

abbrev pub heard_by_member : List Reception
heard_by_member =
    map reception_of (
    reception_at 2 opening_0 ∷ reception_at 2 opening_2 ∷ reception_at 2 request_1 ∷ reception_at 2 grant_0 ∷ reception_at 2 grant_2
    ∷ reception_at 2 reopening_0 ∷ reception_at 2 data_1 ∷ reception_at 2 closing_0 ∷ reception_at 2 closing_2 ∷ []
    )

-- the last first
abbrev pub tuned_by_host : List Tuning
tuned_by_host =
    tuned_at 1 2380624388 2380835843 ∷ tuned_at 1 2378512430 2380608388 ∷ tuned_at 1 2376400472 2378496431
    ∷ tuned_at 1 2374288515 2376384473 ∷ tuned_at 1 2372176557 2374272515 ∷ tuned_at 1 2370064599 2370304809
    ∷ tuned_at 1 2367952641 2370048600 ∷ tuned_at 1 1348197037 1348408491 ∷ tuned_at 1 1346085079 1346308905
    ∷ tuned_at 1 1343973121 1344172288 ∷ tuned_at 1 0 1228775425
    ∷ []

abbrev pub tuned_by_member : List Tuning
tuned_by_member =
    tuned_at 2 2380624891 2380889091 ∷ tuned_at 2 2378512849 2380608891 ∷ tuned_at 2 2376400807 2378496848
    ∷ tuned_at 2 2374288764 2376384806 ∷ tuned_at 2 2372176722 2374272764 ∷ tuned_at 2 2367993428 2370257705
    ∷ tuned_at 2 1348197202 1348461739 ∷ tuned_at 2 1346085160 1346265897 ∷ tuned_at 2 0 1344221440
    ∷ []

abbrev pub one_packet_log : List Entry
one_packet_log = map Sent sent_in_rounds ++ map entry_of_hearing heard_in_rounds ++ map tuned_entry (tuned_by_host ++ tuned_by_member)
