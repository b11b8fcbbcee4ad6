-- Orders of nodes, worked out manually from the rules, by clocks without drift.
use Rattle.std.proofs.Common.{◌≡◌, ℕ, List, [], ◌∷◌, Some, None, refl}
use Rattle.lwb_base.specs.Profile.{one}
use Rattle.lwb_base.specs.declared.event.Event.TheVariants.{Boot, Alarm, Heard, Sent}
use Rattle.lwb_base.specs.declared.order.Order.{Order}
use Rattle.lwb_base.specs.declared.order.Order.TheVariants.{Listen, Off, SendAt, Alarm as AlarmAt}
use Rattle.schedule_codec.specs.OwnerLists.{least_passing}
use Rattle.schedule_codec.specs.Packing.{digits, packed_number}
use Rattle.schedule_codec.specs.Reading.{schedule_of, asks_in}
use Rattle.bus_rules.specs.declared.tune.Tune.TheVariants.{Hold}
use Rattle.bus_rules.specs.Streams.{schedule_heard}
use Rattle.bus_rules.specs.Cores.{Setup}
use Rattle.node_core.specs.Nodes.{Node, rebooted}
use Rattle.test_nodes.specs.Calls.{after_calls, orders_of_each}
use Rattle.test_nodes.specs.declared.call.Call.{Call}
use Rattle.test_nodes.specs.declared.call.Call.TheVariants.{Step, Declare, Put}

-- the only host, and a node that hosts nothing
abbrev host : Setup
host = record { profile = one; id = 1; own = Some 0; ranks = 1; sends = 2 }

abbrev other : Setup
other = record { profile = one; id = 2; own = None; ranks = 1; sends = 2 }

-- a booted host scans for five frames, and opens its first round
abbrev host_calls : List Call
host_calls =
    Step 0 Boot
    ∷ Step 204800000 Alarm
    ∷ Step 460800000 Alarm
    ∷ Step 716800000 Alarm
    ∷ Step 972800000 Alarm
    ∷ Step 1228800000 Alarm
    ∷ Step 1344000000 Alarm
    ∷ []

abbrev host_orders : List (List Order)
host_orders =
    (Listen 0 ∷ AlarmAt 204800000 ∷ [])
    ∷ (Listen 0 ∷ AlarmAt 460800000 ∷ [])
    ∷ (Listen 0 ∷ AlarmAt 716800000 ∷ [])
    ∷ (Listen 0 ∷ AlarmAt 972800000 ∷ [])
    ∷ (Listen 0 ∷ AlarmAt 1228800000 ∷ [])
    ∷ (Off ∷ AlarmAt 1344000000 ∷ [])
    ∷ (Listen 0 ∷ SendAt 1344064000 (0x01 ∷ 0x00 ∷ 0x00 ∷ 0x00 ∷ 0x01 ∷ 0x00 ∷ 0x00 ∷ 0x00 ∷ 0x00 ∷ 0x00 ∷ []) ∷ AlarmAt 1346096000 ∷ [])
    ∷ []

host_boots : orders_of_each host (rebooted 1) host_calls ≡ host_orders
unfolding least_passing digits packed_number
host_boots = refl

-- a node with one packet joins the first round, requests, is acknowledged, and waits for frame 9
abbrev joining_calls : List Call
joining_calls =
    Step 0 Boot
    ∷ Declare 0 4
    ∷ Put 0 (0xaa ∷ [])
    ∷ Step 204800000 Alarm
    ∷ Step 460800000 Alarm
    ∷ Step 716800000 Alarm
    ∷ Step 972800000 Alarm
    ∷ Step 1228800000 Alarm
    ∷ Step 1344100864 (Heard (0x01 ∷ 0x00 ∷ 0x00 ∷ 0x00 ∷ 0x01 ∷ 0x00 ∷ 0x00 ∷ 0x00 ∷ 0x00 ∷ 0x00 ∷ []))
    ∷ Step 1344150016 Sent
    ∷ Step 1344199168 (Heard (0x01 ∷ 0x00 ∷ 0x02 ∷ 0x00 ∷ 0x01 ∷ 0x00 ∷ 0x00 ∷ 0x00 ∷ 0x00 ∷ 0x00 ∷ []))
    ∷ Step 1344248320 Sent
    ∷ Step 1346096000 Alarm
    ∷ Step 1346112000 Alarm
    ∷ Step 1346206720 Sent
    ∷ Step 1346249728 (Heard (0x03 ∷ 0x01 ∷ 0x01 ∷ 0x02 ∷ 0x01 ∷ 0x00 ∷ 0x04 ∷ []))
    ∷ Step 1346292736 Sent
    ∷ Step 1348208000 Alarm
    ∷ Step 1348224000 Alarm
    ∷ Step 1348328960 (Heard (0x01 ∷ 0x02 ∷ 0x00 ∷ 0x04 ∷ 0x01 ∷ 0x02 ∷ 0x01 ∷ 0x00 ∷ 0x04 ∷ 0x04 ∷ 0x00 ∷ 0x80 ∷ []))
    ∷ Step 1348382208 Sent
    ∷ Step 1348435456 (Heard (0x01 ∷ 0x02 ∷ 0x02 ∷ 0x04 ∷ 0x01 ∷ 0x02 ∷ 0x01 ∷ 0x00 ∷ 0x04 ∷ 0x04 ∷ 0x00 ∷ 0x80 ∷ []))
    ∷ Step 1348488704 Sent
    ∷ Step 1350320000 Alarm
    ∷ Step 1484800000 Alarm
    ∷ Step 1740800000 Alarm
    ∷ Step 1996800000 Alarm
    ∷ Step 2252800000 Alarm
    ∷ []

abbrev joining_orders : List (List Order)
joining_orders =
    (Listen 0 ∷ AlarmAt 204800000 ∷ [])
    ∷ []
    ∷ []
    ∷ (Listen 0 ∷ AlarmAt 460800000 ∷ [])
    ∷ (Listen 0 ∷ AlarmAt 716800000 ∷ [])
    ∷ (Listen 0 ∷ AlarmAt 972800000 ∷ [])
    ∷ (Listen 0 ∷ AlarmAt 1228800000 ∷ [])
    ∷ (Listen 0 ∷ AlarmAt 1484800000 ∷ [])
    ∷ (SendAt 1344113152 (0x01 ∷ 0x00 ∷ 0x01 ∷ 0x00 ∷ 0x01 ∷ 0x00 ∷ 0x00 ∷ 0x00 ∷ 0x00 ∷ 0x00 ∷ []) ∷ AlarmAt 1346096000 ∷ [])
    ∷ []
    ∷ (SendAt 1344211456 (0x01 ∷ 0x00 ∷ 0x03 ∷ 0x00 ∷ 0x01 ∷ 0x00 ∷ 0x00 ∷ 0x00 ∷ 0x00 ∷ 0x00 ∷ []) ∷ [])
    ∷ (Off ∷ [])
    ∷ (Off ∷ AlarmAt 1346112000 ∷ [])
    ∷ (Listen 0 ∷ SendAt 1346176000 (0x03 ∷ 0x01 ∷ 0x00 ∷ 0x02 ∷ 0x01 ∷ 0x00 ∷ 0x04 ∷ []) ∷ AlarmAt 1348208000 ∷ [])
    ∷ []
    ∷ (SendAt 1346262016 (0x03 ∷ 0x01 ∷ 0x02 ∷ 0x02 ∷ 0x01 ∷ 0x00 ∷ 0x04 ∷ []) ∷ [])
    ∷ (Off ∷ [])
    ∷ (Off ∷ AlarmAt 1348224000 ∷ [])
    ∷ (Listen 0 ∷ AlarmAt 1350320000 ∷ [])
    ∷ (SendAt 1348341248 (0x01 ∷ 0x02 ∷ 0x01 ∷ 0x04 ∷ 0x01 ∷ 0x02 ∷ 0x01 ∷ 0x00 ∷ 0x04 ∷ 0x04 ∷ 0x00 ∷ 0x80 ∷ []) ∷ [])
    ∷ []
    ∷ (SendAt 1348447744 (0x01 ∷ 0x02 ∷ 0x03 ∷ 0x04 ∷ 0x01 ∷ 0x02 ∷ 0x01 ∷ 0x00 ∷ 0x04 ∷ 0x04 ∷ 0x00 ∷ 0x80 ∷ []) ∷ [])
    ∷ (Off ∷ [])
    ∷ (Off ∷ AlarmAt 1484800000 ∷ [])
    ∷ (Off ∷ AlarmAt 1740800000 ∷ [])
    ∷ (Off ∷ AlarmAt 1996800000 ∷ [])
    ∷ (Off ∷ AlarmAt 2252800000 ∷ [])
    ∷ (Off ∷ AlarmAt 2368000000 ∷ [])
    ∷ []

joins : orders_of_each other (rebooted 1) joining_calls ≡ joining_orders
unfolding least_passing digits packed_number schedule_of asks_in schedule_heard
joins = refl

abbrev joined : Node
joined = after_calls other (rebooted 1) joining_calls

holds_nine : joined.core.tune ≡ Hold 0 9
unfolding least_passing digits packed_number schedule_of asks_in schedule_heard
holds_nine = refl

-- the whole round of frame 9 at this synchronized member: it sends its packet in slot 1, and has no other
abbrev round_calls : List Call
round_calls =
    Step 2368000000 Alarm
    ∷ Step 2368104960 (Heard (0x01 ∷ 0x00 ∷ 0x00 ∷ 0x00 ∷ 0x01 ∷ 0x02 ∷ 0x01 ∷ 0x00 ∷ 0x04 ∷ 0x04 ∷ 0x00 ∷ 0x80 ∷ []))
    ∷ Step 2368158208 Sent
    ∷ Step 2368211456 (Heard (0x01 ∷ 0x00 ∷ 0x02 ∷ 0x00 ∷ 0x01 ∷ 0x02 ∷ 0x01 ∷ 0x00 ∷ 0x04 ∷ 0x04 ∷ 0x00 ∷ 0x80 ∷ []))
    ∷ Step 2368264704 Sent
    ∷ Step 2370096000 Alarm
    ∷ Step 2370112000 Alarm
    ∷ Step 2370210816 Sent
    ∷ Step 2370257920 (Heard (0x02 ∷ 0x01 ∷ 0x01 ∷ 0x02 ∷ 0x01 ∷ 0x00 ∷ 0x00 ∷ 0x00 ∷ 0xaa ∷ []))
    ∷ Step 2370305024 Sent
    ∷ Step 2372208000 Alarm
    ∷ Step 2372224000 Alarm
    ∷ Step 2374320000 Alarm
    ∷ Step 2374336000 Alarm
    ∷ Step 2376432000 Alarm
    ∷ Step 2376448000 Alarm
    ∷ Step 2378544000 Alarm
    ∷ Step 2378560000 Alarm
    ∷ Step 2380656000 Alarm
    ∷ Step 2380672000 Alarm
    ∷ Step 2380776960 (Heard (0x01 ∷ 0x06 ∷ 0x00 ∷ 0x04 ∷ 0x01 ∷ 0x00 ∷ 0x00 ∷ 0x00 ∷ 0x00 ∷ 0x04 ∷ 0x00 ∷ 0x80 ∷ []))
    ∷ Step 2380830208 Sent
    ∷ Step 2380883456 (Heard (0x01 ∷ 0x06 ∷ 0x02 ∷ 0x04 ∷ 0x01 ∷ 0x00 ∷ 0x00 ∷ 0x00 ∷ 0x00 ∷ 0x04 ∷ 0x00 ∷ 0x80 ∷ []))
    ∷ Step 2380936704 Sent
    ∷ Step 2382768000 Alarm
    ∷ []

abbrev round_orders : List (List Order)
round_orders =
    (Listen 0 ∷ AlarmAt 2370096000 ∷ [])
    ∷ (SendAt 2368117248 (0x01 ∷ 0x00 ∷ 0x01 ∷ 0x00 ∷ 0x01 ∷ 0x02 ∷ 0x01 ∷ 0x00 ∷ 0x04 ∷ 0x04 ∷ 0x00 ∷ 0x80 ∷ []) ∷ [])
    ∷ []
    ∷ (SendAt 2368223744 (0x01 ∷ 0x00 ∷ 0x03 ∷ 0x00 ∷ 0x01 ∷ 0x02 ∷ 0x01 ∷ 0x00 ∷ 0x04 ∷ 0x04 ∷ 0x00 ∷ 0x80 ∷ []) ∷ [])
    ∷ (Off ∷ [])
    ∷ (Off ∷ AlarmAt 2370112000 ∷ [])
    ∷ (Listen 0 ∷ SendAt 2370176000 (0x02 ∷ 0x01 ∷ 0x00 ∷ 0x02 ∷ 0x01 ∷ 0x00 ∷ 0x00 ∷ 0x00 ∷ 0xaa ∷ []) ∷ AlarmAt 2372208000 ∷ [])
    ∷ []
    ∷ (SendAt 2370270208 (0x02 ∷ 0x01 ∷ 0x02 ∷ 0x02 ∷ 0x01 ∷ 0x00 ∷ 0x00 ∷ 0x00 ∷ 0xaa ∷ []) ∷ [])
    ∷ (Off ∷ [])
    ∷ (Off ∷ AlarmAt 2372224000 ∷ [])
    ∷ (Listen 0 ∷ AlarmAt 2374320000 ∷ [])
    ∷ (Off ∷ AlarmAt 2374336000 ∷ [])
    ∷ (Listen 0 ∷ AlarmAt 2376432000 ∷ [])
    ∷ (Off ∷ AlarmAt 2376448000 ∷ [])
    ∷ (Listen 0 ∷ AlarmAt 2378544000 ∷ [])
    ∷ (Off ∷ AlarmAt 2378560000 ∷ [])
    ∷ (Listen 0 ∷ AlarmAt 2380656000 ∷ [])
    ∷ (Off ∷ AlarmAt 2380672000 ∷ [])
    ∷ (Listen 0 ∷ AlarmAt 2382768000 ∷ [])
    ∷ (SendAt 2380789248 (0x01 ∷ 0x06 ∷ 0x01 ∷ 0x04 ∷ 0x01 ∷ 0x00 ∷ 0x00 ∷ 0x00 ∷ 0x00 ∷ 0x04 ∷ 0x00 ∷ 0x80 ∷ []) ∷ [])
    ∷ []
    ∷ (SendAt 2380895744 (0x01 ∷ 0x06 ∷ 0x03 ∷ 0x04 ∷ 0x01 ∷ 0x00 ∷ 0x00 ∷ 0x00 ∷ 0x00 ∷ 0x04 ∷ 0x00 ∷ 0x80 ∷ []) ∷ [])
    ∷ (Off ∷ [])
    ∷ (Off ∷ AlarmAt 2508800000 ∷ [])
    ∷ []

holds_a_round : orders_of_each other joined round_calls ≡ round_orders
unfolding least_passing digits packed_number schedule_of asks_in schedule_heard
holds_a_round = refl

-- an own transmission that ends without having been ordered fits no row
sent_alone : orders_of_each other (rebooted 1) (Step 0 Boot ∷ Step 1 Sent ∷ []) ≡ (Listen 0 ∷ AlarmAt 204800000 ∷ []) ∷ [] ∷ []
sent_alone = refl

-- a node that received nothing of frame 5 but its closing relays it, and waits for the round that is 4 frames later
abbrev late_calls : List Call
late_calls =
    Step 0 Boot
    ∷ Step 204800000 Alarm
    ∷ Step 460800000 Alarm
    ∷ Step 716800000 Alarm
    ∷ Step 972800000 Alarm
    ∷ Step 1228800000 Alarm
    ∷ Step 1348324864 (Heard (0x01 ∷ 0x02 ∷ 0x00 ∷ 0x04 ∷ 0x01 ∷ 0x00 ∷ 0x00 ∷ 0x00 ∷ 0x00 ∷ 0x00 ∷ []))
    ∷ Step 1348374016 Sent
    ∷ Step 1350320000 Alarm
    ∷ Step 1484800000 Alarm
    ∷ Step 1740800000 Alarm
    ∷ Step 1996800000 Alarm
    ∷ Step 2252800000 Alarm
    ∷ []

abbrev late_orders : List (List Order)
late_orders =
    (Listen 0 ∷ AlarmAt 204800000 ∷ [])
    ∷ (Listen 0 ∷ AlarmAt 460800000 ∷ [])
    ∷ (Listen 0 ∷ AlarmAt 716800000 ∷ [])
    ∷ (Listen 0 ∷ AlarmAt 972800000 ∷ [])
    ∷ (Listen 0 ∷ AlarmAt 1228800000 ∷ [])
    ∷ (Listen 0 ∷ AlarmAt 1484800000 ∷ [])
    ∷ (SendAt 1348337152 (0x01 ∷ 0x02 ∷ 0x01 ∷ 0x04 ∷ 0x01 ∷ 0x00 ∷ 0x00 ∷ 0x00 ∷ 0x00 ∷ 0x00 ∷ []) ∷ AlarmAt 1350320000 ∷ [])
    ∷ []
    ∷ (Off ∷ AlarmAt 1484800000 ∷ [])
    ∷ (Off ∷ AlarmAt 1740800000 ∷ [])
    ∷ (Off ∷ AlarmAt 1996800000 ∷ [])
    ∷ (Off ∷ AlarmAt 2252800000 ∷ [])
    ∷ (Off ∷ AlarmAt 2368000000 ∷ [])
    ∷ []

joins_late : orders_of_each other (rebooted 1) late_calls ≡ late_orders
unfolding least_passing digits packed_number schedule_of asks_in schedule_heard
joins_late = refl

-- a schedule of a rank that is not scanned fits no row, nor does a packet that is no schedule; in a window the first is
-- ignored, and the schedule of the node's own rank is still the first that it accepts
abbrev opening_of_one : List ℕ
opening_of_one = 0x01 ∷ 0x00 ∷ 0x00 ∷ 0x10 ∷ 0x01 ∷ 0x00 ∷ 0x00 ∷ 0x00 ∷ 0x00 ∷ 0x00 ∷ []

not_scanned : orders_of_each other (rebooted 1)
    (Step 0 Boot ∷ Step 1100864 (Heard opening_of_one) ∷ Step 1200864 (Heard (0x03 ∷ 0x01 ∷ 0x01 ∷ 0x02 ∷ 0x01 ∷ 0x00 ∷ 0x04 ∷ [])) ∷ [])
    ≡ (Listen 0 ∷ AlarmAt 204800000 ∷ []) ∷ [] ∷ [] ∷ []
unfolding least_passing digits packed_number schedule_of asks_in schedule_heard
not_scanned = refl

ignored : orders_of_each other joined
    (Step 2368000000 Alarm ∷ Step 2368100864 (Heard opening_of_one)
    ∷ Step 2368211456 (Heard (0x01 ∷ 0x00 ∷ 0x02 ∷ 0x00 ∷ 0x01 ∷ 0x02 ∷ 0x01 ∷ 0x00 ∷ 0x04 ∷ 0x04 ∷ 0x00 ∷ 0x80 ∷ [])) ∷ [])
    ≡ (Listen 0 ∷ AlarmAt 2370096000 ∷ [])
    ∷ []
    ∷ (SendAt 2368223744 (0x01 ∷ 0x00 ∷ 0x03 ∷ 0x00 ∷ 0x01 ∷ 0x02 ∷ 0x01 ∷ 0x00 ∷ 0x04 ∷ 0x04 ∷ 0x00 ∷ 0x80 ∷ []) ∷ [])
    ∷ []
unfolding least_passing digits packed_number schedule_of asks_in schedule_heard
ignored = refl
