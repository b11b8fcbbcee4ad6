-- The trail of node 2 in the worked rounds of one packet: the device before each tick at which something happens, each
-- with the windows of the trail so far.
use Rattle.std.specs.Prelude.{true, false, None, Some, List, [], ◌∷◌, take, drop}
use Rattle.node_core.specs.declared.stage.Stage.TheVariants.{AwaitSlot}
use Rattle.air_log.specs.WindowLogs.{WindowLog}
use Rattle.air_log.specs.Devices.{Device}
use Rattle.air_log.specs.FirstRound.{opening_with, tuned_at}
use Rattle.law_trails.specs.DueDevices.{DueDevice, before}
use Rattle.law_trails.specs.OnePacket.{request_with, grant_with, reopening_with, data_with, data_closing_with, opening_1, opening_3, request_0, request_2}
use Rattle.law_trails.specs.OnePacket.{grant_1, grant_3, reopening_1, data_0, data_2, closing_1, closing_3, sent_by_member, tuned_by_member}
use Rattle.law_trails.specs.OnePacketNodes.{reopened, waiting, made_with, node, since, to_send, by_member, device, rests}
use Rattle.law_trails.specs.OnePacketMemberNodes.{scanning, floods_5_0, awaits_5_1, floods_5_1, awaits_5_2, listens_5_2, floods_5_2, rests_after_5, waits_for_9}
use Rattle.law_trails.specs.OnePacketMemberNodes.{awaits_9_0, listens_9_0, floods_9_0, floods_9_1, awaits_9_2, listens_9_2, awaits_9_3, listens_9_3, awaits_9_4}
use Rattle.law_trails.specs.OnePacketMemberNodes.{listens_9_4, awaits_9_5, listens_9_5, awaits_9_6, listens_9_6, floods_9_6, rests_after_9, waits_for_13}

-- devices by the place of their tick
abbrev pub member_0 : List WindowLog → Device
member_0 w = rests w

abbrev pub member_29 : List WindowLog → Device
member_29 w = device (waits_for_9 6) None (Some 1740834817) None None (by_member 6 6 w)

abbrev pub member_30 : List WindowLog → Device
member_30 w = device (waits_for_9 7) None (Some 1996839937) None None (by_member 6 6 w)

abbrev pub member_31 : List WindowLog → Device
member_31 w = device (waits_for_9 8) None (Some 2252845057) None None (by_member 6 6 w)

abbrev pub member_32 : List WindowLog → Device
member_32 w = device awaits_9_0 None (Some 2367993428) None None (by_member 6 6 w)

abbrev pub member_36 : List WindowLog → Device
member_36 w = device (floods_9_0 1 false) (Some (since 2367993428)) (Some 2370089470) None None (by_member 7 6 w)

abbrev pub member_37 : List WindowLog → Device
member_37 w = device (floods_9_1 0 true) (Some (since 2367993428)) (Some 2372160722) (Some (to_send 2370128681 (data_with 0))) None (by_member 7 6 w)

abbrev pub member_62 : List WindowLog → Device
member_62 w = device (waits_for_13 12) None (Some 3276865538) None None (by_member 11 0 w)

-- between its two alarms of tick 2370089470, as the window of slot 0 has closed and that of slot 1 opens late
abbrev pub member_late : List WindowLog → Device
member_late w =
    device (node (reopened waiting) 9 2367905278 (AwaitSlot 1)) None (Some 2370089470) None None
    (made_with (take 7 sent_by_member) (tuned_at 2 2367993428 2370089470 ∷ drop 6 tuned_by_member) [] w)

-- a row for each due tick, and the end of the run
abbrev pub member_dues : List DueDevice
member_dues =
    before 0 member_0
    ∷ before 204804097 (λ w. device (scanning 0) (Some (since 0)) (Some 204804097) None None (by_member 0 9 w))
    ∷ before 460809217 (λ w. device (scanning 1) (Some (since 0)) (Some 460809217) None None (by_member 0 9 w))
    ∷ before 716814337 (λ w. device (scanning 2) (Some (since 0)) (Some 716814337) None None (by_member 0 9 w))
    ∷ before 972819457 (λ w. device (scanning 3) (Some (since 0)) (Some 972819457) None None (by_member 0 9 w))
    ∷ before 1228824577 (λ w. device (scanning 4) (Some (since 0)) (Some 1228824577) None None (by_member 0 9 w))
    ∷ before 1344073984 (λ w. device (scanning 5) (Some (since 0)) (Some 1484829697) None None (by_member 0 9 w))
    ∷ before 1344086272 (λ w. device (floods_5_0 0 true) (Some (since 0)) (Some 1346069160) (Some (to_send 1344086272 (opening_with 1))) None (by_member 0 9 w))
    ∷ before 1344123136 (λ w. device (floods_5_0 0 true) (Some (since 0)) (Some 1346069160) None (Some opening_1) (by_member 1 9 w))
    ∷ before 1344172288 (λ w. device (floods_5_0 1 false) (Some (since 0)) (Some 1346069160) None None (by_member 1 9 w))
    ∷ before 1344184576 (λ w. device (floods_5_0 1 true) (Some (since 0)) (Some 1346069160) (Some (to_send 1344184576 (opening_with 3))) None (by_member 1 9 w))
    ∷ before 1344221440 (λ w. device (floods_5_0 1 true) (Some (since 0)) (Some 1346069160) None (Some opening_3) (by_member 2 9 w))
    ∷ before 1346069160 (λ w. device (floods_5_0 2 false) None (Some 1346069160) None None (by_member 2 8 w))
    ∷ before 1346085160 (λ w. device awaits_5_1 None (Some 1346085160) None None (by_member 2 8 w))
    ∷ before 1346149161 (λ w. device (floods_5_1 0 true)
    (Some (since 1346085160)) (Some 1348181202) (Some (to_send 1346149161 (request_with 0))) None (by_member 2 8 w))
    ∷ before 1346179881 (λ w. device (floods_5_1 0 true) (Some (since 1346085160)) (Some 1348181202) None (Some request_0) (by_member 3 8 w))
    ∷ before 1346222889 (λ w. device (floods_5_1 1 false) (Some (since 1346085160)) (Some 1348181202) None None (by_member 3 8 w))
    ∷ before 1346235177 (λ w. device (floods_5_1 1 true)
    (Some (since 1346085160)) (Some 1348181202) (Some (to_send 1346235177 (request_with 2))) None (by_member 3 8 w))
    ∷ before 1346265897 (λ w. device (floods_5_1 1 true) (Some (since 1346085160)) (Some 1348181202) None (Some request_2) (by_member 4 8 w))
    ∷ before 1348181202 (λ w. device (floods_5_1 2 false) None (Some 1348181202) None None (by_member 4 7 w))
    ∷ before 1348197202 (λ w. device awaits_5_2 None (Some 1348197202) None None (by_member 4 7 w))
    ∷ before 1348301995 (λ w. device listens_5_2 (Some (since 1348197202)) (Some 1350293244) None None (by_member 4 7 w))
    ∷ before 1348314283 (λ w. device (floods_5_2 0 true)
    (Some (since 1348197202)) (Some 1350293244) (Some (to_send 1348314283 (grant_with 1))) None (by_member 4 7 w))
    ∷ before 1348355243 (λ w. device (floods_5_2 0 true) (Some (since 1348197202)) (Some 1350293244) None (Some grant_1) (by_member 5 7 w))
    ∷ before 1348408491 (λ w. device (floods_5_2 1 false) (Some (since 1348197202)) (Some 1350293244) None None (by_member 5 7 w))
    ∷ before 1348420779 (λ w. device (floods_5_2 1 true)
    (Some (since 1348197202)) (Some 1350293244) (Some (to_send 1348420779 (grant_with 3))) None (by_member 5 7 w))
    ∷ before 1348461739 (λ w. device (floods_5_2 1 true) (Some (since 1348197202)) (Some 1350293244) None (Some grant_3) (by_member 6 7 w))
    ∷ before 1350293244 (λ w. device (floods_5_2 2 false) None (Some 1350293244) None None (by_member 6 6 w))
    ∷ before 1484829697 (λ w. device (rests_after_5 5) None (Some 1484829697) None None (by_member 6 6 w))
    ∷ before 1740834817 member_29
    ∷ before 1996839937 member_30
    ∷ before 2252845057 member_31
    ∷ before 2367993428 member_32
    ∷ before 2368057600 (λ w. device listens_9_0 (Some (since 2367993428)) (Some 2370089470) None None (by_member 6 6 w))
    ∷ before 2368069888 (λ w. device (floods_9_0 0 true)
    (Some (since 2367993428)) (Some 2370089470) (Some (to_send 2368069888 (reopening_with 1))) None (by_member 6 6 w))
    ∷ before 2368110848 (λ w. device (floods_9_0 0 true) (Some (since 2367993428)) (Some 2370089470) None (Some reopening_1) (by_member 7 6 w))
    ∷ before 2370089470 member_36
    ∷ before 2370128681 member_37
    ∷ before 2370163497 (λ w. device (floods_9_1 0 true) (Some (since 2367993428)) (Some 2372160722) None (Some data_0) (by_member 8 6 w))
    ∷ before 2370210601 (λ w. device (floods_9_1 1 false) (Some (since 2367993428)) (Some 2372160722) None None (by_member 8 6 w))
    ∷ before 2370222889 (λ w. device (floods_9_1 1 true)
    (Some (since 2367993428)) (Some 2372160722) (Some (to_send 2370222889 (data_with 2))) None (by_member 8 6 w))
    ∷ before 2370257705 (λ w. device (floods_9_1 1 true) (Some (since 2367993428)) (Some 2372160722) None (Some data_2) (by_member 9 6 w))
    ∷ before 2372160722 (λ w. device (floods_9_1 2 false) None (Some 2372160722) None None (by_member 9 5 w))
    ∷ before 2372176722 (λ w. device awaits_9_2 None (Some 2372176722) None None (by_member 9 5 w))
    ∷ before 2374272764 (λ w. device listens_9_2 (Some (since 2372176722)) (Some 2374272764) None None (by_member 9 5 w))
    ∷ before 2374288764 (λ w. device awaits_9_3 None (Some 2374288764) None None (by_member 9 4 w))
    ∷ before 2376384806 (λ w. device listens_9_3 (Some (since 2374288764)) (Some 2376384806) None None (by_member 9 4 w))
    ∷ before 2376400807 (λ w. device awaits_9_4 None (Some 2376400807) None None (by_member 9 3 w))
    ∷ before 2378496848 (λ w. device listens_9_4 (Some (since 2376400807)) (Some 2378496848) None None (by_member 9 3 w))
    ∷ before 2378512849 (λ w. device awaits_9_5 None (Some 2378512849) None None (by_member 9 2 w))
    ∷ before 2380608891 (λ w. device listens_9_5 (Some (since 2378512849)) (Some 2380608891) None None (by_member 9 2 w))
    ∷ before 2380624891 (λ w. device awaits_9_6 None (Some 2380624891) None None (by_member 9 1 w))
    ∷ before 2380729347 (λ w. device listens_9_6 (Some (since 2380624891)) (Some 2382720933) None None (by_member 9 1 w))
    ∷ before 2380741635 (λ w. device (floods_9_6 0 true)
    (Some (since 2380624891)) (Some 2382720933) (Some (to_send 2380741635 (data_closing_with 1))) None (by_member 9 1 w))
    ∷ before 2380782595 (λ w. device (floods_9_6 0 true) (Some (since 2380624891)) (Some 2382720933) None (Some closing_1) (by_member 10 1 w))
    ∷ before 2380835843 (λ w. device (floods_9_6 1 false) (Some (since 2380624891)) (Some 2382720933) None None (by_member 10 1 w))
    ∷ before 2380848131 (λ w. device (floods_9_6 1 true)
    (Some (since 2380624891)) (Some 2382720933) (Some (to_send 2380848131 (data_closing_with 3))) None (by_member 10 1 w))
    ∷ before 2380889091 (λ w. device (floods_9_6 1 true) (Some (since 2380624891)) (Some 2382720933) None (Some closing_3) (by_member 11 1 w))
    ∷ before 2382720933 (λ w. device (floods_9_6 2 false) None (Some 2382720933) None None (by_member 11 0 w))
    ∷ before 2508850178 (λ w. device (rests_after_9 9) None (Some 2508850178) None None (by_member 11 0 w))
    ∷ before 2764855298 (λ w. device (waits_for_13 10) None (Some 2764855298) None None (by_member 11 0 w))
    ∷ before 3020860418 (λ w. device (waits_for_13 11) None (Some 3020860418) None None (by_member 11 0 w))
    ∷ before 3072000000 member_62
    ∷ []
