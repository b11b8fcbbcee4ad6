-- The trail of the host in the worked rounds of one packet: the device before each tick at which something happens, each with
-- the windows of the trail so far.
use Rattle.std.specs.Prelude.{true, false, None, Some, List, [], ◌∷◌}
use Rattle.air_log.specs.WindowLogs.{WindowLog}
use Rattle.air_log.specs.Devices.{Device}
use Rattle.air_log.specs.FirstRound.{opening_with}
use Rattle.law_trails.specs.DueDevices.{DueDevice, before}
use Rattle.law_trails.specs.OnePacket.{request_with, grant_with, reopening_with, data_with, data_closing_with, opening_0, opening_2, request_1, request_3}
use Rattle.law_trails.specs.OnePacket.{grant_0, grant_2, reopening_0, data_1, data_3, closing_0, closing_2}
use Rattle.law_trails.specs.OnePacketNodes.{since, to_send, made_by_host, delivered, device, rests}
use Rattle.law_trails.specs.OnePacketHostNodes.{scanning, awaits_5_0, floods_5_0, awaits_5_1, listens_5_1, floods_5_1, awaits_5_2, floods_5_2, waits_for_9}
use Rattle.law_trails.specs.OnePacketHostNodes.{awaits_9_0, floods_9_0, awaits_9_1, listens_9_1, floods_9_1, awaits_9_2, listens_9_2, awaits_9_3, listens_9_3}
use Rattle.law_trails.specs.OnePacketHostNodes.{awaits_9_4, listens_9_4, awaits_9_5, listens_9_5, awaits_9_6, floods_9_6, waits_for_13}

-- devices by the place of their tick
abbrev pub host_0 : List WindowLog → Device
host_0 w = rests w

abbrev pub host_62 : List WindowLog → Device
host_62 w = device (waits_for_13 12) None (Some 3276734466) None None (made_by_host 11 0 delivered w)

-- a row for each due tick, and the end of the run
abbrev pub host_dues : List DueDevice
host_dues =
    before 0 host_0
    ∷ before 204795905 (λ w. device (scanning 0) (Some (since 0)) (Some 204795905) None None (made_by_host 0 11 [] w))
    ∷ before 460790785 (λ w. device (scanning 1) (Some (since 0)) (Some 460790785) None None (made_by_host 0 11 [] w))
    ∷ before 716785665 (λ w. device (scanning 2) (Some (since 0)) (Some 716785665) None None (made_by_host 0 11 [] w))
    ∷ before 972780545 (λ w. device (scanning 3) (Some (since 0)) (Some 972780545) None None (made_by_host 0 11 [] w))
    ∷ before 1228775425 (λ w. device (scanning 4) (Some (since 0)) (Some 1228775425) None None (made_by_host 0 11 [] w))
    ∷ before 1343973121 (λ w. device awaits_5_0 None (Some 1343973121) None None (made_by_host 0 10 [] w))
    ∷ before 1344037120 (λ w. device (floods_5_0 0 true)
    (Some (since 1343973121)) (Some 1346069079) (Some (to_send 1344037120 (opening_with 0))) None (made_by_host 0 10 [] w))
    ∷ before 1344073984 (λ w. device (floods_5_0 0 true) (Some (since 1343973121)) (Some 1346069079) None (Some opening_0) (made_by_host 1 10 [] w))
    ∷ before 1344123136 (λ w. device (floods_5_0 1 false) (Some (since 1343973121)) (Some 1346069079) None None (made_by_host 1 10 [] w))
    ∷ before 1344135424 (λ w. device (floods_5_0 1 true)
    (Some (since 1343973121)) (Some 1346069079) (Some (to_send 1344135424 (opening_with 2))) None (made_by_host 1 10 [] w))
    ∷ before 1344172288 (λ w. device (floods_5_0 1 true) (Some (since 1343973121)) (Some 1346069079) None (Some opening_2) (made_by_host 2 10 [] w))
    ∷ before 1346069079 (λ w. device (floods_5_0 2 false) None (Some 1346069079) None None (made_by_host 2 9 [] w))
    ∷ before 1346085079 (λ w. device awaits_5_1 None (Some 1346085079) None None (made_by_host 2 9 [] w))
    ∷ before 1346179881 (λ w. device listens_5_1 (Some (since 1346085079)) (Some 1348181037) None None (made_by_host 2 9 [] w))
    ∷ before 1346192169 (λ w. device (floods_5_1 0 true)
    (Some (since 1346085079)) (Some 1348181037) (Some (to_send 1346192169 (request_with 1))) None (made_by_host 2 9 [] w))
    ∷ before 1346222889 (λ w. device (floods_5_1 0 true) (Some (since 1346085079)) (Some 1348181037) None (Some request_1) (made_by_host 3 9 [] w))
    ∷ before 1346265897 (λ w. device (floods_5_1 1 false) (Some (since 1346085079)) (Some 1348181037) None None (made_by_host 3 9 [] w))
    ∷ before 1346278185 (λ w. device (floods_5_1 1 true)
    (Some (since 1346085079)) (Some 1348181037) (Some (to_send 1346278185 (request_with 3))) None (made_by_host 3 9 [] w))
    ∷ before 1346308905 (λ w. device (floods_5_1 1 true) (Some (since 1346085079)) (Some 1348181037) None (Some request_3) (made_by_host 4 9 [] w))
    ∷ before 1348181037 (λ w. device (floods_5_1 2 false) None (Some 1348181037) None None (made_by_host 4 8 [] w))
    ∷ before 1348197037 (λ w. device awaits_5_2 None (Some 1348197037) None None (made_by_host 4 8 [] w))
    ∷ before 1348261035 (λ w. device (floods_5_2 0 true)
    (Some (since 1348197037)) (Some 1350292995) (Some (to_send 1348261035 (grant_with 0))) None (made_by_host 4 8 [] w))
    ∷ before 1348301995 (λ w. device (floods_5_2 0 true) (Some (since 1348197037)) (Some 1350292995) None (Some grant_0) (made_by_host 5 8 [] w))
    ∷ before 1348355243 (λ w. device (floods_5_2 1 false) (Some (since 1348197037)) (Some 1350292995) None None (made_by_host 5 8 [] w))
    ∷ before 1348367531 (λ w. device (floods_5_2 1 true)
    (Some (since 1348197037)) (Some 1350292995) (Some (to_send 1348367531 (grant_with 2))) None (made_by_host 5 8 [] w))
    ∷ before 1348408491 (λ w. device (floods_5_2 1 true) (Some (since 1348197037)) (Some 1350292995) None (Some grant_2) (made_by_host 6 8 [] w))
    ∷ before 1350292995 (λ w. device (floods_5_2 2 false) None (Some 1350292995) None None (made_by_host 6 7 [] w))
    ∷ before 1484770305 (λ w. device (waits_for_9 5) None (Some 1484770305) None None (made_by_host 6 7 [] w))
    ∷ before 1740765185 (λ w. device (waits_for_9 6) None (Some 1740765185) None None (made_by_host 6 7 [] w))
    ∷ before 1996760065 (λ w. device (waits_for_9 7) None (Some 1996760065) None None (made_by_host 6 7 [] w))
    ∷ before 2252754945 (λ w. device (waits_for_9 8) None (Some 2252754945) None None (made_by_host 6 7 [] w))
    ∷ before 2367952641 (λ w. device awaits_9_0 None (Some 2367952641) None None (made_by_host 6 7 [] w))
    ∷ before 2368016640 (λ w. device (floods_9_0 0 true)
    (Some (since 2367952641)) (Some 2370048600) (Some (to_send 2368016640 (reopening_with 0))) None (made_by_host 6 7 [] w))
    ∷ before 2368057600 (λ w. device (floods_9_0 0 true) (Some (since 2367952641)) (Some 2370048600) None (Some reopening_0) (made_by_host 7 7 [] w))
    ∷ before 2370048600 (λ w. device (floods_9_0 1 false) (Some (since 2367952641)) (Some 2370048600) None None (made_by_host 7 7 [] w))
    ∷ before 2370064599 (λ w. device awaits_9_1 None (Some 2370064599) None None (made_by_host 7 6 [] w))
    ∷ before 2370163497 (λ w. device listens_9_1 (Some (since 2370064599)) (Some 2372160557) None None (made_by_host 7 6 [] w))
    ∷ before 2370175785 (λ w. device (floods_9_1 0 true)
    (Some (since 2370064599)) (Some 2372160557) (Some (to_send 2370175785 (data_with 1))) None (made_by_host 7 6 [] w))
    ∷ before 2370210601 (λ w. device (floods_9_1 0 true) (Some (since 2370064599)) (Some 2372160557) None (Some data_1) (made_by_host 8 6 [] w))
    ∷ before 2370257705 (λ w. device (floods_9_1 1 false) (Some (since 2370064599)) (Some 2372160557) None None (made_by_host 8 6 [] w))
    ∷ before 2370269993 (λ w. device (floods_9_1 1 true)
    (Some (since 2370064599)) (Some 2372160557) (Some (to_send 2370269993 (data_with 3))) None (made_by_host 8 6 [] w))
    ∷ before 2370304809 (λ w. device (floods_9_1 1 true) (Some (since 2370064599)) (Some 2372160557) None (Some data_3) (made_by_host 9 6 [] w))
    ∷ before 2372160557 (λ w. device (floods_9_1 2 false) None (Some 2372160557) None None (made_by_host 9 5 [] w))
    ∷ before 2372176557 (λ w. device awaits_9_2 None (Some 2372176557) None None (made_by_host 9 5 delivered w))
    ∷ before 2374272515 (λ w. device listens_9_2 (Some (since 2372176557)) (Some 2374272515) None None (made_by_host 9 5 delivered w))
    ∷ before 2374288515 (λ w. device awaits_9_3 None (Some 2374288515) None None (made_by_host 9 4 delivered w))
    ∷ before 2376384473 (λ w. device listens_9_3 (Some (since 2374288515)) (Some 2376384473) None None (made_by_host 9 4 delivered w))
    ∷ before 2376400472 (λ w. device awaits_9_4 None (Some 2376400472) None None (made_by_host 9 3 delivered w))
    ∷ before 2378496431 (λ w. device listens_9_4 (Some (since 2376400472)) (Some 2378496431) None None (made_by_host 9 3 delivered w))
    ∷ before 2378512430 (λ w. device awaits_9_5 None (Some 2378512430) None None (made_by_host 9 2 delivered w))
    ∷ before 2380608388 (λ w. device listens_9_5 (Some (since 2378512430)) (Some 2380608388) None None (made_by_host 9 2 delivered w))
    ∷ before 2380624388 (λ w. device awaits_9_6 None (Some 2380624388) None None (made_by_host 9 1 delivered w))
    ∷ before 2380688387 (λ w. device (floods_9_6 0 true)
    (Some (since 2380624388)) (Some 2382720346) (Some (to_send 2380688387 (data_closing_with 0))) None (made_by_host 9 1 delivered w))
    ∷ before 2380729347 (λ w. device (floods_9_6 0 true) (Some (since 2380624388)) (Some 2382720346) None (Some closing_0) (made_by_host 10 1 delivered w))
    ∷ before 2380782595 (λ w. device (floods_9_6 1 false) (Some (since 2380624388)) (Some 2382720346) None None (made_by_host 10 1 delivered w))
    ∷ before 2380794883 (λ w. device (floods_9_6 1 true)
    (Some (since 2380624388)) (Some 2382720346) (Some (to_send 2380794883 (data_closing_with 2))) None (made_by_host 10 1 delivered w))
    ∷ before 2380835843 (λ w. device (floods_9_6 1 true) (Some (since 2380624388)) (Some 2382720346) None (Some closing_2) (made_by_host 11 1 delivered w))
    ∷ before 2382720346 (λ w. device (floods_9_6 2 false) None (Some 2382720346) None None (made_by_host 11 0 delivered w))
    ∷ before 2508749826 (λ w. device (waits_for_13 9) None (Some 2508749826) None None (made_by_host 11 0 delivered w))
    ∷ before 2764744706 (λ w. device (waits_for_13 10) None (Some 2764744706) None None (made_by_host 11 0 delivered w))
    ∷ before 3020739586 (λ w. device (waits_for_13 11) None (Some 3020739586) None None (made_by_host 11 0 delivered w))
    ∷ before 3072000000 host_62
    ∷ []
