use Rattle.std.proofs.Common.{drop}
use Rattle.air_log.proofs.DeviceChanges.{shown_still}
use Rattle.air_log.proofs.DeviceOrders.{AreObeyed, none_obeyed, timely_at, obeyed_at, none_at, none_after}
use Rattle.air_log.proofs.device.Device.obey_all.Given.{Over}
use Rattle.air_log.proofs.device.Device.obey_all.Goals as goal
use Rattle.air_log.proofs.device.Device.obey_all.Goals.{After-obey, After-obey-2, After-obey-3, After-obey-4}

-- this many orders have been obeyed
one : (g : Over) (c : After-obey g)
    → AreObeyed (g.C.DriftClock.readings c.args.clock.now) c.args.t c.args.radio.now.given (drop 1 c.args.radio.now.given) c.args.self.now c.obey.new.self
one g c =
    let clock = g.C.DriftClock.readings c.args.clock.now in
    let given = c.args.radio.now.given in
    obeyed_at clock c.args.t given 0 c.at.result c.in-Some.first c.args.self.now c.args.self.now c.obey.new.self c.at.ensures.order c.in-Some.is
    (none_obeyed clock c.args.t given c.args.self.now c.requires.timely) c.obey.ensures

two : (g : Over) (c : After-obey-2 g)
    → AreObeyed (g.C.DriftClock.readings c.args.clock.now) c.args.t c.args.radio.now.given (drop 1 c.args.radio.now.given) c.args.self.now c.obey.new.self
    → AreObeyed (g.C.DriftClock.readings c.args.clock.now) c.args.t c.args.radio.now.given (drop 2 c.args.radio.now.given) c.args.self.now c.obey-2.new.self
two g c so =
    let clock = g.C.DriftClock.readings c.args.clock.now in
    let given = c.args.radio.now.given in
    obeyed_at clock c.args.t given 1 c.at-2.result c.in-Some-at.second c.args.self.now c.obey.new.self c.obey-2.new.self c.at-2.ensures.order c.in-Some-at.is
    so c.obey-2.ensures

three : (g : Over) (c : After-obey-3 g)
    → AreObeyed (g.C.DriftClock.readings c.args.clock.now) c.args.t c.args.radio.now.given (drop 2 c.args.radio.now.given) c.args.self.now c.obey-2.new.self
    → AreObeyed (g.C.DriftClock.readings c.args.clock.now) c.args.t c.args.radio.now.given (drop 3 c.args.radio.now.given) c.args.self.now c.obey-3.new.self
three g c so =
    let clock = g.C.DriftClock.readings c.args.clock.now in
    let given = c.args.radio.now.given in
    obeyed_at clock c.args.t given 2 c.at-3.result c.in-Some-at-2.third c.args.self.now c.obey-2.new.self c.obey-3.new.self c.at-3.ensures.order
    c.in-Some-at-2.is so c.obey-3.ensures

four : (g : Over) (c : After-obey-4 g)
    → AreObeyed (g.C.DriftClock.readings c.args.clock.now) c.args.t c.args.radio.now.given (drop 3 c.args.radio.now.given) c.args.self.now c.obey-3.new.self
    → AreObeyed (g.C.DriftClock.readings c.args.clock.now) c.args.t c.args.radio.now.given (drop 4 c.args.radio.now.given) c.args.self.now c.obey-4.new.self
four g c so =
    let clock = g.C.DriftClock.readings c.args.clock.now in
    let given = c.args.radio.now.given in
    obeyed_at clock c.args.t given 3 c.at-4.result c.in-Some-at-3.fourth c.args.self.now c.obey-3.new.self c.obey-4.new.self c.at-4.ensures.order
    c.in-Some-at-3.is so c.obey-4.ensures

pub returns-in_default : goal.returns-in_default
returns-in_default g c =
    let clock = g.C.DriftClock.readings c.args.clock.now in
    let given = c.args.radio.now.given in
    none_at clock c.args.t given 0 c.at.result c.args.self.now c.args.self.now c.at.ensures.order c.in_default.is
    (none_obeyed clock c.args.t given c.args.self.now c.requires.timely)

pub returns-in_default-at : goal.returns-in_default-at
returns-in_default-at g c =
    let back = goal.at.returns-in_default-at g c in
    let clock = g.C.DriftClock.readings c.args.clock.now in
    let given = c.args.radio.now.given in
    none_at clock c.args.t given 1 c.at-2.result c.args.self.now c.obey.new.self c.at-2.ensures.order c.in_default-at.is (one g back.After-obey)

pub returns-in_default-at-2 : goal.returns-in_default-at-2
returns-in_default-at-2 g c =
    let back = goal.at.returns-in_default-at-2 g c in
    let clock = g.C.DriftClock.readings c.args.clock.now in
    let given = c.args.radio.now.given in
    none_at clock c.args.t given 2 c.at-3.result c.args.self.now c.obey-2.new.self c.at-3.ensures.order c.in_default-at-2.is
    (two g back.After-obey-2 (one g back.After-obey))

pub returns-in_default-at-3 : goal.returns-in_default-at-3
returns-in_default-at-3 g c =
    let back = goal.at.returns-in_default-at-3 g c in
    let clock = g.C.DriftClock.readings c.args.clock.now in
    let given = c.args.radio.now.given in
    none_at clock c.args.t given 3 c.at-4.result c.args.self.now c.obey-3.new.self c.at-4.ensures.order c.in_default-at-3.is
    (three g back.After-obey-3 (two g back.After-obey-2 (one g back.After-obey)))

pub obey-requires-2-clause-shown : goal.obey-requires-2-clause-shown
obey-requires-2-clause-shown g c =
    let back = goal.at.obey-requires-2-clause-shown g c in
    shown_still _ _ _ _ _ (one g back.After-obey).goes c.requires.shown

pub obey-requires-3-clause-shown : goal.obey-requires-3-clause-shown
obey-requires-3-clause-shown g c =
    let back = goal.at.obey-requires-3-clause-shown g c in
    shown_still _ _ _ _ _ (two g back.After-obey-2 (one g back.After-obey)).goes c.requires.shown

pub obey-requires-4-clause-shown : goal.obey-requires-4-clause-shown
obey-requires-4-clause-shown g c =
    let back = goal.at.obey-requires-4-clause-shown g c in
    shown_still _ _ _ _ _ (three g back.After-obey-3 (two g back.After-obey-2 (one g back.After-obey))).goes c.requires.shown

pub obey-requires-4-clause-timely : goal.obey-requires-4-clause-timely
obey-requires-4-clause-timely g c =
    let back = goal.at.obey-requires-4-clause-timely g c in
    let clock = g.C.DriftClock.readings c.args.clock.now in
    let given = c.args.radio.now.given in
    timely_at clock c.args.t given 3 c.at-4.result c.in-Some-at-3.fourth c.args.self.now c.obey-3.new.self c.at-4.ensures.order c.in-Some-at-3.is
    (three g back.After-obey-3 (two g back.After-obey-2 (one g back.After-obey)))

pub returns : goal.returns
returns g c =
    let back = goal.at.returns g c in
    let clock = g.C.DriftClock.readings c.args.clock.now in
    let given = c.args.radio.now.given in
    none_after clock c.args.t given 4 c.args.self.now c.obey-4.new.self c.at.ensures.few
    (four g back.After-obey-4 (three g back.After-obey-3 (two g back.After-obey-2 (one g back.After-obey))))
