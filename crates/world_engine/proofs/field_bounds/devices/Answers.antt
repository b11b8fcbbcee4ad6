use Rattle.std.proofs.Common.{◌≡◌, ◌++◌, ◌∷◌, [], ◌∙◌, ap, rules, arith, length}
use Rattle.scenario_text.proofs.SoundOver.{over_sound}
use Rattle.scenario_text.specs.Setups.{setup_of}
use Rattle.lwb_base.proofs.Elements.{map_pushed}
use Rattle.world_engine.specs.FieldSteps.{first_device, nothing_counted}
use Rattle.world_engine.proofs.FirstField.{new_device}
use Rattle.world_engine.proofs.field_bounds.devices.Goals as goal

pub new-requires-clause-hosts : goal.new-requires-clause-hosts
new-requires-clause-hosts g c =
    let is = over_sound c.args.s.now c.profile-profile.ensures.said in
    omega (arith, is.some_hosts, is.few_hosts, ap length c.hosts.ensures.value)

pub new-requires-clause-sends : goal.new-requires-clause-sends
new-requires-clause-sends g c =
    let is = over_sound c.args.s.now c.profile-profile.ensures.said in
    omega (arith, is.some_sends, is.few_sends, c.sends.ensures)

pub loop-line-preserved : goal.loop-line-preserved
loop-line-preserved g c =
    let d = c.in_ok-device.device in
    let n = c.line-item.result in
    let pushed : c.push.new.self.items ≡ c.loop-line.devices.items ++ d ∷ [] = search rules in
    let profile = c.profile-profile.ensures.value in
    let hosts = c.hosts.ensures.value in
    let sends = c.sends.ensures in
    let windows : d.windows ≡ nothing_counted c.args.s.now = c.in_ok-device.ensures.windows ∙ search rules in
    let setup : d.setup ≡ setup_of c.args.s.now n.node = c.in_ok-device.ensures.setup ∙ search rules in
    pushed
    ∙ map_pushed
    (first_device c.args.s.now) c.nodes-line-items.result.now c.loop-line.line-index n c.loop-line.devices.items d c.loop-line-test.true
    c.line-item.is c.loop-line.invariant
    (new_device c.args.s.now n d setup c.in_ok-device.ensures.rest c.in_ok-device.ensures.idle c.in_ok-device.ensures.channel
    c.in_ok-device.ensures.delivery c.in_ok-device.ensures.core windows)
