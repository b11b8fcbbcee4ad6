use Rattle.std.proofs.Common.{length, ap, arith}
use Rattle.scenario_text.proofs.SoundScenarios.{sound}
use Rattle.plain_bus.proofs.network.new_node.Goals as goal

pub rank_of-own-requires : goal.rank_of-own-requires
rank_of-own-requires c = (let few = (sound c.args.s.now c.profile-profile.ensures.said).few_hosts in omega (arith, few, ap length c.hosts-hosts.ensures.value))

pub overflow_cast-hosts : goal.overflow_cast-hosts
overflow_cast-hosts c = (let few = (sound c.args.s.now c.profile-profile.ensures.said).few_hosts in omega (arith, few, ap length c.hosts-hosts.ensures.value))

pub new-requires-clause-ranks : goal.new-requires-clause-ranks
new-requires-clause-ranks c =
    let sound_one = sound c.args.s.now c.profile-profile.ensures.said in
    let few = sound_one.few_hosts in
    let some = sound_one.some_hosts in
    omega (arith, few, some, ap length c.hosts-hosts.ensures.value)

pub new-requires-clause-sends : goal.new-requires-clause-sends
new-requires-clause-sends c =
    let sound_one = sound c.args.s.now c.profile-profile.ensures.said in
    let few = sound_one.few_sends in
    let some = sound_one.some_sends in
    omega (arith, few, some, c.sends.ensures)
