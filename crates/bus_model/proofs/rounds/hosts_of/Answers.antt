use Rattle.std.proofs.Common.{length, ap, arith}
use Rattle.plain_bus.proofs.SoundOver.{sound_over}
use Rattle.bus_model.proofs.rounds.hosts_of.Goals as goal

pub overflow_cast-result : goal.overflow_cast-result
overflow_cast-result g c = (let few = (sound_over c.args.s.now c.hosts.ensures.said).few_hosts in omega (arith, few, ap length c.hosts.ensures.value))

pub returns-clause-few : goal.returns-clause-few
returns-clause-few g c = (let few = (sound_over c.args.s.now c.hosts.ensures.said).few_hosts in omega (arith, few, ap length c.hosts.ensures.value))
