use Rattle.world_engine.proofs.DeviceRetuned.{stays_tuned, is_tuned}
use Rattle.world_engine.proofs.field_follow.retune.Goals as goal

pub returns-then-is_same_channel : goal.returns-then-is_same_channel
returns-then-is_same_channel c =
    stays_tuned c.args.t c.args.node c.args.from c.args.to c.args.medium.now c.requires.time (c.is_same_channel.ensures c.if-is_same_channel.true)

pub returns : goal.returns
returns c =
    is_tuned c.args.t c.args.node c.args.from c.args.to c.tune.result c.args.medium.now c.tune.new.self c.tune.ensures.over c.tune.ensures.state
    c.requires.nodes c.requires.time
    c.tune.ensures.holds
