use Rattle.std.proofs.Common.{◌≡◌, ◌++◌, ◌∷◌, [], rules, ◌∙◌}
use Rattle.lwb_flood.specs.FloodWorlds.{first_member}
use Rattle.lwb_base.proofs.Elements.{map_pushed}
use Rattle.lwb_flood.proofs.flood_beginning.members.Goals as goal

pub loop-line-preserved : goal.loop-line-preserved
loop-line-preserved c =
    let pushed : c.push.new.self.items ≡ c.loop-line.members.items ++ c.first_member-member.result ∷ [] = search rules in
    pushed
    ∙ map_pushed
    (first_member c.args.f.now) c.nodes-line-items.result.now c.loop-line.line-index c.line-item.result c.loop-line.members.items
    c.first_member-member.result c.loop-line-test.true c.line-item.is c.loop-line.invariant (c.first_member-member.ensures c.line-item.result.offset)
