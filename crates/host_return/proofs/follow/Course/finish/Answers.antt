use Rattle.std.proofs.Common.{ℕ, List, ap, ◌∙◌}
use Rattle.host_return.proofs.follow.Course.finish.Goals as goal

pub counts_of-requires : goal.counts_of-requires
counts_of-requires c = (c.args.self.air, c.deref.ensures.value ∙ c.requires)

pub returns : goal.returns
returns c =
    let k = c.args.self in
    ap (λ (cs : List (ℕ × ℕ)). record { scenario = k.scenario; returns = k.returns.items; air = k.air; counts = cs })
    (c.in_ok-counts.ensures k.air (c.deref.ensures.value ∙ c.requires))
